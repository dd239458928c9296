-- What the parts of the reader do, in terms of the tokens of what is left of a text.
use Rattle.std.specs.Prelude.{◌≡◌, ℕ, ◌-◌, List, [], ◌∷◌, ◌++◌, Bool, true, false, if◌then◌else◌, Result, Ok, Err, MatchResult}
use Rattle.path_name.specs.Given.{◌>>=◌}
use Rattle.table_scan.specs.declared.stop.Stop.{Stop}
use Rattle.table_scan.specs.declared.stop.Stop.TheVariants.{Bad, OutOfMemory}
use Rattle.table_scan.specs.declared.mark.Mark.TheVariants as marks
use Rattle.table_scan.specs.TableTokens.{Token, Marked, Quoted, Number, Stray, Piece, End, Gap, Lexeme, Placed, left_of}
use Rattle.table_scan.specs.TableGrammar.{marked, vendor_name, before_folder, behind_folder, is_any, generation_of}
use Rattle.std.specs.Option.{ok_or}
use Rattle.table_scan.specs.declared.types.Mode.{Mode}
use Rattle.table_scan.specs.declared.types.State.{State}
use Rattle.table_scan.specs.declared.types.PrefixRow.{PrefixRow}
use Rattle.table_scan.specs.declared.types.ClassRow.{ClassRow}
use Rattle.table_scan.specs.declared.types.TableFile.{TableFile}
use Rattle.table_scan.specs.declared.types.TableFault.{TableFault}
use Rattle.table_scan.specs.declared.types.TableFault.TheVariants as faults
use Rattle.table_scan.specs.TableReading.{is_wanted, led_to, mode_of, before_mode, before_generation, front_from, folders_next, At_array, path_next, At_root, table_next, At_row}
use Rattle.table_scan.specs.TableFaults.{prefix_row, class_row}

-- it stops there, or memory ran out
abbrev pub Fails : {X : Type 0} → Stop → Result X ℕ → Type 0
Fails (Bad left) wanted = wanted ≡ Err left
Fails OutOfMemory wanted = Unit {0}

-- What is read, seen by a view, is what is wanted, or reading stops where the wanted one does.
abbrev pub Reads : {X Y : Type 0} → (X → Y) → Result Y ℕ → Result X Stop → Type 0
Reads view wanted result = MatchResult result (λ x. wanted ≡ Ok (view x)) (λ stop. Fails stop wanted)

-- the same of what takes no memory
abbrev pub StopsAt : {X : Type 0} → Stop → Result X ℕ → Type 0
StopsAt (Bad left) wanted = wanted ≡ Err left
StopsAt OutOfMemory wanted = ⊥

abbrev pub Stands : {X Y : Type 0} → (X → Y) → Result Y ℕ → Result X Stop → Type 0
Stands view wanted result = MatchResult result (λ x. wanted ≡ Ok (view x)) (λ stop. StopsAt stop wanted)

-- no gap stands at the front
abbrev pub IsNoGap : Piece → Type 0
IsNoGap End = Unit {0}
IsNoGap (Gap rest) = ⊥
IsNoGap (Lexeme token rest) = Unit {0}

abbrev pub behind_wanted : Bool → Placed → List Placed → Result (List Placed) ℕ
behind_wanted b t ts = if b then Ok ts else Err t.left

-- what follows a token that is wanted
abbrev pub token_at : Token → List Placed → Result (List Placed) ℕ
token_at wanted [] = Err 0
token_at wanted (t ∷ ts) = behind_wanted (is_wanted wanted t.token) t ts

abbrev pub tokens_at : List Token → List Placed → Result (List Placed) ℕ
tokens_at [] ts = Ok ts
tokens_at (wanted ∷ more) ts = token_at wanted ts >>= λ rest. tokens_at more rest

abbrev pub quoted_in : Token → Placed → List Placed → Result (List ℕ × List Placed) ℕ
quoted_in (Quoted text) t ts = Ok (text, ts)
quoted_in (Marked mark) t ts = Err t.left
quoted_in (Number digits) t ts = Err t.left
quoted_in Stray t ts = Err t.left

-- a quoted text, and what follows it
abbrev pub quoted_at : List Placed → Result (List ℕ × List Placed) ℕ
quoted_at [] = Err 0
quoted_at (t ∷ ts) = quoted_in t.token t ts

abbrev pub number_token : Token → Placed → List Placed → Result (List ℕ × List Placed) ℕ
number_token (Number digits) t ts = Ok (digits, ts)
number_token (Marked mark) t ts = Err t.left
number_token (Quoted text) t ts = Err t.left
number_token Stray t ts = Err t.left

-- a number's digits, and what follows them
abbrev pub number_at : List Placed → Result (List ℕ × List Placed) ℕ
number_at [] = Err 0
number_at (t ∷ ts) = number_token t.token t ts

abbrev pub root_token : List (List ℕ) → Token → Placed → List Placed → Result (List (List ℕ) × List Placed) ℕ
root_token project (Marked marks.VendorDir) t ts = Ok (project ++ vendor_name ∷ [], ts)
root_token project (Marked marks.BaseDir) t ts = Ok (project, ts)
root_token project _ t ts = Err t.left

-- the folder of a variable, and what follows it
abbrev pub root_at : List (List ℕ) → List Placed → Result (List (List ℕ) × List Placed) ℕ
root_at project [] = Err 0
root_at project (t ∷ ts) = root_token project t.token t ts

-- where a text leads from a folder; the text's token stands so many bytes before the end
abbrev pub Leads : List (List ℕ) → List ℕ → ℕ → Result (List (List ℕ)) Stop → Type 0
Leads from text left result = Reads (λ path. path) (ok_or (led_to from text) left) result

-- what stands behind an item
pub data Behind : Type 0 where
  More : (ts : List Placed) → Behind
  Last : (ts : List Placed) → Behind

abbrev pub separator_token : Token → Placed → List Placed → Result Behind ℕ
separator_token (Marked marks.Comma) t ts = Ok (More ts)
separator_token (Marked marks.Close) t ts = Ok (Last ts)
separator_token _ t ts = Err t.left

abbrev pub separator_at : List Placed → Result Behind ℕ
separator_at [] = Err 0
separator_at (t ∷ ts) = separator_token t.token t ts

abbrev pub if_allowed : Bool → ℕ → List ℕ × List Placed → Result (List ℕ × List Placed) ℕ
if_allowed true left read = Ok read
if_allowed false left read = Err left

-- a key that is allowed, and what follows it
abbrev pub key_at : (List ℕ → Bool) → List Placed → Result (List ℕ × List Placed) ℕ
key_at allowed ts = quoted_at ts >>= λ read. if_allowed (allowed read.0) (left_of ts) read

-- a row, and what follows it
abbrev pub row_at : {V R : Type 0} → (List ℕ → Bool) → (List ℕ → V → R) → (List Placed → Result (V × List Placed) ℕ) → List Placed → Result (R × List Placed) ℕ
row_at allowed make value ts = key_at allowed ts >>= λ key. token_at (Marked marks.Arrow) key.1 >>= λ rest. value rest >>= λ read. Ok (make key.0 read.0, read.1)

abbrev pub folder_token : Token → Placed → List Placed → Result (List Placed) ℕ
folder_token (Marked marks.ThisDir) t ts = Ok ts
folder_token (Marked marks.Dirname) t ts = tokens_at (marked (marks.Open ∷ marks.ThisFile ∷ marks.Close ∷ [])) ts
folder_token _ t ts = Err t.left

-- behind the folder in which the table stands
abbrev pub folder_at : List Placed → Result (List Placed) ℕ
folder_at [] = Err 0
folder_at (t ∷ ts) = folder_token t.token t ts

-- behind the head of a table
abbrev pub head_at : List Placed → Result (List Placed) ℕ
head_at ts = tokens_at (marked before_folder) ts >>= λ folder. folder_at folder >>= λ behind. tokens_at (marked behind_folder) behind

-- no token
abbrev pub nothing_at : List Placed → Result (List Placed) ℕ
nothing_at [] = Ok []
nothing_at (t ∷ ts) = Err t.left

-- a mode, and what follows it
abbrev pub mode_at : List Placed → Result (Mode × List Placed) ℕ
mode_at ts = quoted_at ts >>= λ read. ok_or (mode_of read.0) (left_of ts) >>= λ mode. Ok (mode, read.1)

-- a number below 2^64 in 20 digits at most, and what follows it
abbrev pub generation_at : List Placed → Result (ℕ × List Placed) ℕ
generation_at ts = number_at ts >>= λ read. ok_or (generation_of read.0) (left_of ts) >>= λ n. Ok (n, read.1)

abbrev pub behind_generation : Behind → Result (List Placed) ℕ
behind_generation (More ts) = tokens_at (marked (marks.Close ∷ marks.Semicolon ∷ [])) ts
behind_generation (Last ts) = token_at (Marked marks.Semicolon) ts

-- behind the end of a state
abbrev pub state_end_at : List Placed → Result (List Placed) ℕ
state_end_at ts = separator_at ts >>= behind_generation

-- the values of a state, up to the end
abbrev pub values_at : List Placed → Result State ℕ
values_at ts = mode_at ts >>= λ mode. tokens_at before_generation mode.1 >>= λ next. generation_at next >>= λ generation. state_end_at generation.1 >>= λ behind. nothing_at behind
    >>= λ _. Ok (record { mode = mode.0; generation = generation.0 })

abbrev pub state_at : List Placed → Result State ℕ
state_at ts = tokens_at before_mode ts >>= λ values. values_at values

-- the rows of prefixes and those of classes, up to the end
abbrev pub prefix_rows_at : List (List ℕ) → (List ℕ → Bool) → List Placed → Result (List PrefixRow) ℕ
prefix_rows_at project allowed ts = head_at ts >>= λ inside. front_from (table_next allowed prefix_row At_array (folders_next project)) (At_row []) inside >>= λ read. nothing_at read.1 >>= λ _. Ok read.0

abbrev pub class_rows_at : List (List ℕ) → List Placed → Result (List ClassRow) ℕ
class_rows_at project ts = head_at ts >>= λ inside. front_from (table_next is_any class_row At_root (path_next project)) (At_row []) inside >>= λ read. nothing_at read.1 >>= λ _. Ok read.0

-- the fault of a text that stops so, and has so many bytes
abbrev pub fault_of : Stop → TableFile → ℕ → TableFault
fault_of (Bad left) table len = faults.BadTables table (len - left)
fault_of OutOfMemory table len = faults.OutOfMemory
