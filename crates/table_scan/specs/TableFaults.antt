-- The tables of texts, or the first fault in them; and what both mean in the words of the grammar.
use Rattle.std.specs.Prelude.{◌≡◌, ℕ, ◌-◌, List, [], ◌∷◌, ◌++◌, length, map, Bool, Option, Some, None, Result, Ok, Err}
use Rattle.path_name.specs.Given.{◌>>=◌}
use Rattle.table_scan.specs.declared.types.PrefixRow.{PrefixRow}
use Rattle.table_scan.specs.declared.types.ClassRow.{ClassRow}
use Rattle.table_scan.specs.declared.types.FileRow.{FileRow}
use Rattle.table_scan.specs.declared.types.State.{State}
use Rattle.table_scan.specs.declared.types.Tables.{Tables}
use Rattle.table_scan.specs.declared.types.TableTexts.{TableTexts}
use Rattle.table_scan.specs.declared.types.TableFile.{TableFile}
use Rattle.table_scan.specs.declared.types.TableFile.TheVariants as files
use Rattle.table_scan.specs.declared.types.TableFault.{TableFault}
use Rattle.table_scan.specs.declared.types.TableFault.TheVariants as faults
use Rattle.table_scan.specs.TableTokens.{Token, Placed, text_tokens, left_of}
use Rattle.table_scan.specs.TableGrammar.{IsPath, IsFolders, IsRow, IsTable, IsState, is_whole, is_any, last_values}
use Rattle.table_scan.specs.TableReading.{read_from, At_root, path_next, At_array, folders_next, table_next, table_start, state_next, state_start}

-- ---- what a row holds

abbrev pub prefix_row : List ℕ → List (List (List ℕ)) → PrefixRow
prefix_row prefix folders = record { prefix = prefix; folders = folders }

abbrev pub class_row : List ℕ → List (List ℕ) → ClassRow
class_row class path = record { class = class; path = path }

-- A row of the table of files is spelled as one of the class map, with the id as its key.
abbrev pub file_row : ClassRow → FileRow
file_row row = record { id = row.class; path = row.path }

abbrev pub prefix_of : PrefixRow → List ℕ
prefix_of row = row.prefix

abbrev pub class_of : ClassRow → List ℕ
class_of row = row.class

-- ---- the grammar of whole texts

abbrev pub token_list : List Placed → List Token
token_list ts = map (λ t. t.token) ts

-- the rows as they are written
abbrev pub ArePrefixRows : List (List ℕ) → (List ℕ → Bool) → List Token → List PrefixRow → Type 0
ArePrefixRows project allowed ts rows = IsTable (IsRow allowed (IsFolders project) prefix_row) ts rows

abbrev pub AreClassRows : List (List ℕ) → List Token → List ClassRow → Type 0
AreClassRows project ts rows = IsTable (IsRow is_any (IsPath project) class_row) ts rows

-- some text has these tokens
abbrev pub IsSpelled : List Token → Type 0
IsSpelled ts = (text : List ℕ) × (token_list (text_tokens text) ≡ ts)

-- A text is of a kind, with a value.
abbrev pub IsTextOf : {V : Type 0} → (List Token → V → Type 0) → List ℕ → V → Type 0
IsTextOf IsKind text value = IsKind (token_list (text_tokens text)) value

abbrev pub HoldsPrefixes : List (List ℕ) → (List ℕ → Bool) → Option (List ℕ) → List PrefixRow → Type 0
HoldsPrefixes project allowed None rows = rows ≡ []
HoldsPrefixes project allowed (Some text) rows = (written : List PrefixRow) × IsTextOf (ArePrefixRows project allowed) text written × (rows ≡ last_values prefix_of written)

abbrev pub HoldsClasses : List (List ℕ) → Option (List ℕ) → List ClassRow → Type 0
HoldsClasses project None rows = rows ≡ []
HoldsClasses project (Some text) rows = (written : List ClassRow) × IsTextOf (AreClassRows project) text written × (rows ≡ last_values class_of written)

abbrev pub HoldsFiles : List (List ℕ) → Option (List ℕ) → List FileRow → Type 0
HoldsFiles project text rows = (read : List ClassRow) × HoldsClasses project text read × (rows ≡ map file_row read)

abbrev pub HoldsState : Option (List ℕ) → Option State → Type 0
HoldsState None state = state ≡ None
HoldsState (Some text) state = (read : State) × IsTextOf IsState text read × (state ≡ Some read)

-- What the texts of a project's tables hold: no rows and no state where there is no text.
pub record IsTableText (texts : TableTexts) (project : List (List ℕ)) (tables : Tables) : Type 0 where
  pub psr4 : HoldsPrefixes project is_whole texts.psr4 tables.psr4
  pub psr0 : HoldsPrefixes project is_any texts.psr0 tables.psr0
  pub class_map : HoldsClasses project texts.class_map tables.class_map
  pub files : HoldsFiles project texts.files tables.files
  pub state : HoldsState texts.state tables.state

-- ---- the place of a fault, in the words of the grammar

-- These tokens begin some text of a kind.
pub record BeginsText {V : Type 0} (IsKind : List Token → V → Type 0) (front : List Token) : Type 0 where
  pub text : List ℕ
  pub value : V
  pub more : List Token
  pub is : IsTextOf IsKind text value
  pub parts : token_list (text_tokens text) ≡ front ++ more

-- no text of the kind begins with these tokens and the first of the others, or has these alone where there is none
abbrev pub Stops : {V : Type 0} → (List Token → V → Type 0) → List Token → List Placed → Type 0
Stops {V} IsKind before [] = (value : V) → IsKind before value → ⊥
Stops IsKind before (t ∷ ts) = BeginsText IsKind (before ++ t.token ∷ []) → ⊥

-- A text is not of a kind, and this is the place of its fault: the tokens before it begin some text of the kind,
-- and with the token at the place they begin none. The place is the text's length where no token stands there.
pub record IsFault {V : Type 0} (IsKind : List Token → V → Type 0) (text : List ℕ) (at : ℕ) : Type 0 where
  pub before : List Placed
  pub others : List Placed
  pub parts : text_tokens text ≡ before ++ others
  pub place : at ≡ length text - left_of others
  pub begins : BeginsText IsKind (token_list before)
  pub stops : Stops IsKind (token_list before) others

abbrev pub IsFaultIn : {V : Type 0} → (List Token → V → Type 0) → Option (List ℕ) → ℕ → Type 0
IsFaultIn IsKind None at = ⊥
IsFaultIn IsKind (Some text) at = IsFault IsKind text at

-- The first text with a fault, in the order of the files, and the place of its fault.
unfoldable pub IsTableFault : TableTexts → List (List ℕ) → TableFault → Type 0
IsTableFault texts project (faults.BadTables files.Psr4 at) = IsFaultIn (ArePrefixRows project is_whole) texts.psr4 at
IsTableFault texts project (faults.BadTables files.Psr0 at) = (psr4 : List PrefixRow) × HoldsPrefixes project is_whole texts.psr4 psr4 × IsFaultIn (ArePrefixRows project is_any) texts.psr0 at
IsTableFault texts project (faults.BadTables files.ClassMap at) = (psr4 psr0 : List PrefixRow) × HoldsPrefixes project is_whole texts.psr4 psr4 × HoldsPrefixes project is_any texts.psr0 psr0
    × IsFaultIn (AreClassRows project) texts.class_map at
IsTableFault texts project (faults.BadTables files.Files at) = (psr4 psr0 : List PrefixRow) × (classes : List ClassRow) × HoldsPrefixes project is_whole texts.psr4 psr4 × HoldsPrefixes project is_any texts.psr0 psr0
    × HoldsClasses project texts.class_map classes × IsFaultIn (AreClassRows project) texts.files at
IsTableFault texts project (faults.BadTables files.State at) = (psr4 psr0 : List PrefixRow) × (classes : List ClassRow) × (rows : List FileRow) × HoldsPrefixes project is_whole texts.psr4 psr4 × HoldsPrefixes project is_any texts.psr0 psr0
    × HoldsClasses project texts.class_map classes × HoldsFiles project texts.files rows × IsFaultIn IsState texts.state at
IsTableFault texts project faults.OutOfMemory = ⊥

-- ---- the tables or the fault

-- what was read of a text, and the place of the fault counted from the front
abbrev pub placed : {V : Type 0} → TableFile → List ℕ → Result V ℕ → Result V TableFault
placed table text (Ok value) = Ok value
placed table text (Err left) = Err (faults.BadTables table (length text - left))

unfoldable pub prefixes_of : List (List ℕ) → (List ℕ → Bool) → List ℕ → Result (List PrefixRow) ℕ
prefixes_of project allowed text = read_from (table_next allowed prefix_row At_array (folders_next project)) table_start (text_tokens text)

unfoldable pub classes_of : List (List ℕ) → List ℕ → Result (List ClassRow) ℕ
classes_of project text = read_from (table_next is_any class_row At_root (path_next project)) table_start (text_tokens text)

unfoldable pub state_of : List ℕ → Result State ℕ
state_of text = read_from state_next state_start (text_tokens text)

abbrev pub if_there : {V : Type 0} → V → TableFile → (List ℕ → Result V ℕ) → Option (List ℕ) → Result V TableFault
if_there otherwise table read None = Ok otherwise
if_there otherwise table read (Some text) = placed table text (read text)

abbrev pub with_last_values : {R : Type 0} → (R → List ℕ) → Result (List R) ℕ → Result (List R) ℕ
with_last_values key (Ok rows) = Ok (last_values key rows)
with_last_values key (Err left) = Err left

abbrev pub as_files : Result (List ClassRow) ℕ → Result (List FileRow) ℕ
as_files (Ok rows) = Ok (map file_row rows)
as_files (Err left) = Err left

abbrev pub as_state : Result State ℕ → Result (Option State) ℕ
as_state (Ok state) = Ok (Some state)
as_state (Err left) = Err left

unfoldable pub prefix_table : List (List ℕ) → (List ℕ → Bool) → TableFile → Option (List ℕ) → Result (List PrefixRow) TableFault
prefix_table project allowed file text = if_there [] file (λ t. with_last_values prefix_of (prefixes_of project allowed t)) text

unfoldable pub class_table : List (List ℕ) → Option (List ℕ) → Result (List ClassRow) TableFault
class_table project text = if_there [] files.ClassMap (λ t. with_last_values class_of (classes_of project t)) text

unfoldable pub file_table : List (List ℕ) → Option (List ℕ) → Result (List FileRow) TableFault
file_table project text = if_there [] files.Files (λ t. as_files (with_last_values class_of (classes_of project t))) text

unfoldable pub state_table : Option (List ℕ) → Result (Option State) TableFault
state_table text = if_there None files.State (λ t. as_state (state_of t)) text

-- the tables of the texts, or the first fault in the order of the files
unfoldable pub tables_of : List (List ℕ) → TableTexts → Result Tables TableFault
tables_of project texts = do
  psr4 ← prefix_table project is_whole files.Psr4 texts.psr4
  psr0 ← prefix_table project is_any files.Psr0 texts.psr0
  class_map ← class_table project texts.class_map
  files ← file_table project texts.files
  state ← state_table texts.state
  Ok (record { psr4 = psr4; psr0 = psr0; class_map = class_map; files = files; state = state })
