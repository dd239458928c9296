-- The grammar of tables, over the tokens of whole texts: the form in which Composer writes them.
use Rattle.std.specs.Prelude.{◌≡◌, ℕ, ◌⊎◌, nat_lt, List, [], ◌∷◌, ◌++◌, length, codes, Bool, true, ◌==◌, if◌then◌else◌, Option, Some, None, Ok}
use Rattle.path_name.specs.Orders.{bytes_are_equal}
use Rattle.path_name.specs.Decimals.{number_in}
use Rattle.path_name.specs.Paths.{followed}
use Rattle.table_scan.specs.declared.mark.Mark.{Mark}
use Rattle.table_scan.specs.declared.mark.Mark.TheVariants.{Tag, VendorDir, BaseDir, Dirname, ThisDir, ThisFile, Return, Array, Arrow, Assign, Open, Close, Comma, Dot, Semicolon}
use Rattle.table_scan.specs.declared.types.Mode.{Mode}
use Rattle.table_scan.specs.declared.types.Mode.TheVariants.{Plain, Optimised, Authoritative}
use Rattle.table_scan.specs.declared.types.State.{State}
use Rattle.table_scan.specs.TableTokens.{Token, Marked, Quoted, Number, most_digits}

-- the tokens of marks
abbrev pub marked : List Mark → List Token
marked [] = []
marked (mark ∷ marks) = Marked mark ∷ marked marks

-- ---- paths

unfoldable pub vendor_name : List ℕ
vendor_name = codes "vendor"

-- A text behind one of the two variables: it begins with `/`, and leads from the variable's folder to the path.
pub record Leads (from : List (List ℕ)) (text : List ℕ) (path : List (List ℕ)) : Type 0 where
  pub rest : List ℕ
  pub slash : text ≡ 47 ∷ rest
  pub read : followed from text ≡ Ok path

-- `$vendorDir . '/..'` or `$baseDir . '/..'`; the first is the project's vendor folder, the second the project
pub data IsPath (project : List (List ℕ)) : List Token → List (List ℕ) → Type 0 where
  in_vendor : {text : List ℕ} {path : List (List ℕ)} → Leads (project ++ vendor_name ∷ []) text path → IsPath project (Marked VendorDir ∷ Marked Dot ∷ Quoted text ∷ []) path
  in_project : {text : List ℕ} {path : List (List ℕ)} → Leads project text path → IsPath project (Marked BaseDir ∷ Marked Dot ∷ Quoted text ∷ []) path

-- ---- lists

-- items with `,` between them, and perhaps one behind the last
pub data IsList {X : Type 0} (IsItem : List Token → X → Type 0) : List Token → List X → Type 0 where
  no_items : IsList IsItem [] []
  last_item : {ts : List Token} {x : X} → IsItem ts x → IsList IsItem ts (x ∷ [])
  next_item : (ts more : List Token) {x : X} {xs : List X} → IsItem ts x → IsList IsItem more xs → IsList IsItem (ts ++ Marked Comma ∷ more) (x ∷ xs)

-- `array(`, paths, `)`
pub record IsFolders (project : List (List ℕ)) (ts : List Token) (folders : List (List (List ℕ))) : Type 0 where
  pub inside : List Token
  pub list : IsList (IsPath project) inside folders
  pub parts : ts ≡ Marked Array ∷ Marked Open ∷ (inside ++ Marked Close ∷ [])

-- ---- rows

-- a key that is allowed, `=>` and a value, and the row that they make
pub record IsRow {V R : Type 0} (allowed : List ℕ → Bool) (IsValue : List Token → V → Type 0) (make : List ℕ → V → R) (ts : List Token) (row : R) : Type 0 where
  pub key : List ℕ
  pub inside : List Token
  pub value : V
  pub is_allowed : allowed key ≡ true
  pub is_value : IsValue inside value
  pub parts : ts ≡ Quoted key ∷ Marked Arrow ∷ inside
  pub made : row ≡ make key value

-- `<?php $vendorDir = dirname(__DIR__); $baseDir = dirname($vendorDir); return array(`, where the first
-- folder may be written as `dirname(dirname(__FILE__))`
abbrev pub before_folder : List Mark
before_folder = Tag ∷ VendorDir ∷ Assign ∷ Dirname ∷ Open ∷ []

abbrev pub this_folder : List Mark
this_folder = ThisDir ∷ []

abbrev pub folder_of_file : List Mark
folder_of_file = Dirname ∷ Open ∷ ThisFile ∷ Close ∷ []

abbrev pub behind_folder : List Mark
behind_folder = Close ∷ Semicolon ∷ BaseDir ∷ Assign ∷ Dirname ∷ Open ∷ VendorDir ∷ Close ∷ Semicolon ∷ Return ∷ Array ∷ Open ∷ []

abbrev pub IsHead : List Token → Type 0
IsHead ts = (ts ≡ marked (before_folder ++ (this_folder ++ behind_folder))) ⊎ (ts ≡ marked (before_folder ++ (folder_of_file ++ behind_folder)))

-- the head, rows, `);` and the end
pub record IsTable {R : Type 0} (IsOneRow : List Token → R → Type 0) (ts : List Token) (rows : List R) : Type 0 where
  pub head : List Token
  pub inside : List Token
  pub is_head : IsHead head
  pub list : IsList IsOneRow inside rows
  pub parts : ts ≡ head ++ (inside ++ Marked Close ∷ Marked Semicolon ∷ [])

-- A PSR-4 prefix is empty or ends in `\`.
abbrev pub is_whole : List ℕ → Bool
is_whole [] = true
is_whole (byte ∷ []) = byte == 92
is_whole (byte ∷ next ∷ rest) = is_whole (next ∷ rest)

abbrev pub is_any : List ℕ → Bool
is_any key = true

-- The rows after one more: one with its key is replaced in its place, else it goes last.
abbrev pub put : {R : Type 0} → (R → List ℕ) → List R → R → List R
put key [] row = row ∷ []
put key (first ∷ rest) row = if bytes_are_equal (key first) (key row) then row ∷ rest else first ∷ put key rest row

-- the same for several, one after the other
abbrev pub put_all : {R : Type 0} → (R → List ℕ) → List R → List R → List R
put_all key done [] = done
put_all key done (row ∷ rows) = put_all key (put key done row) rows

-- A key that is repeated keeps its first place and takes its last value.
unfoldable pub last_values : {R : Type 0} → (R → List ℕ) → List R → List R
last_values key rows = put_all key [] rows

-- ---- the state

unfoldable pub mode_key : List ℕ
mode_key = codes "mode"

unfoldable pub generation_key : List ℕ
generation_key = codes "generation"

unfoldable pub mode_text : Mode → List ℕ
mode_text Plain = codes "plain"
mode_text Optimised = codes "optimised"
mode_text Authoritative = codes "authoritative"

-- the number below 2^64 that digits stand for, 20 of them at most
unfoldable pub generation_of : List ℕ → Option ℕ
generation_of digits = if nat_lt most_digits (length digits) then None else number_in digits

-- `,` or nothing
abbrev pub IsLastComma : List Token → Type 0
IsLastComma ts = (ts ≡ []) ⊎ (ts ≡ Marked Comma ∷ [])

-- `<?php return array('mode' => M, 'generation' => G);`, with an optional last `,`: M is the text of a mode,
-- and G a number below 2^64 in 20 digits at most, with leading zeros or without
pub record IsState (ts : List Token) (state : State) : Type 0 where
  pub digits : List ℕ
  pub comma : List Token
  pub number : generation_of digits ≡ Some state.generation
  pub is_comma : IsLastComma comma
  pub parts : ts ≡ marked (Tag ∷ Return ∷ Array ∷ Open ∷ []) ++ (Quoted mode_key ∷ Marked Arrow ∷ Quoted (mode_text state.mode) ∷ Marked Comma
      ∷ Quoted generation_key ∷ Marked Arrow ∷ Number digits ∷ (comma ++ Marked Close ∷ Marked Semicolon ∷ []))
