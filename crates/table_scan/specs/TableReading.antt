-- Tables read token by token from the left: what may come next at each place, and what is whole there.
use Rattle.std.specs.Prelude.{ℕ, List, [], ◌∷◌, ◌++◌, Bool, true, false, ◌==◌, if◌then◌else◌, Option, Some, None, Result, Ok, Err}
use Rattle.std.specs.Result.{result_ok}
use Rattle.path_name.specs.Given.{◌>>=◌}
use Rattle.path_name.specs.Orders.{bytes_are_equal}
use Rattle.path_name.specs.Paths.{followed}
use Rattle.table_scan.specs.declared.mark.Mark.{Mark}
use Rattle.table_scan.specs.declared.mark.Mark.TheVariants.{Tag, VendorDir, BaseDir, Dirname, ThisDir, ThisFile, Return, Array, Arrow, Assign, Open, Close, Comma, Dot, Semicolon}
use Rattle.table_scan.specs.declared.types.Mode.{Mode}
use Rattle.table_scan.specs.declared.types.Mode.TheVariants.{Plain, Optimised, Authoritative}
use Rattle.table_scan.specs.declared.types.State.{State}
use Rattle.table_scan.specs.TableTokens.{Token, Marked, Quoted, Number, Stray, Placed}
use Rattle.table_scan.specs.TableGrammar.{marked, vendor_name, before_folder, behind_folder, mode_key, generation_key, mode_text, generation_of}

-- After one more token: a place, or a value that is whole, or nothing goes on so.
pub data Outcome (W V : Type 0) : Type 0 where
  Next : (place : W) → Outcome W V
  Done : (value : V) → Outcome W V
  Wrong : Outcome W V

abbrev pub goes_on : {W V : Type 0} → Outcome W V → Placed → List Placed → (W → Result (V × List Placed) ℕ) → Result (V × List Placed) ℕ
goes_on (Next place) t ts read = read place
goes_on (Done value) t ts read = Ok (value, ts)
goes_on Wrong t ts read = Err t.left

-- What the first tokens are read as from a place on, and the tokens that follow; or how many bytes stand from
-- the first token on with which nothing goes on, none where the tokens end too early.
abbrev pub front_from : {W V : Type 0} → (W → Token → Outcome W V) → W → List Placed → Result (V × List Placed) ℕ
front_from next place [] = Err 0
front_from next place (t ∷ ts) = goes_on (next place t.token) t ts (λ p. front_from next p ts)

-- a whole value must end the tokens
abbrev pub ended : {V : Type 0} → V × List Placed → Result V ℕ
ended (value, []) = Ok value
ended (value, t ∷ ts) = Err t.left

-- the same of all tokens
abbrev pub read_from : {W V : Type 0} → (W → Token → Outcome W V) → W → List Placed → Result V ℕ
read_from next place ts = front_from next place ts >>= ended

-- ---- fixed tokens

-- marks by number
abbrev pub mark_number : Mark → ℕ
mark_number Tag = 0
mark_number VendorDir = 1
mark_number BaseDir = 2
mark_number Dirname = 3
mark_number ThisDir = 4
mark_number ThisFile = 5
mark_number Return = 6
mark_number Array = 7
mark_number Arrow = 8
mark_number Assign = 9
mark_number Open = 10
mark_number Close = 11
mark_number Comma = 12
mark_number Dot = 13
mark_number Semicolon = 14

-- whether a token is the one that is wanted
abbrev pub is_wanted : Token → Token → Bool
is_wanted (Marked mark) (Marked other) = mark_number mark == mark_number other
is_wanted (Quoted text) (Quoted other) = bytes_are_equal text other
is_wanted (Number digits) (Number other) = bytes_are_equal digits other
is_wanted Stray Stray = true
is_wanted _ _ = false

-- ---- paths

pub data PathPlace : Type 0 where
  At_root : PathPlace
  At_dot : (from : List (List ℕ)) → PathPlace
  At_text : (from : List (List ℕ)) → PathPlace

-- where a text that begins with `/` leads from a folder
abbrev pub led_to : List (List ℕ) → List ℕ → Option (List (List ℕ))
led_to from [] = None
led_to from (byte ∷ rest) = if byte == 47 then result_ok (followed from (byte ∷ rest)) else None

abbrev pub path_done : Option (List (List ℕ)) → Outcome PathPlace (List (List ℕ))
path_done (Some path) = Done path
path_done None = Wrong

abbrev pub path_next : List (List ℕ) → PathPlace → Token → Outcome PathPlace (List (List ℕ))
path_next project At_root (Marked VendorDir) = Next (At_dot (project ++ vendor_name ∷ []))
path_next project At_root (Marked BaseDir) = Next (At_dot project)
path_next project At_root _ = Wrong
path_next project (At_dot from) (Marked Dot) = Next (At_text from)
path_next project (At_dot from) _ = Wrong
path_next project (At_text from) (Quoted text) = path_done (led_to from text)
path_next project (At_text from) _ = Wrong

-- ---- folders

pub data FoldersPlace : Type 0 where
  At_array : FoldersPlace
  At_open : FoldersPlace
  At_folder : (folders : List (List (List ℕ))) → FoldersPlace
  In_folder : (folders : List (List (List ℕ))) (place : PathPlace) → FoldersPlace
  After_folder : (folders : List (List (List ℕ))) → FoldersPlace

abbrev pub inside_folders : List (List (List ℕ)) → Outcome PathPlace (List (List ℕ)) → Outcome FoldersPlace (List (List (List ℕ)))
inside_folders folders (Next place) = Next (In_folder folders place)
inside_folders folders (Done path) = Next (After_folder (folders ++ path ∷ []))
inside_folders folders Wrong = Wrong

abbrev pub folders_next : List (List ℕ) → FoldersPlace → Token → Outcome FoldersPlace (List (List (List ℕ)))
folders_next project At_array (Marked Array) = Next At_open
folders_next project At_array _ = Wrong
folders_next project At_open (Marked Open) = Next (At_folder [])
folders_next project At_open _ = Wrong
folders_next project (At_folder folders) (Marked Close) = Done folders
folders_next project (At_folder folders) token = inside_folders folders (path_next project At_root token)
folders_next project (In_folder folders place) token = inside_folders folders (path_next project place token)
folders_next project (After_folder folders) (Marked Comma) = Next (At_folder folders)
folders_next project (After_folder folders) (Marked Close) = Done folders
folders_next project (After_folder folders) _ = Wrong

-- ---- tables

pub data TablePlace (W R : Type 0) : Type 0 where
  Before_folder : (wanted : List Token) → TablePlace W R
  Behind_folder : (wanted : Token) (more : List Token) → TablePlace W R
  At_row : (rows : List R) → TablePlace W R
  At_arrow : (rows : List R) (key : List ℕ) → TablePlace W R
  In_value : (rows : List R) (key : List ℕ) (place : W) → TablePlace W R
  After_row : (rows : List R) → TablePlace W R
  At_end : (rows : List R) → TablePlace W R

abbrev pub behind_folder_at : {W R : Type 0} → List Token → TablePlace W R
behind_folder_at [] = At_row []
behind_folder_at (wanted ∷ more) = Behind_folder wanted more

abbrev pub this_folder_place : {W R : Type 0} → TablePlace W R
this_folder_place = behind_folder_at (marked behind_folder)

abbrev pub file_folder_place : {W R : Type 0} → TablePlace W R
file_folder_place = behind_folder_at (marked (Open ∷ ThisFile ∷ Close ∷ behind_folder))

module _ {W V R : Type 0} (allowed : List ℕ → Bool) (make : List ℕ → V → R) (start : W) (next : W → Token → Outcome W V) where
  abbrev pub inside_value : List R → List ℕ → Outcome W V → Outcome (TablePlace W R) (List R)
  inside_value rows key (Next place) = Next (In_value rows key place)
  inside_value rows key (Done value) = Next (After_row (rows ++ make key value ∷ []))
  inside_value rows key Wrong = Wrong

  abbrev pub table_next : TablePlace W R → Token → Outcome (TablePlace W R) (List R)
  table_next (Before_folder (wanted ∷ more)) token = if is_wanted wanted token then Next (Before_folder more) else Wrong
  table_next (Before_folder []) (Marked ThisDir) = Next this_folder_place
  table_next (Before_folder []) (Marked Dirname) = Next file_folder_place
  table_next (Before_folder []) _ = Wrong
  table_next (Behind_folder wanted more) token = if is_wanted wanted token then Next (behind_folder_at more) else Wrong
  table_next (At_row rows) (Marked Close) = Next (At_end rows)
  table_next (At_row rows) (Quoted key) = if allowed key then Next (At_arrow rows key) else Wrong
  table_next (At_row rows) _ = Wrong
  table_next (At_arrow rows key) (Marked Arrow) = Next (In_value rows key start)
  table_next (At_arrow rows key) _ = Wrong
  table_next (In_value rows key place) token = inside_value rows key (next place token)
  table_next (After_row rows) (Marked Comma) = Next (At_row rows)
  table_next (After_row rows) (Marked Close) = Next (At_end rows)
  table_next (After_row rows) _ = Wrong
  table_next (At_end rows) (Marked Semicolon) = Done rows
  table_next (At_end rows) _ = Wrong

abbrev pub table_start : {W R : Type 0} → TablePlace W R
table_start = Before_folder (marked before_folder)

-- ---- the state

pub data StatePlace : Type 0 where
  Before_mode : (wanted : List Token) → StatePlace
  Before_generation : (mode : Mode) (wanted : List Token) → StatePlace
  After_generation : (state : State) → StatePlace
  At_close : (state : State) → StatePlace
  At_state_end : (state : State) → StatePlace

-- the mode that a text names
abbrev pub mode_of : List ℕ → Option Mode
mode_of text = if bytes_are_equal (mode_text Plain) text then Some Plain
    else if bytes_are_equal (mode_text Optimised) text then Some Optimised
    else if bytes_are_equal (mode_text Authoritative) text then Some Authoritative else None

abbrev pub before_mode : List Token
before_mode = Marked Tag ∷ Marked Return ∷ Marked Array ∷ Marked Open ∷ Quoted mode_key ∷ Marked Arrow ∷ []

abbrev pub before_generation : List Token
before_generation = Marked Comma ∷ Quoted generation_key ∷ Marked Arrow ∷ []

abbrev pub mode_done : Option Mode → Outcome StatePlace State
mode_done (Some mode) = Next (Before_generation mode before_generation)
mode_done None = Wrong

abbrev pub number_done : Mode → Option ℕ → Outcome StatePlace State
number_done mode (Some n) = Next (After_generation (record { mode = mode; generation = n }))
number_done mode None = Wrong

abbrev pub state_next : StatePlace → Token → Outcome StatePlace State
state_next (Before_mode (wanted ∷ more)) token = if is_wanted wanted token then Next (Before_mode more) else Wrong
state_next (Before_mode []) (Quoted text) = mode_done (mode_of text)
state_next (Before_mode []) _ = Wrong
state_next (Before_generation mode (wanted ∷ more)) token = if is_wanted wanted token then Next (Before_generation mode more) else Wrong
state_next (Before_generation mode []) (Number digits) = number_done mode (generation_of digits)
state_next (Before_generation mode []) _ = Wrong
state_next (After_generation state) (Marked Comma) = Next (At_close state)
state_next (After_generation state) (Marked Close) = Next (At_state_end state)
state_next (After_generation state) _ = Wrong
state_next (At_close state) (Marked Close) = Next (At_state_end state)
state_next (At_close state) _ = Wrong
state_next (At_state_end state) (Marked Semicolon) = Done state
state_next (At_state_end state) _ = Wrong

abbrev pub state_start : StatePlace
state_start = Before_mode before_mode
