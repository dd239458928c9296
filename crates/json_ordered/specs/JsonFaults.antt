-- The value of a text, or its one fault; and what each fault means.
use Rattle.std.specs.Prelude.{◌≡◌, ℕ, suc, ◌-◌, ◌<◌, ◌≤◌, ◌⊎◌, List, ◌++◌, Option, Some, None, Result, Ok, Err, length, take, slice_index, if◌then◌else◌}
use Rattle.std.specs.Str.{IsUtf8, is_utf8, IsValidUpTo}
use Rattle.std.specs.Str.Lossy.{utf8_valid_len}
use Rattle.json_ordered.specs.declared.fault.JsonFault.{JsonFault}
use Rattle.json_ordered.specs.declared.fault.JsonFault.TheVariants.{NotUtf8, Syntax, TooDeep, OutOfMemory}
use Rattle.json_ordered.specs.JsonTree.{JsonTree}
use Rattle.json_ordered.specs.Json.{IsJsonOf, IsJson, most_levels}
use Rattle.json_ordered.specs.JsonReading.{Stop, Syntax_with, Too_deep_with, read_from, start}

-- a fault's place, counted from the front
abbrev pub placed : ℕ → Result JsonTree Stop → Result JsonTree JsonFault
placed len (Ok tree) = Ok tree
placed len (Err (Syntax_with left)) = Err (Syntax (len - left))
placed len (Err (Too_deep_with left)) = Err (TooDeep (len - left))

-- the value of a text or its fault; UTF-8 comes first
unfoldable pub json_of : List ℕ → Result JsonTree JsonFault
json_of text = if is_utf8 text then placed (length text) (read_from (start most_levels) text) else Err (NotUtf8 (utf8_valid_len text))

abbrev pub fault_of : Result JsonTree JsonFault → Option JsonFault
fault_of (Ok tree) = None
fault_of (Err fault) = Some fault

-- the one fault of a text that has no value
abbrev pub json_fault : List ℕ → Option JsonFault
json_fault text = fault_of (json_of text)

-- ---- what a fault means, in the words of the grammar

-- some JSON text in which no more levels are open anywhere begins with these bytes
abbrev pub Begins : ℕ → List ℕ → Type 0
Begins levels front = (more : List ℕ) × (tree : JsonTree) × IsJsonOf levels (front ++ more) tree

-- The first `at` bytes begin a JSON text of at most 128 levels. No longer front of the text begins a JSON
-- text, of any number of levels; and the text is none.
pub record IsSyntaxFault (text : List ℕ) (at : ℕ) : Type 0 where
  pub utf8 : IsUtf8 text
  pub within : at ≤ length text
  pub begins : Begins most_levels (take at text)
  pub longest : (levels n : ℕ) → at < n → n ≤ length text → Begins levels (take n text) → ⊥
  pub no_value : (levels : ℕ) (tree : JsonTree) → IsJsonOf levels text tree → ⊥

-- The first `at` bytes begin a JSON text of at most 128 levels. With the bracket that stands behind them
-- they begin one of 129 levels, and none of 128.
pub record IsDepthFault (text : List ℕ) (at : ℕ) : Type 0 where
  pub utf8 : IsUtf8 text
  pub within : at < length text
  pub bracket : (slice_index text at ≡ 91) ⊎ (slice_index text at ≡ 123)
  pub begins : Begins most_levels (take at text)
  pub opens : Begins (suc most_levels) (take (suc at) text)
  pub longest : (n : ℕ) → at < n → n ≤ length text → Begins most_levels (take n text) → ⊥
  pub no_value : (tree : JsonTree) → IsJson text tree → ⊥

-- what each fault says of a text; the front before a `NotUtf8` is UTF-8, and no longer one is
abbrev pub Means : List ℕ → JsonFault → Type 0
Means text (NotUtf8 at) = IsValidUpTo text at
Means text (Syntax at) = IsSyntaxFault text at
Means text (TooDeep at) = IsDepthFault text at
Means text OutOfMemory = ⊥
