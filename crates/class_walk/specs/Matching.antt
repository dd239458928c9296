-- Words of the code that reads patterns and matches them.
use Rattle.std.specs.Prelude.{◌≡◌, ℕ, ◌+◌, ◌≤◌, List, [], ◌∷◌, ◌++◌, length, drop, Bool, false, if◌then◌else◌, slice_index_or, Option, Some, None}
use Rattle.std.specs.Borrow.{Bor}
use Rattle.std.specs.List.{slice_split}
use Rattle.path_name.specs.Paths.{is_slash}
use Rattle.class_walk.specs.Patterns.{is_filled, matches_front}
use Rattle.class_walk.specs.declared.pattern.PatternPart.{PatternPart}

-- a part behind those before it, with a `/` between
abbrev pub with_part : List ℕ → List ℕ → List ℕ
with_part clean part = if is_filled part then (if is_filled clean then clean ++ 47 ∷ part else part) else clean

abbrev pub with_parts : List ℕ → List (List ℕ) → List ℕ
with_parts clean [] = clean
with_parts clean (part ∷ parts) = with_parts (with_part clean part) parts

-- the parts of what is left of a text
abbrev pub parts_left : Option (Bor (List ℕ)) → List (List ℕ)
parts_left None = []
parts_left (Some text) = slice_split is_slash text.now

-- for each of the last parts of a pattern, from all down to none, whether they match the text's front
pub record AreStates (parts : List PatternPart) (states : List Bool) (text : List ℕ) : Type 0 where
  pub long : length states ≡ length parts + 1
  pub each : (k : ℕ) → k ≤ length parts → slice_index_or states k false ≡ matches_front (drop k parts) text
