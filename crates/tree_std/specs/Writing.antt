-- What a writer holds after a piece.
use Rattle.std.specs.Prelude.{◌≡◌, ℕ, List, ◌++◌, Option, refl}
use Rattle.std.specs.Coded.{Coded, code_by, coded×, coded_ℕ, coded_list, coded_option}
use Rattle.std.specs.Io.KnownBytes.{Appends}
use Rattle.tree_dev.specs.Sinks.{Taken}

-- known bytes grow by the part of the piece before what is left of it
pub record AppendsUpTo (old new : Option (List ℕ)) (piece left : List ℕ) : Type 0 where
  pub part : List ℕ
  pub parts : piece ≡ part ++ left
  pub appends : Appends old new part

-- known bytes grow by a first part of the piece
pub record AppendsPart (old new : Option (List ℕ)) (piece : List ℕ) : Type 0 where
  pub left : List ℕ
  pub upto : AppendsUpTo old new piece left

abbrev pub taken_code : Coded Taken
taken_code = code_by (Option (List ℕ) × ℕ) (coded× (coded_option (coded_list coded_ℕ)) coded_ℕ) (λ t. (t.bytes, t.faults)) (λ p. record { bytes = p.0; faults = p.1 }) (λ _. refl)
