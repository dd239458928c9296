-- Rules that say 'the first'.
use Rattle.std.specs.Prelude.{List, [], ◌∷◌, Option, Some, None}

-- the first of a list of checks that refuses; None where all of them pass
abbrev pub first_refusal : {F : Type 0} → List (Option F) → Option F
first_refusal [] = None
first_refusal (None ∷ checks) = first_refusal checks
first_refusal (Some fault ∷ checks) = Some fault
