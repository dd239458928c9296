-- Parts of a text, one after the other, as a loop reads them.
use Rattle.std.proofs.Common.{◌≡◌, ℕ, ◌+◌, ◌-◌, ◌≤◌, List, [], ◌∷◌, length, Option, Some, None, Result, Ok, Err, ap, ◌∙◌, arith}
use Rattle.std.specs.Prelude.{MatchOption}
use Rattle.std.specs.Borrow.{Bor}
use Rattle.path_name.specs.declared.fault.PathFault.{PathFault}
use Rattle.path_name.specs.Given.{◌>>=◌}
use Rattle.path_name.specs.Paths.{placed, read_parts}
use Rattle.path_name.proofs.Joining.{split}

-- the parts that are left, in a text of n bytes
abbrev pub parts_left : ℕ → Option (Bor (List ℕ)) → List (ℕ × List ℕ)
parts_left n None = []
parts_left n (Some left) = placed (n - length left.now) (split left.now)

-- the segments that are left
abbrev pub segments_left : Option (Bor (List ℕ)) → List (List ℕ)
segments_left None = []
segments_left (Some left) = split left.now

abbrev pub IsLeft : ℕ → Option (Bor (List ℕ)) → Type 0
IsLeft n None = Unit {0}
IsLeft n (Some left) = length left.now ≤ n

pub next_part : (n : ℕ) (left part : List ℕ) (after : Option (Bor (List ℕ)))
    → MatchOption after (split left ≡ part ∷ []) (λ rest. split left ≡ part ∷ split rest.now)
    → MatchOption after (length part ≡ length left) (λ rest. length part + 1 + length rest.now ≡ length left)
    → length left ≤ n → placed (n - length left) (split left) ≡ (n - length left, part) ∷ parts_left n after
next_part n left part None cut long within = ap (placed (n - length left)) cut
next_part n left part (Some rest) cut long within =
    let at : n - length left + length part + 1 ≡ n - length rest.now = omega arith in
    ap (placed (n - length left)) cut ∙ ap (λ place. (n - length left, part) ∷ placed place (split rest.now)) at

pub next_left : (n : ℕ) (left part : List ℕ) (after : Option (Bor (List ℕ)))
    → MatchOption after (length part ≡ length left) (λ rest. length part + 1 + length rest.now ≡ length left)
    → length left ≤ n → IsLeft n after
next_left n left part None long within = tt
next_left n left part (Some rest) long within = omega arith

-- one step of a reading, and a fault in it
module _ {S : Type 0} (step : S → ℕ × List ℕ → Result S PathFault) where
  pub reads_on : (before after : S) (part : ℕ × List ℕ) (parts : List (ℕ × List ℕ)) → step before part ≡ Ok after → read_parts step before (part ∷ parts) ≡ read_parts step after parts
  reads_on before after part parts e = ap (λ r. r >>= λ next. read_parts step next parts) e

  pub stops : (before : S) (fault : PathFault) (part : ℕ × List ℕ) (parts : List (ℕ × List ℕ)) → step before part ≡ Err fault → read_parts step before (part ∷ parts) ≡ Err fault
  stops before fault part parts e = ap (λ r. r >>= λ next. read_parts step next parts) e
