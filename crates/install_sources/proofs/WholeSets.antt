-- The first numbers of a list of candidates are the set of all of them.
use Rattle.std.proofs.Common.{◌≡◌, ℕ, zero, suc, ◌+◌, ◌<◌, Bool, true, false, List, [], ◌∷◌, ◌++◌, length, map, refl, ap, ◌∙◌, arith}
use Rattle.std.specs.Prelude.{◌==◌, ◌||◌}
use Rattle.std.specs.List.{range_with_len}
use Rattle.std.proofs.lemmas.Bool.{false≢true, eq-eqb}
use Rattle.plan_rules.specs.Sets.{is_in, set_from, set_of}

-- one number more
pub range_more : (start count next : ℕ) → start + count ≡ next → range_with_len start (count + 1) ≡ range_with_len start count ++ next ∷ []
range_more start zero next e = ap (λ n. n ∷ []) (omega (arith, e))
range_more start (suc count) next e =
    let more : suc count + 1 ≡ suc (count + 1) = omega arith in
    ap (λ n. range_with_len start n) more ∙ ap (λ rest. start ∷ rest) (range_more (start + 1) count next (omega (arith, e)))

or_here : (here later : Bool) → here ≡ true → (here || later) ≡ true
or_here true later e = refl
or_here false later e = absurd (false≢true e)

or_later : (here later : Bool) → later ≡ true → (here || later) ≡ true
or_later true later e = refl
or_later false later e = e

in_range : (at start count : ℕ) → at < count → is_in (start + at) (range_with_len start count) ≡ true
in_range at start zero less = absurd (omega (arith, less))
in_range zero start (suc count) less = or_here (start == start + zero) (is_in (start + zero) (range_with_len (start + 1) count)) (eq-eqb start (start + zero) (omega arith))
in_range (suc at) start (suc count) less =
    or_later (start == start + suc at) (is_in (start + suc at) (range_with_len (start + 1) count))
    (ap (λ number. is_in number (range_with_len (start + 1) count)) (omega arith) ∙ in_range at (start + 1) count (omega (arith, less)))

set_of_all : {X : Type 0} (candidates : List X) (start : ℕ) (list : List ℕ) → ((at : ℕ) → at < length candidates → is_in (start + at) list ≡ true) → set_from (length candidates) start list ≡ map (λ candidate. true) candidates
set_of_all [] start list each = refl
set_of_all (first ∷ others) start list each =
    ap (λ here. here ∷ set_from (length others) (suc start) list) (ap (λ number. is_in number list) (omega arith) ∙ each 0 (omega arith))
    ∙ ap (λ rest. true ∷ rest) (set_of_all others (suc start) list (λ at less. ap (λ number. is_in number list) (omega arith) ∙ each (suc at) (omega (arith, less))))

pub whole_set : {X : Type 0} (candidates : List X) → set_of (length candidates) (range_with_len 0 (length candidates)) ≡ map (λ candidate. true) candidates
whole_set candidates = set_of_all candidates 0 (range_with_len 0 (length candidates)) (λ at less. in_range at 0 (length candidates) less)
