-- The set of a list's numbers, one number more, and the candidates of a set from a number on.
use Rattle.std.proofs.Common.{◌≡◌, ℕ, zero, suc, ◌+◌, ◌<◌, Bool, true, false, cond, List, [], ◌∷◌, ◌++◌, length, refl, sym, ap, ◌∙◌, arith, set, get_or, drop}
use Rattle.std.proofs.Math.ListN.{replicate}
use Rattle.std.proofs.lemmas.List.{drop_more}
use Rattle.std.specs.Prelude.{◌||◌, ◌==◌}
use Rattle.pkg_pool.specs.declared.pool.Candidate.{Candidate}
use Rattle.plan_rules.specs.Sets.{is_in, set_from, set_of}
use Rattle.plan_rules.specs.Validity.{chosen}

or_false : (t : Bool) → (t || false) ≡ t
or_false true = refl
or_false false = refl

more_step : (t : Bool) (number last : ℕ) (others : List ℕ) → is_in number (others ++ last ∷ []) ≡ (is_in number others || last == number) → (t || is_in number (others ++ last ∷ [])) ≡ ((t || is_in number others) || last == number)
more_step true number last others rest = refl
more_step false number last others rest = rest

is_in_more : (number last : ℕ) (list : List ℕ) → is_in number (list ++ last ∷ []) ≡ (is_in number list || last == number)
is_in_more number last [] = or_false (last == number)
is_in_more number last (first ∷ others) = more_step (first == number) number last others (is_in_more number last others)

not_same : (number last : ℕ) → last < number → (last == number) ≡ false
not_same number last lt = grind (arith, lt)

-- a number that comes before changes nothing
before_all : (count number last : ℕ) (list : List ℕ) → last < number → set_from count number (list ++ last ∷ []) ≡ set_from count number list
before_all zero number last list lt = refl
before_all (suc count) number last list lt =
    ap (λ t. t ∷ set_from count (suc number) (list ++ last ∷ [])) (is_in_more number last list ∙ ap (λ t. is_in number list || t) (not_same number last lt) ∙ or_false (is_in number list))
    ∙ ap (λ set. is_in number list ∷ set) (before_all count (suc number) last list (omega (arith, lt)))

or_true : (t : Bool) → (t || true) ≡ true
or_true true = refl
or_true false = refl

same_number : (number last : ℕ) → last ≡ number + 0 → (last == number) ≡ true
same_number number last e = grind (arith, e)

later_number : (number past last : ℕ) → last ≡ number + suc past → (last == number) ≡ false
later_number number past last e = grind (arith, e)

from_more : (count number past last : ℕ) (list : List ℕ) → last ≡ number + past → set_from count number (list ++ last ∷ []) ≡ set (set_from count number list) past true
from_more zero number past last list e = refl
from_more (suc count) number zero last list e =
    ap (λ t. t ∷ set_from count (suc number) (list ++ last ∷ [])) (is_in_more number last list ∙ ap (λ t. is_in number list || t) (same_number number last e) ∙ or_true (is_in number list))
    ∙ ap (λ others. true ∷ others) (before_all count (suc number) last list (omega (arith, e)))
from_more (suc count) number (suc past) last list e =
    ap (λ t. t ∷ set_from count (suc number) (list ++ last ∷ [])) (is_in_more number last list ∙ ap (λ t. is_in number list || t) (later_number number past last e) ∙ or_false (is_in number list))
    ∙ ap (λ others. is_in number list ∷ others) (from_more count (suc number) past last list (omega (arith, e)))

pub one_marked : (count last : ℕ) (list : List ℕ) → set_of count (list ++ last ∷ []) ≡ set (set_of count list) last true
one_marked count last list = from_more count 0 last last list (omega arith)

none_from : (count number : ℕ) → set_from count number [] ≡ replicate count false
none_from zero number = refl
none_from (suc count) number = ap (λ others. false ∷ others) (none_from count (suc number))

pub none_marked : (count : ℕ) → set_of count [] ≡ replicate count false
none_marked count = none_from count 0

length_from : (count number : ℕ) (list : List ℕ) → length (set_from count number list) ≡ count
length_from zero number list = refl
length_from (suc count) number list = omega (arith, length_from count (suc number) list)

pub length_of : (count : ℕ) (list : List ℕ) → length (set_of count list) ≡ count
length_of count list = length_from count 0 list

-- ---- the candidates from a number on

pub chosen_more : (marks : List Bool) (candidates : List Candidate) (number : ℕ) (mark : Bool) (one : Candidate) → number < length marks → number < length candidates → mark ≡ get_or marks number mark → one ≡ get_or candidates number one
    → chosen (drop number marks) (drop number candidates) ≡ cond mark (one ∷ []) [] ++ chosen (drop (number + 1) marks) (drop (number + 1) candidates)
chosen_more marks candidates number mark one within there is same =
    ap (λ some. chosen some (drop number candidates)) (drop_more marks number mark within) ∙ ap (chosen (get_or marks number mark ∷ drop (number + 1) marks)) (drop_more candidates number one there)
    ∙ ap (λ some. chosen (get_or marks number mark ∷ drop (number + 1) marks) (some ∷ drop (number + 1) candidates)) (sym same)
    ∙ ap (λ t. cond t (one ∷ chosen (drop (number + 1) marks) (drop (number + 1) candidates)) (chosen (drop (number + 1) marks) (drop (number + 1) candidates))) (sym is)
    ∙ either mark
  where
    either : (t : Bool) → cond t (one ∷ chosen (drop (number + 1) marks) (drop (number + 1) candidates)) (chosen (drop (number + 1) marks) (drop (number + 1) candidates))
        ≡ cond t (one ∷ []) [] ++ chosen (drop (number + 1) marks) (drop (number + 1) candidates)
    either true = refl
    either false = refl
