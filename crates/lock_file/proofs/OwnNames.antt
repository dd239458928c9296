-- No two members of a valid plan have one name.
use Rattle.std.proofs.Common.{◌≡◌, ℕ, zero, suc, ◌<◌, ◌≤◌, Bool, true, false, cond, List, [], ◌∷◌, length, Some, refl, ap, ◌∙◌, arith, ltb-true, zero-add}
use Rattle.std.specs.Prelude.{◌||◌, nat_lt}
use Rattle.std.specs.List.{slice_get}
use Rattle.std.proofs.lemmas.Bool.{false≢true}
use Rattle.path_name.specs.Orders.{bytes_are_equal, byte_equality}
use Rattle.pkg_pool.specs.declared.pool.Candidate.{Candidate}
use Rattle.pkg_pool.specs.declared.pool.Pool.{Pool}
use Rattle.plan_rules.specs.Sets.{Chosen, has, is_in, set_of}
use Rattle.plan_rules.specs.Requirements.{replaces, takes}
use Rattle.plan_rules.specs.Validity.{chosen, members, parties, is_valid}
use Rattle.plan_rules.proofs.Lists.{count, count_one, count_map}
use Rattle.plan_rules.proofs.SetMembers.{chosen_among, by_name_count}
use Rattle.plan_rules.proofs.KeptRules.{keeps}
use Rattle.plan_rules.proofs.Plans.{in_range}
use Rattle.plan_rules.proofs.FirstChoices.{has_one}
use Rattle.lock_file.specs.KeptPools.{HaveOwnNames}

module _ (p : Candidate → Bool) where
  first_step : (t : Bool) (x c : Candidate) (rest : List Candidate) → t ≡ true → Some x ≡ Some c → p c ≡ true → 1 ≤ count p rest → 2 ≤ count p (cond t (x ∷ rest) rest)
  first_step true x c rest e same passes more = let is : x ≡ c = cc in rw (ap p is ∙ passes) (omega (arith, more))
  first_step false x c rest e same passes more = absurd (false≢true e)

  later_step : (t : Bool) (x : Candidate) (rest : List Candidate) → 2 ≤ count p rest → 2 ≤ count p (cond t (x ∷ rest) rest)
  later_step true x rest more = omega (arith, more)
  later_step false x rest more = more

  two_counted : (set : Chosen) (candidates : List Candidate) (i j : ℕ) (c d : Candidate) → i < j → has set i ≡ true → has set j ≡ true → slice_get candidates i ≡ Some c → slice_get candidates j ≡ Some d → p c ≡ true → p d ≡ true
      → 2 ≤ count p (chosen set candidates)
  two_counted set [] i j c d less x y e f passes other = absurd cc
  two_counted [] (first ∷ candidates) i j c d less x y e f passes other = absurd (false≢true x)
  two_counted (t ∷ set) (first ∷ candidates) zero zero c d less x y e f passes other = absurd (omega (arith, less))
  two_counted (t ∷ set) (first ∷ candidates) zero (suc j) c d less x y e f passes other =
      first_step t first c (chosen set candidates) x e passes (count_one p (chosen set candidates) d (chosen_among d set candidates j f y) other)
  two_counted (t ∷ set) (first ∷ candidates) (suc i) zero c d less x y e f passes other = absurd (omega (arith, less))
  two_counted (t ∷ set) (first ∷ candidates) (suc i) (suc j) c d less x y e f passes other =
      later_step t first (chosen set candidates) (two_counted set candidates i j c d (omega (arith, less)) x y e f passes other)

module _ (pool : Pool) (plan : List ℕ) (valid : is_valid pool (set_of (length pool.candidates) plan) ≡ true) where
  abbrev set_of_plan : Chosen
  set_of_plan = set_of (length pool.candidates) plan

  takes_own : (name : List ℕ) (c : Candidate) → bytes_are_equal c.«package».name name ≡ true → takes name c.«package» ≡ true
  takes_own name c e = ap (λ t. t || replaces name c.«package») e

  -- as many take a name among the members as among the chosen
  members_are : (p : Candidate → Bool) → count p (members pool set_of_plan) ≡ count p (chosen set_of_plan pool.candidates)
  unfolding members
  members_are p = by_name_count p [] (chosen set_of_plan pool.candidates) ∙ zero-add (count p (chosen set_of_plan pool.candidates))

  never : (i j : ℕ) (c d : Candidate) → i < j → is_in i plan ≡ true → is_in j plan ≡ true → slice_get pool.candidates i ≡ Some c → slice_get pool.candidates j ≡ Some d → bytes_are_equal c.«package».name d.«package».name ≡ true → ⊥
  never i j c d less x y e f same =
      let name = d.«package».name in
      let p = λ (it : Candidate). takes name it.«package» in
      let there = has_one (length pool.candidates) plan i (in_range pool.candidates i c e) x in
      let here = has_one (length pool.candidates) plan j (in_range pool.candidates j d f) y in
      let two : 2 ≤ count p (chosen set_of_plan pool.candidates) = two_counted p set_of_plan pool.candidates i j c d less there here e f (takes_own name c same) (takes_own name d (byte_equality.refl name)) in
      let one : count (takes name) (parties pool set_of_plan) ≤ 1 = (keeps pool set_of_plan valid).owners name in
      omega (arith, two, one, members_are p, count_map (takes name) (λ it. it.«package») (members pool set_of_plan))

  pub own_names : HaveOwnNames pool plan
  own_names i j c d x y e f same = by (nat_lt i j) (nat_lt j i) refl refl
    where
      by : (s t : Bool) → nat_lt i j ≡ s → nat_lt j i ≡ t → i ≡ j
      by true t a b = absurd (never i j c d (ltb-true i j a) x y e f same)
      by false true a b = absurd (never j i d c (ltb-true j i b) y x f e (byte_equality.symm d.«package».name c.«package».name ∙ same))
      by false false a b = grind (arith, a, b)
