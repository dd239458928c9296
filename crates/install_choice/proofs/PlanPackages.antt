-- The packages of a plan are those of its lock.
use Rattle.std.proofs.Common.{◌≡◌, ℕ, zero, suc, ◌+◌, ◌<◌, Bool, true, false, cond, not, List, [], ◌∷◌, ◌++◌, length, map, refl, sym, ap, subst, ◌∙◌, arith}
use Rattle.std.specs.List.{sum_by}
use Rattle.std.proofs.lemmas.Bool.{false≢true}
use Rattle.std.proofs.lemmas.List.Sorted.{sum_by-IsPermutation}
use Rattle.std.proofs.lemmas.List.Sums.{sum_by-cons}
use Rattle.std.specs.List.Sorted.{IsPermutation}
use Rattle.manifest_read.specs.declared.types.Link.{Link}
use Rattle.pkg_pool.specs.declared.pool.Candidate.{Candidate}
use Rattle.pkg_pool.specs.declared.pool.Pool.{Pool}
use Rattle.plan_rules.specs.Sets.{Chosen, has, set_of}
use Rattle.plan_rules.specs.Validity.{chosen}
use Rattle.plan_rules.proofs.FirstChoices.{has_one}
use Rattle.plan_rules.proofs.Lists.{Among, among_filter, among_map, count, count_map, filter_among}
use Rattle.plan_rules.proofs.Marked.{length_of}
use Rattle.plan_rules.proofs.Plans.{among_in, below, in_among}
use Rattle.plan_rules.proofs.SetMembers.{among_chosen, chosen_among}
use Rattle.lock_file.specs.PlanLocks.{HasMet, IsClosed, IsListing, IsRuntime, locked_of, others, requirements_at}
use Rattle.lock_file.specs.declared.types.Locked.{Locked}
use Rattle.lock_file.proofs.Findings.{all_of, one_of, set_in}
use Rattle.lock_file.proofs.KeptPlans.{all_listed}

-- ---- how many pass

pub count_joined : {X : Type 0} (p : X → Bool) (xs ys : List X) → count p (xs ++ ys) ≡ count p xs + count p ys
count_joined p [] ys = omega arith
count_joined p (x ∷ xs) ys = omega (arith, count_joined p xs ys)

pub count_all : {X : Type 0} (xs : List X) → count (λ x. true) xs ≡ length xs
count_all [] = refl
count_all (x ∷ xs) = omega (arith, count_all xs)

count_sum : {X : Type 0} (p : X → Bool) (xs : List X) → sum_by (λ x. cond (p x) 1 0) xs ≡ count p xs
count_sum p [] = refl
count_sum p (x ∷ xs) = sum_by-cons (λ y. cond (p y) 1 0) x xs ∙ ap (λ n. cond (p x) 1 0 + n) (count_sum p xs)

count_permuted : {X : Type 0} (p : X → Bool) (xs ys : List X) → IsPermutation xs ys → count p ys ≡ count p xs
count_permuted p xs ys same = sym (count_sum p ys) ∙ sum_by-IsPermutation (λ x. cond (p x) 1 0) xs ys same ∙ count_sum p xs

-- ---- a set in two parts

abbrev weight : Bool → Bool → ℕ
weight belongs passes = cond belongs (cond passes 1 0) 0

abbrev behind : Chosen → Chosen
behind [] = []
behind (belongs ∷ others) = others

has_behind : (set : Chosen) (i : ℕ) → has (behind set) i ≡ has set (suc i)
has_behind [] i = refl
has_behind (belongs ∷ others) i = refl

none_chosen : (candidates : List Candidate) → chosen [] candidates ≡ []
none_chosen [] = refl
none_chosen (c ∷ candidates) = refl

count_first : (p : Candidate → Bool) (set : Chosen) (c : Candidate) (candidates : List Candidate) → count p (chosen set (c ∷ candidates)) ≡ weight (has set 0) (p c) + count p (chosen (behind set) candidates)
count_first p [] c candidates =
    let none : count p (chosen [] candidates) ≡ 0 = ap (count p) (none_chosen candidates) in
    let first : count p (chosen [] (c ∷ candidates)) ≡ 0 = refl in
    omega (arith, none, first)
count_first p (true ∷ set) c candidates = refl
count_first p (false ∷ set) c candidates = omega arith

abbrev AreParts : Chosen → Chosen → Chosen → Type 0
AreParts all some more = (i : ℕ) (b : Bool) → weight (has all i) b ≡ weight (has some i) b + weight (has more i) b

later_parts : (all some more : Chosen) → AreParts all some more → AreParts (behind all) (behind some) (behind more)
later_parts all some more parts i b = rw (has_behind all i, has_behind some i, has_behind more i) (parts (suc i) b)

count_parts : (p : Candidate → Bool) (candidates : List Candidate) (all some more : Chosen) → AreParts all some more → count p (chosen all candidates) ≡ count p (chosen some candidates) + count p (chosen more candidates)
count_parts p [] all some more parts = refl
count_parts p (c ∷ candidates) all some more parts =
    omega (
      arith,
      count_first p all c candidates,
      count_first p some c candidates,
      count_first p more c candidates,
      parts 0 (p c),
      count_parts p candidates (behind all) (behind some) (behind more) (later_parts all some more parts),
    )

-- ---- what is required at run time, and the others

has_below : (marks : Chosen) (number : ℕ) → has marks number ≡ true → number < length marks
has_below [] number e = absurd (false≢true e)
has_below (t ∷ marks) zero e = omega arith
has_below (t ∷ marks) (suc number) e = omega (arith, has_below marks number e)

within_plan : (pool : Pool) (plan : List ℕ) (runtime : Chosen) → IsRuntime pool plan runtime → (number : ℕ) → has runtime number ≡ true → has (set_of (length pool.candidates) plan) number ≡ true
within_plan pool plan runtime is number e =
    let count = length pool.candidates in
    let met : (need : Link) → HasMet pool plan (set_of count plan) need = λ need n f alternative. has_one count plan n (below pool need n alternative) f in
    let closed : IsClosed pool plan (set_of count plan) = record {
      root = all_of (HasMet pool plan (set_of count plan)) pool.root.«package».require (λ need there. met need);
      members = λ n f. all_of (HasMet pool plan (set_of count plan)) (requirements_at pool n) (λ need there. met need);
    } in
    is.least (set_of count plan) closed number e

module _ (pool : Pool) (plan : List ℕ) (runtime : Chosen) (is : IsRuntime pool plan runtime) where
  abbrev planned : Chosen
  planned = set_of (length pool.candidates) plan

  abbrev left : Chosen
  left = set_of (length pool.candidates) (others plan runtime)

  not_not : (b : Bool) → not b ≡ true → b ≡ false
  not_not true f = absurd (false≢true f)
  not_not false f = refl

  left_is : (number : ℕ) → has left number ≡ true → (has planned number ≡ true) × (has runtime number ≡ false)
  left_is number e =
      let less : number < length pool.candidates = subst (λ n. number < n) (length_of (length pool.candidates) (others plan runtime)) (has_below left number e) in
      let there = among_filter (λ n. not (has runtime n)) plan number (among_in number (others plan runtime) (set_in (length pool.candidates) number (others plan runtime) e)) in
      (has_one (length pool.candidates) plan number less (in_among number plan there.0), not_not (has runtime number) there.1)

  is_left : (number : ℕ) → has planned number ≡ true → has runtime number ≡ false → has left number ≡ true
  is_left number e not_needed =
      let less : number < length pool.candidates = subst (λ n. number < n) (length_of (length pool.candidates) plan) (has_below planned number e) in
      has_one (length pool.candidates) (others plan runtime) number less
      (in_among number (others plan runtime) (filter_among (λ n. not (has runtime n)) plan number (among_in number plan (set_in (length pool.candidates) number plan e)) (ap not not_needed)))

  parts_step : (all some more b : Bool) → (some ≡ true → all ≡ true) → (more ≡ true → (all ≡ true) × (some ≡ false)) → (all ≡ true → some ≡ false → more ≡ true) → weight all b ≡ weight some b + weight more b
  parts_step true true true b within apart rest = absurd (false≢true (sym (apart refl).1))
  parts_step true true false b within apart rest = omega arith
  parts_step true false true b within apart rest = omega arith
  parts_step true false false b within apart rest = absurd (false≢true (rest refl refl))
  parts_step false true more b within apart rest = absurd (false≢true (within refl))
  parts_step false false true b within apart rest = absurd (false≢true (apart refl).0)
  parts_step false false false b within apart rest = omega arith

  parts : AreParts planned runtime left
  parts number b = parts_step (has planned number) (has runtime number) (has left number) b (within_plan pool plan runtime is number) (left_is number) (is_left number)

  -- ---- the lists of the lock

  listed_count : (r : Locked → Bool) (set : Chosen) (list : List Locked) → IsListing pool set list → count r list ≡ count (λ c. r (locked_of c)) (chosen set pool.candidates)
  listed_count r set list by = count_permuted r (map locked_of (chosen set pool.candidates)) list by.same ∙ count_map r locked_of (chosen set pool.candidates)

  pub both_count : (r : Locked → Bool) (packages packages_dev : List Locked) → IsListing pool runtime packages → IsListing pool left packages_dev
      → count r packages + count r packages_dev ≡ count (λ c. r (locked_of c)) (chosen planned pool.candidates)
  both_count r packages packages_dev one other =
      omega (arith, listed_count r runtime packages one, listed_count r left packages_dev other, count_parts (λ c. r (locked_of c)) pool.candidates planned runtime left parts)

  abbrev pub IsPlanned : Locked → Type 0
  IsPlanned locked = (c : Candidate) × Among c (chosen planned pool.candidates) × (locked_of c ≡ locked)

  listed_from : (set : Chosen) (list : List Locked) → ((number : ℕ) → has set number ≡ true → has planned number ≡ true) → IsListing pool set list → (locked : Locked) → Among locked list → IsPlanned locked
  listed_from set list within by locked there =
      let some = map locked_of (chosen set pool.candidates) in
      let found = one_of (λ (x : Locked). Among x some) list locked (all_listed (λ (x : Locked). Among x some) some list by (all_of (λ (x : Locked). Among x some) some (λ x here. here))) there in
      let c = among_map locked_of (chosen set pool.candidates) locked found in
      let at = among_chosen c.0 set pool.candidates c.1 in
      (c.0, chosen_among c.0 planned pool.candidates at.0 at.1 (within at.0 at.2), c.2)

  pub runtime_from : (packages : List Locked) → IsListing pool runtime packages → (locked : Locked) → Among locked packages → IsPlanned locked
  runtime_from packages by = listed_from runtime packages (within_plan pool plan runtime is) by

  pub left_from : (packages_dev : List Locked) → IsListing pool left packages_dev → (locked : Locked) → Among locked packages_dev → IsPlanned locked
  left_from packages_dev by = listed_from left packages_dev (λ number e. (left_is number e).0) by
