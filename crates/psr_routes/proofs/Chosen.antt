-- Which one is chosen of numbered packages.
use Rattle.std.proofs.Common.{◌≡◌, ℕ, zero, suc, ◌+◌, ◌<◌, ◌≤◌, Bool, true, false, cond, not, List, [], ◌∷◌, ◌++◌, length, filter, find, Some, refl, sym, ap, subst, ◌∙◌, append_assoc, arith, inl, inr}
use Rattle.std.specs.Prelude.{◌⊎◌, ◌||◌, ◌&&◌, ⊤}
use Rattle.std.specs.List.{AllByRecursion, list_any, enumerate_from, slice_get}
use Rattle.std.proofs.lemmas.Bool.{false≢true}
use Rattle.psr_routes.specs.declared.types.Placed.{Placed}
use Rattle.psr_routes.specs.PackageOrder.{Numbered, is_less, least_of}

-- ---- what stands in a list

or_true : (t : Bool) → (t || true) ≡ true
or_true true = refl
or_true false = refl

module _ {X : Type 0} where
  abbrev pub Member : X → List X → Type 0
  Member y [] = ⊥
  Member y (x ∷ xs) = (x ≡ y) ⊎ Member y xs

  pub all_member : (P : X → Type 0) (xs : List X) (y : X) → AllByRecursion P xs → Member y xs → P y
  all_member P [] y all found = absurd found
  all_member P (x ∷ xs) y all (inl e) = subst P e all.0
  all_member P (x ∷ xs) y all (inr found) = all_member P xs y all.1 found

  module _ (p : X → Bool) where
    -- what a filter leaves of one item and the rest
    filter_step : (t : Bool) (x y : X) (xs : List X) → p x ≡ t → (Member y (filter p xs) → Member y xs × (p y ≡ true)) → Member y (cond t (x ∷ filter p xs) (filter p xs)) → Member y (x ∷ xs) × (p y ≡ true)
    filter_step true x y xs e rest (inl same) = (inl same, ap p (sym same) ∙ e)
    filter_step true x y xs e rest (inr there) = let both = rest there in (inr both.0, both.1)
    filter_step false x y xs e rest there = let both = rest there in (inr both.0, both.1)

    pub member_filter : (xs : List X) (y : X) → Member y (filter p xs) → Member y xs × (p y ≡ true)
    member_filter [] y found = absurd found
    member_filter (x ∷ xs) y found = filter_step (p x) x y xs refl (λ there. member_filter xs y there) found

    kept_step : (t : Bool) (x y : X) (xs : List X) → Member y (filter p xs) → Member y (cond t (x ∷ filter p xs) (filter p xs))
    kept_step true x y xs there = inr there
    kept_step false x y xs there = there

    pub filter_member : (xs : List X) (y : X) → Member y xs → p y ≡ true → Member y (filter p xs)
    filter_member [] y found passes = absurd found
    filter_member (x ∷ xs) y (inl same) passes = rw (ap p same ∙ passes) (inl same)
    filter_member (x ∷ xs) y (inr there) passes = kept_step (p x) x y xs (filter_member xs y there passes)

    pub member_any : (xs : List X) (y : X) → Member y xs → p y ≡ true → list_any p xs ≡ true
    member_any [] y found passes = absurd found
    member_any (x ∷ xs) y (inl same) passes = rw (ap p same ∙ passes) refl
    member_any (x ∷ xs) y (inr there) passes = rw (member_any xs y there passes) (or_true (p x))

    pub any_none : (xs : List X) → ((y : X) → Member y xs → p y ≡ false) → list_any p xs ≡ false
    any_none [] none = refl
    any_none (x ∷ xs) none = rw (none x (inl refl)) (any_none xs (λ y there. none y (inr there)))

    pub filter_none : (xs : List X) → ((y : X) → Member y xs → p y ≡ false) → filter p xs ≡ []
    filter_none [] none = refl
    filter_none (x ∷ xs) none = rw (none x (inl refl)) (filter_none xs (λ y there. none y (inr there)))

    pub filter_all : (xs : List X) → ((y : X) → Member y xs → p y ≡ true) → filter p xs ≡ xs
    filter_all [] all = refl
    filter_all (x ∷ xs) all = rw (all x (inl refl)) (ap (λ list. x ∷ list) (filter_all xs (λ y there. all y (inr there))))

-- ---- numbered packages

-- their places ascend
abbrev pub Ascends : List Numbered → Type 0
Ascends [] = ⊤
Ascends (x ∷ xs) = AllByRecursion (λ y. x.0 < y.0) xs × Ascends xs

all_above : (few from : ℕ) (members : List Placed) → few < from → AllByRecursion (λ y. few < y.0) (enumerate_from from members)
all_above few from [] less = tt
all_above few from (x ∷ members) less = (less, all_above few (from + 1) members (omega (arith, less)))

pub ascending : (from : ℕ) (members : List Placed) → Ascends (enumerate_from from members)
ascending from [] = tt
ascending from (x ∷ members) = (all_above from (from + 1) members (omega arith), ascending (from + 1) members)

filtered_step : (P : Numbered → Type 0) (t : Bool) (x : Numbered) (kept : List Numbered) → P x → AllByRecursion P kept → AllByRecursion P (cond t (x ∷ kept) kept)
filtered_step P true x kept one all = (one, all)
filtered_step P false x kept one all = all

filtered : (P : Numbered → Type 0) (p : Numbered → Bool) (xs : List Numbered) → AllByRecursion P xs → AllByRecursion P (filter p xs)
filtered P p [] all = tt
filtered P p (x ∷ xs) all = filtered_step P (p x) x (filter p xs) all.0 (filtered P p xs all.1)

ascending_step : (t : Bool) (x : Numbered) (kept : List Numbered) → AllByRecursion (λ y. x.0 < y.0) kept → Ascends kept → Ascends (cond t (x ∷ kept) kept)
ascending_step true x kept above rest = (above, rest)
ascending_step false x kept above rest = rest

pub ascending_filter : (p : Numbered → Bool) (xs : List Numbered) → Ascends xs → Ascends (filter p xs)
ascending_filter p [] all = tt
ascending_filter p (x ∷ xs) all = ascending_step (p x) x (filter p xs) (filtered (λ y. x.0 < y.0) p xs all.0) (ascending_filter p xs all.1)

-- the first that passes, where each other one that does stands at no lesser place
find_step : (p : Numbered → Bool) (t : Bool) (x one : Numbered) (xs : List Numbered) → p x ≡ t → x.0 < one.0 → (p x ≡ true → one.0 ≤ x.0) → find p xs ≡ Some one → cond t (Some x) (find p xs) ≡ Some one
find_step p true x one xs e less least rest = absurd (omega (arith, less, least e))
find_step p false x one xs e less least rest = rest

find_first : (p : Numbered → Bool) (xs : List Numbered) (one : Numbered) → Ascends xs → Member one xs → p one ≡ true → ((y : Numbered) → Member y xs → p y ≡ true → one.0 ≤ y.0) → find p xs ≡ Some one
find_first p [] one ascends found passes least = absurd found
find_first p (x ∷ xs) one ascends (inl same) passes least = rw (ap p same ∙ passes) (ap Some same)
find_first p (x ∷ xs) one ascends (inr there) passes least =
    find_step p (p x) x one xs refl (all_member (λ y. x.0 < y.0) xs one ascends.0 there) (λ e. least x (inl refl) e) (find_first p xs one ascends.1 there passes (λ y also. least y (inr also)))

pub least_is : (xs : List Numbered) (one : Numbered) → Ascends xs → Member one xs → ((y : Numbered) → Member y xs → is_less y one ≡ false) → ((y : Numbered) → Member y xs → is_less one y ≡ false → one.0 ≤ y.0) → least_of xs ≡ Some one
least_is xs one ascends found none first =
    find_first (λ x. not (list_any (λ y. is_less y x) xs)) xs one ascends found (ap not (any_none (λ y. is_less y one) xs none))
    (λ y there e. first y there (by y (is_less one y) refl e))
  where
    by : (y : Numbered) (t : Bool) → is_less one y ≡ t → not (list_any (λ x. is_less x y) xs) ≡ true → t ≡ false
    by y true e f = absurd (false≢true (sym (ap not (member_any (λ x. is_less x y) xs one found e)) ∙ f))
    by y false e f = refl

-- ---- places

abbrev pub IsAt : List Placed → Numbered → Type 0
IsAt members one = slice_get members one.0 ≡ Some one.1

at_place : (front : List Placed) (x : Placed) (back : List Placed) → slice_get (front ++ x ∷ back) (length front) ≡ Some x
at_place [] x back = refl
at_place (y ∷ front) x back = at_place front x back

length_more : (front : List Placed) (x : Placed) → length (front ++ x ∷ []) ≡ length front + 1
length_more [] x = refl
length_more (y ∷ front) x = omega (arith, length_more front x)

pub numbered : (front back : List Placed) → AllByRecursion (IsAt (front ++ back)) (enumerate_from (length front) back)
numbered front [] = tt
numbered front (x ∷ back) = (
  at_place front x back,
  subst (λ all. AllByRecursion (IsAt all) (enumerate_from (length front + 1) back)) (append_assoc front (x ∷ []) back)
      (subst (λ n. AllByRecursion (IsAt ((front ++ x ∷ []) ++ back)) (enumerate_from n back)) (length_more front x) (numbered (front ++ x ∷ []) back)),
)

abbrev pair_of : Placed → ℕ → Numbered
pair_of x n = (n, x)

same_number : (a b : ℕ) (x y : Placed) → a ≡ b → x ≡ y → ◌≡◌ {A = Numbered} (a, x) (b, y)
same_number a b x y e f =
    let first : ◌≡◌ {A = Numbered} (a, x) (b, x) = ap (pair_of x) e in
    first ∙ ap (λ z. pair_of z b) f

counted_from : (from : ℕ) (members : List Placed) (k : ℕ) (x : Placed) → slice_get members k ≡ Some x → Member (from + k, x) (enumerate_from from members)
counted_from from [] k x e = absurd cc
counted_from from (y ∷ members) zero x e = inl (same_number from (from + 0) y x (omega arith) cc)
counted_from from (y ∷ members) (suc k) x e = inr (subst (λ n. Member (n, x) (enumerate_from (from + 1) members)) (omega arith) (counted_from (from + 1) members k x e))

pub enumerated : (members : List Placed) (place : ℕ) (one : Placed) → slice_get members place ≡ Some one → Member (place, one) (enumerate_from 0 members)
enumerated members place one e = subst (λ n. Member (n, one) (enumerate_from 0 members)) (omega arith) (counted_from 0 members place one e)

-- ---- filters

pub filter_same : (p q : Numbered → Bool) → ((x : Numbered) → p x ≡ q x) → (xs : List Numbered) → filter p xs ≡ filter q xs
filter_same p q same [] = refl
filter_same p q same (x ∷ xs) = rw (same x, filter_same p q same xs) refl

both_ways : (p : Numbered → Bool) (t : Bool) (x : Numbered) (xs all : List Numbered) → filter p xs ≡ all → filter p (cond t (x ∷ xs) xs) ≡ cond (t && p x) (x ∷ all) all
both_ways p true x xs all e = ap (λ zs. cond (p x) (x ∷ zs) zs) e
both_ways p false x xs all e = e

pub filter_twice : (p q : Numbered → Bool) (xs : List Numbered) → filter p (filter q xs) ≡ filter (λ x. q x && p x) xs
filter_twice p q [] = refl
filter_twice p q (x ∷ xs) = both_ways p (q x) x (filter q xs) (filter (λ y. q y && p y) xs) (filter_twice p q xs)
