-- What stands in lists, and what is found in them.
use Rattle.std.proofs.Common.{◌≡◌, ℕ, ◌+◌, ◌≤◌, Bool, true, false, cond, List, [], ◌∷◌, ◌++◌, length, map, filter, find, Some, None, refl, sym, ap, subst, ◌∙◌, arith, inl, inr}
use Rattle.std.specs.Prelude.{◌⊎◌, ◌||◌}
use Rattle.std.specs.List.{list_any, flat_map}
use Rattle.std.proofs.lemmas.Bool.{false≢true}

or_true : (t : Bool) → (t || true) ≡ true
or_true true = refl
or_true false = refl

one_passes : (t : Bool) (n : ℕ) → t ≡ true → 1 ≤ cond t 1 0 + n
one_passes t n e = rw e (omega arith)

module _ {X : Type 0} where
  -- an item of a list
  abbrev pub Among : X → List X → Type 0
  Among y [] = ⊥
  Among y (x ∷ xs) = (x ≡ y) ⊎ Among y xs

  pub among_left : (y : X) (xs ys : List X) → Among y xs → Among y (xs ++ ys)
  among_left y [] ys found = absurd found
  among_left y (x ∷ xs) ys (inl e) = inl e
  among_left y (x ∷ xs) ys (inr found) = inr (among_left y xs ys found)

  pub among_right : (y : X) (xs ys : List X) → Among y ys → Among y (xs ++ ys)
  among_right y [] ys found = found
  among_right y (x ∷ xs) ys found = inr (among_right y xs ys found)

  pub among_either : (y : X) (xs ys : List X) → Among y (xs ++ ys) → Among y xs ⊎ Among y ys
  among_either y [] ys found = inr found
  among_either y (x ∷ xs) ys (inl e) = inl (inl e)
  among_either y (x ∷ xs) ys (inr found) = step (among_either y xs ys found)
    where
      step : Among y xs ⊎ Among y ys → ((x ≡ y) ⊎ Among y xs) ⊎ Among y ys
      step (inl left) = inl (inr left)
      step (inr right) = inr right

  module _ (p : X → Bool) where
    find_here : (t : Bool) (x : X) (xs : List X) → p x ≡ t → cond t (Some x) (find p xs) ≡ None → p x ≡ false
    find_here true x xs e none = absurd cc
    find_here false x xs e none = e

    find_later : (t : Bool) (x : X) (xs : List X) → p x ≡ t → cond t (Some x) (find p xs) ≡ None → find p xs ≡ None
    find_later true x xs e none = absurd cc
    find_later false x xs e none = none

    pub find_none : (xs : List X) (y : X) → find p xs ≡ None → Among y xs → p y ≡ false
    find_none [] y none found = absurd found
    find_none (x ∷ xs) y none (inl same) = ap p (sym same) ∙ find_here (p x) x xs refl none
    find_none (x ∷ xs) y none (inr there) = find_none xs y (find_later (p x) x xs refl none) there

    pub none_found : (xs : List X) → ((y : X) → Among y xs → p y ≡ false) → find p xs ≡ None
    none_found [] none = refl
    none_found (x ∷ xs) none = rw (none x (inl refl)) (none_found xs (λ y there. none y (inr there)))

    pub any_among : (xs : List X) (y : X) → Among y xs → p y ≡ true → list_any p xs ≡ true
    any_among [] y found passes = absurd found
    any_among (x ∷ xs) y (inl same) passes = rw (ap p same ∙ passes) refl
    any_among (x ∷ xs) y (inr there) passes = rw (any_among xs y there passes) (or_true (p x))

    some_step : (t : Bool) (x : X) (xs : List X) → p x ≡ t → (t || list_any p xs) ≡ true → (list_any p xs ≡ true → (y : X) × Among y xs × (p y ≡ true)) → (y : X) × Among y (x ∷ xs) × (p y ≡ true)
    some_step true x xs e found rest = (x, inl refl, e)
    some_step false x xs e found rest = let one = rest found in (one.0, inr one.1, one.2)

    pub among_any : (xs : List X) → list_any p xs ≡ true → (y : X) × Among y xs × (p y ≡ true)
    among_any [] found = absurd (false≢true found)
    among_any (x ∷ xs) found = some_step (p x) x xs refl found (λ rest. among_any xs rest)

    filter_step : (t : Bool) (x y : X) (xs : List X) → p x ≡ t → (Among y (filter p xs) → Among y xs × (p y ≡ true)) → Among y (cond t (x ∷ filter p xs) (filter p xs)) → Among y (x ∷ xs) × (p y ≡ true)
    filter_step true x y xs e rest (inl same) = (inl same, ap p (sym same) ∙ e)
    filter_step true x y xs e rest (inr there) = let both = rest there in (inr both.0, both.1)
    filter_step false x y xs e rest there = let both = rest there in (inr both.0, both.1)

    pub among_filter : (xs : List X) (y : X) → Among y (filter p xs) → Among y xs × (p y ≡ true)
    among_filter [] y found = absurd found
    among_filter (x ∷ xs) y found = filter_step (p x) x y xs refl (λ there. among_filter xs y there) found

    pub filter_empty : (xs : List X) → ((y : X) → Among y xs → p y ≡ false) → filter p xs ≡ []
    filter_empty [] none = refl
    filter_empty (x ∷ xs) none = rw (none x (inl refl)) (filter_empty xs (λ y there. none y (inr there)))

    kept_step : (t : Bool) (x y : X) (xs : List X) → Among y (filter p xs) → Among y (cond t (x ∷ filter p xs) (filter p xs))
    kept_step true x y xs there = inr there
    kept_step false x y xs there = there

    pub filter_among : (xs : List X) (y : X) → Among y xs → p y ≡ true → Among y (filter p xs)
    filter_among [] y found passes = absurd found
    filter_among (x ∷ xs) y (inl same) passes = rw (ap p same ∙ passes) (inl same)
    filter_among (x ∷ xs) y (inr there) passes = kept_step (p x) x y xs (filter_among xs y there passes)

  -- how many pass
  abbrev pub count : (X → Bool) → List X → ℕ
  count p [] = 0
  count p (x ∷ xs) = cond (p x) 1 0 + count p xs

  length_step : (t : Bool) (x : X) (xs : List X) (n : ℕ) → length xs ≡ n → length (cond t (x ∷ xs) xs) ≡ cond t 1 0 + n
  length_step true x xs n e = omega (arith, e)
  length_step false x xs n e = omega (arith, e)

  pub length_filter : (p : X → Bool) (xs : List X) → length (filter p xs) ≡ count p xs
  length_filter p [] = refl
  length_filter p (x ∷ xs) = length_step (p x) x (filter p xs) (count p xs) (length_filter p xs)

  pub count_one : (p : X → Bool) (xs : List X) (y : X) → Among y xs → p y ≡ true → 1 ≤ count p xs
  count_one p [] y found passes = absurd found
  count_one p (x ∷ xs) y (inl same) passes = one_passes (p x) (count p xs) (ap p same ∙ passes)
  count_one p (x ∷ xs) y (inr there) passes = omega (arith, count_one p xs y there passes)

  one_step : (p : X → Bool) (t : Bool) (x : X) (xs : List X) → p x ≡ t → 1 ≤ cond t 1 0 + count p xs → (1 ≤ count p xs → (y : X) × Among y xs × (p y ≡ true)) → (y : X) × Among y (x ∷ xs) × (p y ≡ true)
  one_step p true x xs e some rest = (x, inl refl, e)
  one_step p false x xs e some rest = let one = rest (omega (arith, some)) in (one.0, inr one.1, one.2)

  pub counted : (p : X → Bool) (xs : List X) → 1 ≤ count p xs → (y : X) × Among y xs × (p y ≡ true)
  counted p [] some = absurd (omega (arith, some))
  counted p (x ∷ xs) some = one_step p (p x) x xs refl some (λ rest. counted p xs rest)

module _ {X Y : Type 0} where
  pub among_map : (f : X → Y) (xs : List X) (y : Y) → Among y (map f xs) → (x : X) × Among x xs × (f x ≡ y)
  among_map f [] y found = absurd found
  among_map f (x ∷ xs) y (inl e) = (x, inl refl, e)
  among_map f (x ∷ xs) y (inr found) = let one = among_map f xs y found in (one.0, inr one.1, one.2)

  pub map_among : (f : X → Y) (xs : List X) (x : X) → Among x xs → Among (f x) (map f xs)
  map_among f [] x found = absurd found
  map_among f (z ∷ xs) x (inl e) = inl (ap f e)
  map_among f (z ∷ xs) x (inr found) = inr (map_among f xs x found)

  among_flat_step : (f : X → List Y) (x : X) (xs : List X) (y : Y) → Among y (f x) ⊎ Among y (flat_map f xs) → (Among y (flat_map f xs) → (x : X) × Among x xs × Among y (f x)) → (z : X) × Among z (x ∷ xs) × Among y (f z)
  among_flat_step f x xs y (inl here) rest = (x, inl refl, here)
  among_flat_step f x xs y (inr there) rest = let one = rest there in (one.0, inr one.1, one.2)

  pub among_flat_map : (f : X → List Y) (xs : List X) (y : Y) → Among y (flat_map f xs) → (x : X) × Among x xs × Among y (f x)
  among_flat_map f [] y found = absurd found
  among_flat_map f (x ∷ xs) y found = among_flat_step f x xs y (among_either y (f x) (flat_map f xs) found) (λ there. among_flat_map f xs y there)

  pub flat_map_among : (f : X → List Y) (xs : List X) (x : X) (y : Y) → Among x xs → Among y (f x) → Among y (flat_map f xs)
  flat_map_among f [] x y found there = absurd found
  flat_map_among f (z ∷ xs) x y (inl e) there = among_left y (f z) (flat_map f xs) (subst (λ w. Among y (f w)) (sym e) there)
  flat_map_among f (z ∷ xs) x y (inr found) there = among_right y (f z) (flat_map f xs) (flat_map_among f xs x y found there)

  pub count_map : (p : Y → Bool) (f : X → Y) (xs : List X) → count p (map f xs) ≡ count (λ x. p (f x)) xs
  count_map p f [] = refl
  count_map p f (x ∷ xs) = ap (λ n. cond (p (f x)) 1 0 + n) (count_map p f xs)
