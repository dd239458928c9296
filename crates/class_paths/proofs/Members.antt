-- What stands in a list, and what a filter leaves of it.
use Rattle.std.proofs.Common.{◌≡◌, Bool, true, false, cond, List, [], ◌∷◌, filter, refl, sym, ap, subst, ◌∙◌, inl, inr}
use Rattle.std.specs.Prelude.{◌⊎◌, ◌||◌}
use Rattle.std.specs.List.{AllByRecursion, list_any}

or_true : (t : Bool) → (t || true) ≡ true
or_true true = refl
or_true false = refl

module _ {X : Type 0} where
  abbrev pub Member : X → List X → Type 0
  Member y [] = ⊥
  Member y (x ∷ xs) = (x ≡ y) ⊎ Member y xs

  pub all_member : (P : X → Type 0) (xs : List X) (y : X) → AllByRecursion P xs → Member y xs → P y
  all_member P [] y all found = absurd found
  all_member P (x ∷ xs) y all (inl e) = subst P e all.0
  all_member P (x ∷ xs) y all (inr found) = all_member P xs y all.1 found

  module _ (p : X → Bool) where
    -- what a filter leaves of one item and the rest
    filter_step : (t : Bool) (x y : X) (xs : List X) → p x ≡ t → (Member y (filter p xs) → Member y xs × (p y ≡ true)) → Member y (cond t (x ∷ filter p xs) (filter p xs)) → Member y (x ∷ xs) × (p y ≡ true)
    filter_step true x y xs e rest (inl same) = (inl same, ap p (sym same) ∙ e)
    filter_step true x y xs e rest (inr there) = let both = rest there in (inr both.0, both.1)
    filter_step false x y xs e rest there = let both = rest there in (inr both.0, both.1)

    pub member_filter : (xs : List X) (y : X) → Member y (filter p xs) → Member y xs × (p y ≡ true)
    member_filter [] y found = absurd found
    member_filter (x ∷ xs) y found = filter_step (p x) x y xs refl (λ there. member_filter xs y there) found

    kept_step : (t : Bool) (x y : X) (xs : List X) → Member y (filter p xs) → Member y (cond t (x ∷ filter p xs) (filter p xs))
    kept_step true x y xs there = inr there
    kept_step false x y xs there = there

    pub filter_member : (xs : List X) (y : X) → Member y xs → p y ≡ true → Member y (filter p xs)
    filter_member [] y found passes = absurd found
    filter_member (x ∷ xs) y (inl same) passes = rw (ap p same ∙ passes) (inl same)
    filter_member (x ∷ xs) y (inr there) passes = kept_step (p x) x y xs (filter_member xs y there passes)

    pub member_any : (xs : List X) (y : X) → Member y xs → p y ≡ true → list_any p xs ≡ true
    member_any [] y found passes = absurd found
    member_any (x ∷ xs) y (inl same) passes = rw (ap p same ∙ passes) refl
    member_any (x ∷ xs) y (inr there) passes = rw (member_any xs y there passes) (or_true (p x))

    pub any_none : (xs : List X) → ((y : X) → Member y xs → p y ≡ false) → list_any p xs ≡ false
    any_none [] none = refl
    any_none (x ∷ xs) none = rw (none x (inl refl)) (any_none xs (λ y there. none y (inr there)))

    pub filter_none : (xs : List X) → ((y : X) → Member y xs → p y ≡ false) → filter p xs ≡ []
    filter_none [] none = refl
    filter_none (x ∷ xs) none = rw (none x (inl refl)) (filter_none xs (λ y there. none y (inr there)))

    pub filter_all : (xs : List X) → ((y : X) → Member y xs → p y ≡ true) → filter p xs ≡ xs
    filter_all [] all = refl
    filter_all (x ∷ xs) all = rw (all x (inl refl)) (ap (λ list. x ∷ list) (filter_all xs (λ y there. all y (inr there))))
