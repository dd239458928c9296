-- What a test says of each element of a list.
use Rattle.std.proofs.Common.{◌≡◌, Bool, true, false, List, [], ◌∷◌, ◌⊎◌, inl, inr, refl}
use Rattle.std.specs.Prelude.{◌&&◌, ◌||◌}
use Rattle.std.specs.List.{list_all, list_any}

pub both : (a b : Bool) → (a && b) ≡ true → (a ≡ true) × (b ≡ true)
both true true e = (refl, refl)
both true false e = absurd cc
both false b e = absurd cc

pub neither : (a b : Bool) → (a || b) ≡ false → (a ≡ false) × (b ≡ false)
neither true b e = absurd cc
neither false true e = absurd cc
neither false false e = (refl, refl)

abbrev pub IsIn : {X : Type 0} → X → List X → Type 0
IsIn x [] = ⊥
IsIn x (y ∷ ys) = (x ≡ y) ⊎ IsIn x ys

pub all_at : {X : Type 0} (p : X → Bool) (xs : List X) (x : X) → list_all p xs ≡ true → IsIn x xs → p x ≡ true
all_at p [] x all is = absurd is
all_at p (y ∷ ys) x all (inl e) = rw e (both (p y) (list_all p ys) all).0
all_at p (y ∷ ys) x all (inr is) = all_at p ys x (both (p y) (list_all p ys) all).1 is

pub all_from : {X : Type 0} (p : X → Bool) (xs : List X) → ((x : X) → IsIn x xs → p x ≡ true) → list_all p xs ≡ true
all_from p [] each = refl
all_from p (y ∷ ys) each = rw (each y (inl refl)) (all_from p ys (λ x is. each x (inr is)))

pub none_at : {X : Type 0} (p : X → Bool) (xs : List X) (x : X) → list_any p xs ≡ false → IsIn x xs → p x ≡ false
none_at p [] x none is = absurd is
none_at p (y ∷ ys) x none (inl e) = rw e (neither (p y) (list_any p ys) none).0
none_at p (y ∷ ys) x none (inr is) = none_at p ys x (neither (p y) (list_any p ys) none).1 is

pub none_from : {X : Type 0} (p : X → Bool) (xs : List X) → ((x : X) → IsIn x xs → p x ≡ false) → list_any p xs ≡ false
none_from p [] each = refl
none_from p (y ∷ ys) each = rw (each y (inl refl)) (none_from p ys (λ x is. each x (inr is)))
