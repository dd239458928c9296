-- What stands in lists that are made of lists.
use Rattle.std.proofs.Common.{◌≡◌, Bool, true, false, List, [], ◌∷◌, ◌++◌, map, inl, inr, refl, sym, ap, subst}
use Rattle.std.specs.Prelude.{◌⊎◌, ◌||◌}
use Rattle.std.specs.List.{flat_map, list_any}
use Rattle.class_paths.proofs.Members.{Member}
use Rattle.class_paths.proofs.TriedRows.{member_append}

module _ {X : Type 0} where
  pub member_front : (x : X) (xs ys : List X) → Member x xs → Member x (xs ++ ys)
  member_front x [] ys there = absurd there
  member_front x (y ∷ xs) ys (inl e) = inl e
  member_front x (y ∷ xs) ys (inr there) = inr (member_front x xs ys there)

  pub member_behind : (x : X) (xs ys : List X) → Member x ys → Member x (xs ++ ys)
  member_behind x [] ys there = there
  member_behind x (y ∷ xs) ys there = inr (member_behind x xs ys there)

  -- one that passes a test
  pub record IsPassing (test : X → Bool) (xs : List X) : Type 0 where
    pub one : X
    pub within : Member one xs
    pub passes : test one ≡ true

  pub any_passes : (test : X → Bool) (xs : List X) → list_any test xs ≡ true → IsPassing test xs
  any_passes test [] e = absurd cc
  any_passes test (x ∷ xs) e = by (test x) refl e (λ later. any_passes test xs later)
    where
      by : (b : Bool) → test x ≡ b → (b || list_any test xs) ≡ true → (list_any test xs ≡ true → IsPassing test xs) → IsPassing test (x ∷ xs)
      by true here some rest = record { one = x; within = inl refl; passes = here }
      by false here some rest = let found = rest some in record { one = found.one; within = inr found.within; passes = found.passes }

  -- an item of which another is made
  pub record IsMadeOf (P : X → Type 0) (xs : List X) : Type 0 where
    pub one : X
    pub is_one : Member one xs
    pub made : P one

module _ {X Y : Type 0} where
  pub unmapped : (f : X → Y) (xs : List X) (y : Y) → Member y (map f xs) → IsMadeOf (λ x. f x ≡ y) xs
  unmapped f [] y there = absurd there
  unmapped f (x ∷ xs) y (inl e) = record { one = x; is_one = inl refl; made = e }
  unmapped f (x ∷ xs) y (inr there) = let rest = unmapped f xs y there in record { one = rest.one; is_one = inr rest.is_one; made = rest.made }

  pub member_flat : (f : X → List Y) (xs : List X) (y : Y) → Member y (flat_map f xs) → IsMadeOf (λ x. Member y (f x)) xs
  member_flat f [] y there = absurd there
  member_flat f (x ∷ xs) y there = by (member_append y (f x) (flat_map f xs) there) (λ later. member_flat f xs y later)
    where
      by : Member y (f x) ⊎ Member y (flat_map f xs) → (Member y (flat_map f xs) → IsMadeOf (λ z. Member y (f z)) xs) → IsMadeOf (λ z. Member y (f z)) (x ∷ xs)
      by (inl here) rest = record { one = x; is_one = inl refl; made = here }
      by (inr later) rest = let found = rest later in record { one = found.one; is_one = inr found.is_one; made = found.made }

  pub flat_member : (f : X → List Y) (xs : List X) (x : X) (y : Y) → Member x xs → Member y (f x) → Member y (flat_map f xs)
  flat_member f [] x y there within = absurd there
  flat_member f (z ∷ xs) x y (inl e) within = member_front y (f z) (flat_map f xs) (subst (λ w. Member y (f w)) (sym e) within)
  flat_member f (z ∷ xs) x y (inr there) within = member_behind y (f z) (flat_map f xs) (flat_member f xs x y there within)

pub mapped_member : {X Y : Type 0} (f : X → Y) (xs : List X) (x : X) → Member x xs → Member (f x) (map f xs)
mapped_member f [] x there = absurd there
mapped_member f (y ∷ xs) x (inl e) = inl (ap f e)
mapped_member f (y ∷ xs) x (inr there) = inr (mapped_member f xs x there)
