-- The paths on the way of some names from a folder.
use Rattle.std.proofs.Common.{◌≡◌, ℕ, Bool, true, false, ◌||◌, List, [], ◌∷◌, ◌++◌, Option, Some, None, is_some, refl, sym, ap, ◌∙◌, append_assoc, append-nil}
use Rattle.path_name.specs.Paths.{without_last}
use Rattle.tree_dev.specs.Trees.{behind}
use Rattle.tree_dev.specs.Projects.{is_within}
use Rattle.tree_dev.proofs.Behind.{behind_head, head_behind}
use Rattle.tree_dev.proofs.NameOrder.{same_head}
use Rattle.tree_dev.proofs.SamePaths.{apart, is_same, is_same_path, same_path}
use Rattle.tree_dev.proofs.Snoc.{IsSnoc, snoc_of, without_last-snoc}
use Rattle.stage_job.specs.Above.{begins_names, is_front}
use Rattle.std.proofs.Math.Bool.{or-true}
use Rattle.stage_job.proofs.Below.{some_is}
use Rattle.stage_job.proofs.Made.{same_some}

pub within_is : (head path rest : List (List ℕ)) → path ≡ head ++ rest → is_within head path ≡ true
within_is head path rest is = ap (is_within head) is ∙ ap is_some (behind_head head rest)

pub is_within_path : (head path : List (List ℕ)) → is_within head path ≡ true → (rest : List (List ℕ)) × (path ≡ head ++ rest)
is_within_path head path e = let r = some_is (behind head path) e in (r.0, head_behind head path r.0 r.1)

same_front : (a b : List (List ℕ)) (x y : List ℕ) → a ++ x ∷ [] ≡ b ++ y ∷ [] → a ≡ b
same_front a b x y e = same_some a b (sym (without_last-snoc a x) ∙ ap without_last e ∙ without_last-snoc b y)

-- a path begins one name more where it begins the names, or is all of them
module _ (f names : List (List ℕ)) (x : List ℕ) where
  longer : (b : Bool) → is_within f (names ++ x ∷ []) ≡ b → b ≡ (is_within f names || is_same f (names ++ x ∷ []))
  longer true e = by (is_within_path f (names ++ x ∷ []) e).0 (is_within_path f (names ++ x ∷ []) e).1
    where
      by : (rest : List (List ℕ)) → names ++ x ∷ [] ≡ f ++ rest → true ≡ (is_within f names || is_same f (names ++ x ∷ []))
      by [] is = sym (ap (λ (b : Bool). is_within f names || b) (is_same_path f (names ++ x ∷ []) (sym (is ∙ append-nil f))) ∙ or-true (is_within f names))
      by (y ∷ ys) is =
          let last : IsSnoc (y ∷ ys) = snoc_of (y ∷ ys) refl in
          let whole : names ++ x ∷ [] ≡ (f ++ last.front) ++ last.last ∷ [] = is ∙ ap (λ (p : List (List ℕ)). f ++ p) last.is ∙ sym (append_assoc f last.front (last.last ∷ [])) in
          sym (ap (λ (b : Bool). b || is_same f (names ++ x ∷ [])) (within_is f names last.front (same_front names (f ++ last.front) x last.last whole)))
  longer false e = by (is_within f names) refl (is_same f (names ++ x ∷ [])) refl
    where
      by : (w : Bool) → is_within f names ≡ w → (s : Bool) → is_same f (names ++ x ∷ []) ≡ s → false ≡ (w || s)
      by true w s k =
          let r = is_within_path f names w in
          absurd (let more = within_is f (names ++ x ∷ []) (r.0 ++ x ∷ []) (ap (λ (p : List (List ℕ)). p ++ x ∷ []) r.1 ∙ append_assoc f r.0 (x ∷ [])) in cc)
      by false w true k =
          absurd (let more = within_is f (names ++ x ∷ []) [] (sym (same_path f (names ++ x ∷ []) k) ∙ sym (append-nil f)) in cc)
      by false w false k = refl

  pub within_more : is_within f (names ++ x ∷ []) ≡ (is_within f names || is_same f (names ++ x ∷ []))
  within_more = longer (is_within f (names ++ x ∷ [])) refl

module _ (base names : List (List ℕ)) (x : List ℕ) (path : List (List ℕ)) where
  not_nil : (front : List (List ℕ)) → [] ≡ front ++ x ∷ [] → ⊥
  not_nil [] e = absurd cc
  not_nil (y ∷ ys) e = absurd cc

  by_front : (o : Option (List (List ℕ))) → behind base path ≡ o → begins_names o (names ++ x ∷ []) ≡ (begins_names o names || is_same path (base ++ (names ++ x ∷ [])))
  by_front None e = sym (apart path (base ++ (names ++ x ∷ [])) (λ same. let here : behind base path ≡ Some (names ++ x ∷ []) = ap (behind base) same ∙ behind_head base (names ++ x ∷ []) in absurd cc))
  by_front (Some []) e = sym (apart path (base ++ (names ++ x ∷ [])) (λ same.
      let here : behind base path ≡ Some (names ++ x ∷ []) = ap (behind base) same ∙ behind_head base (names ++ x ∷ []) in
      not_nil names (same_some [] (names ++ x ∷ []) (sym e ∙ here))))
  by_front (Some (first ∷ front)) e =
      within_more (first ∷ front) names x
      ∙ ap (λ (b : Bool). is_within (first ∷ front) names || b)
      (sym (ap (λ (p : List (List ℕ)). is_same p (base ++ (names ++ x ∷ []))) (head_behind base path (first ∷ front) e) ∙ same_there))
    where
      same_there : is_same (base ++ first ∷ front) (base ++ (names ++ x ∷ [])) ≡ is_same (first ∷ front) (names ++ x ∷ [])
      same_there = rw (same_head base (first ∷ front) (names ++ x ∷ [])) refl

  pub front_more : is_front base (names ++ x ∷ []) path ≡ (is_front base names path || is_same path (base ++ (names ++ x ∷ [])))
  front_more = by_front (behind base path) refl

none_begin : (o : Option (List (List ℕ))) → begins_names o [] ≡ false
none_begin None = refl
none_begin (Some []) = refl
none_begin (Some (first ∷ front)) = refl

pub no_front : (base path : List (List ℕ)) → is_front base [] path ≡ false
no_front base path = none_begin (behind base path)
