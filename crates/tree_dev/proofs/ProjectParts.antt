-- The parts of a project lie apart.
use Rattle.std.proofs.Common.{◌≡◌, ◌≢◌, Bool, true, false, List, [], ◌∷◌, ◌++◌, ℕ, Option, Some, None, is_some, cond, codes, refl, sym, ap, ◌∙◌, append_assoc, inl, inr, append-nil, ap₂}
use Rattle.std.specs.Prelude.{◌||◌, not}
use Rattle.std.proofs.lemmas.Bool.{not-true}
use Rattle.path_name.specs.Orders.{bytes_are_equal}
use Rattle.tree_dev.specs.Trees.{behind}
use Rattle.tree_dev.specs.Projects.{is_project_part, is_surroundings, is_within, journal_path, lock_path, vendor_path, work_path}
use Rattle.tree_dev.specs.Steady.{IsStaged}
use Rattle.tree_dev.specs.Told.{both, one_of}
use Rattle.tree_dev.proofs.Behind.{behind_head, bytes_same, head_behind, same_bytes}

-- what stands behind a longer path is sought behind what follows
pub behind_same_head : (head a b : List (List ℕ)) → behind (head ++ a) (head ++ b) ≡ behind a b
behind_same_head [] a b = refl
behind_same_head (first ∷ head) a b = rw (bytes_same first) (behind_same_head head a b)

-- no path lies in two folders of a project
apart_step : (project q : List (List ℕ)) (a b : List ℕ) (rest : Option (List (List ℕ))) → bytes_are_equal b a ≡ false → behind (project ++ a ∷ []) q ≡ rest
    → is_some rest ≡ true → is_within (project ++ b ∷ []) q ≡ false
apart_step project q a b None other is within = absurd cc
apart_step project q a b (Some rest) other is within =
    let whole : q ≡ project ++ a ∷ rest = head_behind (project ++ a ∷ []) q rest is ∙ append_assoc project (a ∷ []) rest in
    ap (λ (p : List (List ℕ)). is_within (project ++ b ∷ []) p) whole ∙ ap is_some (behind_same_head project (b ∷ []) (a ∷ rest)) ∙ rw other refl

pub within_one : (project q : List (List ℕ)) (a b : List ℕ) → bytes_are_equal b a ≡ false → is_within (project ++ a ∷ []) q ≡ true → is_within (project ++ b ∷ []) q ≡ false
within_one project q a b other within = apart_step project q a b (behind (project ++ a ∷ []) q) other refl within

-- neither the project's files nor its surroundings lie in `.install`
pub part_is_apart : (project q : List (List ℕ)) → is_project_part project q ≡ true → is_within (work_path project) q ≡ false
unfolding is_project_part
part_is_apart project q part = elim (one_of (is_within (lock_path project) q) (is_within (vendor_path project) q) part) [
  | inl lock ↦ within_one project q (codes "composer.lock") (codes ".install") refl lock
  | inr vendor ↦ within_one project q (codes "vendor") (codes ".install") refl vendor
]

pub surroundings_are_apart : (project q : List (List ℕ)) → is_surroundings project q ≡ true → is_within (work_path project) q ≡ false
unfolding is_surroundings
surroundings_are_apart project q out = not-true _ (both (not (is_project_part project q)) (not (is_within (work_path project) q)) out).1

pub vendor_is_no_surroundings : (project q : List (List ℕ)) → is_within (vendor_path project) q ≡ true → is_surroundings project q ≡ true → ⊥
unfolding is_surroundings is_project_part
vendor_is_no_surroundings project q vendor out =
    let part = not-true _ (both (not (is_project_part project q)) (not (is_within (work_path project) q)) out).0 in
    let lock : (is_within (lock_path project) q || is_within (vendor_path project) q) ≡ true = by_lock (is_within (lock_path project) q) vendor in
    absurd cc
  where
    by_lock : (b : Bool) → is_within (vendor_path project) q ≡ true → (b || is_within (vendor_path project) q) ≡ true
    by_lock true e = refl
    by_lock false e = e

pub journal_within : (project : List (List ℕ)) → behind (work_path project) (journal_path project) ≡ Some (codes "journal" ∷ [])
journal_within project = behind_same_head project (codes ".install" ∷ []) (codes ".install" ∷ codes "journal" ∷ [])

pub journal_not_in_vendor : (project : List (List ℕ)) → is_within (vendor_path project) (journal_path project) ≡ false
journal_not_in_vendor project = within_one project (journal_path project) (codes ".install") (codes "vendor") refl (ap is_some (journal_within project))

-- A path that lies in no folder lies below no path of that folder.
within_step : (head at q : List (List ℕ)) (rest : Option (List (List ℕ))) (more : Option (List (List ℕ))) → behind head at ≡ rest → is_some rest ≡ true → behind at q ≡ more → is_some more ≡ true
    → is_within head q ≡ true
within_step head at q None more is_rest has is_more has_more = absurd cc
within_step head at q (Some rest) None is_rest has is_more has_more = absurd cc
within_step head at q (Some rest) (Some more) is_rest has is_more has_more =
    let whole : q ≡ head ++ (rest ++ more) = head_behind at q more is_more ∙ ap (λ (p : List (List ℕ)). p ++ more) (head_behind head at rest is_rest) ∙ append_assoc head rest more in
    ap (λ (p : List (List ℕ)). is_within head p) whole ∙ ap is_some (behind_head head (rest ++ more))

pub within_on : (head at q : List (List ℕ)) → is_within head at ≡ true → is_within at q ≡ true → is_within head q ≡ true
within_on head at q first second = within_step head at q (behind head at) (behind at q) refl first refl second

none_of : (o : Option (List (List ℕ))) → (is_some o ≡ true → ⊥) → o ≡ None
none_of None never = refl
none_of (Some x) never = absurd (never refl)

pub outside : (head at q : List (List ℕ)) → is_within head at ≡ true → is_within head q ≡ false → behind at q ≡ None
outside head at q within out = none_of (behind at q) (λ below. let f = within_on head at q within below in absurd cc)

-- at the folder, at one entry of it, or deeper
one_more : (head at : List (List ℕ)) (name : List ℕ) (rest : List (List ℕ)) (more : Option (List (List ℕ))) → at ≡ head ++ rest → at ≢ head → at ≢ head ++ name ∷ [] → behind at (head ++ name ∷ []) ≡ more → more ≡ None
one_more head at name [] more is folder entry found = absurd (folder (is ∙ append-nil head))
one_more head at name (first ∷ rest) more is folder entry found =
    sym found ∙ ap (λ (p : List (List ℕ)). behind p (head ++ name ∷ [])) is ∙ behind_same_head head (first ∷ rest) (name ∷ []) ∙ one_step
  where
    by_same : (b : Bool) (deeper : List (List ℕ)) → bytes_are_equal first name ≡ b → rest ≡ deeper → cond b (behind deeper []) None ≡ None
    by_same true [] same none = absurd (entry (is ∙ ap (λ (p : List (List ℕ)). head ++ p) (ap₂ (λ (s : List ℕ) (p : List (List ℕ)). s ∷ p) (same_bytes first name same) none)))
    by_same true (x ∷ xs) same none = refl
    by_same false deeper same none = refl

    one_step : behind (first ∷ rest) (name ∷ []) ≡ None
    one_step = by_same (bytes_are_equal first name) rest refl refl

-- The journal lies below no staged path but `.install` itself.
pub journal_outside : (project at : List (List ℕ)) → IsStaged project at → at ≢ work_path project → behind at (journal_path project) ≡ None
journal_outside project at staged folder = by_rest (behind (work_path project) at) refl staged.within
  where
    journal_is : journal_path project ≡ work_path project ++ codes "journal" ∷ []
    journal_is = sym (append_assoc project (codes ".install" ∷ []) (codes "journal" ∷ []))

    by_rest : (rest : Option (List (List ℕ))) → behind (work_path project) at ≡ rest → is_some rest ≡ true → behind at (journal_path project) ≡ None
    by_rest None is has = absurd cc
    by_rest (Some rest) is has =
        ap (behind at) journal_is
        ∙ one_more (work_path project) at (codes "journal") rest _ (head_behind (work_path project) at rest is) folder (λ e. staged.no_journal (e ∙ sym journal_is)) refl
