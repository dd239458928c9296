-- Skipped paths, and the last names of paths.
use Rattle.std.proofs.Common.{◌≡◌, ℕ, Bool, true, false, List, [], ◌∷◌, ◌++◌, Option, Some, None, refl, sym, ap, ◌∙◌}
use Rattle.std.specs.Prelude.{◌↔◌, IsTrue, is_some}
use Rattle.path_name.specs.Paths.{BeginsWith, EndsWith}
use Rattle.tree_dev.specs.Projects.{is_within}
use Rattle.tree_dev.specs.Trees.{behind}
use Rattle.tree_dev.proofs.Behind.{behind_head, head_behind}
use Rattle.class_walk.specs.Walks.{last_of}

within_by : (answer : Bool) (head path : List (List ℕ)) (o : Option (List (List ℕ))) → behind head path ≡ o → (IsTrue answer ↔ BeginsWith path head) → answer ≡ is_some o
within_by true head path None e same =
    let begins = same.0 refl in
    let there : behind head path ≡ Some begins.0 = ap (behind head) begins.1 ∙ behind_head head begins.0 in
    absurd cc
within_by true head path (Some rest) e same = refl
within_by false head path None e same = refl
within_by false head path (Some rest) e same = same.1 (rest, head_behind head path rest e)

pub is_within_by : (answer : Bool) (head path : List (List ℕ)) → (IsTrue answer ↔ BeginsWith path head) → answer ≡ is_within head path
is_within_by answer head path same = within_by answer head path (behind head path) refl same

last_snoc : (front : List (List ℕ)) (name : List ℕ) → last_of (front ++ name ∷ []) ≡ name
last_snoc [] name = refl
last_snoc (x ∷ []) name = refl
last_snoc (x ∷ y ∷ front) name = last_snoc (y ∷ front) name

pub last_name : (path : List (List ℕ)) (name : List ℕ) → EndsWith path name → name ≡ last_of path
last_name path name ends = sym (ap last_of ends.1 ∙ last_snoc ends.0 name)
