-- Paths below paths, and what stands there.
use Rattle.std.proofs.Common.{◌≡◌, ℕ, Bool, true, false, List, [], ◌∷◌, ◌++◌, Option, Some, None, is_some, refl, sym, ap, ◌∙◌, append_assoc, append-nil, codes}
use Rattle.std.specs.FinMap as map
use Rattle.std.specs.Ordering.{eq_by_cmp}
use Rattle.path_name.specs.Orders.{byte_cmp, byte_cmp_exact, byte_ties, bytes_are_equal}
use Rattle.path_name.specs.Paths.{without_last}
use Rattle.tree_dev.specs.Trees.{FileTree, behind, entry_at, has_folder, is_folder}
use Rattle.tree_dev.specs.Changes.{is_root}
use Rattle.tree_dev.specs.Projects.{is_within, journal_path, work_path}
use Rattle.tree_dev.specs.Steady.{IsStaged}
use Rattle.tree_dev.specs.Told.{equal_of}
use Rattle.tree_dev.specs.declared.entry.Entry.TheVariants as entries
use Rattle.tree_dev.proofs.Behind.{behind_head, bytes_same, head_behind}
use Rattle.tree_dev.proofs.Carried.{comparable}
use Rattle.tree_dev.proofs.ProjectParts.{behind_same_head, within_on}
use Rattle.tree_dev.proofs.Snoc.{behind_longer, not_behind_itself, without_last-snoc}
use Rattle.stage_job.specs.Copied.{IsInNew}
use Rattle.stage_job.specs.Jobs.{AreApart}
use Rattle.stage_job.specs.Places.{new_path}

-- ---- apart

pub none_by : (o : Option (List (List ℕ))) → ((rest : List (List ℕ)) → o ≡ Some rest → ⊥) → o ≡ None
none_by None never = refl
none_by (Some rest) never = absurd (never rest refl)

-- what lies at or below one of two paths apart, and at or below the other
pub apart_below : (a b x y : List (List ℕ)) → AreApart a b → behind (a ++ x) (b ++ y) ≡ None
apart_below a b x y apart = none_by (behind (a ++ x) (b ++ y)) (λ rest is.
    comparable a b (x ++ rest) y (sym (head_behind (a ++ x) (b ++ y) rest is ∙ append_assoc a x rest)) apart.0 apart.1)

pub apart_back : (a b : List (List ℕ)) → AreApart a b → AreApart b a
apart_back a b apart = (apart.1, apart.0)

pub below_apart : (a b x y : List (List ℕ)) → AreApart a b → AreApart (a ++ x) (b ++ y)
below_apart a b x y apart = (apart_below a b x y apart, apart_below b a y x (apart_back a b apart))

-- nothing at or below the second of two paths apart lies at or below the first
pub not_below : (a b y : List (List ℕ)) → AreApart a b → behind a (b ++ y) ≡ None
not_below a b y apart = ap (λ (p : List (List ℕ)). behind p (b ++ y)) (sym (append-nil a)) ∙ apart_below a b [] y apart

-- what is not at or below a path is not below a longer one
pub not_longer : (head more path : List (List ℕ)) → behind head path ≡ None → behind (head ++ more) path ≡ None
not_longer head more path out = none_by (behind (head ++ more) path) (λ rest is. no_some
    (sym (ap (behind head) (head_behind (head ++ more) path rest is ∙ append_assoc head more rest) ∙ behind_head head (more ++ rest)) ∙ out))
  where
    no_some : {x : List (List ℕ)} → ◌≡◌ {A = Option (List (List ℕ))} (Some x) None → ⊥
    no_some e = cc

-- ---- names

pub same_name : (n x : List ℕ) → eq_by_cmp byte_cmp n x ≡ true → n ≡ x
same_name n x e = byte_cmp_exact n x (equal_of (byte_cmp n x) e)

pub itself_named : (x : List ℕ) → eq_by_cmp byte_cmp x x ≡ true
itself_named x = sym (byte_ties x x) ∙ bytes_same x

pub other_bytes : (n x : List ℕ) → eq_by_cmp byte_cmp n x ≡ false → bytes_are_equal x n ≡ false
other_bytes n x e = by (bytes_are_equal x n) refl
  where
    by : (b : Bool) → bytes_are_equal x n ≡ b → b ≡ false
    by true same =
        let is : x ≡ n = same_name x n (sym (byte_ties x n) ∙ same) in
        let here : eq_by_cmp byte_cmp n x ≡ true = ap (eq_by_cmp byte_cmp n) is ∙ itself_named n in
        absurd cc
    by false other = refl

-- ---- children of a folder

pub child_path : (folder : List (List ℕ)) (x : List ℕ) (rest : List (List ℕ)) → (folder ++ x ∷ []) ++ rest ≡ folder ++ x ∷ rest
child_path folder x rest = append_assoc folder (x ∷ []) rest

pub other_child : (folder : List (List ℕ)) (n x : List ℕ) (rest : List (List ℕ)) → eq_by_cmp byte_cmp n x ≡ false → behind (folder ++ x ∷ []) (folder ++ n ∷ rest) ≡ None
other_child folder n x rest other = behind_same_head folder (x ∷ []) (n ∷ rest) ∙ rw (other_bytes n x other) refl

pub not_child_itself : (folder : List (List ℕ)) (x : List ℕ) → behind (folder ++ x ∷ []) (folder ++ []) ≡ None
not_child_itself folder x = ap (behind (folder ++ x ∷ [])) (append-nil folder) ∙ not_behind_itself folder x

pub entry_at_child : (t : FileTree) (folder : List (List ℕ)) (x : List ℕ) → entry_at t (folder ++ x ∷ []) ≡ map.get t (folder ++ x ∷ [])
entry_at_child t [] x = refl
entry_at_child t (first ∷ rest) x = refl

pub entry_below_root : (t : FileTree) (at : List (List ℕ)) → is_root at ≡ false → entry_at t at ≡ map.get t at
entry_below_root t [] e = absurd cc
entry_below_root t (first ∷ rest) e = refl

pub folder_there : (t : FileTree) (at : List (List ℕ)) → map.get t at ≡ Some entries.Folder → is_folder (entry_at t at) ≡ true
folder_there t [] e = refl
folder_there t (first ∷ rest) e = rw e refl

pub folder_above_child : (t : FileTree) (folder : List (List ℕ)) (x : List ℕ) → map.get t folder ≡ Some entries.Folder → has_folder t (without_last (folder ++ x ∷ [])) ≡ true
folder_above_child t folder x e = ap (has_folder t) (without_last-snoc folder x) ∙ folder_there t folder e

-- ---- `.install/new`

pub some_is : (o : Option (List (List ℕ))) → is_some o ≡ true → (rest : List (List ℕ)) × (o ≡ Some rest)
some_is None e = absurd cc
some_is (Some rest) e = (rest, refl)

pub in_new_below : (project at more : List (List ℕ)) → IsInNew project at → IsInNew project (at ++ more)
in_new_below project at more within =
    let rest = some_is (behind (new_path project) at) within in
    ap is_some (behind_longer (new_path project) at rest.0 more rest.1)

new_in_work : (project : List (List ℕ)) → is_within (work_path project) (new_path project) ≡ true
new_in_work project = ap is_some (behind_same_head project (codes ".install" ∷ []) (codes ".install" ∷ codes "new" ∷ []))

journal_not_new : (project : List (List ℕ)) → is_within (new_path project) (journal_path project) ≡ false
journal_not_new project = ap is_some (behind_same_head project (codes ".install" ∷ codes "new" ∷ []) (codes ".install" ∷ codes "journal" ∷ []))

pub staged_in_new : (project at : List (List ℕ)) → IsInNew project at → IsStaged project at
staged_in_new project at within = record {
  within = within_on (work_path project) (new_path project) at (new_in_work project) within;
  no_journal = λ same.
      let here : is_within (new_path project) (journal_path project) ≡ true = ap (is_within (new_path project)) (sym same) ∙ within in
      let none = journal_not_new project in
      absurd cc;
}
