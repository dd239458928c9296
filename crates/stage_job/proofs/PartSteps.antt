-- Parts staged one after another: their sources are not touched, and their places are apart.
use Rattle.std.proofs.Common.{◌≡◌, ℕ, cond, ◌||◌, List, [], ◌∷◌, ◌++◌, Option, Some, None, Result, Ok, Err, refl, sym, ap, ◌∙◌, append_assoc, append-nil, codes}
use Rattle.std.proofs.lemmas.List.{append_cancel_left}
use Rattle.path_name.specs.Given.{◌>>=◌}
use Rattle.tree_dev.specs.Trees.{FileTree, behind}
use Rattle.tree_dev.specs.Projects.{work_path}
use Rattle.tree_dev.specs.declared.entry.Entry.{Entry}
use Rattle.tree_dev.proofs.Behind.{behind_head, head_behind}
use Rattle.tree_dev.proofs.Carried.{comparable}
use Rattle.tree_dev.proofs.Snoc.{not_root_behind}
use Rattle.stage_job.specs.Checked.{inner_checked, job_checked, leaf_checked, package_checked, part_checked}
use Rattle.stage_job.specs.Jobs.{AreApart, AreInner, AreParts, CanCopy, CanPut, CanPutLeaf, folder_if, inner_entry, inner_or, is_above_inner, is_itself, leaf_entry, part_entry}
use Rattle.stage_job.specs.Mirrored.{is_mirrored}
use Rattle.stage_job.specs.Parts.{AreInnerFor, IsLeafApart, IsSourceApart}
use Rattle.stage_job.specs.declared.fault.StageFault.{StageFault}
use Rattle.stage_job.specs.declared.job.Inner.{Inner}
use Rattle.stage_job.specs.declared.job.Leaf.{Leaf}
use Rattle.stage_job.specs.declared.job.Leaf.TheVariants as leaves
use Rattle.stage_job.specs.declared.job.Part.{Part}
use Rattle.stage_job.specs.declared.job.Source.{Source}
use Rattle.stage_job.specs.declared.job.Source.TheVariants as sources
use Rattle.stage_job.proofs.Alike.{IsAlike, package_alike}
use Rattle.stage_job.proofs.Below.{none_by}

no_some : {x : List (List ℕ)} → ◌≡◌ {A = Option (List (List ℕ))} (Some x) None → ⊥
no_some e = cc

-- ---- sources lie apart from what is staged

pub first_same : (a b : List ℕ) (x y : List (List ℕ)) → a ∷ x ≡ b ∷ y → a ≡ b
first_same a b x y e = cc

module _ (project source more : List (List ℕ)) (can : CanCopy project source) where
  not_in_work : (rest : List (List ℕ)) → source ≡ project ++ codes ".install" ∷ rest → ⊥
  not_in_work rest is = no_some (sym (ap (behind (work_path project)) (is ∙ sym (append_assoc project (codes ".install" ∷ []) rest)) ∙ behind_head (work_path project) rest) ∙ can.work)

  below_project : (s r : List (List ℕ)) → source ≡ project ++ s → codes ".install" ∷ more ≡ s ++ r → ⊥
  below_project [] r is same = no_some (sym (ap (λ (p : List (List ℕ)). behind p project) (is ∙ append-nil project) ∙ ap (behind project) (sym (append-nil project)) ∙ behind_head project []) ∙ can.not_above)
  below_project (a ∷ s) r is same = not_in_work s (is ∙ ap (λ (n : List ℕ). project ++ n ∷ s) (sym (first_same (codes ".install") a more (s ++ r) same)))

  never : (r : List (List ℕ)) (o : Option (List (List ℕ))) → behind project source ≡ o → project ++ codes ".install" ∷ more ≡ source ++ r → ⊥
  never r None e same = comparable source project r (codes ".install" ∷ more) (sym same) can.not_above e
  never r (Some s) e same =
      let is = head_behind project source s e in
      below_project s r is (append_cancel_left project (codes ".install" ∷ more) (s ++ r) (same ∙ ap (λ (p : List (List ℕ)). p ++ r) is ∙ append_assoc project s r))

  pub source_apart : AreApart source (project ++ codes ".install" ∷ more)
  source_apart = (
    none_by (behind source (project ++ codes ".install" ∷ more)) (λ r is. never r (behind project source) refl (head_behind source (project ++ codes ".install" ∷ more) r is)),
    none_by (behind (project ++ codes ".install" ∷ more) source) (λ r is. not_in_work (more ++ r) (head_behind (project ++ codes ".install" ∷ more) source r is ∙ append_assoc project (codes ".install" ∷ more) r)),
  )

leaf_apart : (project more : List (List ℕ)) (leaf : Leaf) → CanPutLeaf project leaf → IsLeafApart leaf (project ++ codes ".install" ∷ more)
leaf_apart project more (leaves.Copy source) can = source_apart project source more can
leaf_apart project more (leaves.Bytes bytes) can = tt

inner_for : (project more : List (List ℕ)) (inner : List Inner) → AreInner project inner → AreInnerFor inner (project ++ codes ".install" ∷ more)
inner_for project more [] all = tt
inner_for project more (part ∷ inner) all = (leaf_apart project more part.from all.0, all.1, all.2, inner_for project more inner all.3)

pub part_apart : (project more : List (List ℕ)) (source : Source) → CanPut project source → IsSourceApart source (project ++ codes ".install" ∷ more)
part_apart project more (sources.Copy source) can = source_apart project source more can
part_apart project more (sources.Bytes bytes) can = tt
part_apart project more (sources.Folder inner) can = inner_for project more inner can
part_apart project more sources.Gone can = tt

-- ---- what is copied is the same in trees that agree at and below the sources

abbrev pub AreAlike : List (List ℕ) → FileTree → FileTree → Type 0
AreAlike project t m = (source : List (List ℕ)) → CanCopy project source → IsAlike source t m

module _ (project : List (List ℕ)) (t m : FileTree) (alike : AreAlike project t m) where
  leaf_entries : (leaf : Leaf) → CanPutLeaf project leaf → (below : List (List ℕ)) → leaf_entry m leaf below ≡ leaf_entry t leaf below
  leaf_entries (leaves.Copy source) can below = ap (λ (e : Option Entry). cond (is_mirrored below) e None) ((alike source can).each below)
  leaf_entries (leaves.Bytes bytes) can below = refl

  inner_by : (leaf : Leaf) (o : Option (List (List ℕ))) (a b : Option Entry) → CanPutLeaf project leaf → a ≡ b → inner_or m leaf o a ≡ inner_or t leaf o b
  inner_by leaf None a b can same = same
  inner_by leaf (Some r) a b can same = leaf_entries leaf can r

  inner_entries : (inner : List Inner) → AreInner project inner → (below : List (List ℕ)) (others : Option Entry) → inner_entry m inner below others ≡ inner_entry t inner below others
  inner_entries [] all below others = refl
  inner_entries (part ∷ inner) all below others = inner_by part.from (behind part.below below) _ _ all.0 (inner_entries inner all.3 below others)

  pub part_entries : (source : Source) → CanPut project source → (below : List (List ℕ)) → part_entry m source below ≡ part_entry t source below
  unfolding part_entry
  part_entries (sources.Copy source) can below = ap (λ (e : Option Entry). cond (is_mirrored below) e None) ((alike source can).each below)
  part_entries (sources.Bytes bytes) can below = refl
  part_entries (sources.Folder inner) can below = inner_entries inner can below (folder_if (is_itself below || is_above_inner inner below))
  part_entries sources.Gone can below = refl

  source_checks : (source : List (List ℕ)) (left : ℕ) → CanCopy project source → package_checked m source left ≡ package_checked t source left
  source_checks source left can = package_alike source t m left (not_root_behind source project can.not_above) (alike source can)

  leaf_checks : (at : List (List ℕ)) (leaf : Leaf) (left : ℕ) → CanPutLeaf project leaf → leaf_checked m at leaf left ≡ leaf_checked t at leaf left
  leaf_checks at (leaves.Copy source) left can = source_checks source left can
  leaf_checks at (leaves.Bytes bytes) left can = refl

  bind_by : (r : Result ℕ StageFault) (f g : ℕ → Result ℕ StageFault) → ((n : ℕ) → f n ≡ g n) → (r >>= f) ≡ (r >>= g)
  bind_by (Ok n) f g same = same n
  bind_by (Err fault) f g same = refl

  inner_checks : (at : List (List ℕ)) (inner : List Inner) (left : ℕ) → AreInner project inner → inner_checked m at inner left ≡ inner_checked t at inner left
  inner_checks at [] left all = refl
  inner_checks at (part ∷ inner) left all =
      ap (λ (r : Result ℕ StageFault). r >>= λ rest. inner_checked m at inner rest) (leaf_checks (at ++ part.below) part.from left all.0)
      ∙ bind_by (leaf_checked t (at ++ part.below) part.from left) (λ rest. inner_checked m at inner rest) (λ rest. inner_checked t at inner rest) (λ rest. inner_checks at inner rest all.3)

  pub part_checks : (at : List (List ℕ)) (source : Source) (left : ℕ) → CanPut project source → part_checked m at source left ≡ part_checked t at source left
  unfolding part_checked
  part_checks at (sources.Copy source) left can = source_checks source left can
  part_checks at (sources.Bytes bytes) left can = refl
  part_checks at (sources.Folder inner) left can = inner_checks at inner left can
  part_checks at sources.Gone left can = refl

  pub job_checks : (parts : List Part) (left : ℕ) → AreParts project parts → job_checked project m parts left ≡ job_checked project t parts left
  unfolding job_checked
  job_checks [] left all = refl
  job_checks (part ∷ parts) left all =
      ap (λ (r : Result ℕ StageFault). r >>= λ rest. job_checked project m parts rest) (part_checks (project ++ part.target) part.from left all.1)
      ∙ bind_by (part_checked t (project ++ part.target) part.from left) (λ rest. job_checked project m parts rest) (λ rest. job_checked project t parts rest) (λ rest. job_checks parts rest all.3)
