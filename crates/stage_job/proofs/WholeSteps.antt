-- From a claimed project to a staged job.
use Rattle.std.proofs.Common.{◌≡◌, ◌⊎◌, ℕ, zero, suc, ◌+◌, ◌<◌, Bool, true, false, ◌||◌, cond, List, [], ◌∷◌, ◌++◌, length, take, get_or, Option, Some, None, is_some, Result, Ok, Err, refl, sym, ap, subst, ◌∙◌, inl, inr, append_assoc, append-nil, codes, arith}
use Rattle.std.proofs.lemmas.List.{take_more}
use Rattle.std.proofs.lemmas.List.Folds.{list_any-append}
use Rattle.std.proofs.lemmas.Option.{slice_get_within}
use Rattle.std.specs.FinMap as map
use Rattle.std.specs.List.{slice_get}
use Rattle.path_name.specs.Decimals.{decimal_text}
use Rattle.path_name.specs.Given.{◌>>=◌}
use Rattle.path_name.specs.Orders.{bytes_are_equal}
use Rattle.path_name.specs.Paths.{is_segment, without_last}
use Rattle.std.specs.Str.{chars, is_utf8}
use Rattle.tree_dev.specs.Trees.{FileTree, IsTree, behind, entry_at, has_folder, is_folder}
use Rattle.tree_dev.specs.Changes.{is_root}
use Rattle.tree_dev.specs.Device.{Meaning, Settles}
use Rattle.tree_dev.specs.Disk.{Disks, IsImage, IsOnDisk}
use Rattle.tree_dev.specs.Projects.{is_within, journal_path, vendor_path, work_path}
use Rattle.tree_dev.specs.Steady.{EachImage, IsStaged}
use Rattle.tree_dev.specs.declared.entry.Entry.{Entry}
use Rattle.tree_dev.specs.declared.entry.Entry.TheVariants as entries
use Rattle.tree_dev.proofs.Behind.{behind_head, head_behind}
use Rattle.tree_dev.proofs.Images.{one_image_settled}
use Rattle.tree_dev.proofs.ProjectParts.{behind_same_head, within_one}
use Rattle.tree_dev.proofs.Snoc.{IsSnoc, not_behind_itself, not_root_behind, snoc_of, without_last-snoc}
use Rattle.stage_job.specs.Above.{CanMakeWay, HasWay, MakesFolders, begins_names, front_of, is_front}
use Rattle.stage_job.specs.Copied.{folder_alone}
use Rattle.stage_job.specs.Checked.{job_checked, package_checked, part_checked, source_kind_checked}
use Rattle.stage_job.specs.Jobs.{AreInner, AreParts, CanPut, IsTarget, inner_entry, inner_or, is_gone, is_itself, part_entry}
use Rattle.stage_job.specs.Places.{new_path, old_path, staged_path}
use Rattle.stage_job.specs.Staged.{IsClaimed, IsFree, IsStagedJob, Puts}
use Rattle.stage_job.specs.Staging.{HasParents, HasProject, PutsParents, PutsParts, is_parent, place_of}
use Rattle.stage_job.specs.declared.fault.StageFault.{StageFault}
use Rattle.stage_job.specs.declared.job.Inner.{Inner}
use Rattle.stage_job.specs.declared.job.Part.{Part}
use Rattle.stage_job.specs.declared.job.Source.{Source}
use Rattle.stage_job.specs.declared.job.Source.TheVariants as sources
use Rattle.stage_job.proofs.Below.{entry_below_root, folder_above_child, folder_there, none_by, not_below}
use Rattle.stage_job.proofs.Fronts.{is_within_path, within_is}
use Rattle.stage_job.proofs.FolderSteps.{front_is}
use Rattle.stage_job.proofs.PartSteps.{AreAlike, first_same, part_entries, source_apart}
use Rattle.std.proofs.Math.Bool.{or-false}
use Rattle.stage_job.proofs.Made.{same_some}

-- ---- paths in `.install`

abbrev in_work : List (List ℕ) → List (List ℕ) → List (List ℕ)
in_work project rest = project ++ codes ".install" ∷ rest

-- what the names of `.install/new` and `.install/old` are, step by step
pub two_steps : (project : List (List ℕ)) (name : List ℕ) → (project ++ codes ".install" ∷ []) ++ name ∷ [] ≡ in_work project (name ∷ [])
two_steps project name = append_assoc project (codes ".install" ∷ []) (name ∷ [])

-- a path in one folder of `.install` is in no other
pub other_in_work : (project : List (List ℕ)) (a b : List ℕ) (rest : List (List ℕ)) → bytes_are_equal a b ≡ false → behind (in_work project (a ∷ [])) (in_work project (b ∷ rest)) ≡ None
other_in_work project a b rest other = behind_same_head project (codes ".install" ∷ a ∷ []) (codes ".install" ∷ b ∷ rest) ∙ rw other refl

pub work_itself : (project : List (List ℕ)) (a : List ℕ) → behind (in_work project (a ∷ [])) (work_path project) ≡ None
work_itself project a = behind_same_head project (codes ".install" ∷ a ∷ []) (codes ".install" ∷ [])

below_folder : (project rest below : List (List ℕ)) → in_work project rest ++ below ≡ in_work project (rest ++ below)
below_folder project rest below = append_assoc project (codes ".install" ∷ rest) below

claimed_none : (project : List (List ℕ)) (t : FileTree) (name : List ℕ) (rest : List (List ℕ)) → IsClaimed project t → map.get t (in_work project (name ∷ rest)) ≡ None
claimed_none project t name rest claimed = ap (map.get t) (sym (append_assoc project (codes ".install" ∷ []) (name ∷ rest))) ∙ claimed.empty name rest

above_in_work : (project : List (List ℕ)) (t : FileTree) (name : List ℕ) → map.get t (work_path project) ≡ Some entries.Folder → has_folder t (without_last (in_work project (name ∷ []))) ≡ true
above_in_work project t name folder = ap (λ (p : List (List ℕ)). has_folder t (without_last p)) (sym (two_steps project name)) ∙ folder_above_child t (work_path project) name folder

-- ---- the two folders

pub new_is_free : (project : List (List ℕ)) (t : FileTree) → IsClaimed project t → IsFree (new_path project) t
new_is_free project t claimed = record {
  above = above_in_work project t (codes "new") claimed.folder;
  none = λ below. ap (map.get t) (below_folder project (codes "new" ∷ []) below) ∙ claimed_none project t (codes "new") below claimed;
}

pub old_is_free : (project : List (List ℕ)) (t u : FileTree) → IsClaimed project t → Puts (new_path project) folder_alone t u → IsFree (old_path project) u
old_is_free project t u claimed puts = record {
  above = above_in_work project u (codes "old") (puts.elsewhere (work_path project) (work_itself project (codes "new")) ∙ claimed.folder);
  none = λ below.
      ap (map.get u) (below_folder project (codes "old" ∷ []) below)
      ∙ puts.elsewhere (in_work project (codes "old" ∷ below)) (other_in_work project (codes "new") (codes "old") below refl)
      ∙ claimed_none project t (codes "old") below claimed;
}

-- nothing is staged yet
pub no_parts_yet : (project : List (List ℕ)) (parts : List Part) (t u v : FileTree) → Puts (new_path project) folder_alone t u → Puts (old_path project) folder_alone u v → PutsParts project parts 0 v v
no_parts_yet project parts t u v first second = record {
  staged = λ number part less at below. absurd (omega arith);
  rest = λ number le small below.
      ap (map.get v) (append_assoc (new_path project) (decimal_text number ∷ []) below)
      ∙ ap (map.get v) (below_folder project (codes "new" ∷ []) (decimal_text number ∷ below))
      ∙ second.elsewhere (in_work project (codes "new" ∷ decimal_text number ∷ below)) (other_in_work project (codes "old") (codes "new") (decimal_text number ∷ below) refl)
      ∙ ap (map.get u) (sym (below_folder project (codes "new" ∷ []) (decimal_text number ∷ below))) ∙ first.put (decimal_text number ∷ below);
  folder = second.elsewhere (new_path project) (other_in_work project (codes "old") (codes "new") [] refl) ∙ ap (map.get u) (sym (append-nil (new_path project))) ∙ first.put [];
  elsewhere = λ path out. refl;
}

-- what stands neither in `.install/new` nor in `.install/old` is as it was
pub record IsBeside (project path : List (List ℕ)) : Type 0 where
  pub new : behind (new_path project) path ≡ None
  pub old : behind (old_path project) path ≡ None

pub beside_kept : (project path : List (List ℕ)) (t u v : FileTree) → IsBeside project path → Puts (new_path project) folder_alone t u → Puts (old_path project) folder_alone u v → map.get v path ≡ map.get t path
beside_kept project path t u v beside first second = second.elsewhere path beside.old ∙ first.elsewhere path beside.new

-- nothing outside of `.install` stands in it
out_of_work : (project path : List (List ℕ)) (name : List ℕ) → is_within (work_path project) path ≡ false → behind (in_work project (name ∷ [])) path ≡ None
out_of_work project path name out = none_by (behind (in_work project (name ∷ [])) path) (λ rest is.
    let whole : path ≡ work_path project ++ (name ∷ rest) = head_behind (in_work project (name ∷ [])) path rest is ∙ below_folder project (name ∷ []) rest ∙ sym (append_assoc project (codes ".install" ∷ []) (name ∷ rest)) in
    let within = within_is (work_path project) path (name ∷ rest) whole in
    absurd cc)

pub beside_outside : (project path : List (List ℕ)) → is_within (work_path project) path ≡ false → IsBeside project path
beside_outside project path out = record { new = out_of_work project path (codes "new") out; old = out_of_work project path (codes "old") out }

pub sources_alike : (project : List (List ℕ)) (t u v : FileTree) → Puts (new_path project) folder_alone t u → Puts (old_path project) folder_alone u v → AreAlike project t v
sources_alike project t u v first second source can = record {
  each = λ below.
      let new = source_apart project source (codes "new" ∷ []) can in
      let old = source_apart project source (codes "old" ∷ []) can in
      beside_kept project (source ++ below) t u v (record { new = not_below (new_path project) source below (new.1, new.0); old = not_below (old_path project) source below (old.1, old.0) }) first second;
}

-- ---- the folders above targets

some_of : (o : Option (List (List ℕ))) (names : List (List ℕ)) → begins_names o names ≡ true → (f : List ℕ) × ((fs : List (List ℕ)) × ((o ≡ Some (f ∷ fs)) × (is_within (f ∷ fs) names ≡ true)))
some_of None names e = absurd cc
some_of (Some []) names e = absurd cc
some_of (Some (first ∷ front)) names e = (first, (front, (refl, e)))

-- the paths above a target, below the project, lie in `vendor`
pub front_in_vendor : (project target path : List (List ℕ)) → IsTarget target → is_front project (front_of target) path ≡ true → is_within (vendor_path project) path ≡ true
front_in_vendor project target path (inl lock) e = absurd (let none : is_front project [] path ≡ true = ap (λ (p : List (List ℕ)). is_front project (front_of p) path) (sym lock) ∙ e in no_front_of (behind project path) none)
  where
    no_front_of : (o : Option (List (List ℕ))) → begins_names o [] ≡ true → ⊥
    no_front_of None e = cc
    no_front_of (Some []) e = cc
    no_front_of (Some (x ∷ xs)) e = cc
front_in_vendor project target path (inr vendor) e =
    let rest = is_within_path (codes "vendor" ∷ []) target vendor in
    let front = some_of (behind project path) (front_of target) e in
    let behind_is = front.1.1.0 in
    let more = is_within_path (front.0 ∷ front.1.0) (front_of target) front.1.1.1 in
    begins (front.0) (front.1.0) (head_behind project path (front.0 ∷ front.1.0) behind_is) rest.0 rest.1 more.0 more.1
  where
    begins : (f : List ℕ) (fs : List (List ℕ)) → path ≡ project ++ f ∷ fs → (r : List (List ℕ)) → target ≡ codes "vendor" ∷ r → (s : List (List ℕ)) → front_of target ≡ (f ∷ fs) ++ s → is_within (vendor_path project) path ≡ true
    begins f fs is [] target_is s names_are = absurd (let none : [] ≡ f ∷ (fs ++ s) = ap front_of (sym target_is) ∙ names_are in cc)
    begins f fs is (x ∷ xs) target_is s names_are =
        let last : IsSnoc (x ∷ xs) = snoc_of (x ∷ xs) refl in
        let whole : target ≡ (codes "vendor" ∷ last.front) ++ last.last ∷ [] = target_is ∙ ap (λ (p : List (List ℕ)). codes "vendor" ∷ p) last.is in
        let front_there = front_is target (codes "vendor" ∷ last.front) last.last whole in
        let same : codes "vendor" ≡ f = first_same (codes "vendor") f last.front (fs ++ s) (sym front_there ∙ names_are) in
        within_is (vendor_path project) path fs (is ∙ ap (λ (n : List ℕ). project ++ n ∷ fs) (sym same) ∙ sym (append_assoc project (codes "vendor" ∷ []) fs))

pub parent_in_vendor : (project : List (List ℕ)) (parts : List Part) (path : List (List ℕ)) → AreParts project parts → is_parent project parts path ≡ true → is_within (vendor_path project) path ≡ true
parent_in_vendor project [] path all e = absurd cc
parent_in_vendor project (part ∷ parts) path all e = by (is_front project (front_of part.target) path) refl e (parent_in_vendor project parts path all.3)
  where
    by : (b : Bool) → is_front project (front_of part.target) path ≡ b → (b || is_parent project parts path) ≡ true → (is_parent project parts path ≡ true → is_within (vendor_path project) path ≡ true)
        → is_within (vendor_path project) path ≡ true
    by true h e more = front_in_vendor project part.target path all.0 h
    by false h e more = more e

vendor_out_of_work : (project path : List (List ℕ)) → is_within (vendor_path project) path ≡ true → is_within (work_path project) path ≡ false
vendor_out_of_work project path vendor = within_one project path (codes "vendor") (codes ".install") refl vendor

-- nothing in `.install` is above a target
pub work_is_no_parent : (project : List (List ℕ)) (parts : List Part) (rest : List (List ℕ)) → AreParts project parts → is_parent project parts (in_work project rest) ≡ false
work_is_no_parent project parts rest all = by (is_parent project parts (in_work project rest)) refl
  where
    by : (b : Bool) → is_parent project parts (in_work project rest) ≡ b → b ≡ false
    by true e =
        let out = vendor_out_of_work project (in_work project rest) (parent_in_vendor project parts (in_work project rest) all e) in
        let here = within_is (work_path project) (in_work project rest) rest (sym (append_assoc project (codes ".install" ∷ []) rest)) in
        absurd cc
    by false e = refl

target_at : (project : List (List ℕ)) (parts : List Part) (i : ℕ) (d : Part) → AreParts project parts → i < length parts → IsTarget (get_or parts i d).target
target_at project [] i d all lt = absurd (omega arith)
target_at project (part ∷ parts) zero d all lt = all.0
target_at project (part ∷ parts) (suc j) d all lt = target_at project parts j d all.3 (omega arith)

pub can_put_at : (project : List (List ℕ)) (parts : List Part) (i : ℕ) (part : Part) → AreParts project parts → i < length parts → part ≡ get_or parts i part → CanPut project part.from
can_put_at project parts i part all lt is = subst (λ (p : Part). CanPut project p.from) (sym is) (at parts i part all lt)
  where
    at : (parts : List Part) (i : ℕ) (d : Part) → AreParts project parts → i < length parts → CanPut project (get_or parts i d).from
    at [] i d all lt = absurd (omega arith)
    at (part ∷ parts) zero d all lt = all.1
    at (part ∷ parts) (suc j) d all lt = at parts j d all.3 (omega arith)

pub parent_more : (project : List (List ℕ)) (parts : List Part) (i : ℕ) (part : Part) (path : List (List ℕ)) → i < length parts → part ≡ get_or parts i part
    → is_parent project (take (i + 1) parts) path ≡ (is_parent project (take i parts) path || is_front project (front_of part.target) path)
parent_more project parts i part path lt is =
    ap (λ (ps : List Part). is_parent project ps path) (take_more parts i part lt)
    ∙ list_any-append (λ (p : Part). is_front project (front_of p.target) path) (take i parts) (get_or parts i part ∷ [])
    ∙ ap (λ (p : Part). is_parent project (take i parts) path || (is_front project (front_of p.target) path || false)) (sym is)
    ∙ ap (λ (b : Bool). is_parent project (take i parts) path || b) (or-false (is_front project (front_of part.target) path))

joined : (a b : Bool) (e : Option Entry) → cond b (Some entries.Folder) (cond a (Some entries.Folder) e) ≡ cond (a || b) (Some entries.Folder) e
joined true true e = refl
joined true false e = refl
joined false b e = refl

front_is_parent : (project : List (List ℕ)) (parts : List Part) (i : ℕ) (d : Part) (path : List (List ℕ)) → i < length parts → is_front project (front_of (get_or parts i d).target) path ≡ true → is_parent project parts path ≡ true
front_is_parent project [] i d path lt e = absurd (omega arith)
front_is_parent project (part ∷ parts) zero d path lt e = rw e refl
front_is_parent project (part ∷ parts) (suc j) d path lt e = or_right (is_front project (front_of part.target) path) (front_is_parent project parts j d path (omega arith) e)
  where
    or_right : (a : Bool) {b : Bool} → b ≡ true → (a || b) ≡ true
    or_right true e = refl
    or_right false e = e

entry_same : (t u : FileTree) (p : List (List ℕ)) → map.get u p ≡ map.get t p → entry_at u p ≡ entry_at t p
entry_same t u [] e = refl
entry_same t u (x ∷ rest) e = e

no_parent_of : (project : List (List ℕ)) (parts : List Part) → AreParts project parts → is_parent project parts project ≡ false
no_parent_of project [] all = refl
no_parent_of project (part ∷ parts) all =
    rw (ap (λ (o : Option (List (List ℕ))). begins_names o (front_of part.target)) (ap (behind project) (sym (append-nil project)) ∙ behind_head project [])) (no_parent_of project parts all.3)

-- the project stays a folder where its own entry does
pub project_kept : (project : List (List ℕ)) (t u : FileTree) → map.get u project ≡ map.get t project → HasProject project t → HasProject project u
project_kept project t u same has = record {
  folder = λ name.
      ap (has_folder u) (without_last-snoc project name) ∙ ap is_folder (entry_same t u project same)
      ∙ sym (ap (has_folder t) (without_last-snoc project name)) ∙ has.folder name;
}

-- the folder in which `.install` stands
pub claimed_project : (project : List (List ℕ)) (t : FileTree) → IsTree t → IsClaimed project t → HasProject project t
claimed_project project t tree claimed = record {
  folder = λ name.
      ap (has_folder t) (without_last-snoc project name)
      ∙ sym (ap (has_folder t) (without_last-snoc project (codes ".install"))) ∙ tree.below_folders (work_path project) (ap is_some claimed.folder);
}

-- the folders above a target may be made, whatever stands there
pub target_can_make : (project : List (List ℕ)) (parts : List Part) (i : ℕ) (part : Part) → AreParts project parts → i < length parts → part ≡ get_or parts i part → CanMakeWay project project (front_of part.target)
target_can_make project parts i part all lt is path e =
    inr (front_in_vendor project part.target path (subst (λ (p : Part). IsTarget p.target) (sym is) (target_at project parts i part all lt)) e)

module _ (project : List (List ℕ)) (parts : List Part) (i : ℕ) (part : Part) (t m : FileTree) (all : AreParts project parts) (lt : i < length parts) (is : part ≡ get_or parts i part)
    (has : HasProject project t) (parents : HasParents project parts t) (so_far : PutsParents project (take i parts) t m) where
  part_front : (path : List (List ℕ)) → is_front project (front_of part.target) path ≡ true → is_parent project parts path ≡ true
  part_front path e = front_is_parent project parts i part path lt (ap (λ (p : Part). is_front project (front_of p.target) path) (sym is) ∙ e)

  now_at : (path : List (List ℕ)) (b : Bool) → is_parent project (take i parts) path ≡ b → (map.get t path ≡ None) ⊎ (map.get t path ≡ Some entries.Folder) → (map.get m path ≡ None) ⊎ (map.get m path ≡ Some entries.Folder)
  now_at path true e before = inr (so_far.each path ∙ rw e refl)
  now_at path false e (inl none) = inl (so_far.each path ∙ rw e none)
  now_at path false e (inr folder) = inr (so_far.each path ∙ rw e folder)

  not_itself : (b : Bool) → is_parent project (take i parts) project ≡ b → map.get m project ≡ map.get t project
  not_itself true e = absurd (let none = front_none (take i parts) in cc)
    where
      front_none : (ps : List Part) → is_parent project ps project ≡ false
      front_none [] = refl
      front_none (p ∷ ps) = rw (ap (λ (o : Option (List (List ℕ))). begins_names o (front_of p.target)) (ap (behind project) (sym (append-nil project)) ∙ behind_head project [])) (front_none ps)
  not_itself false e = so_far.each project ∙ rw e refl

  pub target_way : HasWay project (front_of part.target) m
  target_way = record {
    base_folder = (project_kept project t m (not_itself (is_parent project (take i parts) project) refl) has).folder;
    each = λ path e. now_at path (is_parent project (take i parts) path) refl (parents.each path (part_front path e));
  }

  pub parents_more : (u : FileTree) → MakesFolders project (front_of part.target) m u → PutsParents project (take (i + 1) parts) t u
  parents_more u makes = record { each = λ path. by path }
    where
      by : (path : List (List ℕ)) → map.get u path ≡ cond (is_parent project (take (i + 1) parts) path) (Some entries.Folder) (map.get t path)
      by path =
          makes.each path
          ∙ ap (cond (is_front project (front_of part.target) path) (Some entries.Folder)) (so_far.each path)
          ∙ joined (is_parent project (take i parts) path) (is_front project (front_of part.target) path) (map.get t path)
          ∙ ap (λ (b : Bool). cond b (Some entries.Folder) (map.get t path)) (sym (parent_more project parts i part path lt is))

pub no_parents_yet : (project : List (List ℕ)) (t : FileTree) → PutsParents project [] t t
no_parents_yet project t = record { each = λ path. refl }

-- ---- what is staged of a part that is there

source_folder : (folder : Result ℕ StageFault) (source : List (List ℕ)) (e : Option Entry) (after : ℕ) → source_kind_checked folder source e ≡ Ok after → e ≡ Some entries.Folder
source_folder folder source None after is = absurd cc
source_folder folder source (Some (entries.File bytes)) after is = absurd cc
source_folder folder source (Some entries.Folder) after is = refl
source_folder folder source (Some entries.Other) after is = absurd cc

package_folder : (t : FileTree) (source : List (List ℕ)) (left after : ℕ) → package_checked t source left ≡ Ok after → entry_at t source ≡ Some entries.Folder
unfolding package_checked
package_folder t source left after is = source_folder _ source (entry_at t source) after is

top_of_inner : (project : List (List ℕ)) (t : FileTree) (inner : List Inner) (others : Option Entry) → AreInner project inner → inner_entry t inner [] others ≡ others
top_of_inner project t [] others all = refl
top_of_inner project t (part ∷ inner) others all =
    ap (λ (o : Option (List (List ℕ))). inner_or t part.from o (inner_entry t inner [] others)) (not_here part.below all.1) ∙ top_of_inner project t inner others all.3
  where
    not_here : (p : List (List ℕ)) → is_itself p ≡ false → behind p [] ≡ None
    not_here [] e = absurd cc
    not_here (x ∷ rest) e = refl

part_there : (project at : List (List ℕ)) (t : FileTree) (source : Source) (left after : ℕ) → CanPut project source → part_checked t at source left ≡ Ok after → is_gone source ≡ false → is_some (part_entry t source []) ≡ true
unfolding part_checked part_entry
part_there project at t (sources.Copy source) left after can is stays =
    ap is_some (ap (map.get t) (append-nil source) ∙ sym (entry_below_root t source (not_root_behind source project can.not_above)) ∙ package_folder t source left after is)
part_there project at t (sources.Bytes bytes) left after can is stays = refl
part_there project at t (sources.Folder inner) left after can is stays = ap is_some (top_of_inner project t inner (Some entries.Folder) can)
part_there project at t sources.Gone left after can is stays = absurd cc

bind_ok : (r : Result ℕ StageFault) (f : ℕ → Result ℕ StageFault) (after : ℕ) → (r >>= f) ≡ Ok after → (n : ℕ) × ((r ≡ Ok n) × (f n ≡ Ok after))
bind_ok (Ok n) f after is = (n, (refl, is))
bind_ok (Err fault) f after is = absurd cc

pub parts_there : (project : List (List ℕ)) (t : FileTree) (parts : List Part) (left after : ℕ) → AreParts project parts → job_checked project t parts left ≡ Ok after
    → (number : ℕ) (part : Part) → slice_get parts number ≡ Some part → is_gone part.from ≡ false → is_some (part_entry t part.from []) ≡ true
unfolding job_checked
parts_there project t [] left after all is number part at stays = absurd cc
parts_there project t (p ∷ parts) left after all is zero part at stays =
    let same : p ≡ part = cc in
    let step = bind_ok (part_checked t (project ++ p.target) p.from left) (λ rest. job_checked project t parts rest) after is in
    ap (λ (q : Part). is_some (part_entry t q.from [])) (sym same)
    ∙ part_there project (project ++ p.target) t p.from left step.0 all.1 step.1.0 (ap (λ (q : Part). is_gone q.from) same ∙ stays)
parts_there project t (p ∷ parts) left after all is (suc j) part at stays =
    let step = bind_ok (part_checked t (project ++ p.target) p.from left) (λ rest. job_checked project t parts rest) after is in
    parts_there project t parts step.0 after all.3 step.1.1 j part at stays

-- ---- all of it

module _ (project : List (List ℕ)) (parts : List Part) (t u v w x : FileTree) (all : AreParts project parts) (claimed : IsClaimed project t) (tree : IsTree t)
    (first : Puts (new_path project) folder_alone t u) (second : Puts (old_path project) folder_alone u v) (puts : PutsParts project parts (length parts) v w) where
  outside_kept : (path : List (List ℕ)) → is_within (work_path project) path ≡ false → map.get w path ≡ map.get t path
  outside_kept path out =
      let beside = beside_outside project path out in
      puts.elsewhere path beside.new ∙ beside_kept project path t u v beside first second

  project_outside : is_within (work_path project) project ≡ false
  project_outside = ap is_some (not_behind_itself project (codes ".install"))

  pub project_there : HasProject project w
  project_there = project_kept project t w (outside_kept project project_outside) (claimed_project project t tree claimed)

  pub parents_there : HasParents project parts t → HasParents project parts w
  parents_there parents = record { each = λ path e. by path (vendor_out_of_work project path (parent_in_vendor project parts path all e)) (parents.each path e) }
    where
      by : (path : List (List ℕ)) → is_within (work_path project) path ≡ false → (map.get t path ≡ None) ⊎ (map.get t path ≡ Some entries.Folder) → (map.get w path ≡ None) ⊎ (map.get w path ≡ Some entries.Folder)
      by path out (inl none) = inl (outside_kept path out ∙ none)
      by path out (inr folder) = inr (outside_kept path out ∙ folder)

  module _ (made : PutsParents project parts w x) where
    in_work_kept : (rest : List (List ℕ)) → map.get x (in_work project rest) ≡ map.get w (in_work project rest)
    in_work_kept rest = made.each (in_work project rest) ∙ rw (work_is_no_parent project parts rest all) refl

    other_kept : (name : List ℕ) (rest : List (List ℕ)) → bytes_are_equal (codes "new") name ≡ false → bytes_are_equal (codes "old") name ≡ false → map.get x (in_work project (name ∷ rest)) ≡ None
    other_kept name rest new old =
        in_work_kept (name ∷ rest) ∙ puts.elsewhere (in_work project (name ∷ rest)) (other_in_work project (codes "new") name rest new)
        ∙ second.elsewhere (in_work project (name ∷ rest)) (other_in_work project (codes "old") name rest old)
        ∙ first.elsewhere (in_work project (name ∷ rest)) (other_in_work project (codes "new") name rest new)
        ∙ claimed_none project t name rest claimed

    old_kept : (below : List (List ℕ)) → map.get x (in_work project (codes "old" ∷ below)) ≡ folder_alone below
    old_kept below =
        in_work_kept (codes "old" ∷ below) ∙ puts.elsewhere (in_work project (codes "old" ∷ below)) (other_in_work project (codes "new") (codes "old") below refl)
        ∙ ap (map.get v) (sym (below_folder project (codes "old" ∷ []) below)) ∙ second.put below

    staged_at : (number : ℕ) (below : List (List ℕ)) → staged_path project number ++ below ≡ in_work project (codes "new" ∷ decimal_text number ∷ below)
    staged_at number below = append_assoc project (codes ".install" ∷ codes "new" ∷ decimal_text number ∷ []) below

    place_at : (number : ℕ) (below : List (List ℕ)) → place_of project number ++ below ≡ in_work project (codes "new" ∷ decimal_text number ∷ below)
    place_at number below = append_assoc (new_path project) (decimal_text number ∷ []) below ∙ append_assoc project (codes ".install" ∷ codes "new" ∷ []) (decimal_text number ∷ below)

    can_at : (ps : List Part) (number : ℕ) (part : Part) → AreParts project ps → slice_get ps number ≡ Some part → CanPut project part.from
    can_at [] number part all at = absurd cc
    can_at (p ∷ ps) zero part all at = let same : p ≡ part = cc in subst (λ (q : Part). CanPut project q.from) same all.1
    can_at (p ∷ ps) (suc j) part all at = can_at ps j part all.3 at

    target_of : (ps : List Part) (number : ℕ) (part : Part) → AreParts project ps → slice_get ps number ≡ Some part → IsTarget part.target
    target_of [] number part all at = absurd cc
    target_of (p ∷ ps) zero part all at = let same : p ≡ part = cc in subst (λ (q : Part). IsTarget q.target) same all.0
    target_of (p ∷ ps) (suc j) part all at = target_of ps j part all.3 at

    front_at : (ps : List Part) (number : ℕ) (part : Part) (path : List (List ℕ)) → slice_get ps number ≡ Some part → is_front project (front_of part.target) path ≡ true → is_parent project ps path ≡ true
    front_at [] number part path at e = absurd cc
    front_at (p ∷ ps) zero part path at e = let same : p ≡ part = cc in rw (ap (λ (q : Part). is_front project (front_of q.target) path) same ∙ e) refl
    front_at (p ∷ ps) (suc j) part path at e = or_right (is_front project (front_of p.target) path) (front_at ps j part path at e)
      where
        or_right : (a : Bool) {b : Bool} → b ≡ true → (a || b) ≡ true
        or_right true e = refl
        or_right false e = e

    target_proper : (target : List (List ℕ)) → IsTarget target → is_root target ≡ false
    target_proper [] (inl lock) = absurd cc
    target_proper [] (inr vendor) = absurd cc
    target_proper (a ∷ rest) is = refl

    project_now : is_folder (entry_at x project) ≡ true
    project_now =
        let same : map.get x project ≡ map.get w project = made.each project ∙ rw (no_parent_of project parts all) refl in
        let has = project_kept project w x same project_there in
        ap (has_folder x) (sym (without_last-snoc project (codes "vendor"))) ∙ has.folder (codes "vendor")

    above_target : (part : Part) (front : List (List ℕ)) → front_of part.target ≡ front → ((path : List (List ℕ)) → is_front project (front_of part.target) path ≡ true → is_parent project parts path ≡ true)
        → is_folder (entry_at x (project ++ front)) ≡ true
    above_target part [] e fronts = ap (λ (p : List (List ℕ)). is_folder (entry_at x p)) (append-nil project) ∙ project_now
    above_target part (a ∷ rest) e fronts =
        folder_there x (project ++ a ∷ rest) (made.each (project ++ a ∷ rest) ∙ rw (fronts (project ++ a ∷ rest)
        (ap (λ (names : List (List ℕ)). is_front project names (project ++ a ∷ rest)) e ∙ ap (λ (o : Option (List (List ℕ))). begins_names o (a ∷ rest)) (behind_head project (a ∷ rest))
        ∙ within_is (a ∷ rest) (a ∷ rest) [] (sym (append-nil (a ∷ rest))))) refl)

    parent_of_target : (number : ℕ) (part : Part) → slice_get parts number ≡ Some part → has_folder x (without_last (project ++ part.target)) ≡ true
    parent_of_target number part at =
        let last : IsSnoc part.target = snoc_of part.target (target_proper part.target (target_of parts number part all at)) in
        ap (λ (p : List (List ℕ)). has_folder x (without_last (project ++ p))) last.is
        ∙ ap (λ (p : List (List ℕ)). has_folder x (without_last p)) (sym (append_assoc project last.front (last.last ∷ [])))
        ∙ ap (has_folder x) (without_last-snoc (project ++ last.front) last.last)
        ∙ above_target part last.front (front_is part.target last.front last.last last.is) (λ path e. front_at parts number part path at e)

    part_at : (number : ℕ) (part : Part) → slice_get parts number ≡ Some part → (below : List (List ℕ)) → map.get x (staged_path project number ++ below) ≡ part_entry t part.from below
    part_at number part at below =
        ap (map.get x) (staged_at number below) ∙ in_work_kept (codes "new" ∷ decimal_text number ∷ below) ∙ ap (map.get w) (sym (place_at number below))
        ∙ puts.staged number part (slice_get_within parts number part at) at below
        ∙ part_entries project t v (sources_alike project t u v first second) part.from (can_at parts number part all at) below

    pub job_staged : (left after : ℕ) → job_checked project t parts left ≡ Ok after → IsStagedJob project parts t x
    job_staged left after is = record {
      staged = part_at;
      there = λ number part at stays.
          ap is_some (ap (map.get x) (sym (append-nil (staged_path project number))) ∙ part_at number part at []) ∙ parts_there project t parts left after all is number part at stays;
      old_folder = old_kept [];
      old_empty = λ name rest. ap (map.get x) (below_folder project (codes "old" ∷ []) (name ∷ rest)) ∙ old_kept (name ∷ rest);
      parents = parent_of_target;
      no_journal = other_kept (codes "journal") [] refl refl;
      no_draft = other_kept (codes "journal.tmp") [] refl refl;
    }

-- ---- the barrier

-- after it, what is told is the one tree that a crash may leave
pub one_image : (b d : Meaning) (t : FileTree) → Settles b d → b.told ≡ Some t → IsOnDisk b.disks.now t → EachImage d (λ left. left ≡ t)
one_image b d t settles told on left image =
    one_image_settled b.disks left (subst (λ (disks : Disks). IsImage disks.now left) settles.disks image) ∙ sym on.reads

-- ---- a part that is to be gone

pub nothing_put : (at : List (List ℕ)) (t u : FileTree) → Some t ≡ Some u → IsFree at t → Puts at (λ below. None) t u
nothing_put at t u same free = subst (λ (v : FileTree). Puts at (λ below. None) t v) (same_some t u same) (record { put = free.none; elsewhere = λ path out. refl })

-- ---- paths of parts

pub new_in_new : (project : List (List ℕ)) → is_within (new_path project) (new_path project) ≡ true
new_in_new project = within_is (new_path project) (new_path project) [] (sym (append-nil (new_path project)))

pub place_in_work : (project : List (List ℕ)) (number : ℕ) → place_of project number ≡ in_work project (codes "new" ∷ decimal_text number ∷ [])
place_in_work project number = append_assoc project (codes ".install" ∷ codes "new" ∷ []) (decimal_text number ∷ [])

-- ---- both folders of `.install` are staged places

in_work_staged : (project : List (List ℕ)) (name : List ℕ) → bytes_are_equal name (codes "journal") ≡ false → IsStaged project (in_work project (name ∷ []))
in_work_staged project name other = record {
  within = within_is (work_path project) (in_work project (name ∷ [])) (name ∷ []) (sym (append_assoc project (codes ".install" ∷ []) (name ∷ [])));
  no_journal = λ same.
      let here : behind (in_work project (name ∷ [])) (journal_path project) ≡ None = other_in_work project name (codes "journal") [] other in
      let itself : behind (in_work project (name ∷ [])) (journal_path project) ≡ Some [] = ap (behind (in_work project (name ∷ []))) (sym same ∙ sym (append-nil (in_work project (name ∷ [])))) ∙ behind_head (in_work project (name ∷ [])) [] in
      absurd cc;
}

pub new_staged : (project : List (List ℕ)) → IsStaged project (new_path project)
new_staged project = in_work_staged project (codes "new") refl

pub old_staged : (project : List (List ℕ)) → IsStaged project (old_path project)
old_staged project = in_work_staged project (codes "old") refl

-- ---- the names in `.install`

pub work_segment : is_segment (codes ".install") ≡ true
unfolding is_utf8 chars lib.Utf8.encode
work_segment = refl

pub new_segment : is_segment (codes "new") ≡ true
unfolding is_utf8 chars lib.Utf8.encode
new_segment = refl

pub old_segment : is_segment (codes "old") ≡ true
unfolding is_utf8 chars lib.Utf8.encode
old_segment = refl
