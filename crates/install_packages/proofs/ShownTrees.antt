-- The tree in which a project was installed, and one that is the same but at composer.lock and `.install`, where it is as the walks
-- for classes read it. No class is looked for there, so that both open the same files.
use Rattle.std.proofs.Common.{◌≡◌, ℕ, Bool, true, false, cond, List, [], ◌∷◌, ◌++◌, find, Option, Some, None, is_some, refl, sym, ap, subst, ◌∙◌, inl, inr}
use Rattle.std.specs.Prelude.{not, ◌&&◌, ◌||◌}
use Rattle.std.specs.FinMap as maps
use Rattle.std.specs.List.{AllByRecursion}
use Rattle.tree_dev.specs.Projects.{bytes_of, file_at, is_project_part, is_surroundings, is_within, lock_path, vendor_path, work_path}
use Rattle.tree_dev.specs.Trees.{FileTree, IsTree, behind, entry_at, kind_at, kind_of}
use Rattle.tree_dev.specs.declared.change.Change.TheVariants as changes
use Rattle.tree_dev.specs.declared.entry.Entry.{Entry}
use Rattle.tree_dev.specs.declared.entry.Entry.TheVariants as entries
use Rattle.tree_dev.proofs.Behind.{bytes_same}
use Rattle.tree_dev.proofs.Changed.{get-changed}
use Rattle.tree_dev.proofs.SamePaths.{is_same, same_path}
use Rattle.composer_words.specs.declared.chosen.Ways.{Ways}
use Rattle.class_lookup.specs.Lookup.{has_file, is_file_kind}
use Rattle.class_paths.specs.Candidates.{candidates_of}
use Rattle.class_paths.specs.ClassNames.{IsClassName}
use Rattle.class_paths.specs.Search.{Listed, found_file}
use Rattle.class_paths.specs.declared.types.Route.{Route}
use Rattle.class_paths.proofs.Members.{Member}
use Rattle.autoload_build.specs.ClassAgreement.{IsCandidateFile, IsDeclaredIn, IsInScanReach, IsShown, IsUnambiguous, file_in, root_rows}
use Rattle.autoload_build.specs.Jobs.{HasReadManifests, Project, rows}
use Rattle.autoload_build.proofs.FoundNames.{each_member, member}
use Rattle.autoload_build.proofs.KeyGroups.{all_weaker}
use Rattle.install_world.specs.InFlight.{Files, HasFiles}
use Rattle.psr_routes.specs.declared.types.Placed.{Placed}
use Rattle.stage_job.specs.Jobs.{job_result}
use Rattle.install_sources.specs.Folders.{package_place}
use Rattle.project_files.specs.States.{generation_in}
use Rattle.table_files.specs.declared.building.Setting.{Setting}
use Rattle.install_commands.specs.Claiming.{with_claim}
use Rattle.install_packages.specs.Installations.{ArePackagesShown, HasNewProject, project_in}
use Rattle.install_packages.specs.Installing.{setting_of}
use Rattle.install_packages.proofs.AsideFiles.{candidates_apart, is_aside, place_apart, root_candidates_apart}
use Rattle.install_packages.proofs.MergedTrees.{get_merged, merged}
use Rattle.install_packages.proofs.NewProjects.{claimed_file}
use Rattle.install_packages.proofs.ShownPackages.{IsCopied, members_copied, packages_shown}

-- ---- surroundings

pub itself_within : (path : List (List ℕ)) → is_within path path ≡ true
itself_within [] = refl
itself_within (name ∷ path) = ap (λ (same : Bool). is_some (cond same (behind path path) None)) (bytes_same name) ∙ itself_within path

around : (at path : List (List ℕ)) → is_within (vendor_path at) path ≡ false → is_aside at path ≡ false → (is_surroundings at path ≡ true) × (is_within (work_path at) path ≡ false)
unfolding is_surroundings is_project_part
around at path outside apart = by (is_within (lock_path at) path) (is_within (vendor_path at) path) (is_within (work_path at) path) outside apart
  where
    by : (lock vendor work : Bool) → vendor ≡ false → lock || work ≡ false → (not (lock || vendor) && not work ≡ true) × (work ≡ false)
    by true vendor work e f = absurd cc
    by false true work e f = absurd cc
    by false false true e f = absurd cc
    by false false false e f = (refl, refl)

-- the claim changes no other path
pub claimed_entry : (at : List (List ℕ)) (start : FileTree) (path : List (List ℕ)) → is_within (work_path at) path ≡ false → maps.get (with_claim at start) path ≡ maps.get start path
claimed_entry at start path apart = get-changed start (changes.FolderMade (work_path at)) path ∙ by (is_same path (work_path at)) refl
  where
    by : (b : Bool) → is_same path (work_path at) ≡ b → cond b (Some entries.Folder) (maps.get start path) ≡ maps.get start path
    by true e = let both : true ≡ false = sym (itself_within (work_path at)) ∙ ap (is_within (work_path at)) (sym (same_path path (work_path at) e)) ∙ apart in absurd cc
    by false e = refl

-- ---- the two trees

module _ (at : List (List ℕ)) (read u : FileTree) where
  abbrev pub shown : FileTree
  shown = merged (is_aside at) read u

  entry_shown : (path : List (List ℕ)) → is_aside at path ≡ false → entry_at shown path ≡ entry_at u path
  entry_shown [] apart = refl
  entry_shown (name ∷ rest) apart =
      get_merged (is_aside at) read u (name ∷ rest) ∙ ap (λ (b : Bool). cond b (maps.get read (name ∷ rest)) (maps.get u (name ∷ rest))) apart

  packages_there : (members : List Placed) → AllByRecursion (IsCopied at) members → ArePackagesShown read u members → ArePackagesShown read shown members
  packages_there [] copied shows = tt
  packages_there (one ∷ members) copied shows = (
    λ below. ap bytes_of (entry_shown (one.shown ++ below) (ap (λ (place : List (List ℕ)). is_aside at (place ++ below)) copied.0.1 ∙ place_apart at one.«package».name below)) ∙ shows.0 below,
    packages_there members copied.1 shows.1,
  )

  has_same : (path : List (List ℕ)) → entry_at shown path ≡ entry_at u path → has_file shown path ≡ has_file u path
  unfolding kind_at
  has_same path same = ap (λ (e : Option Entry). is_file_kind (kind_of e)) same

  found_same : (paths : List (List (List ℕ))) → AllByRecursion (λ (path : List (List ℕ)). is_aside at path ≡ false) paths → find (has_file shown) paths ≡ find (has_file u) paths
  found_same [] apart = refl
  found_same (path ∷ paths) apart =
      ap (λ (b : Bool). cond b (Some path) (find (has_file shown) paths)) (has_same path (entry_shown path apart.0))
      ∙ ap (λ (more : Option (List (List ℕ))). cond (has_file u path) (Some path) more) (found_same paths apart.1)

  -- ---- classes that are looked for elsewhere

  module _ (p : Project) (name : List ℕ) (apart : (path : List (List ℕ)) → Member path (candidates_of (rows p) name) → is_aside at path ≡ false) where
    pub same_search : found_file (has_file shown) (rows p) name ≡ found_file (has_file u) (rows p) name
    same_search = found_same (candidates_of (rows p) name) (each_member (λ (path : List (List ℕ)). is_aside at path ≡ false) (candidates_of (rows p) name) apart)

    file_there : (routes : List Route) → ((path : List (List ℕ)) → Member path (candidates_of routes name) → is_aside at path ≡ false) → (path : List (List ℕ)) (bytes : List ℕ)
        → IsCandidateFile shown routes name path bytes → IsCandidateFile u routes name path bytes
    file_there routes free path bytes file = record {
      candidate = file.candidate;
      is_there = ap bytes_of (sym (entry_shown path (free path (member (candidates_of routes name) path file.candidate)))) ∙ file.is_there;
    }

    pub unambiguous_there : (listed : List Listed) → IsUnambiguous u (rows p) listed name → IsUnambiguous shown (rows p) listed name
    unambiguous_there listed clear = record {
      declares = λ path bytes file. clear.declares path bytes (file_there (rows p) apart path bytes file);
      one = λ path other first second. clear.one path other (declared path first) (declared other second);
    }
      where
        declared : (path : List (List ℕ)) → IsDeclaredIn shown (rows p) listed name path → IsDeclaredIn u (rows p) listed name path
        declared path (inl file) = inl (file.0, file_there (rows p) apart path file.0 file.1, file.2)
        declared path (inr listing) = inr listing

    pub reach_there : ((path : List (List ℕ)) → Member path (candidates_of (root_rows p) name) → is_aside at path ≡ false) → IsInScanReach u p name → IsInScanReach shown p name
    reach_there own reach = record {
      kept = λ path bytes file. reach.kept path bytes (file_there (rows p) apart path bytes file);
      named = λ path bytes file. reach.named path bytes (file_there (rows p) apart path bytes file);
      own = λ path bytes file. reach.own path bytes (file_there (root_rows p) own path bytes file);
    }

-- ---- a new project

module _ (at : List (List ℕ)) (ways : Ways) (start u : FileTree) (new : HasNewProject at ways start u) where
  abbrev pub read : FileTree
  read = with_claim at start

  abbrev pub setting : Setting
  setting = setting_of ways new.choice.0.root (generation_in read at)

  same_files : file_at start ≡ file_at read
  same_files = λ i path. sym (claimed_file at start path new.unclaimed) i

  pub files_stand : HasFiles at u (job_result at read new.work.job.parts (file_at read))
  files_stand = subst (λ (old : Files). HasFiles at u (job_result at read new.work.job.parts old)) same_files new.stands.has_files

  own_kept : (path : List (List ℕ)) → is_within (vendor_path at) path ≡ false → file_in (shown at read u) path ≡ file_in read path
  own_kept [] outside = refl
  own_kept (name ∷ rest) outside = ap bytes_of (get_merged (is_aside at) read u (name ∷ rest) ∙ by (is_aside at (name ∷ rest)) refl)
    where
      by : (b : Bool) → is_aside at (name ∷ rest) ≡ b → cond b (maps.get read (name ∷ rest)) (maps.get u (name ∷ rest)) ≡ maps.get read (name ∷ rest)
      by true e = refl
      by false e =
          let free = around at (name ∷ rest) outside e in
          new.stands.outside.each (name ∷ rest) free.0 ∙ sym (claimed_entry at start (name ∷ rest) free.1)

  pub is_shown : IsTree read → IsTree u → IsShown (project_in new.made) read (shown at read u)
  is_shown claimed tree = record {
    own = λ path outside ending. own_kept path outside;
    packages =
        packages_there at read u new.made.members (members_copied read at new.choice.0 setting new.choice.1 new.after new.work new.made)
        (packages_shown read at new.choice.0 setting new.choice.1 new.after new.work new.made u claimed tree files_stand);
  }

  in_vendor : AllByRecursion (λ (one : Placed). one.shown ≡ package_place at one.«package».name) new.made.members
  in_vendor = all_weaker (IsCopied at) (λ (one : Placed). one.shown ≡ package_place at one.«package».name) (λ one is. is.1) new.made.members
      (members_copied read at new.choice.0 setting new.choice.1 new.after new.work new.made)

  pub looked_apart : HasReadManifests (project_in new.made) → (name : List ℕ) → IsClassName name → (path : List (List ℕ)) → Member path (candidates_of (rows (project_in new.made)) name) → is_aside at path ≡ false
  looked_apart manifests name named path there = candidates_apart (project_in new.made) manifests in_vendor name named path there

  pub own_apart : HasReadManifests (project_in new.made) → (name : List ℕ) → IsClassName name → (path : List (List ℕ)) → Member path (candidates_of (root_rows (project_in new.made)) name) → is_aside at path ≡ false
  own_apart manifests name named path there = root_candidates_apart (project_in new.made) manifests in_vendor name named path there
