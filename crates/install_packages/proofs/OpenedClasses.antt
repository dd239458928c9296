-- Which file a class opens in an installed project, by tables that list the classes of rows too.
use Rattle.std.proofs.Common.{◌≡◌, ℕ, Bool, List, [], ◌∷◌, ◌++◌, Option, Ok, sym, ap, subst, ◌∙◌, inl, inr}
use Rattle.std.specs.Prelude.{◌⊎◌}
use Rattle.std.specs.List.{AllByRecursion}
use Rattle.std.specs.Option.{option_or}
use Rattle.path_name.specs.Given.{◌>>=◌}
use Rattle.tree_dev.specs.Trees.{FileTree}
use Rattle.tree_dev.specs.declared.limits.TheConstants.{ENTRIES}
use Rattle.composer_words.specs.declared.chosen.Ways.{Ways}
use Rattle.class_lookup.specs.Lookup.{has_file, lookup_in}
use Rattle.class_paths.specs.ClassNames.{IsClassName}
use Rattle.class_paths.specs.Search.{found_file, listed_file, search_file}
use Rattle.class_walk.specs.declared.job.Scanned.{Scanned}
use Rattle.table_scan.specs.declared.types.Mode.{Mode}
use Rattle.table_scan.specs.declared.types.Mode.TheVariants.{Authoritative, Optimised}
use Rattle.autoload_build.specs.Answers.{walks_of}
use Rattle.autoload_build.specs.BuiltTables.{classes_of, tables_of}
use Rattle.autoload_build.specs.ClassAgreement.{IsInScanReach, IsUnambiguous}
use Rattle.autoload_build.specs.Jobs.{HasReadManifests, Project, rows}
use Rattle.autoload_build.proofs.LookedUp.{authoritative, both_parts}
use Rattle.lock_file.specs.FormedLocks.{IsLocked}
use Rattle.lock_file.specs.declared.types.Locked.{Locked}
use Rattle.manifest_read.specs.WellFormed.{IsPackage}
use Rattle.manifest_read.specs.declared.types.Role.TheVariants.{Member}
use Rattle.psr_routes.specs.declared.types.Placed.{Placed}
use Rattle.project_files.specs.States.{generation_in}
use Rattle.install_sources.specs.Sources.{copied_from, placed_each, placed_in, source_checked, source_folder}
use Rattle.install_sources.proofs.LockEntries.{entries_formed}
use Rattle.install_choice.specs.Choosing.{IsChosenToInstall, IsChosenToUpdate}
use Rattle.install_choice.specs.Planning.{IsChoice}
use Rattle.install_choice.specs.declared.chosen.Chosen.{Chosen}
use Rattle.install_choice.proofs.Steps.{both_ok, same_value}
use Rattle.install_commands.specs.Claiming.{with_claim}
use Rattle.install_commands.specs.declared.work.Work.{Work}
use Rattle.table_files.specs.declared.building.Setting.{Setting}
use Rattle.install_packages.specs.Installations.{HasNewProject, Installation, project_in, tables_in}
use Rattle.install_packages.specs.Installing.{setting_of}
use Rattle.install_packages.proofs.FormedChoices.{install_formed, update_formed}
use Rattle.install_packages.proofs.ShownTrees.{looked_apart, own_apart, reach_there, same_search, shown, unambiguous_there}

module _ (t : FileTree) (at : List (List ℕ)) (chosen : Chosen) (setting : Setting) (left after : ℕ) (work : Work) (made : Installation t at chosen setting left after work) where
  -- the walks of a mode
  pub walks_in : (mode : Mode) → setting.mode ≡ mode → walks_of t (project_in made) mode left ≡ Ok made.walked
  walks_in mode is = ap (λ (some : Mode). walks_of t (project_in made) some left) (sym is) ∙ made.walks

  -- the tables of a mode and of what was found
  pub opens_in : (mode : Mode) (found : List Scanned) (is_file : List (List ℕ) → Bool) (name : List ℕ) → setting.mode ≡ mode → made.found ≡ found
      → lookup_in (tables_in made) is_file name ≡ lookup_in (tables_of (project_in made) mode work.generation found) is_file name
  opens_in mode found is_file name is same =
      ap (λ (some : Mode). lookup_in (tables_of (project_in made) some work.generation made.found) is_file name) is
      ∙ ap (λ (all : List Scanned). lookup_in (tables_of (project_in made) mode work.generation all) is_file name) same

-- ---- manifests as they are read

read_member : (t : FileTree) (at : List (List ℕ)) (locked : Locked) (one : Placed) → IsLocked locked → placed_in t at locked ≡ Ok one → IsPackage Member one.«package»
unfolding placed_in
read_member t at locked one formed e =
    let folder = both_ok (source_folder at locked) (λ place. source_checked t at place >>= λ found. Ok (copied_from at locked.«package» found)) one e in
    let found = both_ok (source_checked t at folder.0) (λ place. Ok (copied_from at locked.«package» place)) one folder.2 in
    subst (λ (some : Placed). IsPackage Member some.«package») (same_value (copied_from at locked.«package» found.0) one found.2) formed.parts

read_members : (t : FileTree) (at : List (List ℕ)) (entries : List Locked) (members : List Placed) → AllByRecursion IsLocked entries → placed_each t at entries ≡ Ok members
    → AllByRecursion (λ (one : Placed). IsPackage Member one.«package») members
unfolding placed_each
read_members t at [] members formed e = subst (AllByRecursion (λ (one : Placed). IsPackage Member one.«package»)) (same_value [] members e) tt
read_members t at (locked ∷ entries) members formed e =
    let one = both_ok (placed_in t at locked) (λ placed. placed_each t at entries >>= λ rest. Ok (placed ∷ rest)) members e in
    let more = both_ok (placed_each t at entries) (λ rest. Ok (one.0 ∷ rest)) members one.2 in
    subst (AllByRecursion (λ (some : Placed). IsPackage Member some.«package»)) (same_value (one.0 ∷ more.0) members more.2)
    (read_member t at locked one.0 formed.0 one.1, read_members t at entries more.0 formed.1 more.1)

pub have_read_manifests : (t : FileTree) (at : List (List ℕ)) (chosen : Chosen) (setting : Setting) (left after : ℕ) (work : Work) (made : Installation t at chosen setting left after work)
    → IsChoice chosen → HasReadManifests (project_in made)
have_read_manifests t at chosen setting left after work made choice = record {
  root = choice.root;
  members =
      read_members t at made.are_members.entries made.members (entries_formed chosen.lock setting.dev made.are_members.entries choice.lock made.are_members.by_name) (sym made.are_members.is_made);
}

-- ---- a new project

module _ (at : List (List ℕ)) (ways : Ways) (start u : FileTree) (new : HasNewProject at ways start u) where
  abbrev party : Project
  party = project_in new.made

  abbrev now : FileTree
  now = shown at (with_claim at start) u

  abbrev setting : Setting
  setting = setting_of ways new.choice.0.root (generation_in (with_claim at start) at)

  is_choice : IsChoice new.choice.0
  is_choice = by new.is_chosen
    where
      by : IsChosenToInstall (with_claim at start) at ENTRIES (Ok new.choice) ⊎ IsChosenToUpdate (with_claim at start) at ENTRIES (Ok new.choice) → IsChoice new.choice.0
      by (inl install) = install_formed (with_claim at start) at ENTRIES new.choice install
      by (inr update) = update_formed (with_claim at start) at ENTRIES new.choice update

  pub read_manifests : HasReadManifests party
  read_manifests = have_read_manifests (with_claim at start) at new.choice.0 setting new.choice.1 new.after new.work new.made is_choice

  module _ (listed walked : List Scanned) (name : List ℕ) (both : new.made.found ≡ listed ++ walked) where
    pub opened : (mode : Mode) → setting.mode ≡ mode → lookup_in (tables_in new.made) (has_file u) name ≡ lookup_in (tables_of party mode new.work.generation (listed ++ walked)) (has_file u) name
    opened mode is = opens_in (with_claim at start) at new.choice.0 setting new.choice.1 new.after new.work new.made mode (listed ++ walked) (has_file u) name is both

  module _ (listed walked : List Scanned) (name : List ℕ) (both : new.made.found ≡ listed ++ walked) (named : IsClassName name) where
    same : found_file (has_file now) (rows party) name ≡ found_file (has_file u) (rows party) name
    same = same_search at (with_claim at start) u party name (looked_apart at ways start u new read_manifests name named)

    pub clear_there : IsUnambiguous u (rows party) (classes_of listed) name → IsUnambiguous now (rows party) (classes_of listed) name
    clear_there clear = unambiguous_there at (with_claim at start) u party name (looked_apart at ways start u new read_manifests name named) (classes_of listed) clear

    pub scan_there : IsInScanReach u party name → IsInScanReach now party name
    scan_there reach =
        reach_there at (with_claim at start) u party name (looked_apart at ways start u new read_manifests name named) (own_apart at ways start u new read_manifests name named) reach

    searched : search_file (has_file now) (rows party) (classes_of listed) name ≡ search_file (has_file u) (rows party) (classes_of listed) name
    unfolding search_file
    searched = ap (λ (found : Option (List (List ℕ))). option_or (listed_file (classes_of listed) name) found) same

    pub optimised_there : setting.mode ≡ Optimised
        → lookup_in (tables_of party Optimised new.work.generation (listed ++ walked)) (has_file now) name ≡ search_file (has_file now) (rows party) (classes_of listed) name
        → lookup_in (tables_in new.made) (has_file u) name ≡ search_file (has_file u) (rows party) (classes_of listed) name
    optimised_there mode agree =
        opened listed walked name both Optimised mode ∙ both_parts party new.work.generation listed walked (has_file u) name
        ∙ ap (λ (found : Option (List (List ℕ))). option_or (option_or (listed_file (classes_of listed) name) (listed_file (classes_of walked) name)) found) (sym same)
        ∙ sym (both_parts party new.work.generation listed walked (has_file now) name) ∙ agree ∙ searched

    pub authoritative_there : setting.mode ≡ Authoritative
        → lookup_in (tables_of party Authoritative new.work.generation (listed ++ walked)) (has_file now) name ≡ search_file (has_file now) (rows party) (classes_of listed) name
        → lookup_in (tables_in new.made) (has_file u) name ≡ search_file (has_file u) (rows party) (classes_of listed) name
    authoritative_there mode agree =
        opened listed walked name both Authoritative mode ∙ authoritative party new.work.generation (listed ++ walked) (has_file u) name
        ∙ sym (authoritative party new.work.generation (listed ++ walked) (has_file now) name) ∙ agree ∙ searched
