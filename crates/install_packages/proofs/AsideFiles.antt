-- No row of a project leads a class to a path at or below composer.lock or `.install`: the root's folders may not begin with
-- these names, packages stand in `vendor`, and no part of a class's name is one of them.
use Rattle.std.proofs.Common.{◌≡◌, ℕ, Bool, true, false, List, [], ◌∷◌, ◌++◌, Some, None, refl, sym, ap, ◌∙◌, append_assoc, inl, inr}
use Rattle.std.specs.Prelude.{codes, ◌⊎◌, ◌||◌}
use Rattle.std.specs.List.{AllByRecursion}
use Rattle.path_name.specs.Orders.{bytes_are_equal}
use Rattle.tree_dev.specs.Projects.{is_within, lock_path, vendor_path, work_path}
use Rattle.manifest_read.specs.Autoloads.{is_barred, is_written_segment}
use Rattle.manifest_read.specs.Names.{project_of, vendor_of}
use Rattle.manifest_read.specs.WellFormed.{IsAutoload, IsPathText}
use Rattle.manifest_read.specs.declared.types.Autoload.{Autoload}
use Rattle.manifest_read.specs.declared.types.PathText.{PathText}
use Rattle.manifest_read.specs.declared.types.PrefixDirs.{PrefixDirs}
use Rattle.manifest_read.specs.declared.types.Role.TheVariants.{Root}
use Rattle.class_paths.specs.Candidates.{candidates_of}
use Rattle.class_paths.specs.ClassNames.{is_class_name}
use Rattle.class_paths.specs.RowPath.{path_below, row_path_of}
use Rattle.class_paths.specs.declared.types.Route.{Route}
use Rattle.class_paths.specs.declared.types.RouteKind.{RouteKind}
use Rattle.class_paths.specs.declared.types.RouteKind.TheVariants.{Psr4, Psr0}
use Rattle.class_paths.proofs.Members.{Member, all_member}
use Rattle.class_paths.proofs.TriedRows.{member_append}
use Rattle.psr_routes.specs.Routes.{Source, prefixes_of, root_sources, rows_of, rows_of_kind, rows_of_prefix, rows_of_source, sources_of}
use Rattle.psr_routes.specs.declared.types.Placed.{Placed}
use Rattle.autoload_build.specs.ClassAgreement.{root_rows}
use Rattle.autoload_build.specs.Jobs.{HasReadManifests, Project, rows}
use Rattle.autoload_build.proofs.ListMembers.{member_flat, unmapped}
use Rattle.autoload_build.proofs.RowWalks.{all_of_sources}
use Rattle.autoload_build.proofs.ScanReach.{candidate_row}
use Rattle.install_sources.specs.Folders.{package_place}
use Rattle.install_packages.proofs.ClassPaths.{begins_aside, path_begins}
use Rattle.install_packages.proofs.ShownPackages.{none_within, top_within}

-- ---- paths that an install writes beside `vendor`

-- at or below composer.lock or `.install`
abbrev pub is_aside : List (List ℕ) → List (List ℕ) → Bool
is_aside at path = is_within (lock_path at) path || is_within (work_path at) path

below_project : (at below : List (List ℕ)) → begins_aside below ≡ false → is_aside at (at ++ below) ≡ false
below_project at [] e =
    ap (λ (b : Bool). b || is_within (work_path at) (at ++ [])) (none_within at (codes "composer.lock")) ∙ none_within at (codes ".install")
below_project at (name ∷ rest) e =
    ap (λ (b : Bool). b || is_within (work_path at) (at ++ name ∷ rest)) (top_within at (codes "composer.lock") name rest)
    ∙ ap (λ (b : Bool). bytes_are_equal name (codes "composer.lock") || b) (top_within at (codes ".install") name rest) ∙ e

-- a package's place is in `vendor`
pub place_apart : (at : List (List ℕ)) (name : List ℕ) (below : List (List ℕ)) → is_aside at (package_place at name ++ below) ≡ false
place_apart at name below =
    let folder = vendor_of name ∷ project_of name ∷ [] in
    ap (is_aside at) (append_assoc (vendor_path at) folder below ∙ append_assoc at (codes "vendor" ∷ []) (folder ++ below)) ∙ below_project at (codes "vendor" ∷ folder ++ below) refl

joined : (path tail : List (List ℕ)) → begins_aside path ≡ false → begins_aside tail ≡ false → begins_aside (path ++ tail) ≡ false
joined [] tail first second = second
joined (name ∷ path) tail first second = first

-- the folders of a root
not_barred : (path : List (List ℕ)) → is_barred Root path ≡ false → begins_aside path ≡ false
unfolding is_barred is_written_segment
not_barred [] e = refl
not_barred (name ∷ path) e = by (bytes_are_equal name (codes "vendor")) (bytes_are_equal name (codes ".install")) (bytes_are_equal name (codes "composer.lock")) e
  where
    by : (vendor work lock : Bool) → vendor || work || lock ≡ false → lock || work ≡ false
    by true work lock f = absurd cc
    by false true lock f = absurd cc
    by false false true f = absurd cc
    by false false false f = refl

-- ---- rows

abbrev HaveFolders : PrefixDirs → Type 0
HaveFolders dirs = AllByRecursion (IsPathText Root) dirs.folders

folders_read : (P : PrefixDirs → Type 0) (rows : List PrefixDirs) → AllByRecursion P rows → ((row : PrefixDirs) → P row → HaveFolders row) → AllByRecursion HaveFolders rows
folders_read P [] all so = tt
folders_read P (row ∷ rows) all so = (so row all.0, folders_read P rows all.1 so)

module _ (p : Project) (manifests : HasReadManifests p) (placed : AllByRecursion (λ (one : Placed). one.shown ≡ package_place p.at one.«package».name) p.members) where
  -- no folder of these rules leads aside
  abbrev LeadsApart : Source → Type 0
  LeadsApart source =
      (kind : RouteKind) (dirs : PrefixDirs) → Member dirs (prefixes_of kind source.rules) → (folder : PathText) → Member folder dirs.folders → (tail : List (List ℕ)) → begins_aside tail ≡ false
      → is_aside p.at ((source.folder ++ folder.path) ++ tail) ≡ false

  row_folders : (kind : RouteKind) (rules : Autoload) → IsAutoload Root rules → (dirs : PrefixDirs) → Member dirs (prefixes_of kind rules) → HaveFolders dirs
  row_folders Psr4 rules formed dirs there = all_member HaveFolders rules.psr4 dirs (folders_read _ rules.psr4 formed.psr4 (λ row is. is.folders)) there
  row_folders Psr0 rules formed dirs there = all_member HaveFolders rules.psr0 dirs (folders_read _ rules.psr0 formed.psr0 (λ row is. is.folders)) there

  root_apart : (rules : Autoload) → IsAutoload Root rules → LeadsApart (record { owner = None; folder = p.at; rules = rules })
  root_apart rules formed kind dirs there folder within tail plain =
      let is_path = all_member (IsPathText Root) dirs.folders folder (row_folders kind rules formed dirs there) within in
      ap (is_aside p.at) (append_assoc p.at folder.path tail) ∙ below_project p.at (folder.path ++ tail) (joined folder.path tail (not_barred folder.path is_path.allowed) plain)

  package_apart : (one : Placed) (rules : Autoload) → one.shown ≡ package_place p.at one.«package».name → LeadsApart (record { owner = Some one; folder = one.shown; rules = rules })
  package_apart one rules is kind dirs there folder within tail plain =
      let place = package_place p.at one.«package».name in
      ap (λ (shown : List (List ℕ)). is_aside p.at ((shown ++ folder.path) ++ tail)) is ∙ ap (is_aside p.at) (append_assoc place folder.path tail)
      ∙ place_apart p.at one.«package».name (folder.path ++ tail)

  own_apart : AllByRecursion LeadsApart (root_sources p.at p.root p.dev)
  own_apart = by p.dev
    where
      by : (dev : Bool) → AllByRecursion LeadsApart (root_sources p.at p.root dev)
      by true = (root_apart p.root.package.autoload manifests.root.parts.autoload, (root_apart p.root.autoload_dev manifests.root.autoload_dev, tt))
      by false = (root_apart p.root.package.autoload manifests.root.parts.autoload, tt)

  sources_apart : AllByRecursion LeadsApart (sources_of p.at p.root p.members p.dev)
  sources_apart =
      all_of_sources p LeadsApart (λ (one : Placed). one.shown ≡ package_place p.at one.«package».name)
      (λ rules there. all_member LeadsApart (root_sources p.at p.root p.dev) (record { owner = None; folder = p.at; rules = rules }) own_apart there) package_apart placed

  kind_apart : (kind : RouteKind) (sources : List Source) → AllByRecursion LeadsApart sources → (row : Route) → Member row (rows_of_kind kind sources) → (tail : List (List ℕ)) → begins_aside tail ≡ false
      → is_aside p.at (row.folder ++ tail) ≡ false
  kind_apart kind sources all row there tail plain =
      let by_source = member_flat (rows_of_source kind) sources row there in
      let source = by_source.one in
      let by_dirs = member_flat (rows_of_prefix kind source.folder) (prefixes_of kind source.rules) row by_source.made in
      let dirs = by_dirs.one in
      let route = λ (f : PathText). let made : Route = record { kind = kind; prefix = dirs.prefix; folder = source.folder ++ f.path } in made in
      let by_folder = unmapped route dirs.folders row by_dirs.made in
      ap (λ (some : Route). is_aside p.at (some.folder ++ tail)) (sym by_folder.made)
      ∙ all_member LeadsApart sources source all by_source.is_one kind dirs by_dirs.is_one by_folder.one by_folder.is_one tail plain

  rows_apart : (sources : List Source) → AllByRecursion LeadsApart sources → (row : Route) → Member row (rows_of_kind Psr4 sources ++ rows_of_kind Psr0 sources) → (tail : List (List ℕ))
      → begins_aside tail ≡ false → is_aside p.at (row.folder ++ tail) ≡ false
  rows_apart sources all row there tail plain = by (member_append row (rows_of_kind Psr4 sources) (rows_of_kind Psr0 sources) there)
    where
      by : Member row (rows_of_kind Psr4 sources) ⊎ Member row (rows_of_kind Psr0 sources) → is_aside p.at (row.folder ++ tail) ≡ false
      by (inl first) = kind_apart Psr4 sources all row first tail plain
      by (inr second) = kind_apart Psr0 sources all row second tail plain

  -- ---- where a class is looked for

  module _ (name : List ℕ) (named : is_class_name name ≡ true) (path : List (List ℕ)) where
    led_apart : (sources : List Source) → AllByRecursion LeadsApart sources → Member path (candidates_of (rows_of_kind Psr4 sources ++ rows_of_kind Psr0 sources) name) → is_aside p.at path ≡ false
    unfolding row_path_of
    led_apart sources all there =
        let led = candidate_row (rows_of_kind Psr4 sources ++ rows_of_kind Psr0 sources) name path there in
        let row = led.row in
        ap (is_aside p.at) (sym led.led) ∙ rows_apart sources all row led.is_row (path_below row.kind row.prefix name) (path_begins row.kind row.prefix name named)

    pub candidates_apart : Member path (candidates_of (rows p) name) → is_aside p.at path ≡ false
    unfolding rows_of
    candidates_apart there = led_apart (sources_of p.at p.root p.members p.dev) sources_apart there

    pub root_candidates_apart : Member path (candidates_of (root_rows p) name) → is_aside p.at path ≡ false
    root_candidates_apart there = led_apart (root_sources p.at p.root p.dev) own_apart there
