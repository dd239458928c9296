-- Autoload rows of a project (Composer's documentation, "autoload"), in the order of Composer's generator: the root before
-- packages, and a package before what it requires.
use Rattle.std.specs.Prelude.{ℕ, Bool, List, [], ◌∷◌, ◌++◌, map, reverse, Option, Some, None, if◌then◌else◌}
use Rattle.std.specs.List.{flat_map}
use Rattle.manifest_read.specs.declared.types.PathText.{PathText}
use Rattle.manifest_read.specs.declared.types.PrefixDirs.{PrefixDirs}
use Rattle.manifest_read.specs.declared.types.Autoload.{Autoload}
use Rattle.manifest_read.specs.declared.types.Manifest.{Manifest}
use Rattle.class_paths.specs.declared.types.RouteKind.{RouteKind}
use Rattle.class_paths.specs.declared.types.RouteKind.TheVariants.{Psr4, Psr0}
use Rattle.class_paths.specs.declared.types.Route.{Route}
use Rattle.psr_routes.specs.declared.types.Placed.{Placed}
use Rattle.psr_routes.specs.PackageOrder.{ordered}

-- rules with the folder that they speak of, as it is shown, and the package whose they are; the root's have none
pub record Source : Type 0 where
  pub owner : Option Placed
  pub folder : List (List ℕ)
  pub rules : Autoload

-- the root's rules: `autoload`, then `autoload-dev` where it counts
abbrev pub root_sources : List (List ℕ) → Manifest → Bool → List Source
root_sources project root dev =
    record { owner = None; folder = project; rules = root.package.autoload }
    ∷ (if dev then record { owner = None; folder = project; rules = root.autoload_dev } ∷ [] else [])

-- those of the packages, in package order
abbrev pub package_sources : List Placed → List Source
package_sources members = map (λ one. record { owner = Some one.1; folder = one.1.shown; rules = one.1.package.autoload }) (ordered members)

-- For prefixes and listed classes: the root first, then the packages in reverse order, so that one that requires
-- another comes before it.
unfoldable pub sources_of : List (List ℕ) → Manifest → List Placed → Bool → List Source
sources_of project root members dev = root_sources project root dev ++ reverse (package_sources members)

-- For files that are always loaded: the packages in order, and the root last.
unfoldable pub loading_sources_of : List (List ℕ) → Manifest → List Placed → Bool → List Source
loading_sources_of project root members dev = package_sources members ++ root_sources project root dev

-- ---- rows

-- a row for each folder of a prefix
abbrev pub rows_of_prefix : RouteKind → List (List ℕ) → PrefixDirs → List Route
rows_of_prefix kind folder dirs = map (λ p. record { kind = kind; prefix = dirs.prefix; folder = folder ++ p.path }) dirs.folders

abbrev pub prefixes_of : RouteKind → Autoload → List PrefixDirs
prefixes_of Psr4 rules = rules.psr4
prefixes_of Psr0 rules = rules.psr0

-- the rows of one kind, in the order in which the rules stand
abbrev pub rows_of_source : RouteKind → Source → List Route
rows_of_source kind source = flat_map (rows_of_prefix kind source.folder) (prefixes_of kind source.rules)

abbrev pub rows_of_kind : RouteKind → List Source → List Route
rows_of_kind kind sources = flat_map (rows_of_source kind) sources

-- all rows: those of PSR-4, then those of PSR-0
unfoldable pub rows_of : List (List ℕ) → Manifest → List Placed → Bool → List Route
rows_of project root members dev = rows_of_kind Psr4 (sources_of project root members dev) ++ rows_of_kind Psr0 (sources_of project root members dev)

-- ---- what else rules list

-- each path with the rules that list it
abbrev pub paths_by : (Autoload → List PathText) → List Source → List (Source × PathText)
paths_by listed sources = flat_map (λ source. map (λ p. (source, p)) (listed source.rules)) sources

-- the files and folders whose classes are listed, in the order in which they are searched
unfoldable pub classmap_of : List (List ℕ) → Manifest → List Placed → Bool → List (Source × PathText)
classmap_of project root members dev = paths_by (λ rules. rules.classmap) (sources_of project root members dev)

-- the files that are always loaded, in the order in which they are loaded
unfoldable pub files_of : List (List ℕ) → Manifest → List Placed → Bool → List (Source × PathText)
files_of project root members dev = paths_by (λ rules. rules.files) (loading_sources_of project root members dev)

-- the patterns of what a search for classes leaves out, each with the folder that it speaks of
unfoldable pub exclusions_of : List (List ℕ) → Manifest → List Placed → Bool → List (List (List ℕ) × List ℕ)
exclusions_of project root members dev = flat_map (λ source. map (λ text. (source.folder, text)) source.rules.exclude) (sources_of project root members dev)
