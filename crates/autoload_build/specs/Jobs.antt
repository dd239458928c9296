-- What is walked for a project's class map (Composer's documentation, "autoload", "exclude-from-classmap"; "Optimize the
-- autoloader").
use Rattle.std.specs.Prelude.{ℕ, List, [], ◌∷◌, ◌++◌, Bool, map, filter, codes, if◌then◌else◌}
use Rattle.std.specs.List.{AllByRecursion, flat_map}
use Rattle.std.specs.Option.{option_map_or}
use Rattle.std.specs.FinMap.{from_entries, keys}
use Rattle.std.specs.declared.cmp.Ordering.{Ordering}
use Rattle.path_name.specs.Orders.{byte_cmp, bytes_are_equal}
use Rattle.path_name.specs.Paths.{BeginsWith}
use Rattle.tree_dev.specs.Projects.{vendor_path, work_path}
use Rattle.manifest_read.specs.declared.types.PathText.{PathText}
use Rattle.manifest_read.specs.declared.types.PrefixDirs.{PrefixDirs}
use Rattle.manifest_read.specs.WellFormed.{IsManifest, IsPackage}
use Rattle.manifest_read.specs.declared.types.Manifest.{Manifest}
use Rattle.manifest_read.specs.declared.types.Role.TheVariants.{Root, Member}
use Rattle.class_paths.specs.declared.types.RouteKind.{RouteKind}
use Rattle.class_paths.specs.declared.types.RouteKind.TheVariants.{Psr4, Psr0}
use Rattle.class_paths.specs.declared.types.Route.{Route}
use Rattle.psr_routes.specs.declared.types.Placed.{Placed}
use Rattle.psr_routes.specs.Routes.{Source, sources_of, rows_of, classmap_of, exclusions_of, prefixes_of}
use Rattle.class_walk.specs.Patterns.{pattern_of}
use Rattle.class_walk.specs.declared.job.WalkJob.{WalkJob}
use Rattle.class_walk.specs.declared.job.WalkRule.{WalkRule}
use Rattle.class_walk.specs.declared.job.WalkRule.TheVariants as rules
use Rattle.class_walk.specs.declared.pattern.Pattern.{Pattern}
use Rattle.table_scan.specs.declared.types.Mode.{Mode}
use Rattle.table_scan.specs.declared.types.Mode.TheVariants as modes

-- a project: its folder, its manifest, its packages in their places, and whether what is for development counts
pub record Project : Type 0 where
  pub at : List (List ℕ)
  pub root : Manifest
  pub members : List Placed
  pub dev : Bool

-- its manifests are as manifests are read
pub record HasReadManifests (p : Project) : Type 0 where
  pub root : IsManifest Root p.root
  pub members : AllByRecursion (λ one. IsPackage Member one.package) p.members

-- its packages stand at or below its folder
abbrev pub ArePlacedBelow : Project → Type 0
ArePlacedBelow p = AllByRecursion (λ one. BeginsWith one.shown p.at) p.members

-- its autoload rows
abbrev pub rows : Project → List Route
rows p = rows_of p.at p.root p.members p.dev

-- ---- one walk

-- where the files are read that rules speak of
abbrev pub place_of : Source → List (List ℕ)
place_of source = option_map_or (λ one. one.at) source.owner source.folder

-- what is never copied of a package's folder
abbrev pub not_copied : List (List ℕ) → List (List (List ℕ))
not_copied at = vendor_path at ∷ (at ++ codes ".git" ∷ []) ∷ work_path at ∷ []

-- A package that is read where it is copied from is seen as its copy will be.
abbrev pub left_out : Placed → List (List (List ℕ))
left_out one = if one.mirrored then not_copied one.at else []

-- The root's walks leave out the folder of packages.
abbrev pub skipped_for : Source → List (List (List ℕ))
skipped_for source = option_map_or left_out source.owner (vendor_path source.folder ∷ [])

abbrev pub job_of : WalkRule → Source → PathText → WalkJob
job_of rule source p = record { at = place_of source ++ p.path; shown = source.folder ++ p.path; rule = rule; skip = skipped_for source }

-- ---- all walks

-- the files and folders that `classmap` lists, in the order in which they are searched
unfoldable pub listed_jobs : Project → List WalkJob
listed_jobs p = map (λ one. job_of rules.Listed one.0 one.1) (classmap_of p.at p.root p.members p.dev)

abbrev pub rule_of : RouteKind → List ℕ → WalkRule
rule_of Psr4 prefix = rules.Psr4 prefix
rule_of Psr0 prefix = rules.Psr0 prefix

-- a walk for each folder of a prefix
abbrev pub jobs_of_prefix : RouteKind → Source → PrefixDirs → List WalkJob
jobs_of_prefix kind source dirs = map (job_of (rule_of kind dirs.prefix) source) dirs.folders

abbrev pub jobs_of_source : RouteKind → Source → List WalkJob
jobs_of_source kind source = flat_map (jobs_of_prefix kind source) (prefixes_of kind source.rules)

abbrev pub jobs_of_kind : RouteKind → List Source → List WalkJob
jobs_of_kind kind sources = flat_map (jobs_of_source kind) sources

-- a walk for each row, in the order of rows
unfoldable pub jobs_of_rows : List Source → List WalkJob
jobs_of_rows sources = jobs_of_kind Psr4 sources ++ jobs_of_kind Psr0 sources

abbrev pub prefix_of : WalkRule → List ℕ
prefix_of rules.Listed = []
prefix_of (rules.Psr4 prefix) = prefix
prefix_of (rules.Psr0 prefix) = prefix

-- the greater one in byte order first
abbrev pub falls : List ℕ → List ℕ → Ordering
falls one other = byte_cmp other one

-- the texts of a list, each once, in an order
abbrev pub each_once : (List ℕ → List ℕ → Ordering) → List (List ℕ) → List (List ℕ)
each_once order texts = keys (from_entries {R = order} (map (λ text. (text, text)) texts))

-- the texts of a list, each once, the greatest in byte order first
unfoldable pub falling : List (List ℕ) → List (List ℕ)
falling texts = each_once falls texts

-- The items of the greatest key in byte order come first; those of one key keep their order.
abbrev pub by_falling_key : {X : Type 0} → (X → List ℕ) → List X → List X
by_falling_key key items = flat_map (λ text. filter (λ item. bytes_are_equal (key item) text) items) (falling (map key items))

-- The greatest prefix comes first; walks of one prefix keep their order, so that those of PSR-4 come before those of PSR-0.
unfoldable pub by_prefix : List WalkJob → List WalkJob
by_prefix jobs = by_falling_key (λ job. prefix_of job.rule) jobs

-- the folders of rows
unfoldable pub row_jobs : Project → List WalkJob
row_jobs p = by_prefix (jobs_of_rows (sources_of p.at p.root p.members p.dev))

-- Plain tables have the classes of listed files alone.
abbrev pub jobs_of : Mode → Project → List WalkJob
jobs_of modes.Plain p = listed_jobs p
jobs_of modes.Optimised p = listed_jobs p ++ row_jobs p
jobs_of modes.Authoritative p = listed_jobs p ++ row_jobs p

-- what no walk scans, whosever walk it is
unfoldable pub patterns_of : Project → List Pattern
patterns_of p = map (λ one. pattern_of one.0 one.1) (exclusions_of p.at p.root p.members p.dev)
