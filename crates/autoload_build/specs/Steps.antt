-- What the steps of a build have and give.
use Rattle.std.specs.Prelude.{◌≡◌, ℕ, List, [], ◌∷◌, ◌++◌, Bool, filter, map, take, Some}
use Rattle.std.specs.List.{flat_map, prefix_len}
use Rattle.std.specs.Option.{option_map}
use Rattle.std.specs.Borrow.{Bor}
use Rattle.path_name.specs.Orders.{bytes_are_equal, paths_are_equal}
use Rattle.manifest_read.specs.declared.types.Manifest.{Manifest}
use Rattle.class_paths.specs.Search.{Listed}
use Rattle.class_paths.specs.declared.types.Route.{Route}
use Rattle.class_paths.specs.declared.types.RouteKind.TheVariants.{Psr4, Psr0}
use Rattle.psr_routes.specs.declared.types.Placed.{Placed}
use Rattle.psr_routes.specs.Routes.{Source}
use Rattle.class_walk.specs.Patterns.{pattern_of}
use Rattle.class_walk.specs.declared.job.WalkJob.{WalkJob}
use Rattle.class_walk.specs.declared.job.WalkRule.TheVariants as rules
use Rattle.class_walk.specs.declared.pattern.Pattern.{Pattern}
use Rattle.table_scan.specs.declared.types.ClassRow.{ClassRow}
use Rattle.table_scan.specs.declared.types.FileRow.{FileRow}
use Rattle.table_scan.specs.declared.types.PrefixRow.{PrefixRow}
use Rattle.table_scan.specs.declared.types.Mode.{Mode}
use Rattle.table_scan.specs.declared.types.Mode.TheVariants as modes
use Rattle.table_scan.specs.declared.types.State.{State}
use Rattle.table_scan.specs.declared.types.Tables.{Tables}
use Rattle.autoload_build.specs.declared.sources.Source as lent_rules
use Rattle.autoload_build.specs.declared.class_map.Declared.{Declared}
use Rattle.autoload_build.specs.Jobs.{Project, job_of, jobs_of_rows, by_prefix}
use Rattle.autoload_build.specs.BuiltTables.{file_row, first_of_each, prefix_table}

abbrev pub project_of : List (List ℕ) → Manifest → List Placed → Bool → Project
project_of at root members dev = record { at = at; root = root; members = members; dev = dev }

-- ---- rules

abbrev pub source_of : lent_rules.Source → Source
source_of source = record { owner = option_map (λ one. one.now) source.owner; folder = source.folder.now; rules = source.rules.now }

abbrev pub seen : List lent_rules.Source → List Source
seen sources = map source_of sources

abbrev pub package_source : Placed → Source
package_source one = record { owner = Some one; folder = one.shown; rules = one.package.autoload }

-- ---- walks

abbrev pub listed_by : Source → List WalkJob
listed_by source = map (job_of rules.Listed source) source.rules.classmap

abbrev pub jobs_by_mode : Mode → List Source → List WalkJob
jobs_by_mode modes.Plain sources = flat_map listed_by sources
jobs_by_mode modes.Optimised sources = flat_map listed_by sources ++ by_prefix (jobs_of_rows sources)
jobs_by_mode modes.Authoritative sources = flat_map listed_by sources ++ by_prefix (jobs_of_rows sources)

abbrev pub excluded_by : Source → List Pattern
excluded_by source = map (λ text. pattern_of source.folder text) source.rules.exclude

-- ---- prefixes

abbrev pub lent : List (Bor Route) → List Route
lent routes = map (λ row. row.now) routes

abbrev pub lent_prefix : Bor Route → List ℕ
lent_prefix row = row.now.prefix

-- whether a row has the prefix
abbrev pub has_prefix : List ℕ → Bor Route → Bool
has_prefix prefix row = bytes_are_equal row.now.prefix prefix

-- the row of a prefix
abbrev pub row_of : List ℕ → List (Bor Route) → PrefixRow
row_of prefix group = record { prefix = prefix; folders = first_of_each paths_are_equal (map (λ row. row.folder) (lent group)) }

-- the row of the first one's prefix is put, and so many rows at the front have it
abbrev pub PutsRun : List (Bor Route) → List PrefixRow → List PrefixRow → ℕ → Type 0
PutsRun [] before after len = Unit {0}
PutsRun (first ∷ rest) before after len = (len ≡ prefix_len (has_prefix first.now.prefix) (first ∷ rest)) × (after ≡ before ++ row_of first.now.prefix (take len (first ∷ rest)) ∷ [])

-- a row for each of these prefixes
abbrev pub rows_of_prefixes : List (Bor Route) → List (List ℕ) → List PrefixRow
rows_of_prefixes routes prefixes = map (λ prefix. row_of prefix (filter (has_prefix prefix) routes)) prefixes

-- ---- classes

abbrev pub class_of : Declared → Listed
class_of one = (one.class.now, one.file.now)

-- ---- files that are always loaded

abbrev pub has_same_id : FileRow → FileRow → Bool
has_same_id row other = bytes_are_equal row.id other.id

abbrev pub files_of_source : Manifest → Source → List FileRow
files_of_source root source = map (λ file. file_row root (source, file)) source.rules.files

-- all files of rules, one after another
abbrev pub files_by : Manifest → List Source → List FileRow
files_by root sources = flat_map (files_of_source root) sources

-- ---- all five

abbrev pub tables_with : List Route → List ClassRow → List FileRow → State → Tables
tables_with routes class_map files state = record {
  psr4 = prefix_table Psr4 routes;
  psr0 = prefix_table Psr0 routes;
  class_map = class_map;
  files = files;
  state = Some state;
}
