-- The tables of a project, from its rows and from what the walks found (Composer's documentation, "autoload"; "Optimize the
-- autoloader").
use Rattle.std.specs.Prelude.{ℕ, List, [], ◌∷◌, ◌++◌, Bool, not, map, filter, Some}
use Rattle.std.specs.List.{flat_map}
use Rattle.std.specs.Option.{option_map_or}
use Rattle.std.specs.FinMap.{from_entries, entries}
use Rattle.path_name.specs.Orders.{byte_cmp, bytes_are_equal, paths_are_equal}
use Rattle.content_hash.specs.Ids.{id_of}
use Rattle.manifest_read.specs.declared.types.PathText.{PathText}
use Rattle.manifest_read.specs.declared.types.Manifest.{Manifest}
use Rattle.class_paths.specs.Candidates.{is_of, of_kind}
use Rattle.class_paths.specs.Search.{Listed}
use Rattle.class_paths.specs.declared.types.RouteKind.{RouteKind}
use Rattle.class_paths.specs.declared.types.RouteKind.TheVariants.{Psr4, Psr0}
use Rattle.class_paths.specs.declared.types.Route.{Route}
use Rattle.psr_routes.specs.Routes.{Source, files_of}
use Rattle.class_walk.specs.declared.job.Scanned.{Scanned}
use Rattle.table_scan.specs.declared.types.PrefixRow.{PrefixRow}
use Rattle.table_scan.specs.declared.types.ClassRow.{ClassRow}
use Rattle.table_scan.specs.declared.types.FileRow.{FileRow}
use Rattle.table_scan.specs.declared.types.Mode.{Mode}
use Rattle.table_scan.specs.declared.types.Tables.{Tables}
use Rattle.autoload_build.specs.Jobs.{Project, rows, falling}

-- what equals an item before it is left out
abbrev pub first_of_each : {X : Type 0} → (X → X → Bool) → List X → List X
first_of_each same [] = []
first_of_each same (x ∷ rest) = x ∷ filter (λ other. not (same x other)) (first_of_each same rest)

-- ---- prefixes

-- the folders of the rows of one kind and prefix, each once
abbrev pub folders_of : RouteKind → List Route → List ℕ → List (List (List ℕ))
folders_of kind routes prefix = first_of_each paths_are_equal (map (λ row. row.folder) (filter (is_of kind prefix) routes))

-- The rows of one kind brought together: one row a prefix, the greatest in byte order first.
unfoldable pub prefix_table : RouteKind → List Route → List PrefixRow
prefix_table kind routes = map (λ prefix. record { prefix = prefix; folders = folders_of kind routes prefix }) (falling (map (λ row. row.prefix) (of_kind kind routes)))

-- ---- classes

-- each class that was found, with the file that declares it, in order
abbrev pub classes_in : Scanned → List Listed
classes_in scanned = map (λ name. (name, scanned.shown)) scanned.names

unfoldable pub classes_of : List Scanned → List Listed
classes_of found = flat_map classes_in found

-- each class with its first file, in byte order of classes (of entries of one key a map has the first)
unfoldable pub first_files : List Listed → List Listed
first_files listed = entries (from_entries {R = byte_cmp} listed)

abbrev pub class_row : Listed → ClassRow
class_row one = record { class = one.0; path = one.1 }

-- Each class has its first file, and they stand in byte order.
unfoldable pub class_map_of : List Listed → List ClassRow
class_map_of listed = map class_row (first_files listed)

-- ---- files that are always loaded

-- the package whose rules they are
abbrev pub name_of : Manifest → Source → List ℕ
name_of root source = option_map_or (λ one. one.package.name) source.owner root.package.name

-- the id of NAME:PATH, the path as it is written
abbrev pub file_id : Manifest → Source → PathText → List ℕ
file_id root source p = id_of (name_of root source ++ 58 ∷ p.written)

abbrev pub file_row : Manifest → Source × PathText → FileRow
file_row root one = record { id = file_id root one.0 one.1; path = one.0.folder ++ one.1.path }

-- An id that stands twice keeps its first place.
unfoldable pub file_table : Project → List FileRow
file_table p = first_of_each (λ row other. bytes_are_equal row.id other.id) (map (file_row p.root) (files_of p.at p.root p.members p.dev))

-- ---- all five

unfoldable pub tables_of : Project → Mode → ℕ → List Scanned → Tables
tables_of p mode generation found = record {
  psr4 = prefix_table Psr4 (rows p);
  psr0 = prefix_table Psr0 (rows p);
  class_map = class_map_of (classes_of found);
  files = file_table p;
  state = Some (record { mode = mode; generation = generation });
}
