-- Which file a class opens, by the tables of a project (PSR-4; PSR-0; Composer's documentation, "autoload").
use Rattle.std.specs.Prelude.{ℕ, List, ◌++◌, map, find, Option, Some, None, Bool, true, false, if◌then◌else◌}
use Rattle.std.specs.List.{flat_map}
use Rattle.std.specs.Option.{option_map, option_or}
use Rattle.path_name.specs.Orders.{bytes_are_equal}
use Rattle.tree_dev.specs.Trees.{FileTree, kind_at}
use Rattle.tree_dev.specs.declared.entry.Kind.{Kind}
use Rattle.tree_dev.specs.declared.entry.Kind.TheVariants as kinds
use Rattle.table_scan.specs.declared.types.PrefixRow.{PrefixRow}
use Rattle.table_scan.specs.declared.types.ClassRow.{ClassRow}
use Rattle.table_scan.specs.declared.types.Mode.{Mode}
use Rattle.table_scan.specs.declared.types.Mode.TheVariants as modes
use Rattle.table_scan.specs.declared.types.State.{State}
use Rattle.table_scan.specs.declared.types.Tables.{Tables}
use Rattle.class_paths.specs.declared.types.RouteKind.{RouteKind}
use Rattle.class_paths.specs.declared.types.RouteKind.TheVariants.{Psr4, Psr0}
use Rattle.class_paths.specs.declared.types.Route.{Route}
use Rattle.class_paths.specs.RowPath.{row_path_of}
use Rattle.class_paths.specs.Candidates.{rows_for, candidates_of}

-- ---- the candidates

-- A table's row has a folder or more; each is a row of its own.
abbrev pub routes_of_row : RouteKind → PrefixRow → List Route
routes_of_row kind row = map (λ folder. record { kind = kind; prefix = row.prefix; folder = folder }) row.folders

abbrev pub routes_of : RouteKind → List PrefixRow → List Route
routes_of kind rows = flat_map (routes_of_row kind) rows

-- PSR-4 rows are tried by the length of their prefix, the longest first.
abbrev pub psr4_candidates : List PrefixRow → List ℕ → List (List (List ℕ))
psr4_candidates rows name = candidates_of (routes_of Psr4 rows) name

-- PSR-0 rows are tried as they stand.
abbrev pub psr0_candidates : List PrefixRow → List ℕ → List (List (List ℕ))
psr0_candidates rows name = map (λ row. row_path_of row name) (rows_for (routes_of Psr0 rows) name)

-- the paths at which a class's file is looked for, in order
unfoldable pub candidates_in : Tables → List ℕ → List (List (List ℕ))
candidates_in tables name = psr4_candidates tables.psr4 name ++ psr0_candidates tables.psr0 name

-- ---- the look-up

-- the class map's row of a class
abbrev pub mapped_row : List ClassRow → List ℕ → Option ClassRow
mapped_row rows name = find (λ row. bytes_are_equal row.class name) rows

abbrev pub is_authoritative_mode : Mode → Bool
is_authoritative_mode modes.Plain = false
is_authoritative_mode modes.Optimised = false
is_authoritative_mode modes.Authoritative = true

-- Where no state is told, the tables are plain.
abbrev pub is_authoritative : Option State → Bool
is_authoritative None = false
is_authoritative (Some state) = is_authoritative_mode state.mode

-- the first candidate that is a file; none where the class map is authoritative
abbrev pub searched : Tables → (List (List ℕ) → Bool) → List ℕ → Option (List (List ℕ))
searched tables is_file name = if is_authoritative tables.state then None else find is_file (candidates_in tables name)

-- The file that a class opens, where is_file tells at which paths there is one: that of the class map, whether it is
-- there or not, or else the first candidate that is a file.
unfoldable pub lookup_in : Tables → (List (List ℕ) → Bool) → List ℕ → Option (List (List ℕ))
lookup_in tables is_file name = option_or (option_map (λ row. row.path) (mapped_row tables.class_map name)) (searched tables is_file name)

-- ---- files of a tree

abbrev pub is_file_kind : Kind → Bool
is_file_kind kinds.File = true
is_file_kind kinds.Absent = false
is_file_kind kinds.Folder = false
is_file_kind kinds.Other = false

abbrev pub has_file : FileTree → List (List ℕ) → Bool
has_file t path = is_file_kind (kind_at t path)
