-- For which classes optimised and authoritative tables open the same file as plain ones (Composer's documentation, "Optimize
-- the autoloader", whose trade-offs these premises are).
use Rattle.std.specs.Prelude.{◌≡◌, ◌≢◌, ℕ, List, ◌++◌, true, false, codes, Option, Some, None, if◌then◌else◌, ◌⊎◌}
use Rattle.std.specs.List.{AllByRecursion, Contains}
use Rattle.php_lex.specs.Cut.{Lex, IsCut}
use Rattle.php_decl.specs.Declarations.{names_of}
use Rattle.tree_dev.specs.Trees.{FileTree, entry_at}
use Rattle.tree_dev.specs.Projects.{bytes_of, is_within, vendor_path}
use Rattle.class_paths.specs.Candidates.{candidates_of}
use Rattle.class_paths.specs.Search.{Listed}
use Rattle.class_paths.specs.declared.types.RouteKind.TheVariants.{Psr4, Psr0}
use Rattle.class_paths.specs.declared.types.Route.{Route}
use Rattle.psr_routes.specs.declared.types.Placed.{Placed}
use Rattle.psr_routes.specs.Routes.{root_sources, rows_of_kind}
use Rattle.class_walk.specs.Patterns.{is_excluded}
use Rattle.class_walk.specs.Walks.{ends_in, is_skipped, last_of}
use Rattle.autoload_build.specs.Jobs.{Project, left_out, patterns_of, rows}

-- ---- the tree in which classes are looked up

-- the bytes of the file at a path, if a file is there
abbrev pub file_in : FileTree → List (List ℕ) → Option (List ℕ)
file_in t path = bytes_of (entry_at t path)

-- the same of a package's file, at a path below the folder in which the package is read
abbrev pub file_of_package : FileTree → Placed → List (List ℕ) → Option (List ℕ)
file_of_package read one below = if is_skipped (left_out one) (one.at ++ below) then None else file_in read (one.at ++ below)

-- In the tree that is shown each package stands in its place as it was when it was read, and outside `vendor` the files
-- whose names end in `.php` are the same.
pub record IsShown (p : Project) (read shown : FileTree) : Type 0 where
  pub own : (path : List (List ℕ)) → is_within (vendor_path p.at) path ≡ false → ends_in (codes ".php") (last_of path) ≡ true → file_in shown path ≡ file_in read path
  pub packages : AllByRecursion (λ one. (below : List (List ℕ)) → file_in shown (one.shown ++ below) ≡ file_of_package read one below) p.members

-- ---- unambiguous classes

-- a file of these bytes declares a class
abbrev pub Declares : List ℕ → List ℕ → Type 0
Declares bytes name = (lexemes : List Lex) → IsCut bytes lexemes → Contains (names_of lexemes) name

-- a path at which the class's file is looked for, and a file of these bytes is there
pub record IsCandidateFile (t : FileTree) (routes : List Route) (name : List ℕ) (path : List (List ℕ)) (bytes : List ℕ) : Type 0 where
  pub candidate : Contains (candidates_of routes name) path
  pub is_there : file_in t path ≡ Some bytes

-- one of the files that are to declare a class: a file at which it is looked for, or one that is listed for it
abbrev pub IsDeclaredIn : FileTree → List Route → List Listed → List ℕ → List (List ℕ) → Type 0
IsDeclaredIn t routes listed name path = ((bytes : List ℕ) × IsCandidateFile t routes name path bytes × Declares bytes name) ⊎ Contains listed (name, path)

-- A class is unambiguous where each file at which it is looked for declares it, and at most one file does, those that are
-- listed for it counted too.
pub record IsUnambiguous (t : FileTree) (routes : List Route) (listed : List Listed) (name : List ℕ) : Type 0 where
  pub declares : (path : List (List ℕ)) (bytes : List ℕ) → IsCandidateFile t routes name path bytes → Declares bytes name
  pub one : (path other : List (List ℕ)) → IsDeclaredIn t routes listed name path → IsDeclaredIn t routes listed name other → path ≡ other

-- ---- classes in reach of the scan

-- the rows of the root's own rules
abbrev pub root_rows : Project → List Route
root_rows p = rows_of_kind Psr4 (root_sources p.at p.root p.dev) ++ rows_of_kind Psr0 (root_sources p.at p.root p.dev)

-- A class is in reach of the scan where the scan passes over no file at which it is looked for: no pattern excludes the
-- file, its name is not `.php` alone, and the root's own rows look for none in `vendor`.
pub record IsInScanReach (t : FileTree) (p : Project) (name : List ℕ) : Type 0 where
  pub kept : (path : List (List ℕ)) (bytes : List ℕ) → IsCandidateFile t (rows p) name path bytes → is_excluded (patterns_of p) path ≡ false
  pub named : (path : List (List ℕ)) (bytes : List ℕ) → IsCandidateFile t (rows p) name path bytes → last_of path ≢ codes ".php"
  pub own : (path : List (List ℕ)) (bytes : List ℕ) → IsCandidateFile t (root_rows p) name path bytes → is_within (vendor_path p.at) path ≡ false
