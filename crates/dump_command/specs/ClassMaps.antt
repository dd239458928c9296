-- What tables with a class map of all classes open, beside what the rows and the listed files say (Composer's documentation,
-- "Optimize the autoloader").
use Rattle.std.specs.Prelude.{◌≡◌, ◌⊎◌, ℕ, List, ◌++◌, Bool, true, None, is_some}
use Rattle.tree_dev.specs.Trees.{FileTree}
use Rattle.class_paths.specs.ClassNames.{IsClassName}
use Rattle.class_paths.specs.Search.{listed_file, search_file}
use Rattle.class_lookup.specs.Lookup.{has_file, lookup_in}
use Rattle.class_walk.specs.declared.job.Scanned.{Scanned}
use Rattle.table_scan.specs.declared.types.Tables.{Tables}
use Rattle.autoload_build.specs.Answers.{AreFound}
use Rattle.autoload_build.specs.BuiltTables.{class_map_of, classes_of}
use Rattle.autoload_build.specs.ClassAgreement.{IsInScanReach, IsShown, IsUnambiguous}
use Rattle.autoload_build.specs.Jobs.{Project, rows}

-- Tables open for a class the first listed file that declares it, and else the first file to which the rows lead it.
abbrev pub OpensBySearch : Project → List Scanned → Tables → (List (List ℕ) → Bool) → List ℕ → Type 0
OpensBySearch p listed tables is_file name = lookup_in tables is_file name ≡ search_file is_file (rows p) (classes_of listed) name

-- Optimised tables of a project whose classes were walked for in a tree of which so many entries might be listed.
pub record OpenOptimised (t : FileTree) (p : Project) (left : ℕ) (tables : Tables) : Type 0 where
  -- what the walks of listed paths find, and what those of the folders of rows find behind it
  pub listed : List Scanned
  pub walked : List Scanned
  pub are_found : AreFound t p left listed walked
  -- Each class has the first file that was found to declare it.
  pub class_map : tables.class_map ≡ class_map_of (classes_of (listed ++ walked))
  -- unambiguous classes, in a tree in which the packages stand in their places as the walks read them
  pub unambiguous : (shown : FileTree) (name : List ℕ) → IsShown p t shown → IsUnambiguous shown (rows p) (classes_of listed) name → OpensBySearch p listed tables (has_file shown) name
  -- whatever files there are, a class that is listed, and one that the walks of the folders of rows don't find
  pub others : (is_file : List (List ℕ) → Bool) (name : List ℕ) → (is_some (listed_file (classes_of listed) name) ≡ true) ⊎ (listed_file (classes_of walked) name ≡ None)
      → OpensBySearch p listed tables is_file name

-- Authoritative ones.
pub record OpenAuthoritative (t : FileTree) (p : Project) (left : ℕ) (tables : Tables) : Type 0 where
  pub listed : List Scanned
  pub walked : List Scanned
  pub are_found : AreFound t p left listed walked
  pub class_map : tables.class_map ≡ class_map_of (classes_of (listed ++ walked))
  -- whatever files there are, the file of the class map, and else none
  pub mapped : (is_file : List (List ℕ) → Bool) (name : List ℕ) → lookup_in tables is_file name ≡ listed_file (classes_of (listed ++ walked)) name
  -- unambiguous classes in reach of the scan, in a tree in which the packages stand in their places as the walks read them
  pub in_reach : (shown : FileTree) (name : List ℕ) → IsShown p t shown → IsClassName name → IsUnambiguous shown (rows p) (classes_of listed) name → IsInScanReach shown p name
      → OpensBySearch p listed tables (has_file shown) name
