-- Tables that can be printed.
use Rattle.std.specs.Prelude.{ℕ, List, All}
use Rattle.path_name.specs.Paths.{BeginsWith}
use Rattle.table_scan.specs.declared.types.PrefixRow.{PrefixRow}
use Rattle.table_scan.specs.declared.types.ClassRow.{ClassRow}
use Rattle.table_scan.specs.declared.types.FileRow.{FileRow}
use Rattle.table_scan.specs.declared.types.Tables.{Tables}

-- a path at or below the project
abbrev pub IsBelow : List (List ℕ) → List (List ℕ) → Type 0
IsBelow project path = BeginsWith path project

abbrev pub HasFoldersBelow : List (List ℕ) → PrefixRow → Type 0
HasFoldersBelow project row = All (IsBelow project) row.folders

abbrev pub HasClassBelow : List (List ℕ) → ClassRow → Type 0
HasClassBelow project row = IsBelow project row.path

abbrev pub HasFileBelow : List (List ℕ) → FileRow → Type 0
HasFileBelow project row = IsBelow project row.path

-- each path lies at or below the project
pub record AreBelow (project : List (List ℕ)) (tables : Tables) : Type 0 where
  pub psr4 : All (HasFoldersBelow project) tables.psr4
  pub psr0 : All (HasFoldersBelow project) tables.psr0
  pub class_map : All (HasClassBelow project) tables.class_map
  pub files : All (HasFileBelow project) tables.files
