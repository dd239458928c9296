-- Tables whose keys are distinct.
use Rattle.std.specs.Prelude.{ℕ, List, map}
use Rattle.std.specs.List.{IsDistinct}
use Rattle.path_name.specs.Orders.{bytes_are_equal}
use Rattle.table_scan.specs.declared.types.FileRow.{FileRow}
use Rattle.table_scan.specs.declared.types.Tables.{Tables}
use Rattle.table_scan.specs.TableFaults.{prefix_of, class_of}

abbrev pub id_of : FileRow → List ℕ
id_of row = row.id

abbrev pub AreDistinct : List (List ℕ) → Type 0
AreDistinct keys = IsDistinct bytes_are_equal keys

-- no key of a table is that of another row of the same table
pub record HaveDistinctKeys (tables : Tables) : Type 0 where
  pub psr4 : AreDistinct (map prefix_of tables.psr4)
  pub psr0 : AreDistinct (map prefix_of tables.psr0)
  pub class_map : AreDistinct (map class_of tables.class_map)
  pub files : AreDistinct (map id_of tables.files)
