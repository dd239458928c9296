-- The names of the table files.
use Rattle.std.specs.Prelude.{ℕ, List, codes}
use Rattle.table_scan.specs.declared.types.TableFile.{TableFile}
use Rattle.table_scan.specs.declared.types.TableFile.TheVariants as files

unfoldable pub table_name : TableFile → List ℕ
table_name files.Psr4 = codes "autoload_psr4.php"
table_name files.Psr0 = codes "autoload_namespaces.php"
table_name files.ClassMap = codes "autoload_classmap.php"
table_name files.Files = codes "autoload_files.php"
table_name files.State = codes "autoload_state.php"
