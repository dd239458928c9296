use Rattle.std.proofs.Common.{refl}
use Rattle.class_paths.specs.declared.types.RouteKind.TheVariants.{Psr4, Psr0}
use Rattle.psr_routes.proofs.RowPrefixes.{all_rows}
use Rattle.autoload_build.specs.Jobs.{rows}
use Rattle.autoload_build.specs.BuiltTables.{classes_of, tables_of}
use Rattle.autoload_build.proofs.PrintedTables.{distinct_classes, distinct_files, distinct_prefixes, has_folders, whole_prefixes}
use Rattle.autoload_build.proofs.laws.tables_can_be_printed.Goals as goal

pub returns-clause-distinct : goal.returns-clause-distinct
unfolding tables_of
returns-clause-distinct c = λ p mode generation found. record {
  psr4 = distinct_prefixes Psr4 (rows p);
  psr0 = distinct_prefixes Psr0 (rows p);
  class_map = distinct_classes (classes_of found);
  files = distinct_files p;
}

pub returns-clause-psr4_folders : goal.returns-clause-psr4_folders
unfolding tables_of
returns-clause-psr4_folders c = λ p mode generation found. has_folders Psr4 (rows p)

pub returns-clause-psr0_folders : goal.returns-clause-psr0_folders
unfolding tables_of
returns-clause-psr0_folders c = λ p mode generation found. has_folders Psr0 (rows p)

pub returns-clause-state : goal.returns-clause-state
unfolding tables_of
returns-clause-state c = λ p mode generation found. refl

pub returns-clause-whole : goal.returns-clause-whole
unfolding tables_of
returns-clause-whole c = λ p mode generation found read. whole_prefixes (rows p) (all_rows p.at p.root p.members read.root read.members p.dev)
