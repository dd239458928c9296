use Rattle.class_paths.specs.declared.types.RouteKind.TheVariants.{Psr4, Psr0}
use Rattle.autoload_build.specs.BuiltTables.{tables_of}
use Rattle.autoload_build.proofs.BelowProject.{classes_below, files_below, found_below, prefixes_below}
use Rattle.autoload_build.proofs.laws.tables_lie_below.Goals as goal

pub returns-clause-found : goal.returns-clause-found
returns-clause-found c = λ t p mode left walked found below e scans. found_below p below t mode left walked found e scans

pub returns-clause-psr4 : goal.returns-clause-psr4
unfolding tables_of
returns-clause-psr4 c = λ p mode generation found below. prefixes_below p below Psr4

pub returns-clause-psr0 : goal.returns-clause-psr0
unfolding tables_of
returns-clause-psr0 c = λ p mode generation found below. prefixes_below p below Psr0

pub returns-clause-class_map : goal.returns-clause-class_map
unfolding tables_of
returns-clause-class_map c = λ p mode generation found below shown. classes_below p below found shown

pub returns-clause-files : goal.returns-clause-files
unfolding tables_of
returns-clause-files c = λ p mode generation found below. files_below p below
