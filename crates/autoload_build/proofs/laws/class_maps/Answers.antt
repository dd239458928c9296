use Rattle.autoload_build.proofs.LookedUp.{first_file}
use Rattle.autoload_build.proofs.PrintedTables.{classes_rise}
use Rattle.autoload_build.proofs.laws.class_maps.Goals as goal

pub returns-clause-first : goal.returns-clause-first
returns-clause-first c = first_file

pub returns-clause-rise : goal.returns-clause-rise
returns-clause-rise c = classes_rise
