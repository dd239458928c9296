use Rattle.tree_dev.proofs.SteadyRules.{steady_on, steady_start}
use Rattle.tree_dev.proofs.disk_laws.steady_stretches.Goals as goal

pub returns : goal.returns
returns c = record { start = steady_start; on = steady_on }
