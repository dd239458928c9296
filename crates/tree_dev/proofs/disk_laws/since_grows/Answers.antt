use Rattle.tree_dev.proofs.Moments.{was_later, since_parts}
use Rattle.tree_dev.proofs.disk_laws.since_grows.Goals as goal

pub returns : goal.returns
returns c = record { kept = was_later; parts = since_parts }
