use Rattle.tree_dev.proofs.Recovered.{same_or_any}
use Rattle.tree_dev.proofs.disk_laws.same_or_any_bytes.Goals as goal

pub returns : goal.returns
returns c = λ d q. same_or_any d.base d.pending q
