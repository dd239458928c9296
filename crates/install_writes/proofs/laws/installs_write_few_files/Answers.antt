use Rattle.install_writes.proofs.Counts.{few_writes}
use Rattle.install_writes.proofs.laws.installs_write_few_files.Goals as goal

pub returns : goal.returns
returns c = few_writes
