use Rattle.version_norm.proofs.Spelled.{classical_again}
use Rattle.version_norm.proofs.Read.{classical_takes}
use Rattle.version_norm.proofs.laws.classical_versions.Goals as goal

pub returns-clause-spelled : goal.returns-clause-spelled
returns-clause-spelled c = classical_again

pub returns-clause-read : goal.returns-clause-read
returns-clause-read c = classical_takes
