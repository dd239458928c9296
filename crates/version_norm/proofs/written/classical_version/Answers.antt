use Rattle.version_norm.proofs.Read.{classical_takes}
use Rattle.version_norm.proofs.Ranges.{classical_normal}
use Rattle.version_norm.proofs.written.classical_version.Goals as goal

pub returns-clause-normal : goal.returns-clause-normal
returns-clause-normal c = classical_normal c.bare-text.result.now c.in_ok-numbered.numbered (classical_takes c.bare-text.result.now c.in_ok-numbered.numbered c.in_ok-numbered.ensures)
