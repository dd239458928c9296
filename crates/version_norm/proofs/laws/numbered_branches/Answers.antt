use Rattle.version_norm.proofs.Spelled.{numbered_branch_again}
use Rattle.version_norm.proofs.Read.{numbered_branch_takes}
use Rattle.version_norm.proofs.laws.numbered_branches.Goals as goal

pub returns-clause-spelled : goal.returns-clause-spelled
returns-clause-spelled c = numbered_branch_again

pub returns-clause-read : goal.returns-clause-read
returns-clause-read c = numbered_branch_takes
