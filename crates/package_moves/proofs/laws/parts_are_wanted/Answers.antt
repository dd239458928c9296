use Rattle.package_moves.proofs.JobLaws.{parts_wanted}
use Rattle.package_moves.proofs.laws.parts_are_wanted.Goals as goal

pub returns : goal.returns
returns c = parts_wanted
