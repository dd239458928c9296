use Rattle.package_moves.proofs.JobLaws.{stands_alone}
use Rattle.package_moves.proofs.laws.written_files_stand_alone.Goals as goal

pub returns : goal.returns
returns c = λ project t wanted parts part bytes found tree are job among from there other. stands_alone project t wanted part bytes found tree from there other parts are job among
