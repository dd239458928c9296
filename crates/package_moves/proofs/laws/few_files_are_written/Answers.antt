use Rattle.package_moves.proofs.FewFiles.{few_files}
use Rattle.package_moves.proofs.laws.few_files_are_written.Goals as goal

pub returns : goal.returns
returns c = λ project t packages written parts flags folders are job standing. few_files project t packages written parts flags folders are job standing
