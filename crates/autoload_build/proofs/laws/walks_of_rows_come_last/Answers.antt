use Rattle.std.proofs.Common.{refl}
use Rattle.autoload_build.proofs.WalkedParts.{found_in_parts}
use Rattle.autoload_build.proofs.laws.walks_of_rows_come_last.Goals as goal

pub returns-clause-parts : goal.returns-clause-parts
returns-clause-parts c = found_in_parts

pub returns-clause-same : goal.returns-clause-same
returns-clause-same c = λ t p left. refl
