use Rattle.autoload_build.proofs.LookedUp.{plain}
use Rattle.autoload_build.proofs.laws.plain_tables.Goals as goal

pub returns : goal.returns
returns c = λ p generation listed is_file name. plain p generation is_file name listed
