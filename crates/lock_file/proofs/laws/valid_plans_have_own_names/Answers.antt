use Rattle.lock_file.proofs.OwnNames.{own_names}
use Rattle.lock_file.proofs.laws.valid_plans_have_own_names.Goals as goal

pub returns : goal.returns
returns c = own_names
