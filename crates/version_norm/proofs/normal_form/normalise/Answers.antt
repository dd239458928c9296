use Rattle.version_norm.proofs.Ranges.{result_normal}
use Rattle.version_norm.proofs.normal_form.normalise.Goals as goal

pub returns-clause-normal : goal.returns-clause-normal
returns-clause-normal c = result_normal c.before_flag.result.now c.unflagged.result c.unflagged.ensures
