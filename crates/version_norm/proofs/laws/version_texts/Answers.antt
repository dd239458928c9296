use Rattle.version_norm.proofs.Ordered.{has_form, only_form}
use Rattle.version_norm.proofs.laws.version_texts.Goals as goal

pub returns-clause-has : goal.returns-clause-has
returns-clause-has c = has_form

pub returns-clause-only : goal.returns-clause-only
returns-clause-only c = only_form
