use Rattle.std.proofs.Common.{ap}
use Rattle.version_norm.specs.Versions.{numbered_text}
use Rattle.version_norm.proofs.OrderLaws.{numbered_cmp_total, numbered_cmp_exact}
use Rattle.version_norm.proofs.laws.version_order.Goals as goal

pub returns-clause-total : goal.returns-clause-total
returns-clause-total c = numbered_cmp_total

pub returns-clause-exact : goal.returns-clause-exact
returns-clause-exact c = numbered_cmp_exact

pub returns-clause-text : goal.returns-clause-text
returns-clause-text c = λ a b e. ap numbered_text (numbered_cmp_exact a b e)
