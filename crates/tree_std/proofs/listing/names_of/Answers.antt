use Rattle.std.proofs.lemmas.Result.{IfOk-weaker}
use Rattle.tree_std.proofs.listing.names_of.Goals as goal

pub returns-in-Ok-eq0-clause-all : goal.returns-in-Ok-eq0-clause-all
returns-in-Ok-eq0-clause-all g c = IfOk-weaker c.listed.result _ _ (λ answer not_many _. not_many) c.listed.ensures.all
