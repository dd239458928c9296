use Rattle.plan_solve.proofs.context.Context.alternatives.Goals as goal

pub returns : goal.returns
returns c = c.alternatives.ensures.alternatives c.requires.index
