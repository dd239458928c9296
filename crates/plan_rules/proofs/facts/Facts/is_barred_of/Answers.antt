use Rattle.plan_rules.proofs.facts.Facts.is_barred_of.Goals as goal

pub returns : goal.returns
returns c = c.is_barred.ensures c.args.name.now
