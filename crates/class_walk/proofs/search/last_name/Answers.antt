use Rattle.class_walk.proofs.Skipped.{last_name}
use Rattle.class_walk.proofs.search.last_name.Goals as goal

pub returns-in-Some : goal.returns-in-Some
returns-in-Some c = last_name c.args.at.now _ c.in-Some.ensures
