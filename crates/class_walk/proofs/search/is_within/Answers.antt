use Rattle.class_walk.proofs.Skipped.{is_within_by}
use Rattle.class_walk.proofs.search.is_within.Goals as goal

pub returns : goal.returns
returns c = is_within_by c.starts_with.result c.args.head.now c.args.path.now c.starts_with.ensures
