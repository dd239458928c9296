use Rattle.std.proofs.Common.{◌∙◌}
use Rattle.path_name.proofs.PathOrder.{path_cmp-segments_of}
use Rattle.path_name.proofs.joined.compare.Goals as goal

pub returns : goal.returns
returns c = c.compare_ranks.ensures ∙ path_cmp-segments_of c.args.a.now c.args.b.now
