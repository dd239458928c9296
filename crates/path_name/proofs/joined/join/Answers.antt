use Rattle.std.proofs.Common.{rules}
use Rattle.path_name.proofs.Joining.{segments_of-joined}
use Rattle.path_name.proofs.joined.join.Goals as goal

pub returns : goal.returns
returns c = rw (c.in_ok-extend_from_slice-2.ensures.items, c.in_ok-push.ensures.items, c.in_ok-extend_from_slice.ensures.items, c.in_ok-joined.ensures.items) (segments_of-joined c.args.head.now c.args.tail.now (search rules) (search rules))
