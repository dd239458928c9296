use Rattle.std.proofs.Common.{sym, ap, ◌∙◌, ◌+◌, rules}
use Rattle.path_name.proofs.Joining.{length-segments_of}
use Rattle.path_name.proofs.joined.count.Goals as goal

pub returns : goal.returns
returns c = ap (λ n. n + 1) c.slashes.ensures.value ∙ sym (length-segments_of c.args.joined.now (search rules))
