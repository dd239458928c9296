use Rattle.std.proofs.Common.{rules}
use Rattle.path_name.proofs.Joining.{first_of}
use Rattle.path_name.proofs.joined.first.Goals as goal

pub returns : goal.returns
returns c = first_of c.args.joined.now _ c.first_part.result.1 (search rules) c.first_part.ensures.parts
