use Rattle.std.proofs.Common.{arith, rules}
use Rattle.path_name.proofs.Joining.{no_slash, parent_of_one, parent_at}
use Rattle.path_name.proofs.joined.parent_len.Goals as goal

pub returns-in-None : goal.returns-in-None
returns-in-None c = (omega arith, parent_of_one c.args.joined.now (search rules) (no_slash c.args.joined.now (λ k below. c.in-None.ensures k (omega arith) below)))

pub returns-in-Some : goal.returns-in-Some
returns-in-Some c = (omega (arith, c.in-Some.ensures.0.0), parent_at c.args.joined.now c.in-Some.end c.in-Some.ensures.0 c.in-Some.ensures.1 c.requires)
