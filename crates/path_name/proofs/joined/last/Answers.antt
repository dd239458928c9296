use Rattle.std.proofs.Common.{arith, rules, ◌+◌}
use Rattle.std.proofs.lemmas.List.{take_rest}
use Rattle.path_name.proofs.Joining.{no_slash, last_of_one, last_at}
use Rattle.path_name.proofs.joined.last.Goals as goal

pub returns-in-None : goal.returns-in-None
returns-in-None c = last_of_one c.args.joined.now (search rules) (no_slash c.args.joined.now (λ k below. c.in-None.ensures k (omega arith) below))

pub returns-in-Some : goal.returns-in-Some
returns-in-Some c = rw (take_rest c.args.joined.now (c.in-Some.at + 1)) (last_at c.args.joined.now c.in-Some.at c.in-Some.ensures.0 c.in-Some.ensures.1)
