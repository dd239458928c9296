use Rattle.plan_solve.proofs.Needs.{aside_more}
use Rattle.plan_solve.proofs.members.set_aside.Goals as goal

pub returns : goal.returns
returns c = λ pool are its. aside_more pool c.args.aside.now c.insert.new.self c.args.number are c.args.needs its c.in_ok-insert.ensures.updates.0
