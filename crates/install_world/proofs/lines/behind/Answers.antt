use Rattle.install_world.proofs.FirstLine.{no_front, front_cut}
use Rattle.install_world.proofs.lines.behind.Goals as goal

pub returns-in-None : goal.returns-in-None
returns-in-None c = λ rest. no_front c.args.text.now c.args.front.now rest c.in-None.ensures.cases

pub returns-in-Some : goal.returns-in-Some
returns-in-Some c = front_cut c.args.text.now c.args.front.now c.in-Some.rest.now c.in-Some.ensures.cases.0 c.in-Some.ensures.cases.1
