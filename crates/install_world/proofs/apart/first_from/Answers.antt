use Rattle.install_world.proofs.apart.first_from.Goals as goal

pub returns-in-None : goal.returns-in-None
returns-in-None c = λ other high. (c.range.ensures.in_range tt).5 c.in-None.ensures.steps.0 other (high, tt)

pub returns-in-Some : goal.returns-in-Some
returns-in-Some c =
    let at = rw c.in-Some.ensures.steps at (c.range.ensures.in_range tt).1 in
    let least = rw c.in-Some.ensures.steps at (c.range.ensures.in_range tt).2 in
    (at.1, at.0.0, λ other high has. least other (high, tt) has)
