use Rattle.install_world.proofs.apart.last_up_to.Goals as goal

pub returns-in-None : goal.returns-in-None
returns-in-None c = λ other low. (c.range.ensures.in_range tt).5 c.in-None.ensures.steps.0 other (tt, low)

pub returns-in-Some : goal.returns-in-Some
returns-in-Some c =
    let at = (c.range.ensures.in_range tt).3 c.in-Some.last.now _ c.in-Some.ensures.steps in
    let greatest = (c.range.ensures.in_range tt).4 c.in-Some.last.now _ c.in-Some.ensures.steps in
    (at.1, at.0.1, λ other low has. greatest other (tt, low) has)
