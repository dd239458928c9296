use Rattle.tree_dev.proofs.FirstFrom.{none_there, first_there}
use Rattle.tree_dev.proofs.files.Files.first_from.Goals as goal

pub returns-in-None : goal.returns-in-None
returns-in-None c = λ path le. none_there c.self.inside.entries.entries c.args.self.now path c.self.view_is ((c.range.ensures.in_range tt).5 c.in-None.ensures.steps.0 path (le, tt))

pub returns-in-Some : goal.returns-in-Some
returns-in-Some c =
    let at = rw c.in-Some.ensures.steps at (c.range.ensures.in_range tt).1 in
    let least = rw c.in-Some.ensures.steps at (c.range.ensures.in_range tt).2 in
    first_there c.self.inside.entries.entries c.range.result _ c.args.self.now c.args.from.now c.in-Some.first.now c.in-Some.field-0-1.now c.self.view_is c.in-Some.ensures.steps
    at.0.0 at.1 (λ q le some. least q (le, tt) some)
