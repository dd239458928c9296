use Rattle.std.proofs.Common.{◌∙◌, sym}
use Rattle.composer_top.proofs.runner.recovered.Goals as goal

pub returns-in-Ok-clause-told : goal.returns-in-Ok-clause-told
returns-in-Ok-clause-told g c = λ t told.
    let found = c.in-Ok.ensures.told t told in
    (found.0 ∙ sym c.plain.ensures.lines, c.plain.ensures.end, found.1)
