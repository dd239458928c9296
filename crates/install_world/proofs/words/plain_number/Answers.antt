use Rattle.std.proofs.Common.{sym, ◌∙◌}
use Rattle.install_world.proofs.LineWords.{no_plain, other_plain}
use Rattle.install_world.proofs.words.plain_number.Goals as goal

pub returns-in-None : goal.returns-in-None
returns-in-None c = no_plain c.args.digits.now (sym c.in-None.ensures)

pub returns-else-eq : goal.returns-else-eq
returns-else-eq c =
    other_plain c.args.digits.now c.as_bytes.result.now c.in-Some.number (sym c.in-Some.ensures)
    (c.as_bytes.ensures.value ∙ c.format.ensures.text) (sym c.eq.ensures ∙ c.if-eq.false)
