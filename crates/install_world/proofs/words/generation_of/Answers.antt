use Rattle.std.proofs.Common.{ap, ◌∙◌}
use Rattle.path_name.specs.Decimals.{decimal_text}
use Rattle.install_world.proofs.LineWords.{not_generation_0}
use Rattle.install_world.proofs.words.generation_of.Goals as goal

pub returns-then-generation-eq0 : goal.returns-then-generation-eq0
returns-then-generation-eq0 c =
    not_generation_0 c.args.words.now c.in-Some.digits.now c.in-Some.ensures
    (c.in-Some-plain_number.ensures ∙ ap decimal_text c.if-generation-eq0.true)
