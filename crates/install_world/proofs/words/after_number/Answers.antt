use Rattle.std.proofs.Common.{◌∙◌}
use Rattle.path_name.specs.Decimals.{decimal_text}
use Rattle.install_world.proofs.LineWords.{no_space}
use Rattle.install_world.proofs.words.after_number.Goals as goal

pub returns-in-None-behind : goal.returns-in-None-behind
returns-in-None-behind c =
    no_space c.args.text.now (decimal_text c.args.number) c.as_bytes.result.now c.in-Some.after.now (c.as_bytes.ensures.value ∙ c.format.ensures.text)
    c.in-Some.ensures c.in-None-behind.ensures
