use Rattle.std.proofs.Common.{sym, ap, ◌∙◌}
use Rattle.hex.specs.Hex.{encode_lower}
use Rattle.install_world.proofs.LineWords.{not_path, not_own_text}
use Rattle.install_world.proofs.words.own_path.Goals as goal

pub returns-in-None : goal.returns-in-None
returns-in-None c = not_path c.args.digits.now c.args.text.now c.requires (rw c.in-None.is at c.in_ok-path_named.ensures)

pub returns-else-eq : goal.returns-else-eq
returns-else-eq c =
    not_own_text c.args.digits.now c.args.text.now c.as_bytes.result.now c.in-Some.path c.requires (rw c.in-Some.is at c.in_ok-path_named.ensures)
    (c.as_bytes.ensures.value ∙ c.in_ok-encode-in-Some.ensures ∙ ap encode_lower c.text.ensures.value) (sym c.eq.ensures ∙ c.if-eq.false)
