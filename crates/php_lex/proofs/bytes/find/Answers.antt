use Rattle.std.proofs.Common.{sym, ◌∙◌}
use Rattle.memchr.specs.Find.{is_byte}
use Rattle.php_lex.proofs.Firsts.{found, none_found, at_once}
use Rattle.php_lex.proofs.bytes.find.Goals as goal

pub returns-in-Some : goal.returns-in-Some
returns-in-Some c = found (is_byte c.args.byte) c.args.text.now c.args.at c.in-Some.ahead c.split_at.result.1.now c.split_at.ensures.back c.requires c.in-Some.ensures.0 c.in-Some.ensures.1

pub returns-in-None : goal.returns-in-None
returns-in-None c = none_found (is_byte c.args.byte) c.args.text.now c.args.at c.split_at.result.1.now c.split_at.ensures.back c.requires c.in-None.ensures

pub returns-then-has_at : goal.returns-then-has_at
returns-then-has_at c = at_once (is_byte c.args.byte) c.args.text.now c.args.at c.requires (sym c.has_at.ensures ∙ c.if-has_at.true)
