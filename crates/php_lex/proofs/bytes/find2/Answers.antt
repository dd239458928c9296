use Rattle.std.proofs.Common.{drop}
use Rattle.memchr.specs.Find.{is_byte2}
use Rattle.php_lex.proofs.Firsts.{found, none_found, at_once, first_of2, or_of2}
use Rattle.php_lex.proofs.bytes.find2.Goals as goal

pub returns-in-Some : goal.returns-in-Some
returns-in-Some c = found (is_byte2 c.args.a c.args.b) c.args.text.now c.args.at c.in-Some.ahead c.split_at.result.1.now c.split_at.ensures.back c.requires c.in-Some.ensures.0 c.in-Some.ensures.1

pub returns-in-None : goal.returns-in-None
returns-in-None c = none_found (is_byte2 c.args.a c.args.b) c.args.text.now c.args.at c.split_at.result.1.now c.split_at.ensures.back c.requires c.in-None.ensures

pub returns-then-has_at : goal.returns-then-has_at
returns-then-has_at c = at_once (is_byte2 c.args.a c.args.b) c.args.text.now c.args.at c.requires (first_of2 c.args.a c.args.b (drop c.args.at c.args.text.now) (or_of2 c.has_at.ensures c.has_at-2.ensures c.if-has_at.true))
