use Rattle.std.proofs.Common.{sym, ◌∙◌, arith}
use Rattle.php_lex.specs.Quotes.{Nested}
use Rattle.php_lex.proofs.Ends.{same_refl, same_plain}
use Rattle.php_lex.proofs.Plains.{nested_first_open, nested_first_close, nested_other}
use Rattle.php_lex.proofs.piece.nested_piece.Goals as goal

pub returns-then-has_at : goal.returns-then-has_at
returns-then-has_at c = record {
  place = c.args.text.now;
  some = omega arith;
  within = let some = c.requires in omega arith;
  same = same_refl Nested c.args.text.now;
  is_piece = nested_first_open c.args.text.now (sym c.has_at.ensures ∙ c.if-has_at.true);
}

pub returns-then-has_at-2 : goal.returns-then-has_at-2
returns-then-has_at-2 c = record {
  place = c.args.text.now;
  some = omega arith;
  within = let some = c.requires in omega arith;
  same = same_refl Nested c.args.text.now;
  is_piece = nested_first_close c.args.text.now (sym c.has_at-2.ensures ∙ c.if-has_at-2.true);
}

pub returns-then-not-can_open_at : goal.returns-then-not-can_open_at
returns-then-not-can_open_at c = record {
  some = omega arith;
  within = let some = c.requires in omega arith;
  same = same_plain (nested_other c.args.text.now c.requires (sym c.has_at.ensures ∙ c.if-has_at.false) (sym c.has_at-2.ensures ∙ c.if-has_at-2.false) (sym c.can_open_at.ensures ∙ c.if-not-can_open_at.true));
}
