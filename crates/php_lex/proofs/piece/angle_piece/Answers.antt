use Rattle.std.proofs.Common.{arith}
use Rattle.php_lex.specs.Quotes.{Nested}
use Rattle.php_lex.proofs.Ends.{same_refl, same_plain}
use Rattle.php_lex.proofs.Wholes.{first_long}
use Rattle.php_lex.proofs.Plains.{nested_less, nested_heredoc}
use Rattle.php_lex.proofs.piece.angle_piece.Goals as goal

pub returns-then-not-can_open_heredoc : goal.returns-then-not-can_open_heredoc
returns-then-not-can_open_heredoc c = record {
  some = omega arith;
  within = first_long _ c.args.text.now c.requires;
  same = same_plain (nested_less c.args.text.now c.requires (c.can_open_heredoc.ensures c.if-not-can_open_heredoc.true));
}

pub returns-in-Some : goal.returns-in-Some
returns-in-Some c =
    let e = c.in-Some.ensures in
    record {
      place = c.args.text.now;
      some = e.0;
      within = e.1;
      same = same_refl Nested c.args.text.now;
      is_piece = nested_heredoc c.args.text.now _ c.requires e.2;
    }

pub returns-in-None : goal.returns-in-None
returns-in-None c = record {
  some = omega arith;
  within = first_long _ c.args.text.now c.requires;
  same = same_plain (nested_less c.args.text.now c.requires c.in-None.ensures);
}
