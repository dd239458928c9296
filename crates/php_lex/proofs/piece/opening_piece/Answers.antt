use Rattle.std.proofs.Common.{arith}
use Rattle.php_lex.specs.Quotes.{Nested}
use Rattle.php_lex.proofs.Ends.{same_refl, same_plain}
use Rattle.php_lex.proofs.Plains.{nested_comment, nested_quoted, nested_passes}
use Rattle.php_lex.proofs.piece.opening_piece.Goals as goal

pub returns-in-Some : goal.returns-in-Some
returns-in-Some c =
    let e = c.in-Some.ensures in
    record { some = e.0; within = e.1; same = same_plain (nested_comment c.args.text.now _ c.requires.some e.2) }

pub returns-in-Some-quoted : goal.returns-in-Some-quoted
returns-in-Some-quoted c =
    let e = c.in-Some-quoted.ensures in
    record {
      place = c.args.text.now;
      some = e.0;
      within = e.1;
      same = same_refl Nested c.args.text.now;
      is_piece = nested_quoted c.args.text.now _ c.requires.some c.in_default.ensures e.2;
    }

pub returns : goal.returns
returns c = record {
  some = omega arith;
  within = let some = c.requires.some in omega arith;
  same = same_plain (nested_passes c.args.text.now c.requires.some c.in_default.ensures c.in_default-quoted.ensures c.requires.no_opening c.requires.no_closing);
}
