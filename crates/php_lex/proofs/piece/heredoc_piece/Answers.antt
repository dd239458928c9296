use Rattle.std.proofs.Common.{inl, inr, sym, ◌∙◌, arith}
use Rattle.php_lex.specs.Quotes.{Heredoc}
use Rattle.php_lex.proofs.Ends.{same_refl, same_plain}
use Rattle.php_lex.proofs.Plains.{heredoc_closed, heredoc_line, heredoc_short, heredoc_escape, heredoc_opens, heredoc_passes, heredoc_long}
use Rattle.php_lex.proofs.piece.heredoc_piece.Goals as goal

pub returns-in-Some : goal.returns-in-Some
returns-in-Some c =
    let e = c.in-Some.ensures in
    record {
      place = c.args.text.now;
      some = e.0;
      within = e.1;
      same = same_refl (Heredoc c.args.label.now) c.args.text.now;
      is_piece = heredoc_closed c.args.label.now c.args.text.now _ e.2;
    }

pub returns-in-None : goal.returns-in-None
returns-in-None c = record {
  some = omega arith;
  within = omega arith;
  same = same_plain (heredoc_line c.args.label.now c.args.text.now c.requires (sym c.has_line_end_at.ensures ∙ c.if-has_line_end_at.true) c.in-None.ensures);
}

pub returns-then-text-eq1 : goal.returns-then-text-eq1
returns-then-text-eq1 c = record {
  some = omega arith;
  within = omega arith;
  same = same_plain (heredoc_short c.args.label.now c.args.text.now (sym c.has_line_end_at.ensures ∙ c.if-has_line_end_at.false) (sym c.has_at.ensures ∙ c.if-has_at.true) (inl c.if-text-eq1.true));
}

pub returns-then-has_line_end_at-2 : goal.returns-then-has_line_end_at-2
returns-then-has_line_end_at-2 c = record {
  some = omega arith;
  within = omega arith;
  same = same_plain (heredoc_short c.args.label.now c.args.text.now (sym c.has_line_end_at.ensures ∙ c.if-has_line_end_at.false) (sym c.has_at.ensures ∙ c.if-has_at.true)
      (inr (sym c.has_line_end_at-else-text-eq1.ensures ∙ c.if-has_line_end_at-2.true)));
}

pub returns-else-has_line_end_at-2 : goal.returns-else-has_line_end_at-2
returns-else-has_line_end_at-2 c =
    let some = c.requires in
    let more = c.if-text-eq1.false in
    record {
      some = omega arith;
      within = omega arith;
      same = same_plain (heredoc_escape c.args.label.now c.args.text.now (sym c.has_line_end_at.ensures ∙ c.if-has_line_end_at.false) (sym c.has_at.ensures ∙ c.if-has_at.true)
          (sym c.has_line_end_at-else-text-eq1.ensures ∙ c.if-has_line_end_at-2.false));
    }

pub returns-then-opens_code : goal.returns-then-opens_code
returns-then-opens_code c =
    let opens = sym c.opens_code.ensures ∙ c.if-opens_code.true in
    let long = heredoc_long c.args.text.now opens in
    record {
      place = c.args.text.now;
      some = omega arith;
      within = omega arith;
      same = same_refl (Heredoc c.args.label.now) c.args.text.now;
      is_piece = heredoc_opens c.args.label.now c.args.text.now (sym c.has_line_end_at.ensures ∙ c.if-has_line_end_at.false) (sym c.has_at.ensures ∙ c.if-has_at.false) opens;
    }

pub returns-else-opens_code : goal.returns-else-opens_code
returns-else-opens_code c = record {
  some = omega arith;
  within = omega arith;
  same = same_plain (heredoc_passes c.args.label.now c.args.text.now (sym c.has_line_end_at.ensures ∙ c.if-has_line_end_at.false) (sym c.has_at.ensures ∙ c.if-has_at.false) (sym c.opens_code.ensures ∙ c.if-opens_code.false) c.requires);
}
