use Rattle.std.proofs.Common.{sym, ◌∙◌}
use Rattle.php_lex.specs.Quotes.{Nowdoc, Heredoc}
use Rattle.php_lex.proofs.Openings.{label_single, label_double, label_bare}
use Rattle.php_lex.proofs.opening.label.Goals as goal

pub returns-in-Some : goal.returns-in-Some
returns-in-Some c = let e = c.in-Some.ensures in (e.0, e.1, label_single c.args.text.now (sym c.has_at.ensures ∙ c.if-has_at.true) ∙ e.2 Nowdoc)

pub returns-in-None : goal.returns-in-None
returns-in-None c = label_single c.args.text.now (sym c.has_at.ensures ∙ c.if-has_at.true) ∙ c.in-None.ensures Nowdoc

pub returns-in-Some-quoted_label : goal.returns-in-Some-quoted_label
returns-in-Some-quoted_label c =
    let e = c.in-Some-quoted_label.ensures in
    (e.0, e.1, label_double c.args.text.now (sym c.has_at.ensures ∙ c.if-has_at.false) (sym c.has_at-else-has_at.ensures ∙ c.if-has_at-2.true) ∙ e.2 Heredoc)

pub returns-in-None-quoted_label : goal.returns-in-None-quoted_label
returns-in-None-quoted_label c =
    label_double c.args.text.now (sym c.has_at.ensures ∙ c.if-has_at.false) (sym c.has_at-else-has_at.ensures ∙ c.if-has_at-2.true) ∙ c.in-None-quoted_label.ensures Heredoc

pub returns-in-Some-bare_label : goal.returns-in-Some-bare_label
returns-in-Some-bare_label c =
    let e = c.in-Some-bare_label.ensures in
    (e.0, e.1, label_bare c.args.text.now (sym c.has_at.ensures ∙ c.if-has_at.false) (sym c.has_at-else-has_at.ensures ∙ c.if-has_at-2.false) ∙ e.2 Heredoc)

pub returns-in-None-bare_label : goal.returns-in-None-bare_label
returns-in-None-bare_label c =
    label_bare c.args.text.now (sym c.has_at.ensures ∙ c.if-has_at.false) (sym c.has_at-else-has_at.ensures ∙ c.if-has_at-2.false) ∙ c.in-None-bare_label.ensures Heredoc
