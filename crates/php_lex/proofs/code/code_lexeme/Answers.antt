use Rattle.std.proofs.Common.{ap, sym, ◌∙◌, arith}
use Rattle.path_name.specs.Bytes.{is_blank}
use Rattle.php_lex.specs.Places.{after_run}
use Rattle.php_lex.specs.Lexemes.{Whole, taken}
use Rattle.php_lex.specs.declared.lexeme.LexKind.TheVariants as kinds
use Rattle.php_lex.specs.Cut.{whole}
use Rattle.php_lex.proofs.Wholes.{whole_at, first_long, taken_name, taken_blank, taken_mark, taken_variable, taken_close, taken_begun, close_long}
use Rattle.php_lex.proofs.code.code_lexeme.Goals as goal

pub returns-then-starts_identifier_at : goal.returns-then-starts_identifier_at
returns-then-starts_identifier_at c =
    let e = c.name.ensures in
    (e.0, e.1, whole (taken_name c.args.text.now (sym c.starts_identifier_at.ensures ∙ c.if-starts_identifier_at.true) ∙ e.2))

pub returns-then-is_blank_at : goal.returns-then-is_blank_at
returns-then-is_blank_at c =
    let text = c.args.text.now in
    let h = sym c.is_blank_at.ensures ∙ c.if-is_blank_at.true in
    let e = whole_at text 1 c.blanks_len.result c.split_at.result.1.now _ kinds.Blank (taken text) c.split_at.ensures.back (first_long is_blank text h) (omega arith)
    c.blanks_len.ensures.rest c.blanks_len.ensures.within (taken_blank text h ∙ ap (λ r. Whole kinds.Blank (after_run is_blank r)) (sym c.split_at.ensures.back)) in
    (e.0, e.1, whole e.2)

pub returns-then-is_mark_at : goal.returns-then-is_mark_at
returns-then-is_mark_at c = (omega arith, let lt = c.requires in omega arith, whole (taken_mark c.args.text.now (sym c.is_mark_at.ensures ∙ c.if-is_mark_at.true)))

pub returns-then-is_variable : goal.returns-then-is_variable
returns-then-is_variable c =
    let e = c.variable.ensures in
    (e.0, e.1, whole (taken_variable c.args.text.now (sym c.is_variable.ensures ∙ c.if-is_variable.true) ∙ e.2))

pub returns-then-is_lone_sign : goal.returns-then-is_lone_sign
returns-then-is_lone_sign c =
    let e = c.is_lone_sign.ensures c.if-is_lone_sign.true in
    (omega arith, e.0, whole e.1)

pub returns-then-is_close_tag : goal.returns-then-is_close_tag
returns-then-is_close_tag c =
    let h = sym c.is_close_tag.ensures ∙ c.if-is_close_tag.true in
    (omega arith, close_long c.args.text.now h, whole (taken_close c.args.text.now (sym c.is_blank_at.ensures ∙ c.if-is_blank_at.false) h))

pub returns-then-begins_word_at : goal.returns-then-begins_word_at
returns-then-begins_word_at c =
    let e = c.word.ensures in
    (e.0, e.1, whole (taken_begun c.args.text.now (sym c.begins_word_at.ensures ∙ c.if-begins_word_at.true) (sym c.is_close_tag.ensures ∙ c.if-is_close_tag.false) ∙ e.2))
