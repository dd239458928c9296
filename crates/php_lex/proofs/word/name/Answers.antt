use Rattle.std.proofs.Common.{◌≡◌, ◌≤◌, ◌+◌, ◌-◌, length, drop, sym, ap, ◌∙◌, arith}
use Rattle.std.proofs.lemmas.List.{length-drop}
use Rattle.path_name.specs.Bytes.{continues_identifier}
use Rattle.php_lex.specs.Places.{after_run}
use Rattle.php_lex.specs.Lexemes.{joins, named}
use Rattle.php_lex.specs.declared.lexeme.LexKind.TheVariants as kinds
use Rattle.php_lex.proofs.Wholes.{starts_run, run_place, named_plain, named_qualified, whole_at, first_long}
use Rattle.path_name.specs.Bytes.{starts_identifier}
use Rattle.php_lex.proofs.word.name.Goals as goal

pub joins_at-requires : goal.joins_at-requires
joins_at-requires c =
    let long = first_long starts_identifier c.args.text.now c.requires in
    let size = ap length c.split_at.ensures.back ∙ length-drop 1 c.args.text.now in
    let within = c.identifier_len-len.ensures.within in
    omega arith

pub returns-then-joins_at : goal.returns-then-joins_at
returns-then-joins_at c =
    let text = c.args.text.now in
    let k = c.identifier_len-len.result in
    let place : drop (1 + k) text ≡ after_run continues_identifier text = run_place continues_identifier text c.split_at.result.1.now k (starts_run text c.requires) c.split_at.ensures.back c.identifier_len-len.ensures.rest in
    let long = first_long starts_identifier text c.requires in
    let size : length c.split_at.result.1.now ≡ length text - 1 = ap length c.split_at.ensures.back ∙ length-drop 1 text in
    let within = c.identifier_len-len.ensures.within in
    let fits : 1 + k ≤ length text = omega arith in
    whole_at text (1 + k) c.name_len.result c.split_at-then-joins_at.result.1.now _ kinds.Qualified (named (after_run continues_identifier text)) c.split_at-then-joins_at.ensures.back fits (omega arith)
    c.name_len.ensures.rest c.name_len.ensures.within
    (ap named (sym (c.split_at-then-joins_at.ensures.back ∙ place)) ∙ named_qualified c.split_at-then-joins_at.result.1.now (ap joins c.split_at-then-joins_at.ensures.back ∙ sym c.joins_at.ensures ∙ c.if-joins_at.true))

pub returns-else-joins_at : goal.returns-else-joins_at
returns-else-joins_at c =
    let text = c.args.text.now in
    let k = c.identifier_len-len.result in
    let place : drop (1 + k) text ≡ after_run continues_identifier text = run_place continues_identifier text c.split_at.result.1.now k (starts_run text c.requires) c.split_at.ensures.back c.identifier_len-len.ensures.rest in
    let long = first_long starts_identifier text c.requires in
    let size : length c.split_at.result.1.now ≡ length text - 1 = ap length c.split_at.ensures.back ∙ length-drop 1 text in
    let within = c.identifier_len-len.ensures.within in
    (omega arith, omega arith, ap named (sym place) ∙ named_plain (drop (1 + k) text) (sym c.joins_at.ensures ∙ c.if-joins_at.false))
