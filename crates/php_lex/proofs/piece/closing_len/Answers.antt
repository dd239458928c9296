use Rattle.std.proofs.Common.{◌≡◌, ◌<◌, ◌≤◌, ◌+◌, ◌-◌, ◌&&◌, true, length, drop, ℕ, Bool, Some, sym, ap, ◌∙◌, arith}
use Rattle.std.specs.Prelude.{not}
use Rattle.std.proofs.lemmas.List.{drop-drop, length-drop}
use Rattle.path_name.specs.Bytes.{continues_identifier}
use Rattle.php_lex.specs.Places.{has_first, begins_with, after_run, is_space, is_line_end}
use Rattle.php_lex.specs.Quotes.{closing_line}
use Rattle.php_lex.proofs.Firsts.{first_within}
use Rattle.php_lex.proofs.Plains.{word_within, closing_is, closing_line_yes, and_first}
use Rattle.php_lex.proofs.piece.closing_len.Goals as goal

pub returns-then-begins_with-continues_identifier_at : goal.returns-then-begins_with-continues_identifier_at
returns-then-begins_with-continues_identifier_at c =
    let text = c.args.text.now in
    let label = c.args.label.now in
    let line = c.split_at.result.1.now in
    let rest = c.split_at-2.result.1.now in
    let spaces = c.spaces_len-spaces.result in
    let long : 0 < length text = first_within is_line_end 0 text c.requires in
    let size : length line ≡ length text - 1 = ap length c.split_at.ensures.back ∙ length-drop 1 text in
    let size2 : length rest ≡ length line - spaces = ap length c.split_at-2.ensures.back ∙ length-drop spaces line in
    let within = c.spaces_len-spaces.ensures.within in
    let both : begins_with label rest && not (has_first continues_identifier (drop (length label) rest)) ≡ true =
    ap (λ (x : Bool). x && not (has_first continues_identifier (drop (length label) rest))) (sym c.begins_with.ensures)
    ∙ ap (λ (x : Bool). c.begins_with.result && not x) (sym c.continues_identifier_at.ensures)
    ∙ c.if-begins_with-continues_identifier_at.true in
    let fits_all : 0 + length label ≤ length rest = word_within label 0 rest (omega arith) (and_first _ _ both) in
    let fits : length label ≤ length rest = omega arith in
    let is : rest ≡ after_run is_space (drop 1 text) = c.split_at-2.ensures.back ∙ c.spaces_len-spaces.ensures.rest ∙ ap (after_run is_space) c.split_at.ensures.back in
    let place : rest ≡ drop (1 + spaces) text = c.split_at-2.ensures.back ∙ ap (drop spaces) c.split_at.ensures.back ∙ drop-drop spaces 1 text in (
      omega arith,
      omega arith,
      closing_is label text c.requires ∙ ap (closing_line label) (sym is) ∙ closing_line_yes label rest both
          ∙ ap Some (ap (drop (length label)) place ∙ drop-drop (length label) (1 + spaces) text ∙ ap (λ (n : ℕ). drop n text) (let e : (1 + spaces) + length label ≡ 1 + (spaces + length label) = omega arith in e)),
    )
