use Rattle.std.proofs.Common.{◌≡◌, ◌<◌, ◌+◌, ◌-◌, length, drop, Some, sym, ap, ◌∙◌, arith}
use Rattle.std.proofs.lemmas.List.{drop-drop, length-drop}
use Rattle.memchr.specs.Find.{is_byte2}
use Rattle.php_lex.specs.Places.{has_first, is_line_end}
use Rattle.php_lex.specs.Quotes.{Nowdoc, closing}
use Rattle.php_lex.proofs.Ends.{same_trans, same_plain}
use Rattle.php_lex.proofs.Plains.{plain_skip, nowdoc_other, nowdoc_closed, nowdoc_passes}
use Rattle.php_lex.proofs.piece.nowdoc_piece.Goals as goal

pub closing_len-requires : goal.closing_len-requires
closing_len-requires c =
    let w = c.find2-at.ensures.within in
    ap (has_first is_line_end) c.split_at.ensures.back ∙ c.find2-at.ensures.found (omega arith)

pub returns-then-at-text : goal.returns-then-at-text
returns-then-at-text c = record {
  some = omega arith;
  within = omega arith;
  same = plain_skip (Nowdoc c.args.label.now) (is_byte2 10 13) (nowdoc_other c.args.label.now) c.args.text.now c.find2-at.result c.find2-at.ensures;
}

pub returns-in-Some : goal.returns-in-Some
returns-in-Some c =
    let text = c.args.text.now in
    let at = c.find2-at.result in
    let e = c.in-Some.ensures in
    let back = c.split_at.ensures.back in
    let size : length c.split_at.result.1.now ≡ length text - at = ap length back ∙ length-drop at text in
    let some = e.0 in
    let within = e.1 in
    let w = c.find2-at.ensures.within in
    record {
      place = drop at text;
      some = omega arith;
      within = omega arith;
      same = plain_skip (Nowdoc c.args.label.now) (is_byte2 10 13) (nowdoc_other c.args.label.now) text at c.find2-at.ensures;
      is_piece = nowdoc_closed c.args.label.now (drop at text) (drop (at + c.in-Some.len) text)
          (ap (closing c.args.label.now) (sym back) ∙ e.2 ∙ ap Some (ap (drop c.in-Some.len) back ∙ drop-drop c.in-Some.len at text));
    }

pub returns-in-None : goal.returns-in-None
returns-in-None c =
    let text = c.args.text.now in
    let at = c.find2-at.result in
    let w = c.find2-at.ensures.within in
    let lt : at < length text = omega arith in
    record {
      some = omega arith;
      within = omega arith;
      same = same_trans (plain_skip (Nowdoc c.args.label.now) (is_byte2 10 13) (nowdoc_other c.args.label.now) text at c.find2-at.ensures)
          (same_plain (nowdoc_passes c.args.label.now text at lt (ap (closing c.args.label.now) (sym c.split_at.ensures.back) ∙ c.in-None.ensures)));
    }
