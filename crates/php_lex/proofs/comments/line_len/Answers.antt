use Rattle.std.proofs.Common.{◌≡◌, ◌<◌, ◌≤◌, true, false, ◌||◌, length, drop, refl, sym, ap, ◌∙◌, arith}
use Rattle.std.proofs.lemmas.List.{drop_all, drop-drop}
use Rattle.memchr.specs.Find.{is_byte3}
use Rattle.php_lex.specs.Places.{first_place, has_first, is_line_end}
use Rattle.php_lex.specs.Comments.{ends_line, is_close_tag, after_line_end, after_line_place}
use Rattle.php_lex.proofs.Firsts.{place_none, place_found, place_later}
use Rattle.php_lex.proofs.TagBytes.{line_byte}
use Rattle.php_lex.proofs.comments.line_len.Goals as goal

pub returns-then-at-text-clause-rest : goal.returns-then-at-text-clause-rest
returns-then-at-text-clause-rest c =
    let le : length c.args.text.now ≤ c.find3-at.result = omega arith in
    drop_all c.find3-at.result c.args.text.now le
    ∙ ap after_line_place (sym (place_none ends_line (is_byte3 10 13 63) line_byte (first_place ends_line (drop 1 c.args.text.now)) c.args.text.now c.loop-at.at c.find3-at.result c.loop-at.invariant.rest c.find3-at.ensures le))

pub returns-then-has_line_end_at-clause-rest : goal.returns-then-has_line_end_at-clause-rest
returns-then-has_line_end_at-clause-rest c =
    let within = c.find3-at.ensures.within in
    let lt : c.find3-at.result < length c.args.text.now = omega arith in
    let e : has_first is_line_end (drop c.find3-at.result c.args.text.now) ≡ true = sym c.has_line_end_at.ensures ∙ c.if-has_line_end_at.true in
    let h : ends_line (drop c.find3-at.result c.args.text.now) ≡ true = rw e refl in
    let f : after_line_end (drop c.find3-at.result c.args.text.now) ≡ drop 1 (drop c.find3-at.result c.args.text.now) = rw e refl in
    sym (ap after_line_place (place_found ends_line (is_byte3 10 13 63) line_byte (first_place ends_line (drop 1 c.args.text.now)) c.args.text.now c.loop-at.at c.find3-at.result c.loop-at.invariant.rest c.find3-at.ensures lt h)
    ∙ f ∙ drop-drop 1 c.find3-at.result c.args.text.now)

pub returns-then-is_close_tag-clause-rest : goal.returns-then-is_close_tag-clause-rest
returns-then-is_close_tag-clause-rest c =
    let within = c.find3-at.ensures.within in
    let lt : c.find3-at.result < length c.args.text.now = omega arith in
    let e : has_first is_line_end (drop c.find3-at.result c.args.text.now) ≡ false = sym c.has_line_end_at.ensures ∙ c.if-has_line_end_at.false in
    let g : is_close_tag (drop c.find3-at.result c.args.text.now) ≡ true = ap is_close_tag (sym c.split_at.ensures.back) ∙ sym c.is_close_tag.ensures ∙ c.if-is_close_tag.true in
    let h : ends_line (drop c.find3-at.result c.args.text.now) ≡ true = ap (λ b. b || is_close_tag (drop c.find3-at.result c.args.text.now)) e ∙ g in
    let f : after_line_end (drop c.find3-at.result c.args.text.now) ≡ drop c.find3-at.result c.args.text.now = rw e refl in
    sym (ap after_line_place (place_found ends_line (is_byte3 10 13 63) line_byte (first_place ends_line (drop 1 c.args.text.now)) c.args.text.now c.loop-at.at c.find3-at.result c.loop-at.invariant.rest c.find3-at.ensures lt h) ∙ f)

pub loop-at-preserved : goal.loop-at-preserved
loop-at-preserved c =
    let within = c.find3-at.ensures.within in
    let lt : c.find3-at.result < length c.args.text.now = omega arith in
    let e : has_first is_line_end (drop c.find3-at.result c.args.text.now) ≡ false = sym c.has_line_end_at.ensures ∙ c.if-has_line_end_at.false in
    let g : is_close_tag (drop c.find3-at.result c.args.text.now) ≡ false = ap is_close_tag (sym c.split_at.ensures.back) ∙ sym c.is_close_tag.ensures ∙ c.if-is_close_tag.false in
    let h : ends_line (drop c.find3-at.result c.args.text.now) ≡ false = ap (λ b. b || is_close_tag (drop c.find3-at.result c.args.text.now)) e ∙ g in
    record {
      within = omega arith;
      some = omega arith;
      rest = place_later ends_line (is_byte3 10 13 63) line_byte (first_place ends_line (drop 1 c.args.text.now)) c.args.text.now c.loop-at.at c.find3-at.result c.loop-at.invariant.rest c.find3-at.ensures lt h;
    }
