use Rattle.std.proofs.Common.{◌≡◌, ◌<◌, ◌≤◌, true, false, length, drop, sym, ap, ◌∙◌, arith}
use Rattle.std.proofs.lemmas.List.{drop_all}
use Rattle.memchr.specs.Find.{is_byte}
use Rattle.php_lex.specs.Places.{first_place, place_or_end}
use Rattle.php_lex.specs.Tags.{is_tag}
use Rattle.php_lex.proofs.Firsts.{place_none, place_found, place_later, place_not_here}
use Rattle.php_lex.proofs.TagBytes.{tag_byte}
use Rattle.php_lex.proofs.tags.html_len.Goals as goal

pub returns-then-at-text-clause-rest : goal.returns-then-at-text-clause-rest
returns-then-at-text-clause-rest c =
    let le : length c.args.text.now ≤ c.find-at.result = omega arith in
    drop_all c.find-at.result c.args.text.now le
    ∙ ap place_or_end (sym (place_none is_tag (is_byte 60) tag_byte (first_place is_tag c.args.text.now) c.args.text.now c.loop-at.at c.find-at.result c.loop-at.invariant.rest c.find-at.ensures le))

pub returns-then-is_tag-clause-rest : goal.returns-then-is_tag-clause-rest
returns-then-is_tag-clause-rest c =
    let within = c.find-at.ensures.within in
    let lt : c.find-at.result < length c.args.text.now = omega arith in
    let h : is_tag (drop c.find-at.result c.args.text.now) ≡ true = ap is_tag (sym c.split_at.ensures.back) ∙ sym c.is_tag.ensures ∙ c.if-is_tag.true in
    ap place_or_end (sym (place_found is_tag (is_byte 60) tag_byte (first_place is_tag c.args.text.now) c.args.text.now c.loop-at.at c.find-at.result c.loop-at.invariant.rest c.find-at.ensures lt h))

pub loop-at-preserved : goal.loop-at-preserved
loop-at-preserved c =
    let within = c.find-at.ensures.within in
    let lt : c.find-at.result < length c.args.text.now = omega arith in
    let h : is_tag (drop c.find-at.result c.args.text.now) ≡ false = ap is_tag (sym c.split_at.ensures.back) ∙ sym c.is_tag.ensures ∙ c.if-is_tag.false in
    record {
      some = omega arith;
      within = omega arith;
      rest = place_later is_tag (is_byte 60) tag_byte (first_place is_tag c.args.text.now) c.args.text.now c.loop-at.at c.find-at.result c.loop-at.invariant.rest c.find-at.ensures lt h;
    }

pub loop-at-init : goal.loop-at-init
loop-at-init c = record {
  some = omega arith;
  within = c.requires.some;
  rest = place_not_here is_tag 0 c.args.text.now c.requires.some c.requires.other;
}
