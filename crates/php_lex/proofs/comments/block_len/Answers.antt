use Rattle.std.proofs.Common.{◌≡◌, ◌<◌, ◌≤◌, true, false, length, drop, sym, ap, ◌∙◌, arith}
use Rattle.std.proofs.lemmas.List.{drop_all, drop-drop}
use Rattle.memchr.specs.Find.{is_byte}
use Rattle.php_lex.specs.Places.{first_place, behind}
use Rattle.php_lex.specs.Comments.{closes_block}
use Rattle.php_lex.proofs.Firsts.{place_none, place_found, place_later}
use Rattle.php_lex.proofs.TagBytes.{block_byte}
use Rattle.php_lex.proofs.comments.block_len.Goals as goal

pub returns-then-at-text-clause-rest : goal.returns-then-at-text-clause-rest
returns-then-at-text-clause-rest c =
    let le : length c.args.text.now ≤ c.find-at.result = omega arith in
    drop_all c.find-at.result c.args.text.now le
    ∙ ap (behind 2) (sym (place_none closes_block (is_byte 42) block_byte (first_place closes_block (drop 2 c.args.text.now)) c.args.text.now c.loop-at.at c.find-at.result c.loop-at.invariant.rest c.find-at.ensures le))

pub returns-then-closes_block-clause-rest : goal.returns-then-closes_block-clause-rest
returns-then-closes_block-clause-rest c =
    let within = c.find-at.ensures.within in
    let lt : c.find-at.result < length c.args.text.now = omega arith in
    let h : closes_block (drop c.find-at.result c.args.text.now) ≡ true = ap closes_block (sym c.split_at.ensures.back) ∙ sym c.closes_block.ensures ∙ c.if-closes_block.true in
    sym (ap (behind 2) (place_found closes_block (is_byte 42) block_byte (first_place closes_block (drop 2 c.args.text.now)) c.args.text.now c.loop-at.at c.find-at.result c.loop-at.invariant.rest c.find-at.ensures lt h)
    ∙ drop-drop 2 c.find-at.result c.args.text.now)

pub loop-at-preserved : goal.loop-at-preserved
loop-at-preserved c =
    let within = c.find-at.ensures.within in
    let lt : c.find-at.result < length c.args.text.now = omega arith in
    let h : closes_block (drop c.find-at.result c.args.text.now) ≡ false = ap closes_block (sym c.split_at.ensures.back) ∙ sym c.closes_block.ensures ∙ c.if-closes_block.false in
    record {
      within = omega arith;
      some = omega arith;
      rest = place_later closes_block (is_byte 42) block_byte (first_place closes_block (drop 2 c.args.text.now)) c.args.text.now c.loop-at.at c.find-at.result c.loop-at.invariant.rest c.find-at.ensures lt h;
    }
