use Rattle.std.proofs.Common.{◌≡◌, ◌<◌, ◌+◌, length, drop, sym, subst, ◌∙◌, ℕ, List, arith}
use Rattle.std.proofs.lemmas.List.{drop_all}
use Rattle.memchr.specs.Find.{is_byte2}
use Rattle.php_lex.specs.Quotes.{Single}
use Rattle.php_lex.specs.Pieces.{SameEnd}
use Rattle.php_lex.proofs.Plains.{plain_skip, single_other, single_closed, single_escaped}
use Rattle.php_lex.proofs.piece.single_piece.Goals as goal

pub returns-then-at-text : goal.returns-then-at-text
returns-then-at-text c = record { some = omega arith; within = omega arith; same = plain_skip Single (is_byte2 39 92) single_other c.args.text.now c.find2-at.result c.find2-at.ensures }

pub returns-then-has_at : goal.returns-then-has_at
returns-then-has_at c = record {
  place = drop c.find2-at.result c.args.text.now;
  some = omega arith;
  within = let w = c.find2-at.ensures.within in omega arith;
  same = plain_skip Single (is_byte2 39 92) single_other c.args.text.now c.find2-at.result c.find2-at.ensures;
  is_piece = single_closed c.args.text.now c.find2-at.result (sym c.has_at.ensures ∙ c.if-has_at.true);
}

pub returns-then-at-text-2 : goal.returns-then-at-text-2
returns-then-at-text-2 c =
    let text = c.args.text.now in
    let at = c.find2-at.result in
    let w = c.find2-at.ensures.within in
    let lt : at < length text = omega arith in
    let same = single_escaped text at lt c.find2-at.ensures (sym c.has_at.ensures ∙ c.if-has_at.false) in
    let end : drop (at + 2) text ≡ drop (at + 1) text = drop_all {X = ℕ} (at + 2) text (omega arith) ∙ sym (drop_all {X = ℕ} (at + 1) text (omega arith)) in
    record { some = omega arith; within = omega arith; same = subst (λ (x : List ℕ). SameEnd Single text x) end same }

pub returns-else-at-text-2 : goal.returns-else-at-text-2
returns-else-at-text-2 c =
    let text = c.args.text.now in
    let at = c.find2-at.result in
    let w = c.find2-at.ensures.within in
    let lt : at < length text = omega arith in
    record { some = omega arith; within = omega arith; same = single_escaped text at lt c.find2-at.ensures (sym c.has_at.ensures ∙ c.if-has_at.false) }
