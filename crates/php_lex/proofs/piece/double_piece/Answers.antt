use Rattle.std.proofs.Common.{◌≡◌, ◌<◌, ◌+◌, ◌-◌, ◌==◌, length, get_or, drop, sym, ap, subst, ◌∙◌, ℕ, List, arith}
use Rattle.std.proofs.lemmas.List.{drop_all}
use Rattle.php_lex.specs.Places.{has_first}
use Rattle.php_lex.specs.Quotes.{Double, Nested}
use Rattle.php_lex.specs.Elements.{Child}
use Rattle.php_lex.specs.Pieces.{SameEnd}
use Rattle.php_lex.proofs.Ends.{same_trans, same_plain}
use Rattle.php_lex.proofs.Firsts.{first_at, first_within}
use Rattle.php_lex.proofs.Plains.{double_skip, double_closed, double_escaped, double_opens, double_passes, is_dollar, no_byte_before, brace_dollar, dollar_opens, dollar_passes, other_byte, no_pair, no_pair_left, nothing_at_end}
use Rattle.php_lex.proofs.piece.double_piece.Goals as goal

pub returns-then-at-text : goal.returns-then-at-text
returns-then-at-text c =
    let text = c.args.text.now in
    let at = c.find3-at.result in
    let none = nothing_at_end (λ b. b == 36) text at (omega arith) in
    record { some = omega arith; within = omega arith; same = double_skip c.args.quote text at at c.find3-at.ensures (omega arith) (λ j lt e. no_pair (has_first (λ b. b == 123) (drop j text)) (has_first (λ b. b == 36) (drop at text)) none) }

pub returns-then-has_at : goal.returns-then-has_at
returns-then-has_at c =
    let text = c.args.text.now in
    let at = c.find3-at.result in
    let is = sym c.has_at.ensures ∙ c.if-has_at.true in
    let none = other_byte c.args.quote 36 (drop at text) c.requires.other is in
    let w = c.find3-at.ensures.within in
    record {
      place = drop at text;
      some = omega arith;
      within = omega arith;
      same = double_skip c.args.quote text at at c.find3-at.ensures (omega arith) (λ j lt e. no_pair (has_first (λ b. b == 123) (drop j text)) (has_first (λ b. b == 36) (drop at text)) none);
      is_piece = double_closed c.args.quote text at is;
    }

pub returns-then-at-text-2 : goal.returns-then-at-text-2
returns-then-at-text-2 c =
    let text = c.args.text.now in
    let at = c.find3-at.result in
    let w = c.find3-at.ensures.within in
    let lt : at < length text = omega arith in
    let slash = sym c.has_at-else-has_at.ensures ∙ c.if-has_at-2.true in
    let none = other_byte 92 36 (drop at text) (omega arith) slash in
    let skip = double_skip c.args.quote text at at c.find3-at.ensures (omega arith) (λ j lt e. no_pair (has_first (λ b. b == 123) (drop j text)) (has_first (λ b. b == 36) (drop at text)) none) in
    let same = same_trans skip (same_plain (double_escaped c.args.quote text at lt (sym c.has_at.ensures ∙ c.if-has_at.false) slash)) in
    let end : drop (at + 2) text ≡ drop (at + 1) text = drop_all {X = ℕ} (at + 2) text (omega arith) ∙ sym (drop_all {X = ℕ} (at + 1) text (omega arith)) in
    record { some = omega arith; within = omega arith; same = subst (λ (x : List ℕ). SameEnd (Double c.args.quote) text x) end same }

pub returns-else-at-text-2 : goal.returns-else-at-text-2
returns-else-at-text-2 c =
    let text = c.args.text.now in
    let at = c.find3-at.result in
    let w = c.find3-at.ensures.within in
    let lt : at < length text = omega arith in
    let slash = sym c.has_at-else-has_at.ensures ∙ c.if-has_at-2.true in
    let none = other_byte 92 36 (drop at text) (omega arith) slash in
    let skip = double_skip c.args.quote text at at c.find3-at.ensures (omega arith) (λ j lt e. no_pair (has_first (λ b. b == 123) (drop j text)) (has_first (λ b. b == 36) (drop at text)) none) in
    record { some = omega arith; within = omega arith; same = same_trans skip (same_plain (double_escaped c.args.quote text at lt (sym c.has_at.ensures ∙ c.if-has_at.false) slash)) }

pub returns-then-stands_before : goal.returns-then-stands_before
returns-then-stands_before c =
    let text = c.args.text.now in
    let at = c.find3-at.result in
    let q = c.args.quote in
    let w = c.find3-at.ensures.within in
    let lt : at < length text = omega arith in
    let yes = c.stands_before.ensures.yes c.if-stands_before.true in
    let some = yes.0 in
    let before : at - 1 < length text = omega arith in
    let dollar = first_at (λ b. b == 36) text at lt ∙ is_dollar q text at lt c.find3-at.ensures (sym c.has_at.ensures ∙ c.if-has_at.false) (sym c.has_at-else-has_at.ensures ∙ c.if-has_at-2.false) in
    let next : (at - 1) + 1 ≡ at = omega arith in
    let next2 : (at - 1) + 2 ≡ at + 1 = omega arith in
    let others = no_byte_before q text at (at - 1) c.find3-at.ensures (omega arith) in
    let opens = brace_dollar (get_or text (at - 1) 0) (drop ((at - 1) + 1) text) (sym (first_at (λ b. b == 123) text (at - 1) before) ∙ yes.1) (ap (λ (n : ℕ). has_first (λ b. b == 36) (drop n text)) next ∙ dollar) in
    record {
      place = drop (at - 1) text;
      some = omega arith;
      within = omega arith;
      same = double_skip q text at (at - 1) c.find3-at.ensures (omega arith) (λ j lt e. absurd (omega arith));
      is_piece = double_opens q text (at - 1) before others.0 others.1 opens ∙ ap (λ (n : ℕ). Child Nested (drop n text)) next2;
    }

pub returns-then-has_at-3 : goal.returns-then-has_at-3
returns-then-has_at-3 c =
    let text = c.args.text.now in
    let at = c.find3-at.result in
    let q = c.args.quote in
    let w = c.find3-at.ensures.within in
    let lt : at < length text = omega arith in
    let no_quote = sym c.has_at.ensures ∙ c.if-has_at.false in
    let no_slash = sym c.has_at-else-has_at.ensures ∙ c.if-has_at-2.false in
    let brace = sym c.has_at-else-stands_before.ensures ∙ c.if-has_at-3.true in
    let long : at + 1 < length text = first_within (λ b. b == 123) (at + 1) text brace in
    let other = c.stands_before.ensures.other c.if-stands_before.false in
    record {
      place = drop at text;
      some = omega arith;
      within = omega arith;
      same = double_skip q text at at c.find3-at.ensures (omega arith) (λ j lt e. no_pair_left (has_first (λ b. b == 123) (drop j text)) (has_first (λ b. b == 36) (drop at text)) (other j e));
      is_piece = double_opens q text at lt no_quote no_slash (dollar_opens (get_or text at 0) (drop (at + 1) text) (is_dollar q text at lt c.find3-at.ensures no_quote no_slash) brace);
    }

pub returns-else-has_at-3 : goal.returns-else-has_at-3
returns-else-has_at-3 c =
    let text = c.args.text.now in
    let at = c.find3-at.result in
    let q = c.args.quote in
    let w = c.find3-at.ensures.within in
    let lt : at < length text = omega arith in
    let no_quote = sym c.has_at.ensures ∙ c.if-has_at.false in
    let no_slash = sym c.has_at-else-has_at.ensures ∙ c.if-has_at-2.false in
    let brace = sym c.has_at-else-stands_before.ensures ∙ c.if-has_at-3.false in
    let other = c.stands_before.ensures.other c.if-stands_before.false in
    let skip = double_skip q text at at c.find3-at.ensures (omega arith) (λ j lt e. no_pair_left (has_first (λ b. b == 123) (drop j text)) (has_first (λ b. b == 36) (drop at text)) (other j e)) in
    let is = double_passes q text at lt no_quote no_slash (dollar_passes (get_or text at 0) (drop (at + 1) text) (is_dollar q text at lt c.find3-at.ensures no_quote no_slash) brace) in
    record { some = omega arith; within = omega arith; same = same_trans skip (same_plain is) }
