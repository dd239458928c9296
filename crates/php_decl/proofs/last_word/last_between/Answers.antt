use Rattle.std.proofs.Common.{◌-◌, ℕ, subst, sym, inl, inr, arith}
use Rattle.std.proofs.lemmas.Bool.{cases_eq}
use Rattle.php_decl.specs.Quiet.{NoneEnds}
use Rattle.php_decl.proofs.last_word.last_between.Goals as goal

pub loop-at-init : goal.loop-at-init
loop-at-init c = record { within = omega arith; none = λ k low high. absurd (omega arith) }

pub loop-at-preserved : goal.loop-at-preserved
loop-at-preserved c = record {
  within = let w = c.loop-at.invariant.within in omega arith;
  none = λ k low high.
      elim (cases_eq k (c.loop-at.at - 1)) [
        | inl same ↦ subst (λ (n : ℕ). NoneEnds n c.args.text.now) (sym same) (c.word_ends_at.ensures c.if-word_ends_at.false)
        | inr other ↦ c.loop-at.invariant.none k (omega arith) high
      ];
}

pub returns-then-word_ends_at : goal.returns-then-word_ends_at
returns-then-word_ends_at c = λ k low high. c.loop-at.invariant.none k (omega arith) high

pub returns : goal.returns
returns c = λ k low high. c.loop-at.invariant.none k (omega arith) high
