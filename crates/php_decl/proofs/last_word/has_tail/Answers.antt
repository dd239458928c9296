use Rattle.std.proofs.Common.{◌≡◌, ℕ, false, subst, sym, ◌∙◌, inl, inr, arith}
use Rattle.std.proofs.lemmas.Bool.{cases_lt}
use Rattle.php_decl.specs.Quiet.{tail_at}
use Rattle.php_decl.proofs.Tails.{neither_left, neither_right}
use Rattle.php_decl.proofs.last_word.has_tail.Goals as goal

pub loop-at-init : goal.loop-at-init
loop-at-init c = λ h k low high. absurd (omega arith)

pub loop-at-preserved : goal.loop-at-preserved
loop-at-preserved c = λ h k low high.
    elim (cases_lt k c.loop-at.at) [
      | inl lt ↦ c.loop-at.invariant (neither_left c.loop-at.found c.is_tail-found.result h) k low lt
      | inr ge ↦ let same : c.loop-at.at ≡ k = omega arith in
          subst (λ (n : ℕ). tail_at n c.args.text.now ≡ false) same (sym c.is_tail-found.ensures ∙ neither_right c.loop-at.found c.is_tail-found.result h)
    ]

pub returns : goal.returns
returns c = λ h k low high. c.loop-at.invariant h k low (omega arith)
