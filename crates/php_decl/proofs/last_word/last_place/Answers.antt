use Rattle.std.proofs.Common.{inl, inr, arith}
use Rattle.std.proofs.lemmas.Bool.{cases_lt}
use Rattle.php_decl.proofs.Tails.{none_past_end, quiet_behind}
use Rattle.php_decl.proofs.last_word.last_place.Goals as goal

pub loop-to-init : goal.loop-to-init
loop-to-init c = record { within = omega arith; none = λ k low. none_past_end k c.args.text.now (omega arith) }

pub loop-to-preserved : goal.loop-to-preserved
loop-to-preserved c = record {
  within = let w = c.loop-to.invariant.within in omega arith;
  none = λ k low. elim (cases_lt k c.loop-to.to) [ inl lt ↦ c.in-None.ensures k low lt | inr ge ↦ c.loop-to.invariant.none k ge ];
}

pub returns-in-Some : goal.returns-in-Some
returns-in-Some c =
    quiet_behind c.in-Some.at c.args.text.now (λ k low. elim (cases_lt k c.loop-to.to) [ inl lt ↦ c.in-Some.ensures k low lt | inr ge ↦ c.loop-to.invariant.none k ge ])

pub returns : goal.returns
returns c = quiet_behind 0 c.args.text.now (λ k low. c.loop-to.invariant.none k (omega arith))
