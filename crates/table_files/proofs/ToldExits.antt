-- What is told where a `?` passes a refusal on.
use Rattle.std.proofs.Common.{◌≡◌, Result, Ok, Err, IsTrue, sym, subst}
use Rattle.std.specs.Prelude.{◌⊎◌, IsErrAnd}
use Rattle.run_answers.specs.Faults.{is_free}
use Rattle.run_answers.specs.Steps.{Tells, TellsOne}
use Rattle.run_answers.specs.declared.refusal.Refusal.{Refusal}

pub told_exit : {X Y : Type 0} (view : X → Y) (wanted : Result Y Refusal) (r : Result X Refusal) (refusal : Refusal) → IsErrAnd r (λ y. y ≡ refusal)
    → IsTrue (is_free refusal) ⊎ (wanted ≡ Err refusal) → Tells view wanted r
told_exit view wanted (Ok x) refusal is told = absurd is
told_exit view wanted (Err other) refusal is told = subst (λ (f : Refusal). IsTrue (is_free f) ⊎ (wanted ≡ Err f)) (sym is) told

pub one_exit : {X Y : Type 0} (view : X → Y) (IsWanted : Result Y Refusal → Type 0) (r : Result X Refusal) (refusal : Refusal) → IsErrAnd r (λ y. y ≡ refusal)
    → IsTrue (is_free refusal) ⊎ IsWanted (Err refusal) → TellsOne view IsWanted r
one_exit view IsWanted (Ok x) refusal is told = absurd is
one_exit view IsWanted (Err other) refusal is told = subst (λ (f : Refusal). IsTrue (is_free f) ⊎ IsWanted (Err f)) (sym is) told
