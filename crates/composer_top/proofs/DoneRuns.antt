-- What a run has committed that is done.
use Rattle.std.proofs.Common.{◌≡◌, ℕ, Bool, true, false, List, Result, Ok, IsTrue, refl, sym, ap, subst, ◌∙◌}
use Rattle.std.specs.Prelude.{◌||◌, nat_eq, IfOk}
use Rattle.std.proofs.lemmas.Bool.{eqb-true}
use Rattle.tree_dev.specs.Device.{Meaning}
use Rattle.tree_dev.specs.Trees.{FileTree, IsTree}
use Rattle.run_answers.specs.declared.refusal.Refusal.{Refusal}
use Rattle.install_choice.proofs.Steps.{both_ok}
use Rattle.install_commands.specs.Claiming.{claim_in, with_claim}
use Rattle.install_commands.specs.Commanded.{Commanded, outcome_of_work}
use Rattle.install_commands.specs.Working.{committed_in, worked_in}
use Rattle.install_commands.specs.declared.work.Work.{Work}
use Rattle.composer_top.specs.Outcome.{RunChanges, is_done, is_free_status}

-- a run that is done has not ended by a fault of the tree, or for want of memory
not_free : (status : ℕ) → IsTrue (is_done status) → is_free_status status ≡ false
not_free status done = by (nat_eq status 0) refl
  where
    at : (n : ℕ) → is_free_status n ≡ false → status ≡ n → is_free_status status ≡ false
    at n other same = ap is_free_status same ∙ other

    by : (zero : Bool) → nat_eq status 0 ≡ zero → is_free_status status ≡ false
    by true e = at 0 refl (eqb-true status 0 e)
    by false e = at 9 refl (eqb-true status 9 (sym (ap (λ (b : Bool). b || nat_eq status 9) e) ∙ done))

module _ (IsMade : FileTree → ℕ → Result Work Refusal → Type 0) (project : List (List ℕ)) (t : FileTree) (before now : Meaning) (status : ℕ)
    (run : RunChanges IsMade project t before now status) (ended : IsTrue (is_done status)) where
  -- its command answered lines
  pub commanded : (lines : List ℕ) × Commanded IsMade project t before now (Ok lines)
  commanded = (
    (run.done ended).0,
    record {
      made = run.made;
      left = run.left;
      is_made = run.is_made;
      held = run.held;
      tree = run.tree;
      told = (run.done ended).1;
      through = run.through;
      settled = run.settled ended;
      refused = tt;
      new_stands = run.new_stands ended;
      old_stands = λ passes. tt;
      released = λ passes other. run.released passes (not_free status ended);
      unclaimed = λ refusal refuses other. run.unclaimed refusal refuses (not_free status ended);
      writes = run.writes;
    },
  )

passes : (t : FileTree) (project : List (List ℕ)) (passed : Unit {0}) → claim_in t project ≡ Ok passed → claim_in t project ≡ Ok tt
passes t project tt e = e

-- the claim was held
pub claim_passes : (project : List (List ℕ)) (t : FileTree) (left : ℕ) (made : Result Work Refusal) (lines : List ℕ) → outcome_of_work project t left made ≡ Ok lines → claim_in t project ≡ Ok tt
claim_passes project t left made lines told =
    let claim = both_ok (claim_in t project) (λ passed. worked_in project (with_claim project t) left made) lines told in
    passes t project claim.0 claim.1

-- the tree with the claim is one
pub claimed_tree : (IsMade : FileTree → ℕ → Result Work Refusal → Type 0) (project : List (List ℕ)) (t : FileTree) (before now : Meaning) (status : ℕ) (run : RunChanges IsMade project t before now status)
    → IsTrue (is_done status) → IsTree (with_claim project t)
unfolding worked_in
claimed_tree IsMade project t before now status run ended =
    let lines = run.done ended in
    let claim = both_ok (claim_in t project) (λ passed. worked_in project (with_claim project t) run.left run.made) lines.0 lines.1 in
    let work = both_ok run.made (committed_in project (with_claim project t) run.left) lines.0 claim.2 in
    subst (λ (made : Result Work Refusal). IfOk made (λ work. IsTree (with_claim project t))) work.1 run.tree
