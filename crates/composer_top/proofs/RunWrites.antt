-- How many files a run writes whose work was made.
use Rattle.std.proofs.Common.{◌≡◌, ℕ, List, Result, Ok, subst}
use Rattle.std.specs.Prelude.{◌≤◌}
use Rattle.tree_dev.specs.Device.{Meaning}
use Rattle.tree_dev.specs.Trees.{FileTree}
use Rattle.stage_job.specs.Written.{after_more}
use Rattle.run_answers.specs.Steps.{TellsOne}
use Rattle.run_answers.specs.declared.refusal.Refusal.{Refusal}
use Rattle.install_commands.specs.Claiming.{claim_in, with_claim}
use Rattle.install_commands.specs.Working.{writes_of}
use Rattle.install_commands.specs.declared.work.Work.{Work}
use Rattle.composer_top.specs.Outcome.{RunChanges}

module _ (IsMade : FileTree → ℕ → Result Work Refusal → Type 0) (project : List (List ℕ)) (t : FileTree) (before now : Meaning) (status : ℕ)
    (run : RunChanges IsMade project t before now status) (work : Work) (is : run.made ≡ Ok work) where
  pub made_so : claim_in t project ≡ Ok tt → IsMade (with_claim project t) run.left (Ok work)
  made_so passes = subst (TellsOne (λ work. work) (IsMade (with_claim project t) run.left)) is (run.is_made passes)

  pub written : now.writes ≤ after_more before.writes (writes_of (with_claim project t) (Ok work))
  written = subst (λ (made : Result Work Refusal). now.writes ≤ after_more before.writes (writes_of (with_claim project t) made)) is run.writes
