-- What the words alone refuse comes before all else.
use Rattle.std.proofs.Common.{◌≡◌, ℕ, List, Option, Some, None, Result, Ok, Err, ap, sym, ◌∙◌}
use Rattle.std.specs.Prelude.{is_some, unwrap_or}
use Rattle.std.proofs.lemmas.Bool.{false≢true}
use Rattle.path_name.specs.Given.{◌>>=◌}
use Rattle.tree_dev.specs.Trees.{FileTree}
use Rattle.tree_dev.specs.Device.{Meaning}
use Rattle.run_answers.specs.declared.refusal.Refusal.{Refusal}
use Rattle.run_answers.specs.declared.refusal.Refusal.TheVariants as refusals
use Rattle.composer_words.specs.declared.chosen.Chosen.{Chosen}
use Rattle.composer_words.specs.declared.chosen.Task.{Task}
use Rattle.composer_words.specs.declared.chosen.Task.TheVariants as tasks
use Rattle.composer_top.specs.Chosen.{chosen_in}
use Rattle.composer_top.specs.declared.report.Report.{Report}
use Rattle.composer_top.specs.Outcome.Lookup.{named, looked_up, lookup_outcome}
use Rattle.composer_top.specs.Outcome.{IsChosenOutcome, IsOutcome, IsTaskOutcome, refusal_in, task_refusal, refusal_of_choice, words_refusal}

module _ (refusal : Refusal) where
  same : {X : Type 0} (first : Refusal) → Some first ≡ Some refusal → ◌≡◌ {A = Result X Refusal} (Err first) (Err refusal)
  same first e = ap (λ (o : Option Refusal). Err (unwrap_or o refusal)) e

  none : {A : Type 0} → ◌≡◌ {A = Option Refusal} None (Some refusal) → A
  none e = absurd (false≢true (ap is_some e))

  refused_first : {X Y Z : Type 0} (x : Result X Refusal) (f : X → Result Y Refusal) (g : Y → Result Z Refusal) → refusal_in x ≡ Some refusal → ((x >>= f) >>= g) ≡ Err refusal
  refused_first (Ok x) f g e = none e
  refused_first (Err first) f g e = same first e

  -- the one answer is this refusal
  abbrev pub IsOne : (Result Report Refusal → Type 0) → Type 0
  IsOne IsWanted = IsWanted (Err refusal) × ((answer : Result Report Refusal) → IsWanted answer → answer ≡ Err refusal)

  one_of : (wanted : Result Report Refusal) → wanted ≡ Err refusal → IsOne (λ answer. wanted ≡ answer)
  one_of wanted e = (e, λ answer is. sym is ∙ e)

  task_first : (t : FileTree) (now : Meaning) (project : List (List ℕ)) (task : Task) → task_refusal task ≡ Some refusal → IsOne (IsTaskOutcome t now project task)
  unfolding lookup_outcome
  task_first t now project (tasks.Lookup word) e = one_of _ (refused_first (named word) (λ name. looked_up t project name) _ e)
  task_first t now project tasks.Files e = none e
  task_first t now project (tasks.Install ways) e = none e
  task_first t now project (tasks.Update ways) e = none e
  task_first t now project (tasks.DumpAutoload ways) e = none e
  task_first t now project tasks.Check e = none e
  task_first t now project tasks.Recover e = none e
  task_first t now project (tasks.Demo number) e = one_of _ (same refusals.Usage e)

  choice_first : (t : FileTree) (now : Meaning) (x : Result Chosen Refusal) → refusal_of_choice x ≡ Some refusal → IsOne (IsChosenOutcome t now x)
  choice_first t now (Ok chosen) e = task_first t now chosen.project chosen.task e
  choice_first t now (Err first) e = one_of _ (same first e)

  pub words_first : (t : FileTree) (now : Meaning) (words : List (List ℕ)) → words_refusal words ≡ Some refusal → IsOne (IsOutcome t now words)
  unfolding words_refusal
  words_first t now words e = choice_first t now (chosen_in words) e
