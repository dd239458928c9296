-- What a command that changes a project answers, and what its run does.
use Rattle.std.proofs.Common.{◌≡◌, ℕ, true, false, List, None, Result, Ok, Err, IsTrue, refl, sym, ap, subst, ◌∙◌, inl, inr}
use Rattle.std.specs.Prelude.{IfErr, IfOk, OnOk, is_ok}
use Rattle.std.proofs.lemmas.Bool.{false≢true}
use Rattle.path_name.specs.Given.{◌>>=◌}
use Rattle.tree_dev.specs.Trees.{FileTree}
use Rattle.tree_dev.specs.Device.{Meaning, OfTold}
use Rattle.tree_dev.specs.Projects.{file_at}
use Rattle.tree_dev.specs.Steady.{EachImage, IsSteadily}
use Rattle.tree_dev.proofs.SteadyRules.{steady_start}
use Rattle.run_answers.specs.Faults.{is_device_fault, is_free}
use Rattle.run_answers.specs.Steps.{Tells, TellsOne, is_free_result}
use Rattle.run_answers.specs.declared.refusal.Refusal.{Refusal}
use Rattle.install_commands.specs.Claiming.{claim_in, with_claim}
use Rattle.install_commands.specs.Commanded.{Commanded, files_made, outcome_of_work}
use Rattle.install_commands.specs.Working.{IsInstalled, worked_in}
use Rattle.install_commands.specs.declared.work.Work.{Work}
use Rattle.install_commands.proofs.Commanding.{not_claimed}
use Rattle.composer_top.specs.Outcome.{RunChanges, is_done, is_free_status, is_unrefused}
use Rattle.composer_top.specs.Outcome.Change.{Changes, IsChange, lines_of}
use Rattle.composer_top.specs.declared.report.Report.{Report}

-- ---- answers that are done, or refused

-- a refusal that is not free
abbrev pub IsRefusedBy : Result Report Refusal → Type 0
IsRefusedBy (Ok report) = ⊥
IsRefusedBy (Err refusal) = is_free refusal ≡ false

when_ok : (P : Type 0) (answer : Result Report Refusal) → is_ok answer ≡ true → OnOk (lines_of answer) P → P
when_ok P (Ok report) ok holds = holds
when_ok P (Err refusal) ok holds = absurd (false≢true ok)

lines_when_ok : (wanted : Result (List ℕ) Refusal) (answer : Result Report Refusal) → is_ok answer ≡ true → Tells (λ lines. lines) wanted (lines_of answer) → (lines : List ℕ) × (wanted ≡ Ok lines)
lines_when_ok wanted (Ok report) ok tells = (report.lines, tells)
lines_when_ok wanted (Err refusal) ok tells = absurd (false≢true ok)

when_refused : (P : Type 0) (answer : Result Report Refusal) → IsRefusedBy answer → IfErr (lines_of answer) (λ refusal. is_free refusal ≡ false → P) → P
when_refused P (Ok report) is holds = absurd is
when_refused P (Err refusal) is holds = holds is

free_lines : (answer : Result Report Refusal) → is_free_result answer ≡ false → is_free_result (lines_of answer) ≡ false
free_lines (Ok report) other = other
free_lines (Err refusal) other = other

module _ (IsMade : FileTree → ℕ → Result Work Refusal → Type 0) (project : List (List ℕ)) where
  -- ---- what is answered

  module _ (t : FileTree) (before now : Meaning) where
    abbrev Told : Result Report Refusal → Type 0
    Told answer = TellsOne {X = Report} {Y = Report} (λ report. report) (IsChange IsMade t project) answer

    module _ (made : Result Work Refusal) (left : ℕ) (is_made : claim_in t project ≡ Ok tt → IsMade (with_claim project t) left made) where
      one : (answer : Result Report Refusal) → IfOk answer (λ report. report.end ≡ None) → outcome_of_work project t left made ≡ lines_of answer → IsChange IsMade t project answer
      one answer well is = record { made = made; left = left; is_made = is_made; lines = is; ends_well = well }

      told_of : (answer : Result Report Refusal) → IfOk answer (λ report. report.end ≡ None) → Tells (λ lines. lines) (outcome_of_work project t left made) (lines_of answer) → Told answer
      told_of (Ok report) well is = one (Ok report) well is
      told_of (Err refusal) well (inl free) = inl free
      told_of (Err refusal) well (inr is) = inr (one (Err refusal) tt is)

    -- work that was not made for want of memory, or by a fault of the device
    module _ (left : ℕ) (refusal : Refusal) (free : IsTrue (is_free refusal)) (passes : claim_in t project ≡ Ok tt) where
      outcome : outcome_of_work project t left (Err refusal) ≡ Err refusal
      unfolding worked_in
      outcome = ap (λ (c : Result (Unit {0}) Refusal). c >>= λ passed. worked_in project (with_claim project t) left (Err refusal)) passes

      told_free : (answer : Result Report Refusal) → Tells (λ lines. lines) (outcome_of_work project t left (Err refusal)) (lines_of answer) → Told answer
      told_free (Ok report) is = absurd (let both : ◌≡◌ {A = Result (List ℕ) Refusal} (Err refusal) (Ok report.lines) = sym outcome ∙ is in cc)
      told_free (Err other) (inl also) = inl also
      told_free (Err other) (inr is) = inl (same (let both : ◌≡◌ {A = Result (List ℕ) Refusal} (Err refusal) (Err other) = sym outcome ∙ is in cc))
        where
          same : refusal ≡ other → IsTrue (is_free other)
          same e = subst (λ (r : Refusal). IsTrue (is_free r)) e free

    told_made : (left : ℕ) (made : Result Work Refusal) → claim_in t project ≡ Ok tt → TellsOne (λ work. work) (IsMade (with_claim project t) left) made
        → (answer : Result Report Refusal) → IfOk answer (λ report. report.end ≡ None) → Tells (λ lines. lines) (outcome_of_work project t left made) (lines_of answer) → Told answer
    told_made left (Ok work) passes is answer well tells = told_of (Ok work) left (λ passed. is) answer well tells
    told_made left (Err refusal) passes (inr is) answer well tells = told_of (Err refusal) left (λ passed. is) answer well tells
    told_made left (Err refusal) passes (inl free) answer well tells = told_free left refusal free passes answer tells

    pub told_change : (answer : Result Report Refusal) → IfOk answer (λ report. report.end ≡ None) → Commanded IsMade project t before now (lines_of answer) → Told answer
    told_change answer well did = by (claim_in t project) refl
      where
        by : (c : Result (Unit {0}) Refusal) → claim_in t project ≡ c → Told answer
        by (Ok done) e = told_made did.left did.made e (did.is_made e) answer well did.told
        by (Err refusal) e =
            told_of did.made did.left (λ passes. absurd (let both : ◌≡◌ {A = Result (Unit {0}) Refusal} (Ok tt) (Err refusal) = sym passes ∙ e in cc)) answer well did.told

  -- ---- where nothing was begun

  pub not_changed : (m : Meaning) (refusal : Refusal) → is_free refusal ≡ true → (IsTrue (is_device_fault {X = Report} (Err refusal)) → ⊥) → Changes IsMade project m m (Err refusal)
  not_changed m refusal free no_device = record {
    commanded = λ t told. not_claimed IsMade project t m m refusal (inl free) (steady_start project m) refl (λ other. refl);
    device = λ failed. absurd (no_device failed);
  }

  -- ---- what a run does

  module _ (t : FileTree) (before now : Meaning) (status : ℕ) (answer : Result Report Refusal)
      (done_is : is_done status ≡ true → is_ok answer ≡ true) (free_is : is_free_status status ≡ false → is_free_result answer ≡ false)
      (refused_is : is_unrefused status ≡ false → IsRefusedBy answer) where
    pub run_changes : Commanded IsMade project t before now (lines_of answer) → RunChanges IsMade project t before now status
    run_changes did = record {
      made = did.made;
      left = did.left;
      is_made = did.is_made;
      held = did.held;
      tree = did.tree;
      done = λ done. lines_when_ok (outcome_of_work project t did.left did.made) answer (done_is done) did.told;
      through = did.through;
      settled = λ done. when_ok (EachImage before (IsSteadily project t) → EachImage now (IsInstalled project t (files_made project t did.left did.made))) answer (done_is done) did.settled;
      refused = λ refused. when_refused (EachImage before (IsSteadily project t) → EachImage now (IsInstalled project t (file_at t))) answer (refused_is refused) did.refused;
      new_stands = λ done. when_ok (OfTold now (IsInstalled project t (files_made project t did.left did.made))) answer (done_is done) did.new_stands;
      old_stands = λ passes refused. when_refused (OfTold now (IsInstalled project t (file_at t))) answer (refused_is refused) (did.old_stands passes);
      released = λ passes other. did.released passes (free_lines answer (free_is other));
      unclaimed = λ refusal refuses other. did.unclaimed refusal refuses (free_lines answer (free_is other));
      writes = did.writes;
    }
