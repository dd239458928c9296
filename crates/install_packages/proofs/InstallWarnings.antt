-- What an install warned of once its claim was made, and where it was not.
use Rattle.std.proofs.Common.{◌≡◌, ℕ, List, Some, Result, Ok, Err, refl, sym, ap, subst, ◌∙◌, inl, inr}
use Rattle.std.proofs.lemmas.Bool.{false≢true}
use Rattle.std.specs.Prelude.{◌⊎◌, IsTrue, IsErrAnd}
use Rattle.tree_dev.specs.Device.{Meaning, OfTold}
use Rattle.tree_dev.specs.Sinks.{Taken}
use Rattle.tree_dev.specs.Trees.{FileTree}
use Rattle.install_world.proofs.PartDone.{told_still}
use Rattle.stage_job.specs.Staged.{KeepsTelling}
use Rattle.run_answers.specs.Faults.{is_free}
use Rattle.run_answers.specs.Steps.{Tells, is_free_result}
use Rattle.run_answers.specs.declared.refusal.Refusal.{Refusal}
use Rattle.install_choice.specs.Warnings.{TakesText, warning_in}
use Rattle.install_choice.proofs.Warned.{takes_nothing}
use Rattle.install_commands.specs.Claiming.{claim_in, with_claim}
use Rattle.install_commands.specs.Working.{worked_in}
use Rattle.install_commands.specs.declared.work.Work.{Work}
use Rattle.install_packages.specs.Installing.{warning_claimed}

-- what failed for no fault of the tree ends so
free_ends : (project : List (List ℕ)) (t : FileTree) (left : ℕ) (made : Result Work Refusal) (result : Result (List ℕ) Refusal) → IsTrue (is_free_result made) → Tells (λ lines. lines) (worked_in project t left made) result
    → IsTrue (is_free_result result)
unfolding worked_in
free_ends project t left (Ok work) result free told = absurd (false≢true free)
free_ends project t left (Err refusal) (Ok lines) free told = absurd cc
free_ends project t left (Err refusal) (Err other) free (inl ends) = ends
free_ends project t left (Err refusal) (Err other) free (inr told) = let same : refusal ≡ other = cc in subst (λ (r : Refusal). IsTrue (is_free r)) same free

abbrev Warned : Taken → Taken → List ℕ → {X : Type 0} → Result X Refusal → Type 0
Warned before now text result = TakesText before now text ⊎ (IsTrue (is_free_result result) × (now ≡ before))

ends : (before now : Taken) (text : List ℕ) (made : Result Work Refusal) (result : Result (List ℕ) Refusal) → (IsTrue (is_free_result made) → IsTrue (is_free_result result)) → Warned before now text made → Warned before now text result
ends before now text made result f (inl takes) = inl takes
ends before now text made result f (inr free) = inr (f free.0, free.1)

-- the claim was made
pub warned_through : (project : List (List ℕ)) (t : FileTree) (b d : Meaning) (before now : Taken) (made : Result Work Refusal) (left : ℕ) (result : Result (List ℕ) Refusal) (a : Meaning) → a.told ≡ Some t → KeepsTelling a b
    → OfTold b (λ u. u ≡ with_claim project t) → claim_in t project ≡ Ok tt → d.told ≡ b.told → (held : List (List ℕ)) → held ≡ project → OfTold b (λ u. Warned before now (warning_in u project) made)
    → OfTold d (λ u. Tells (λ lines. lines) (worked_in held u left made) result) → Warned before now (warning_claimed t project (claim_in t project)) result
warned_through project t b d before now made left result a told tells claimed passes read held same warned ended =
    let still = told_still a b t tells told in
    let told_b : b.told ≡ Some (with_claim project t) = still.1 ∙ ap (λ (u : FileTree). Some u) (claimed still.0 still.1) in
    subst (λ (c : Result (Unit {0}) Refusal). Warned before now (warning_claimed t project c) result) (sym passes)
    (ends before now (warning_in (with_claim project t) project) made result (λ free. free_ends held (with_claim project t) left made result free (ended (with_claim project t) (read ∙ told_b))) (warned (with_claim project t) told_b))

-- the claim was refused
unclaimed : (project : List (List ℕ)) (t : FileTree) (sink : Taken) (c : Result (Unit {0}) Refusal) (refusal : Refusal) → IsTrue (is_free refusal) ⊎ (c ≡ Err refusal)
    → TakesText sink sink (warning_claimed t project c) ⊎ (IsTrue (is_free refusal) × (sink ≡ sink))
unclaimed project t sink c refusal (inl free) = inr (free, refl)
unclaimed project t sink c refusal (inr is) = inl (subst (λ (some : Result (Unit {0}) Refusal). TakesText sink sink (warning_claimed t project some)) (sym is) (inl (takes_nothing sink)))

pub warned_unclaimed : (project : List (List ℕ)) (t : FileTree) (sink : Taken) (refusal : Refusal) → IsTrue (is_free refusal) ⊎ (claim_in t project ≡ Err refusal) → (r : Result (List ℕ) Refusal) → IsErrAnd r (λ y. y ≡ refusal)
    → Warned sink sink (warning_claimed t project (claim_in t project)) r
warned_unclaimed project t sink refusal told (Ok x) is = absurd is
warned_unclaimed project t sink refusal told (Err other) is =
    subst (λ (f : Refusal). TakesText sink sink (warning_claimed t project (claim_in t project)) ⊎ (IsTrue (is_free f) × (sink ≡ sink))) (sym is) (unclaimed project t sink (claim_in t project) refusal told)
