-- A claim, a work that only reads, and its end, put together.
use Rattle.std.proofs.Common.{◌≡◌, ℕ, Bool, false, List, Some, None, Result, Ok, Err, IsTrue, refl, sym, ap, subst, ◌∙◌, inl, inr, arith}
use Rattle.std.specs.Prelude.{◌⊎◌, ◌≤◌, IfErr, IfOk, IsErrAnd, OnOk}
use Rattle.std.specs.FinMap as map
use Rattle.std.proofs.lemmas.Bool.{false≢true}
use Rattle.path_name.specs.Given.{◌>>=◌}
use Rattle.tree_dev.specs.Trees.{FileTree, IsTree}
use Rattle.tree_dev.specs.Device.{Meaning, OfTold, OnlyRead, Rose}
use Rattle.tree_dev.specs.Projects.{file_at, work_path}
use Rattle.tree_dev.specs.Steady.{EachImage, IsSteadily, Steady, Through}
use Rattle.tree_dev.proofs.SteadyRules.{steady_on, steady_same}
use Rattle.tree_dev.proofs.Stretches.{through_ends, through_on}
use Rattle.install_world.specs.InFlight.{IsInFlight}
use Rattle.install_world.proofs.PartDone.{told_still}
use Rattle.stage_job.specs.Staged.{IsClaimed, KeepsTelling}
use Rattle.stage_job.specs.Written.{after_more}
use Rattle.run_answers.specs.Faults.{is_device_fault, is_free, is_of_device}
use Rattle.run_answers.specs.declared.refusal.NamedFile.TheVariants as files
use Rattle.run_answers.specs.Steps.{Tells, TellsOne, is_free_result}
use Rattle.run_answers.specs.declared.refusal.Refusal.{Refusal}
use Rattle.run_answers.specs.declared.refusal.Refusal.TheVariants as refusals
use Rattle.install_commands.specs.Claiming.{claim_in, with_claim}
use Rattle.install_commands.specs.Commanded.{Commanded, files_made, outcome_of_work}
use Rattle.install_commands.specs.Working.{IsInstalled, files_after, worked_in, writes_of}
use Rattle.install_commands.specs.declared.work.Work.{Work}
use Rattle.install_commands.proofs.Faults.{rose_after}
use Rattle.install_commands.proofs.Flights.{steady_in_flight, steady_stays}
use Rattle.install_commands.proofs.ToldEnds.{claimed_steadily}
use Rattle.install_commands.proofs.WriteCounts.{none_written}

on_ok : {P Q : Type 0} (r : Result (List ℕ) Refusal) → (P → Q) → OnOk r P → OnOk r Q
on_ok (Ok x) f p = f p
on_ok (Err e) f p = tt

swap_err : {P : Type 0} (Q : Type 0) (r : Result (List ℕ) Refusal) → (P → IfErr r (λ refusal. is_free refusal ≡ false → Q)) → IfErr r (λ refusal. is_free refusal ≡ false → P → Q)
swap_err Q (Ok x) f = tt
swap_err Q (Err e) f = λ other p. f p other

claimed_and_not : {P : Type 0} (c : Result (Unit {0}) Refusal) (refusal : Refusal) → c ≡ Ok tt → c ≡ Err refusal → P
claimed_and_not c refusal passes refuses = absurd (let both : ◌≡◌ {A = Result (Unit {0}) Refusal} (Ok tt) (Err refusal) = sym passes ∙ refuses in cc)

if_made : (P : Type 0) (made : Result Work Refusal) → P → IfOk made (λ work. P)
if_made P (Ok work) holds = holds
if_made P (Err refusal) holds = tt

-- ---- where the claim was refused

module _ (IsMade : FileTree → ℕ → Result Work Refusal → Type 0) (project : List (List ℕ)) (t : FileTree) (a b : Meaning) (refusal : Refusal)
    (told : IsTrue (is_free refusal) ⊎ (claim_in t project ≡ Err refusal)) where
  refuses : is_free refusal ≡ false → claim_in t project ≡ Err refusal
  refuses other = by told
    where
      by : IsTrue (is_free refusal) ⊎ (claim_in t project ≡ Err refusal) → claim_in t project ≡ Err refusal
      by (inl free) = absurd (false≢true (sym other ∙ free))
      by (inr is) = is

  outcome : IsTrue (is_free refusal) ⊎ (claim_in t project ≡ Err refusal) → IsTrue (is_free refusal) ⊎ (outcome_of_work project t 0 (Err refusals.OutOfMemory) ≡ Err refusal)
  outcome (inl free) = inl free
  outcome (inr is) = inr (ap (λ (c : Result (Unit {0}) Refusal). c >>= λ passed. worked_in project (with_claim project t) 0 (Err refusals.OutOfMemory)) is)

  pub not_claimed : Steady project a b → b.writes ≡ a.writes → (is_free refusal ≡ false → b.told ≡ a.told) → Commanded IsMade project t a b (Err refusal)
  not_claimed steady wrote same = record {
    made = Err refusals.OutOfMemory;
    left = 0;
    is_made = λ passes. inl refl;
    held = tt;
    tree = tt;
    told = outcome told;
    through = λ each. steady_in_flight project t a b each steady (files_made project t 0 (Err refusals.OutOfMemory));
    settled = tt;
    refused = λ other each. steady_stays project t a b each steady;
    new_stands = tt;
    old_stands = λ passes other. claimed_and_not (claim_in t project) refusal passes (refuses other);
    released = λ passes other. claimed_and_not (claim_in t project) refusal passes (refuses other);
    unclaimed = λ why is other. same other;
    writes = none_written a.writes b.writes 0 wrote;
  }

  -- the same where a `?` passes the refusal on
  pub not_claimed_exit : (r : Result (List ℕ) Refusal) → IsErrAnd r (λ y. y ≡ refusal) → Steady project a b → b.writes ≡ a.writes → (is_free refusal ≡ false → b.told ≡ a.told) → Commanded IsMade project t a b r
  not_claimed_exit (Ok x) is steady wrote same = absurd is
  not_claimed_exit (Err other) is steady wrote same = subst (λ (f : Refusal). Commanded IsMade project t a b (Err f)) (sym is) (not_claimed steady wrote same)

-- ---- where a fault of the device is told

device_is : (refusal : Refusal) → IsTrue (is_of_device refusal) → refusal ≡ refusals.DeviceFault
device_is refusals.DeviceFault e = refl
device_is refusals.Usage e = absurd cc
device_is refusals.BadName e = absurd cc
device_is refusals.Nothing e = absurd cc
device_is refusals.NoManifest e = absurd cc
device_is refusals.NoLock e = absurd cc
device_is refusals.NoTables e = absurd cc
device_is (refusals.BadDocument files.Manifest fault) e = absurd cc
device_is (refusals.BadDocument (files.Member path) fault) e = absurd cc
device_is (refusals.BadDocument files.Lock fault) e = absurd cc
device_is (refusals.BadDocument files.Installed fault) e = absurd cc
device_is (refusals.NotOffered file pointer) e = absurd cc
device_is refusals.NoPlan e = absurd cc
device_is (refusals.LockUnmet rule) e = absurd cc
device_is (refusals.Breaks rule) e = absurd cc
device_is refusals.Unfinished e = absurd cc
device_is refusals.Pending e = absurd cc
device_is refusals.Changed e = absurd cc
device_is refusals.SinkFault e = absurd cc
device_is refusals.OutOfMemory e = absurd cc
device_is (refusals.BadJournal at) e = absurd cc
device_is (refusals.BadTables table at) e = absurd cc
device_is (refusals.Limit limit) e = absurd cc
device_is (refusals.MissingPath text) e = absurd cc
device_is (refusals.ClassmapMissing path) e = absurd cc
device_is (refusals.OtherEntry path) e = absurd cc
device_is (refusals.Vanished place) e = absurd cc

device_made : (made : Result Work Refusal) → IsTrue (is_device_fault made) → made ≡ Err refusals.DeviceFault
device_made (Ok work) e = absurd cc
device_made (Err refusal) e = ap (λ (r : Refusal). Err r) (device_is refusal e)

-- A fault of the device before the end is silent then, or one comes at the end.
pub rose_all : (a b d e : Meaning) (made : Result Work Refusal) → a.faults ≤ b.faults → b.faults ≤ d.faults → (IsTrue (is_device_fault made) → Rose b.faults d.faults)
    → (made ≡ Err refusals.DeviceFault → e ≡ d) → IsTrue (is_device_fault made) ⊎ Rose d.faults e.faults → Rose a.faults e.faults
rose_all a b d e made ab bd cause silent (inl failed) =
    subst (λ (m : Meaning). Rose a.faults m.faults) (sym (silent (device_made made failed))) (rose_after a.faults b.faults d.faults ab (cause failed))
rose_all a b d e made ab bd cause silent (inr rose) = rose_after a.faults d.faults e.faults (omega (arith, ab, bd)) rose

-- ---- where it was held

module _ (IsMade : FileTree → ℕ → Result Work Refusal → Type 0) (project : List (List ℕ)) (t : FileTree) (a b d e : Meaning) (made : Result Work Refusal) (left : ℕ)
    (result : Result (List ℕ) Refusal) (told_a : a.told ≡ Some t) (passes : claim_in t project ≡ Ok tt) (tells : KeepsTelling a b) (claimed : OfTold b (λ u. u ≡ with_claim project t))
    (steady : Steady project a b) (wrote : b.writes ≡ a.writes) (trees : (u : FileTree) → b.told ≡ Some u → IsTree u) (ready : OfTold b (IsClaimed project)) (failed : Bool) (read : OnlyRead b d failed) where
  told_b : b.told ≡ Some (with_claim project t)
  told_b =
      let still = told_still a b t tells told_a in
      still.1 ∙ ap (λ (u : FileTree). Some u) (claimed still.0 still.1)

  told_d : d.told ≡ Some (with_claim project t)
  told_d = read.told ∙ told_b

  steady_d : Steady project a d
  steady_d = steady_on project a b d steady (steady_same project b d read.faults read.disks)

  each_d : EachImage a (IsSteadily project t) → EachImage d (IsSteadily project t)
  each_d each = through_ends (IsSteadily project t) a d (record { later = steady_d.later; each = steady_d.each t each; faults = steady_d.faults })

  same_outcome : outcome_of_work project t left made ≡ worked_in project (with_claim project t) left made
  same_outcome = ap (λ (c : Result (Unit {0}) Refusal). c >>= λ passed. worked_in project (with_claim project t) left made) passes

  abbrev Told : List (List ℕ) → Type 0
  Told held = OfTold d (λ u. Tells (λ lines. lines) (worked_in held u left made) result)

  abbrev Moves : List (List ℕ) → Type 0
  Moves held = OfTold d (λ u. (start : FileTree) → EachImage d (IsSteadily held start) → Through d e (IsInFlight held start (file_at start) (files_after held start u left made)))

  abbrev Settles : List (List ℕ) → Type 0
  Settles held = OnOk result (OfTold d (λ u. (start : FileTree) → EachImage d (IsSteadily held start) → EachImage e (IsInstalled held start (files_after held start u left made))))

  abbrev Stays : List (List ℕ) → Type 0
  Stays held = OfTold d (λ u. (start : FileTree) → EachImage d (IsSteadily held start) → IfErr result (λ refusal. is_free refusal ≡ false → EachImage e (IsInstalled held start (file_at start))))

  abbrev NewStands : List (List ℕ) → Type 0
  NewStands held = OnOk result (OfTold d (λ u. (start : FileTree) → IsSteadily held start u → OfTold e (IsInstalled held start (files_after held start u left made))))

  abbrev OldStands : List (List ℕ) → Type 0
  OldStands held = OfTold d (λ u. (start : FileTree) → IsSteadily held start u → IfErr result (λ refusal. is_free refusal ≡ false → OfTold e (IsInstalled held start (file_at start))))

  abbrev Releases : List (List ℕ) → Type 0
  Releases held = OfTold d (λ u. is_free_result result ≡ false → OfTold e (λ v. map.get v (work_path held) ≡ None))

  abbrev Writes : Type 0
  Writes = OfTold d (λ u. e.writes ≤ after_more d.writes (writes_of u made))

  settle : OfTold d (λ u. (start : FileTree) → EachImage d (IsSteadily project start) → EachImage e (IsInstalled project start (files_after project start u left made)))
      → EachImage a (IsSteadily project t) → EachImage e (IsInstalled project t (files_made project t left made))
  settle ends each = ends (with_claim project t) told_d t (each_d each)

  move : Moves project → EachImage a (IsSteadily project t) → Through a e (IsInFlight project t (file_at t) (files_made project t left made))
  move moves each = through_on (IsInFlight project t (file_at t) (files_made project t left made)) a d e (steady_in_flight project t a d each steady_d (files_made project t left made))
      (moves (with_claim project t) told_d t (each_d each))

  stay : Stays project → EachImage a (IsSteadily project t) → IfErr result (λ refusal. is_free refusal ≡ false → EachImage e (IsInstalled project t (file_at t)))
  stay stays each = stays (with_claim project t) told_d t (each_d each)

  steadily : IsSteadily project t (with_claim project t)
  steadily = claimed_steadily project t (ready (with_claim project t) told_b)

  in_project : OfTold b (λ u. TellsOne (λ work. work) (IsMade u left) made) → Told project → Moves project → Settles project → Stays project → NewStands project → OldStands project
      → Releases project → Writes → Commanded IsMade project t a e result
  in_project works tells_it moves settles stays new_stands old_stands releases writes_it = record {
    made = made;
    left = left;
    is_made = λ passed. works (with_claim project t) told_b;
    held = if_made (claim_in t project ≡ Ok tt) made passes;
    tree = if_made (IsTree (with_claim project t)) made (trees (with_claim project t) told_b);
    told = subst (λ (wanted : Result (List ℕ) Refusal). Tells (λ lines. lines) wanted result) (sym same_outcome) (tells_it (with_claim project t) told_d);
    through = move moves;
    settled = on_ok result settle settles;
    refused = swap_err (EachImage e (IsInstalled project t (file_at t))) result (stay stays);
    new_stands = on_ok result (λ stands. stands (with_claim project t) told_d t steadily) new_stands;
    old_stands = λ passed. old_stands (with_claim project t) told_d t steadily;
    released = λ passed other. releases (with_claim project t) told_d other;
    unclaimed = λ refusal refuses_it other. claimed_and_not (claim_in t project) refusal passes refuses_it;
    writes = subst (λ (written : ℕ). e.writes ≤ after_more written (writes_of (with_claim project t) made)) (read.writes ∙ wrote) (writes_it (with_claim project t) told_d);
  }

  -- What is held is the project.
  pub commanded : (held : List (List ℕ)) → held ≡ project → OfTold b (λ u. TellsOne (λ work. work) (IsMade u left) made) → Told held → Moves held → Settles held → Stays held
      → NewStands held → OldStands held → Releases held → Writes → Commanded IsMade project t a e result
  commanded held same works = subst (λ (h : List (List ℕ)). Told h → Moves h → Settles h → Stays h → NewStands h → OldStands h → Releases h → Writes → Commanded IsMade project t a e result) (sym same) (in_project works)
