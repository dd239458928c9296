-- What steps record.
use Rattle.std.proofs.Common.{◌≡◌, ℕ, ◌+◌, true, List, [], ◌∷◌, ◌++◌, length, Option, Some, None, refl, sym, ap, subst, ◌∙◌, arith, length-append}
use Rattle.std.specs.Option.{option_to_list}
use Rattle.tree_dev.specs.Disk.{Disk, Disks, reading}
use Rattle.tree_dev.specs.Memory.{new_disks}
use Rattle.tree_dev.specs.Recorded.{CanRedo, CanRedoAll, IsSound, after_step, recorded, recorded_from}
use Rattle.tree_dev.specs.Trees.{IsTree}
use Rattle.tree_dev.specs.Changes.{has_place}
use Rattle.tree_dev.proofs.Remaking.{redo_none, redo-snoc, redo_front}
use Rattle.tree_dev.specs.declared.change.Change.{Change}
use Rattle.tree_dev.specs.declared.log.Step.{Step}
use Rattle.tree_dev.specs.declared.log.Step.TheVariants as steps

pub recorded_nothing : recorded [] ≡ new_disks
unfolding recorded_from
recorded_nothing = refl

pub recorded-snoc : (first : List Step) (d : Disks) (last : Step) → recorded_from d (first ++ last ∷ []) ≡ after_step (recorded_from d first) last
unfolding recorded_from
recorded-snoc [] d last = refl
recorded-snoc (step ∷ first) d last = recorded-snoc first (after_step d step) last

-- so many steps came before those that are pending
abbrev pub IsCounted : ℕ → List Step → Type 0
IsCounted safe all = safe + length (recorded all).now.pending ≡ length all

pub counted_nothing : IsCounted 0 []
counted_nothing = rw recorded_nothing refl

pub counted_change : (all : List Step) (safe : ℕ) (change : Change) → IsCounted safe all → IsCounted safe (all ++ steps.Changed change ∷ [])
counted_change all safe change is = rw recorded-snoc (simp length-append (omega (arith, is)))

pub counted_safe : (all : List Step) (last : Step) → (after_step (recorded all) last).now.pending ≡ [] → IsCounted (length (all ++ last ∷ [])) (all ++ last ∷ [])
counted_safe all last none = rw (recorded-snoc, none) (omega arith)

earlier : Disks → List Disk → Disks
earlier disks [] = disks
earlier disks (now ∷ past) = record { now = now; past = past }

nothing : (all : List Step) → length all ≡ 0 → all ≡ []
nothing [] e = refl
nothing (step ∷ all) e = absurd (omega (arith, e))

-- each step is a moment
past_of_step : (disks : Disks) (step : Step) → (after_step disks step).past ≡ disks.now ∷ disks.past
past_of_step disks (steps.Changed change) = refl
past_of_step disks steps.Settled = refl
past_of_step disks (steps.Put at entry) = refl
past_of_step disks (steps.Crashed applied torn) = refl

past_from : (all : List Step) (disks : Disks) → length (recorded_from disks all).past ≡ length disks.past + length all
unfolding recorded_from
past_from [] disks = omega arith
past_from (step ∷ all) disks =
    let more = past_from all (after_step disks step) in
    let one = ap length (past_of_step disks step) in
    omega (arith, more, one)

pub past_of : (all : List Step) → length (recorded all).past ≡ length all
past_of all = let n = past_from all new_disks in omega (arith, n)

-- the last step is taken back
last_step : (first : List Step) (last : Step) → (recorded (first ++ last ∷ [])).past ≡ (recorded first).now ∷ (recorded first).past
last_step first last = ap (λ d. d.past) (recorded-snoc first new_disks last) ∙ past_of_step (recorded first) last

same_before : (d before : Disks) → d.now ∷ d.past ≡ before.now ∷ before.past → d ≡ before
unfolding earlier
same_before d before is = ap (λ past. earlier d past) is

pub taken_back : (all first : List Step) (last : Option Step) (before : Disks) → all ≡ first ++ option_to_list last → (last ≡ None → length all ≡ 0)
    → (recorded all).past ≡ before.now ∷ before.past → recorded first ≡ before
taken_back all first (Some last) before split empty is =
    same_before (recorded first) before (sym (last_step first last) ∙ ap (λ l. (recorded l).past) (sym split) ∙ is)
taken_back all first None before split empty is =
    absurd (let p : [] ≡ before.now ∷ before.past = ap (λ d. d.past) (sym recorded_nothing) ∙ ap (λ l. (recorded l).past) (sym (nothing all (empty refl))) ∙ is in cc)

pub counted_back : (all first : List Step) (last : Option Step) (safe : ℕ) (before : Disks) → all ≡ first ++ option_to_list last → (last ≡ None → length all ≡ 0)
    → (recorded all).past ≡ before.now ∷ before.past → safe + length before.now.pending ≡ length before.past → IsCounted safe first
counted_back all first last safe before split empty is counted =
    let same = taken_back all first last before split empty is in
    let pending = ap (λ d. length d.now.pending) same in
    let past = ap (λ d. length d.past) same in
    let n = past_of first in
    omega (arith, pending, past, n, counted)

-- the same with each step that can be taken again
pub sound_nothing : IsSound 0 []
sound_nothing = record { counted = counted_nothing; redo = redo_none }

pub sound_change : (all : List Step) (safe : ℕ) (change : Change) → IsSound safe all → IsTree (reading (recorded all).now) → has_place (reading (recorded all).now) change ≡ true
    → IsSound safe (all ++ steps.Changed change ∷ [])
sound_change all safe change is tree place =
    record { counted = counted_change all safe change is.counted; redo = redo-snoc all new_disks (steps.Changed change) is.redo (tree, place) }

pub sound_safe : (all : List Step) (safe : ℕ) (last : Step) → IsSound safe all → CanRedo (recorded all).now last → (after_step (recorded all) last).now.pending ≡ []
    → IsSound (length (all ++ last ∷ [])) (all ++ last ∷ [])
sound_safe all safe last is can none = record { counted = counted_safe all last none; redo = redo-snoc all new_disks last is.redo can }

pub sound_back : (all first : List Step) (last : Option Step) (was safe : ℕ) (before : Disks) → all ≡ first ++ option_to_list last → (last ≡ None → length all ≡ 0)
    → (recorded all).past ≡ before.now ∷ before.past → safe + length before.now.pending ≡ length before.past → IsSound was all → IsSound safe first
sound_back all first last was safe before split empty is counted sound = record {
  counted = counted_back all first last safe before split empty is counted;
  redo = redo_front first (option_to_list last) new_disks (subst (CanRedoAll new_disks) split sound.redo);
}
