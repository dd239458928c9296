-- What a device means to contracts, and what each kind of call keeps of it.
use Rattle.std.specs.Prelude.{◌≡◌, ℕ, ◌+◌, ◌-◌, ◌^◌, ◌≤◌, min, max, Bool, true, false, IsTrue, ◌⊎◌, Option, Some, Result, Ok, Err, refl}
use Rattle.std.proofs.Common.{◌∙◌, arith}
use Rattle.std.specs.Option.{option_map}
use Rattle.tree_dev.specs.Trees.{FileTree}
use Rattle.tree_dev.specs.Changes.{changed, has_place, IsTorn}
use Rattle.tree_dev.specs.Disk.{Disks, reading, with_change, settled}
use Rattle.tree_dev.specs.declared.change.Change.{Change}
use Rattle.tree_dev.specs.declared.fault.TreeFault.{TreeFault}
use Rattle.tree_dev.specs.declared.fault.TreeFault.TheVariants as faults

-- The tree that is told, if one is; how often the device has failed; how many calls of `write` came; and what
-- a crash may leave, now and at each earlier moment.
pub record Meaning : Type 0 where
  pub told : Option FileTree
  pub faults : ℕ
  pub writes : ℕ
  pub disks : Disks

-- a count of 64 bits after one more: it stands still at its last value
abbrev pub next : ℕ → ℕ
next n = max n (min (n + 1) (2 ^ 64 - 1))

-- a count that rose, or stands at its last value
abbrev pub Rose : ℕ → ℕ → Type 0
Rose before now = min (before + 1) (2 ^ 64 - 1) ≤ now

-- Only reading calls lie between: the same tree is told, a crash may leave the same trees, nothing was
-- written, and the count of faults has not fallen. failed says whether the last call failed: then it rose.
pub record OnlyRead (before now : Meaning) (failed : Bool) : Type 0 where
  pub told : now.told ≡ before.told
  pub faults : before.faults ≤ now.faults
  pub writes : now.writes ≡ before.writes
  pub disks : now.disks ≡ before.disks
  pub cause : IsTrue failed → Rose before.faults now.faults

-- Two readings in a row are one reading, whether the second failed or not.
pub only_read_on : {a b d : Meaning} {failed : Bool} → OnlyRead a b false → OnlyRead b d failed → OnlyRead a d failed
only_read_on first second = record {
  told = second.told ∙ first.told;
  faults = omega (arith, first.faults, second.faults);
  writes = second.writes ∙ first.writes;
  disks = second.disks ∙ first.disks;
  cause = λ f. let rose = second.cause f in let le = first.faults in omega (arith, rose, le);
}

-- No call at all is a reading.
pub only_read_refl : (m : Meaning) → OnlyRead m m false
only_read_refl m = record { told = refl; faults = omega arith; writes = refl; disks = refl; cause = λ f. absurd cc }

-- P of the tree that is told; nothing where none is
abbrev pub OfTold : Meaning → (FileTree → Type 0) → Type 0
OfTold m P = (t : FileTree) → m.told ≡ Some t → P t

-- Nothing changed.
pub record Stays (before now : Meaning) : Type 0 where
  pub told : now.told ≡ before.told
  pub faults : before.faults ≤ now.faults
  pub disks : now.disks ≡ before.disks

-- The change was made, and is the last pending one.
pub record Adds (before now : Meaning) (change : Change) : Type 0 where
  pub told : now.told ≡ option_map (λ t. changed t change) before.told
  pub faults : before.faults ≤ now.faults
  pub disks : now.disks ≡ with_change before.disks change

-- The change was made where it had a place in the tree as it read, and a file that was to be written may
-- hold any bytes.
pub record AddsTorn (before now : Meaning) (change : Change) : Type 0 where
  pub had_place : IsTrue (has_place (reading before.disks.now) change)
  pub torn : Change
  pub is_torn : IsTorn change torn
  pub adds : Adds before now torn

-- as before the change, or as after it
abbrev pub MayAdd : Meaning → Meaning → Change → Type 0
MayAdd before now change = Stays before now ⊎ AddsTorn before now change

-- A barrier came through: nothing is pending, and no entry changed.
pub record Settles (before now : Meaning) : Type 0 where
  pub told : now.told ≡ before.told
  pub faults : before.faults ≤ now.faults
  pub disks : now.disks ≡ settled before.disks

abbrev pub MaySettle : Meaning → Meaning → Type 0
MaySettle before now = Stays before now ⊎ Settles before now

-- whether a call answered that the device failed
abbrev pub is_failed : {X : Type 0} → Result X TreeFault → Bool
is_failed (Ok x) = false
is_failed (Err faults.Failed) = true
is_failed (Err faults.OutOfMemory) = false
