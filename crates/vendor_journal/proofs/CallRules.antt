-- What calls of a device keep.
use Rattle.std.proofs.Common.{◌≡◌, ◌≤◌, Bool, false, Option, Some, None, is_some, refl, ap, ◌∙◌, inl, inr, arith}
use Rattle.std.specs.Prelude.{IsTrue}
use Rattle.std.specs.Option.{option_map}
use Rattle.tree_dev.specs.Trees.{FileTree}
use Rattle.tree_dev.specs.Changes.{changed}
use Rattle.tree_dev.specs.Device.{MayAdd, MaySettle, Meaning, Rose}
use Rattle.tree_dev.specs.declared.change.Change.{Change}
use Rattle.install_world.specs.Removals.{WritesNone}
use Rattle.vendor_journal.specs.Committing.{Calls}

pub calls_start : (m : Meaning) → Calls m m false
calls_start m = record { tells = refl; faults = omega arith; cause = λ wrong. absurd cc }

pub calls_on : (a b d : Meaning) (failed : Bool) → Calls b d failed → Calls a b false → Calls a d failed
calls_on a b d failed second first = record {
  tells = second.tells ∙ first.tells;
  faults = omega (arith, first.faults, second.faults);
  cause = λ f. let rose = second.cause f in let le = first.faults in omega (arith, rose, le);
}

still_told : (t : Option FileTree) (change : Change) → is_some (option_map (λ (u : FileTree). changed u change) t) ≡ is_some t
still_told None change = refl
still_told (Some u) change = refl

pub change_tells : (b d : Meaning) (change : Change) → MayAdd b d change → is_some d.told ≡ is_some b.told
change_tells b d change (inl stays) = ap is_some stays.told
change_tells b d change (inr adds) = ap is_some adds.adds.told ∙ still_told b.told adds.torn

change_faults : (b d : Meaning) (change : Change) → MayAdd b d change → b.faults ≤ d.faults
change_faults b d change (inl stays) = stays.faults
change_faults b d change (inr adds) = adds.adds.faults

pub calls_change : (a b d : Meaning) (change : Change) (failed : Bool) → MayAdd b d change → (IsTrue failed → Rose b.faults d.faults) → Calls a b false → Calls a d failed
calls_change a b d change failed may cause first =
    calls_on a b d failed (record { tells = change_tells b d change may; faults = change_faults b d change may; cause = cause }) first

settle_tells : (b d : Meaning) → MaySettle b d → is_some d.told ≡ is_some b.told
settle_tells b d (inl stays) = ap is_some stays.told
settle_tells b d (inr settles) = ap is_some settles.told

settle_faults : (b d : Meaning) → MaySettle b d → b.faults ≤ d.faults
settle_faults b d (inl stays) = stays.faults
settle_faults b d (inr settles) = settles.faults

pub calls_barrier : (a b d : Meaning) (failed : Bool) → MaySettle b d → (IsTrue failed → Rose b.faults d.faults) → Calls a b false → Calls a d failed
calls_barrier a b d failed may cause first =
    calls_on a b d failed (record { tells = settle_tells b d may; faults = settle_faults b d may; cause = cause }) first

pub calls_none : (b d : Meaning) (failed : Bool) → WritesNone b d failed → Calls b d failed
calls_none b d failed none = record { tells = none.tells; faults = none.faults; cause = none.cause }
