use Rattle.std.proofs.Common.{◌≡◌, ℕ, length}
use Rattle.std.specs.Prelude.{Some}
use Rattle.std.specs.List.{slice_get}
use Rattle.install_world.specs.InFlight.{IsPart}
use Rattle.install_world.specs.Targets.{IsTargetPath}
use Rattle.install_world.specs.declared.target.Target.{Target}
use Rattle.vendor_journal.specs.Prepared.{IsPreparedPart}
use Rattle.vendor_journal.specs.declared.prepared.PreparedPart.{PreparedPart}
use Rattle.vendor_journal.proofs.prepared.prepare_parts.Given as goal

abbrev pub invariant-targets : goal.invariant-targets
invariant-targets l = record {
  count : length l.parts.items ≡ l.number;
  each : ((k : ℕ) (x : Target) → IsPart l.fn.targets k x → IsTargetPath x.path) → (j : ℕ) (target : Target) (part : PreparedPart) → IsPart l.fn.targets j target
      → slice_get l.parts.items j ≡ Some part → IsPreparedPart l.fn.project j target part;
}
