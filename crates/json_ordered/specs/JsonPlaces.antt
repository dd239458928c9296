-- Places of faults, counted from the front.
use Rattle.std.specs.Prelude.{ℕ, ◌-◌, ◌≤◌}
use Rattle.json_ordered.specs.declared.fault.JsonFault.{JsonFault}
use Rattle.json_ordered.specs.declared.fault.JsonFault.TheVariants as faults
use Rattle.json_ordered.specs.declared.stop.Stop.{Stop}
use Rattle.json_ordered.specs.declared.stop.Stop.TheVariants as stops

-- no more bytes are left than the text has
abbrev pub StandsIn : Stop → ℕ → Type 0
StandsIn (stops.Syntax left) len = left ≤ len
StandsIn (stops.TooDeep left) len = left ≤ len
StandsIn stops.OutOfMemory len = Unit {0}

abbrev pub placed_fault : Stop → ℕ → JsonFault
placed_fault (stops.Syntax left) len = faults.Syntax (len - left)
placed_fault (stops.TooDeep left) len = faults.TooDeep (len - left)
placed_fault stops.OutOfMemory len = faults.OutOfMemory
