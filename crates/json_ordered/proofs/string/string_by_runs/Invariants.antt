use Rattle.std.proofs.Common.{◌≡◌, ◌≤◌, ℕ, List, [], length}
use Rattle.json_ordered.specs.JsonReading.{Frame, Purpose, Plain, In_string, read_from}
use Rattle.json_ordered.specs.JsonSteps.{at}
use Rattle.json_ordered.proofs.string.string_by_runs.Given as goal

abbrev pub invariant-loop-out : goal.invariant-loop-out
invariant-loop-out l = record {
  steps : (levels : ℕ) (stack : List Frame) (purpose : Purpose) → read_from (at levels stack (In_string purpose [] Plain)) l.fn.text ≡ read_from (at levels stack (In_string purpose l.out.items Plain)) l.rest;
  shorter : length l.rest ≤ length l.fn.text;
}

abbrev pub decreases-loop-out : goal.decreases-loop-out
decreases-loop-out l = length l.rest
