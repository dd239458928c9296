use Rattle.std.proofs.Common.{◌≡◌, ◌≤◌, length}
use Rattle.json_ordered.specs.Json.{most_levels}
use Rattle.json_ordered.specs.JsonReading.{read_from, start}
use Rattle.json_ordered.specs.JsonFrames.{in_frames, place_of}
use Rattle.json_ordered.proofs.values.document.Given as goal

abbrev pub invariant-loop-step : goal.invariant-loop-step
invariant-loop-step l = record {
  steps : read_from (start most_levels) l.fn.text ≡ read_from (in_frames l.stack.items (place_of l.step)) l.rest;
  bound : length l.stack.items ≤ most_levels;
}

abbrev pub decreases-loop-step : goal.decreases-loop-step
decreases-loop-step l = length l.rest
