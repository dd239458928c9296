use Rattle.std.proofs.Common.{length, take, drop, List, ◌-◌, ◌≡◌, ℕ, ◌≤◌}
use Rattle.json_ordered.specs.JsonReading.{Frame, In_number, read_from}
use Rattle.json_ordered.specs.JsonSteps.{at}
use Rattle.json_ordered.proofs.number.number.Given as goal

abbrev pub invariant-loop-len : goal.invariant-loop-len
invariant-loop-len l = record {
  begun : 1 ≤ l.len;
  within : l.len ≤ length l.text;
  steps : (levels : ℕ) (stack : List Frame) → read_from (at levels stack (In_number l.fn.first (take 1 l.text))) (drop 1 l.text) ≡ read_from (at levels stack (In_number l.part (take l.len l.text))) (drop l.len l.text);
}

abbrev pub decreases-loop-len : goal.decreases-loop-len
decreases-loop-len l = length l.text - l.len
