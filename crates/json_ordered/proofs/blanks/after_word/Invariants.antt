use Rattle.std.proofs.Common.{◌≡◌, ◌≤◌, ℕ, List, length, drop}
use Rattle.json_ordered.specs.JsonTree.{JsonTree}
use Rattle.json_ordered.specs.JsonReading.{Frame, In_word, read_from}
use Rattle.json_ordered.specs.JsonSteps.{at}
use Rattle.json_ordered.proofs.blanks.after_word.Given as goal

abbrev pub invariant-loop-wanted : goal.invariant-loop-wanted
invariant-loop-wanted l = record {
  steps : (levels : ℕ) (stack : List Frame) (v : JsonTree) → read_from (at levels stack (In_word l.word v)) l.fn.text ≡ read_from (at levels stack (In_word (drop l.wanted-index l.word) v)) l.rest;
  shorter : length l.rest ≤ length l.fn.text;
}
