use Rattle.std.proofs.Common.{◌≤◌, ◌+◌, length}
use Rattle.std.specs.Option.{option_map}
use Rattle.constraint_set.specs.Gathering.{constraint_behind, parts_constraint}
use Rattle.constraint_set.proofs.PartsLeft.{work_left, IsLeft}
use Rattle.constraint_set.proofs.reading.read_parts.Given as goal

abbrev pub invariant-loop-next : goal.invariant-loop-next
invariant-loop-next l = record {
  left : IsLeft (length l.text) (constraint_behind l.gathered.alternatives.items l.gathered.comparisons.items l.gathered.written l.gathered.inferred)
      (option_map (λ x. (x.0, x.1.now)) l.next) (parts_constraint l.text);
  within : work_left (option_map (λ x. (x.0, x.1.now)) l.next) ≤ length l.text + 1;
}

abbrev pub decreases-loop-next : goal.decreases-loop-next
decreases-loop-next l = work_left (option_map (λ x. (x.0, x.1.now)) l.next)
