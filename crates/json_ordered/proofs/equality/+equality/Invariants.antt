use Rattle.std.proofs.Common.{◌≡◌, drop}
use Rattle.json_ordered.proofs.Equal.{same_items, same_members}
use Rattle.json_ordered.proofs.equality.+equality.Given as goal

abbrev pub invariant-are_same_items-loop-i : goal.invariant-are_same_items-loop-i
invariant-are_same_items-loop-i l = same_items (drop l.i l.a) (drop l.i l.b) ≡ same_items l.a l.b

abbrev pub invariant-are_same_members-loop-i : goal.invariant-are_same_members-loop-i
invariant-are_same_members-loop-i l = same_members (drop l.i l.a) (drop l.i l.b) ≡ same_members l.a l.b
