use Rattle.std.proofs.Common.{◌≡◌, ◌++◌, [], ◌∷◌, map, drop}
use Rattle.json_ordered.specs.Docs.{tree_of, pair_of}
use Rattle.json_ordered.specs.JsonPrinting.{compact_from_item, compact_from_value, compact_from_member}
use Rattle.json_ordered.proofs.hash_form.+compact.Given as goal

abbrev pub invariant-add_items-loop-i : goal.invariant-add_items-loop-i
invariant-add_items-loop-i l = l.out.items ++ compact_from_item l.i (map tree_of (drop l.i l.items)) ≡ (l.fn.out.items ++ 91 ∷ []) ++ compact_from_item 0 (map tree_of l.items)

abbrev pub invariant-add_values-loop-i : goal.invariant-add_values-loop-i
invariant-add_values-loop-i l = l.out.items ++ compact_from_value l.i (map pair_of (drop l.i l.members)) ≡ (l.fn.out.items ++ 91 ∷ []) ++ compact_from_value 0 (map pair_of l.members)

abbrev pub invariant-add_members-loop-i : goal.invariant-add_members-loop-i
invariant-add_members-loop-i l = l.out.items ++ compact_from_member l.i (map pair_of (drop l.i l.members)) ≡ (l.fn.out.items ++ 123 ∷ []) ++ compact_from_member 0 (map pair_of l.members)
