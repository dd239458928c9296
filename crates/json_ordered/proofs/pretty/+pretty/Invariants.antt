use Rattle.std.proofs.Common.{◌≡◌, ◌++◌, [], ◌∷◌, map, drop}
use Rattle.json_ordered.specs.Docs.{tree_of, pair_of}
use Rattle.json_ordered.specs.JsonTexts.{deeper}
use Rattle.json_ordered.specs.JsonPrinting.{pretty_from_item, pretty_from_member}
use Rattle.json_ordered.proofs.pretty.+pretty.Given as goal

abbrev pub invariant-add_array-loop-i : goal.invariant-add_array-loop-i
invariant-add_array-loop-i l = record {
  text : l.out.items ++ pretty_from_item (deeper l.fn.line.items) l.i (map tree_of (drop l.i l.items)) ≡ (l.fn.out.items ++ 91 ∷ []) ++ pretty_from_item (deeper l.fn.line.items) 0 (map tree_of l.items);
  line : l.line.items ≡ deeper l.fn.line.items;
}

abbrev pub invariant-add_object-loop-i : goal.invariant-add_object-loop-i
invariant-add_object-loop-i l = record {
  text : l.out.items ++ pretty_from_member (deeper l.fn.line.items) l.i (map pair_of (drop l.i l.members)) ≡ (l.fn.out.items ++ 123 ∷ []) ++ pretty_from_member (deeper l.fn.line.items) 0 (map pair_of l.members);
  line : l.line.items ≡ deeper l.fn.line.items;
}
