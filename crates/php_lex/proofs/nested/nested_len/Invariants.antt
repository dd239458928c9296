use Rattle.std.proofs.Common.{length, drop, [], ◌∷◌, ◌+◌, ◌-◌, ◌^◌, ◌<◌, ◌≤◌}
use Rattle.php_lex.specs.Openings.{element_of}
use Rattle.php_lex.specs.Stacks.{HasRoom, SameAll, levels_of, stack_of}
use Rattle.php_lex.proofs.nested.nested_len.Given as goal

abbrev pub invariant-loop-at : goal.invariant-loop-at
invariant-loop-at l = record {
  within : l.at ≤ length l.text;
  levels : length l.below.items ≤ 32;
  room : HasRoom (length l.text - l.at) l.below.items;
  top_room : l.top.braces + (length l.text - l.at) < 2 ^ 64;
  same : SameAll 32 (element_of l.fn.opening ∷ []) l.text (levels_of l.below.items) (stack_of l.top l.below.items) (drop l.at l.text);
}

abbrev pub decreases-loop-at : goal.decreases-loop-at
decreases-loop-at l = length l.text - l.at
