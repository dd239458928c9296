use Rattle.std.proofs.Common.{◌≡◌, ◌+◌, length}
use Rattle.std.specs.List.{list_any}
use Rattle.std.specs.FinMap as map
use Rattle.tree_dev.specs.Memory.{above, blocks}
use Rattle.tree_dev.proofs.placing.is_blocked.Given as goal

abbrev pub invariant-loop-level : goal.invariant-loop-level
invariant-loop-level l = record {
  rest : list_any (λ folder. blocks (map.get l.fn.files folder)) (above l.folder) ≡ list_any (λ folder. blocks (map.get l.fn.files folder)) (above l.at);
  len : length l.folder + l._level ≡ length l.at + 1;
}
