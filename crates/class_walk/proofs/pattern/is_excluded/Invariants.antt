use Rattle.std.proofs.Common.{◌≡◌, false, take}
use Rattle.std.specs.List.{list_any}
use Rattle.class_walk.specs.Patterns.{is_excluded_by}
use Rattle.class_walk.proofs.pattern.is_excluded.Given as goal

abbrev pub invariant-loop-pattern : goal.invariant-loop-pattern
invariant-loop-pattern l = list_any (λ pattern. is_excluded_by pattern l.path) (take l.pattern-index l.patterns) ≡ false
