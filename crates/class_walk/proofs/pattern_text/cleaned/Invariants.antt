use Rattle.std.proofs.Common.{◌≡◌, ◌+◌, [], length}
use Rattle.std.specs.Option.{option_map_or}
use Rattle.std.specs.List.{slice_split}
use Rattle.path_name.specs.Paths.{is_slash}
use Rattle.class_walk.specs.Matching.{with_parts, parts_left}
use Rattle.class_walk.proofs.pattern_text.cleaned.Given as goal

abbrev pub invariant-loop-rest : goal.invariant-loop-rest
invariant-loop-rest l = with_parts l.clean.items (parts_left l.rest) ≡ with_parts [] (slice_split is_slash l.text)

abbrev pub decreases-loop-rest : goal.decreases-loop-rest
decreases-loop-rest l = option_map_or (λ left. length left.now + 1) l.rest 0
