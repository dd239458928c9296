use Rattle.std.proofs.Common.{◌≡◌, ◌+◌, length}
use Rattle.std.specs.Option.{option_map_or}
use Rattle.path_name.specs.Paths.{IsPath, path_step, read_parts, followed}
use Rattle.path_name.specs.Joined.{segments_of}
use Rattle.path_name.proofs.Parts.{parts_left, IsLeft}
use Rattle.path_name.proofs.reading.follow_text.Given as goal

abbrev pub invariant-loop-rest : goal.invariant-loop-rest
invariant-loop-rest l = record {
  path : IsPath (segments_of l.joined.items);
  within : IsLeft (length l.text) l.rest;
  rest : read_parts path_step (segments_of l.joined.items) (parts_left (length l.text) l.rest) ≡ followed (segments_of l.fn.joined.items) l.text;
}

abbrev pub decreases-loop-rest : goal.decreases-loop-rest
decreases-loop-rest l = option_map_or (λ left. length left.now + 1) l.rest 0
