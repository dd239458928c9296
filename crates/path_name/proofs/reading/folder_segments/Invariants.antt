use Rattle.std.proofs.Common.{◌≡◌, ◌+◌, ◌≤◌, length}
use Rattle.std.specs.Option.{option_map_or}
use Rattle.path_name.specs.Paths.{IsPath, read_parts}
use Rattle.path_name.specs.FolderRefs.{folder_step, folder_of}
use Rattle.path_name.specs.Joined.{segments_of}
use Rattle.path_name.proofs.Parts.{parts_left, IsLeft}
use Rattle.path_name.proofs.reading.folder_segments.Given as goal

abbrev pub invariant-loop-rest : goal.invariant-loop-rest
invariant-loop-rest l = record {
  path : IsPath (segments_of l.joined.items);
  within : IsLeft (length l.text) l.rest;
  room : l.up + option_map_or (λ left. length left.now) l.rest 0 ≤ length l.text + 1;
  rest : read_parts folder_step (record { up = l.up; path = segments_of l.joined.items }) (parts_left (length l.text) l.rest) ≡ folder_of l.text;
}

abbrev pub decreases-loop-rest : goal.decreases-loop-rest
decreases-loop-rest l = option_map_or (λ left. length left.now + 1) l.rest 0
