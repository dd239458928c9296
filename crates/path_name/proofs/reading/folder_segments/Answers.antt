use Rattle.std.proofs.Common.{◌≡◌, ◌-◌, length, refl, arith}
use Rattle.path_name.specs.FolderRefs.{folder_of}
use Rattle.path_name.proofs.reading.folder_segments.Goals as goal

pub loop-rest-init : goal.loop-rest-init
unfolding folder_of
loop-rest-init c =
    let none : length c.args.text.now - length c.args.text.now ≡ 0 = omega arith in
    record {
      path = rw c.in_ok-joined.ensures.items refl;
      within = omega arith;
      room = omega arith;
      rest = rw (c.in_ok-joined.ensures.items, none) refl;
    }
