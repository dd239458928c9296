use Rattle.std.proofs.Common.{◌≡◌, take, Some}
use Rattle.path_name.specs.Paths.{without_last}
use Rattle.path_name.specs.Joined.{segments_of}
use Rattle.path_name.proofs.Joining.{front_is_path}
use Rattle.path_name.proofs.joined.leave_last.Goals as goal

pub returns-in-Some-clause-path : goal.returns-in-Some-clause-path
returns-in-Some-clause-path c =
    let front : without_last (segments_of c.args.joined.now.items) ≡ Some (segments_of (take c.in-Some.len c.args.joined.now.items)) = rw (← c.as_slice.ensures.value) c.in-Some.ensures.1 in
    rw c.truncate.ensures.items (front_is_path _ _ c.requires front)
