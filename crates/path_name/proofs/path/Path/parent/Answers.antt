use Rattle.std.proofs.Common.{◌≡◌, take, Some}
use Rattle.path_name.specs.Paths.{without_last}
use Rattle.path_name.specs.Joined.{segments_of}
use Rattle.path_name.proofs.Joining.{front_is_path}
use Rattle.path_name.proofs.path.Path.parent.Goals as goal

pub invariant_of-result : goal.invariant_of-result
invariant_of-result c =
    let front : without_last (segments_of c.self.inside.joined.items) ≡ Some (segments_of (take c.in-Some.len c.self.inside.joined.items)) = rw (← c.as_slice.ensures.value) c.in-Some.ensures.1 in
    rw (c.in_ok-from_slice-in-Some.ensures.items, c.deref.ensures.value) (front_is_path _ _ c.self.invariant front)
