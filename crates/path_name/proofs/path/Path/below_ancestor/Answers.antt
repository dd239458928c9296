use Rattle.std.proofs.Common.{◌≡◌, ◌-◌, length, take}
use Rattle.path_name.specs.Joined.{segments_of}
use Rattle.path_name.proofs.Joining.{IsPath-take, IsPath-append}
use Rattle.path_name.proofs.path.Path.below_ancestor.Goals as goal

pub invariant_of-result : goal.invariant_of-result
invariant_of-result c =
    let project = segments_of c.project.inside.joined.items in
    let front : segments_of (take c.in-Some.len c.project.inside.joined.items) ≡ take (length project - c.args.up) project = rw (← c.as_slice.ensures.value) c.in-Some.ensures.1.1 in
    rw (c.in_ok-join-in-Some.ensures, c.deref.ensures.value, c.as_slice-in-Some.ensures.value, front) (IsPath-append _ _ (IsPath-take _ project c.project.invariant) c.self.invariant)
