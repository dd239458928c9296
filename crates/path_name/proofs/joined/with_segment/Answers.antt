use Rattle.std.proofs.Common.{◌≡◌, [], rules}
use Rattle.std.proofs.lemmas.List.{nil_from_length}
use Rattle.path_name.proofs.Joining.{segments_of-appended, set_off_some}
use Rattle.path_name.proofs.joined.with_segment.Goals as goal

pub returns-then-is_empty : goal.returns-then-is_empty
returns-then-is_empty c =
    let none : c.args.joined.now ≡ [] = nil_from_length c.args.joined.now (search rules) in
    let one = segments_of-appended [] c.args.segment.now c.requires in
    search (rules, none, one, c.from_slice.ensures.items)

pub returns : goal.returns
returns c =
    let cut = set_off_some c.args.joined.now (search rules) in
    rw (c.in_ok-extend_from_slice-2.ensures.items, c.in_ok-push.ensures.items, c.in_ok-extend_from_slice.ensures.items, c.in_ok-longer.ensures.items, ← cut) (segments_of-appended c.args.joined.now c.args.segment.now c.requires)
