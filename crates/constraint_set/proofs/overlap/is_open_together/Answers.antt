use Rattle.std.proofs.Common.{◌≡◌, false, sym, ◌∙◌}
use Rattle.std.specs.List.{list_any}
use Rattle.constraint_set.specs.Overlap.{orders_branch}
use Rattle.constraint_set.proofs.Openness.{joined_by_room, joined_at_branch}
use Rattle.constraint_set.proofs.overlap.is_open_together.Goals as goal

pub returns-then-all_hold : goal.returns-then-all_hold
returns-then-all_hold c =
    let first : list_any orders_branch c.args.first.now ≡ false = sym c.has_ordered_branch.ensures ∙ c.if-has_ordered_branch.false in
    let second : list_any orders_branch c.args.second.now ≡ false = sym c.has_ordered_branch-else-has_ordered_branch.ensures ∙ c.if-has_ordered_branch-2.false in
    rw (joined_at_branch c.args.first.now c.args.second.now c.in-Some.branch.now first second (sym c.in-Some.ensures), sym c.if-all_hold.ensures) c.all_hold-then-all_hold.ensures

pub returns-else-all_hold : goal.returns-else-all_hold
returns-else-all_hold c =
    let first : list_any orders_branch c.args.first.now ≡ false = sym c.has_ordered_branch.ensures ∙ c.if-has_ordered_branch.false in
    let second : list_any orders_branch c.args.second.now ≡ false = sym c.has_ordered_branch-else-has_ordered_branch.ensures ∙ c.if-has_ordered_branch-2.false in
    rw (joined_at_branch c.args.first.now c.args.second.now c.in-Some.branch.now first second (sym c.in-Some.ensures), sym c.if-all_hold.ensures) c.if-all_hold.false

pub returns-in-None : goal.returns-in-None
returns-in-None c =
    let first : list_any orders_branch c.args.first.now ≡ false = sym c.has_ordered_branch.ensures ∙ c.if-has_ordered_branch.false in
    let second : list_any orders_branch c.args.second.now ≡ false = sym c.has_ordered_branch-else-has_ordered_branch.ensures ∙ c.if-has_ordered_branch-2.false in
    rw (joined_by_room c.args.first.now c.args.second.now first second (sym c.in-None.ensures)) c.has_room.ensures
