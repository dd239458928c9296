use Rattle.std.proofs.Common.{sym, ap, ◌∙◌}
use Rattle.json_ordered.proofs.Equal.{same_members, items_differ, members_differ, objects_equal}
use Rattle.json_ordered.proofs.equality.+equality.Goals as goal

pub are_same_items-returns-then-a-b : goal.are_same_items-returns-then-a-b
are_same_items-returns-then-a-b t c = sym (items_differ c.args.a.now c.args.b.now c.if-a-b.true)

pub are_same_members-returns-then-a-b : goal.are_same_members-returns-then-a-b
are_same_members-returns-then-a-b t c = sym (members_differ c.args.a.now c.args.b.now c.if-a-b.true)

pub is_same-returns-in-Obj-Obj : goal.is_same-returns-in-Obj-Obj
is_same-returns-in-Obj-Obj t c = c.are_same_members.ensures
    ∙ ap (λ x. same_members x c.as_slice-in-Obj-Obj-2.result.now) c.as_slice-in-Obj-Obj.ensures.value
    ∙ ap (same_members c.in-Obj-Obj.a.items) c.as_slice-in-Obj-Obj-2.ensures.value
    ∙ sym (objects_equal c.in-Obj-Obj.a c.in-Obj-Obj.b c.args.a.now c.args.b.now c.in-Obj-Obj.is-0 c.in-Obj-Obj.is-1)
