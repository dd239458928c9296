use Rattle.std.proofs.Common.{◌≡◌, ◌++◌, map, drop, sym, ap, subst, ◌∙◌, OnOk, suc, add-one}
use Rattle.json_ordered.specs.JsonTree.{JsonTree, object_of}
use Rattle.json_ordered.specs.Docs.{tree_of, pair_of}
use Rattle.json_ordered.specs.JsonTexts.{compact_string, compact_text}
use Rattle.json_ordered.specs.JsonPrinting.{comma, compact_from_item, compact_from_value, compact_from_member}
use Rattle.json_ordered.proofs.Docs.{tree_obj}
use Rattle.json_ordered.proofs.Entries.{next_item, next_value, next_member, added, added_member}
use Rattle.json_ordered.proofs.Printed.{items_closed, values_closed, members_closed, as_values, as_members}
use Rattle.json_ordered.proofs.hash_form.+compact.Goals as goal

pub add_value-returns-in-Obj : goal.add_value-returns-in-Obj
add_value-returns-in-Obj t c = subst (λ (v : JsonTree). OnOk c.add_object.result (c.add_object.new.out.items ≡ c.args.out.now.items ++ compact_text v))
    (ap (λ x. object_of (map pair_of x)) c.as_slice-in-Obj.ensures.value ∙ sym (ap tree_of c.in-Obj.is ∙ tree_obj c.in-Obj.members))
    c.add_object.ensures

pub add_items-returns : goal.add_items-returns
add_items-returns t c = c.in_ok-push-2.ensures.items ∙ items_closed c.args.out.now.items c.loop-i.out.items c.loop-i.i c.args.items.now c.loop-i-test.false c.loop-i.invariant

pub add_items-loop-i-preserved : goal.add_items-loop-i-preserved
add_items-loop-i-preserved t c = rw add-one (added c.loop-i.out.items c.add_value.new.out.items (comma c.loop-i.i) (compact_text (tree_of c.index-items-i.result)) (compact_from_item (suc c.loop-i.i) (map tree_of (drop (suc c.loop-i.i) c.args.items.now))) _ _
    c.loop-i.invariant (next_item c.loop-i.i c.args.items.now c.index-items-i.result c.loop-i-test.true c.index-items-i.is)
    (c.in_ok-add_value.ensures ∙ ap (λ x. x ++ compact_text (tree_of c.index-items-i.result)) c.in_ok-add_comma.ensures))

pub add_object-returns-else-are_places : goal.add_object-returns-else-are_places
add_object-returns-else-are_places t c = rw (as_members (map pair_of c.args.members.now) (sym c.are_places.ensures ∙ c.if-are_places.false)) c.add_members.ensures

pub add_object-returns-then-are_places : goal.add_object-returns-then-are_places
add_object-returns-then-are_places t c = rw (as_values (map pair_of c.args.members.now) (sym c.are_places.ensures ∙ c.if-are_places.true)) c.add_values.ensures

pub add_values-returns : goal.add_values-returns
add_values-returns t c = c.in_ok-push-2.ensures.items ∙ values_closed c.args.out.now.items c.loop-i.out.items c.loop-i.i c.args.members.now c.loop-i-test.false c.loop-i.invariant

pub add_values-loop-i-preserved : goal.add_values-loop-i-preserved
add_values-loop-i-preserved t c = rw add-one (added c.loop-i.out.items c.add_value.new.out.items (comma c.loop-i.i) (compact_text (tree_of c.index-members-i.result.1)) (compact_from_value (suc c.loop-i.i) (map pair_of (drop (suc c.loop-i.i) c.args.members.now))) _ _
    c.loop-i.invariant (next_value c.loop-i.i c.args.members.now c.index-members-i.result c.loop-i-test.true c.index-members-i.is)
    (c.in_ok-add_value.ensures ∙ ap (λ x. x ++ compact_text (tree_of c.index-members-i.result.1)) c.in_ok-add_comma.ensures))

pub add_members-returns : goal.add_members-returns
add_members-returns t c = c.in_ok-push-3.ensures.items ∙ members_closed c.args.out.now.items c.loop-i.out.items c.loop-i.i c.args.members.now c.loop-i-test.false c.loop-i.invariant

pub add_members-loop-i-preserved : goal.add_members-loop-i-preserved
add_members-loop-i-preserved t c = rw add-one (added_member c.loop-i.out.items c.add_value.new.out.items (comma c.loop-i.i) (compact_string c.index-members-i.result.0) (compact_text (tree_of c.index-members-i.result.1)) (compact_from_member (suc c.loop-i.i) (map pair_of (drop (suc c.loop-i.i) c.args.members.now))) _ _ c.add_comma.new.out.items c.add_string.new.out.items c.push-in-loop-i.new.self.items
    c.loop-i.invariant (next_member c.loop-i.i c.args.members.now c.index-members-i.result c.loop-i-test.true c.index-members-i.is)
    c.in_ok-add_comma.ensures (c.in_ok-add_string.ensures ∙ ap (λ x. c.add_comma.new.out.items ++ compact_string x) c.as_slice.ensures) c.in_ok-push-2.ensures.items c.in_ok-add_value.ensures)
