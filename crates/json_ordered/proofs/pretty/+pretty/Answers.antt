use Rattle.std.proofs.Common.{◌≡◌, suc, [], ◌∷◌, ◌++◌, map, drop, length, take, ◌-◌, sym, ap, subst, ◌∙◌, OnOk, add-one, rules}
use Rattle.json_ordered.specs.JsonTree.{JsonTree, object_of}
use Rattle.json_ordered.specs.Docs.{tree_of, pair_of}
use Rattle.json_ordered.specs.JsonTexts.{pretty_string, pretty_at, deeper}
use Rattle.json_ordered.specs.JsonPrinting.{comma, pretty_from_item, pretty_from_member}
use Rattle.json_ordered.proofs.Docs.{tree_obj}
use Rattle.json_ordered.proofs.Entries.{next_item_line, next_member_line, added_line, added_named_line}
use Rattle.json_ordered.proofs.Printed.{back_out, none_there, some_there, array_closed, object_closed, empty_array, empty_object}
use Rattle.json_ordered.proofs.pretty.+pretty.Goals as goal

pub add_value-returns-in-Obj-clause-text : goal.add_value-returns-in-Obj-clause-text
add_value-returns-in-Obj-clause-text t c = subst (λ (v : JsonTree). OnOk c.add_object.result (c.add_object.new.out.items ≡ c.args.out.now.items ++ pretty_at c.args.line.now.items v))
    (ap (λ x. object_of (map pair_of x)) c.as_slice-in-Obj.ensures.value ∙ sym (ap tree_of c.in-Obj.is ∙ tree_obj c.in-Obj.members))
    c.add_object.ensures.text

pub add_array-returns-then-is_empty-clause-text : goal.add_array-returns-then-is_empty-clause-text
add_array-returns-then-is_empty-clause-text t c = rw (empty_array c.args.line.now.items c.args.items.now (none_there (length c.args.items.now) c.is_empty.result c.is_empty.ensures c.if-is_empty.true)) (search rules)

pub add_object-returns-then-is_empty-clause-text : goal.add_object-returns-then-is_empty-clause-text
add_object-returns-then-is_empty-clause-text t c = rw (empty_object c.args.line.now.items c.args.members.now (none_there (length c.args.members.now) c.is_empty.result c.is_empty.ensures c.if-is_empty.true)) (search rules)

pub add_array-returns-clause-text : goal.add_array-returns-clause-text
add_array-returns-clause-text t c = c.in_ok-push-2.ensures.items
    ∙ ap (λ x. x ++ 93 ∷ []) (c.in_ok-extend_from_slice-3.ensures.items ∙ ap (λ x. c.loop-i.out.items ++ x) (c.as_slice-2.ensures.value ∙ c.truncate.ensures.items
    ∙ ap (λ n. take (n - 4) c.loop-i.line.items) (c.len.ensures ∙ c.loop-i.line.ok.0) ∙ ap (λ x. take (length x - 4) x) c.loop-i.invariant.line ∙ back_out c.args.line.now.items))
    ∙ array_closed c.args.out.now.items c.loop-i.out.items c.args.line.now.items c.loop-i.i c.args.items.now (some_there (length c.args.items.now) c.is_empty.result c.is_empty.ensures c.if-is_empty.false) c.loop-i-test.false c.loop-i.invariant.text

pub add_object-returns-clause-text : goal.add_object-returns-clause-text
add_object-returns-clause-text t c = c.in_ok-push-2.ensures.items
    ∙ ap (λ x. x ++ 125 ∷ []) (c.in_ok-extend_from_slice-4.ensures.items ∙ ap (λ x. c.loop-i.out.items ++ x) (c.as_slice-2.ensures.value ∙ c.truncate.ensures.items
    ∙ ap (λ n. take (n - 4) c.loop-i.line.items) (c.len.ensures ∙ c.loop-i.line.ok.0) ∙ ap (λ x. take (length x - 4) x) c.loop-i.invariant.line ∙ back_out c.args.line.now.items))
    ∙ object_closed c.args.out.now.items c.loop-i.out.items c.args.line.now.items c.loop-i.i c.args.members.now (some_there (length c.args.members.now) c.is_empty.result c.is_empty.ensures c.if-is_empty.false) c.loop-i-test.false c.loop-i.invariant.text

pub add_array-loop-i-preserved : goal.add_array-loop-i-preserved
add_array-loop-i-preserved t c = record {
  text = rw add-one (added_line c.loop-i.out.items c.add_value.new.out.items (comma c.loop-i.i) (deeper c.args.line.now.items) (pretty_at (deeper c.args.line.now.items) (tree_of c.index-items-i.result)) (pretty_from_item (deeper c.args.line.now.items) (suc c.loop-i.i) (map tree_of (drop (suc c.loop-i.i) c.args.items.now))) _ _ c.add_comma.new.out.items c.extend_from_slice-in-loop-i.new.self.items
      c.loop-i.invariant.text (next_item_line (deeper c.args.line.now.items) c.loop-i.i c.args.items.now c.index-items-i.result c.loop-i-test.true c.index-items-i.is)
      c.in_ok-add_comma.ensures
      (c.in_ok-extend_from_slice-2.ensures.items ∙ ap (λ x. c.add_comma.new.out.items ++ x) (c.as_slice.ensures.value ∙ c.loop-i.invariant.line))
      (c.in_ok-add_value.ensures.text ∙ ap (λ x. c.extend_from_slice-in-loop-i.new.self.items ++ pretty_at x (tree_of c.index-items-i.result)) c.loop-i.invariant.line));
  line = c.in_ok-add_value.ensures.line ∙ c.loop-i.invariant.line;
}

pub add_object-loop-i-preserved : goal.add_object-loop-i-preserved
add_object-loop-i-preserved t c = record {
  text = rw add-one (added_named_line c.loop-i.out.items c.add_value.new.out.items (comma c.loop-i.i) (deeper c.args.line.now.items) (pretty_string c.index-members-i.result.0) (pretty_at (deeper c.args.line.now.items) (tree_of c.index-members-i.result.1)) (pretty_from_member (deeper c.args.line.now.items) (suc c.loop-i.i) (map pair_of (drop (suc c.loop-i.i) c.args.members.now))) _ _ c.add_comma.new.out.items c.extend_from_slice-in-loop-i.new.self.items c.add_string.new.out.items c.extend_from_slice-in-loop-i-2.new.self.items
      c.loop-i.invariant.text (next_member_line (deeper c.args.line.now.items) c.loop-i.i c.args.members.now c.index-members-i.result c.loop-i-test.true c.index-members-i.is)
      c.in_ok-add_comma.ensures
      (c.in_ok-extend_from_slice-2.ensures.items ∙ ap (λ x. c.add_comma.new.out.items ++ x) (c.as_slice.ensures.value ∙ c.loop-i.invariant.line))
      (c.in_ok-add_string.ensures ∙ ap (λ x. c.extend_from_slice-in-loop-i.new.self.items ++ pretty_string x) c.as_slice-in-loop-i.ensures)
      c.in_ok-extend_from_slice-3.ensures.items
      (c.in_ok-add_value.ensures.text ∙ ap (λ x. c.extend_from_slice-in-loop-i-2.new.self.items ++ pretty_at x (tree_of c.index-members-i.result.1)) c.loop-i.invariant.line));
  line = c.in_ok-add_value.ensures.line ∙ c.loop-i.invariant.line;
}
