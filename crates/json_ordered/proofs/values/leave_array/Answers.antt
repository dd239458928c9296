use Rattle.std.proofs.Common.{sym, ap, ◌∙◌, ◌∷◌, [], ◌++◌, map}
use Rattle.std.proofs.lemmas.Result.{err_from_is_err_and}
use Rattle.json_ordered.specs.declared.frame.Frame.TheVariants as frame
use Rattle.json_ordered.specs.JsonTree.{array_of}
use Rattle.json_ordered.specs.JsonReading.{In_array, Before_value, read_from}
use Rattle.json_ordered.specs.Docs.{tree_of}
use Rattle.json_ordered.proofs.Docs.{tree_list}
use Rattle.json_ordered.proofs.Frames.{in_push, closed_to, behind_early, array_comma, array_end, array_bad}
use Rattle.json_ordered.proofs.values.leave_array.Goals as goal

pub returns-in_err-byte-clause-steps : goal.returns-in_err-byte-clause-steps
returns-in_err-byte-clause-steps c =
    let p = err_from_is_err_and c.from_residual.result c.from_residual.ensures.1 in
    rw (p.1, p.2, c.in_err-byte.ensures.0) (λ done v is. behind_early c.args.stack.now.items c.args.text.now c.after_blanks-text.result.now c.after_blanks-text.ensures (In_array done) v c.in_err-byte.ensures.1)

pub returns-then-byte-eq44-clause-steps : goal.returns-then-byte-eq44-clause-steps
returns-then-byte-eq44-clause-steps c = λ done v is. array_comma c.args.stack.now.items c.args.text.now c.after_blanks-text.result.now c.after_blanks-text.ensures done v c.in_ok-byte.byte c.in_ok-byte.rest.now c.in_ok-byte.ensures c.if-byte-eq44.true
    ∙ ap (λ s. read_from s c.in_ok-byte.rest.now) (sym (in_push c.args.stack.now.items c.push.new.self.items (frame.Array c.args.items) (In_array (done ++ v ∷ [])) Before_value c.in_ok-push.ensures.items (ap In_array is)))

pub returns-then-byte-ne93-clause-steps : goal.returns-then-byte-ne93-clause-steps
returns-then-byte-ne93-clause-steps c = λ done v is. array_bad c.args.stack.now.items c.args.text.now c.after_blanks-text.result.now c.after_blanks-text.ensures done v c.in_ok-byte.byte c.in_ok-byte.rest.now c.in_ok-byte.ensures c.if-byte-eq44.false c.if-byte-ne93.true

pub returns-clause-steps : goal.returns-clause-steps
returns-clause-steps c = λ done v is. array_end c.args.stack.now.items c.args.text.now c.after_blanks-text.result.now c.after_blanks-text.ensures done v c.in_ok-byte.byte c.in_ok-byte.rest.now c.in_ok-byte.ensures c.if-byte-ne93.false
    ∙ closed_to c.args.stack.now.items (array_of (done ++ v ∷ [])) _ c.in_ok-byte.rest.now c.requires (sym (tree_list c.in_ok-all_items.field-0 ∙ ap (λ vs. array_of (map tree_of vs)) c.in_ok-all_items.ensures.ok ∙ ap array_of is))
