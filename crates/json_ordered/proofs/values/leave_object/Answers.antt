use Rattle.std.proofs.Common.{sym, ap, ◌∙◌, map}
use Rattle.std.proofs.lemmas.Result.{err_from_is_err_and}
use Rattle.json_ordered.specs.declared.frame.Frame.TheVariants as frame
use Rattle.json_ordered.specs.JsonTree.{object_of, put}
use Rattle.json_ordered.specs.JsonReading.{In_object, Before_value, read_from}
use Rattle.json_ordered.specs.JsonFrames.{stack_of}
use Rattle.json_ordered.specs.Docs.{pair_of}
use Rattle.json_ordered.proofs.Docs.{tree_obj}
use Rattle.json_ordered.proofs.Escapes.{fails_along}
use Rattle.json_ordered.proofs.Frames.{in_push, closed_to, inner, behind_early, object_comma, object_end, object_bad}
use Rattle.json_ordered.proofs.values.leave_object.Goals as goal

pub returns-in_err-byte-clause-steps : goal.returns-in_err-byte-clause-steps
returns-in_err-byte-clause-steps c =
    let p = err_from_is_err_and c.from_residual.result c.from_residual.ensures.1 in
    rw (p.1, p.2, c.in_err-byte.ensures.0) (λ done name v is. behind_early c.args.stack.now.items c.args.text.now c.after_blanks-text.result.now c.after_blanks-text.ensures (In_object done name) v c.in_err-byte.ensures.1)

pub returns-in_err-name-clause-steps : goal.returns-in_err-name-clause-steps
returns-in_err-name-clause-steps c = λ done name v is.
    let p = err_from_is_err_and c.from_residual-in_err-name.result c.from_residual-in_err-name.ensures.1 in
    rw (p.1, p.2) (fails_along c.in_err-name.field-0.0 _ _ (object_comma c.args.stack.now.items c.args.text.now c.after_blanks-text.result.now c.after_blanks-text.ensures done name v c.in_ok-byte.byte c.in_ok-byte.rest.now c.in_ok-byte.ensures c.if-byte-eq44.true) (c.in_err-name.ensures.steps (inner c.args.stack.now.items) (stack_of c.args.stack.now.items) (put done name v)))

pub returns-then-byte-eq44-clause-steps : goal.returns-then-byte-eq44-clause-steps
returns-then-byte-eq44-clause-steps c = λ done name v is. object_comma c.args.stack.now.items c.args.text.now c.after_blanks-text.result.now c.after_blanks-text.ensures done name v c.in_ok-byte.byte c.in_ok-byte.rest.now c.in_ok-byte.ensures c.if-byte-eq44.true
    ∙ c.in_ok-name.ensures.steps (inner c.args.stack.now.items) (stack_of c.args.stack.now.items) (put done name v)
    ∙ ap (λ s. read_from s c.in_ok-name.rest.now) (sym (in_push c.args.stack.now.items c.push.new.self.items (frame.Object c.args.members c.in_ok-name.name) (In_object (put done name v) c.in_ok-name.name.items) Before_value c.in_ok-push.ensures.items (ap (λ ms. In_object ms c.in_ok-name.name.items) is)))

pub returns-then-byte-ne125-clause-steps : goal.returns-then-byte-ne125-clause-steps
returns-then-byte-ne125-clause-steps c = λ done name v is. object_bad c.args.stack.now.items c.args.text.now c.after_blanks-text.result.now c.after_blanks-text.ensures done name v c.in_ok-byte.byte c.in_ok-byte.rest.now c.in_ok-byte.ensures c.if-byte-eq44.false c.if-byte-ne125.true

pub returns-clause-steps : goal.returns-clause-steps
returns-clause-steps c = λ done name v is. object_end c.args.stack.now.items c.args.text.now c.after_blanks-text.result.now c.after_blanks-text.ensures done name v c.in_ok-byte.byte c.in_ok-byte.rest.now c.in_ok-byte.ensures c.if-byte-ne125.false
    ∙ closed_to c.args.stack.now.items (object_of (put done name v)) _ c.in_ok-byte.rest.now c.requires (sym (tree_obj c.in_ok-all_members.field-0 ∙ ap (λ ms. object_of (map pair_of ms)) c.in_ok-all_members.ensures.ok ∙ ap object_of (c.in_ok-all.ensures.ok ∙ is)))
