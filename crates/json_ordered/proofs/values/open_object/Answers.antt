use Rattle.std.proofs.Common.{sym, ap, ◌∙◌, [], arith, map}
use Rattle.std.proofs.lemmas.Result.{err_from_is_err_and}
use Rattle.json_ordered.specs.declared.frame.Frame.TheVariants as frame
use Rattle.json_ordered.specs.JsonTree.{object_of, put_all}
use Rattle.json_ordered.specs.JsonReading.{In_object, Before_value, read_from}
use Rattle.json_ordered.specs.JsonFrames.{stack_of}
use Rattle.json_ordered.specs.Docs.{pair_of}
use Rattle.json_ordered.proofs.Docs.{tree_obj}
use Rattle.json_ordered.proofs.Escapes.{fails_along}
use Rattle.json_ordered.proofs.Frames.{in_push, closed_to, inner, object_deep, object_open, object_early, object_closed, object_first}
use Rattle.json_ordered.proofs.values.open_object.Goals as goal

pub returns-then-len-ge-LEVELS-clause-steps : goal.returns-then-len-ge-LEVELS-clause-steps
returns-then-len-ge-LEVELS-clause-steps c = object_deep c.args.stack.now.items c.args.text.now c.args.left (omega (arith, c.args.stack.now.ok.0)) c.requires

pub returns-in_err-byte-clause-steps : goal.returns-in_err-byte-clause-steps
returns-in_err-byte-clause-steps c =
    let p = err_from_is_err_and c.from_residual.result c.from_residual.ensures.1 in
    rw (p.1, p.2, c.in_err-byte.ensures.0) (object_open c.args.stack.now.items c.args.text.now c.after_blanks-text.result.now (omega (arith, c.args.stack.now.ok.0)) c.after_blanks-text.ensures
    ∙ object_early (inner c.args.stack.now.items) (stack_of c.args.stack.now.items) c.after_blanks-text.result.now c.in_err-byte.ensures.1)

pub returns-then-byte-eq125-clause-steps : goal.returns-then-byte-eq125-clause-steps
returns-then-byte-eq125-clause-steps c = object_open c.args.stack.now.items c.args.text.now c.after_blanks-text.result.now (omega (arith, c.args.stack.now.ok.0)) c.after_blanks-text.ensures
    ∙ object_closed (inner c.args.stack.now.items) (stack_of c.args.stack.now.items) c.after_blanks-text.result.now c.in_ok-byte.rest.now c.in_ok-byte.byte c.in_ok-byte.ensures c.if-byte-eq125.true
    ∙ closed_to c.args.stack.now.items (object_of []) _ c.in_ok-byte.rest.now (omega (arith, c.args.stack.now.ok.0)) (sym (tree_obj c.new.result ∙ ap (λ ms. object_of (map pair_of ms)) c.new.ensures.items))

pub returns-in_err-name-clause-steps : goal.returns-in_err-name-clause-steps
returns-in_err-name-clause-steps c =
    let p = err_from_is_err_and c.from_residual-in_err-name.result c.from_residual-in_err-name.ensures.1 in
    rw (p.1, p.2) (fails_along c.in_err-name.field-0.0 _ _ (object_open c.args.stack.now.items c.args.text.now c.after_blanks-text.result.now (omega (arith, c.args.stack.now.ok.0)) c.after_blanks-text.ensures
    ∙ object_first (inner c.args.stack.now.items) (stack_of c.args.stack.now.items) c.after_blanks-text.result.now c.in_ok-byte.rest.now c.in_ok-byte.byte c.in_ok-byte.ensures c.after_blanks-text.ensures.stops c.if-byte-eq125.false) (c.in_err-name.ensures.steps (inner c.args.stack.now.items) (stack_of c.args.stack.now.items) []))

pub returns-clause-steps : goal.returns-clause-steps
returns-clause-steps c = object_open c.args.stack.now.items c.args.text.now c.after_blanks-text.result.now (omega (arith, c.args.stack.now.ok.0)) c.after_blanks-text.ensures
    ∙ object_first (inner c.args.stack.now.items) (stack_of c.args.stack.now.items) c.after_blanks-text.result.now c.in_ok-byte.rest.now c.in_ok-byte.byte c.in_ok-byte.ensures c.after_blanks-text.ensures.stops c.if-byte-eq125.false
    ∙ c.in_ok-name.ensures.steps (inner c.args.stack.now.items) (stack_of c.args.stack.now.items) []
    ∙ ap (λ s. read_from s c.in_ok-name.rest.now) (sym (in_push c.args.stack.now.items c.push.new.self.items (frame.Object c.members-empty.result c.in_ok-name.name) (In_object [] c.in_ok-name.name.items) Before_value c.in_ok-push.ensures.items (ap (λ ms. In_object (put_all [] (map pair_of ms)) c.in_ok-name.name.items) c.members-empty.ensures)))
