use Rattle.std.proofs.Common.{sym, ap, ◌∙◌, [], arith, map}
use Rattle.std.proofs.lemmas.Result.{err_from_is_err_and}
use Rattle.json_ordered.specs.declared.frame.Frame.TheVariants as frame
use Rattle.json_ordered.specs.JsonTree.{array_of}
use Rattle.json_ordered.specs.JsonReading.{In_array, Before_value, read_from}
use Rattle.json_ordered.specs.JsonFrames.{stack_of}
use Rattle.json_ordered.specs.Docs.{tree_of}
use Rattle.json_ordered.proofs.Docs.{tree_list}
use Rattle.json_ordered.proofs.Frames.{in_push, closed_to, inner, array_deep, array_open, array_early, array_closed, array_first}
use Rattle.json_ordered.proofs.values.open_array.Goals as goal

pub returns-then-len-ge-LEVELS-clause-steps : goal.returns-then-len-ge-LEVELS-clause-steps
returns-then-len-ge-LEVELS-clause-steps c = array_deep c.args.stack.now.items c.args.text.now c.args.left (omega (arith, c.args.stack.now.ok.0)) c.requires

pub returns-in_err-byte-clause-steps : goal.returns-in_err-byte-clause-steps
returns-in_err-byte-clause-steps c =
    let p = err_from_is_err_and c.from_residual.result c.from_residual.ensures.1 in
    rw (p.1, p.2, c.in_err-byte.ensures.0) (array_open c.args.stack.now.items c.args.text.now c.after_blanks-text.result.now (omega (arith, c.args.stack.now.ok.0)) c.after_blanks-text.ensures
    ∙ array_early (inner c.args.stack.now.items) (stack_of c.args.stack.now.items) c.after_blanks-text.result.now c.in_err-byte.ensures.1)

pub returns-then-byte-eq93-clause-steps : goal.returns-then-byte-eq93-clause-steps
returns-then-byte-eq93-clause-steps c = array_open c.args.stack.now.items c.args.text.now c.after_blanks-text.result.now (omega (arith, c.args.stack.now.ok.0)) c.after_blanks-text.ensures
    ∙ array_closed (inner c.args.stack.now.items) (stack_of c.args.stack.now.items) c.after_blanks-text.result.now c.in_ok-byte.rest.now c.in_ok-byte.byte c.in_ok-byte.ensures c.if-byte-eq93.true
    ∙ closed_to c.args.stack.now.items (array_of []) _ c.in_ok-byte.rest.now (omega (arith, c.args.stack.now.ok.0)) (sym (tree_list c.new.result ∙ ap (λ vs. array_of (map tree_of vs)) c.new.ensures.items))

pub returns-clause-steps : goal.returns-clause-steps
returns-clause-steps c = array_open c.args.stack.now.items c.args.text.now c.after_blanks-text.result.now (omega (arith, c.args.stack.now.ok.0)) c.after_blanks-text.ensures
    ∙ array_first (inner c.args.stack.now.items) (stack_of c.args.stack.now.items) c.after_blanks-text.result.now c.in_ok-byte.rest.now c.in_ok-byte.byte c.in_ok-byte.ensures c.after_blanks-text.ensures.stops c.if-byte-eq93.false
    ∙ ap (λ s. read_from s c.after_blanks-text.result.now) (sym (in_push c.args.stack.now.items c.push.new.self.items (frame.Array c.items-empty.result) (In_array []) Before_value c.in_ok-push.ensures.items (ap (λ vs. In_array (map tree_of vs)) c.items-empty.ensures)))
