use Rattle.std.proofs.Common.{refl, sym, ap, ◌-◌, ◌∷◌, [], length}
use Rattle.std.proofs.lemmas.Result.{err_from_is_err_and}
use Rattle.json_ordered.specs.declared.start.Start.TheVariants as starts
use Rattle.json_ordered.specs.declared.doc.Doc.TheVariants as docs
use Rattle.json_ordered.specs.JsonReading.{Go, Plain, As_value, Before_value, In_word, In_number, In_string}
use Rattle.json_ordered.specs.JsonSteps.{at}
use Rattle.json_ordered.specs.JsonFrames.{in_frames, stack_of}
use Rattle.json_ordered.specs.Docs.{tree_of}
use Rattle.json_ordered.proofs.Docs.{tree_null, tree_bool}
use Rattle.json_ordered.proofs.Frames.{turn_along}
use Rattle.json_ordered.proofs.Enters.{array_byte, object_byte, skips_to, entered, number_entered, nothing, value_early}
use Rattle.std.proofs.Common.{true, false, take, drop}
use Rattle.json_ordered.proofs.values.enter.Goals as goal

pub returns-in_err-byte-clause-steps : goal.returns-in_err-byte-clause-steps
returns-in_err-byte-clause-steps c =
    let p = err_from_is_err_and c.from_residual.result c.from_residual.ensures.1 in
    rw (p.1, p.2, c.in_err-byte.ensures.0) (value_early c.args.stack.now.items c.args.text.now c.after_blanks-text.result.now c.after_blanks-text.ensures c.in_err-byte.ensures.1)

pub returns-in-Array-clause-steps : goal.returns-in-Array-clause-steps
returns-in-Array-clause-steps c = turn_along (in_frames c.args.stack.now.items Before_value) (in_frames c.args.stack.now.items Before_value) c.args.text.now (91 ∷ c.in_ok-byte.rest.now) c.open_array.new.stack.items c.open_array.result
    (skips_to c.args.stack.now.items c.args.text.now c.after_blanks-text.result.now c.in_ok-byte.rest.now c.in_ok-byte.byte c.after_blanks-text.ensures c.in_ok-byte.ensures 91 (array_byte c.in_ok-byte.byte c.in-Array.ensures)) c.open_array.ensures.steps

pub returns-in-Object-clause-steps : goal.returns-in-Object-clause-steps
returns-in-Object-clause-steps c = turn_along (in_frames c.args.stack.now.items Before_value) (in_frames c.args.stack.now.items Before_value) c.args.text.now (123 ∷ c.in_ok-byte.rest.now) c.open_object.new.stack.items c.open_object.result
    (skips_to c.args.stack.now.items c.args.text.now c.after_blanks-text.result.now c.in_ok-byte.rest.now c.in_ok-byte.byte c.after_blanks-text.ensures c.in_ok-byte.ensures 123 (object_byte c.in_ok-byte.byte c.in-Object.ensures)) c.open_object.ensures.steps

pub returns-in-Quote-clause-steps : goal.returns-in-Quote-clause-steps
returns-in-Quote-clause-steps c = turn_along (in_frames c.args.stack.now.items Before_value) (at (128 - length c.args.stack.now.items) (stack_of c.args.stack.now.items) (In_string As_value [] Plain)) c.args.text.now c.in_ok-byte.rest.now c.args.stack.now.items c.string_value.result
    (entered c.args.stack.now.items c.args.text.now c.after_blanks-text.result.now c.in_ok-byte.rest.now c.in_ok-byte.byte c.after_blanks-text.ensures c.in_ok-byte.ensures starts.Quote (In_string As_value [] Plain) c.in-Quote.ensures refl) (c.string_value.ensures.steps (128 - length c.args.stack.now.items) (stack_of c.args.stack.now.items))

pub returns-in-NullWord-clause-steps : goal.returns-in-NullWord-clause-steps
returns-in-NullWord-clause-steps c = turn_along (in_frames c.args.stack.now.items Before_value) (at (128 - length c.args.stack.now.items) (stack_of c.args.stack.now.items) (In_word (117 ∷ 108 ∷ 108 ∷ []) (tree_of docs.Null))) c.args.text.now c.in_ok-byte.rest.now c.args.stack.now.items c.word_value.result
    (entered c.args.stack.now.items c.args.text.now c.after_blanks-text.result.now c.in_ok-byte.rest.now c.in_ok-byte.byte c.after_blanks-text.ensures c.in_ok-byte.ensures starts.NullWord (In_word (117 ∷ 108 ∷ 108 ∷ []) (tree_of docs.Null)) c.in-NullWord.ensures (ap (λ v. Go (at (128 - length c.args.stack.now.items) (stack_of c.args.stack.now.items) (In_word (117 ∷ 108 ∷ 108 ∷ []) v))) (sym tree_null))) (c.word_value.ensures.steps (128 - length c.args.stack.now.items) (stack_of c.args.stack.now.items))

pub returns-in-TrueWord-clause-steps : goal.returns-in-TrueWord-clause-steps
returns-in-TrueWord-clause-steps c = turn_along (in_frames c.args.stack.now.items Before_value) (at (128 - length c.args.stack.now.items) (stack_of c.args.stack.now.items) (In_word (114 ∷ 117 ∷ 101 ∷ []) (tree_of (docs.Bool true)))) c.args.text.now c.in_ok-byte.rest.now c.args.stack.now.items c.word_value-in-TrueWord.result
    (entered c.args.stack.now.items c.args.text.now c.after_blanks-text.result.now c.in_ok-byte.rest.now c.in_ok-byte.byte c.after_blanks-text.ensures c.in_ok-byte.ensures starts.TrueWord (In_word (114 ∷ 117 ∷ 101 ∷ []) (tree_of (docs.Bool true))) c.in-TrueWord.ensures (ap (λ v. Go (at (128 - length c.args.stack.now.items) (stack_of c.args.stack.now.items) (In_word (114 ∷ 117 ∷ 101 ∷ []) v))) (sym (tree_bool true)))) (c.word_value-in-TrueWord.ensures.steps (128 - length c.args.stack.now.items) (stack_of c.args.stack.now.items))

pub returns-in-FalseWord-clause-steps : goal.returns-in-FalseWord-clause-steps
returns-in-FalseWord-clause-steps c = turn_along (in_frames c.args.stack.now.items Before_value) (at (128 - length c.args.stack.now.items) (stack_of c.args.stack.now.items) (In_word (97 ∷ 108 ∷ 115 ∷ 101 ∷ []) (tree_of (docs.Bool false)))) c.args.text.now c.in_ok-byte.rest.now c.args.stack.now.items c.word_value-in-FalseWord.result
    (entered c.args.stack.now.items c.args.text.now c.after_blanks-text.result.now c.in_ok-byte.rest.now c.in_ok-byte.byte c.after_blanks-text.ensures c.in_ok-byte.ensures starts.FalseWord (In_word (97 ∷ 108 ∷ 115 ∷ 101 ∷ []) (tree_of (docs.Bool false))) c.in-FalseWord.ensures (ap (λ v. Go (at (128 - length c.args.stack.now.items) (stack_of c.args.stack.now.items) (In_word (97 ∷ 108 ∷ 115 ∷ 101 ∷ []) v))) (sym (tree_bool false)))) (c.word_value-in-FalseWord.ensures.steps (128 - length c.args.stack.now.items) (stack_of c.args.stack.now.items))

pub returns-in-Number-clause-steps : goal.returns-in-Number-clause-steps
returns-in-Number-clause-steps c = turn_along (in_frames c.args.stack.now.items Before_value) (at (128 - length c.args.stack.now.items) (stack_of c.args.stack.now.items) (In_number c.in-Number.first (take 1 c.after_blanks-text.result.now))) c.args.text.now (drop 1 c.after_blanks-text.result.now) c.args.stack.now.items c.number_value.result
    (number_entered c.args.stack.now.items c.args.text.now c.after_blanks-text.result.now c.in_ok-byte.rest.now c.in_ok-byte.byte c.after_blanks-text.ensures c.in_ok-byte.ensures c.in-Number.first c.in-Number.ensures) (c.number_value.ensures.steps (128 - length c.args.stack.now.items) (stack_of c.args.stack.now.items))

pub returns-in-Nothing-clause-steps : goal.returns-in-Nothing-clause-steps
returns-in-Nothing-clause-steps c = nothing c.args.stack.now.items c.args.text.now c.after_blanks-text.result.now c.in_ok-byte.rest.now c.in_ok-byte.byte c.after_blanks-text.ensures c.in_ok-byte.ensures c.in-Nothing.ensures
