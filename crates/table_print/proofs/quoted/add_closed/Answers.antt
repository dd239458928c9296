use Rattle.std.proofs.Common.{◌++◌, ◌∷◌, [], ap, ◌∙◌}
use Rattle.std.proofs.lemmas.List.{nil_from_length}
use Rattle.table_print.proofs.Escapes.{one_more, at_end}
use Rattle.table_print.proofs.quoted.add_closed.Goals as goal

pub returns : goal.returns
returns c = at_end c.loop-byte.out.items c.push.new.self.items c.args.out.now.items c.args.text.now c.plain_run.result.0.now c.plain_run.result.1.now c.loop-byte.rest.now c.loop-byte.invariant c.plain_run.ensures.kept
    (nil_from_length c.plain_run.result.1.now c.in_default.ensures.cases) (c.in_ok-push.ensures.items ∙ ap (λ t. t ++ 39 ∷ []) c.in_ok-extend_from_slice.ensures.items)

pub loop-byte-preserved : goal.loop-byte-preserved
loop-byte-preserved c = one_more c.loop-byte.out.items c.extend_from_slice-in-loop-byte.new.self.items _ c.plain_run.result.0.now c.plain_run.result.1.now c.loop-byte.rest.now c.in-Some.after.now c.in-Some.byte.now c.loop-byte.invariant c.plain_run.ensures.kept
    c.plain_run.ensures.stops c.in-Some.ensures.cases.0 (c.in_ok-extend_from_slice-2.ensures.items ∙ ap (λ t. t ++ 92 ∷ c.in-Some.byte.now ∷ []) c.in_ok-extend_from_slice.ensures.items)
