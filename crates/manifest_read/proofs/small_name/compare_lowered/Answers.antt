use Rattle.std.proofs.Common.{◌+◌, ◌∷◌, drop, get_or, sym, ap, ◌∙◌}
use Rattle.std.proofs.lemmas.List.{drop_more, nil_from_length}
use Rattle.path_name.specs.Bytes.{lowered}
use Rattle.path_name.specs.Orders.{byte_cmp}
use Rattle.manifest_read.proofs.small_name.compare_lowered.Goals as goal

-- the second text is at its end, and the first one is not
pub returns-in_default : goal.returns-in_default
returns-in_default c =
    let a = c.args.a.now in
    let i = c.loop-byte.byte-index in
    sym (ap (λ t. byte_cmp (lowered t) (lowered c.loop-byte.rest.now)) (drop_more a i 0 c.loop-byte-test.true)
    ∙ ap (λ t. byte_cmp (lowered (get_or a i 0 ∷ drop (i + 1) a)) (lowered t)) (nil_from_length c.loop-byte.rest.now c.in_default.ensures.cases)) ∙ c.loop-byte.invariant
