use Rattle.std.proofs.Common.{◌-◌, map, ap, ◌∙◌, arith}
use Rattle.std.proofs.lemmas.List.{map-append}
use Rattle.psr_routes.proofs.SourceRules.{in_order, put_step}
use Rattle.psr_routes.proofs.rows.put_members.Goals as goal

pub bounds-members-order : goal.bounds-members-order
bounds-members-order c = (in_order c.args.members.now c.args.order.now (c.loop-at.at - 1) c.requires (omega arith)).within

pub loop-at-preserved : goal.loop-at-preserved
loop-at-preserved c =
    put_step c.args.members.now c.args.order.now c.loop-at.at _ _ _ c.index-members-order.result c.requires (omega arith) (omega arith) c.index-members-order.is
    (ap (map (λ source. (source.folder.now, source.rules.now))) c.in_ok-push.ensures.items ∙ map-append (λ source. (source.folder.now, source.rules.now)) c.loop-at.sources.items _) c.loop-at.invariant
