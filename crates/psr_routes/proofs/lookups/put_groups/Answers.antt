use Rattle.std.proofs.Common.{◌≡◌, ◌-◌, ◌≤◌, [], ◌<◌, length, map, sym, ap, ◌∙◌, arith}
use Rattle.std.proofs.lemmas.List.{get_or-map}
use Rattle.psr_routes.specs.Groups.{lent, group_at}
use Rattle.psr_routes.proofs.BegunRows.{Fits, all_lent}
use Rattle.psr_routes.proofs.RowGroups.{group_step}
use Rattle.psr_routes.proofs.lookups.put_groups.Goals as goal
use Rattle.psr_routes.proofs.lookups.put_groups.Goals.{After-as_slice}

here : (c : After-as_slice) → 0 < c.loop-len.len → group_at c.args.groups.now (c.loop-len.len - 1) ≡ map (λ row. row.now) c.as_slice.result.now
here c some =
    get_or-map lent c.args.groups.now (c.loop-len.len - 1) c.index-groups-len.result [] (omega arith) ∙ ap lent (sym c.index-groups-len.is) ∙ ap (map (λ row. row.now)) (sym c.as_slice.ensures.value)

pub put_group-requires-clause-prefixes : goal.put_group-requires-clause-prefixes
put_group-requires-clause-prefixes c =
    let count = c.requires.count in
    let below : c.loop-len.len - 1 ≤ length c.args.name.now = omega (arith, count) in
    all_lent (Fits c.args.name.now) c.as_slice.result.now (rw (here (goal.at.put_group-requires-clause-prefixes c).After-as_slice (omega arith)) at (c.requires.rows (c.loop-len.len - 1) below))

pub loop-len-preserved : goal.loop-len-preserved
loop-len-preserved c =
    group_step c.args.groups.now c.args.name.now c.loop-len.len (map (λ row. row.now) c.as_slice.result.now) c.loop-len.paths.items c.put_group.new.paths.items _ (omega arith)
    (here (goal.at.loop-len-preserved c).After-as_slice (omega arith)) c.in_ok-put_group.ensures c.loop-len.invariant
