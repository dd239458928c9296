use Rattle.std.proofs.Common.{◌≡◌, ◌-◌, ◌≤◌, [], length, map, sym, ap, ◌∙◌, arith}
use Rattle.std.proofs.lemmas.List.{get_or-map}
use Rattle.class_lookup.specs.Groups.{rows_of, group_at}
use Rattle.class_lookup.proofs.Prefixes.{Fits, all_lent}
use Rattle.class_lookup.proofs.tried.put_groups.Goals as goal

pub put_group-requires-clause-rows : goal.put_group-requires-clause-rows
put_group-requires-clause-rows c =
    let at = c.loop-len.len - 1 in
    let count = c.requires.count in
    let below : c.loop-len.len - 1 ≤ length c.args.name.now = omega (arith, count) in
    let here : group_at c.args.groups.now at ≡ map (λ row. row.now) c.as_slice.result.now =
    get_or-map rows_of c.args.groups.now at c.index-groups-len.result [] (omega arith) ∙ ap rows_of (sym c.index-groups-len.is) ∙ ap (map (λ row. row.now)) (sym c.as_slice.ensures.value) in
    all_lent (Fits c.args.name.now) c.as_slice.result.now (rw here at (c.requires.rows at below))
