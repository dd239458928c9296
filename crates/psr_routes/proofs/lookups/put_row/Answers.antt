use Rattle.std.proofs.Common.{◌≡◌, ◌<◌, length, true, sym, ◌∙◌, take, arith}
use Rattle.path_name.specs.Orders.{bytes_are_equal}
use Rattle.psr_routes.proofs.RowGroups.{put_there}
use Rattle.psr_routes.proofs.lookups.put_row.Goals as goal

pub returns-in_ok-push-clause-each : goal.returns-in_ok-push-clause-each
returns-in_ok-push-clause-each c =
    let prefix = c.args.row.now.prefix in
    let same : c.as_slice-prefix.result.now ≡ prefix = c.as_slice-prefix.ensures in
    let begins : bytes_are_equal prefix (take (length prefix) c.args.name.now) ≡ true = rw same at (sym c.starts_with.ensures.value ∙ c.if-starts_with.true) in
    let below : length prefix < length c.args.groups.now.items = omega (arith, rw same at (c.starts_with.ensures.bound c.if-starts_with.true)) in
    rw same (put_there c.args.groups.now.items c.index_mut.result.now c.push.new.self c.args.row c.args.name.now below (rw same at c.index_mut.ensures.value) c.in_ok-push.ensures.items begins)
