use Rattle.std.proofs.Common.{◌∙◌, arith}
use Rattle.table_scan.proofs.KeyOrder.{one_more_key, keys_distinct}
use Rattle.table_scan.proofs.repeats.are_distinct.Goals as goal

pub loop-row-preserved : goal.loop-row-preserved
loop-row-preserved g c = one_more_key g.R.Keyed.key_of c.args.rows.now c.loop-row.row-index c.row-item.result c.loop-row.keys.items c.push.new.self.items c.as_slice-key.result c.loop-row-test.true c.row-item.is (c.as_slice-key.ensures ∙ c.key.ensures) c.in_ok-push.ensures.items c.loop-row.invariant

pub returns : goal.returns
returns g c = keys_distinct g.R.Keyed.key_of c.args.rows.now c.loop-row.row-index c.loop-row.keys.items c.sort_unstable.new.self.items c.as_slice-sorted.result.now c.rise.result (omega (arith, c.loop-row-test.false)) c.loop-row.invariant c.sort_unstable.ensures.permutation c.as_slice-sorted.ensures.value c.rise.ensures
