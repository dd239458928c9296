use Rattle.std.proofs.Common.{map, ◌≡◌}
use Rattle.std.proofs.lemmas.Result.{IfOk-weaker}
use Rattle.lock_file.specs.PlanLocks.{row_of, AreFlagRows}
use Rattle.lock_file.proofs.FlagRows.{are_rows}
use Rattle.lock_file.proofs.plan_lock.flag_rows.Goals as goal

pub returns : goal.returns
returns c =
    let root = c.args.root.now in
    IfOk-weaker c.rows_of.result (λ rows. rows ≡ map row_of c.by_name.result.now.entries) (AreFlagRows root)
    (λ rows is. are_rows root c.by_name.result.now.entries rows is c.rows_of.ensures.ordered (c.by_name.ensures root c.in_ok-flags.ensures)) c.rows_of.ensures.rows
