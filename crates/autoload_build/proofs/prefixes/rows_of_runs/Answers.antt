use Rattle.std.proofs.Common.{drop, length, ap, sym, subst, ◌∙◌, arith}
use Rattle.std.proofs.lemmas.List.{drop-drop, drop_all, length-drop}
use Rattle.autoload_build.proofs.PrefixRows.{IsBuilt, ends, run_put, starts}
use Rattle.autoload_build.proofs.prefixes.rows_of_runs.Goals as goal

pub loop-at-init : goal.loop-at-init
loop-at-init c = record {
  within = omega arith;
  built = λ before is. starts before c.args.routes.now _ is c.new-table.ensures.items;
}

pub loop-at-preserved : goal.loop-at-preserved
loop-at-preserved c =
    let routes = c.args.routes.now in
    let back = c.split_at.ensures.back in
    record {
      within = omega (arith, c.in_ok-len.ensures.within, ap length back, length-drop c.loop-at.at routes);
      built = λ before is.
          subst (λ list. IsBuilt before list c.put_run.new.table.items) (ap (drop c.in_ok-len.len) back ∙ drop-drop c.in_ok-len.len c.loop-at.at routes)
          (run_put before c.split_at.result.1.now c.loop-at.table.items c.put_run.new.table.items c.in_ok-len.len (omega (arith, ap length back, length-drop c.loop-at.at routes)) c.in_ok-len.ensures.run
          (subst (λ list. IsBuilt before list c.loop-at.table.items) (sym back) (c.loop-at.invariant.built before is)));
    }

pub returns : goal.returns
returns c = λ before is. ends before (drop c.loop-at.at c.args.routes.now) c.loop-at.table.items (c.loop-at.invariant.built before is) (drop_all c.loop-at.at c.args.routes.now (omega arith))
