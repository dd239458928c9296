use Rattle.std.proofs.Common.{ℕ, List, Ok, Err, sym, subst}
use Rattle.install_commands.specs.Commanded.{Commanded}
use Rattle.composer_top.specs.Outcome.Dump.{IsDumpWork}
use Rattle.composer_top.proofs.Changing.{told_change}
use Rattle.composer_top.proofs.runner.dumped.Goals as goal

pub returns-in-Ok-clause-told : goal.returns-in-Ok-clause-told
returns-in-Ok-clause-told g c = λ t told.
    let work = IsDumpWork c.args.project.now c.args.ways.now in
    told_change work c.args.project.now t (g.T.Tree.meaning c.args.tree.now) (g.T.Tree.meaning c.dump_autoload.new.tree) (Ok c.plain.result) c.plain.ensures.end
    (subst (λ (lines : List ℕ). Commanded work c.args.project.now t (g.T.Tree.meaning c.args.tree.now) (g.T.Tree.meaning c.dump_autoload.new.tree) (Ok lines)) (sym c.plain.ensures.lines)
    (c.in-Ok.ensures.commanded t told))

pub returns-in-Err-clause-told : goal.returns-in-Err-clause-told
returns-in-Err-clause-told g c = λ t told.
    told_change (IsDumpWork c.args.project.now c.args.ways.now) c.args.project.now t (g.T.Tree.meaning c.args.tree.now) (g.T.Tree.meaning c.dump_autoload.new.tree) (Err c.in-Err.refusal) tt
    (c.in-Err.ensures.commanded t told)

pub returns-in-Ok-clause-dump : goal.returns-in-Ok-clause-dump
returns-in-Ok-clause-dump g c = record {
  changes = record {
    commanded = λ t told.
        subst (λ (lines : List ℕ). Commanded (IsDumpWork c.args.project.now c.args.ways.now) c.args.project.now t (g.T.Tree.meaning c.args.tree.now) (g.T.Tree.meaning c.dump_autoload.new.tree) (Ok lines))
        (sym c.plain.ensures.lines) (c.in-Ok.ensures.commanded t told);
    device = λ failed. absurd cc;
  };
  ends_well = c.plain.ensures.end;
  few_writes = c.in-Ok.ensures.few_writes;
}

pub returns-in-Err-clause-dump : goal.returns-in-Err-clause-dump
returns-in-Err-clause-dump g c = record {
  changes = record { commanded = c.in-Err.ensures.commanded; device = c.in-Err.ensures.device };
  ends_well = tt;
  few_writes = c.in-Err.ensures.few_writes;
}
