use Rattle.std.proofs.Common.{ℕ, List, Ok, Err, sym, subst}
use Rattle.install_commands.specs.Commanded.{Commanded}
use Rattle.composer_top.specs.Outcome.Install.{IsUpdateWork}
use Rattle.composer_top.proofs.Changing.{told_change}
use Rattle.composer_top.proofs.runner.updated.Goals as goal

pub returns-in-Ok-clause-told : goal.returns-in-Ok-clause-told
returns-in-Ok-clause-told g c = λ t told.
    let work = IsUpdateWork c.args.project.now c.args.ways.now in
    told_change work c.args.project.now t (g.T.Tree.meaning c.args.tree.now) (g.T.Tree.meaning c.update.new.tree) (Ok c.plain.result) c.plain.ensures.end
    (subst (λ (lines : List ℕ). Commanded work c.args.project.now t (g.T.Tree.meaning c.args.tree.now) (g.T.Tree.meaning c.update.new.tree) (Ok lines)) (sym c.plain.ensures.lines)
    (c.in-Ok.ensures.commanded t told))

pub returns-in-Err-clause-told : goal.returns-in-Err-clause-told
returns-in-Err-clause-told g c = λ t told.
    told_change (IsUpdateWork c.args.project.now c.args.ways.now) c.args.project.now t (g.T.Tree.meaning c.args.tree.now) (g.T.Tree.meaning c.update.new.tree) (Err c.in-Err.refusal) tt
    (c.in-Err.ensures.commanded t told)

pub returns-in-Ok-clause-renews : goal.returns-in-Ok-clause-renews
returns-in-Ok-clause-renews g c = record {
  changes = record {
    commanded = λ t told.
        subst (λ (lines : List ℕ). Commanded (IsUpdateWork c.args.project.now c.args.ways.now) c.args.project.now t (g.T.Tree.meaning c.args.tree.now) (g.T.Tree.meaning c.update.new.tree) (Ok lines))
        (sym c.plain.ensures.lines) (c.in-Ok.ensures.commanded t told);
    device = λ failed. absurd cc;
  };
  ends_well = c.plain.ensures.end;
}

pub returns-in-Err-clause-renews : goal.returns-in-Err-clause-renews
returns-in-Err-clause-renews g c = record {
  changes = record { commanded = c.in-Err.ensures.commanded; device = c.in-Err.ensures.device };
  ends_well = tt;
}
