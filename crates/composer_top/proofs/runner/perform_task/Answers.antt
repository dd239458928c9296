use Rattle.std.proofs.Common.{sym, subst}
use Rattle.composer_words.specs.declared.chosen.Task.{Task}
use Rattle.run_answers.specs.Steps.{TellsOne}
use Rattle.composer_top.specs.Outcome.{IsTaskOutcome}
use Rattle.composer_top.specs.declared.report.Report.{Report}
use Rattle.composer_top.proofs.runner.perform_task.Goals as goal

pub returns-in-Check-clause-told : goal.returns-in-Check-clause-told
returns-in-Check-clause-told g c = λ t told.
    subst (λ (task : Task). TellsOne {X = Report} {Y = Report} (λ report. report) (IsTaskOutcome t (g.T.Tree.meaning c.check.new.tree) c.args.project.now task) c.check.result)
    (sym c.in-Check.is) (c.check.ensures.told t told)

pub returns-in-DumpAutoload-clause-told : goal.returns-in-DumpAutoload-clause-told
returns-in-DumpAutoload-clause-told g c = λ t told.
    subst (λ (task : Task). TellsOne {X = Report} {Y = Report} (λ report. report) (IsTaskOutcome t (g.T.Tree.meaning c.dumped.new.tree) c.args.project.now task) c.dumped.result)
    (sym c.in-DumpAutoload.is) (c.dumped.ensures.told t told)

pub returns-in-Install-clause-told : goal.returns-in-Install-clause-told
returns-in-Install-clause-told g c = λ t told.
    subst (λ (task : Task). TellsOne {X = Report} {Y = Report} (λ report. report) (IsTaskOutcome t (g.T.Tree.meaning c.installed.new.tree) c.args.project.now task) c.installed.result)
    (sym c.in-Install.is) (c.installed.ensures.told t told)

pub returns-in-Update-clause-told : goal.returns-in-Update-clause-told
returns-in-Update-clause-told g c = λ t told.
    subst (λ (task : Task). TellsOne {X = Report} {Y = Report} (λ report. report) (IsTaskOutcome t (g.T.Tree.meaning c.updated.new.tree) c.args.project.now task) c.updated.result)
    (sym c.in-Update.is) (c.updated.ensures.told t told)
