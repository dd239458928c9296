use Rattle.std.proofs.Common.{inl}
use Rattle.install_choice.specs.Choosing.{chosen_by_lock}
use Rattle.install_choice.proofs.Sequencing.{paired}
use Rattle.install_choice.proofs.Warned.{may_warn, takes_nothing, warns_none}
use Rattle.install_choice.proofs.choosing.chosen_with.Goals as goal

pub returns-in-None-clause-told : goal.returns-in-None-clause-told
returns-in-None-clause-told g c = λ t told documented. rw c.in-None.is (c.chosen_by_plan.ensures.told t told documented)

pub returns-in-Some-clause-told : goal.returns-in-Some-clause-told
returns-in-Some-clause-told g c = λ t told documented.
    rw c.in-Some.is (paired c.args.left.now.left (chosen_by_lock c.args.project.now c.args.manifest.root c.in-Some.lock) c.chosen_by_lock.result c.chosen_by_lock.ensures.told)

pub returns-in-None-clause-warned : goal.returns-in-None-clause-warned
returns-in-None-clause-warned g c = rw c.in-None.is (inl (takes_nothing (g.E.Sink.meaning c.args.errs.now)))

pub returns-in-None-clause-may_warn : goal.returns-in-None-clause-may_warn
returns-in-None-clause-may_warn g c = warns_none (g.E.Sink.meaning c.args.errs.now)

pub returns-in-Some-clause-may_warn : goal.returns-in-Some-clause-may_warn
returns-in-Some-clause-may_warn g c = may_warn (g.E.Sink.meaning c.args.errs.now) (g.E.Sink.meaning c.warn_of_stale.new.errs) c.args.manifest c.in-Some.lock c.warn_of_stale.ensures
