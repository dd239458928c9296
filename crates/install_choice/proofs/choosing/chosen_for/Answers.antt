use Rattle.std.proofs.Common.{◌∙◌, refl, sym, inl}
use Rattle.install_choice.specs.Choosing.{IsChosenWith, standing_lock_in}
use Rattle.install_choice.specs.Sequences.{Is}
use Rattle.install_choice.proofs.Sequencing.{exactly_refused, stopped, went}
use Rattle.install_choice.proofs.Warned.{refused_warns, warns_none}
use Rattle.install_choice.proofs.choosing.chosen_for.Goals as goal

pub returns-in-Ok-clause-told : goal.returns-in-Ok-clause-told
returns-in-Ok-clause-told g c = λ t told documented.
    went (Is (standing_lock_in t c.args.project.now)) (IsChosenWith t c.args.project.now c.args.left.now.left c.args.manifest) c.in-Ok.lock (λ chosen. (chosen, c.chosen_with.new.left.left)) c.chosen_with.result
    (sym (c.in-Ok.ensures.told t told)) (c.chosen_with.ensures.told t (c.in-Ok.ensures.only_read.told ∙ told) documented)

pub returns-in-Err-clause-told : goal.returns-in-Err-clause-told
returns-in-Err-clause-told g c = λ t told documented.
    stopped (Is (standing_lock_in t c.args.project.now)) (IsChosenWith t c.args.project.now c.args.left.now.left c.args.manifest) c.in-Err.refusal
    (exactly_refused (standing_lock_in t c.args.project.now) c.in-Err.refusal (c.in-Err.ensures.told t told))

pub returns-in-Ok-clause-warned : goal.returns-in-Ok-clause-warned
returns-in-Ok-clause-warned g c = λ t told. inl (rw (c.in-Ok.ensures.told t told) c.chosen_with.ensures.warned)

pub returns-in-Err-clause-warned : goal.returns-in-Err-clause-warned
returns-in-Err-clause-warned g c = λ t told.
    refused_warns c.args.manifest (standing_lock_in t c.args.project.now) c.in-Err.refusal (g.E.Sink.meaning c.args.errs.now) (c.in-Err.ensures.told t told) (λ free. (free, refl))

pub returns-in-Err-clause-may_warn : goal.returns-in-Err-clause-may_warn
returns-in-Err-clause-may_warn g c = warns_none (g.E.Sink.meaning c.args.errs.now)
