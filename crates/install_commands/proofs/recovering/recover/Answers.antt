use Rattle.std.proofs.Common.{◌⊎◌, ap, sym, subst}
use Rattle.std.specs.Prelude.{IsTrue, Err}
use Rattle.run_answers.specs.Faults.{is_free}
use Rattle.run_answers.specs.declared.refusal.Refusal.{Refusal}
use Rattle.install_commands.proofs.Recoveries.{free_or_refused, told_refusal}
use Rattle.std.proofs.Common.{List, ℕ, ◌∙◌}
use Rattle.install_commands.specs.Recovering.{AnswersDue, IsRecoveryRefused, recovery_line}
use Rattle.install_commands.proofs.recovering.recover.Goals as goal

pub returns-in-Err-clause-fits : goal.returns-in-Err-clause-fits
returns-in-Err-clause-fits g c = λ t told surroundings old new each can.
    subst (λ (refusal : Refusal). IsTrue (is_free refusal)) (sym c.refusal_of_recovery.ensures)
    (free_or_refused c.in-Err.fault (c.in-Err.ensures.fits t told surroundings old new each can))

pub returns-in-Err-clause-told : goal.returns-in-Err-clause-told
returns-in-Err-clause-told g c = λ t told.
    let project = c.args.project.now in
    let now = g.T.Tree.meaning c.finish_install.new.tree in
    let fault = c.in-Err.fault in
    subst (λ (refusal : Refusal). IsTrue (is_free refusal) ⊎ (IsRecoveryRefused project t now refusal × AnswersDue {X = List ℕ} project t (Err refusal))) (sym c.refusal_of_recovery.ensures)
    (told_refusal project t now fault
    (λ place is. (c.in-Err.ensures.bad place (ap Err is)).1 t told)
    (λ path is. c.in-Err.ensures.other path (ap Err is))
    (λ path is. c.in-Err.ensures.blocked path (ap Err is) t told)
    (λ path is journal has. c.in-Err.ensures.stops path (ap Err is) t told journal has)
    (λ limit is. let found = c.in-Err.ensures.limit limit (ap Err is) in (found.0, found.1.1 t told))
    (c.in-Err.ensures.never_vanished t told)
    (λ due is. (c.in-Err.ensures.at_once t told due is).answer))

pub returns-in_ok-text_of-in-Ok-clause-told : goal.returns-in_ok-text_of-in-Ok-clause-told
returns-in_ok-text_of-in-Ok-clause-told g c = λ t told.
    (ap recovery_line (sym (c.in-Ok.ensures.found t told)) ∙ sym c.in_ok-text_of-in-Ok.ensures, ((λ due is. (c.in-Ok.ensures.at_once t told due is).answer), c.in-Ok.ensures.free t told))
