use Rattle.std.proofs.Common.{sym, ap, ◌∙◌, subst}
use Rattle.std.proofs.lemmas.Result.{err_from_is_err_and}
use Rattle.install_world.specs.declared.journal.Journal.{Journal}
use Rattle.vendor_journal.specs.JobTargets.{journal_for}
use Rattle.vendor_journal.specs.Prepared.{IsPrepared}
use Rattle.install_commands.specs.Working.{journal_fits, text_fits}
use Rattle.install_commands.proofs.Ends.{has_journal, told_as}
use Rattle.install_commands.proofs.claimed.journal_ready.Goals as goal

pub returns-clause-ready : goal.returns-clause-ready
returns-clause-ready c =
    subst (λ (journal : Journal). IsPrepared c.args.hold.now.project journal c.in_ok-prepared.prepared) c.in_ok-journal.ensures.is
    (c.in_ok-prepared.ensures (c.in_ok-journal.ensures.journal c.args.hold.now.project c.requires.work.parts c.requires.some c.requires.work.generation))

pub returns-clause-told : goal.returns-clause-told
returns-clause-told c =
    let made : IsPrepared c.args.hold.now.project (journal_for c.args.work.now.job.parts c.args.work.now.generation) c.in_ok-prepared.prepared =
    subst (λ (journal : Journal). IsPrepared c.args.hold.now.project journal c.in_ok-prepared.prepared) c.in_ok-journal.ensures.is
    (c.in_ok-prepared.ensures (c.in_ok-journal.ensures.journal c.args.hold.now.project c.requires.work.parts c.requires.some c.requires.work.generation)) in
    has_journal c.args.hold.now.project c.args.work.now.job.parts c.args.work.now.generation c.requires.some ∙ ap (text_fits c.args.hold.now.project) (sym made.text_is) ∙ c.in_ok-refuse_long.ensures.told

pub returns-in_err-refuse_long-clause-told : goal.returns-in_err-refuse_long-clause-told
returns-in_err-refuse_long-clause-told c =
    let made : IsPrepared c.args.hold.now.project (journal_for c.args.work.now.job.parts c.args.work.now.generation) c.in_ok-prepared.prepared =
    subst (λ (journal : Journal). IsPrepared c.args.hold.now.project journal c.in_ok-prepared.prepared) c.in_ok-journal.ensures.is
    (c.in_ok-prepared.ensures (c.in_ok-journal.ensures.journal c.args.hold.now.project c.requires.work.parts c.requires.some c.requires.work.generation)) in
    let p = err_from_is_err_and c.from_residual-in_err-refuse_long.result c.from_residual-in_err-refuse_long.ensures.1 in
    rw (p.1, p.2) (told_as (journal_fits c.args.hold.now.project c.args.work.now.job.parts c.args.work.now.generation) (text_fits c.args.hold.now.project c.in_ok-prepared.prepared.text) c.in_err-refuse_long.field-0.0
    (has_journal c.args.hold.now.project c.args.work.now.job.parts c.args.work.now.generation c.requires.some ∙ ap (text_fits c.args.hold.now.project) (sym made.text_is)) c.in_err-refuse_long.ensures.told)
