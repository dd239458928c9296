use Rattle.std.proofs.Common.{◌≡◌, ℕ, List, ap, ◌∙◌, sym, subst}
use Rattle.std.specs.Prelude.{Some}
use Rattle.std.specs.List.{slice_get}
use Rattle.path_name.specs.Paths.{IsPath}
use Rattle.install_world.specs.JournalText.{IsJournal}
use Rattle.install_world.specs.declared.target.Target.{Target}
use Rattle.install_world.specs.declared.version.Version.TheVariants.{Two}
use Rattle.stage_job.specs.declared.job.Part.{Part}
use Rattle.vendor_journal.specs.JobTargets.{targets_of}
use Rattle.vendor_journal.proofs.JobMoves.{journal_is}
use Rattle.vendor_journal.proofs.job_journal.journal_of.Goals as goal

pub returns-clause-journal : goal.returns-clause-journal
returns-clause-journal c = λ project are some positive.
    subst (λ (targets : List Target). IsJournal Two (record { generation = c.args.generation; targets = targets }))
    (sym (c.of.ensures ∙ c.in_ok-targets.ensures.are ∙ ap targets_of c.as_slice.ensures))
    (journal_is project c.args.job.now.parts c.args.generation are some positive c.ranges.generation.fits
    (subst (λ (parts : List Part). (number : ℕ) (part : Part) → slice_get parts number ≡ Some part → IsPath part.target) c.as_slice.ensures c.in_ok-targets.ensures.paths))
