use Rattle.std.proofs.Common.{sym, subst, ◌∙◌}
use Rattle.tree_dev.specs.Projects.{work_path}
use Rattle.tree_dev.specs.declared.change.Change.TheVariants.{FolderMade}
use Rattle.stage_job.specs.Staged.{IsClaimed}
use Rattle.stage_job.proofs.Made.{after_change}
use Rattle.stage_job.proofs.StagingRules.{told_before}
use Rattle.vendor_journal.proofs.InstallSteps.{claimed}
use Rattle.install_writes.proofs.tests.installing.install.Goals as goal

-- what the claim left is still told, since the search for the job only read
pub stage-requires : goal.stage-requires
stage-requires g c = record {
  parts = c.in_ok-job.ensures.parts (rw c.in_ok-project.ensures c.requires.parts);
  claimed = λ u told_u.
      let meaning = g.T.Tree.meaning in
      let told = sym c.in_ok-job.ensures.only_read.told ∙ told_u in
      let b = told_before (meaning c.args.tree.now).told c.claim.ensures.tells u told in
      let made = c.in_ok-hold.ensures.claimed b.0 b.1 in
      let is = after_change (meaning c.args.tree.now) (meaning c.claim.new.tree) (FolderMade (work_path c.in_ok-project.project)) b.0 u made.1 b.1 told in
      subst (IsClaimed c.in_ok-project.project) (sym is) (claimed c.in_ok-project.project b.0 (g.met.T.Tree.tells_trees c.args.tree.now b.0 b.1) made.0);
  parents = λ u told_u. c.in_ok-job.ensures.parents u (sym c.in_ok-job.ensures.only_read.told ∙ told_u);
}
