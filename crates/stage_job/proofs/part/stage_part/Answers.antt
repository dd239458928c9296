use Rattle.std.proofs.Common.{refl, sym, ◌∙◌, arith}
use Rattle.stage_job.specs.Checked.{part_checked}
use Rattle.stage_job.specs.Jobs.{part_entry}
use Rattle.stage_job.proofs.StagingRules.{staging_start}
use Rattle.stage_job.proofs.WholeSteps.{nothing_put}
use Rattle.stage_job.proofs.part.stage_part.Goals as goal

pub returns-in-Copy-clause-checked : goal.returns-in-Copy-clause-checked
unfolding part_checked
returns-in-Copy-clause-checked g c = λ t told. rw c.in-Copy.is (c.mirror_package.ensures.checked t told)

pub returns-in-Copy-clause-staged : goal.returns-in-Copy-clause-staged
unfolding part_entry
returns-in-Copy-clause-staged g c = rw c.in-Copy.is c.mirror_package.ensures.copied

pub returns-in-Bytes-clause-checked : goal.returns-in-Bytes-clause-checked
unfolding part_checked
returns-in-Bytes-clause-checked g c = λ t told. rw (c.in-Bytes.is, ← c.as_slice.ensures) (c.stage_bytes.ensures.checked t told c.args.left.now.left)

pub returns-in-Bytes-clause-staged : goal.returns-in-Bytes-clause-staged
unfolding part_entry
returns-in-Bytes-clause-staged g c = rw (c.in-Bytes.is, ← c.as_slice.ensures) c.stage_bytes.ensures.staged

pub returns-in-Folder-clause-checked : goal.returns-in-Folder-clause-checked
unfolding part_checked
returns-in-Folder-clause-checked g c = λ t told. rw (c.in-Folder.is, ← c.as_slice-in-Folder.ensures) (c.stage_folder.ensures.checked t told)

pub returns-in-Folder-clause-staged : goal.returns-in-Folder-clause-staged
unfolding part_entry
returns-in-Folder-clause-staged g c = rw (c.in-Folder.is, ← c.as_slice-in-Folder.ensures) c.stage_folder.ensures.staged

-- a part that is to be gone: nothing is there, and nothing is put
pub returns-in-Gone-clause-staging : goal.returns-in-Gone-clause-staging
returns-in-Gone-clause-staging g c = λ project in_new. staging_start

pub returns-in-Gone-clause-checked : goal.returns-in-Gone-clause-checked
unfolding part_checked
returns-in-Gone-clause-checked g c = λ t told. rw c.in-Gone.is refl

pub returns-in-Gone-clause-staged : goal.returns-in-Gone-clause-staged
unfolding part_entry
returns-in-Gone-clause-staged g c = λ t told u now. rw c.in-Gone.is (nothing_put c.args.to.now t u (sym told ∙ now) (c.requires.free t told))

-- ---- calls of write

pub returns-in-Copy-clause-writes : goal.returns-in-Copy-clause-writes
returns-in-Copy-clause-writes g c = λ t told. rw c.in-Copy.is (c.mirror_package.ensures.writes t told)

pub returns-in-Bytes-clause-writes : goal.returns-in-Bytes-clause-writes
returns-in-Bytes-clause-writes g c = λ t told. rw c.in-Bytes.is c.stage_bytes.ensures.writes

pub returns-in-Folder-clause-writes : goal.returns-in-Folder-clause-writes
returns-in-Folder-clause-writes g c = λ t told. rw (c.in-Folder.is, ← c.as_slice-in-Folder.ensures) (c.stage_folder.ensures.writes t told)

pub returns-in-Gone-clause-writes : goal.returns-in-Gone-clause-writes
returns-in-Gone-clause-writes g c = λ t told. rw c.in-Gone.is (omega arith)
