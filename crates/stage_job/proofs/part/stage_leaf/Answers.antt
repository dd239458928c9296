use Rattle.stage_job.proofs.part.stage_leaf.Goals as goal

-- a copy is apart from its source
pub returns-in-Copy-clause-checked : goal.returns-in-Copy-clause-checked
returns-in-Copy-clause-checked g c = λ t told. rw c.in-Copy.is (c.mirror_package.ensures.checked t told)

pub returns-in-Copy-clause-staged : goal.returns-in-Copy-clause-staged
returns-in-Copy-clause-staged g c = rw c.in-Copy.is c.mirror_package.ensures.copied

pub returns-in-Bytes-clause-checked : goal.returns-in-Bytes-clause-checked
returns-in-Bytes-clause-checked g c = λ t told. rw (c.in-Bytes.is, ← c.as_slice.ensures) (c.stage_bytes.ensures.checked t told c.args.left.now.left)

pub returns-in-Bytes-clause-staged : goal.returns-in-Bytes-clause-staged
returns-in-Bytes-clause-staged g c = rw (c.in-Bytes.is, ← c.as_slice.ensures) c.stage_bytes.ensures.staged

pub returns-in-Copy-clause-writes : goal.returns-in-Copy-clause-writes
returns-in-Copy-clause-writes g c = λ t told. rw c.in-Copy.is (c.mirror_package.ensures.writes t told)

pub returns-in-Bytes-clause-writes : goal.returns-in-Bytes-clause-writes
returns-in-Bytes-clause-writes g c = λ t told. rw c.in-Bytes.is c.stage_bytes.ensures.writes
