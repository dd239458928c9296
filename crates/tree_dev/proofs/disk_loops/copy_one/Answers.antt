use Rattle.tree_dev.proofs.SteadyRules.{steadily}
use Rattle.tree_dev.proofs.disk_loops.copy_one.Goals as goal

pub returns-in_err-make_dir : goal.returns-in_err-make_dir
returns-in_err-make_dir g c = search (steadily, c.requires.folder, c.make_dir.ensures.moments)

pub returns-then-eq : goal.returns-then-eq
returns-then-eq g c = search (steadily, c.requires.folder, c.make_dir.ensures.moments)

pub returns-in_err-bytes : goal.returns-in_err-bytes
returns-in_err-bytes g c = search (steadily, c.requires.folder, c.make_dir.ensures.moments, c.read.ensures.only_read)

pub returns-in_err-did-in-Bytes : goal.returns-in_err-did-in-Bytes
returns-in_err-did-in-Bytes g c = search (steadily, c.requires.folder, c.requires.to, c.make_dir.ensures.moments, c.read.ensures.only_read, c.write.ensures.moments)

pub returns-in_ok-did-in-Bytes : goal.returns-in_ok-did-in-Bytes
returns-in_ok-did-in-Bytes g c = search (steadily, c.requires.folder, c.requires.to, c.make_dir.ensures.moments, c.read.ensures.only_read, c.write.ensures.moments)

pub returns-in_default : goal.returns-in_default
returns-in_default g c = search (steadily, c.requires.folder, c.make_dir.ensures.moments, c.read.ensures.only_read)
