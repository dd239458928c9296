use Rattle.std.proofs.Common.{sym}
use Rattle.tree_dev.proofs.FiniteTrees.{read_below, read_root}
use Rattle.tree_dev.proofs.files.Files.read.Goals as goal

pub returns-in-None : goal.returns-in-None
returns-in-None c = sym (read_root c.args.self.now c.args.at.now c.args.most c.in-None.ensures)

pub returns-in-Some : goal.returns-in-Some
returns-in-Some c = rw (read_below c.args.self.now c.args.at.now c.in-Some.field-0.now c.args.most c.in-Some.ensures, ← c.get.ensures) c.read_of.ensures
