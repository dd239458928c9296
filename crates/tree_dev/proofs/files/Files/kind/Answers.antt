use Rattle.std.proofs.Common.{sym, ap, ◌∙◌}
use Rattle.tree_dev.specs.Trees.{kind_of}
use Rattle.tree_dev.proofs.FiniteTrees.{kind_below, kind_root}
use Rattle.tree_dev.proofs.files.Files.kind.Goals as goal

pub returns-in-None : goal.returns-in-None
returns-in-None c = sym (kind_root c.args.self.now c.args.at.now c.in-None.ensures)

pub returns-in-Some : goal.returns-in-Some
returns-in-Some c = c.kind_of.ensures ∙ ap kind_of c.get.ensures ∙ sym (kind_below c.args.self.now c.args.at.now c.in-Some.field-0.now c.in-Some.ensures)
