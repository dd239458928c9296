use Rattle.std.proofs.Common.{◌∙◌, sym, subst}
use Rattle.tree_dev.specs.Disk.{reading}
use Rattle.tree_dev.specs.Trees.{IsTree, ListsNames}
use Rattle.tree_dev.proofs.Kept.{sound_reading}
use Rattle.tree_dev.proofs.ListAnswers.{lists_names, not_many}
use Rattle.tree_dev.proofs.memory.MemoryTreeTree.list.Goals as goal

pub returns-clause-names : goal.returns-clause-names
returns-clause-names c =
    let tree : IsTree (reading c.self.inside.disk.now) = sound_reading c.self.inside.disk.now c.tells.ensures in
    subst ListsNames (sym c.in_ok-list.ensures) (lists_names (reading c.self.inside.disk.now) c.args.at.now c.args.most tree)

pub returns-clause-all : goal.returns-clause-all
returns-clause-all c = λ is many.
    let tree : IsTree (reading c.self.inside.disk.now) = sound_reading c.self.inside.disk.now c.tells.ensures in
    not_many (reading c.self.inside.disk.now) c.args.at.now c.args.most tree is (sym c.in_ok-list.ensures ∙ many)
