use Rattle.std.proofs.Common.{sym, ◌∙◌}
use Rattle.std.specs.BTreeSet.{contains}
use Rattle.path_name.specs.Orders.{path_cmp}
use Rattle.package_moves.proofs.Gathering.{groups_same}
use Rattle.package_moves.proofs.joined.Folders.add.Goals as goal

pub returns-in-None : goal.returns-in-None
returns-in-None c = λ parts groups.
    groups_same (contains path_cmp c.args.blocked.now) parts c.args.part.now c.args.self.now (λ folder is. absurd (let none = sym c.in-None.is ∙ c.in_ok-folder.ensures in cc)) groups
