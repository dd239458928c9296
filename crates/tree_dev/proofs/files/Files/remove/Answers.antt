use Rattle.std.proofs.Common.{ap, ◌∙◌}
use Rattle.std.specs.FinMap as map
use Rattle.tree_dev.proofs.FiniteTrees.{one_removed}
use Rattle.tree_dev.proofs.files.Files.remove.Goals as goal

pub returns : goal.returns
returns c =
    one_removed c.self.inside.entries.entries c.remove.new.self.entries c.args.at.now c.remove.ensures.updates.0
    ∙ ap (λ m. map.remove m c.args.at.now) c.self.view_is
