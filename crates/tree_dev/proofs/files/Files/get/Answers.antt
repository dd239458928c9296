use Rattle.std.proofs.Common.{ap, sym, ◌∙◌}
use Rattle.std.specs.Option.{option_map}
use Rattle.std.specs.FinMap as map
use Rattle.tree_dev.specs.Stored.{entry_of}
use Rattle.tree_dev.proofs.FiniteTrees.{get_path}
use Rattle.tree_dev.proofs.files.Files.get.Goals as goal

pub returns : goal.returns
returns c =
    ap (option_map entry_of) c.get.ensures.value
    ∙ sym (get_path c.self.inside.entries.entries c.args.at.now)
    ∙ ap (λ m. map.get m c.args.at.now) c.self.view_is
