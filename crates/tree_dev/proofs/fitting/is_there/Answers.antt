use Rattle.std.proofs.Common.{◌∙◌}
use Rattle.tree_dev.proofs.Places.{entry_there}
use Rattle.tree_dev.proofs.fitting.is_there.Goals as goal

pub returns : goal.returns
returns c = c.names_entry.ensures ∙ entry_there c.args.files.now c.args.at.now c.kind.result c.kind.ensures
