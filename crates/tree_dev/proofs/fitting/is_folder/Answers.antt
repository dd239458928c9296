use Rattle.std.proofs.Common.{◌∙◌}
use Rattle.tree_dev.proofs.Places.{folder_there}
use Rattle.tree_dev.proofs.fitting.is_folder.Goals as goal

pub returns : goal.returns
returns c = c.names_folder.ensures ∙ folder_there c.args.files.now c.args.at.now c.kind.result c.kind.ensures
