use Rattle.std.proofs.Common.{◌∙◌}
use Rattle.tree_dev.proofs.Places.{file_there}
use Rattle.tree_dev.proofs.fitting.is_file.Goals as goal

pub returns : goal.returns
returns c = c.names_file.ensures ∙ file_there c.args.files.now c.args.at.now c.kind.result c.kind.ensures
