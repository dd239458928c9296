use Rattle.tree_dev.proofs.Places.{no_name_removable}
use Rattle.tree_dev.proofs.change_laws.an_empty_folder_can_be_removed.Goals as goal

pub returns : goal.returns
returns c = λ t at folder below none. no_name_removable t at folder below none
