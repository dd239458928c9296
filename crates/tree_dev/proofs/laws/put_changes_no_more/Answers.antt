use Rattle.tree_dev.proofs.Lookups.{get-put_in}
use Rattle.tree_dev.proofs.laws.put_changes_no_more.Goals as goal

pub returns : goal.returns
returns c = λ t path other entry. get-put_in t path entry other
