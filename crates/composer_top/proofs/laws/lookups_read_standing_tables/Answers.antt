use Rattle.composer_top.proofs.LookedUp.{word_looked_up}
use Rattle.composer_top.proofs.laws.lookups_read_standing_tables.Goals as goal

pub returns : goal.returns
returns c = word_looked_up
