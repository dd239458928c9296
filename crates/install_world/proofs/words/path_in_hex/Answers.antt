use Rattle.install_world.proofs.LineWords.{not_hex}
use Rattle.install_world.proofs.words.path_in_hex.Goals as goal

pub returns-in-None : goal.returns-in-None
returns-in-None c = not_hex c.args.digits.now (rw c.in-None.is at c.in_ok-decoded.ensures)
