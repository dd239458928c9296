use Rattle.install_world.proofs.LineWords.{no_target}
use Rattle.install_world.proofs.words.target_of.Goals as goal

pub returns-in-None : goal.returns-in-None
returns-in-None c =
    no_target c.args.version c.args.number c.args.words.now c.in-Some.marked.rest.now c.in-Some.marked.gone c.in-Some.ensures.1
    (rw c.in-None.is at c.in_ok-target_path_in_hex.ensures)
