use Rattle.install_world.proofs.LineWords.{not_target}
use Rattle.install_world.proofs.words.target_path_in_hex.Goals as goal

pub returns-else-is_target_path : goal.returns-else-is_target_path
returns-else-is_target_path c =
    not_target c.args.digits.now c.in-Some.path c.is_target_path.result (rw c.in-Some.is at c.in_ok-path_in_hex.ensures) c.is_target_path.ensures c.if-is_target_path.false
