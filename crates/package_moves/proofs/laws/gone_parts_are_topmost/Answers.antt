use Rattle.package_moves.proofs.Topmost.{gone_is_topmost, topmost_is_gone}
use Rattle.package_moves.proofs.laws.gone_parts_are_topmost.Goals as goal

pub returns : goal.returns
returns c = λ project t wanted path tree are. ((λ is. gone_is_topmost project t tree wanted are path is), (λ top. topmost_is_gone project t tree wanted are path top))
