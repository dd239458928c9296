use Rattle.std.proofs.lemmas.Result.{IfOk-weaker}
use Rattle.package_moves.proofs.PathsBehind.{moved_behind}
use Rattle.package_moves.proofs.joined.below_of.Goals as goal

pub returns : goal.returns
returns c = IfOk-weaker c.moved-2.result _ _ (λ moved is. moved_behind c.args.path.now c.args.folder.now _ moved c.root.ensures is) c.moved-2.ensures
