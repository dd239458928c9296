use Rattle.path_name.proofs.Joining.{is_behind}
use Rattle.path_name.proofs.path.Path.below.Goals as goal

pub returns : goal.returns
returns c = is_behind c.args.self.now c.args.head.now c.behind.result (rw (← c.self.view_is, ← c.head.view_is, ← c.as_slice.ensures.value, ← c.as_slice-2.ensures.value) c.behind.ensures)
