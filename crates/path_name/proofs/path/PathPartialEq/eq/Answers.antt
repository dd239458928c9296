use Rattle.std.proofs.Common.{◌∙◌}
use Rattle.path_name.proofs.PathTexts.{same_paths}
use Rattle.path_name.proofs.path.PathPartialEq.eq.Goals as goal

pub returns : goal.returns
returns c = rw (← c.self.view_is, ← c.other.view_is) (rw (c.as_slice.ensures.value, c.as_slice-2.ensures.value) at c.eq.ensures ∙ same_paths c.self.inside.joined.items c.other.inside.joined.items)
