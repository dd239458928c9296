use Rattle.std.proofs.Common.{ap, sym, ◌∙◌}
use Rattle.std.specs.Cmp.{nat_cmp_total}
use Rattle.std.specs.FinSet as set
use Rattle.tree_dev.proofs.call_set.CallSet.contains.Goals as goal

pub returns : goal.returns
returns c =
    c.contains.ensures
    ∙ sym (set.contains-from_list nat_cmp_total c.self.inside.calls.keys c.args.call)
    ∙ ap (λ s. set.contains s c.args.call) c.self.view_is
