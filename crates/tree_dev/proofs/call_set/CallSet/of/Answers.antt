use Rattle.std.proofs.Common.{sym, ◌∙◌, rules}
use Rattle.std.specs.Ordering.{nat_cmp}
use Rattle.std.specs.Cmp.{nat_cmp_total}
use Rattle.std.specs.BTreeSet.{IsFromIterResult}
use Rattle.std.specs.FinSet.{same_set, contains-from_list, nat_cmp-IsAntisymmetric}
use Rattle.tree_dev.proofs.call_set.CallSet.of.Goals as goal

pub returns : goal.returns
returns c =
    let made : IsFromIterResult nat_cmp c.args.calls.now c.in_ok-collect.field-0 = search rules in
    same_set nat_cmp_total nat_cmp-IsAntisymmetric _ _
    (λ q. contains-from_list nat_cmp_total c.in_ok-collect.field-0.keys q ∙ made.0 q ∙ sym (contains-from_list nat_cmp_total c.args.calls.now q))
