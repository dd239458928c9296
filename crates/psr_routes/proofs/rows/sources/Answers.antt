use Rattle.std.proofs.Common.{◌++◌, length, sym, ap, ◌∙◌}
use Rattle.psr_routes.specs.PackageOrder.{ordered}
use Rattle.psr_routes.specs.Sources.{rules_below}
use Rattle.psr_routes.proofs.SourceRules.{all_rules}
use Rattle.psr_routes.proofs.rows.sources.Goals as goal

pub returns : goal.returns
returns c =
    let members = c.args.members.now in
    c.in_ok-put_members.ensures
    ∙ ap (λ front. front ++ rules_below (ordered members) (length c.as_slice.result.now)) c.in_ok-sources.ensures
    ∙ sym (all_rules c.args.project.now c.args.root.now members c.args.dev c.as_slice.result.now (c.as_slice.ensures.value ∙ c.in_ok-order.ensures.exact))
