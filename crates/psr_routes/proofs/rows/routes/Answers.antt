use Rattle.std.proofs.Common.{◌++◌, List, ap, ◌∙◌}
use Rattle.class_paths.specs.declared.types.Route.{Route}
use Rattle.class_paths.specs.declared.types.RouteKind.TheVariants.{Psr4, Psr0}
use Rattle.psr_routes.specs.Routes.{sources_of, rows_of_kind, rows_of}
use Rattle.psr_routes.specs.Sources.{seen, rows_by}
use Rattle.psr_routes.proofs.SourceRules.{rows_by_sources}
use Rattle.psr_routes.proofs.rows.routes.Goals as goal

pub returns : goal.returns
unfolding rows_of
returns c =
    let all = sources_of c.args.project.now c.args.root.now c.args.members.now c.args.dev in
    let first = ap (λ (rows : List Route). rows ++ rows_by Psr4 (seen c.as_slice.result.now)) c.new-rows.ensures.items in
    let psr4 = rows_by_sources Psr4 all (seen c.as_slice.result.now) (ap seen c.as_slice.ensures.value ∙ c.in_ok-sources.ensures) in
    let psr0 = rows_by_sources Psr0 all (seen c.as_slice-2.result.now) (ap seen c.as_slice-2.ensures.value ∙ c.in_ok-sources.ensures) in
    record {
      exact = c.in_ok-put_kind-2.ensures ∙ ap (λ (rows : List Route). rows ++ rows_by Psr0 (seen c.as_slice-2.result.now)) (c.in_ok-put_kind.ensures ∙ first ∙ psr4) ∙ ap (λ (rows : List Route). rows_of_kind Psr4 all ++ rows) psr0;
    }
