use Rattle.std.proofs.Common.{◌++◌, ap, ◌∙◌}
use Rattle.class_paths.specs.declared.types.RouteKind.TheVariants.{Psr4, Psr0}
use Rattle.autoload_build.specs.Jobs.{by_prefix, jobs_of_kind, jobs_of_rows}
use Rattle.autoload_build.specs.Steps.{seen}
use Rattle.autoload_build.proofs.jobs.with_rows.Goals as goal

pub returns : goal.returns
unfolding jobs_of_rows
returns c =
    let sources = seen c.args.sources.now in
    c.in_ok-append.ensures.items ∙ ap (λ rows. c.args.jobs.items ++ rows) (c.in_ok-sort_by_prefix.ensures ∙ ap by_prefix (c.in_ok-put_kind-2.ensures
    ∙ ap (λ first. first ++ jobs_of_kind Psr0 sources) (c.in_ok-put_kind.ensures ∙ ap (λ first. first ++ jobs_of_kind Psr4 sources) c.new-rows.ensures.items)))
