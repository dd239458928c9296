use Rattle.std.proofs.Common.{◌≡◌, List, Vec, Global, map, ◌∙◌}
use Rattle.std.specs.Borrow.{Bor}
use Rattle.std.proofs.lemmas.Result.{IfOk-weaker}
use Rattle.class_paths.specs.declared.types.Route.{Route}
use Rattle.table_scan.specs.declared.types.PrefixRow.{PrefixRow}
use Rattle.autoload_build.specs.BuiltTables.{prefix_table}
use Rattle.autoload_build.specs.Jobs.{by_falling_key, falling}
use Rattle.autoload_build.specs.Steps.{lent_prefix, rows_of_prefixes}
use Rattle.autoload_build.proofs.PrefixRows.{whole_table}
use Rattle.autoload_build.proofs.prefixes.prefix_table.Goals as goal

pub returns : goal.returns
returns c =
    let before = c.in_ok-some.some.items in
    IfOk-weaker c.rows_of_runs.result (λ (table : Vec PrefixRow Global). (before : List (Bor Route)) → c.as_slice.result.now ≡ by_falling_key lent_prefix before → table.items ≡ rows_of_prefixes before (falling (map lent_prefix before)))
    (λ (table : Vec PrefixRow Global). table.items ≡ prefix_table c.args.kind c.args.routes.now)
    (λ table h. h before (c.as_slice.ensures.value ∙ c.in_ok-sort_by_prefix.ensures) ∙ whole_table c.args.kind c.args.routes.now before c.in_ok-some.ensures) c.rows_of_runs.ensures
