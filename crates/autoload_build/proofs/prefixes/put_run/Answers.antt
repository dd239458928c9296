use Rattle.std.proofs.Common.{◌≡◌, get_or, ap, ◌∙◌, arith}
use Rattle.autoload_build.specs.Steps.{row_of}
use Rattle.autoload_build.proofs.PrefixRows.{puts_run, some_have}
use Rattle.autoload_build.proofs.prefixes.put_run.Goals as goal

pub returns-clause-run : goal.returns-clause-run
returns-clause-run c =
    let rest = c.args.rest.now in
    let first = get_or rest 0 c.index-rest-0.result in
    let own : first ≡ get_or rest 0 first = ap (get_or rest 0) c.index-rest-0.is in
    puts_run rest first c.args.table.now.items c.push.new.self.items c.in_ok-row.field-0 c.run_len-len.result own c.requires c.run_len-len.ensures.count
    (c.in_ok-row.ensures ∙ ap (row_of first.now.prefix) c.split_at.ensures.front) c.in_ok-push.ensures.items

pub returns-clause-some : goal.returns-clause-some
returns-clause-some c =
    let rest = c.args.rest.now in
    let first = get_or rest 0 c.index-rest-0.result in
    let own : first ≡ get_or rest 0 first = ap (get_or rest 0) c.index-rest-0.is in
    omega (arith, c.run_len-len.ensures.count, some_have rest first own c.requires)
