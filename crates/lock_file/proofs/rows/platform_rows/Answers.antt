use Rattle.std.proofs.Common.{ap, sym, ◌∙◌, Ok}
use Rattle.std.proofs.lemmas.Result.{err_from_is_err_and}
use Rattle.json_ordered.specs.Docs.{pair_of}
use Rattle.lock_file.specs.Locks.{platform_link_at}
use Rattle.manifest_read.proofs.Gathering.{step, stop, end}
use Rattle.lock_file.proofs.rows.platform_rows.Goals as goal

pub returns-in_err-platform_link : goal.returns-in_err-platform_link
returns-in_err-platform_link c =
    let p = err_from_is_err_and c.from_residual-in_err-platform_link.result c.from_residual-in_err-platform_link.ensures.1 in
    rw (p.1, p.2) (λ ne. c.loop-pair.invariant ∙ stop pair_of c.args.pairs.now c.loop-pair.pair-index c.pair-item.result c.loop-pair-test.true c.pair-item.is
    (platform_link_at c.args.at.now) c.loop-pair.rows.items c.in_err-platform_link.field-0.0 (c.in_err-platform_link.ensures ne))

pub loop-pair-preserved : goal.loop-pair-preserved
loop-pair-preserved c = c.loop-pair.invariant ∙ step pair_of c.args.pairs.now c.loop-pair.pair-index c.pair-item.result c.loop-pair-test.true c.pair-item.is
    (platform_link_at c.args.at.now) c.loop-pair.rows.items c.push.new.self.items c.in_ok-platform_link.field-0 c.in_ok-platform_link.ensures c.in_ok-push.ensures.items

pub returns : goal.returns
returns c = c.loop-pair.invariant ∙ end pair_of c.args.pairs.now c.loop-pair.pair-index c.loop-pair-test.false (platform_link_at c.args.at.now) c.loop-pair.rows.items
    ∙ ap Ok (sym c.of.ensures)
