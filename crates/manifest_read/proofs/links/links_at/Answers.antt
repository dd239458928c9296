use Rattle.std.proofs.Common.{ap, sym, ◌∙◌, Ok}
use Rattle.std.proofs.lemmas.Result.{err_from_is_err_and}
use Rattle.json_ordered.specs.Docs.{pair_of}
use Rattle.manifest_read.specs.Links.{link_at}
use Rattle.manifest_read.proofs.Gathering.{step, stop, end}
use Rattle.manifest_read.proofs.links.links_at.Goals as goal

pub returns-in_err-link : goal.returns-in_err-link
returns-in_err-link c =
    let p = err_from_is_err_and c.from_residual-in_err-link.result c.from_residual-in_err-link.ensures.1 in
    rw (p.1, p.2) (λ ne. c.loop-pair.invariant ∙ stop (λ pair. pair_of pair.now) c.args.pairs.now c.loop-pair.pair-index c.pair-item.result c.loop-pair-test.true c.pair-item.is
    (link_at c.args.own.now c.args.at.now) c.loop-pair.links.items c.in_err-link.field-0.0 (c.in_err-link.ensures ne))

pub loop-pair-preserved : goal.loop-pair-preserved
loop-pair-preserved c = c.loop-pair.invariant ∙ step (λ pair. pair_of pair.now) c.args.pairs.now c.loop-pair.pair-index c.pair-item.result c.loop-pair-test.true c.pair-item.is
    (link_at c.args.own.now c.args.at.now) c.loop-pair.links.items c.push.new.self.items c.in_ok-link.field-0 c.in_ok-link.ensures c.in_ok-push.ensures.items

pub returns : goal.returns
returns c = c.loop-pair.invariant ∙ end (λ pair. pair_of pair.now) c.args.pairs.now c.loop-pair.pair-index c.loop-pair-test.false (link_at c.args.own.now c.args.at.now) c.loop-pair.links.items
    ∙ ap Ok (sym c.of.ensures)
