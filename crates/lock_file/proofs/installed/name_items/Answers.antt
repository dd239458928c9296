use Rattle.std.proofs.Common.{ℕ, ap, sym, ◌∙◌, Ok}
use Rattle.std.proofs.lemmas.Result.{err_from_is_err_and}
use Rattle.json_ordered.specs.JsonTree.{JsonTree}
use Rattle.json_ordered.specs.Docs.{tree_of}
use Rattle.manifest_read.specs.Pointers.{at_item}
use Rattle.manifest_read.specs.Values.{text_at}
use Rattle.manifest_read.proofs.Gathering.{numbered_step, numbered_stop, numbered_end}
use Rattle.lock_file.proofs.installed.name_items.Goals as goal

pub returns-in_err-name_item : goal.returns-in_err-name_item
returns-in_err-name_item c =
    let p = err_from_is_err_and c.from_residual-in_err-name_item.result c.from_residual-in_err-name_item.ensures.1 in
    rw (p.1, p.2) (λ ne. c.loop-i.invariant ∙ numbered_stop tree_of c.args.items.now c.loop-i.i c.index-items-i.result c.loop-i-test.true c.index-items-i.is
    (λ (n : ℕ × JsonTree). text_at (at_item c.args.at.now n.0) n.1) c.loop-i.names.items c.in_err-name_item.field-0.0 (c.in_err-name_item.ensures ne))

pub loop-i-preserved : goal.loop-i-preserved
loop-i-preserved c = c.loop-i.invariant ∙ numbered_step tree_of c.args.items.now c.loop-i.i c.index-items-i.result c.loop-i-test.true c.index-items-i.is
    (λ (n : ℕ × JsonTree). text_at (at_item c.args.at.now n.0) n.1) c.loop-i.names.items c.push.new.self.items c.in_ok-name_item.field-0 c.in_ok-name_item.ensures c.in_ok-push.ensures.items

pub returns : goal.returns
returns c = c.loop-i.invariant ∙ numbered_end tree_of c.args.items.now c.loop-i.i c.loop-i-test.false (λ (n : ℕ × JsonTree). text_at (at_item c.args.at.now n.0) n.1) c.loop-i.names.items
    ∙ ap Ok (sym c.of.ensures)
