use Rattle.std.proofs.Common.{ap, sym, ◌∙◌, ◌++◌, map, Ok}
use Rattle.std.specs.List.{enumerate_from}
use Rattle.std.proofs.lemmas.Result.{err_from_is_err_and}
use Rattle.json_ordered.specs.Docs.{tree_of}
use Rattle.lock_file.proofs.Behind.{init, step, stop, end, seen_more}
use Rattle.lock_file.proofs.entries.entries_behind.Goals as goal

pub loop-i-init : goal.loop-i-init
loop-i-init g c = λ before holds. init g.X.Entry.reading g.X.Entry.named c.args.at.now before c.args.seen.now c.in_ok-entries.entries.items (enumerate_from 0 (map tree_of c.args.items.now))
    c.in_ok-entries.ensures.items holds

pub returns-in_err-entry_at-clause-exact : goal.returns-in_err-entry_at-clause-exact
returns-in_err-entry_at-clause-exact g c = λ before holds.
    let p = err_from_is_err_and c.from_residual-in_err-entry_at.result c.from_residual-in_err-entry_at.ensures.1 in
    rw (p.1, p.2) (λ ne. (c.loop-i.invariant before holds).0
    ∙ stop g.X.Entry.reading g.X.Entry.named c.args.at.now before tree_of c.args.items.now c.loop-i.i c.index-items-i.result c.loop-i-test.true c.index-items-i.is c.loop-i.entries.items c.in_err-entry_at.field-0.0
    (c.in_err-entry_at.ensures.exact (before ++ map g.X.Entry.named c.loop-i.entries.items) (c.loop-i.invariant before holds).1 ne))

pub loop-i-preserved : goal.loop-i-preserved
loop-i-preserved g c = λ before holds. (
  (c.loop-i.invariant before holds).0
      ∙ step g.X.Entry.reading g.X.Entry.named c.args.at.now before tree_of c.args.items.now c.loop-i.i c.index-items-i.result c.loop-i-test.true c.index-items-i.is c.loop-i.entries.items c.push.new.self.items c.in_ok-entry_at.field-0
      (c.in_ok-entry_at.ensures.exact (before ++ map g.X.Entry.named c.loop-i.entries.items) (c.loop-i.invariant before holds).1) c.in_ok-push.ensures.items,
  seen_more g.X.Entry.reading g.X.Entry.named c.args.at.now before c.entry_at.new.seen c.loop-i.entries.items c.push.new.self.items c.in_ok-entry_at.field-0
      (c.in_ok-entry_at.ensures.seen (before ++ map g.X.Entry.named c.loop-i.entries.items) (c.loop-i.invariant before holds).1) c.in_ok-push.ensures.items,
)

pub returns-clause-exact : goal.returns-clause-exact
returns-clause-exact g c = λ before holds. (c.loop-i.invariant before holds).0
    ∙ end g.X.Entry.reading g.X.Entry.named c.args.at.now before tree_of c.args.items.now c.loop-i.i c.loop-i-test.false c.loop-i.entries.items ∙ ap Ok (sym c.of.ensures)
