use Rattle.std.proofs.Common.{◌∙◌, map, sym, ap, subst}
use Rattle.std.proofs.lemmas.Result.{err_from_is_err_and}
use Rattle.std.specs.List.{AllByRecursion}
use Rattle.tree_dev.specs.Device.{only_read_on}
use Rattle.install_sources.specs.Sources.{IsSource, placed_name}
use Rattle.install_sources.proofs.PlacedEach.{all_more, end, names_more, placed_refused, rest_shown, step}
use Rattle.install_sources.proofs.sources.placed_each.Goals as goal

pub returns-in_err-placed-clause-told : goal.returns-in_err-placed-clause-told
returns-in_err-placed-clause-told g c = λ t told.
    let failed = err_from_is_err_and c.from_residual-in_err-placed.result c.from_residual-in_err-placed.ensures.1 in
    rw (failed.1, failed.2) (placed_refused t c.args.project.now c.args.entries.now c.loop-entry.entry-index c.entry-item.result c.loop-entry-test.true c.entry-item.is c.loop-entry.members.items c.in_err-placed.field-0.0
    (c.loop-entry.invariant.told t told) (c.in_err-placed.ensures.told t (c.loop-entry.invariant.only.told ∙ told)))

pub loop-entry-preserved : goal.loop-entry-preserved
loop-entry-preserved g c = record {
  only = only_read_on c.loop-entry.invariant.only c.in_ok-placed.ensures.only_read;
  formed = rest_shown c.args.entries.now c.loop-entry.entry-index c.entry-item.result c.loop-entry-test.true c.entry-item.is c.loop-entry.invariant.formed;
  sources = subst (AllByRecursion (IsSource c.args.project.now)) (sym c.in_ok-push.ensures.items) (all_more (IsSource c.args.project.now) c.loop-entry.members.items c.in_ok-placed.field-0 c.loop-entry.invariant.sources c.in_ok-placed.ensures.source);
  names = ap (map placed_name) c.in_ok-push.ensures.items ∙ names_more c.args.entries.now c.loop-entry.entry-index c.entry-item.result c.loop-entry-test.true c.entry-item.is c.loop-entry.members.items c.in_ok-placed.field-0 c.loop-entry.invariant.names c.in_ok-placed.ensures.name;
  told = λ t told.
      c.loop-entry.invariant.told t told ∙ step t c.args.project.now c.args.entries.now c.loop-entry.entry-index c.entry-item.result c.loop-entry-test.true c.entry-item.is c.loop-entry.members.items c.push.new.self.items
      c.in_ok-placed.field-0 (c.in_ok-placed.ensures.told t (c.loop-entry.invariant.only.told ∙ told)) c.in_ok-push.ensures.items;
}

pub returns-clause-told : goal.returns-clause-told
returns-clause-told g c = λ t told. c.loop-entry.invariant.told t told ∙ end t c.args.project.now c.args.entries.now c.loop-entry.entry-index c.loop-entry-test.false c.loop-entry.members.items
