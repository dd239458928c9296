use Rattle.std.proofs.Common.{ℕ, List, [], ◌∷◌, ◌++◌, ap, ◌∙◌}
use Rattle.tree_dev.specs.Device.{only_read_on}
use Rattle.package_moves.specs.Needed.{needs_in}
use Rattle.package_moves.proofs.KnownSteps.{known_all, known_next}
use Rattle.package_moves.proofs.Looking.{adds_all, adds_more, counts_all, counts_more}
use Rattle.package_moves.proofs.StandingSteps.{passed_before}
use Rattle.package_moves.proofs.unneeded.look_at_names.Goals as goal

pub loop-name-preserved : goal.loop-name-preserved
loop-name-preserved g c = record {
  only = only_read_on c.loop-name.invariant.only c.in_ok-look_at_name.ensures.only_read;
  kept = c.look_at_name.ensures.kept ∙ c.loop-name.invariant.kept;
  vendor = c.look_at_name.ensures.vendor ∙ c.loop-name.invariant.vendor;
  counted = λ t told.
      counts_more (needs_in c.args.needed.now) c.args.project.now t c.args.folder.now c.args.names.now c.loop-name.name-index c.name-item.result c.args.counts.now c.loop-name.counts c.look_at_name.new.counts
      c.loop-name-test.true c.name-item.is (c.loop-name.invariant.counted t told)
      (rw (c.in_ok-path.ensures, c.as_slice.ensures) at (c.in_ok-look_at_name.ensures.counted t (c.loop-name.invariant.only.told ∙ told)));
  known = λ folder none empty.
      known_next (needs_in c.args.needed.now) c.args.names.now c.loop-name.name-index c.name-item.result c.loop-name.found c.look_at_name.new.found c.requires.listing c.loop-name-test.true c.name-item.is
      (c.loop-name.invariant.known folder none empty)
      (c.in_ok-look_at_name.ensures.known c.name-item.result (c.in_ok-path.ensures ∙ ap (λ (x : List ℕ). c.args.folder.now ++ x ∷ []) c.as_slice.ensures ∙ ap (λ (f : List (List ℕ)). f ++ c.name-item.result ∷ []) folder));
  adds = λ t told none.
      adds_more (needs_in c.args.needed.now) c.args.project.now t c.args.folder.now c.args.names.now c.loop-name.name-index c.name-item.result c.args.found.now c.loop-name.found c.look_at_name.new.found
      c.loop-name-test.true c.name-item.is
      (c.loop-name.invariant.adds t told (passed_before _ _ _ (c.in_ok-look_at_name.ensures.counted t (c.loop-name.invariant.only.told ∙ told)) none))
      (rw (c.in_ok-path.ensures, c.as_slice.ensures) at (c.in_ok-look_at_name.ensures.adds t (c.loop-name.invariant.only.told ∙ told) none));
}

pub returns-clause-counted : goal.returns-clause-counted
returns-clause-counted g c = λ t told.
    counts_all (needs_in c.args.needed.now) c.args.project.now t c.args.folder.now c.args.names.now c.loop-name.name-index c.args.counts.now c.loop-name.counts c.loop-name-test.false (c.loop-name.invariant.counted t told)

pub returns-clause-adds : goal.returns-clause-adds
returns-clause-adds g c = λ t told none.
    adds_all (needs_in c.args.needed.now) c.args.project.now t c.args.folder.now c.args.names.now c.loop-name.name-index c.args.found.now c.loop-name.found c.loop-name-test.false (c.loop-name.invariant.adds t told none)

pub returns-clause-known : goal.returns-clause-known
returns-clause-known g c = λ folder none empty.
    known_all (needs_in c.args.needed.now) c.args.names.now c.loop-name.name-index c.loop-name.found c.loop-name-test.false (c.loop-name.invariant.known folder none empty)
