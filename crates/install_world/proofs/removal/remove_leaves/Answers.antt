use Rattle.std.proofs.Common.{sym, subst}
use Rattle.std.specs.Prelude.{IsTrue}
use Rattle.std.specs.List.{list_all}
use Rattle.path_name.specs.Paths.{is_segment}
use Rattle.tree_dev.specs.declared.entry.ListAnswer.{ListAnswer}
use Rattle.install_world.proofs.Segments.{segment_at}
use Rattle.std.proofs.lemmas.Result.{err_from_is_err_and}
use Rattle.install_world.proofs.RemovalRules.{removes_on, removes_read, removes_start, writes_none_failing, writes_none_on, writes_none_read, writes_none_start}
use Rattle.std.proofs.Common.{◌≡◌, ◌∙◌, ap, refl, arith}
use Rattle.std.specs.Prelude.{Some}
use Rattle.std.specs.FinMap as map
use Rattle.tree_dev.specs.Trees.{names_in}
use Rattle.tree_dev.specs.declared.entry.Entry.TheVariants.{Folder}
use Rattle.std.specs.List.Sorted.{IsStrictlySortedBy}
use Rattle.std.proofs.lemmas.Option.{slice_get_read}
use Rattle.path_name.specs.Orders.{byte_cmp}
use Rattle.install_world.proofs.LeavesGone.{RemovesFirst, all_of_folder, entry_below, first_none, folder_is_listed, listed_names, one_name_more}
use Rattle.install_world.proofs.PartDone.{told_still}
use Rattle.install_world.proofs.PlacesFree.{told_same}
use Rattle.install_world.proofs.RemovalRules.{tree_faults_stay}
use Rattle.install_world.proofs.removal.remove_leaves.Goals as goal

pub returns-in_err-path-clause-writes_none : goal.returns-in_err-path-clause-writes_none
returns-in_err-path-clause-writes_none g c = let p = err_from_is_err_and c.from_residual.result c.from_residual.ensures.1 in rw (p.1, p.2) (writes_none_start _)

pub returns-in_err-path-clause-removes : goal.returns-in_err-path-clause-removes
returns-in_err-path-clause-removes g c = removes_start _ _

pub returns-in_err-names-clause-writes_none : goal.returns-in_err-names-clause-writes_none
returns-in_err-names-clause-writes_none g c =
    let p = err_from_is_err_and c.from_residual-in_err-names.result c.from_residual-in_err-names.ensures.1 in
    rw (p.1, p.2) (writes_none_failing ListAnswer (Unit {0}) _ _ c.in_err-names.field-0.0 (writes_none_read _ _ _ _ c.in_err-names.ensures.only_read (writes_none_start _)))

pub returns-in_err-names-clause-removes : goal.returns-in_err-names-clause-removes
returns-in_err-names-clause-removes g c = removes_read _ _ _ _ _ c.list.ensures.only_read (removes_start _ _)

pub loop-name-init : goal.loop-name-init
loop-name-init g c = record {
  writes_none = writes_none_read _ _ _ _ c.in_ok-names.ensures.only_read (writes_none_start _);
  removes = removes_read _ _ _ _ _ c.list.ensures.only_read (removes_start _ _);
  first = λ t told u now.
      subst (RemovesFirst c.args.at.now c.args.folder.now c.as_slice-name-items.result.now 0 c.args.ahead.now.items c.args.ahead.now.items t)
      (told_same _ _ t u c.in_ok-names.ensures.only_read.told told now)
      (first_none c.args.at.now c.args.folder.now c.as_slice-name-items.result.now c.args.ahead.now.items t);
}

pub remove_leaf-requires : goal.remove_leaf-requires
remove_leaf-requires g c =
    let listing = rw c.in-Names.is at c.in_ok-names.ensures.names in
    subst (λ name. IsTrue (is_segment name)) (sym c.as_slice.ensures)
    (segment_at c.as_slice-name-items.result.now c.loop-name.name-index c.name-item.result
    (subst (λ names. IsTrue (list_all is_segment names)) (sym c.as_slice-name-items.ensures) listing.segments)
    c.loop-name-test.true c.name-item.is)

pub returns-in_err-remove_leaf-in-Names-clause-writes_none : goal.returns-in_err-remove_leaf-in-Names-clause-writes_none
returns-in_err-remove_leaf-in-Names-clause-writes_none g c =
    let p = err_from_is_err_and c.from_residual-in_err-remove_leaf-in-Names.result c.from_residual-in_err-remove_leaf-in-Names.ensures.1 in
    rw (p.1, p.2) (writes_none_on _ _ _ _ c.in_err-remove_leaf-in-Names.ensures.writes_none c.loop-name.invariant.writes_none)

pub returns-in_err-remove_leaf-in-Names-clause-removes : goal.returns-in_err-remove_leaf-in-Names-clause-removes
returns-in_err-remove_leaf-in-Names-clause-removes g c = removes_on _ _ _ _ c.remove_leaf.ensures.removes c.loop-name.invariant.removes

pub loop-name-preserved : goal.loop-name-preserved
loop-name-preserved g c = record {
  writes_none = writes_none_on _ _ _ _ c.in_ok-remove_leaf-in-Names.ensures.writes_none c.loop-name.invariant.writes_none;
  removes = removes_on _ _ _ _ c.remove_leaf.ensures.removes c.loop-name.invariant.removes;
  first = λ t told w then.
      let here = told_still (g.T.Tree.meaning c.args.tree.now) (g.T.Tree.meaning c.loop-name.tree) t c.loop-name.invariant.writes_none.tells told in
      let listing = rw c.in-Names.is at c.in_ok-names.ensures.names in
      one_name_more c.args.at.now c.args.folder.now c.as_slice-name-items.result.now c.loop-name.name-index c.name-item.result c.as_slice.result.now
      c.args.ahead.now.items c.loop-name.ahead.items c.remove_leaf.new.ahead.items t here.0 w c.as_slice.ensures
      (subst (IsStrictlySortedBy byte_cmp) (sym c.as_slice-name-items.ensures) listing.ascending)
      (slice_get_read c.as_slice-name-items.result.now _ c.loop-name.name-index c.name-item.result refl c.loop-name-test.true c.name-item.is)
      (c.as_slice-name-items.ensures ∙ listed_names t c.in_ok-path.path _ c.in_ok-names.field-0 c.in-Names.names (c.in_ok-names.ensures.answer t told) c.in-Names.is
      ∙ ap (names_in t) c.in_ok-path.ensures)
      (c.loop-name.invariant.first t told here.0 here.1)
      (c.in_ok-remove_leaf-in-Names.ensures.leaf here.0 here.1 w then);
}

pub returns-in_default-clause-writes_none : goal.returns-in_default-clause-writes_none
returns-in_default-clause-writes_none g c = writes_none_read _ _ _ _ c.in_ok-names.ensures.only_read (writes_none_start _)

pub returns-in_default-clause-removes : goal.returns-in_default-clause-removes
returns-in_default-clause-removes g c = removes_read _ _ _ _ _ c.list.ensures.only_read (removes_start _ _)

pub returns-in_err-path-clause-never_vanished : goal.returns-in_err-path-clause-never_vanished
returns-in_err-path-clause-never_vanished g c = let p = err_from_is_err_and c.from_residual.result c.from_residual.ensures.1 in rw (p.1, p.2) (λ t told stands. refl)

pub returns-in_err-names-clause-never_vanished : goal.returns-in_err-names-clause-never_vanished
returns-in_err-names-clause-never_vanished g c =
    let p = err_from_is_err_and c.from_residual-in_err-names.result c.from_residual-in_err-names.ensures.1 in
    rw (p.1, p.2) (λ t told stands. tree_faults_stay (Unit {0}) c.in_err-names.field-0.0)

pub returns-in_err-remove_leaf-in-Names-clause-never_vanished : goal.returns-in_err-remove_leaf-in-Names-clause-never_vanished
returns-in_err-remove_leaf-in-Names-clause-never_vanished g c =
    let p = err_from_is_err_and c.from_residual-in_err-remove_leaf-in-Names.result c.from_residual-in_err-remove_leaf-in-Names.ensures.1 in
    rw (p.1, p.2) (λ t told stands. c.in_err-remove_leaf-in-Names.ensures.never_vanished)

pub returns-in_default-clause-never_vanished : goal.returns-in_default-clause-never_vanished
returns-in_default-clause-never_vanished g c = λ t told stands.
    let tree = g.met.T.Tree.tells_trees c.args.tree.now t told in
    let here : map.get t c.in_ok-path.path ≡ Some Folder = ap (map.get t) c.in_ok-path.ensures ∙ stands in
    absurd (c.in_default.not-Names (names_in t c.in_ok-path.path)
    (folder_is_listed t c.in_ok-path.path _ c.in_ok-names.field-0 tree refl (c.in_ok-names.ensures.answer t told) (entry_below t c.in_ok-path.path Folder tree here)))

pub returns-after-loop-name-clause-emptied : goal.returns-after-loop-name-clause-emptied
returns-after-loop-name-clause-emptied g c = λ t told u now.
    let past = c.loop-name-test.false in
    let within = c.loop-name.auto.name-index-end in
    all_of_folder c.args.at.now c.args.folder.now c.args.ahead.now.items c.loop-name.ahead.items t u c.as_slice-name-items.result.now
    (c.as_slice-name-items.ensures ∙ listed_names t c.in_ok-path.path _ c.in_ok-names.field-0 c.in-Names.names (c.in_ok-names.ensures.answer t told) c.in-Names.is
    ∙ ap (names_in t) c.in_ok-path.ensures)
    (subst (λ count. RemovesFirst c.args.at.now c.args.folder.now c.as_slice-name-items.result.now count c.args.ahead.now.items c.loop-name.ahead.items t u)
    (omega (arith, past, within)) (c.loop-name.invariant.first t told u now))
