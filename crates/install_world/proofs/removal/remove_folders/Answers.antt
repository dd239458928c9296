use Rattle.std.proofs.Common.{◌≡◌, refl, sym, subst}
use Rattle.std.specs.Prelude.{Some}
use Rattle.std.specs.FinMap as map
use Rattle.tree_dev.specs.Trees.{FileTree}
use Rattle.tree_dev.specs.declared.entry.Entry.TheVariants.{Folder}
use Rattle.install_world.specs.Emptied.{AreInSet, IsBare}
use Rattle.install_world.proofs.FoldersInOrder.{bare_at_end, last_is_bare, one_folder_less, set_covers, set_empty}
use Rattle.install_world.proofs.PartDone.{told_still}
use Rattle.install_world.proofs.PlacesFree.{told_same}
use Rattle.std.proofs.lemmas.Result.{err_from_is_err_and}
use Rattle.install_world.proofs.RemovalRules.{removes_on, removes_start, removes_wider, within_equal, writes_none_on, writes_none_start}
use Rattle.install_world.proofs.removal.remove_folders.Goals as goal

pub folders-init : goal.folders-init
folders-init g c = record {
  writes_none = writes_none_start _;
  removes = removes_start _ _;
  in_set = λ t told covered stands u now.
      subst (λ (w : FileTree). AreInSet c.args.at.now c.in_ok-ordered.ordered w × (map.get w c.args.at.now ≡ Some Folder)) (told_same _ _ t u refl told now)
      (set_covers c.args.at.now c.args.folders.items c.in_ok-ordered.ordered t c.in_ok-ordered.ensures covered, stands);
}

pub folders-preserved : goal.folders-preserved
folders-preserved g c = record {
  writes_none = writes_none_on _ _ _ _ c.in_ok-remove_empty.ensures.writes_none c.folders.invariant.writes_none;
  removes = removes_on _ _ _ _ (removes_wider _ _ _ _ (within_equal _ _ _ c.in_ok-path.ensures) c.remove_empty.ensures.removes) c.folders.invariant.removes;
  in_set = λ t told covered stands w then.
      let here = told_still (g.T.Tree.meaning c.args.tree.now) (g.T.Tree.meaning c.folders.tree) t c.folders.invariant.writes_none.tells told in
      let was = c.folders.invariant.in_set t told covered stands here.0 here.1 in
      one_folder_less c.args.at.now c.folders.ordered c.pop_last.new.self here.0 w c.in-Some.folder c.in_ok-path.path c.in_ok-path.ensures was.0 was.1
      c.in-Some.ensures.member c.in-Some.ensures.updates.0 (c.in_ok-remove_empty.ensures.gone w then) (c.in_ok-remove_empty.ensures.others here.0 here.1 w then);
}

pub returns-in_err-path-clause-writes_none : goal.returns-in_err-path-clause-writes_none
returns-in_err-path-clause-writes_none g c =
    let p = err_from_is_err_and c.from_residual-in_err-path.result c.from_residual-in_err-path.ensures.1 in rw (p.1, p.2) c.folders.invariant.writes_none

pub returns-in_err-remove_empty-clause-writes_none : goal.returns-in_err-remove_empty-clause-writes_none
returns-in_err-remove_empty-clause-writes_none g c =
    let p = err_from_is_err_and c.from_residual-in_err-remove_empty.result c.from_residual-in_err-remove_empty.ensures.1 in
    rw (p.1, p.2) (writes_none_on _ _ _ _ c.in_err-remove_empty.ensures.writes_none c.folders.invariant.writes_none)

pub returns-in_err-remove_empty-clause-removes : goal.returns-in_err-remove_empty-clause-removes
returns-in_err-remove_empty-clause-removes g c =
    removes_on _ _ _ _ (removes_wider _ _ _ _ (within_equal _ _ _ c.in_ok-path.ensures) c.remove_empty.ensures.removes) c.folders.invariant.removes

pub returns-in_err-ordered-clause-writes_none : goal.returns-in_err-ordered-clause-writes_none
returns-in_err-ordered-clause-writes_none g c = let p = err_from_is_err_and c.from_residual.result c.from_residual.ensures.1 in rw (p.1, p.2) (writes_none_start _)

pub returns-in_err-ordered-clause-removes : goal.returns-in_err-ordered-clause-removes
returns-in_err-ordered-clause-removes g c = removes_start _ _

pub returns-in_err-ordered-clause-never_vanished : goal.returns-in_err-ordered-clause-never_vanished
returns-in_err-ordered-clause-never_vanished g c =
    let p = err_from_is_err_and c.from_residual.result c.from_residual.ensures.1 in rw (p.1, p.2) (λ t told covered stands. refl)

pub returns-in_err-path-clause-never_vanished : goal.returns-in_err-path-clause-never_vanished
returns-in_err-path-clause-never_vanished g c =
    let p = err_from_is_err_and c.from_residual-in_err-path.result c.from_residual-in_err-path.ensures.1 in rw (p.1, p.2) (λ t told covered stands. refl)

pub returns-in_err-remove_empty-clause-never_vanished : goal.returns-in_err-remove_empty-clause-never_vanished
returns-in_err-remove_empty-clause-never_vanished g c =
    let p = err_from_is_err_and c.from_residual-in_err-remove_empty.result c.from_residual-in_err-remove_empty.ensures.1 in
    rw (p.1, p.2) (λ t told covered stands.
    let here = told_still (g.T.Tree.meaning c.args.tree.now) (g.T.Tree.meaning c.folders.tree) t c.folders.invariant.writes_none.tells told in
    let was = c.folders.invariant.in_set t told covered stands here.0 here.1 in
    c.in_err-remove_empty.ensures.never_vanished here.0 here.1
    (subst (λ path. IsBare path here.0) (sym c.in_ok-path.ensures)
    (last_is_bare c.args.at.now c.folders.ordered here.0 c.in-Some.folder was.0 c.in-Some.ensures.member c.in-Some.ensures.greatest)))

pub returns-clause-bare : goal.returns-clause-bare
returns-clause-bare g c = λ t told covered stands u now.
    let was = c.folders.invariant.in_set t told covered stands u now in
    bare_at_end c.args.at.now c.folders.ordered u (g.met.T.Tree.tells_trees c.folders.tree u now)
    (set_empty c.folders.ordered (λ more. let wrong = c.in_default.ensures.variant.1 more in absurd cc)) was.0 was.1
