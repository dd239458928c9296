use Rattle.std.proofs.Common.{◌≡◌, ℕ, List, [], refl, sym, subst}
use Rattle.std.specs.Prelude.{Some}
use Rattle.std.specs.FinMap as map
use Rattle.std.proofs.lemmas.Result.{err_from_is_err_and}
use Rattle.tree_dev.specs.Trees.{FileTree}
use Rattle.tree_dev.specs.declared.entry.Entry.TheVariants.{Folder}
use Rattle.install_world.specs.Emptied.{AreCovered}
use Rattle.install_world.proofs.LeavesGone.{covered_on, none_left, taken_stands}
use Rattle.install_world.proofs.PartDone.{told_still}
use Rattle.install_world.proofs.PlacesFree.{told_same}
use Rattle.install_world.proofs.RemovalRules.{removes_on, removes_start, writes_none_on, writes_none_start}
use Rattle.install_world.proofs.removal.remove_all_leaves.Goals as goal

pub folders-init : goal.folders-init
folders-init g c = record {
  writes_none = writes_none_start _;
  removes = removes_start _ _;
  folders = λ t told u now path stands. subst (λ (w : FileTree). map.get w path ≡ Some Folder) (told_same _ _ t u refl told now) stands;
  covered = λ t told covered u now.
      subst (λ (emptied : List (List (List ℕ))). AreCovered c.args.at.now c.args.ahead.items emptied u) (sym c.new-emptied.ensures.items)
      (subst (AreCovered c.args.at.now c.args.ahead.items []) (told_same _ _ t u refl told now) covered);
}

pub folders-preserved : goal.folders-preserved
folders-preserved g c = record {
  writes_none = writes_none_on _ _ _ _ c.in_ok-remove_leaves.ensures.writes_none c.folders.invariant.writes_none;
  removes = removes_on _ _ _ _ c.remove_leaves.ensures.removes c.folders.invariant.removes;
  folders = λ t told w then path stands.
      let here = told_still (g.T.Tree.meaning c.args.tree.now) (g.T.Tree.meaning c.folders.tree) t c.folders.invariant.writes_none.tells told in
      (c.in_ok-remove_leaves.ensures.emptied here.0 here.1 w then).leaves.folders path (c.folders.invariant.folders t told here.0 here.1 path stands);
  covered = λ t told covered w then.
      let here = told_still (g.T.Tree.meaning c.args.tree.now) (g.T.Tree.meaning c.folders.tree) t c.folders.invariant.writes_none.tells told in
      subst (λ (emptied : List (List (List ℕ))). AreCovered c.args.at.now c.remove_leaves.new.ahead.items emptied w) (sym c.in_ok-push.ensures.items)
      (covered_on c.args.at.now c.in-Some.folder c.pop.new.self.items c.remove_leaves.new.ahead.items c.folders.emptied.items here.0 w
      (g.met.T.Tree.tells_trees c.remove_leaves.new.tree w then)
      (subst (λ (list : List (List (List ℕ))). AreCovered c.args.at.now list c.folders.emptied.items here.0) c.in-Some.ensures.items (c.folders.invariant.covered t told covered here.0 here.1))
      (c.in_ok-remove_leaves.ensures.emptied here.0 here.1 w then));
}

pub returns-in_err-remove_leaves-clause-writes_none : goal.returns-in_err-remove_leaves-clause-writes_none
returns-in_err-remove_leaves-clause-writes_none g c =
    let p = err_from_is_err_and c.from_residual.result c.from_residual.ensures.1 in
    rw (p.1, p.2) (writes_none_on _ _ _ _ c.in_err-remove_leaves.ensures.writes_none c.folders.invariant.writes_none)

pub returns-in_err-remove_leaves-clause-removes : goal.returns-in_err-remove_leaves-clause-removes
returns-in_err-remove_leaves-clause-removes g c = removes_on _ _ _ _ c.remove_leaves.ensures.removes c.folders.invariant.removes

pub returns-in_err-push-clause-writes_none : goal.returns-in_err-push-clause-writes_none
returns-in_err-push-clause-writes_none g c =
    let p = err_from_is_err_and c.from_residual-in_err-push.result c.from_residual-in_err-push.ensures.1 in
    rw (p.1, p.2) (writes_none_on _ _ _ _ c.in_ok-remove_leaves.ensures.writes_none c.folders.invariant.writes_none)

pub returns-in_err-push-clause-removes : goal.returns-in_err-push-clause-removes
returns-in_err-push-clause-removes g c = removes_on _ _ _ _ c.remove_leaves.ensures.removes c.folders.invariant.removes

pub returns-in_err-remove_leaves-clause-never_vanished : goal.returns-in_err-remove_leaves-clause-never_vanished
returns-in_err-remove_leaves-clause-never_vanished g c =
    let p = err_from_is_err_and c.from_residual.result c.from_residual.ensures.1 in
    rw (p.1, p.2) (λ t told covered.
    let here = told_still (g.T.Tree.meaning c.args.tree.now) (g.T.Tree.meaning c.folders.tree) t c.folders.invariant.writes_none.tells told in
    c.in_err-remove_leaves.ensures.never_vanished here.0 here.1
    (taken_stands c.args.at.now c.in-Some.folder c.folders.ahead.items c.pop.new.self.items c.folders.emptied.items here.0 c.in-Some.ensures.items
    (c.folders.invariant.covered t told covered here.0 here.1)))

pub returns-in_err-push-clause-never_vanished : goal.returns-in_err-push-clause-never_vanished
returns-in_err-push-clause-never_vanished g c =
    let p = err_from_is_err_and c.from_residual-in_err-push.result c.from_residual-in_err-push.ensures.1 in rw (p.1, p.2) (λ t told covered. refl)

pub returns-clause-covered : goal.returns-clause-covered
returns-clause-covered g c = λ t told covered u now.
    subst (λ (list : List (List (List ℕ))). AreCovered c.args.at.now list c.folders.emptied.items u)
    (none_left c.folders.ahead.items c.pop.new.self.items _ c.in_default.ensures.items c.in_default.ensures.rest c.in_default.ensures.cases.0)
    (c.folders.invariant.covered t told covered u now)
