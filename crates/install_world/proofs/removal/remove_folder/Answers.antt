use Rattle.std.proofs.lemmas.Result.{err_from_is_err_and}
use Rattle.install_world.proofs.RemovalRules.{removes_on, writes_none_on}
use Rattle.install_world.proofs.LeavesGone.{covered_start}
use Rattle.install_world.proofs.PartDone.{told_still}
use Rattle.install_world.proofs.removal.remove_folder.Goals as goal

pub returns-in_err-folders-clause-writes_none : goal.returns-in_err-folders-clause-writes_none
returns-in_err-folders-clause-writes_none g c =
    let p = err_from_is_err_and c.from_residual-in_err-folders.result c.from_residual-in_err-folders.ensures.1 in
    rw (p.1, p.2) (writes_none_on _ _ _ _ c.in_err-folders.ensures.writes_none c.in_ok-remove_leaves.ensures.writes_none)

pub returns-in_err-remove_folders-clause-writes_none : goal.returns-in_err-remove_folders-clause-writes_none
returns-in_err-remove_folders-clause-writes_none g c =
    let p = err_from_is_err_and c.from_residual-in_err-remove_folders.result c.from_residual-in_err-remove_folders.ensures.1 in
    rw (p.1, p.2) (writes_none_on _ _ _ _ c.in_err-remove_folders.ensures.writes_none
    (writes_none_on _ _ _ _ c.in_ok-folders.ensures.writes_none c.in_ok-remove_leaves.ensures.writes_none))

pub returns-in_err-folders-clause-removes : goal.returns-in_err-folders-clause-removes
returns-in_err-folders-clause-removes g c = removes_on _ _ _ _ c.remove_all_leaves.ensures.removes c.in_ok-remove_leaves.ensures.removes

pub returns-in_err-remove_folders-clause-removes : goal.returns-in_err-remove_folders-clause-removes
returns-in_err-remove_folders-clause-removes g c =
    removes_on _ _ _ _ c.remove_folders.ensures.removes (removes_on _ _ _ _ c.remove_all_leaves.ensures.removes c.in_ok-remove_leaves.ensures.removes)

pub returns-clause-writes_none : goal.returns-clause-writes_none
returns-clause-writes_none g c =
    writes_none_on _ _ _ _ c.remove_empty.ensures.writes_none (writes_none_on _ _ _ _ c.in_ok-remove_folders.ensures.writes_none
    (writes_none_on _ _ _ _ c.in_ok-folders.ensures.writes_none c.in_ok-remove_leaves.ensures.writes_none))

pub returns-clause-removes : goal.returns-clause-removes
returns-clause-removes g c =
    removes_on _ _ _ _ c.remove_empty.ensures.removes (removes_on _ _ _ _ c.remove_folders.ensures.removes
    (removes_on _ _ _ _ c.remove_all_leaves.ensures.removes c.in_ok-remove_leaves.ensures.removes))

pub returns-in_err-folders-clause-never_vanished : goal.returns-in_err-folders-clause-never_vanished
returns-in_err-folders-clause-never_vanished g c =
    let p = err_from_is_err_and c.from_residual-in_err-folders.result c.from_residual-in_err-folders.ensures.1 in
    rw (p.1, p.2) (λ t told stands.
    let first = g.T.Tree.meaning c.args.tree.now in
    let one = g.T.Tree.meaning c.remove_leaves-2.new.tree in
    let two = g.T.Tree.meaning c.remove_all_leaves.new.tree in
    let now = told_still first one t c.in_ok-remove_leaves.ensures.writes_none.tells told in
    let emptied = c.in_ok-remove_leaves.ensures.emptied t told now.0 now.1 in
    let covered = covered_start c.args.at.now _ _ c.remove_leaves-2.new.ahead.items t now.0 c.root.ensures c.new-ahead.ensures.items
    (g.met.T.Tree.tells_trees c.remove_leaves-2.new.tree now.0 now.1) emptied in
    c.in_err-folders.ensures.never_vanished now.0 now.1 covered)

pub returns-in_err-remove_folders-clause-never_vanished : goal.returns-in_err-remove_folders-clause-never_vanished
returns-in_err-remove_folders-clause-never_vanished g c =
    let p = err_from_is_err_and c.from_residual-in_err-remove_folders.result c.from_residual-in_err-remove_folders.ensures.1 in
    rw (p.1, p.2) (λ t told stands.
    let first = g.T.Tree.meaning c.args.tree.now in
    let one = g.T.Tree.meaning c.remove_leaves-2.new.tree in
    let two = g.T.Tree.meaning c.remove_all_leaves.new.tree in
    let now = told_still first one t c.in_ok-remove_leaves.ensures.writes_none.tells told in
    let emptied = c.in_ok-remove_leaves.ensures.emptied t told now.0 now.1 in
    let covered = covered_start c.args.at.now _ _ c.remove_leaves-2.new.ahead.items t now.0 c.root.ensures c.new-ahead.ensures.items
    (g.met.T.Tree.tells_trees c.remove_leaves-2.new.tree now.0 now.1) emptied in
    let then = told_still one two now.0 c.in_ok-folders.ensures.writes_none.tells now.1 in
    let listed = c.in_ok-folders.ensures.covered now.0 now.1 covered then.0 then.1 in
    let still = c.in_ok-folders.ensures.folders now.0 now.1 then.0 then.1 c.args.at.now (emptied.leaves.folders c.args.at.now stands) in
    c.in_err-remove_folders.ensures.never_vanished then.0 then.1 listed still)

pub returns-clause-never_vanished : goal.returns-clause-never_vanished
returns-clause-never_vanished g c = λ t told stands.
    let first = g.T.Tree.meaning c.args.tree.now in
    let one = g.T.Tree.meaning c.remove_leaves-2.new.tree in
    let two = g.T.Tree.meaning c.remove_all_leaves.new.tree in
    let now = told_still first one t c.in_ok-remove_leaves.ensures.writes_none.tells told in
    let emptied = c.in_ok-remove_leaves.ensures.emptied t told now.0 now.1 in
    let covered = covered_start c.args.at.now _ _ c.remove_leaves-2.new.ahead.items t now.0 c.root.ensures c.new-ahead.ensures.items
    (g.met.T.Tree.tells_trees c.remove_leaves-2.new.tree now.0 now.1) emptied in
    let then = told_still one two now.0 c.in_ok-folders.ensures.writes_none.tells now.1 in
    let listed = c.in_ok-folders.ensures.covered now.0 now.1 covered then.0 then.1 in
    let still = c.in_ok-folders.ensures.folders now.0 now.1 then.0 then.1 c.args.at.now (emptied.leaves.folders c.args.at.now stands) in
    let last = told_still two (g.T.Tree.meaning c.remove_folders.new.tree) then.0 c.in_ok-remove_folders.ensures.writes_none.tells then.1 in
    c.remove_empty.ensures.never_vanished last.0 last.1 (c.in_ok-remove_folders.ensures.bare then.0 then.1 listed still last.0 last.1)
