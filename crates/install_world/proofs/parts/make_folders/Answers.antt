use Rattle.std.proofs.Common.{◌≡◌, ◌∙◌, ◌+◌, ◌++◌, ◌∷◌, [], ℕ, List, true, ap, refl, sym, subst, take, arith, append-nil}
use Rattle.std.proofs.lemmas.List.{take_all}
use Rattle.path_name.specs.Paths.{without_last}
use Rattle.tree_dev.specs.Trees.{FileTree, entry_at, has_folder, is_folder}
use Rattle.tree_dev.proofs.Snoc.{without_last-snoc}
use Rattle.install_world.proofs.PartDone.{told_still}
use Rattle.std.specs.Prelude.{IsTrue}
use Rattle.std.specs.List.{list_all}
use Rattle.std.proofs.lemmas.Result.{err_from_is_err_and}
use Rattle.path_name.specs.Paths.{is_segment}
use Rattle.tree_dev.specs.Projects.{is_within}
use Rattle.install_world.proofs.FinishSteps.{first_within, made_itself, made_on, made_wider, next_first}
use Rattle.install_world.proofs.RemovalRules.{writes_none_on, writes_none_start}
use Rattle.install_world.proofs.Segments.{segment_at}
use Rattle.install_world.proofs.parts.make_folders.Goals as goal
use Rattle.install_world.proofs.parts.make_folders.Goals.{In_ok-enter}

-- where the path has come to
at_is : (g : _) (c : In_ok-enter g) → c.enter.new.self ≡ c.args.project.now ++ take (c.loop-name.name-index + 1) c.as_slice-name-items.result.now
at_is g c =
    next_first c.args.project.now c.as_slice-name-items.result.now c.loop-name.name-index c.name-item.result c.loop-name.at c.enter.new.self c.loop-name-test.true c.name-item.is
    c.loop-name.invariant.at (c.in_ok-enter.ensures.entered ∙ ap (λ (n : List ℕ). c.loop-name.at ++ n ∷ []) c.as_slice.ensures)

-- it is at or above the last of the folders
within_is : (g : _) (c : In_ok-enter g) → is_within c.enter.new.self (c.args.project.now ++ c.args.path.now) ≡ true
within_is g c =
    subst (λ at. is_within at (c.args.project.now ++ c.args.path.now) ≡ true) (sym (at_is g c))
    (first_within c.args.project.now c.as_slice-name-items.result.now c.args.path.now (c.loop-name.name-index + 1) (c.as_slice-name-items.ensures.value ∙ c.in_ok-names.ensures))

pub returns-in_err-names-clause-writes_none : goal.returns-in_err-names-clause-writes_none
returns-in_err-names-clause-writes_none g c = let p = err_from_is_err_and c.from_residual.result c.from_residual.ensures.1 in rw (p.1, p.2) (writes_none_start _)

pub returns-in_err-names-clause-makes : goal.returns-in_err-names-clause-makes
returns-in_err-names-clause-makes g c = made_itself _ _

pub returns-in_err-at-clause-writes_none : goal.returns-in_err-at-clause-writes_none
returns-in_err-at-clause-writes_none g c = let p = err_from_is_err_and c.from_residual-in_err-at.result c.from_residual-in_err-at.ensures.1 in rw (p.1, p.2) (writes_none_start _)

pub returns-in_err-at-clause-makes : goal.returns-in_err-at-clause-makes
returns-in_err-at-clause-makes g c = made_itself _ _

pub enter-requires : goal.enter-requires
enter-requires g c =
    subst (λ name. IsTrue (is_segment name)) (sym c.as_slice.ensures)
    (segment_at c.as_slice-name-items.result.now c.loop-name.name-index c.name-item.result
    (subst (λ names. IsTrue (list_all is_segment names)) (sym (c.as_slice-name-items.ensures.value ∙ c.in_ok-names.ensures)) c.path_is_segments.ensures)
    c.loop-name-test.true c.name-item.is)

pub returns-in_err-enter-clause-writes_none : goal.returns-in_err-enter-clause-writes_none
returns-in_err-enter-clause-writes_none g c =
    let p = err_from_is_err_and c.from_residual-in_err-enter.result c.from_residual-in_err-enter.ensures.1 in rw (p.1, p.2) c.loop-name.invariant.writes_none

pub returns-in_err-enter-clause-makes : goal.returns-in_err-enter-clause-makes
returns-in_err-enter-clause-makes g c = c.loop-name.invariant.makes

pub loop-name-init : goal.loop-name-init
loop-name-init g c = record {
  writes_none = writes_none_start _;
  makes = made_itself _ _;
  at = c.in_ok-at.ensures ∙ sym (append-nil c.args.project.now);
  there = λ t told folder u now.
      let same : t ≡ u = cc in
      subst (λ (at : List (List ℕ)). is_folder (entry_at u at) ≡ true) (sym c.in_ok-at.ensures)
      (subst (λ (w : FileTree). is_folder (entry_at w c.args.project.now) ≡ true) same folder);
}

pub loop-name-preserved : goal.loop-name-preserved
loop-name-preserved g c =
    let entered = (goal.at.loop-name-preserved g c).In_ok-enter in
    record {
      writes_none = writes_none_on _ _ _ _ c.in_ok-need_folder.ensures.writes_none c.loop-name.invariant.writes_none;
      makes = made_on (c.args.project.now ++ c.args.path.now) _ _ _ c.loop-name.invariant.makes
          (made_wider (c.args.project.now ++ c.args.path.now) c.enter.new.self _ _ (within_is g entered) c.need_folder.ensures.makes);
      at = at_is g entered;
      there = λ t told folder u now. c.in_ok-need_folder.ensures.there u now;
    }

pub returns-in_err-need_folder-clause-writes_none : goal.returns-in_err-need_folder-clause-writes_none
returns-in_err-need_folder-clause-writes_none g c =
    let p = err_from_is_err_and c.from_residual-in_err-need_folder.result c.from_residual-in_err-need_folder.ensures.1 in
    rw (p.1, p.2) (writes_none_on _ _ _ _ c.in_err-need_folder.ensures.writes_none c.loop-name.invariant.writes_none)

pub returns-in_err-need_folder-clause-makes : goal.returns-in_err-need_folder-clause-makes
returns-in_err-need_folder-clause-makes g c =
    made_on (c.args.project.now ++ c.args.path.now) _ _ _ c.loop-name.invariant.makes
    (made_wider (c.args.project.now ++ c.args.path.now) c.enter.new.self _ _ (within_is g (goal.at.returns-in_err-need_folder-clause-makes g c).In_ok-enter) c.need_folder.ensures.makes)

pub returns-in_err-need_folder-clause-cause : goal.returns-in_err-need_folder-clause-cause
returns-in_err-need_folder-clause-cause g c = λ path is.
    let p = err_from_is_err_and c.from_residual-in_err-need_folder.result c.from_residual-in_err-need_folder.ensures.1 in
    let given = p.1 in
    let from = p.2 in
    c.in_err-need_folder.ensures.cause path cc

pub returns-in_err-names-clause-never_vanished : goal.returns-in_err-names-clause-never_vanished
returns-in_err-names-clause-never_vanished g c = let p = err_from_is_err_and c.from_residual.result c.from_residual.ensures.1 in rw (p.1, p.2) (λ t told folder. refl)

pub returns-in_err-at-clause-never_vanished : goal.returns-in_err-at-clause-never_vanished
returns-in_err-at-clause-never_vanished g c = let p = err_from_is_err_and c.from_residual-in_err-at.result c.from_residual-in_err-at.ensures.1 in rw (p.1, p.2) (λ t told folder. refl)

pub returns-in_err-enter-clause-never_vanished : goal.returns-in_err-enter-clause-never_vanished
returns-in_err-enter-clause-never_vanished g c = let p = err_from_is_err_and c.from_residual-in_err-enter.result c.from_residual-in_err-enter.ensures.1 in rw (p.1, p.2) (λ t told folder. refl)

pub returns-in_err-need_folder-clause-never_vanished : goal.returns-in_err-need_folder-clause-never_vanished
returns-in_err-need_folder-clause-never_vanished g c =
    let p = err_from_is_err_and c.from_residual-in_err-need_folder.result c.from_residual-in_err-need_folder.ensures.1 in
    rw (p.1, p.2) (λ t told folder.
    let here = told_still (g.T.Tree.meaning c.args.tree.now) (g.T.Tree.meaning c.loop-name.tree) t c.loop-name.invariant.writes_none.tells told in
    c.in_err-need_folder.ensures.never_vanished here.0 here.1
    (ap (λ (at : List (List ℕ)). has_folder here.0 (without_last at)) c.in_ok-enter.ensures.entered ∙ ap (has_folder here.0) (without_last-snoc c.loop-name.at c.as_slice.result.now)
    ∙ c.loop-name.invariant.there t told folder here.0 here.1))

pub returns-clause-there : goal.returns-clause-there
returns-clause-there g c = λ t told folder u now.
    subst (λ (at : List (List ℕ)). is_folder (entry_at u at) ≡ true)
    (c.loop-name.invariant.at ∙ ap (λ (ns : List (List ℕ)). c.args.project.now ++ ns)
    (take_all c.loop-name.name-index c.as_slice-name-items.result.now (omega (arith, c.loop-name-test.false)) ∙ c.as_slice-name-items.ensures.value ∙ c.in_ok-names.ensures))
    (c.loop-name.invariant.there t told folder u now)

pub returns-in_err-need_folder-clause-within : goal.returns-in_err-need_folder-clause-within
returns-in_err-need_folder-clause-within g c = λ path is.
    let p = err_from_is_err_and c.from_residual-in_err-need_folder.result c.from_residual-in_err-need_folder.ensures.1 in
    let given = p.1 in
    let from = p.2 in
    let found = c.in_err-need_folder.ensures.at path cc in
    ap (λ (at : List (List ℕ)). is_within at (c.args.project.now ++ c.args.path.now)) found
    ∙ within_is g (goal.at.returns-in_err-need_folder-clause-within g c).In_ok-enter
