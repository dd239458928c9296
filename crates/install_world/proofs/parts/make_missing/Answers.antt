use Rattle.std.proofs.Common.{◌≡◌, true, false, refl, subst, sym}
use Rattle.tree_dev.specs.Trees.{FileTree, entry_at, is_folder}
use Rattle.tree_dev.specs.declared.change.Change.TheVariants.{FolderMade}
use Rattle.std.proofs.lemmas.Result.{err_from_is_err_and}
use Rattle.install_world.proofs.RemovalRules.{writes_none_change, writes_none_start}
use Rattle.install_world.proofs.FinishSteps.{makes_folder}
use Rattle.install_world.proofs.FoldersThere.{made_is_folder, new_folder}
use Rattle.install_world.proofs.PartDone.{told_still}
use Rattle.install_world.proofs.PlacesFree.{told_changed}
use Rattle.install_world.proofs.parts.make_missing.Goals as goal

pub returns-in_err-make_dir-clause-writes_none : goal.returns-in_err-make_dir-clause-writes_none
returns-in_err-make_dir-clause-writes_none g c =
    let p = err_from_is_err_and c.from_residual.result c.from_residual.ensures.1 in
    rw (p.1, p.2) (writes_none_change _ _ _ _ _ c.make_dir.ensures.moments refl c.make_dir.ensures.counts (λ failed. c.in_err-make_dir.ensures.cause) (writes_none_start _))

pub returns-in-New-clause-writes_none : goal.returns-in-New-clause-writes_none
returns-in-New-clause-writes_none g c = writes_none_change _ _ _ _ _ c.make_dir.ensures.moments refl c.make_dir.ensures.counts (λ failed. absurd cc) (writes_none_start _)

pub returns-in_err-copy-in_default-clause-writes_none : goal.returns-in_err-copy-in_default-clause-writes_none
returns-in_err-copy-in_default-clause-writes_none g c =
    let p = err_from_is_err_and c.from_residual-in_err-copy-in_default.result c.from_residual-in_err-copy-in_default.ensures.1 in
    rw (p.1, p.2) (writes_none_change _ _ _ _ _ c.make_dir.ensures.moments refl c.make_dir.ensures.counts (λ failed. absurd cc) (writes_none_start _))

pub returns-in_ok-copy-in_default-clause-writes_none : goal.returns-in_ok-copy-in_default-clause-writes_none
returns-in_ok-copy-in_default-clause-writes_none g c = writes_none_change _ _ _ _ _ c.make_dir.ensures.moments refl c.make_dir.ensures.counts (λ failed. absurd cc) (writes_none_start _)

pub returns-in_err-make_dir-clause-makes : goal.returns-in_err-make_dir-clause-makes
returns-in_err-make_dir-clause-makes g c = makes_folder _ _ c.args.at.now c.make_dir.ensures.moments

pub returns-in-New-clause-makes : goal.returns-in-New-clause-makes
returns-in-New-clause-makes g c = makes_folder _ _ c.args.at.now c.make_dir.ensures.moments

pub returns-in_err-copy-in_default-clause-makes : goal.returns-in_err-copy-in_default-clause-makes
returns-in_err-copy-in_default-clause-makes g c = makes_folder _ _ c.args.at.now c.make_dir.ensures.moments

pub returns-in_ok-copy-in_default-clause-makes : goal.returns-in_ok-copy-in_default-clause-makes
returns-in_ok-copy-in_default-clause-makes g c = makes_folder _ _ c.args.at.now c.make_dir.ensures.moments

pub returns-in_err-make_dir-clause-never_vanished : goal.returns-in_err-make_dir-clause-never_vanished
returns-in_err-make_dir-clause-never_vanished g c =
    let p = err_from_is_err_and c.from_residual.result c.from_residual.ensures.1 in rw (p.1, p.2) (λ t told none above. refl)

pub returns-in-New-clause-there : goal.returns-in-New-clause-there
returns-in-New-clause-there g c = λ u now.
    let first = g.T.Tree.meaning c.args.tree.now in
    let second = g.T.Tree.meaning c.make_dir.new.self in
    let quiet = writes_none_change first first second (FolderMade c.args.at.now) false c.make_dir.ensures.moments refl c.make_dir.ensures.counts (λ failed. absurd cc) (writes_none_start first) in
    let before = told_still second first u (sym quiet.tells) now in
    subst (λ (w : FileTree). is_folder (entry_at w c.args.at.now) ≡ true)
    (told_changed _ _ before.0 u (FolderMade c.args.at.now) (c.in_ok-make_dir.ensures.done c.in-New.is before.0 before.1).told before.1 now)
    (made_is_folder before.0 c.args.at.now)

pub returns-in_err-copy-in_default-clause-never_vanished : goal.returns-in_err-copy-in_default-clause-never_vanished
returns-in_err-copy-in_default-clause-never_vanished g c =
    let p = err_from_is_err_and c.from_residual-in_err-copy-in_default.result c.from_residual-in_err-copy-in_default.ensures.1 in rw (p.1, p.2) (λ t told none above. refl)

pub returns-in_ok-copy-in_default-clause-never_vanished : goal.returns-in_ok-copy-in_default-clause-never_vanished
returns-in_ok-copy-in_default-clause-never_vanished g c = λ t told none above.
    absurd (c.in_default.not-New (new_folder t c.args.at.now c.in_ok-make_dir.field-0 (c.in_ok-make_dir.ensures.answer t told) none above))
