use Rattle.std.proofs.Common.{◌∙◌, refl}
use Rattle.std.proofs.lemmas.Result.{err_from_is_err_and, on_ok_weaker}
use Rattle.install_world.proofs.FinishSteps.{made_on, made_read}
use Rattle.install_world.proofs.RemovalRules.{writes_none_on, writes_none_read, writes_none_start}
use Rattle.std.proofs.Common.{ap, ◌++◌}
use Rattle.std.specs.FinMap as map
use Rattle.tree_dev.specs.Trees.{FileTree}
use Rattle.install_world.proofs.PartDone.{reads_same}
use Rattle.install_world.proofs.parts.make_needed.Goals as goal

pub returns-in_err-needed-clause-writes_none : goal.returns-in_err-needed-clause-writes_none
returns-in_err-needed-clause-writes_none g c =
    let p = err_from_is_err_and c.from_residual.result c.from_residual.ensures.1 in
    rw (p.1, p.2) (writes_none_read _ _ _ _ c.in_err-needed.ensures.only_read (writes_none_start _))

pub returns-in_err-needed-clause-makes : goal.returns-in_err-needed-clause-makes
returns-in_err-needed-clause-makes g c = made_read _ _ _ _ c.is_to_be_put.ensures.only_read

pub returns-in_err-needed-clause-still : goal.returns-in_err-needed-clause-still
returns-in_err-needed-clause-still g c = λ t told there. c.is_to_be_put.ensures.only_read.disks

pub returns-in_err-needed-clause-fits : goal.returns-in_err-needed-clause-fits
returns-in_err-needed-clause-fits g c = let p = err_from_is_err_and c.from_residual.result c.from_residual.ensures.1 in rw (p.1, p.2) (λ t told there. refl)

pub returns-then-needed-clause-writes_none : goal.returns-then-needed-clause-writes_none
returns-then-needed-clause-writes_none g c =
    writes_none_on _ _ _ _ c.make_parents.ensures.writes_none (writes_none_read _ _ _ _ c.in_ok-needed.ensures.only_read (writes_none_start _))

pub returns-then-needed-clause-makes : goal.returns-then-needed-clause-makes
returns-then-needed-clause-makes g c = made_on _ _ _ _ (made_read _ _ _ _ c.is_to_be_put.ensures.only_read) c.make_parents.ensures.makes

pub returns-then-needed-clause-still : goal.returns-then-needed-clause-still
returns-then-needed-clause-still g c = λ t told there.
    c.make_parents.ensures.still t (c.is_to_be_put.ensures.only_read.told ∙ told) there ∙ c.is_to_be_put.ensures.only_read.disks

pub returns-then-needed-clause-fits : goal.returns-then-needed-clause-fits
returns-then-needed-clause-fits g c = λ t told there. c.make_parents.ensures.fits t (c.is_to_be_put.ensures.only_read.told ∙ told) there

pub returns-clause-writes_none : goal.returns-clause-writes_none
returns-clause-writes_none g c = writes_none_read _ _ _ _ c.in_ok-needed.ensures.only_read (writes_none_start _)

pub returns-clause-makes : goal.returns-clause-makes
returns-clause-makes g c = made_read _ _ _ _ c.is_to_be_put.ensures.only_read

pub returns-clause-still : goal.returns-clause-still
returns-clause-still g c = λ t told there. c.is_to_be_put.ensures.only_read.disks

pub returns-in_err-needed-clause-never_vanished : goal.returns-in_err-needed-clause-never_vanished
returns-in_err-needed-clause-never_vanished g c = let p = err_from_is_err_and c.from_residual.result c.from_residual.ensures.1 in rw (p.1, p.2) (λ t told folder. refl)

pub returns-then-needed-clause-never_vanished : goal.returns-then-needed-clause-never_vanished
returns-then-needed-clause-never_vanished g c = λ t told folder. c.make_parents.ensures.never_vanished t (c.is_to_be_put.ensures.only_read.told ∙ told) folder

pub returns-then-needed-clause-there : goal.returns-then-needed-clause-there
returns-then-needed-clause-there g c = on_ok_weaker c.make_parents.result
    (λ there t told folder some goes staged u now. there t (c.is_to_be_put.ensures.only_read.told ∙ told) folder some u now)
    c.make_parents.ensures.there

pub returns-clause-there : goal.returns-clause-there
returns-clause-there g c = λ t told folder some goes staged u now. absurd (c.in_ok-needed.ensures.needed c.if-needed.false t told goes staged)

pub returns-then-needed-clause-above : goal.returns-then-needed-clause-above
returns-then-needed-clause-above g c = λ at is.
    let put = c.in_ok-needed.ensures.put c.if-needed.true in
    (put.0, c.make_parents.ensures.above at is, put.1)

pub returns-in_err-needed-clause-misses : goal.returns-in_err-needed-clause-misses
returns-in_err-needed-clause-misses g c = ap (λ (w : FileTree). map.get w (c.args.project.now ++ c.args.target.now.path)) (reads_same _ _ _ c.is_to_be_put.ensures.only_read)

pub returns-then-needed-clause-misses : goal.returns-then-needed-clause-misses
returns-then-needed-clause-misses g c =
    c.make_parents.ensures.misses ∙ ap (λ (w : FileTree). map.get w (c.args.project.now ++ c.args.target.now.path)) (reads_same _ _ _ c.is_to_be_put.ensures.only_read)

pub returns-clause-misses : goal.returns-clause-misses
returns-clause-misses g c = ap (λ (w : FileTree). map.get w (c.args.project.now ++ c.args.target.now.path)) (reads_same _ _ _ c.is_to_be_put.ensures.only_read)
