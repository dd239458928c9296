use Rattle.std.specs.Prelude.{◌⊎◌, IsTrue}
use Rattle.std.proofs.Common.{Bool, Err, sym, ap, ◌∙◌, subst}
use Rattle.tree_dev.specs.Device.{OnlyRead}
use Rattle.manifest_read.specs.declared.types.Manifest.{Manifest}
use Rattle.pkg_pool.specs.Pools.{Loaded, pool_of_tree}
use Rattle.run_answers.specs.Faults.{is_free, is_of_device}
use Rattle.run_answers.specs.Steps.{TellsOne}
use Rattle.run_answers.specs.declared.refusal.Refusal.{Refusal}
use Rattle.install_choice.specs.Planning.{IsChosenByPlan, IsChosenFrom, IsChosenOf}
use Rattle.install_choice.specs.Refusals.{or_not_loaded, refusal_of_pool}
use Rattle.install_choice.specs.Sequences.{Is}
use Rattle.install_choice.proofs.PoolFaults.{pool_device, pool_told}
use Rattle.install_choice.proofs.Sequencing.{also_left, exactly_refused, stopped, went}
use Rattle.install_choice.proofs.planning.chosen_for_root.Goals as goal

pub returns-in-Ok-clause-told : goal.returns-in-Ok-clause-told
unfolding IsChosenByPlan
returns-in-Ok-clause-told g c = λ t told documented.
    let at = c.args.project.now in
    let root = c.args.root in
    let left = c.load.new.left.left in
    let loaded : Loaded = record { pool = c.in-Ok.pool; left = left } in
    let read = c.in-Ok.ensures.exact t told in
    let known = c.pools_are_documented.ensures t at root c.args.left.now.left loaded documented.root read in
    went (Is (or_not_loaded (pool_of_tree t at root c.args.left.now.left))) (IsChosenFrom root c.args.hash) loaded (λ chosen. (chosen, left)) c.chosen_from.result
    (sym (ap or_not_loaded read))
    (also_left left (IsChosenOf root c.in-Ok.pool c.args.hash) (λ chosen. chosen) c.chosen_from.result
    (subst (λ (copied : Manifest). TellsOne (λ chosen. chosen) (IsChosenOf copied c.in-Ok.pool c.args.hash) c.chosen_from.result) c.requires.same (c.chosen_from.ensures.told known documented.hash)))

pub returns-in-Err-clause-told : goal.returns-in-Err-clause-told
unfolding IsChosenByPlan
returns-in-Err-clause-told g c = λ t told documented.
    let at = c.args.project.now in
    let root = c.args.root in
    let left = c.args.left.now.left in
    let wanted = pool_of_tree t at root left in
    subst (λ (r : Refusal). IsTrue (is_free r) ⊎ IsChosenByPlan t at root c.args.hash left (Err r)) (sym c.refusal_of_pool.ensures)
    (stopped (Is (or_not_loaded wanted)) (IsChosenFrom root c.args.hash) (refusal_of_pool c.in-Err.fault)
    (exactly_refused (or_not_loaded wanted) (refusal_of_pool c.in-Err.fault) (pool_told wanted c.in-Err.fault (c.in-Err.ensures.exact t told))))

pub returns-in-Err-clause-only_read : goal.returns-in-Err-clause-only_read
returns-in-Err-clause-only_read g c =
    subst (λ (failed : Bool). OnlyRead (g.T.Tree.meaning c.args.tree.now) (g.T.Tree.meaning c.load.new.tree) failed)
    (pool_device c.in-Err.fault ∙ ap is_of_device (sym c.refusal_of_pool.ensures)) c.in-Err.ensures.only_read
