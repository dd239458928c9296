use Rattle.std.proofs.Common.{ℕ, ◌++◌, List, sym, ap, ◌∙◌}
use Rattle.std.proofs.lemmas.Result.{IfOk-weaker}
use Rattle.stage_job.specs.Checked.{bytes_checked, part_checked}
use Rattle.stage_job.specs.declared.job.Source.{Source}
use Rattle.stage_job.proofs.Exits.{answer_same}
use Rattle.package_moves.proofs.BesideSteps.{bytes_stand, copy_stands}
use Rattle.package_moves.proofs.beside.stands.Goals as goal

pub returns-in-Copy-clause-checked : goal.returns-in-Copy-clause-checked
unfolding part_checked
returns-in-Copy-clause-checked g c = λ t told.
    answer_same _ _ c.walk_package.new.counts.left.left c.walk_package.result
    (ap (λ (s : Source). part_checked t (c.args.project.now ++ c.args.part.now.target) s c.args.counts.now.left.left) (sym c.in-Copy.is)) (c.walk_package.ensures.checked t told)

pub returns-in-Copy-clause-walked : goal.returns-in-Copy-clause-walked
returns-in-Copy-clause-walked g c = IfOk-weaker c.walk_package.result _ _ (λ alike walked t told.
    copy_stands c.args.project.now t c.args.part.now _ c.in_ok-to.ensures _ _ alike c.args.counts.now c.walk_package.new.counts c.in-Copy.is (walked t told))
    c.walk_package.ensures.walked

pub returns-in-Bytes-clause-checked : goal.returns-in-Bytes-clause-checked
unfolding part_checked
returns-in-Bytes-clause-checked g c = λ t told.
    let left = c.args.counts.now.left.left in
    answer_same _ _ left c.look_at_bytes.result
    (ap (λ (p : List (List ℕ)). bytes_checked p c.as_slice.result.now left) c.in_ok-to.ensures
    ∙ ap (λ (x : List ℕ). bytes_checked (c.args.project.now ++ c.args.part.now.target) x left) c.as_slice.ensures
    ∙ ap (λ (s : Source). part_checked t (c.args.project.now ++ c.args.part.now.target) s left) (sym c.in-Bytes.is))
    (c.look_at_bytes.ensures.checked t told left)

pub returns-in-Bytes-clause-walked : goal.returns-in-Bytes-clause-walked
returns-in-Bytes-clause-walked g c = IfOk-weaker c.look_at_bytes.result _ _ (λ alike holds t told.
    bytes_stand c.args.project.now t c.args.part.now _ c.in_ok-to.ensures _ alike c.args.counts.now (g.met.T.Tree.tells_trees c.args.tree.now t told) c.in-Bytes.is (rw c.as_slice.ensures at (holds t told)))
    c.look_at_bytes.ensures.holds
