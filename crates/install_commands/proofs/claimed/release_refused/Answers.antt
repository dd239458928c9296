use Rattle.std.specs.Prelude.{IsTrue}
use Rattle.std.proofs.Common.{◌≡◌, ◌∙◌, Option, Some, sym, subst, inl, inr}
use Rattle.tree_dev.specs.Trees.{FileTree}
use Rattle.tree_dev.specs.Projects.{work_path}
use Rattle.tree_dev.proofs.SteadyRules.{steady_start}
use Rattle.install_world.specs.Removals.{OnlyRemoved}
use Rattle.install_world.proofs.RemovalRules.{removed_itself}
use Rattle.run_answers.specs.Faults.{is_free, is_of_device}
use Rattle.run_answers.specs.declared.refusal.Refusal.{Refusal}
use Rattle.install_commands.proofs.Faults.{claim_device, free_or_lost, not_free}
use Rattle.install_commands.proofs.ToldEnds.{told_removed}
use Rattle.install_commands.proofs.claimed.release_refused.Goals as goal

pub returns-in-Err-clause-told : goal.returns-in-Err-clause-told
returns-in-Err-clause-told g c = λ t told stands.
    inl (subst (λ (r : Refusal). IsTrue (is_free r)) (sym c.refusal_of_claim.ensures) (free_or_lost c.in-Err.fault (c.in-Err.ensures.never_vanished t told stands)))

pub returns-in-Err-clause-released : goal.returns-in-Err-clause-released
returns-in-Err-clause-released g c = λ t told stands.
    not_free c.refusal_of_claim.result
    (subst (λ (r : Refusal). IsTrue (is_free r)) (sym c.refusal_of_claim.ensures) (free_or_lost c.in-Err.fault (c.in-Err.ensures.never_vanished t told stands)))

pub returns-in-Err-clause-device : goal.returns-in-Err-clause-device
returns-in-Err-clause-device g c = λ failed.
    inr (c.in-Err.ensures.writes_none.cause (claim_device c.in-Err.fault (subst (λ (r : Refusal). IsTrue (is_of_device r)) c.refusal_of_claim.ensures failed)))

pub returns-in-DeviceFault-clause-steady : goal.returns-in-DeviceFault-clause-steady
returns-in-DeviceFault-clause-steady g c = steady_start c.args.hold.project (g.T.Tree.meaning c.args.tree.now)

-- ---- the tree that is told

pub returns-in-Ok-clause-stays : goal.returns-in-Ok-clause-stays
returns-in-Ok-clause-stays g c = λ t told u now.
    told_removed (work_path c.args.hold.project) (g.T.Tree.meaning c.args.tree.now) (g.T.Tree.meaning c.release.new.tree) t u (g.met.T.Tree.tells_its_disk c.args.tree.now t told)
    (g.met.T.Tree.tells_its_disk c.release.new.tree u now) c.release.ensures.removes

pub returns-in-Err-clause-stays : goal.returns-in-Err-clause-stays
returns-in-Err-clause-stays g c = λ t told u now.
    told_removed (work_path c.args.hold.project) (g.T.Tree.meaning c.args.tree.now) (g.T.Tree.meaning c.release.new.tree) t u (g.met.T.Tree.tells_its_disk c.args.tree.now t told)
    (g.met.T.Tree.tells_its_disk c.release.new.tree u now) c.release.ensures.removes

pub returns-in-DeviceFault-clause-stays : goal.returns-in-DeviceFault-clause-stays
returns-in-DeviceFault-clause-stays g c = λ t told u now. subst (OnlyRemoved (work_path c.args.hold.project) t) (same t u (sym told ∙ now)) (removed_itself (work_path c.args.hold.project) t)
  where
    same : (one other : FileTree) → ◌≡◌ {A = Option FileTree} (Some one) (Some other) → one ≡ other
    same one other e = cc
