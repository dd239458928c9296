use Rattle.std.specs.Prelude.{IsTrue}
use Rattle.std.proofs.Common.{sym, subst, inl}
use Rattle.run_answers.specs.Faults.{is_free, is_of_device}
use Rattle.run_answers.specs.declared.refusal.Refusal.{Refusal}
use Rattle.install_commands.proofs.Faults.{claim_device, free_or_lost}
use Rattle.tree_dev.specs.Projects.{work_path}
use Rattle.install_commands.proofs.ToldEnds.{told_removed}
use Rattle.install_commands.proofs.claimed.release_done.Goals as goal

pub returns-in-Err-clause-told : goal.returns-in-Err-clause-told
returns-in-Err-clause-told g c = λ t told stands.
    inl (subst (λ (r : Refusal). IsTrue (is_free r)) (sym c.refusal_of_claim.ensures) (free_or_lost c.in-Err.fault (c.in-Err.ensures.never_vanished t told stands)))

pub returns-in-Err-clause-device : goal.returns-in-Err-clause-device
returns-in-Err-clause-device g c = λ failed.
    c.in-Err.ensures.writes_none.cause (claim_device c.in-Err.fault (subst (λ (r : Refusal). IsTrue (is_of_device r)) c.refusal_of_claim.ensures failed))

-- ---- the tree that is told

pub returns-in-Ok-clause-stays : goal.returns-in-Ok-clause-stays
returns-in-Ok-clause-stays g c = λ t told u now.
    told_removed (work_path c.args.hold.project) (g.T.Tree.meaning c.args.tree.now) (g.T.Tree.meaning c.release.new.tree) t u (g.met.T.Tree.tells_its_disk c.args.tree.now t told)
    (g.met.T.Tree.tells_its_disk c.release.new.tree u now) c.release.ensures.removes

pub returns-in-Err-clause-stays : goal.returns-in-Err-clause-stays
returns-in-Err-clause-stays g c = λ t told u now.
    told_removed (work_path c.args.hold.project) (g.T.Tree.meaning c.args.tree.now) (g.T.Tree.meaning c.release.new.tree) t u (g.met.T.Tree.tells_its_disk c.args.tree.now t told)
    (g.met.T.Tree.tells_its_disk c.release.new.tree u now) c.release.ensures.removes
