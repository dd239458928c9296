use Rattle.std.proofs.Common.{◌≡◌, ℕ, List, [], ◌∷◌, ◌++◌, take, sym, ap, subst, ◌∙◌, append-nil, append_assoc, arith, refl}
use Rattle.std.proofs.lemmas.List.{take_all, take_more}
use Rattle.tree_dev.specs.Trees.{FileTree}
use Rattle.stage_job.specs.Above.{MakesFolders}
use Rattle.stage_job.proofs.AboveSteps.{can_make_next, nothing_made, one_folder_more, place_above, place_free}
use Rattle.stage_job.proofs.Exits.{fault_answer, memory_exit, passed_exit}
use Rattle.stage_job.proofs.StagingRules.{staging_on, staging_start, told_after, told_before}
use Rattle.stage_job.proofs.above.make_way.Goals as goal
use Rattle.stage_job.proofs.above.make_way.Goals.{In_ok-enter}
use Rattle.stage_job.proofs.Made.{same_some}

-- where the path has come to
at_is : (g : _) (c : In_ok-enter g) → c.enter.new.self ≡ (c.args.base.now ++ take c.loop-name.name-index c.args.names.now) ++ c.name-item.result ∷ []
at_is g c = c.in_ok-enter.ensures.entered ∙ ap (λ (p : List (List ℕ)). p ++ c.as_slice.result.now ∷ []) c.loop-name.invariant.at
    ∙ ap (λ (n : List ℕ). (c.args.base.now ++ take c.loop-name.name-index c.args.names.now) ++ n ∷ []) c.as_slice.ensures

pub returns-in_err-at-clause-staging : goal.returns-in_err-at-clause-staging
returns-in_err-at-clause-staging g c = λ project can. memory_exit c.from_residual.result c.from_residual.ensures.1 (staging_start)

pub loop-name-init : goal.loop-name-init
loop-name-init g c = record {
  staging = λ project can. staging_start;
  tells = refl;
  at = c.in_ok-at.ensures ∙ sym (append-nil c.args.base.now);
  made = λ t told u now. subst (λ (v : FileTree). MakesFolders c.args.base.now [] t v) (same_some t u (sym told ∙ now)) (nothing_made c.args.base.now t);
  writes = refl;
}

pub ensure_folder-requires : goal.ensure_folder-requires
ensure_folder-requires g c =
    let is = at_is g (goal.at.ensure_folder-requires g c).In_ok-enter in
    record {
      above = λ m told_m.
          let b = told_before (g.T.Tree.meaning c.args.tree.now).told c.loop-name.invariant.tells m told_m in
          rw is (place_above c.args.base.now c.args.names.now c.loop-name.name-index c.name-item.result b.0 m c.loop-name-test.true c.name-item.is (c.requires.way b.0 b.1) (c.loop-name.invariant.made b.0 b.1 m told_m));
      free = λ m told_m.
          let b = told_before (g.T.Tree.meaning c.args.tree.now).told c.loop-name.invariant.tells m told_m in
          rw is (place_free c.args.base.now c.args.names.now c.loop-name.name-index c.name-item.result b.0 m c.loop-name-test.true c.name-item.is (c.requires.way b.0 b.1) (c.loop-name.invariant.made b.0 b.1 m told_m));
    }

pub returns-in_err-enter-clause-staging : goal.returns-in_err-enter-clause-staging
returns-in_err-enter-clause-staging g c = λ project can.
    memory_exit c.from_residual-in_err-enter.result c.from_residual-in_err-enter.ensures.1 (c.loop-name.invariant.staging project can)

pub returns-in_err-ensure_folder-clause-staging : goal.returns-in_err-ensure_folder-clause-staging
returns-in_err-ensure_folder-clause-staging g c = λ project can.
    let here = can_make_next c.args.base.now c.args.names.now c.loop-name.name-index c.name-item.result c.loop-name-test.true c.name-item.is project can in
    passed_exit c.from_residual-in_err-ensure_folder.result c.in_err-ensure_folder.field-0.0 c.from_residual-in_err-ensure_folder.ensures.1 (staging_on
    (c.in_err-ensure_folder.ensures.staging project (rw (at_is g (goal.at.returns-in_err-ensure_folder-clause-staging g c).In_ok-enter) here)) (c.loop-name.invariant.staging project can))

pub returns-in_err-ensure_folder-clause-answer : goal.returns-in_err-ensure_folder-clause-answer
returns-in_err-ensure_folder-clause-answer g c = λ t told left.
    let m = told_after (g.T.Tree.meaning c.loop-name.tree).told c.loop-name.invariant.tells t told in
    fault_answer _ _ c.from_residual-in_err-ensure_folder.result c.in_err-ensure_folder.field-0.0 c.from_residual-in_err-ensure_folder.ensures.1 (c.in_err-ensure_folder.ensures.answer m.0 m.1 left)

pub loop-name-preserved : goal.loop-name-preserved
loop-name-preserved g c =
    let is = at_is g (goal.at.loop-name-preserved g c).In_ok-enter in
    record {
      staging = λ project can.
          let here = can_make_next c.args.base.now c.args.names.now c.loop-name.name-index c.name-item.result c.loop-name-test.true c.name-item.is project can in
          staging_on (c.in_ok-ensure_folder.ensures.staging project (rw is here)) (c.loop-name.invariant.staging project can);
      tells = c.ensure_folder.ensures.tells ∙ c.loop-name.invariant.tells;
      at = is ∙ append_assoc c.args.base.now (take c.loop-name.name-index c.args.names.now) (c.name-item.result ∷ [])
          ∙ ap (λ (ns : List (List ℕ)). c.args.base.now ++ ns) (sym (take_more c.args.names.now c.loop-name.name-index c.name-item.result c.loop-name-test.true ∙ ap (λ (n : List ℕ). take c.loop-name.name-index c.args.names.now ++ n ∷ []) (sym c.name-item.is)));
      made = λ t told u now.
          let m = told_after (g.T.Tree.meaning c.loop-name.tree).told c.loop-name.invariant.tells t told in
          one_folder_more c.args.base.now c.args.names.now c.loop-name.name-index c.name-item.result t m.0 c.loop-name-test.true c.name-item.is (c.requires.way t told) (c.loop-name.invariant.made t told m.0 m.1) u
          (rw is at (c.in_ok-ensure_folder.ensures.made m.0 m.1 u now));
      writes = c.ensure_folder.ensures.writes ∙ c.loop-name.invariant.writes;
    }

pub returns-clause-staging : goal.returns-clause-staging
returns-clause-staging g c = λ project can. c.loop-name.invariant.staging project can

pub returns-clause-made : goal.returns-clause-made
returns-clause-made g c = λ t told u now.
    subst (λ (ns : List (List ℕ)). MakesFolders c.args.base.now ns t u) (take_all c.loop-name.name-index c.args.names.now (omega (arith, c.loop-name-test.false))) (c.loop-name.invariant.made t told u now)
