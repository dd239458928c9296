use Rattle.stage_job.proofs.FileCounts.{leaf_files_kept}
use Rattle.stage_job.proofs.WriteSteps.{all_written, item_refused, item_written, none_writes, refused_writes}
use Rattle.stage_job.specs.Written.{after_more, inner_files, leaf_files}
use Rattle.std.proofs.Common.{◌≡◌, ℕ, ◌+◌, ◌<◌, List, [], ◌∷◌, ◌++◌, false, Ok, take, get_or, length, refl, sym, ap, subst, ◌∙◌, arith}
use Rattle.std.proofs.lemmas.List.{take_all, take_more}
use Rattle.tree_dev.specs.Trees.{FileTree}
use Rattle.stage_job.specs.Checked.{leaf_checked}
use Rattle.stage_job.specs.Jobs.{folder_entry, is_itself}
use Rattle.stage_job.specs.Parts.{IsLeafApart}
use Rattle.stage_job.specs.Staged.{Puts}
use Rattle.stage_job.specs.declared.job.Inner.{Inner}
use Rattle.stage_job.proofs.Below.{staged_in_new}
use Rattle.stage_job.proofs.Exits.{fault_answer, passed_exit, refuses_on}
use Rattle.stage_job.proofs.FolderSteps.{AreApartFrom, below_at, earlier_apart, leaf_at, leaf_kept, no_parts, part_free, part_put, part_way}
use Rattle.stage_job.proofs.InnerLoop.{inner_fault, inner_more, inner_all}
use Rattle.stage_job.proofs.StagingRules.{staging_on, told_after, told_before}
use Rattle.stage_job.proofs.part.stage_folder.Goals as goal

-- the parts so far and the next one
next_parts : (to : List (List ℕ)) (inner : List Inner) (i : ℕ) (part : Inner) (t u : FileTree) → i < length inner → part ≡ get_or inner i part → Puts to (folder_entry t (take i inner ++ part ∷ [])) t u → Puts to (folder_entry t (take (i + 1) inner)) t u
next_parts to inner i part t u lt is puts =
    subst (λ (ps : List Inner). Puts to (folder_entry t ps) t u) (sym (take_more inner i part lt ∙ ap (λ (p : Inner). take i inner ++ p ∷ []) (sym is))) puts

pub make_folder-requires : goal.make_folder-requires
make_folder-requires g c = record { free = c.requires.free }

pub returns-in_err-make_folder-clause-staging : goal.returns-in_err-make_folder-clause-staging
returns-in_err-make_folder-clause-staging g c = λ project in_new. passed_exit c.from_residual.result c.in_err-make_folder.field-0.0 c.from_residual.ensures.1
    (c.in_err-make_folder.ensures.staging project (staged_in_new project c.args.to.now in_new))

pub returns-in_err-make_folder-clause-checked : goal.returns-in_err-make_folder-clause-checked
returns-in_err-make_folder-clause-checked g c = λ t told. fault_answer _ _ c.from_residual.result c.in_err-make_folder.field-0.0 c.from_residual.ensures.1
    (refuses_on c.in_err-make_folder.field-0.0 (Ok 0) _ (λ e. absurd cc) (c.in_err-make_folder.ensures.answer t told 0))

pub loop-part-init : goal.loop-part-init
loop-part-init g c = record {
  staging = λ project in_new. c.in_ok-make_folder.ensures.staging project (staged_in_new project c.args.to.now in_new);
  tells = c.make_folder.ensures.tells;
  checked = λ t told. refl;
  put = λ t told u now. no_parts c.args.to.now t u (c.in_ok-make_folder.ensures.made t told u now);
  writes = λ t told. ap (λ (n : ℕ). after_more n (inner_files t c.args.inner.now)) c.make_folder.ensures.writes;
  entries = omega arith;
}

pub stage_inner-requires : goal.stage_inner-requires
stage_inner-requires g c =
    let apart_all = subst (λ (p : Inner). AreApartFrom (take c.loop-part.part-index c.args.inner.now) p) (sym c.part-item.is) (earlier_apart c.args.inner.now c.args.to.now c.loop-part.part-index c.part-item.result c.requires.apart c.loop-part-test.true) in
    let proper = subst (λ (p : Inner). is_itself p.below ≡ false) (sym c.part-item.is) (below_at c.args.inner.now c.args.to.now c.loop-part.part-index c.part-item.result c.requires.apart c.loop-part-test.true) in
    record {
      apart = subst (λ (p : Inner). IsLeafApart p.from c.args.to.now) (sym c.part-item.is) (leaf_at c.args.inner.now c.args.to.now c.loop-part.part-index c.part-item.result c.requires.apart c.loop-part-test.true);
      below = proper;
      way = λ m told_m.
          let b = told_before (g.T.Tree.meaning c.args.tree.now).told c.loop-part.invariant.tells m told_m in
          part_way c.args.to.now (take c.loop-part.part-index c.args.inner.now) c.part-item.result b.0 m (c.loop-part.invariant.put b.0 b.1 m told_m) proper apart_all;
      none = λ m told_m rest.
          let b = told_before (g.T.Tree.meaning c.args.tree.now).told c.loop-part.invariant.tells m told_m in
          part_free c.args.to.now (take c.loop-part.part-index c.args.inner.now) c.part-item.result b.0 m (c.loop-part.invariant.put b.0 b.1 m told_m) proper apart_all rest;
    }

pub returns-in_err-stage_inner-clause-staging : goal.returns-in_err-stage_inner-clause-staging
returns-in_err-stage_inner-clause-staging g c = λ project in_new.
    passed_exit c.from_residual-in_err-stage_inner.result c.in_err-stage_inner.field-0.0 c.from_residual-in_err-stage_inner.ensures.1
    (staging_on (c.in_err-stage_inner.ensures.staging project in_new) (c.loop-part.invariant.staging project in_new))

pub returns-in_err-stage_inner-clause-checked : goal.returns-in_err-stage_inner-clause-checked
returns-in_err-stage_inner-clause-checked g c = λ t told.
    let m = told_after (g.T.Tree.meaning c.loop-part.tree).told c.loop-part.invariant.tells t told in
    let so_far = c.loop-part.invariant.put t told m.0 m.1 in
    let leaf = subst (λ (p : Inner). IsLeafApart p.from c.args.to.now) (sym c.part-item.is) (leaf_at c.args.inner.now c.args.to.now c.loop-part.part-index c.part-item.result c.requires.apart c.loop-part-test.true) in
    fault_answer _ _ c.from_residual-in_err-stage_inner.result c.in_err-stage_inner.field-0.0 c.from_residual-in_err-stage_inner.ensures.1
    (refuses_on c.in_err-stage_inner.field-0.0 (leaf_checked m.0 (c.args.target.now ++ c.part-item.result.below) c.part-item.result.from c.loop-part.left.left) _
    (inner_fault t m.0 c.args.target.now c.args.inner.now c.loop-part.part-index c.part-item.result c.loop-part.left.left _ c.loop-part-test.true c.part-item.is
    (leaf_kept c.part-item.result.from c.args.to.now (c.args.target.now ++ c.part-item.result.below) t m.0 c.loop-part.left.left leaf so_far) (c.loop-part.invariant.checked t told) c.in_err-stage_inner.field-0.0)
    (c.in_err-stage_inner.ensures.checked m.0 m.1))

pub loop-part-preserved : goal.loop-part-preserved
loop-part-preserved g c =
    let apart_all = subst (λ (p : Inner). AreApartFrom (take c.loop-part.part-index c.args.inner.now) p) (sym c.part-item.is) (earlier_apart c.args.inner.now c.args.to.now c.loop-part.part-index c.part-item.result c.requires.apart c.loop-part-test.true) in
    let proper = subst (λ (p : Inner). is_itself p.below ≡ false) (sym c.part-item.is) (below_at c.args.inner.now c.args.to.now c.loop-part.part-index c.part-item.result c.requires.apart c.loop-part-test.true) in
    let leaf = subst (λ (p : Inner). IsLeafApart p.from c.args.to.now) (sym c.part-item.is) (leaf_at c.args.inner.now c.args.to.now c.loop-part.part-index c.part-item.result c.requires.apart c.loop-part-test.true) in
    record {
      staging = λ project in_new. staging_on (c.in_ok-stage_inner.ensures.staging project in_new) (c.loop-part.invariant.staging project in_new);
      tells = c.stage_inner.ensures.tells ∙ c.loop-part.invariant.tells;
      checked = λ t told.
          let m = told_after (g.T.Tree.meaning c.loop-part.tree).told c.loop-part.invariant.tells t told in
          inner_more t m.0 c.args.target.now c.args.inner.now c.loop-part.part-index c.part-item.result c.loop-part.left.left _ c.loop-part-test.true c.part-item.is
          (leaf_kept c.part-item.result.from c.args.to.now (c.args.target.now ++ c.part-item.result.below) t m.0 c.loop-part.left.left leaf (c.loop-part.invariant.put t told m.0 m.1)) (c.loop-part.invariant.checked t told)
          c.stage_inner.new.left.left (c.in_ok-stage_inner.ensures.checked m.0 m.1);
      put = λ t told u now.
          let m = told_after (g.T.Tree.meaning c.loop-part.tree).told c.loop-part.invariant.tells t told in
          next_parts c.args.to.now c.args.inner.now c.loop-part.part-index c.part-item.result t u c.loop-part-test.true c.part-item.is
          (part_put c.args.to.now (take c.loop-part.part-index c.args.inner.now) c.part-item.result t m.0 (c.loop-part.invariant.put t told m.0 m.1) proper apart_all u leaf (c.in_ok-stage_inner.ensures.staged m.0 m.1 u now));
      writes = λ t told.
          let m = told_after (g.T.Tree.meaning c.loop-part.tree).told c.loop-part.invariant.tells t told in
          item_written (λ part. leaf_files t part.from) c.args.inner.now c.loop-part.part-index c.part-item.result
          (g.T.Tree.meaning c.args.tree.now).writes (g.T.Tree.meaning c.loop-part.tree).writes c.loop-part-test.true c.part-item.is (c.loop-part.invariant.writes t told)
          (g.T.Tree.meaning c.stage_inner.new.tree).writes _ (leaf_files_kept c.part-item.result.from c.args.to.now t m.0 leaf (c.loop-part.invariant.put t told m.0 m.1))
          (c.in_ok-stage_inner.ensures.writes m.0 m.1);
      entries = omega (arith, c.stage_inner.ensures.entries, c.loop-part.invariant.entries);
    }

pub returns-clause-checked : goal.returns-clause-checked
returns-clause-checked g c = λ t told.
    inner_all t c.args.target.now c.args.inner.now c.loop-part.part-index c.loop-part.left.left _ (omega (arith, c.loop-part-test.false)) (c.loop-part.invariant.checked t told)

pub returns-clause-staged : goal.returns-clause-staged
returns-clause-staged g c = λ t told u now.
    subst (λ (ps : List Inner). Puts c.args.to.now (folder_entry t ps) t u) (take_all c.loop-part.part-index c.args.inner.now (omega (arith, c.loop-part-test.false))) (c.loop-part.invariant.put t told u now)

-- ---- calls of write

pub returns-in_err-make_folder-clause-writes : goal.returns-in_err-make_folder-clause-writes
returns-in_err-make_folder-clause-writes g c = λ t told. none_writes c.from_residual.result _ _ _ _ c.from_residual.ensures.1 c.make_folder.ensures.writes

pub returns-in_err-stage_inner-clause-writes : goal.returns-in_err-stage_inner-clause-writes
returns-in_err-stage_inner-clause-writes g c = λ t told.
    let m = told_after (g.T.Tree.meaning c.loop-part.tree).told c.loop-part.invariant.tells t told in
    let leaf = subst (λ (p : Inner). IsLeafApart p.from c.args.to.now) (sym c.part-item.is) (leaf_at c.args.inner.now c.args.to.now c.loop-part.part-index c.part-item.result c.requires.apart c.loop-part-test.true) in
    refused_writes c.from_residual-in_err-stage_inner.result _ _ _ _ c.from_residual-in_err-stage_inner.ensures.1
    (item_refused (λ part. leaf_files t part.from) c.args.inner.now c.loop-part.part-index c.part-item.result
    (g.T.Tree.meaning c.args.tree.now).writes (g.T.Tree.meaning c.loop-part.tree).writes c.loop-part-test.true c.part-item.is (c.loop-part.invariant.writes t told)
    (g.T.Tree.meaning c.stage_inner.new.tree).writes _ (leaf_files_kept c.part-item.result.from c.args.to.now t m.0 leaf (c.loop-part.invariant.put t told m.0 m.1))
    (c.in_err-stage_inner.ensures.writes m.0 m.1))

pub returns-clause-writes : goal.returns-clause-writes
returns-clause-writes g c = λ t told.
    all_written (λ part. leaf_files t part.from) c.args.inner.now c.loop-part.part-index _ _ (omega (arith, c.loop-part-test.false)) (c.loop-part.invariant.writes t told)
