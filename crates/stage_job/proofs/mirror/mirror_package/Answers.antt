use Rattle.tree_dev.proofs.Snoc.{not_root_behind}
use Rattle.stage_job.proofs.FileCounts.{names_files_alike}
use Rattle.stage_job.specs.Written.{files_of_names, package_files}
use Rattle.stage_job.proofs.WriteSteps.{none_writes, writes_same, writes_then}
use Rattle.std.proofs.Common.{ℕ, List, Ok, filter, sym, ap, subst, ◌∙◌, arith}
use Rattle.std.specs.Prelude.{IfSome}
use Rattle.std.proofs.lemmas.Result.{on_ok_weaker}
use Rattle.tree_dev.specs.Trees.{IsListing}
use Rattle.tree_dev.specs.declared.limits.TheConstants.{DEPTH}
use Rattle.stage_job.specs.Faults.{refused}
use Rattle.stage_job.specs.Checked.{each_checked, entry_checked, folder_checked, package_checked, passes_top, source_kind_checked}
use Rattle.stage_job.specs.Copied.{Lists}
use Rattle.stage_job.specs.declared.fault.StageFault.TheVariants as faults
use Rattle.stage_job.proofs.Below.{staged_in_new}
use Rattle.stage_job.proofs.CopySteps.{empty_folder, source_kept}
use Rattle.stage_job.proofs.Exits.{answer_same, fault_answer, memory_exit, passed_exit, refuses_on}
use Rattle.stage_job.proofs.MirrorSteps.{listed_source, names_checked, package_copied, package_refusal, top_names_there}
use Rattle.stage_job.proofs.NameLoop.{top_listing}
use Rattle.stage_job.proofs.StagingRules.{staging_on, staging_read, told_after, told_before}
use Rattle.stage_job.proofs.mirror.mirror_package.Goals as goal

pub returns-in_err-list_names-clause-staging : goal.returns-in_err-list_names-clause-staging
returns-in_err-list_names-clause-staging g c = λ project in_new. passed_exit c.from_residual.result c.in_err-list_names.field-0.0 c.from_residual.ensures.1
    (staging_read c.in_err-list_names.ensures.only_read)

pub returns-in_err-list_names-clause-checked : goal.returns-in_err-list_names-clause-checked
unfolding package_checked
returns-in_err-list_names-clause-checked g c = λ t told. fault_answer _ _ c.from_residual.result c.in_err-list_names.field-0.0 c.from_residual.ensures.1
    (package_refusal (entry_checked DEPTH t) t c.args.from.now c.args.left.now.left c.list_names.new.left.left c.in_err-list_names.field-0.0 (c.in_err-list_names.ensures.answer t told))

pub returns-in_err-copy_of-in-None-clause-staging : goal.returns-in_err-copy_of-in-None-clause-staging
returns-in_err-copy_of-in-None-clause-staging g c = λ project in_new.
    memory_exit c.from_residual-in_err-copy_of-in-None.result c.from_residual-in_err-copy_of-in-None.ensures.1 (staging_read c.in_ok-list_names.ensures.only_read)

pub returns-in_ok-copy_of-in-None-clause-staging : goal.returns-in_ok-copy_of-in-None-clause-staging
returns-in_ok-copy_of-in-None-clause-staging g c = λ project in_new. staging_read c.in_ok-list_names.ensures.only_read

pub returns-in_ok-copy_of-in-None-clause-checked : goal.returns-in_ok-copy_of-in-None-clause-checked
unfolding package_checked
returns-in_ok-copy_of-in-None-clause-checked g c = λ t told.
    let none = subst (λ o. Lists t c.args.from.now c.args.left.now.left c.list_names.new.left.left (Ok o)) c.in-None.is (c.in_ok-list_names.ensures.answer t told) in
    ap (source_kind_checked (folder_checked (entry_checked DEPTH t) passes_top t c.args.from.now c.args.left.now.left) c.args.from.now) none
    ∙ ap (λ (text : List ℕ). refused (faults.MissingPath text)) (sym (c.in_ok-copy_of-in-None.ensures ∙ c.text.ensures.value))

pub returns-in_err-make_folder-in-Some-clause-staging : goal.returns-in_err-make_folder-in-Some-clause-staging
returns-in_err-make_folder-in-Some-clause-staging g c = λ project in_new.
    passed_exit c.from_residual-in_err-make_folder-in-Some.result c.in_err-make_folder-in-Some.field-0.0 c.from_residual-in_err-make_folder-in-Some.ensures.1 (staging_on
    (c.in_err-make_folder-in-Some.ensures.staging project (staged_in_new project c.args.to.now in_new)) (staging_read c.in_ok-list_names.ensures.only_read))

pub returns-in_err-make_folder-in-Some-clause-checked : goal.returns-in_err-make_folder-in-Some-clause-checked
returns-in_err-make_folder-in-Some-clause-checked g c = λ t told.
    fault_answer _ _ c.from_residual-in_err-make_folder-in-Some.result c.in_err-make_folder-in-Some.field-0.0 c.from_residual-in_err-make_folder-in-Some.ensures.1
    (refuses_on c.in_err-make_folder-in-Some.field-0.0 (Ok 0) _ (λ e. absurd cc) (c.in_err-make_folder-in-Some.ensures.answer t (c.in_ok-list_names.ensures.only_read.told ∙ told) 0))

pub returns-in_err-names-in-Some-clause-staging : goal.returns-in_err-names-in-Some-clause-staging
returns-in_err-names-in-Some-clause-staging g c = λ project in_new. memory_exit c.from_residual-in_err-names-in-Some.result c.from_residual-in_err-names-in-Some.ensures.1
    (staging_on (c.in_ok-make_folder-in-Some.ensures.staging project (staged_in_new project c.args.to.now in_new)) (staging_read c.in_ok-list_names.ensures.only_read))

pub make_folder-requires : goal.make_folder-requires
make_folder-requires g c = record { free = λ t told. c.requires.free t (sym c.in_ok-list_names.ensures.only_read.told ∙ told) }

pub mirror_names-requires : goal.mirror_names-requires
mirror_names-requires g c =
    let listing = subst (λ o. IfSome o IsListing) c.in-Some.is c.in_ok-list_names.ensures.listing in
    record {
      apart = c.requires.apart;
      listing = rw (c.as_slice-in-Some.ensures.value, c.in_ok-names-in-Some.ensures, c.as_slice.ensures) (top_listing _ listing);
      there = λ m told_m.
          let b = told_before (g.T.Tree.meaning c.list_names.new.tree).told c.make_folder.ensures.tells m told_m in
          let told = sym c.in_ok-list_names.ensures.only_read.told ∙ b.1 in
          let listed = subst (λ o. Lists b.0 c.args.from.now c.args.left.now.left c.list_names.new.left.left (Ok o)) c.in-Some.is (c.in_ok-list_names.ensures.answer b.0 told) in
          rw (c.as_slice-in-Some.ensures.value, c.in_ok-names-in-Some.ensures, c.as_slice.ensures)
          (top_names_there DEPTH c.args.from.now c.args.to.now b.0 m c.requires.apart (c.in_ok-make_folder-in-Some.ensures.made b.0 b.1 m told_m) _ listed.names_are);
      empty = λ m told_m.
          let b = told_before (g.T.Tree.meaning c.list_names.new.tree).told c.make_folder.ensures.tells m told_m in
          empty_folder c.args.to.now b.0 m (c.in_ok-make_folder-in-Some.ensures.made b.0 b.1 m told_m);
    }

pub returns-in_ok-names-in-Some-clause-staging : goal.returns-in_ok-names-in-Some-clause-staging
returns-in_ok-names-in-Some-clause-staging g c = λ project in_new. staging_on (c.mirror_names.ensures.staging project in_new) (staging_on
    (c.in_ok-make_folder-in-Some.ensures.staging project (staged_in_new project c.args.to.now in_new)) (staging_read c.in_ok-list_names.ensures.only_read))

pub returns-in_ok-names-in-Some-clause-checked : goal.returns-in_ok-names-in-Some-clause-checked
unfolding package_checked
returns-in_ok-names-in-Some-clause-checked g c = λ t told.
    let there = c.in_ok-list_names.ensures.only_read.told ∙ told in
    let m = told_after (g.T.Tree.meaning c.make_folder.new.tree).told c.make_folder.ensures.tells t there in
    let listed = subst (λ o. Lists t c.args.from.now c.args.left.now.left c.list_names.new.left.left (Ok o)) c.in-Some.is (c.in_ok-list_names.ensures.answer t told) in
    answer_same _ _ c.mirror_names.new.left.left c.mirror_names.result
    (names_checked DEPTH c.args.from.now c.args.to.now t m.0 c.requires.apart (c.in_ok-make_folder-in-Some.ensures.made t there m.0 m.1) c.as_slice-in-Some.result.now c.list_names.new.left.left
    ∙ ap (λ (ns : List (List ℕ)). each_checked (entry_checked DEPTH t) c.args.from.now ns c.list_names.new.left.left) (c.as_slice-in-Some.ensures.value ∙ c.in_ok-names-in-Some.ensures ∙ ap (filter passes_top) c.as_slice.ensures)
    ∙ sym (listed_source (entry_checked DEPTH t) t c.args.from.now _ c.args.left.now.left c.list_names.new.left.left listed)) (c.mirror_names.ensures.checked m.0 m.1)

pub returns-in_ok-names-in-Some-clause-copied : goal.returns-in_ok-names-in-Some-clause-copied
returns-in_ok-names-in-Some-clause-copied g c = on_ok_weaker c.mirror_names.result (λ copied t told u now.
    let there = c.in_ok-list_names.ensures.only_read.told ∙ told in
    let m = told_after (g.T.Tree.meaning c.make_folder.new.tree).told c.make_folder.ensures.tells t there in
    let listed = subst (λ o. Lists t c.args.from.now c.args.left.now.left c.list_names.new.left.left (Ok o)) c.in-Some.is (c.in_ok-list_names.ensures.answer t told) in
    package_copied c.args.from.now c.args.to.now _ t m.0 u c.requires.apart (g.met.T.Tree.tells_trees c.args.tree.now t told) listed.folder (c.as_slice.ensures ∙ listed.names_are)
    (c.in_ok-make_folder-in-Some.ensures.made t there m.0 m.1) (rw (c.as_slice-in-Some.ensures.value, c.in_ok-names-in-Some.ensures) at (copied m.0 m.1 u now)))
    c.mirror_names.ensures.copied

-- ---- calls of write

pub returns-in_err-list_names-clause-writes : goal.returns-in_err-list_names-clause-writes
returns-in_err-list_names-clause-writes g c = λ t told. none_writes c.from_residual.result _ _ _ _ c.from_residual.ensures.1 c.in_err-list_names.ensures.only_read.writes

pub returns-in_err-copy_of-in-None-clause-writes : goal.returns-in_err-copy_of-in-None-clause-writes
returns-in_err-copy_of-in-None-clause-writes g c = λ t told. none_writes c.from_residual-in_err-copy_of-in-None.result _ _ _ _ c.from_residual-in_err-copy_of-in-None.ensures.1 c.in_ok-list_names.ensures.only_read.writes

pub returns-in_ok-copy_of-in-None-clause-writes : goal.returns-in_ok-copy_of-in-None-clause-writes
returns-in_ok-copy_of-in-None-clause-writes g c = λ t told. omega (arith, c.in_ok-list_names.ensures.only_read.writes)

pub returns-in_err-make_folder-in-Some-clause-writes : goal.returns-in_err-make_folder-in-Some-clause-writes
returns-in_err-make_folder-in-Some-clause-writes g c = λ t told. none_writes c.from_residual-in_err-make_folder-in-Some.result _ _ _ _ c.from_residual-in_err-make_folder-in-Some.ensures.1
    (c.make_folder.ensures.writes ∙ c.in_ok-list_names.ensures.only_read.writes)

pub returns-in_err-names-in-Some-clause-writes : goal.returns-in_err-names-in-Some-clause-writes
returns-in_err-names-in-Some-clause-writes g c = λ t told. none_writes c.from_residual-in_err-names-in-Some.result _ _ _ _ c.from_residual-in_err-names-in-Some.ensures.1
    (c.make_folder.ensures.writes ∙ c.in_ok-list_names.ensures.only_read.writes)

pub returns-in_ok-names-in-Some-clause-writes : goal.returns-in_ok-names-in-Some-clause-writes
unfolding package_files
returns-in_ok-names-in-Some-clause-writes g c = λ t told.
    let there = c.in_ok-list_names.ensures.only_read.told ∙ told in
    let m = told_after (g.T.Tree.meaning c.make_folder.new.tree).told c.make_folder.ensures.tells t there in
    let listed = subst (λ o. Lists t c.args.from.now c.args.left.now.left c.list_names.new.left.left (Ok o)) c.in-Some.is (c.in_ok-list_names.ensures.answer t told) in
    writes_same c.mirror_names.result _ _ _ _
    (names_files_alike DEPTH c.args.from.now c.as_slice-in-Some.result.now t m.0 (not_root_behind c.args.from.now c.args.to.now c.requires.apart.0)
    (source_kept c.args.from.now c.args.to.now t m.0 _ c.requires.apart (c.in_ok-make_folder-in-Some.ensures.made t there m.0 m.1))
    ∙ ap (λ (names : List (List ℕ)). files_of_names DEPTH t c.args.from.now names) (c.as_slice-in-Some.ensures.value ∙ c.in_ok-names-in-Some.ensures ∙ ap (filter passes_top) (c.as_slice.ensures ∙ listed.names_are)))
    (writes_then c.mirror_names.result _ _ _ _ (c.make_folder.ensures.writes ∙ c.in_ok-list_names.ensures.only_read.writes) (c.mirror_names.ensures.writes m.0 m.1))
