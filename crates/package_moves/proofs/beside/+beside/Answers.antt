use Rattle.std.proofs.Common.{ℕ, List, Ok, Result, refl, sym, ap, subst, ◌∙◌, arith}
use Rattle.std.proofs.lemmas.Result.{IfOk-weaker}
use Rattle.std.specs.Prelude.{IfSome}
use Rattle.tree_dev.specs.Device.{only_read_on}
use Rattle.tree_dev.specs.Trees.{IsListing}
use Rattle.tree_dev.specs.declared.limits.LimitKind.TheVariants as limits
use Rattle.stage_job.specs.Checked.{each_checked, entry_checked}
use Rattle.stage_job.specs.Copied.{AreThere, Lists}
use Rattle.stage_job.specs.Faults.{Refuses, refused}
use Rattle.stage_job.specs.declared.fault.StageFault.{StageFault}
use Rattle.stage_job.specs.declared.fault.StageFault.TheVariants as faults
use Rattle.stage_job.proofs.CopySteps.{listed_there}
use Rattle.stage_job.proofs.Exits.{answer_same, fault_answer}
use Rattle.stage_job.proofs.MirrorSteps.{listed_kind}
use Rattle.stage_job.proofs.NameLoop.{named}
use Rattle.stage_job.proofs.ReadAnswers.{all_pass, deep_check, file_check, folder_check, long_check, read_absent, read_file, read_long, read_no_file}
use Rattle.package_moves.proofs.BesideSteps.{checked_more, file_walked, folder_walked, free_answer, listed_walked, names_all, names_more}
use Rattle.package_moves.proofs.Counting.{counted_left}
use Rattle.package_moves.proofs.beside.+beside.Goals as goal

-- ---- an entry

pub walk_entry-returns-in_err-refuse_deep-clause-checked : goal.walk_entry-returns-in_err-refuse_deep-clause-checked
walk_entry-returns-in_err-refuse_deep-clause-checked g t c = λ told_tree told.
    fault_answer _ _ c.from_residual.result c.in_err-refuse_deep.field-0.0 c.from_residual.ensures.1
    (subst (λ (w : Result ℕ StageFault). Refuses c.in_err-refuse_deep.field-0.0 w) (sym (deep_check c.args.levels told_tree c.args.from.now c.args.counts.now.left.left c.if-levels-eq0.true))
    (c.in_err-refuse_deep.ensures.answer told_tree told c.args.counts.now.left.left))

pub walk_entry-walk_folder-requires : goal.walk_entry-walk_folder-requires
walk_entry-walk_folder-requires g t c = λ κs le. (
  omega (arith, c.decreases, c.if-levels-eq0.false),
  (le, (λ told_tree told. read_no_file told_tree c.args.from.now (sym c.in-NotFile.is ∙ c.in_ok-bytes.ensures.answer told_tree (sym c.in_ok-bytes.ensures.only_read.told ∙ told)))),
)

pub walk_entry-returns-in-Bytes-clause-checked : goal.walk_entry-returns-in-Bytes-clause-checked
walk_entry-returns-in-Bytes-clause-checked g t c = λ told_tree told.
    let file = read_file told_tree c.args.from.now _ (sym c.in-Bytes.is ∙ c.in_ok-bytes.ensures.answer told_tree told) in
    free_answer _ c.args.counts.now.left.left c.holds_same.result (file_check c.args.levels told_tree c.args.from.now c.args.counts.now.left.left _ c.if-levels-eq0.false file) c.holds_same.ensures.cause

pub walk_entry-returns-in-Bytes-clause-walked : goal.walk_entry-returns-in-Bytes-clause-walked
walk_entry-returns-in-Bytes-clause-walked g t c = IfOk-weaker c.holds_same.result _ _ (λ alike holds told_tree told.
    let file = read_file told_tree c.args.from.now _ (sym c.in-Bytes.is ∙ c.in_ok-bytes.ensures.answer told_tree told) in
    file_walked c.args.levels told_tree c.args.from.now c.args.to.now _ c.args.same alike c.args.counts.now (g.met.T.Tree.tells_trees c.args.tree.now told_tree told) file.file
    (rw c.as_slice.ensures at (holds told_tree (c.in_ok-bytes.ensures.only_read.told ∙ told))))
    c.holds_same.ensures.holds

pub walk_entry-returns-in-NotFile-clause-checked : goal.walk_entry-returns-in-NotFile-clause-checked
walk_entry-returns-in-NotFile-clause-checked g t c = λ told_tree told.
    answer_same _ _ c.walk_folder.new.counts.left.left c.walk_folder.result (sym (folder_check c.args.levels told_tree c.args.from.now c.args.counts.now.left.left c.if-levels-eq0.false))
    (c.walk_folder.ensures.checked told_tree (c.in_ok-bytes.ensures.only_read.told ∙ told))

pub walk_entry-returns-in_ok-copy-in-TooLong-clause-checked : goal.walk_entry-returns-in_ok-copy-in-TooLong-clause-checked
walk_entry-returns-in_ok-copy-in-TooLong-clause-checked g t c = λ told_tree told.
    long_check c.args.levels told_tree c.args.from.now c.args.counts.now.left.left c.if-levels-eq0.false
    (read_long told_tree c.args.from.now (sym c.in-TooLong.is ∙ c.in_ok-bytes.ensures.answer told_tree told))
    ∙ ap (λ (p : List (List ℕ)). refused (faults.Limit (limits.FileBytes p))) (sym c.in_ok-copy-in-TooLong.ensures)

pub walk_entry-returns-in_ok-copy-in-Absent-clause-checked : goal.walk_entry-returns-in_ok-copy-in-Absent-clause-checked
walk_entry-returns-in_ok-copy-in-Absent-clause-checked g t c = λ told_tree told.
    absurd (read_absent told_tree c.args.from.now (sym c.in-Absent.is ∙ c.in_ok-bytes.ensures.answer told_tree told) (c.requires.there told_tree told))

-- ---- a folder

pub walk_folder-walk_listed-requires : goal.walk_folder-walk_listed-requires
walk_folder-walk_listed-requires g t c = λ κs le.
    let listing = subst (λ o. IfSome o IsListing) c.in-Some.is c.in_ok-list_names.ensures.listing in (
      omega (arith, c.decreases),
      (
        le,
        (
          rw c.as_slice.ensures listing,
          (λ told_tree told.
              let listed = subst (λ o. Lists told_tree c.args.from.now c.args.counts.now.left.left c.list_names.new.left.left (Ok o)) c.in-Some.is
              (c.in_ok-list_names.ensures.answer told_tree (sym c.in_ok-list_names.ensures.only_read.told ∙ told)) in
              subst (λ (ns : List (List ℕ)). AreThere told_tree c.args.from.now ns) (sym (c.as_slice.ensures ∙ listed.names_are)) (listed_there told_tree c.args.from.now)),
        ),
      ),
    )

pub walk_folder-returns-in-Some-clause-checked : goal.walk_folder-returns-in-Some-clause-checked
walk_folder-returns-in-Some-clause-checked g t c = λ told_tree told.
    let listed = subst (λ o. Lists told_tree c.args.from.now c.args.counts.now.left.left c.list_names.new.left.left (Ok o)) c.in-Some.is (c.in_ok-list_names.ensures.answer told_tree told) in
    answer_same _ _ c.walk_listed.new.counts.left.left c.walk_listed.result
    (ap (λ (ns : List (List ℕ)). each_checked (entry_checked c.args.levels told_tree) c.args.from.now ns c.list_names.new.left.left) (c.as_slice.ensures ∙ sym (all_pass _))
    ∙ sym (listed_kind (entry_checked c.args.levels told_tree) told_tree c.args.from.now _ c.args.counts.now.left.left c.list_names.new.left.left listed))
    (c.walk_listed.ensures.checked told_tree (c.in_ok-list_names.ensures.only_read.told ∙ told))

pub walk_folder-returns-in-Some-clause-walked : goal.walk_folder-returns-in-Some-clause-walked
walk_folder-returns-in-Some-clause-walked g t c = IfOk-weaker c.walk_listed.result _ _ (λ alike walked told_tree told.
    let listed = subst (λ o. Lists told_tree c.args.from.now c.args.counts.now.left.left c.list_names.new.left.left (Ok o)) c.in-Some.is (c.in_ok-list_names.ensures.answer told_tree told) in
    folder_walked told_tree c.args.from.now c.args.to.now _ _ c.args.same alike c.args.counts.now _ c.walk_listed.new.counts _ _ (g.met.T.Tree.tells_trees c.args.tree.now told_tree told) listed
    (counted_left c.args.counts.now _ refl refl c.in_ok-list_names.ensures.entries) c.args.levels c.as_slice.ensures
    (walked told_tree (c.in_ok-list_names.ensures.only_read.told ∙ told)))
    c.walk_listed.ensures.walked

-- ---- what is beside it

pub walk_listed-returns-clause-walked : goal.walk_listed-returns-clause-walked
walk_listed-returns-clause-walked g t c = IfOk-weaker c.walk_names.result _ _ (λ alike walked told_tree told.
    listed_walked _ told_tree c.args.from.now c.args.to.now c.args.names.now c.args.same c.goes_on-same.result alike c.args.counts.now c.list_counted.new.counts c.walk_names.new.counts _
    (g.met.T.Tree.tells_trees c.args.tree.now told_tree told) c.requires.listing (c.requires.there told_tree told) (c.in_ok-found.ensures.listed told_tree told) c.goes_on-same.ensures
    (walked told_tree (c.in_ok-found.ensures.only_read.told ∙ told)))
    c.walk_names.ensures.walked

-- ---- its names

pub walk_names-walk_entry-requires : goal.walk_names-walk_entry-requires
walk_names-walk_entry-requires g t c = λ κs le. (
  omega (arith, c.decreases),
  (
    le,
    (λ told_tree told.
        rw (c.in_ok-from_child.ensures, c.as_slice.ensures)
        (c.requires.there told_tree (sym c.loop-name.invariant.only.told ∙ told) c.name-item.result (named c.args.names.now c.loop-name.name-index c.name-item.result c.loop-name-test.true c.name-item.is))),
  ),
)

pub walk_names-loop-name-preserved : goal.walk_names-loop-name-preserved
walk_names-loop-name-preserved g t c =
    record {
      only = only_read_on c.loop-name.invariant.only c.in_ok-alike.ensures.only_read;
      checked = λ told_tree told.
          checked_more c.args.levels told_tree c.args.from.now c.args.names.now c.loop-name.name-index c.name-item.result c.loop-name.counts.left.left c.walk_entry.new.counts.left.left _
          c.loop-name-test.true c.name-item.is (c.loop-name.invariant.checked told_tree told)
          (rw (c.in_ok-from_child.ensures, c.as_slice.ensures) at (c.in_ok-alike.ensures.checked told_tree (c.loop-name.invariant.only.told ∙ told)));
      walked = λ told_tree told.
          names_more c.args.levels told_tree c.args.from.now c.args.to.now c.args.names.now c.loop-name.name-index c.name-item.result c.args.same c.loop-name.alike _ c.args.counts.now c.loop-name.counts c.walk_entry.new.counts
          c.loop-name-test.true c.name-item.is (c.loop-name.invariant.walked told_tree told)
          (rw (c.in_ok-from_child.ensures, c.in_ok-to_child.ensures, c.as_slice.ensures, c.as_slice-in-loop-name.ensures) at (c.in_ok-alike.ensures.walked told_tree (c.loop-name.invariant.only.told ∙ told)));
      entries = omega (arith, c.walk_entry.ensures.entries, c.loop-name.invariant.entries);
    }

pub walk_names-returns-clause-walked : goal.walk_names-returns-clause-walked
walk_names-returns-clause-walked g t c = λ told_tree told.
    names_all c.args.levels told_tree c.args.from.now c.args.to.now c.args.names.now c.loop-name.name-index c.args.same c.loop-name.alike c.args.counts.now c.loop-name.counts c.loop-name-test.false
    (c.loop-name.invariant.walked told_tree told)
