use Rattle.stage_job.specs.Written.{entry_files, files_of_names}
use Rattle.stage_job.proofs.WriteSteps.{all_written, file_writes, item_refused, item_written, lost_writes, none_writes, refused_writes, some_written, writes_same, writes_then}
use Rattle.stage_job.proofs.FileCounts.{child_files, folder_files, names_files_alike, one_file}
use Rattle.std.proofs.Common.{◌≡◌, ℕ, ◌+◌, ◌<◌, List, [], ◌∷◌, ◌++◌, Ok, take, get_or, length, refl, sym, ap, subst, ◌∙◌, arith}
use Rattle.std.proofs.lemmas.List.{take_more}
use Rattle.std.proofs.lemmas.Result.{on_ok_weaker}
use Rattle.std.specs.Prelude.{IfSome}
use Rattle.tree_dev.specs.Trees.{FileTree, IsListing}
use Rattle.tree_dev.specs.declared.limits.LimitKind.TheVariants as limits
use Rattle.tree_dev.proofs.Snoc.{not_root_behind}
use Rattle.stage_job.specs.Faults.{refused}
use Rattle.stage_job.specs.Checked.{each_checked, entry_checked}
use Rattle.stage_job.specs.Copied.{Lists, names_entry}
use Rattle.stage_job.specs.Staged.{Puts}
use Rattle.stage_job.specs.declared.fault.StageFault.TheVariants as faults
use Rattle.stage_job.proofs.Below.{below_apart, in_new_below, staged_in_new}
use Rattle.stage_job.proofs.CopySteps.{child_free, child_put, empty_folder, none_put, source_kept, there_alike}
use Rattle.stage_job.proofs.Exits.{answer_same, fault_answer, known_exit, memory_exit, passed_exit, refuses_on, tree_exit}
use Rattle.stage_job.proofs.MirrorSteps.{folder_copied, list_refusal, listed_kind, names_checked, names_there}
use Rattle.stage_job.proofs.NameLoop.{checked_fault, checked_more, fresh, named}
use Rattle.stage_job.proofs.ReadAnswers.{all_pass, deep_check, file_check, file_copied, folder_check, long_check, puts_same, read_absent, read_file, read_long, read_no_file}
use Rattle.stage_job.proofs.StagingRules.{staging_on, staging_read, staging_start, told_after, told_before}
use Rattle.stage_job.proofs.mirror.+mirror.Goals as goal
use Rattle.stage_job.proofs.Made.{same_some}

-- the names so far and the next one
next_names : (from to names : List (List ℕ)) (i : ℕ) (x : List ℕ) (t u : FileTree) → i < length names → x ≡ get_or names i x → Puts to (names_entry t from (take i names ++ x ∷ [])) t u → Puts to (names_entry t from (take (i + 1) names)) t u
next_names from to names i x t u lt is puts =
    subst (λ (ns : List (List ℕ)). Puts to (names_entry t from ns) t u) (sym (take_more names i x lt ∙ ap (λ (n : List ℕ). take i names ++ n ∷ []) (sym is))) puts

-- ---- an entry

-- too deep
pub mirror_entry-returns-then-levels-eq0-clause-staging : goal.mirror_entry-returns-then-levels-eq0-clause-staging
mirror_entry-returns-then-levels-eq0-clause-staging g t c = λ project in_new. staging_read c.refuse_deep.ensures.only_read

pub mirror_entry-returns-then-levels-eq0-clause-checked : goal.mirror_entry-returns-then-levels-eq0-clause-checked
mirror_entry-returns-then-levels-eq0-clause-checked g t c = λ told_tree told.
    answer_same _ _ c.args.left.now.left c.refuse_deep.result (sym (deep_check c.args.levels told_tree c.args.from.now c.args.left.now.left c.if-levels-eq0.true)) (c.refuse_deep.ensures.answer told_tree told c.args.left.now.left)

-- the read failed
pub mirror_entry-returns-in_err-bytes-clause-staging : goal.mirror_entry-returns-in_err-bytes-clause-staging
mirror_entry-returns-in_err-bytes-clause-staging g t c = λ project in_new.
    tree_exit c.from_residual.result c.in_err-bytes.field-0.0 c.from_residual.ensures.1 c.in_err-bytes.ensures.only_read

-- a file
pub mirror_entry-put_file-requires : goal.mirror_entry-put_file-requires
mirror_entry-put_file-requires g t c = record { free = λ told_tree told. c.requires.free told_tree (sym c.in_ok-bytes.ensures.only_read.told ∙ told) }

pub mirror_entry-returns-in-Bytes-clause-staging : goal.mirror_entry-returns-in-Bytes-clause-staging
mirror_entry-returns-in-Bytes-clause-staging g t c = λ project in_new. staging_on (c.put_file.ensures.staging project (staged_in_new project c.args.to.now in_new))
    (staging_read c.in_ok-bytes.ensures.only_read)

pub mirror_entry-returns-in-Bytes-clause-checked : goal.mirror_entry-returns-in-Bytes-clause-checked
mirror_entry-returns-in-Bytes-clause-checked g t c = λ told_tree told.
    let file = read_file told_tree c.args.from.now _ (sym c.in-Bytes.is ∙ c.in_ok-bytes.ensures.answer told_tree told) in
    answer_same _ _ c.args.left.now.left c.put_file.result (sym (file_check c.args.levels told_tree c.args.from.now c.args.left.now.left _ c.if-levels-eq0.false file))
    (c.put_file.ensures.answer told_tree (c.in_ok-bytes.ensures.only_read.told ∙ told) c.args.left.now.left)

pub mirror_entry-returns-in-Bytes-clause-copied : goal.mirror_entry-returns-in-Bytes-clause-copied
mirror_entry-returns-in-Bytes-clause-copied g t c = on_ok_weaker c.put_file.result (λ made told_tree told u now.
    let file = read_file told_tree c.args.from.now _ (sym c.in-Bytes.is ∙ c.in_ok-bytes.ensures.answer told_tree told) in
    puts_same c.args.to.now _ _ told_tree u
    (file_copied told_tree c.args.from.now _ (g.met.T.Tree.tells_trees c.args.tree.now told_tree told) (not_root_behind c.args.from.now c.args.to.now c.requires.apart.0) file.file)
    (rw c.as_slice.ensures at (made told_tree (c.in_ok-bytes.ensures.only_read.told ∙ told) u now)))
    c.put_file.ensures.made

-- a folder, or neither
pub mirror_entry-mirror_folder-requires : goal.mirror_entry-mirror_folder-requires
mirror_entry-mirror_folder-requires g t c = λ κs le. (
  omega (arith, c.decreases, c.if-levels-eq0.false),
  (
    le,
    (
      c.requires.apart,
      (
        (λ told_tree told. read_no_file told_tree c.args.from.now (sym c.in-NotFile.is ∙ c.in_ok-bytes.ensures.answer told_tree (sym c.in_ok-bytes.ensures.only_read.told ∙ told))),
        (λ told_tree told. c.requires.free told_tree (sym c.in_ok-bytes.ensures.only_read.told ∙ told)),
      ),
    ),
  ),
)

pub mirror_entry-returns-in-NotFile-clause-staging : goal.mirror_entry-returns-in-NotFile-clause-staging
mirror_entry-returns-in-NotFile-clause-staging g t c = λ project in_new. staging_on (c.mirror_folder.ensures.staging project in_new)
    (staging_read c.in_ok-bytes.ensures.only_read)

pub mirror_entry-returns-in-NotFile-clause-checked : goal.mirror_entry-returns-in-NotFile-clause-checked
mirror_entry-returns-in-NotFile-clause-checked g t c = λ told_tree told.
    answer_same _ _ c.mirror_folder.new.left.left c.mirror_folder.result (sym (folder_check c.args.levels told_tree c.args.from.now c.args.left.now.left c.if-levels-eq0.false))
    (c.mirror_folder.ensures.checked told_tree (c.in_ok-bytes.ensures.only_read.told ∙ told))

pub mirror_entry-returns-in-NotFile-clause-copied : goal.mirror_entry-returns-in-NotFile-clause-copied
mirror_entry-returns-in-NotFile-clause-copied g t c = on_ok_weaker c.mirror_folder.result (λ made told_tree told. made told_tree (c.in_ok-bytes.ensures.only_read.told ∙ told)) c.mirror_folder.ensures.copied

-- a file of too many bytes
pub mirror_entry-returns-in_err-copy-in-TooLong-clause-staging : goal.mirror_entry-returns-in_err-copy-in-TooLong-clause-staging
mirror_entry-returns-in_err-copy-in-TooLong-clause-staging g t c = λ project in_new.
    memory_exit c.from_residual-in_err-copy-in-TooLong.result c.from_residual-in_err-copy-in-TooLong.ensures.1 (staging_read c.in_ok-bytes.ensures.only_read)

pub mirror_entry-returns-in_ok-copy-in-TooLong-clause-staging : goal.mirror_entry-returns-in_ok-copy-in-TooLong-clause-staging
mirror_entry-returns-in_ok-copy-in-TooLong-clause-staging g t c = λ project in_new. staging_read c.in_ok-bytes.ensures.only_read

pub mirror_entry-returns-in_ok-copy-in-TooLong-clause-checked : goal.mirror_entry-returns-in_ok-copy-in-TooLong-clause-checked
mirror_entry-returns-in_ok-copy-in-TooLong-clause-checked g t c = λ told_tree told.
    long_check c.args.levels told_tree c.args.from.now c.args.left.now.left c.if-levels-eq0.false (read_long told_tree c.args.from.now (sym c.in-TooLong.is ∙ c.in_ok-bytes.ensures.answer told_tree told))
    ∙ ap (λ (p : List (List ℕ)). refused (faults.Limit (limits.FileBytes p))) (sym c.in_ok-copy-in-TooLong.ensures)

-- nothing
pub mirror_entry-returns-in-Absent-clause-staging : goal.mirror_entry-returns-in-Absent-clause-staging
mirror_entry-returns-in-Absent-clause-staging g t c = λ project in_new. known_exit c.vanished.result c.vanished.ensures.no_device
    (staging_read c.in_ok-bytes.ensures.only_read)

pub mirror_entry-returns-in-Absent-clause-checked : goal.mirror_entry-returns-in-Absent-clause-checked
mirror_entry-returns-in-Absent-clause-checked g t c = λ told_tree told.
    absurd (read_absent told_tree c.args.from.now (sym c.in-Absent.is ∙ c.in_ok-bytes.ensures.answer told_tree told) (c.requires.there told_tree told))

-- ---- a folder

pub mirror_folder-returns-in_err-list_names-clause-staging : goal.mirror_folder-returns-in_err-list_names-clause-staging
mirror_folder-returns-in_err-list_names-clause-staging g t c = λ project in_new.
    passed_exit c.from_residual.result c.in_err-list_names.field-0.0 c.from_residual.ensures.1 (staging_read c.in_err-list_names.ensures.only_read)

pub mirror_folder-returns-in_err-list_names-clause-checked : goal.mirror_folder-returns-in_err-list_names-clause-checked
mirror_folder-returns-in_err-list_names-clause-checked g t c = λ told_tree told.
    let no_file = c.requires.no_file told_tree told in
    fault_answer _ _ c.from_residual.result c.in_err-list_names.field-0.0 c.from_residual.ensures.1
    (list_refusal (entry_checked c.args.levels told_tree) told_tree c.args.from.now c.args.left.now.left c.list_names.new.left.left c.in_err-list_names.field-0.0 no_file (c.in_err-list_names.ensures.answer told_tree told))

pub mirror_folder-returns-in-None-clause-staging : goal.mirror_folder-returns-in-None-clause-staging
mirror_folder-returns-in-None-clause-staging g t c = λ project in_new. known_exit c.vanished.result c.vanished.ensures.no_device
    (staging_read c.in_ok-list_names.ensures.only_read)

pub mirror_folder-make_folder-requires : goal.mirror_folder-make_folder-requires
mirror_folder-make_folder-requires g t c = record { free = λ told_tree told. c.requires.free told_tree (sym c.in_ok-list_names.ensures.only_read.told ∙ told) }

pub mirror_folder-returns-in_err-make_folder-in-Some-clause-staging : goal.mirror_folder-returns-in_err-make_folder-in-Some-clause-staging
mirror_folder-returns-in_err-make_folder-in-Some-clause-staging g t c = λ project in_new.
    passed_exit c.from_residual-in_err-make_folder-in-Some.result c.in_err-make_folder-in-Some.field-0.0 c.from_residual-in_err-make_folder-in-Some.ensures.1 (staging_on
    (c.in_err-make_folder-in-Some.ensures.staging project (staged_in_new project c.args.to.now in_new)) (staging_read c.in_ok-list_names.ensures.only_read))

-- making the folder is refused by no tree
pub mirror_folder-returns-in_err-make_folder-in-Some-clause-checked : goal.mirror_folder-returns-in_err-make_folder-in-Some-clause-checked
mirror_folder-returns-in_err-make_folder-in-Some-clause-checked g t c = λ told_tree told.
    fault_answer _ _ c.from_residual-in_err-make_folder-in-Some.result c.in_err-make_folder-in-Some.field-0.0 c.from_residual-in_err-make_folder-in-Some.ensures.1
    (refuses_on c.in_err-make_folder-in-Some.field-0.0 (Ok 0) _ (λ e. absurd cc) (c.in_err-make_folder-in-Some.ensures.answer told_tree (c.in_ok-list_names.ensures.only_read.told ∙ told) 0))

pub mirror_folder-mirror_names-requires : goal.mirror_folder-mirror_names-requires
mirror_folder-mirror_names-requires g t c = λ κs le.
    let listing = subst (λ o. IfSome o IsListing) c.in-Some.is c.in_ok-list_names.ensures.listing in (
      omega (arith, c.decreases),
      (
        le,
        (
          c.requires.apart,
          (
            rw c.as_slice.ensures listing,
            (
              (λ m told_m.
                  let b = told_before (g.T.Tree.meaning c.list_names.new.tree).told c.make_folder.ensures.tells m told_m in
                  let told = sym c.in_ok-list_names.ensures.only_read.told ∙ b.1 in
                  let listed = subst (λ o. Lists b.0 c.args.from.now c.args.left.now.left c.list_names.new.left.left (Ok o)) c.in-Some.is (c.in_ok-list_names.ensures.answer b.0 told) in
                  rw c.as_slice.ensures (names_there c.args.levels c.args.from.now c.args.to.now b.0 m c.requires.apart (c.in_ok-make_folder-in-Some.ensures.made b.0 b.1 m told_m) _ listed.names_are)),
              (λ m told_m.
                  let b = told_before (g.T.Tree.meaning c.list_names.new.tree).told c.make_folder.ensures.tells m told_m in
                  empty_folder c.args.to.now b.0 m (c.in_ok-make_folder-in-Some.ensures.made b.0 b.1 m told_m)),
            ),
          ),
        ),
      ),
    )

pub mirror_folder-returns-in_ok-make_folder-in-Some-clause-staging : goal.mirror_folder-returns-in_ok-make_folder-in-Some-clause-staging
mirror_folder-returns-in_ok-make_folder-in-Some-clause-staging g t c = λ project in_new. staging_on (c.mirror_names.ensures.staging project in_new) (staging_on
    (c.in_ok-make_folder-in-Some.ensures.staging project (staged_in_new project c.args.to.now in_new)) (staging_read c.in_ok-list_names.ensures.only_read))

pub mirror_folder-returns-in_ok-make_folder-in-Some-clause-checked : goal.mirror_folder-returns-in_ok-make_folder-in-Some-clause-checked
mirror_folder-returns-in_ok-make_folder-in-Some-clause-checked g t c = λ told_tree told.
    let there = c.in_ok-list_names.ensures.only_read.told ∙ told in
    let m = told_after (g.T.Tree.meaning c.make_folder.new.tree).told c.make_folder.ensures.tells told_tree there in
    let listed = subst (λ o. Lists told_tree c.args.from.now c.args.left.now.left c.list_names.new.left.left (Ok o)) c.in-Some.is (c.in_ok-list_names.ensures.answer told_tree told) in
    answer_same _ _ c.mirror_names.new.left.left c.mirror_names.result
    (names_checked c.args.levels c.args.from.now c.args.to.now told_tree m.0 c.requires.apart (c.in_ok-make_folder-in-Some.ensures.made told_tree there m.0 m.1) c.as_slice.result.now c.list_names.new.left.left
    ∙ ap (λ (ns : List (List ℕ)). each_checked (entry_checked c.args.levels told_tree) c.args.from.now ns c.list_names.new.left.left) (c.as_slice.ensures ∙ sym (all_pass _))
    ∙ sym (listed_kind (entry_checked c.args.levels told_tree) told_tree c.args.from.now _ c.args.left.now.left c.list_names.new.left.left listed))
    (c.mirror_names.ensures.checked m.0 m.1)

pub mirror_folder-returns-in_ok-make_folder-in-Some-clause-copied : goal.mirror_folder-returns-in_ok-make_folder-in-Some-clause-copied
mirror_folder-returns-in_ok-make_folder-in-Some-clause-copied g t c = on_ok_weaker c.mirror_names.result (λ copied told_tree told u now.
    let there = c.in_ok-list_names.ensures.only_read.told ∙ told in
    let m = told_after (g.T.Tree.meaning c.make_folder.new.tree).told c.make_folder.ensures.tells told_tree there in
    let listed = subst (λ o. Lists told_tree c.args.from.now c.args.left.now.left c.list_names.new.left.left (Ok o)) c.in-Some.is (c.in_ok-list_names.ensures.answer told_tree told) in
    folder_copied c.args.from.now c.args.to.now _ told_tree m.0 u c.requires.apart (g.met.T.Tree.tells_trees c.args.tree.now told_tree told) listed.folder (c.as_slice.ensures ∙ listed.names_are)
    (c.in_ok-make_folder-in-Some.ensures.made told_tree there m.0 m.1) (copied m.0 m.1 u now))
    c.mirror_names.ensures.copied

-- ---- the names of a folder

pub mirror_names-loop-name-init : goal.mirror_names-loop-name-init
mirror_names-loop-name-init g t c = record {
  staging = λ project in_new. staging_start;
  tells = refl;
  checked = λ told_tree told. refl;
  put = λ told_tree told u now.
      let same = same_some told_tree u (sym told ∙ now) in
      subst (λ (v : FileTree). Puts c.args.to.now (names_entry told_tree c.args.from.now []) told_tree v) same (none_put c.args.from.now c.args.to.now told_tree (c.requires.empty told_tree told));
  writes = λ told_tree told. refl;
  entries = omega arith;
}

-- the names of the children are segments, and their paths are apart
pub mirror_names-mirror_entry-requires : goal.mirror_names-mirror_entry-requires
mirror_names-mirror_entry-requires g t c = λ κs le. (
  omega (arith, c.decreases),
  (
    le,
    (
      rw (c.in_ok-from_child.ensures, c.in_ok-to_child.ensures, c.as_slice.ensures, c.as_slice-in-loop-name.ensures) (below_apart c.args.from.now c.args.to.now (c.name-item.result ∷ []) (c.name-item.result ∷ []) c.requires.apart),
      (
        (λ m told_m.
            let b = told_before (g.T.Tree.meaning c.args.tree.now).told c.loop-name.invariant.tells m told_m in
            let so_far = c.loop-name.invariant.put b.0 b.1 m told_m in
            rw (c.in_ok-from_child.ensures, c.as_slice.ensures)
            (there_alike b.0 m c.args.from.now c.args.names.now (source_kept c.args.from.now c.args.to.now b.0 m _ c.requires.apart so_far) (c.requires.there b.0 b.1) c.name-item.result
            (named c.args.names.now c.loop-name.name-index c.name-item.result c.loop-name-test.true c.name-item.is))),
        (λ m told_m.
            let b = told_before (g.T.Tree.meaning c.args.tree.now).told c.loop-name.invariant.tells m told_m in
            rw (c.in_ok-to_child.ensures, c.as_slice-in-loop-name.ensures)
            (child_free c.args.from.now c.args.to.now (take c.loop-name.name-index c.args.names.now) c.name-item.result b.0 m (c.loop-name.invariant.put b.0 b.1 m told_m)
            (fresh c.args.names.now c.loop-name.name-index c.name-item.result c.requires.listing c.loop-name-test.true c.name-item.is))),
      ),
    ),
  ),
)

pub mirror_names-returns-in_err-mirror_entry-clause-staging : goal.mirror_names-returns-in_err-mirror_entry-clause-staging
mirror_names-returns-in_err-mirror_entry-clause-staging g t c = λ project in_new.
    passed_exit c.from_residual-in_err-mirror_entry.result c.in_err-mirror_entry.field-0.0 c.from_residual-in_err-mirror_entry.ensures.1 (staging_on
    (c.in_err-mirror_entry.ensures.staging project (rw (c.in_ok-to_child.ensures, c.as_slice-in-loop-name.ensures) (in_new_below project c.args.to.now (c.name-item.result ∷ []) in_new)))
    (c.loop-name.invariant.staging project in_new))

pub mirror_names-returns-in_err-mirror_entry-clause-checked : goal.mirror_names-returns-in_err-mirror_entry-clause-checked
mirror_names-returns-in_err-mirror_entry-clause-checked g t c = λ told_tree told.
    let m = told_after (g.T.Tree.meaning c.loop-name.tree).told c.loop-name.invariant.tells told_tree told in
    let so_far = c.loop-name.invariant.put told_tree told m.0 m.1 in
    fault_answer _ _ c.from_residual-in_err-mirror_entry.result c.in_err-mirror_entry.field-0.0 c.from_residual-in_err-mirror_entry.ensures.1
    (refuses_on c.in_err-mirror_entry.field-0.0 (entry_checked c.args.levels m.0 (c.args.from.now ++ c.name-item.result ∷ []) c.loop-name.left.left) _
    (checked_fault c.args.levels told_tree m.0 c.args.from.now c.args.names.now c.loop-name.name-index c.name-item.result c.loop-name.left.left _
    (not_root_behind c.args.from.now c.args.to.now c.requires.apart.0) (source_kept c.args.from.now c.args.to.now told_tree m.0 _ c.requires.apart so_far) c.loop-name-test.true c.name-item.is
    (c.loop-name.invariant.checked told_tree told) c.in_err-mirror_entry.field-0.0)
    (rw (c.in_ok-from_child.ensures, c.as_slice.ensures) at (c.in_err-mirror_entry.ensures.checked m.0 m.1)))

pub mirror_names-loop-name-preserved : goal.mirror_names-loop-name-preserved
mirror_names-loop-name-preserved g t c =
    record {
      staging = λ project in_new. staging_on
          (c.in_ok-mirror_entry.ensures.staging project (rw (c.in_ok-to_child.ensures, c.as_slice-in-loop-name.ensures) (in_new_below project c.args.to.now (c.name-item.result ∷ []) in_new)))
          (c.loop-name.invariant.staging project in_new);
      tells = c.mirror_entry.ensures.tells ∙ c.loop-name.invariant.tells;
      checked = λ told_tree told.
          let m = told_after (g.T.Tree.meaning c.loop-name.tree).told c.loop-name.invariant.tells told_tree told in
          let so_far = c.loop-name.invariant.put told_tree told m.0 m.1 in
          checked_more c.args.levels told_tree m.0 c.args.from.now c.args.names.now c.loop-name.name-index c.name-item.result c.loop-name.left.left _
          (not_root_behind c.args.from.now c.args.to.now c.requires.apart.0) (source_kept c.args.from.now c.args.to.now told_tree m.0 _ c.requires.apart so_far) c.loop-name-test.true c.name-item.is
          (c.loop-name.invariant.checked told_tree told) c.mirror_entry.new.left.left
          (rw (c.in_ok-from_child.ensures, c.as_slice.ensures) at (c.in_ok-mirror_entry.ensures.checked m.0 m.1));
      put = λ told_tree told u now.
          let m = told_after (g.T.Tree.meaning c.loop-name.tree).told c.loop-name.invariant.tells told_tree told in
          let so_far = c.loop-name.invariant.put told_tree told m.0 m.1 in
          next_names c.args.from.now c.args.to.now c.args.names.now c.loop-name.name-index c.name-item.result told_tree u c.loop-name-test.true c.name-item.is
          (child_put c.args.from.now c.args.to.now (take c.loop-name.name-index c.args.names.now) c.name-item.result told_tree m.0 so_far
          (fresh c.args.names.now c.loop-name.name-index c.name-item.result c.requires.listing c.loop-name-test.true c.name-item.is) c.requires.apart u
          (rw (c.in_ok-from_child.ensures, c.in_ok-to_child.ensures, c.as_slice.ensures, c.as_slice-in-loop-name.ensures) at (c.in_ok-mirror_entry.ensures.copied m.0 m.1 u now)));
      writes = λ told_tree told.
          let m = told_after (g.T.Tree.meaning c.loop-name.tree).told c.loop-name.invariant.tells told_tree told in
          let so_far = c.loop-name.invariant.put told_tree told m.0 m.1 in
          item_written (λ name. entry_files c.args.levels told_tree (c.args.from.now ++ name ∷ [])) c.args.names.now c.loop-name.name-index c.name-item.result
          (g.T.Tree.meaning c.args.tree.now).writes (g.T.Tree.meaning c.loop-name.tree).writes c.loop-name-test.true c.name-item.is (c.loop-name.invariant.writes told_tree told)
          (g.T.Tree.meaning c.mirror_entry.new.tree).writes _
          (child_files c.args.levels c.args.from.now c.args.to.now c.name-item.result told_tree m.0 c.requires.apart so_far)
          (rw (c.in_ok-from_child.ensures, c.as_slice.ensures) at (c.in_ok-mirror_entry.ensures.writes m.0 m.1));
      entries = omega (arith, c.mirror_entry.ensures.entries, c.loop-name.invariant.entries);
    }

-- ---- calls of write

pub mirror_entry-returns-then-levels-eq0-clause-writes : goal.mirror_entry-returns-then-levels-eq0-clause-writes
mirror_entry-returns-then-levels-eq0-clause-writes g t c = λ told_tree told. lost_writes c.refuse_deep.result _ _ _ c.refuse_deep.ensures.refused c.refuse_deep.ensures.only_read.writes

pub mirror_entry-returns-in_err-bytes-clause-writes : goal.mirror_entry-returns-in_err-bytes-clause-writes
mirror_entry-returns-in_err-bytes-clause-writes g t c = λ told_tree told. none_writes c.from_residual.result _ _ _ _ c.from_residual.ensures.1 c.in_err-bytes.ensures.only_read.writes

pub mirror_entry-returns-in-Bytes-clause-writes : goal.mirror_entry-returns-in-Bytes-clause-writes
mirror_entry-returns-in-Bytes-clause-writes g t c = λ told_tree told.
    let file = read_file told_tree c.args.from.now _ (sym c.in-Bytes.is ∙ c.in_ok-bytes.ensures.answer told_tree told) in
    writes_same c.put_file.result 1 _ _ _ (one_file c.args.levels told_tree c.args.from.now _ c.if-levels-eq0.false file.file)
    (file_writes c.put_file.result _ _ _ c.in_ok-bytes.ensures.only_read.writes c.put_file.ensures.writes)

pub mirror_entry-returns-in-NotFile-clause-writes : goal.mirror_entry-returns-in-NotFile-clause-writes
mirror_entry-returns-in-NotFile-clause-writes g t c = λ told_tree told.
    let no_file = read_no_file told_tree c.args.from.now (sym c.in-NotFile.is ∙ c.in_ok-bytes.ensures.answer told_tree told) in
    writes_same c.mirror_folder.result _ _ _ _ (folder_files c.args.levels told_tree c.args.from.now c.if-levels-eq0.false no_file.no_file)
    (writes_then c.mirror_folder.result _ _ _ _ c.in_ok-bytes.ensures.only_read.writes (c.mirror_folder.ensures.writes told_tree (c.in_ok-bytes.ensures.only_read.told ∙ told)))

pub mirror_entry-returns-in_err-copy-in-TooLong-clause-writes : goal.mirror_entry-returns-in_err-copy-in-TooLong-clause-writes
mirror_entry-returns-in_err-copy-in-TooLong-clause-writes g t c = λ told_tree told. none_writes c.from_residual-in_err-copy-in-TooLong.result _ _ _ _ c.from_residual-in_err-copy-in-TooLong.ensures.1 c.in_ok-bytes.ensures.only_read.writes

pub mirror_entry-returns-in_ok-copy-in-TooLong-clause-writes : goal.mirror_entry-returns-in_ok-copy-in-TooLong-clause-writes
mirror_entry-returns-in_ok-copy-in-TooLong-clause-writes g t c = λ told_tree told. omega (arith, c.in_ok-bytes.ensures.only_read.writes)

pub mirror_entry-returns-in-Absent-clause-writes : goal.mirror_entry-returns-in-Absent-clause-writes
mirror_entry-returns-in-Absent-clause-writes g t c = λ told_tree told. lost_writes c.vanished.result _ _ _ c.vanished.ensures.refused c.in_ok-bytes.ensures.only_read.writes

pub mirror_folder-returns-in_err-list_names-clause-writes : goal.mirror_folder-returns-in_err-list_names-clause-writes
mirror_folder-returns-in_err-list_names-clause-writes g t c = λ told_tree told. none_writes c.from_residual.result _ _ _ _ c.from_residual.ensures.1 c.in_err-list_names.ensures.only_read.writes

pub mirror_folder-returns-in-None-clause-writes : goal.mirror_folder-returns-in-None-clause-writes
mirror_folder-returns-in-None-clause-writes g t c = λ told_tree told. lost_writes c.vanished.result _ _ _ c.vanished.ensures.refused c.in_ok-list_names.ensures.only_read.writes

pub mirror_folder-returns-in_err-make_folder-in-Some-clause-writes : goal.mirror_folder-returns-in_err-make_folder-in-Some-clause-writes
mirror_folder-returns-in_err-make_folder-in-Some-clause-writes g t c = λ told_tree told. none_writes c.from_residual-in_err-make_folder-in-Some.result _ _ _ _ c.from_residual-in_err-make_folder-in-Some.ensures.1
    (c.make_folder.ensures.writes ∙ c.in_ok-list_names.ensures.only_read.writes)

pub mirror_folder-returns-in_ok-make_folder-in-Some-clause-writes : goal.mirror_folder-returns-in_ok-make_folder-in-Some-clause-writes
mirror_folder-returns-in_ok-make_folder-in-Some-clause-writes g t c = λ told_tree told.
    let there = c.in_ok-list_names.ensures.only_read.told ∙ told in
    let m = told_after (g.T.Tree.meaning c.make_folder.new.tree).told c.make_folder.ensures.tells told_tree there in
    let listed = subst (λ o. Lists told_tree c.args.from.now c.args.left.now.left c.list_names.new.left.left (Ok o)) c.in-Some.is (c.in_ok-list_names.ensures.answer told_tree told) in
    writes_same c.mirror_names.result _ _ _ _
    (names_files_alike c.args.levels c.args.from.now c.as_slice.result.now told_tree m.0 (not_root_behind c.args.from.now c.args.to.now c.requires.apart.0)
    (source_kept c.args.from.now c.args.to.now told_tree m.0 _ c.requires.apart (c.in_ok-make_folder-in-Some.ensures.made told_tree there m.0 m.1))
    ∙ ap (λ (names : List (List ℕ)). files_of_names c.args.levels told_tree c.args.from.now names) (c.as_slice.ensures ∙ listed.names_are))
    (writes_then c.mirror_names.result _ _ _ _ (c.make_folder.ensures.writes ∙ c.in_ok-list_names.ensures.only_read.writes) (c.mirror_names.ensures.writes m.0 m.1))

pub mirror_names-returns-in_err-from_child-clause-writes : goal.mirror_names-returns-in_err-from_child-clause-writes
mirror_names-returns-in_err-from_child-clause-writes g t c = λ told_tree told. refused_writes c.from_residual.result _ _ _ _ c.from_residual.ensures.1
    (some_written (λ name. entry_files c.args.levels told_tree (c.args.from.now ++ name ∷ [])) c.args.names.now c.loop-name.name-index _ _ (c.loop-name.invariant.writes told_tree told))

pub mirror_names-returns-in_err-to_child-clause-writes : goal.mirror_names-returns-in_err-to_child-clause-writes
mirror_names-returns-in_err-to_child-clause-writes g t c = λ told_tree told. refused_writes c.from_residual-in_err-to_child.result _ _ _ _ c.from_residual-in_err-to_child.ensures.1
    (some_written (λ name. entry_files c.args.levels told_tree (c.args.from.now ++ name ∷ [])) c.args.names.now c.loop-name.name-index _ _ (c.loop-name.invariant.writes told_tree told))

pub mirror_names-returns-in_err-mirror_entry-clause-writes : goal.mirror_names-returns-in_err-mirror_entry-clause-writes
mirror_names-returns-in_err-mirror_entry-clause-writes g t c = λ told_tree told.
    let m = told_after (g.T.Tree.meaning c.loop-name.tree).told c.loop-name.invariant.tells told_tree told in
    let so_far = c.loop-name.invariant.put told_tree told m.0 m.1 in
    refused_writes c.from_residual-in_err-mirror_entry.result _ _ _ _ c.from_residual-in_err-mirror_entry.ensures.1
    (item_refused (λ name. entry_files c.args.levels told_tree (c.args.from.now ++ name ∷ [])) c.args.names.now c.loop-name.name-index c.name-item.result
    (g.T.Tree.meaning c.args.tree.now).writes (g.T.Tree.meaning c.loop-name.tree).writes c.loop-name-test.true c.name-item.is (c.loop-name.invariant.writes told_tree told)
    (g.T.Tree.meaning c.mirror_entry.new.tree).writes _
    (child_files c.args.levels c.args.from.now c.args.to.now c.name-item.result told_tree m.0 c.requires.apart so_far)
    (rw (c.in_ok-from_child.ensures, c.as_slice.ensures) at (c.in_err-mirror_entry.ensures.writes m.0 m.1)))

pub mirror_names-returns-clause-writes : goal.mirror_names-returns-clause-writes
mirror_names-returns-clause-writes g t c = λ told_tree told.
    all_written (λ name. entry_files c.args.levels told_tree (c.args.from.now ++ name ∷ [])) c.args.names.now c.loop-name.name-index _ _ (omega (arith, c.loop-name-test.false)) (c.loop-name.invariant.writes told_tree told)
