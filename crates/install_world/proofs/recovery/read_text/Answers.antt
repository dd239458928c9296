use Rattle.std.proofs.Common.{◌∙◌, ℕ, List, Option, sym, arith}
use Rattle.tree_dev.specs.declared.entry.ReadAnswer.{ReadAnswer}
use Rattle.std.proofs.lemmas.Result.{err_from_is_err_and}
use Rattle.install_world.proofs.RecoveryRules.{absent_read, bytes_read, read_failing}
use Rattle.std.proofs.Common.{◌≡◌, true, false, Some, ap, refl, subst, inl, inr}
use Rattle.std.specs.Prelude.{◌⊎◌}
use Rattle.std.specs.FinMap as map
use Rattle.tree_dev.specs.Trees.{entry_at}
use Rattle.tree_dev.specs.Changes.{is_leaf, is_root}
use Rattle.tree_dev.specs.declared.entry.Entry.TheVariants.{Folder}
use Rattle.install_world.proofs.RecoveryCauses.{long_read, no_file_read, no_limit_tree, no_other_tree}
use Rattle.install_world.proofs.RecoveryFits.{no_folder_read, not_too_long, refused_tree}
use Rattle.install_world.proofs.FoldersThere.{tree_is_there}
use Rattle.tree_dev.specs.declared.limits.LimitKind.TheVariants.{FileBytes}
use Rattle.install_world.specs.declared.recovery_fault.RecoverFault.TheVariants as faults
use Rattle.install_world.proofs.AtOnce.{free_tree, long_is_due, no_file_shown, other_is_due, readable_is_free}
use Rattle.install_world.proofs.recovery.read_text.Goals as goal

pub returns-in_err-text-clause-only_read : goal.returns-in_err-text-clause-only_read
returns-in_err-text-clause-only_read g c =
    let p = err_from_is_err_and c.from_residual.result c.from_residual.ensures.1 in
    rw (p.1, p.2) (read_failing ReadAnswer (Option (List ℕ)) _ _ c.in_err-text.field-0.0 c.in_err-text.ensures.only_read)

pub returns-in-Bytes-clause-text : goal.returns-in-Bytes-clause-text
returns-in-Bytes-clause-text g c = λ t told.
    let found = bytes_read t c.args.at.now 67108864 c.in-Bytes.text (sym c.in-Bytes.is ∙ c.in_ok-text.ensures.answer t told) in
    (found.0, let small = found.1 in omega arith)

pub returns-in-Absent-clause-text : goal.returns-in-Absent-clause-text
returns-in-Absent-clause-text g c = λ t told. absent_read t c.args.at.now 67108864 (sym c.in-Absent.is ∙ c.in_ok-text.ensures.answer t told)

pub returns-in_err-copy-in-NotFile-clause-only_read : goal.returns-in_err-copy-in-NotFile-clause-only_read
returns-in_err-copy-in-NotFile-clause-only_read g c =
    let p = err_from_is_err_and c.from_residual-in_err-copy-in-NotFile.result c.from_residual-in_err-copy-in-NotFile.ensures.1 in
    rw (p.1, p.2) c.in_ok-text.ensures.only_read

pub returns-in_err-copy-in-TooLong-clause-only_read : goal.returns-in_err-copy-in-TooLong-clause-only_read
returns-in_err-copy-in-TooLong-clause-only_read g c =
    let p = err_from_is_err_and c.from_residual-in_err-copy-in-TooLong.result c.from_residual-in_err-copy-in-TooLong.ensures.1 in
    rw (p.1, p.2) c.in_ok-text.ensures.only_read

pub returns-in_err-text-clause-fits : goal.returns-in_err-text-clause-fits
returns-in_err-text-clause-fits g c = let p = err_from_is_err_and c.from_residual.result c.from_residual.ensures.1 in rw (p.1, p.2) (λ t told under readable. refused_tree (Option (List ℕ)) c.in_err-text.field-0.0)

pub returns-in_err-copy-in-NotFile-clause-fits : goal.returns-in_err-copy-in-NotFile-clause-fits
returns-in_err-copy-in-NotFile-clause-fits g c = let p = err_from_is_err_and c.from_residual-in_err-copy-in-NotFile.result c.from_residual-in_err-copy-in-NotFile.ensures.1 in rw (p.1, p.2) (λ t told under readable. refl)

pub returns-in_ok-copy-in-NotFile-clause-fits : goal.returns-in_ok-copy-in-NotFile-clause-fits
returns-in_ok-copy-in-NotFile-clause-fits g c = λ t told under readable.
    absurd (no_folder_read t c.args.at.now under readable c.in_ok-text.field-0 (c.in_ok-text.ensures.answer t told) c.in-NotFile.is)

pub returns-in_err-copy-in-TooLong-clause-fits : goal.returns-in_err-copy-in-TooLong-clause-fits
returns-in_err-copy-in-TooLong-clause-fits g c = let p = err_from_is_err_and c.from_residual-in_err-copy-in-TooLong.result c.from_residual-in_err-copy-in-TooLong.ensures.1 in rw (p.1, p.2) (λ t told under readable. refl)

pub returns-in_ok-copy-in-TooLong-clause-fits : goal.returns-in_ok-copy-in-TooLong-clause-fits
returns-in_ok-copy-in-TooLong-clause-fits g c = λ t told under readable.
    absurd (not_too_long t c.args.at.now under readable c.in_ok-text.field-0 (c.in_ok-text.ensures.answer t told) c.in-TooLong.is)

pub returns-in_err-text-clause-other : goal.returns-in_err-text-clause-other
returns-in_err-text-clause-other g c = λ path is.
    let p = err_from_is_err_and c.from_residual.result c.from_residual.ensures.1 in
    let given = p.1 in
    let from = p.2 in
    absurd (no_other_tree c.in_err-text.field-0.0 path cc)

pub returns-in_err-text-clause-limit : goal.returns-in_err-text-clause-limit
returns-in_err-text-clause-limit g c = λ limit is.
    let p = err_from_is_err_and c.from_residual.result c.from_residual.ensures.1 in
    let given = p.1 in
    let from = p.2 in
    absurd (no_limit_tree c.in_err-text.field-0.0 limit cc)

pub returns-in_ok-copy-in-NotFile-clause-other : goal.returns-in_ok-copy-in-NotFile-clause-other
returns-in_ok-copy-in-NotFile-clause-other g c = λ path is.
    let copied = c.in_ok-copy-in-NotFile.ensures in
    let same : path ≡ c.args.at.now = cc in (
      same,
      λ t told under.
          subst (λ at. (is_leaf (entry_at t at) ≡ true) ⊎ (map.get t at ≡ Some Folder)) (sym same)
          (no_file_read t c.in_ok-text.field-0 c.args.at.now (subst (λ at. is_root at ≡ false) same under)
          (c.in_ok-text.ensures.answer t (sym c.in_ok-text.ensures.only_read.told ∙ told)) c.in-NotFile.is),
    )

pub returns-in_ok-copy-in-TooLong-clause-limit : goal.returns-in_ok-copy-in-TooLong-clause-limit
returns-in_ok-copy-in-TooLong-clause-limit g c = λ limit is.
    let copied = c.in_ok-copy-in-TooLong.ensures in
    (cc, (c.in_ok-text.ensures.only_read, λ t told under. long_read t c.in_ok-text.field-0 c.args.at.now under (c.in_ok-text.ensures.answer t told) c.in-TooLong.is))

pub returns-in_err-text-clause-never_vanished : goal.returns-in_err-text-clause-never_vanished
returns-in_err-text-clause-never_vanished g c = let p = err_from_is_err_and c.from_residual.result c.from_residual.ensures.1 in rw (p.1, p.2) (tree_is_there (Option (List ℕ)) c.in_err-text.field-0.0)

pub returns-in_err-copy-in-NotFile-clause-never_vanished : goal.returns-in_err-copy-in-NotFile-clause-never_vanished
returns-in_err-copy-in-NotFile-clause-never_vanished g c = let p = err_from_is_err_and c.from_residual-in_err-copy-in-NotFile.result c.from_residual-in_err-copy-in-NotFile.ensures.1 in rw (p.1, p.2) (refl)

pub returns-in_err-copy-in-TooLong-clause-never_vanished : goal.returns-in_err-copy-in-TooLong-clause-never_vanished
returns-in_err-copy-in-TooLong-clause-never_vanished g c = let p = err_from_is_err_and c.from_residual-in_err-copy-in-TooLong.result c.from_residual-in_err-copy-in-TooLong.ensures.1 in rw (p.1, p.2) (refl)

pub returns-in-Bytes-clause-readable : goal.returns-in-Bytes-clause-readable
returns-in-Bytes-clause-readable g c = λ t told under.
    let found = bytes_read t c.args.at.now 67108864 c.in-Bytes.text (sym c.in-Bytes.is ∙ c.in_ok-text.ensures.answer t told) in
    record { either = inr (c.in-Bytes.text, found.0, found.1) }

pub returns-in-Absent-clause-readable : goal.returns-in-Absent-clause-readable
returns-in-Absent-clause-readable g c = λ t told under.
    record { either = inl (absent_read t c.args.at.now 67108864 (sym c.in-Absent.is ∙ c.in_ok-text.ensures.answer t told)) }

pub returns-in_err-text-clause-at_once : goal.returns-in_err-text-clause-at_once
returns-in_err-text-clause-at_once g c =
    let p = err_from_is_err_and c.from_residual.result c.from_residual.ensures.1 in
    rw (p.1, p.2) (λ t told under fault unreadable. record {
      answer = free_tree (Option (List ℕ)) fault c.in_err-text.field-0.0;
      only_read = read_failing ReadAnswer (Option (List ℕ)) _ _ c.in_err-text.field-0.0 c.in_err-text.ensures.only_read;
    })

pub returns-in-Bytes-clause-at_once : goal.returns-in-Bytes-clause-at_once
returns-in-Bytes-clause-at_once g c = λ t told under fault unreadable.
    let found = bytes_read t c.args.at.now 67108864 c.in-Bytes.text (sym c.in-Bytes.is ∙ c.in_ok-text.ensures.answer t told) in
    absurd (readable_is_free c.args.at.now t fault (record { either = inr (c.in-Bytes.text, found.0, found.1) }) unreadable)

pub returns-in-Absent-clause-at_once : goal.returns-in-Absent-clause-at_once
returns-in-Absent-clause-at_once g c = λ t told under fault unreadable.
    absurd (readable_is_free c.args.at.now t fault
    (record { either = inl (absent_read t c.args.at.now 67108864 (sym c.in-Absent.is ∙ c.in_ok-text.ensures.answer t told)) }) unreadable)

pub returns-in_err-copy-in-NotFile-clause-at_once : goal.returns-in_err-copy-in-NotFile-clause-at_once
returns-in_err-copy-in-NotFile-clause-at_once g c =
    let p = err_from_is_err_and c.from_residual-in_err-copy-in-NotFile.result c.from_residual-in_err-copy-in-NotFile.ensures.1 in
    rw (p.1, p.2) (λ t told under fault unreadable. record { answer = tt; only_read = c.in_ok-text.ensures.only_read })

pub returns-in_ok-copy-in-NotFile-clause-at_once : goal.returns-in_ok-copy-in-NotFile-clause-at_once
returns-in_ok-copy-in-NotFile-clause-at_once g c = λ t told under fault unreadable. record {
  answer = ap faults.OtherEntry c.in_ok-copy-in-NotFile.ensures
      ∙ other_is_due c.args.at.now t fault c.in_ok-text.field-0 under (c.in_ok-text.ensures.answer t told) c.in-NotFile.is unreadable;
  only_read = c.in_ok-text.ensures.only_read;
}

pub returns-in_err-copy-in-TooLong-clause-at_once : goal.returns-in_err-copy-in-TooLong-clause-at_once
returns-in_err-copy-in-TooLong-clause-at_once g c =
    let p = err_from_is_err_and c.from_residual-in_err-copy-in-TooLong.result c.from_residual-in_err-copy-in-TooLong.ensures.1 in
    rw (p.1, p.2) (λ t told under fault unreadable. record { answer = tt; only_read = c.in_ok-text.ensures.only_read })

pub returns-in_ok-copy-in-TooLong-clause-at_once : goal.returns-in_ok-copy-in-TooLong-clause-at_once
returns-in_ok-copy-in-TooLong-clause-at_once g c = λ t told under fault unreadable. record {
  answer = ap (λ at. faults.Limit (FileBytes at)) c.in_ok-copy-in-TooLong.ensures
      ∙ long_is_due c.args.at.now t fault c.in_ok-text.field-0 under (c.in_ok-text.ensures.answer t told) c.in-TooLong.is unreadable;
  only_read = c.in_ok-text.ensures.only_read;
}

pub returns-in_err-text-clause-unread : goal.returns-in_err-text-clause-unread
returns-in_err-text-clause-unread g c = λ path is.
    let p = err_from_is_err_and c.from_residual.result c.from_residual.ensures.1 in
    let given = p.1 in
    let from = p.2 in
    absurd (no_other_tree c.in_err-text.field-0.0 path cc)

pub returns-in_ok-copy-in-NotFile-clause-unread : goal.returns-in_ok-copy-in-NotFile-clause-unread
returns-in_ok-copy-in-NotFile-clause-unread g c = λ path is.
    let copied = c.in_ok-copy-in-NotFile.ensures in
    (cc, λ t told under. no_file_shown c.args.at.now t (faults.OtherEntry c.args.at.now) c.in_ok-text.field-0 under (c.in_ok-text.ensures.answer t told) c.in-NotFile.is)
