use Rattle.std.proofs.Common.{◌≡◌, ◌∙◌, sym, ap, subst, ◌++◌, ◌∷◌, []}
use Rattle.std.proofs.lemmas.Result.{IfOk-weaker}
use Rattle.json_ordered.specs.JsonTexts.{pretty_text}
use Rattle.json_ordered.specs.Docs.{tree_of}
use Rattle.lock_file.specs.LockText.{lock_text}
use Rattle.lock_file.specs.Rereading.{IsTextOf}
use Rattle.lock_file.proofs.KeptLocks.{text_of}
use Rattle.lock_file.proofs.printing.print.Goals as goal

pub returns-clause-kept : goal.returns-clause-kept
unfolding lock_text
returns-clause-kept c = λ kept.
    let lock = c.args.lock.now in
    let whole : IsTextOf lock (lock_text lock) = text_of lock kept in
    IfOk-weaker c.with_line_end.result (λ text. text ≡ pretty_text (tree_of c.in_ok-doc.doc) ++ 10 ∷ []) (IsTextOf lock)
    (λ text is. subst (IsTextOf lock) (sym (is ∙ ap (λ tree. pretty_text tree ++ 10 ∷ []) c.in_ok-doc.ensures)) whole) c.with_line_end.ensures
