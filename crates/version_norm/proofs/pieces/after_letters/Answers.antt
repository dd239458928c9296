use Rattle.std.proofs.Common.{◌≡◌, ◌∙◌, sym, refl}
use Rattle.std.proofs.lemmas.Bool.{false≢true}
use Rattle.path_name.specs.Bytes.{lowered}
use Rattle.version_norm.proofs.Words.{after_word-short, after_word-take, after_word-no}
use Rattle.version_norm.proofs.pieces.after_letters.Goals as goal

pub returns-then-text-word : goal.returns-then-text-word
returns-then-text-word c = sym (after_word-short c.args.word.now c.args.text.now c.if-text-word.true)

pub returns-then-eq_ignore_ascii_case : goal.returns-then-eq_ignore_ascii_case
returns-then-eq_ignore_ascii_case c =
    let same : lowered c.split_at.result.0.now ≡ lowered c.args.word.now = c.if-eq_ignore_ascii_case.ensures.test.0 refl in
    rw c.split_at.ensures.back (sym (after_word-take c.args.word.now c.args.text.now c.if-text-word.false (rw (← c.split_at.ensures.front) (same ∙ c.requires))))

pub returns-else-eq_ignore_ascii_case : goal.returns-else-eq_ignore_ascii_case
returns-else-eq_ignore_ascii_case c =
    sym (after_word-no c.args.word.now c.args.text.now (λ same. false≢true (c.if-eq_ignore_ascii_case.ensures.test.1 (rw c.split_at.ensures.front (same ∙ sym c.requires)))))
