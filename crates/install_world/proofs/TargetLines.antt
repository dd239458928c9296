-- The lines of targets: one more of them, and that a line names one target.
use Rattle.std.proofs.Common.{◌≡◌, ℕ, ◌+◌, ◌<◌, Bool, true, false, List, [], ◌∷◌, ◌++◌, length, get_or, take, refl, sym, ap, ◌∙◌, append_assoc, arith}
use Rattle.std.specs.Prelude.{codes}
use Rattle.std.proofs.lemmas.List.{append_cancel_left, append-nil, length-take, take_more}
use Rattle.hex.specs.Hex.{encode_lower}
use Rattle.path_name.specs.Decimals.{decimal_text}
use Rattle.path_name.specs.Paths.{IsPath, path_text}
use Rattle.install_world.specs.Lines.{line}
use Rattle.install_world.specs.JournalText.{version_words, generation_words, mark_words, target_words, target_lines, end_line, journal_text}
use Rattle.install_world.specs.declared.journal.Journal.{Journal}
use Rattle.install_world.specs.declared.target.Target.{Target}
use Rattle.install_world.specs.declared.version.Version.TheVariants.{Two}
use Rattle.install_world.proofs.PathBytes.{same_path}

pub target_lines-append : (number : ℕ) (front back : List Target)
    → target_lines number (front ++ back) ≡ target_lines number front ++ target_lines (number + length front) back
unfolding target_lines
target_lines-append number [] back = ap (λ n. target_lines n back) (omega arith)
target_lines-append number (t ∷ ts) back =
    ap (λ rest. line (target_words number t) ++ rest)
    (target_lines-append (number + 1) ts back ∙ ap (λ n. target_lines (number + 1) ts ++ target_lines n back) (omega arith))
    ∙ sym (append_assoc (line (target_words number t)) (target_lines (number + 1) ts) (target_lines (number + length (t ∷ ts)) back))

-- one more target
pub target_lines-push : (targets : List Target) (target : Target)
    → target_lines 0 (targets ++ target ∷ []) ≡ target_lines 0 targets ++ line (target_words (length targets) target)
unfolding target_lines
target_lines-push targets target =
    let number : 0 + length targets ≡ length targets = omega arith in
    target_lines-append 0 targets (target ∷ []) ∙ ap (λ n. target_lines 0 targets ++ target_lines n (target ∷ [])) number
    ∙ ap (λ rest. target_lines 0 targets ++ rest) (append-nil (line (target_words (length targets) target)))

pub same_mark : (first second : Bool) (a b : List ℕ) → mark_words first ++ a ≡ mark_words second ++ b → first ≡ second
same_mark false false a b e = refl
same_mark true true a b e = refl
same_mark false true a b e = absurd (omega (arith, ap (λ text. get_or text 0 0) e))
same_mark true false a b e = absurd (omega (arith, ap (λ text. get_or text 0 0) e))

abbrev behind_first : List ℕ → List ℕ
behind_first [] = []
behind_first (x ∷ xs) = xs

-- the line of a number names one target
pub same_target : (number : ℕ) (first second : Target) → IsPath first.path → IsPath second.path
    → target_words number first ≡ target_words number second → first ≡ second
same_target number first second f s e =
    let mark = same_mark first.gone second.gone _ _ e in
    let rest = append_cancel_left (mark_words second.gone) _ _
    (ap (λ gone. mark_words gone ++ (decimal_text number ++ 32 ∷ encode_lower (path_text first.path))) (sym mark) ∙ e) in
    let digits = ap behind_first (append_cancel_left (decimal_text number) _ _ rest) in
    let path = same_path first.path second.path f s digits in
    ap (λ p. record { path = p; gone = first.gone }) path ∙ ap (λ gone. record { path = second.path; gone = gone }) mark

-- ---- what is written

pub head_written : (old digits : List ℕ)
    → ((old ++ (codes "install-journal 2" ++ 10 ∷ codes "generation ")) ++ digits) ++ 10 ∷ [] ≡ old ++ (line (codes "install-journal 2") ++ line (codes "generation " ++ digits))
head_written old digits =
    append_assoc (old ++ (codes "install-journal 2" ++ 10 ∷ codes "generation ")) digits (10 ∷ [])
    ∙ append_assoc old (codes "install-journal 2" ++ 10 ∷ codes "generation ") (digits ++ 10 ∷ [])

pub text_written : (journal : Journal) (written : List ℕ)
    → written ≡ ((line (version_words Two) ++ line (generation_words journal.generation)) ++ target_lines 0 journal.targets) ++ end_line
    → written ≡ journal_text Two journal
unfolding journal_text
text_written journal written e =
    e ∙ append_assoc (line (version_words Two) ++ line (generation_words journal.generation)) (target_lines 0 journal.targets) end_line
    ∙ append_assoc (line (version_words Two)) (line (generation_words journal.generation)) (target_lines 0 journal.targets ++ end_line)

pub lines_written : (targets : List Target) (number : ℕ) (target : Target) (old text now : List ℕ) → number < length targets → target ≡ get_or targets number target
    → text ≡ old ++ target_lines 0 (take number targets) → now ≡ text ++ line (target_words number target) → now ≡ old ++ target_lines 0 (take (number + 1) targets)
lines_written targets number target old text now below is so_far now_is =
    let more = take_more targets number target below in
    let len : length (take number targets) ≡ number = omega (arith, length-take number targets) in
    now_is ∙ ap (λ t. t ++ line (target_words number target)) so_far ∙ append_assoc old (target_lines 0 (take number targets)) (line (target_words number target))
    ∙ ap (λ lines. old ++ lines)
    (sym (ap (target_lines 0) (more ∙ ap (λ t. take number targets ++ t ∷ []) (sym is)) ∙ target_lines-push (take number targets) target
    ∙ ap (λ n. target_lines 0 (take number targets) ++ line (target_words n target)) len))

pub none_written : (text : List ℕ) → text ≡ text ++ target_lines 0 []
unfolding target_lines
none_written text = sym (append-nil text)
