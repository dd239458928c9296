-- A text says one journal.
use Rattle.std.proofs.Common.{◌≡◌, ℕ, zero, suc, ◌+◌, ◌<◌, ◌^◌, List, [], ◌∷◌, ◌++◌, length, refl, sym, ap, ◌∙◌, append_assoc, arith}
use Rattle.std.specs.Prelude.{codes, All}
use Rattle.std.proofs.lemmas.Fmt.{decimal_injective}
use Rattle.std.proofs.lemmas.List.{append_cancel_left, length-append}
use Rattle.path_name.specs.Decimals.{decimal_text}
use Rattle.install_world.specs.Lines.{line}
use Rattle.install_world.specs.JournalText.{version_words, generation_words, target_words, target_lines, end_line, journal_text, IsTargetOf, Says}
use Rattle.install_world.specs.declared.journal.Journal.{Journal}
use Rattle.install_world.specs.declared.target.Target.{Target}
use Rattle.install_world.specs.declared.version.Version.{Version}
use Rattle.install_world.proofs.Cuts.{one_cut}
use Rattle.install_world.proofs.Grammar.{line_then, not_end, behind_version, behind_generation}
use Rattle.install_world.proofs.GrammarLines.{version_one, generation_one, target_one}
use Rattle.install_world.proofs.ReadJournal.{few_targets}
use Rattle.install_world.proofs.TargetLines.{same_target}

first_is : (version : Version) (target : Target) (targets : List Target) → All (IsTargetOf version) (target ∷ targets) → IsTargetOf version target
first_is version target targets each = each zero target (omega arith)

rest_are : (version : Version) (target : Target) (targets : List Target) → All (IsTargetOf version) (target ∷ targets) → All (IsTargetOf version) targets
rest_are version target targets each k d below = each (suc k) d (omega arith)

-- lines up to `end` say one list of targets
same_lines : (version other : Version) (number : ℕ) (first second : List Target) → number + length first < 2 ^ 64 → number + length second < 2 ^ 64
    → All (IsTargetOf version) first → All (IsTargetOf other) second → target_lines number first ++ end_line ≡ target_lines number second ++ end_line → first ≡ second
unfolding target_lines
same_lines version other number [] [] small also f s e = refl
same_lines version other number [] (target ∷ targets) small also f s e =
    let cut = one_cut (codes "end") [] (target_words number target) (target_lines (number + 1) targets ++ end_line) refl (target_one number target (omega arith))
    (e ∙ append_assoc (line (target_words number target)) (target_lines (number + 1) targets) end_line
    ∙ line_then (target_words number target) (target_lines (number + 1) targets ++ end_line)) in
    absurd (not_end target.gone _ (sym cut.0))
same_lines version other number (target ∷ targets) [] small also f s e =
    let cut = one_cut (codes "end") [] (target_words number target) (target_lines (number + 1) targets ++ end_line) refl (target_one number target (omega arith))
    (sym e ∙ append_assoc (line (target_words number target)) (target_lines (number + 1) targets) end_line
    ∙ line_then (target_words number target) (target_lines (number + 1) targets ++ end_line)) in
    absurd (not_end target.gone _ (sym cut.0))
same_lines version other number (x ∷ xs) (y ∷ ys) small also f s e =
    let cut = one_cut (target_words number x) (target_lines (number + 1) xs ++ end_line) (target_words number y) (target_lines (number + 1) ys ++ end_line)
    (target_one number x (omega arith)) (target_one number y (omega arith))
    (sym (line_then (target_words number x) (target_lines (number + 1) xs ++ end_line))
    ∙ sym (append_assoc (line (target_words number x)) (target_lines (number + 1) xs) end_line) ∙ e
    ∙ append_assoc (line (target_words number y)) (target_lines (number + 1) ys) end_line
    ∙ line_then (target_words number y) (target_lines (number + 1) ys ++ end_line)) in
    let first : x ≡ y = same_target number x y (first_is version x xs f).place.segments (first_is other y ys s).place.segments cut.0 in
    let rest : xs ≡ ys = same_lines version other (number + 1) xs ys (omega arith) (omega arith) (rest_are version x xs f) (rest_are other y ys s) cut.1 in
    ap (λ t. t ∷ xs) first ∙ ap (λ ts. y ∷ ts) rest

pub few_in : (version : Version) (text : List ℕ) (journal : Journal) → text ≡ journal_text version journal → length text < 2 ^ 64 → length journal.targets < 2 ^ 64
unfolding journal_text
few_in version text journal e small =
    let few = few_targets 0 journal.targets in
    let all = ap length e in
    let one = length-append (line (version_words version)) (behind_version journal) in
    let two = length-append (line (generation_words journal.generation)) (behind_generation journal) in
    let three = length-append (target_lines 0 journal.targets) end_line in
    omega arith

pub one_journal : (text : List ℕ) (first second : Journal) → length text < 2 ^ 64 → Says text first → Says text second → first ≡ second
unfolding journal_text
one_journal text first second small f s =
    let outer = one_cut (version_words f.version) (behind_version first) (version_words s.version) (behind_version second) (version_one f.version) (version_one s.version)
    (sym (line_then (version_words f.version) (behind_version first)) ∙ sym f.printed ∙ s.printed ∙ line_then (version_words s.version) (behind_version second)) in
    let a = f.is_journal.generation in
    let b = s.is_journal.generation in
    let inner = one_cut (generation_words first.generation) (behind_generation first) (generation_words second.generation) (behind_generation second)
    (generation_one first.generation a.small) (generation_one second.generation b.small)
    (sym (line_then (generation_words first.generation) (behind_generation first)) ∙ outer.1 ∙ line_then (generation_words second.generation) (behind_generation second)) in
    let generation : first.generation ≡ second.generation = decimal_injective first.generation second.generation a.small b.small
    (append_cancel_left (codes "generation ") (decimal_text first.generation) (decimal_text second.generation) inner.0) in
    let targets : first.targets ≡ second.targets = same_lines f.version s.version 0 first.targets second.targets
    (let l = few_in f.version text first f.printed small in omega arith) (let l = few_in s.version text second s.printed small in omega arith)
    f.is_journal.job.each s.is_journal.job.each inner.1 in
    ap (λ g. record { generation = g; targets = first.targets }) generation ∙ ap (λ ts. record { generation = second.generation; targets = ts }) targets
