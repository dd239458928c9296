-- Texts with `\` and `'` preceded by `\`, run by run.
use Rattle.std.proofs.Common.{◌≡◌, ℕ, zero, suc, ◌<◌, ◌≤◌, true, false, List, [], ◌∷◌, ◌++◌, length, get_or, take, drop, refl, sym, ap, ◌∙◌, append_assoc, arith}
use Rattle.std.proofs.lemmas.List.{append-nil}
use Rattle.table_scan.specs.TableTokens.{is_special}
use Rattle.table_scan.specs.QuotedTexts.{escaped, closed}
use Rattle.table_print.specs.Parts.{StartsSpecial}

pub escaped_run : (text : List ℕ) (n : ℕ) → n ≤ length text → ((k : ℕ) → k < n → is_special (get_or text k 0) ≡ false) → escaped text ≡ take n text ++ escaped (drop n text)
escaped_run text zero l plain = refl
escaped_run [] (suc n) l plain = absurd (omega arith)
escaped_run (byte ∷ bytes) (suc n) l plain = rw (plain 0 (omega arith)) (ap (λ t. byte ∷ t) (escaped_run bytes n (omega arith) (λ k below. plain (suc k) (omega arith))))

pub starts_special : (text : List ℕ) (n : ℕ) → (n < length text → is_special (get_or text n 0) ≡ true) → StartsSpecial (drop n text)
starts_special [] zero h = tt
starts_special [] (suc n) h = tt
starts_special (byte ∷ bytes) zero h = h (omega arith)
starts_special (byte ∷ bytes) (suc n) h = starts_special bytes n (λ below. h (omega arith))

-- a run and a special byte were added
pub one_more : (out now all run end rest after : List ℕ) (byte : ℕ) → out ++ escaped rest ≡ all → escaped rest ≡ run ++ escaped end → StartsSpecial end → end ≡ byte ∷ after → now ≡ (out ++ run) ++ 92 ∷ byte ∷ [] → now ++ escaped after ≡ all
one_more out now all run end rest after byte so_far kept special is has =
    let one : is_special byte ≡ true = rw is at special in
    let more : escaped (byte ∷ after) ≡ 92 ∷ byte ∷ escaped after = rw one refl in
    ap (λ t. t ++ escaped after) has ∙ append_assoc (out ++ run) (92 ∷ byte ∷ []) (escaped after) ∙ append_assoc out run (92 ∷ byte ∷ escaped after)
    ∙ ap (λ t. out ++ t) (ap (λ t. run ++ t) (sym more ∙ ap escaped (sym is)) ∙ sym kept) ∙ so_far

-- the last run was added, and the closing quote
pub at_end : (out now before text run end rest : List ℕ) → out ++ escaped rest ≡ before ++ escaped text → escaped rest ≡ run ++ escaped end → end ≡ [] → now ≡ (out ++ run) ++ 39 ∷ [] → now ≡ before ++ closed text
at_end out now before text run end rest so_far kept none has =
    has ∙ ap (λ t. t ++ 39 ∷ []) (ap (λ t. out ++ t) (sym (append-nil run) ∙ ap (λ t. run ++ escaped t) (sym none) ∙ sym kept) ∙ so_far) ∙ append_assoc before (escaped text) (39 ∷ [])
