-- Comments, by the places of the bytes that end them.
use Rattle.std.proofs.Common.{◌≡◌, ℕ, zero, suc, ◌+◌, ◌<◌, ◌≤◌, Bool, true, false, eqb, List, [], ◌∷◌, length, get_or, drop, Option, Some, None, eqb-true, refl, sym, ap, ◌∙◌, arith}
use Rattle.std.specs.Option.{unwrap_or}
use Rattle.std.proofs.Math.Seq.{drop-length}
use Rattle.std.proofs.lemmas.List.{drop_more}
use Rattle.memchr.specs.Find.{Passes, Nowhere, NoneBefore, IsFirstByte, is_byte, is_byte2}
use Rattle.table_scan.proofs.Cases.{by_test}
use Rattle.table_scan.specs.TableTokens.{behind, ends_line, line_end, behind_block}

pub line_stops : (text : List ℕ) (n : ℕ) → ((k : ℕ) → k < n → ends_line (get_or text k 0) ≡ true → ⊥) → n ≤ length text → (n < length text → ends_line (get_or text n 0) ≡ true) → line_end text ≡ drop n text
line_stops [] zero before within here = refl
line_stops [] (suc n) before within here = absurd (omega arith)
line_stops (byte ∷ rest) zero before within here = let e : ends_line byte ≡ true = here (omega arith) in rw e refl
line_stops (byte ∷ rest) (suc n) before within here = by_test (ends_line byte)
    (λ e. absurd (before 0 (omega arith) e))
    (λ e. rw e (line_stops rest n (λ k below. before (suc k) (omega arith)) (omega arith) (λ below. here (omega arith))))

-- bytes other than `*`
pub block_skips : (text : List ℕ) (n : ℕ) → ((k : ℕ) → k < n → eqb (get_or text k 0) 42 ≡ true → ⊥) → n ≤ length text → behind_block text ≡ behind_block (drop n text)
block_skips text zero before within = refl
block_skips [] (suc n) before within = absurd (omega arith)
block_skips (byte ∷ []) (suc zero) before within = refl
block_skips (byte ∷ []) (suc (suc n)) before within = absurd (omega arith)
block_skips (byte ∷ next ∷ rest) (suc n) before within = by_test (eqb byte 42)
    (λ e. absurd (before 0 (omega arith) e))
    (λ e. rw e (block_skips (next ∷ rest) n (λ k below. before (suc k) (omega arith)) (omega arith)))

-- behind a `*`
pub block_ends : (rest after : List ℕ) → behind (47 ∷ []) rest ≡ Some after → behind_block (42 ∷ rest) ≡ Some after
block_ends [] after e = absurd cc
block_ends (next ∷ rest) after e = by (eqb next 47) refl
  where
    by : (b : Bool) → eqb next 47 ≡ b → behind_block (42 ∷ next ∷ rest) ≡ Some after
    by true k = rw k (rw k at e)
    by false k = let no : ◌≡◌ {A = Option (List ℕ)} None (Some after) = rw k at e in absurd cc

pub block_goes_on : (rest : List ℕ) → behind (47 ∷ []) rest ≡ None → behind_block (42 ∷ rest) ≡ behind_block rest
block_goes_on [] e = refl
block_goes_on (next ∷ rest) e = by (eqb next 47) refl
  where
    by : (b : Bool) → eqb next 47 ≡ b → behind_block (42 ∷ next ∷ rest) ≡ behind_block (next ∷ rest)
    by true k = let no : ◌≡◌ {A = Option (List ℕ)} (Some rest) None = rw k at e in absurd cc
    by false k = rw k refl

-- ---- what a search for a byte finds

pub line_at : (text : List ℕ) (found : Option ℕ) (n : ℕ) → IsFirstByte (is_byte2 10 13) text found → n ≡ unwrap_or found (length text) → line_end text ≡ drop n text
line_at text None n h e = rw e (line_stops text (length text) (λ k below test. h k (omega arith) below test) (omega arith) (λ below. absurd (omega arith)))
line_at text (Some at) n h e = rw e (line_stops text at (λ k below test. h.0.before k (omega arith) below test) (let l = h.0.high in omega (arith, l)) (λ below. h.1))

pub block_without_star : (text : List ℕ) → Nowhere (Passes (is_byte 42) text) 0 (length text) → behind_block text ≡ None
block_without_star text h = block_skips text (length text) (λ k below test. h k (omega arith) below test) (omega arith) ∙ ap behind_block (drop-length text)

pub block_at_star : (text rest : List ℕ) (star : ℕ) → NoneBefore (Passes (is_byte 42) text) 0 (length text) star × Passes (is_byte 42) text star → rest ≡ drop (star + 1) text → behind_block text ≡ behind_block (42 ∷ rest)
block_at_star text rest star h e =
    let l : star < length text = h.0.high in
    let byte : get_or text star 0 ≡ 42 = eqb-true (get_or text star 0) 42 h.1 in
    block_skips text star (λ k below test. h.0.before k (omega arith) below test) (omega arith) ∙ ap behind_block (drop_more text star 0 l ∙ ap (λ b. b ∷ drop (star + 1) text) byte ∙ ap (λ r. 42 ∷ r) (sym e))
