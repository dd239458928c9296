-- The steps of a word.
use Rattle.std.proofs.Common.{◌≡◌, ℕ, zero, suc, ◌+◌, ◌<◌, ◌≤◌, Bool, true, cond, eqb, List, [], ◌∷◌, length, get_or, drop, None, Result, Err, refl, sym, ap, subst, ◌∙◌, arith}
use Rattle.std.proofs.lemmas.Bool.Decides.{nat_tests}
use Rattle.json_ordered.specs.declared.stop.Stop as stops
use Rattle.json_ordered.specs.declared.stop.Stop.TheVariants as stop
use Rattle.json_ordered.specs.JsonTree.{JsonTree}
use Rattle.json_ordered.specs.JsonReading.{Frame, In_word, After_value, Next, Go, Wrong, step, whole_value, Stop, Syntax_with, ended, goes_on, read_from}
use Rattle.json_ordered.specs.JsonSteps.{at, Fails, NoByte}
use Rattle.json_ordered.proofs.Complete.{one_byte, word_read}
use Rattle.json_ordered.proofs.Reader.{drop_at}

module _ (levels : ℕ) (stack : List Frame) (v : JsonTree) where
  abbrev pub rw_word : List ℕ → List ℕ → Result JsonTree Stop
  rw_word left text = read_from (at levels stack (In_word left v)) text

  unended : (next : ℕ) (left : List ℕ) → whole_value stack (In_word (next ∷ left) v) ≡ None
  unended next left = by_stack stack
    where
      by_stack : (all : List Frame) → whole_value all (In_word (next ∷ left) v) ≡ None
      by_stack [] = refl
      by_stack (frame ∷ all) = refl

  word_stops : (next : ℕ) (left text : List ℕ) → NoByte next text → rw_word (next ∷ left) text ≡ Err (Syntax_with (length text))
  unfolding read_from step
  word_stops next left [] h = ap ended (unended next left)
  word_stops next left (byte ∷ rest) h = ap (λ (n : Next). goes_on n (suc (length rest)) (λ u. read_from u rest)) (ap (λ (b : Bool). cond b (Go (at levels stack (In_word left v))) Wrong) h)

  pub word_halts : (word text : List ℕ) (i : ℕ) (e : stops.Stop) → i < length word → e ≡ stop.Syntax (length text) → NoByte (get_or word i 0) text → Fails e (rw_word (drop i word) text)
  word_halts word text i e lt is h = subst (λ (f : stops.Stop). Fails f (rw_word (drop i word) text)) (sym is) (ap (λ (w : List ℕ). rw_word w text) (drop_at word i lt) ∙ word_stops (get_or word i 0) (drop (i + 1) word) text h)

  same_byte : (b : ℕ) → eqb b b ≡ true
  same_byte b = grind (arith, nat_tests)

  pub word_more : (word text rest : List ℕ) (i : ℕ) → i < length word → text ≡ get_or word i 0 ∷ rest → rw_word (drop i word) text ≡ rw_word (drop (i + 1) word) rest
  word_more word text rest i lt parts = ap (λ (w : List ℕ). rw_word w text) (drop_at word i lt) ∙ ap (rw_word (get_or word i 0 ∷ drop (i + 1) word)) parts
      ∙ one_byte levels stack (In_word (get_or word i 0 ∷ drop (i + 1) word) v) (at levels stack (In_word (drop (i + 1) word) v)) (get_or word i 0) rest (rw (same_byte (get_or word i 0)) refl)

  pub word_ends : (word text : List ℕ) (i : ℕ) → length word ≤ i → rw_word (drop i word) text ≡ read_from (at levels stack (After_value v)) text
  word_ends word text i le = ap (λ (w : List ℕ). rw_word w text) (drop_all word i le) ∙ word_read levels stack [] v text
    where
      drop_all : (xs : List ℕ) (n : ℕ) → length xs ≤ n → drop n xs ≡ []
      drop_all [] zero h = refl
      drop_all [] (suc n) h = refl
      drop_all (x ∷ xs) zero h = absurd (omega arith)
      drop_all (x ∷ xs) (suc n) h = drop_all xs n (omega arith)
