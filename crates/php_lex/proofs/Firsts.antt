-- The first place that passes a test, found by a byte that such places have.
use Rattle.std.proofs.Common.{◌≡◌, ℕ, zero, suc, ◌+◌, ◌-◌, ◌<◌, ◌≤◌, Bool, true, false, List, [], ◌∷◌, length, ◌==◌, ◌||◌, get_or, drop, Option, Some, None, refl, sym, ap, ◌∙◌, arith}
use Rattle.std.proofs.lemmas.List.{drop-drop, drop_more, drop_all, length-drop, get_or-drop}
use Rattle.memchr.specs.Find.{Nowhere, NoneBefore, Passes, is_byte2, is_byte3}
use Rattle.php_lex.specs.Places.{has_first, first_place, SkipsTo}

not_true : (b : Bool) → (b ≡ true → ⊥) → b ≡ false
not_true true h = absurd (h refl)
not_true false h = refl

module _ (test : List ℕ → Bool) where
  cons_here : (b : ℕ) (t : List ℕ) → test (b ∷ t) ≡ true → first_place test (b ∷ t) ≡ Some (b ∷ t)
  cons_here b t h = rw h refl

  cons_not : (b : ℕ) (t : List ℕ) → test (b ∷ t) ≡ false → first_place test (b ∷ t) ≡ first_place test t
  cons_not b t h = rw h refl

  pub skip_none : (k : ℕ) (text : List ℕ) → ((j : ℕ) → j < k → test (drop j text) ≡ false) → first_place test text ≡ first_place test (drop k text)
  skip_none zero text none = refl
  skip_none (suc k) [] none = refl
  skip_none (suc k) (b ∷ t) none = cons_not b t (none 0 (omega arith)) ∙ skip_none k t (λ j lt. none (suc j) (omega arith))

  pub place_here : (k : ℕ) (text : List ℕ) → k < length text → test (drop k text) ≡ true → first_place test (drop k text) ≡ Some (drop k text)
  place_here k [] lt h = absurd (omega arith)
  place_here zero (b ∷ t) lt h = cons_here b t h
  place_here (suc k) (b ∷ t) lt h = place_here k t (omega arith) h

  pub place_not_here : (k : ℕ) (text : List ℕ) → k < length text → test (drop k text) ≡ false → first_place test (drop k text) ≡ first_place test (drop (k + 1) text)
  place_not_here k text lt h =
      ap (first_place test) (drop_more text k 0 lt) ∙ cons_not (get_or text k 0) (drop (k + 1) text) (ap test (sym (drop_more text k 0 lt)) ∙ h)

  pub place_end : (k : ℕ) (text : List ℕ) → length text ≤ k → first_place test (drop k text) ≡ None
  place_end k text le = ap (first_place test) (drop_all k text le)

both : {b : Bool} → b ≡ true → b ≡ false → ⊥
both f g = cc

-- what stands at a place
pub first_at : (p : ℕ → Bool) (text : List ℕ) (at : ℕ) → at < length text → has_first p (drop at text) ≡ p (get_or text at 0)
first_at p text at lt = ap (has_first p) (drop_more text at 0 lt)

pub first_byte : (p : ℕ → Bool) (j : ℕ) (text : List ℕ) → has_first p (drop j text) ≡ true → p (get_or text j 0) ≡ true
first_byte p zero [] h = absurd cc
first_byte p zero (b ∷ t) h = h
first_byte p (suc j) [] h = absurd cc
first_byte p (suc j) (b ∷ t) h = first_byte p j t h

-- a place that passes has a byte that passes p, and no byte before k does
pub skip_to : (test : List ℕ → Bool) (p : ℕ → Bool) → ((t : List ℕ) → test t ≡ true → has_first p t ≡ true) → (at place : ℕ) (text : List ℕ)
    → SkipsTo p text at place → first_place test (drop at text) ≡ first_place test (drop place text)
skip_to test p imp at place text s =
    skip_none test (place - at) (drop at text) (λ j lt. not_true (test (drop j (drop at text))) (λ h.
    let e : drop j (drop at text) ≡ drop (at + j) text = drop-drop j at text in
    let f : has_first p (drop (at + j) text) ≡ true = ap (has_first p) (sym e) ∙ imp (drop j (drop at text)) h in
    let g : has_first p (drop (at + j) text) ≡ false = s.none (at + j) (omega arith) (omega arith) in
    both f g))
    ∙ ap (first_place test) (drop-drop (place - at) at text ∙ ap (λ (n : ℕ). drop n text) (let low = s.low in omega arith))

-- what memchr finds
pub found : (p : ℕ → Bool) (text : List ℕ) (at ahead : ℕ) (rest : List ℕ) → rest ≡ drop at text → at ≤ length text → NoneBefore (Passes p rest) 0 (length rest) ahead → Passes p rest ahead
    → SkipsTo p text at (at + ahead)
found p text at ahead rest is le none passes =
    let e : length rest ≡ length text - at = ap length is ∙ length-drop at text in
    let high = none.high in
    let le_all : at + ahead < length text = omega arith in
    let byte : (j : ℕ) → get_or rest j 0 ≡ get_or text (at + j) 0 = λ j. ap (λ (l : List ℕ). get_or l j 0) is ∙ get_or-drop at text j 0 in
    record {
      low = omega arith;
      within = omega arith;
      none = λ j low below. not_true (has_first p (drop j text)) (λ h. none.before (j - at) (omega arith) (omega arith)
          (ap p (byte (j - at) ∙ ap (λ (n : ℕ). get_or text n 0) (let e : at + (j - at) ≡ j = omega arith in e)) ∙ first_byte p j text h));
      found = λ lt. first_at p text (at + ahead) le_all ∙ ap p (sym (byte ahead)) ∙ passes;
    }

pub none_found : (p : ℕ → Bool) (text : List ℕ) (at : ℕ) (rest : List ℕ) → rest ≡ drop at text → at ≤ length text → Nowhere (Passes p rest) 0 (length rest) → SkipsTo p text at (length text)
none_found p text at rest is le none =
    let e : length rest ≡ length text - at = ap length is ∙ length-drop at text in
    let byte : (j : ℕ) → get_or rest j 0 ≡ get_or text (at + j) 0 = λ j. ap (λ (l : List ℕ). get_or l j 0) is ∙ get_or-drop at text j 0 in
    record {
      low = le;
      within = omega arith;
      none = λ j low high. not_true (has_first p (drop j text)) (λ h. none (j - at) (omega arith) (omega arith)
          (ap p (byte (j - at) ∙ ap (λ (n : ℕ). get_or text n 0) (let e : at + (j - at) ≡ j = omega arith in e)) ∙ first_byte p j text h));
      found = λ lt. absurd (omega arith);
    }

-- a loop over such bytes
module _ (test : List ℕ → Bool) (p : ℕ → Bool) (imp : (t : List ℕ) → test t ≡ true → has_first p t ≡ true) (answer : Option (List ℕ)) (text : List ℕ) (at place : ℕ)
    (so_far : answer ≡ first_place test (drop at text)) (skips : SkipsTo p text at place) where
  pub place_none : length text ≤ place → answer ≡ None
  place_none le = so_far ∙ skip_to test p imp at place text skips ∙ place_end test place text le

  pub place_found : place < length text → test (drop place text) ≡ true → answer ≡ Some (drop place text)
  place_found lt h = so_far ∙ skip_to test p imp at place text skips ∙ place_here test place text lt h

  pub place_later : place < length text → test (drop place text) ≡ false → answer ≡ first_place test (drop (place + 1) text)
  place_later lt h = so_far ∙ skip_to test p imp at place text skips ∙ place_not_here test place text lt h

pub first_within : (p : ℕ → Bool) (n : ℕ) (text : List ℕ) → has_first p (drop n text) ≡ true → n < length text
first_within p zero [] h = absurd cc
first_within p zero (b ∷ t) h = omega arith
first_within p (suc n) [] h = absurd cc
first_within p (suc n) (b ∷ t) h = let lt = first_within p n t h in omega arith

-- the place itself passes
pub at_once : (p : ℕ → Bool) (text : List ℕ) (at : ℕ) → at ≤ length text → has_first p (drop at text) ≡ true → SkipsTo p text at at
at_once p text at le h = record { low = omega arith; within = le; none = λ j low below. absurd (omega arith); found = λ lt. h }

-- one of two or three bytes, each tried by itself
pub first_of2 : (a b : ℕ) (t : List ℕ) → has_first (λ x. x == a) t || has_first (λ x. x == b) t ≡ true → has_first (is_byte2 a b) t ≡ true
first_of2 a b [] h = absurd cc
first_of2 a b (x ∷ t) h = h

pub first_of3 : (a b c : ℕ) (t : List ℕ) → (has_first (λ x. x == a) t || has_first (λ x. x == b) t) || has_first (λ x. x == c) t ≡ true → has_first (is_byte3 a b c) t ≡ true
first_of3 a b c [] h = absurd cc
first_of3 a b c (x ∷ t) h = h

pub or_of2 : {r s x y : Bool} → r ≡ x → s ≡ y → r || s ≡ true → x || y ≡ true
or_of2 e f h = cc

pub or_of3 : {q r s x y z : Bool} → q ≡ x → r ≡ y → s ≡ z → (q || r) || s ≡ true → (x || y) || z ≡ true
or_of3 d e f h = cc
