-- The front of a text that passes a test, and what stops it.
use Rattle.std.proofs.Common.{◌≡◌, ℕ, ◌+◌, ◌<◌, Bool, true, false, cond, ltb, List, [], ◌∷◌, ◌++◌, length, take, drop, Option, Some, None, refl, sym, subst, ap, ◌∙◌, arith}
use Rattle.std.specs.List.{prefix_len, list_all}
use Rattle.std.specs.Prelude.{◌&&◌}
use Rattle.std.proofs.Math.Numerals.{one-add}
use Rattle.std.proofs.lemmas.Bool.{ltb-true, lt-ltb}
use Rattle.std.proofs.lemmas.List.{take-append-drop}
use Rattle.std.proofs.lemmas.List.Folds.{length-prefix_len}
use Rattle.path_name.specs.Bytes.{is_blank}
use Rattle.version_norm.specs.Versions.{without_blanks_before}
use Rattle.version_norm.proofs.Digits.{front_passes}
use Rattle.constraint_set.specs.Words.{is_in_word, word_len, word_here, next_word}
use Rattle.constraint_set.specs.Grammar.{IsBlanks, IsGap, IsWord}
use Rattle.constraint_set.specs.Faults.{BeginsWithout}

-- nothing, or a byte that does not pass
abbrev pub Stops : (ℕ → Bool) → List ℕ → Type 0
Stops p text = BeginsWithout p text

pub front_stops : (p : ℕ → Bool) (text : List ℕ) → Stops p (drop (prefix_len p text) text)
front_stops p [] = tt
front_stops p (b ∷ bs) = elim (p b) as (λ t. p b ≡ t → Stops p (drop (cond t (1 + prefix_len p bs) 0) (b ∷ bs))) [
  | true ↦ λ e. rw one-add (front_stops p bs)
  | false ↦ λ e. e
] refl

-- ---- blanks at the front

pub record Trimmed (text : List ℕ) : Type 0 where
  pub before : List ℕ
  pub blank : IsBlanks before
  pub whole : text ≡ before ++ without_blanks_before text
  pub stops : Stops is_blank (without_blanks_before text)

pub trimmed_front : (text : List ℕ) → Trimmed text
trimmed_front text = record {
  before = take (prefix_len is_blank text) text;
  blank = front_passes is_blank text;
  whole = sym (take-append-drop (prefix_len is_blank text) text);
  stops = front_stops is_blank text;
}

-- ---- words

pub record TakesWord (text : List ℕ) (x : List ℕ × List ℕ) : Type 0 where
  pub is : IsWord x.0
  pub whole : text ≡ x.0 ++ x.1
  pub stops : Stops is_in_word x.1

abbrev found : List ℕ → List ℕ → Option (List ℕ × List ℕ)
found word rest = Some (word, rest)

pub same_word : (x y : List ℕ × List ℕ) → ◌≡◌ {A = Option (List ℕ × List ℕ)} (Some x) (Some y) → x ≡ y
same_word x y e = cc

pub word_here_takes : (text : List ℕ) (x : List ℕ × List ℕ) → word_here text ≡ Some x → TakesWord text x
word_here_takes text x e =
    elim (ltb 0 (word_len text)) as (λ t. ltb 0 (word_len text) ≡ t → cond t (found (take (word_len text) text) (drop (word_len text) text)) None ≡ Some x → TakesWord text x) [
      | true ↦ λ some h.
          let same = same_word (take (word_len text) text, drop (word_len text) text) x h in
          let long : 0 < length (take (word_len text) text) = rw (length-prefix_len is_in_word text) (ltb-true 0 (word_len text) some) in
          let made : TakesWord text (take (word_len text) text, drop (word_len text) text) = record {
            is = record { some = long; all = front_passes is_in_word text };
            whole = sym (take-append-drop (word_len text) text);
            stops = front_stops is_in_word text;
          } in
          subst (λ (y : List ℕ × List ℕ). TakesWord text y) same made
      | false ↦ λ none h. absurd cc
    ] refl e

-- where no word comes, the text does not begin with one
pub no_word_here : (text : List ℕ) → word_here text ≡ None → Stops is_in_word text
no_word_here [] e = tt
no_word_here (b ∷ bs) e = by (is_in_word b) refl e
  where
    by : (t : Bool) → is_in_word b ≡ t → word_here (b ∷ bs) ≡ None → is_in_word b ≡ false
    by false same h = same
    by true same h =
        let long : word_len (b ∷ bs) ≡ 1 + word_len bs = rw same refl in
        let some : ltb 0 (word_len (b ∷ bs)) ≡ true = lt-ltb 0 (word_len (b ∷ bs)) (omega (arith, long)) in
        absurd (let h2 = rw some at h in cc)

-- a word behind a gap
pub record TakesNext (text : List ℕ) (x : List ℕ × List ℕ) : Type 0 where
  pub gap : List ℕ
  pub is_gap : IsGap gap
  pub is : IsWord x.0
  pub whole : text ≡ gap ++ (x.0 ++ x.1)
  pub stops : Stops is_in_word x.1

word_begins : (word rest : List ℕ) → IsWord word → Stops is_in_word (word ++ rest) → ⊥
word_begins [] rest is stops = absurd (let h = is.some in omega arith)
word_begins (b ∷ bs) rest is stops = by (is_in_word b) is.all stops
  where
    by : (t : Bool) → (t && list_all is_in_word bs) ≡ true → t ≡ false → ⊥
    by true h e = cc
    by false h e = cc

pub next_word_takes : (text : List ℕ) (x : List ℕ × List ℕ) → Stops is_in_word text → next_word text ≡ Some x → TakesNext text x
next_word_takes text x stops e =
    let cut = trimmed_front text in
    let word = word_here_takes (without_blanks_before text) x e in
    let whole : text ≡ cut.before ++ (x.0 ++ x.1) = cut.whole ∙ ap (λ (y : List ℕ). cut.before ++ y) word.whole in
    record { gap = cut.before; is_gap = record { some = by cut.before whole; blank = cut.blank }; is = word.is; whole = whole; stops = word.stops }
  where
    by : (before : List ℕ) → text ≡ before ++ (x.0 ++ x.1) → 0 < length before
    by [] whole = absurd (word_begins x.0 x.1 (word_here_takes (without_blanks_before text) x e).is (subst (λ (y : List ℕ). Stops is_in_word y) whole stops))
    by (b ∷ bs) whole = omega arith
