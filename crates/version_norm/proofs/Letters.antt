-- Letters in any case, and the words of a modifier.
use Rattle.std.proofs.Common.{◌≡◌, ℕ, ◌≤◌, Bool, false, List, [], ◌∷◌, ◌++◌, Option, Some, None, inl, inr, refl, arith, lit≤}
use Rattle.std.specs.Prelude.{codes, ◌==◌}
use Rattle.std.proofs.lemmas.Bool.Decides.{nat_tests}
use Rattle.path_name.specs.Bytes.{is_digit, lower, lowered}
use Rattle.version_norm.specs.declared.version.Stage.{Stage}
use Rattle.version_norm.specs.Pieces.{is_separator, is_dot_or_dash, all_words, after_word, first_word}
use Rattle.version_norm.specs.Grammar.{IsWordOf}
use Rattle.version_norm.proofs.Words.{after_word-append}
use Rattle.version_norm.proofs.Front.{first_passes}

-- the first letter of a text, in any case
abbrev pub starts_as : ℕ → List ℕ → Bool
starts_as letter text = first_passes (λ b. lower b == letter) text

-- What is no digit and no separator: a letter.
pub record IsLetter (b : ℕ) : Type 0 where
  pub no_digit : is_digit b ≡ false
  pub no_separator : is_separator b ≡ false
  pub no_dot_or_dash : is_dot_or_dash b ≡ false
  pub no_dot : (b == 46) ≡ false

pub letter_is : (b l : ℕ) → lower b ≡ l → 97 ≤ l → l ≤ 122 → IsLetter b
letter_is b l e low high = record {
  no_digit = grind (arith, nat_tests);
  no_separator = grind (arith, nat_tests);
  no_dot_or_dash = grind (arith, nat_tests);
  no_dot = grind (arith, nat_tests);
}

-- a text that is spelled with a first letter
pub record Starts (l : ℕ) (ls xs : List ℕ) : Type 0 where
  pub byte : ℕ
  pub rest : List ℕ
  pub is : xs ≡ byte ∷ rest
  pub low : lower byte ≡ l
  pub others : lowered rest ≡ ls

pub starts : (l : ℕ) (ls xs : List ℕ) → lowered xs ≡ l ∷ ls → Starts l ls xs
starts l ls [] e = absurd cc
starts l ls (b ∷ bs) e = record { byte = b; rest = bs; is = refl; low = cc; others = cc }

pub nothing_left : (xs : List ℕ) → lowered xs ≡ [] → xs ≡ []
nothing_left [] e = refl
nothing_left (b ∷ bs) e = absurd cc

-- the first byte is a letter
pub record StartsWithLetter (xs : List ℕ) : Type 0 where
  pub byte : ℕ
  pub rest : List ℕ
  pub is : xs ≡ byte ∷ rest
  pub letter : IsLetter byte

letter_first : (l : ℕ) (ls xs : List ℕ) → lowered xs ≡ l ∷ ls → 97 ≤ l → l ≤ 122 → StartsWithLetter xs
letter_first l ls xs e low high = let s = starts l ls xs e in record { byte = s.byte; rest = s.rest; is = s.is; letter = letter_is s.byte l s.low low high }

pub word_first : (xs : List ℕ) (stage : Option Stage) → IsWordOf all_words xs stage → StartsWithLetter xs
word_first xs stage (inl is) = letter_first 115 (codes "table") xs is.0 (lit≤ tt) (lit≤ tt)
word_first xs stage (inr (inl is)) = letter_first 98 (codes "eta") xs is.0 (lit≤ tt) (lit≤ tt)
word_first xs stage (inr (inr (inl is))) = letter_first 98 [] xs is.0 (lit≤ tt) (lit≤ tt)
word_first xs stage (inr (inr (inr (inl is)))) = letter_first 114 (codes "c") xs is.0 (lit≤ tt) (lit≤ tt)
word_first xs stage (inr (inr (inr (inr (inl is))))) = letter_first 97 (codes "lpha") xs is.0 (lit≤ tt) (lit≤ tt)
word_first xs stage (inr (inr (inr (inr (inr (inl is)))))) = letter_first 97 [] xs is.0 (lit≤ tt) (lit≤ tt)
word_first xs stage (inr (inr (inr (inr (inr (inr (inl is))))))) = letter_first 112 (codes "atch") xs is.0 (lit≤ tt) (lit≤ tt)
word_first xs stage (inr (inr (inr (inr (inr (inr (inr (inl is)))))))) = letter_first 112 (codes "l") xs is.0 (lit≤ tt) (lit≤ tt)
word_first xs stage (inr (inr (inr (inr (inr (inr (inr (inr (inl is))))))))) = letter_first 112 [] xs is.0 (lit≤ tt) (lit≤ tt)
word_first xs stage (inr (inr (inr (inr (inr (inr (inr (inr (inr is))))))))) = absurd is

pub dev_first : (xs : List ℕ) → lowered xs ≡ codes "dev" → StartsWithLetter xs
dev_first xs e = letter_first 100 (codes "ev") xs e (lit≤ tt) (lit≤ tt)

-- What may follow a word: nothing that makes it a longer one.
pub record EndsWord (tail : List ℕ) : Type 0 where
  pub no_a : starts_as 97 tail ≡ false
  pub no_e : starts_as 101 tail ≡ false
  pub no_l : starts_as 108 tail ≡ false

after_word-differs : (letter : ℕ) (letters text : List ℕ) → starts_as letter text ≡ false → after_word (letter ∷ letters) text ≡ None
after_word-differs letter letters [] e = refl
after_word-differs letter letters (b ∷ bs) e = rw e refl

-- a word is read as that word and no other
pub first_word_again : (xs tail : List ℕ) (stage : Option Stage) → IsWordOf all_words xs stage → EndsWord tail → first_word all_words (xs ++ tail) ≡ Some (stage, tail)
first_word_again xs tail stage (inl is) ends =
    rw (after_word-append (codes "stable") xs tail is.0, is.1) refl
first_word_again xs tail stage (inr (inl is)) ends =
    let s = starts 98 (codes "eta") xs is.0 in
    rw (s.is, s.low, after_word-append (codes "eta") s.rest tail s.others, is.1) refl
first_word_again xs tail stage (inr (inr (inl is))) ends =
    let s = starts 98 [] xs is.0 in
    rw (s.is, s.low, nothing_left s.rest s.others, after_word-differs 101 (codes "ta") tail ends.no_e, is.1) refl
first_word_again xs tail stage (inr (inr (inr (inl is)))) ends =
    let s = starts 114 (codes "c") xs is.0 in
    rw (s.is, s.low, after_word-append (codes "c") s.rest tail s.others, is.1) refl
first_word_again xs tail stage (inr (inr (inr (inr (inl is))))) ends =
    let s = starts 97 (codes "lpha") xs is.0 in
    rw (s.is, s.low, after_word-append (codes "lpha") s.rest tail s.others, is.1) refl
first_word_again xs tail stage (inr (inr (inr (inr (inr (inl is)))))) ends =
    let s = starts 97 [] xs is.0 in
    rw (s.is, s.low, nothing_left s.rest s.others, after_word-differs 108 (codes "pha") tail ends.no_l, is.1) refl
first_word_again xs tail stage (inr (inr (inr (inr (inr (inr (inl is))))))) ends =
    let s = starts 112 (codes "atch") xs is.0 in
    rw (s.is, s.low, after_word-append (codes "atch") s.rest tail s.others, is.1) refl
first_word_again xs tail stage (inr (inr (inr (inr (inr (inr (inr (inl is)))))))) ends =
    let s = starts 112 (codes "l") xs is.0 in
    let t = starts 108 [] s.rest s.others in
    rw (s.is, s.low, t.is, t.low, nothing_left t.rest t.others, is.1) refl
first_word_again xs tail stage (inr (inr (inr (inr (inr (inr (inr (inr (inl is))))))))) ends =
    let s = starts 112 [] xs is.0 in
    rw (s.is, s.low, nothing_left s.rest s.others, after_word-differs 97 (codes "tch") tail ends.no_a, after_word-differs 108 [] tail ends.no_l, is.1) refl
first_word_again xs tail stage (inr (inr (inr (inr (inr (inr (inr (inr (inr is))))))))) ends = absurd is

-- no word begins as `dev` does
pub first_word-dev : (xs : List ℕ) → lowered xs ≡ codes "dev" → first_word all_words xs ≡ None
first_word-dev xs e =
    let s = starts 100 (codes "ev") xs e in
    rw (s.is, s.low) refl
