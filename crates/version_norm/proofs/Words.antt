-- What follows a word in any case.
use Rattle.std.proofs.Common.{◌≡◌, ℕ, ◌<◌, ◌≤◌, true, false, cond, eqb, List, [], ◌∷◌, ◌++◌, length, take, drop, Some, None, refl, ap, arith, eq-eqb}
use Rattle.std.proofs.lemmas.Bool.{eqb-true}
use Rattle.path_name.specs.Bytes.{lower, lowered}
use Rattle.version_norm.specs.Pieces.{after_word}

eqb_same : (a b : ℕ) → a ≡ b → eqb a b ≡ true
eqb_same a b e = eq-eqb a b e

pub after_word-append : (word front rest : List ℕ) → lowered front ≡ word → after_word word (front ++ rest) ≡ Some rest
after_word-append [] [] rest e = refl
after_word-append [] (b ∷ bs) rest e = absurd cc
after_word-append (w ∷ ws) [] rest e = absurd cc
after_word-append (w ∷ ws) (b ∷ bs) rest e =
    let head : lower b ≡ w = cc in
    let tail : lowered bs ≡ ws = cc in
    rw (eqb_same (lower b) w head) (after_word-append ws bs rest tail)

pub after_word-take : (word text : List ℕ) → length word ≤ length text → lowered (take (length word) text) ≡ word → after_word word text ≡ Some (drop (length word) text)
after_word-take [] text le e = refl
after_word-take (w ∷ ws) [] le e = absurd (omega arith)
after_word-take (w ∷ ws) (b ∷ bs) le e =
    let head : lower b ≡ w = cc in
    let tail : lowered (take (length ws) bs) ≡ ws = cc in
    rw (eqb_same (lower b) w head) (after_word-take ws bs (omega arith) tail)

pub after_word-no : (word text : List ℕ) → (lowered (take (length word) text) ≡ word → ⊥) → after_word word text ≡ None
after_word-no [] text other = absurd (other refl)
after_word-no (w ∷ ws) [] other = refl
after_word-no (w ∷ ws) (b ∷ bs) other =
    elim (eqb (lower b) w) as (λ t. eqb (lower b) w ≡ t → cond t (after_word ws bs) None ≡ None) [
      | true ↦ λ e. after_word-no ws bs (λ h. other (let head : lower b ≡ w = eqb-true (lower b) w e in cc))
      | false ↦ λ e. refl
    ] refl

pub after_word-short : (word text : List ℕ) → length text < length word → after_word word text ≡ None
after_word-short [] text lt = absurd (omega arith)
after_word-short (w ∷ ws) [] lt = refl
after_word-short (w ∷ ws) (b ∷ bs) lt =
    elim (eqb (lower b) w) as (λ t. cond t (after_word ws bs) None ≡ None) [
      | true ↦ after_word-short ws bs (omega arith)
      | false ↦ refl
    ]

-- What was before it is the word, in some case.
pub record TakesWord (word text rest : List ℕ) : Type 0 where
  pub front : List ℕ
  pub parts : text ≡ front ++ rest
  pub spelled : lowered front ≡ word

pub after_word_takes : (word text rest : List ℕ) → after_word word text ≡ Some rest → TakesWord word text rest
after_word_takes [] text rest e = record { front = []; parts = cc; spelled = refl }
after_word_takes (w ∷ ws) [] rest e = absurd cc
after_word_takes (w ∷ ws) (b ∷ bs) rest e =
    elim (eqb (lower b) w) as (λ t. eqb (lower b) w ≡ t → cond t (after_word ws bs) None ≡ Some rest → TakesWord (w ∷ ws) (b ∷ bs) rest) [
      | true ↦ λ same h.
          let more = after_word_takes ws bs rest h in
          let head : lower b ≡ w = eqb-true (lower b) w same in
          let parts : b ∷ bs ≡ b ∷ (more.front ++ rest) = ap (λ (x : List ℕ). b ∷ x) more.parts in
          let spelled : lowered (b ∷ more.front) ≡ w ∷ ws = let tail = more.spelled in cc in
          record { front = b ∷ more.front; parts = parts; spelled = spelled }
      | false ↦ λ same h. absurd cc
    ] refl e
