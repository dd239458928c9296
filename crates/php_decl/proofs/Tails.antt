-- Where a word ends, by its last two letters.
use Rattle.std.proofs.Common.{◌≡◌, ℕ, zero, suc, ◌+◌, ◌-◌, ◌<◌, ◌≤◌, Bool, true, false, ◌&&◌, ◌||◌, ◌==◌, List, [], ◌∷◌, length, take, drop, get_or, refl, sym, ap, ◌∙◌, arith, ◌⊎◌, inl, inr}
use Rattle.std.specs.Prelude.{codes, slice_index}
use Rattle.std.specs.Cmp.Lexicographic.{bytes_decides}
use Rattle.std.proofs.lemmas.List.{drop_all, drop-drop, get_or-drop}
use Rattle.path_name.specs.Bytes.{lower, lowered}
use Rattle.php_lex.specs.Places.{has_first}
use Rattle.php_lex.proofs.Firsts.{first_byte}
use Rattle.php_decl.specs.Words.{equals_word}
use Rattle.php_decl.specs.Quiet.{is_gap, stands_at, can_declare, IsQuiet, tail_at, NotEnding, NoneEnds}

not_true : (b : Bool) → (b ≡ true → ⊥) → b ≡ false
not_true true h = absurd (h refl)
not_true false h = refl

apart : {b : Bool} → b ≡ true → b ≡ false → ⊥
apart f g = cc

left : (a b : Bool) → a && b ≡ true → a ≡ true
left true b h = refl
left false b h = absurd cc

right : (a b : Bool) → a && b ≡ true → b ≡ true
right true b h = h
right false b h = absurd cc

-- ---- letters of a word that stands here

letter : (w text : List ℕ) (i : ℕ) → lowered (take (length w) text) ≡ w → i < length w → lower (get_or text i 0) ≡ get_or w i 0
letter [] text i e lt = absurd (omega arith)
letter (b ∷ w) [] i e lt = absurd cc
letter (b ∷ w) (c ∷ t) zero e lt = cc
letter (b ∷ w) (c ∷ t) (suc i) e lt = letter w t i (cc) (omega arith)

-- a word of n + 2 letters, of which the last two are a and b
module _ (w : List ℕ) (n a b : ℕ) (size : length w ≡ n + 2) (first : get_or w n 0 ≡ a) (second : get_or w (n + 1) 0 ≡ b) (k : ℕ) (text : List ℕ) (j : ℕ) (at : j + length w ≡ k + 2)
    (h : stands_at w (drop j text) ≡ true) where
  low : lowered (take (length w) (drop j text)) ≡ w
  low = (bytes_decides (lowered (take (length w) (drop j text))) w).0 (left (equals_word w (take (length w) (drop j text))) (has_first is_gap (drop (length w) (drop j text))) h)

  moved : (i m : ℕ) → j + i ≡ m → get_or (drop j text) i 0 ≡ get_or text m 0
  moved i m e = get_or-drop j text i 0 ∙ ap (λ (x : ℕ). get_or text x 0) e

  pub first_is : lower (slice_index text k) ≡ a
  first_is = ap lower (sym (moved n k (omega arith))) ∙ letter w (drop j text) n low (omega arith) ∙ first

  pub second_is : lower (slice_index text (k + 1)) ≡ b
  second_is = ap lower (sym (moved (n + 1) (k + 1) (omega arith))) ∙ letter w (drop j text) (n + 1) low (omega arith) ∙ second

  pub gap_is : is_gap (slice_index text (k + 2)) ≡ true
  gap_is =
      let g = right (equals_word w (take (length w) (drop j text))) (has_first is_gap (drop (length w) (drop j text))) h in
      first_byte is_gap (k + 2) text (ap (has_first is_gap) (sym (drop-drop (length w) j text ∙ ap (λ (x : ℕ). drop x text) at)) ∙ g)

tail_by : (g : Bool) (f s : ℕ) → (g ≡ true) → ((f ≡ 115) × (s ≡ 115)) ⊎ (((f ≡ 99) × (s ≡ 101)) ⊎ (((f ≡ 105) × (s ≡ 116)) ⊎ ((f ≡ 117) × (s ≡ 109))))
    → g && (((f == 115 && s == 115) || (f == 99 && s == 101)) || ((f == 105 && s == 116) || (f == 117 && s == 109))) ≡ true
tail_by g f s e (inl p) = rw (e, p.0, p.1) refl
tail_by g f s e (inr (inl p)) = rw (e, p.0, p.1) refl
tail_by g f s e (inr (inr (inl p))) = rw (e, p.0, p.1) refl
tail_by g f s e (inr (inr (inr p))) = rw (e, p.0, p.1) refl

-- where no such letters stand, no such word ends
pub no_tail : (k : ℕ) (text : List ℕ) → tail_at k text ≡ false → NoneEnds k text
no_tail k text other = record {
  classes = λ j e. not_true (stands_at (codes "class") (drop j text)) (λ h. apart (tail_by (is_gap (slice_index text (k + 2))) (lower (slice_index text k)) (lower (slice_index text (k + 1))) (gap_is (codes "class") 3 115 115 refl refl refl k text j e h) (inl (first_is (codes "class") 3 115 115 refl refl refl k text j e h, second_is (codes "class") 3 115 115 refl refl refl k text j e h))) other);
  interfaces = λ j e. not_true (stands_at (codes "interface") (drop j text)) (λ h. apart (tail_by (is_gap (slice_index text (k + 2))) (lower (slice_index text k)) (lower (slice_index text (k + 1))) (gap_is (codes "interface") 7 99 101 refl refl refl k text j e h) (inr (inl (first_is (codes "interface") 7 99 101 refl refl refl k text j e h, second_is (codes "interface") 7 99 101 refl refl refl k text j e h)))) other);
  traits = λ j e. not_true (stands_at (codes "trait") (drop j text)) (λ h. apart (tail_by (is_gap (slice_index text (k + 2))) (lower (slice_index text k)) (lower (slice_index text (k + 1))) (gap_is (codes "trait") 3 105 116 refl refl refl k text j e h) (inr (inr (inl (first_is (codes "trait") 3 105 116 refl refl refl k text j e h, second_is (codes "trait") 3 105 116 refl refl refl k text j e h))))) other);
  enums = λ j e. not_true (stands_at (codes "enum") (drop j text)) (λ h. apart (tail_by (is_gap (slice_index text (k + 2))) (lower (slice_index text k)) (lower (slice_index text (k + 1))) (gap_is (codes "enum") 2 117 109 refl refl refl k text j e h) (inr (inr (inr (first_is (codes "enum") 2 117 109 refl refl refl k text j e h, second_is (codes "enum") 2 117 109 refl refl refl k text j e h))))) other);
}

-- past the text's end
pub and_false : (a b : Bool) → b ≡ false → a && b ≡ false
and_false true b h = h
and_false false b h = refl

ended : (w : List ℕ) (k : ℕ) (text : List ℕ) → length text ≤ k + 2 → NotEnding w k text
ended w k text le j e =
    and_false (equals_word w (take (length w) (drop j text))) (has_first is_gap (drop (length w) (drop j text)))
    (ap (has_first is_gap) (drop-drop (length w) j text ∙ drop_all (j + length w) text (omega arith)))

pub none_past_end : (k : ℕ) (text : List ℕ) → length text ≤ k + 2 → NoneEnds k text
none_past_end k text le = record { classes = ended (codes "class") k text le; interfaces = ended (codes "interface") k text le; traits = ended (codes "trait") k text le; enums = ended (codes "enum") k text le }

-- behind the last place where a word ends, none stands
none_of : (a b c d : Bool) → a ≡ false → b ≡ false → c ≡ false → d ≡ false → a || (b || (c || d)) ≡ false
none_of a b c d e f g h = rw (e, f, g, h) refl

class_size : length (codes "class") ≡ 5
class_size = refl

interface_size : length (codes "interface") ≡ 9
interface_size = refl

trait_size : length (codes "trait") ≡ 5
trait_size = refl

enum_size : length (codes "enum") ≡ 4
enum_size = refl

pub quiet_behind : (at : ℕ) (text : List ℕ) → ((k : ℕ) → at < k → NoneEnds k text) → IsQuiet (drop at text)
quiet_behind at text none j =
    ap can_declare (drop-drop j at text)
    ∙ none_of _ _ _ _ ((none (at + j + 3) (omega arith)).classes (at + j) (omega (arith, class_size))) ((none (at + j + 7) (omega arith)).interfaces (at + j) (omega (arith, interface_size))) ((none (at + j + 3) (omega arith)).traits (at + j) (omega (arith, trait_size))) ((none (at + j + 2) (omega arith)).enums (at + j) (omega (arith, enum_size)))

-- and none behind a later place
pub quiet_later : (text : List ℕ) (a b : ℕ) → a ≤ b → IsQuiet (drop a text) → IsQuiet (drop b text)
quiet_later text a b le q j =
    let more : b + j ≡ a + ((b - a) + j) = omega arith in
    ap can_declare (drop-drop j b text ∙ ap (λ (n : ℕ). drop n text) more ∙ sym (drop-drop ((b - a) + j) a text)) ∙ q ((b - a) + j)

-- a byte that stands first
pub first_is_at : (p : ℕ → Bool) (t : List ℕ) → 0 < length t → has_first p t ≡ p (get_or t 0 0)
first_is_at p [] lt = absurd (omega arith)
first_is_at p (b ∷ t) lt = refl

pub neither_left : (a b : Bool) → a || b ≡ false → a ≡ false
neither_left true b h = absurd cc
neither_left false b h = refl

pub neither_right : (a b : Bool) → a || b ≡ false → b ≡ false
neither_right true b h = absurd cc
neither_right false b h = h
