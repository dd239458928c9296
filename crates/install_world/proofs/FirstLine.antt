-- What stands before the first LF of a text, and behind a front.
use Rattle.std.proofs.Common.{◌≡◌, ◌≢◌, ℕ, suc, ◌+◌, ◌<◌, true, false, eqb, List, [], ◌∷◌, ◌++◌, length, get_or, take, drop, refl, sym, ap, ◌∙◌, arith, inl, inr}
use Rattle.std.specs.Prelude.{nat_eq}
use Rattle.std.specs.Cmp.Lexicographic.{pointwise, bytes_decides}
use Rattle.std.proofs.lemmas.Bool.{false≢true}
use Rattle.std.proofs.lemmas.Bool.Decides.{eqb_tells}
use Rattle.std.proofs.lemmas.List.{take-append-drop, take-append-le, take_all, drop_more, length-take, get_or-take}
use Rattle.install_world.specs.Lines.{is_one_line}

pub one_line : (text : List ℕ) → ((k : ℕ) → k < length text → get_or text k 0 ≢ 10) → is_one_line text ≡ true
one_line [] h = refl
one_line (x ∷ xs) h =
    let e : eqb x 10 ≡ false = elim (eqb_tells x 10) [ inl p ↦ absurd (h 0 (omega arith) p.1) | inr p ↦ p.0 ] in
    let r : is_one_line xs ≡ true = one_line xs (λ k below. h (suc k) (omega arith)) in
    rw (e, r) refl

pub one_line_before : (text : List ℕ) (at : ℕ) → at < length text → ((k : ℕ) → k < at → get_or text k 0 ≢ 10) → is_one_line (take at text) ≡ true
one_line_before text at below h = one_line (take at text) (λ k inside.
    let l : k < at = omega (arith, length-take at text) in
    rw get_or-take (h k l))

pub parted : (text : List ℕ) (at : ℕ) → at < length text → get_or text at 0 ≡ 10 → text ≡ take at text ++ 10 ∷ drop (at + 1) text
parted text at below h =
    let e : drop at text ≡ get_or text at 0 ∷ drop (at + 1) text = drop_more text at 0 below in
    sym (take-append-drop at text) ∙ ap (λ back. take at text ++ back) (e ∙ ap (λ byte. byte ∷ drop (at + 1) text) h)

-- a text that begins with a front is found to
pub front_found : (front rest : List ℕ) → pointwise nat_eq (take (length front) (front ++ rest)) front ≡ true
front_found front rest =
    (bytes_decides _ _).1 (take-append-le (length front) front rest (omega arith) ∙ take_all (length front) front (omega arith))

pub no_front : (text front rest : List ℕ) → pointwise nat_eq (take (length front) text) front ≡ false → text ≢ front ++ rest
no_front text front rest h e = false≢true (sym h ∙ ap (λ t. pointwise nat_eq (take (length front) t) front) e ∙ front_found front rest)

pub front_cut : (text front rest : List ℕ) → pointwise nat_eq (take (length front) text) front ≡ true → rest ≡ drop (length front) text → text ≡ front ++ rest
front_cut text front rest h e =
    sym (take-append-drop (length front) text) ∙ ap (λ head. head ++ drop (length front) text) ((bytes_decides _ _).0 h) ∙ ap (λ r. front ++ r) (sym e)
