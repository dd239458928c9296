-- A text is cut at its first LF in one way.
use Rattle.std.proofs.Common.{◌≡◌, ℕ, true, false, eqb, List, [], ◌∷◌, ◌++◌, refl, sym, ap, ◌∙◌}
use Rattle.install_world.specs.Lines.{is_one_line}
use Rattle.path_name.proofs.Joining.{both_true, not_true}

abbrev head_of : ℕ → List ℕ → ℕ
head_of d [] = d
head_of d (x ∷ xs) = x

abbrev tail_of : List ℕ → List ℕ
tail_of [] = []
tail_of (x ∷ xs) = xs

no_lf : (b : ℕ) (rest : List ℕ) → is_one_line (b ∷ rest) ≡ true → 10 ≡ b → ⊥
no_lf b rest h e =
    let other : eqb b 10 ≡ false = not_true (eqb b 10) (both_true _ (is_one_line rest) h).0 in
    let same : eqb 10 10 ≡ false = ap (λ n. eqb n 10) e ∙ other in
    absurd cc

-- Two texts that share a front which ends with LF have the same first line.
pub same_first : (x r y s words more after : List ℕ) → is_one_line x ≡ true → is_one_line y ≡ true
    → x ++ 10 ∷ r ≡ words ++ 10 ∷ more → y ++ 10 ∷ s ≡ words ++ 10 ∷ after → x ≡ y
same_first [] r [] s words more after h g e f = refl
same_first [] r (b ∷ y) s [] more after h g e f = absurd (no_lf b y g (sym (ap (head_of 0) f)))
same_first [] r (b ∷ y) s (w ∷ ws) more after h g e f = absurd (no_lf b y g (ap (head_of 0) e ∙ sym (ap (head_of 0) f)))
same_first (a ∷ x) r [] s [] more after h g e f = absurd (no_lf a x h (sym (ap (head_of 0) e)))
same_first (a ∷ x) r [] s (w ∷ ws) more after h g e f = absurd (no_lf a x h (ap (head_of 0) f ∙ sym (ap (head_of 0) e)))
same_first (a ∷ x) r (b ∷ y) s [] more after h g e f = absurd (no_lf a x h (sym (ap (head_of 0) e)))
same_first (a ∷ x) r (b ∷ y) s (w ∷ ws) more after h g e f =
    let hx = both_true _ (is_one_line x) h in
    let hy = both_true _ (is_one_line y) g in
    let rest = same_first x r y s ws more after hx.1 hy.1 (ap tail_of e) (ap tail_of f) in
    let first : a ≡ b = ap (head_of 0) e ∙ sym (ap (head_of 0) f) in
    ap (λ n. n ∷ x) first ∙ ap (λ xs. b ∷ xs) rest

-- a text is cut in one way
pub one_cut : (x r y s : List ℕ) → is_one_line x ≡ true → is_one_line y ≡ true → x ++ 10 ∷ r ≡ y ++ 10 ∷ s → (x ≡ y) × (r ≡ s)
one_cut [] r [] s h g e = (refl, ap tail_of e)
one_cut [] r (b ∷ y) s h g e = absurd (no_lf b y g (ap (head_of 0) e))
one_cut (a ∷ x) r [] s h g e = absurd (no_lf a x h (sym (ap (head_of 0) e)))
one_cut (a ∷ x) r (b ∷ y) s h g e =
    let hx = both_true _ (is_one_line x) h in
    let hy = both_true _ (is_one_line y) g in
    let rest = one_cut x r y s hx.1 hy.1 (ap tail_of e) in
    (ap (λ n. n ∷ x) (ap (head_of 0) e) ∙ ap (λ xs. b ∷ xs) rest.0, rest.1)

-- a text without LF is not cut
pub no_cut : (text words after : List ℕ) → is_one_line text ≡ true → text ≡ words ++ 10 ∷ after → ⊥
no_cut [] [] after h e = absurd cc
no_cut [] (w ∷ ws) after h e = absurd cc
no_cut (x ∷ xs) [] after h e = no_lf x xs h (sym (ap (head_of 0) e))
no_cut (x ∷ xs) (w ∷ ws) after h e = no_cut xs ws after (both_true _ (is_one_line xs) h).1 (ap tail_of e)
