-- A text has one cut.
use Rattle.std.proofs.Common.{◌≡◌, ℕ, ◌+◌, ◌<◌, Bool, List, [], ◌∷◌, ◌++◌, length, refl, sym, ap, subst, ◌∙◌, arith}
use Rattle.std.proofs.lemmas.List.{append_cancel_right, length-append}
use Rattle.std.specs.List.{AllByRecursion}
use Rattle.php_lex.specs.declared.lexeme.LexKind.{LexKind}
use Rattle.php_lex.specs.Quotes.{Element, Opened}
use Rattle.php_lex.specs.Elements.{Ends, close, plain, child}
use Rattle.php_lex.specs.Cut.{Lex, First, open_tag, html, whole, closed, unclosed, is_code_after, IsCutFrom, end, next, joined, Standing, Takes, IsCutOf}
use Rattle.php_lex.proofs.Ends.{after_close, after_plain, after_child}
use Rattle.php_lex.proofs.OpenElements.{allows_same}

-- an element has one end
pub one_end : {l : ℕ} {e : Element} {t r s : List ℕ} → Ends l e t r → Ends l e t s → r ≡ s
one_end (close p) y = after_close p y
one_end (plain p x) y = one_end x (after_plain p y)
one_end {l} {e} {t} {r} {s} (child {inner = i} {opened = o} {next = n} {after = a} p w x z) y =
    let h = after_child p y in
    let same = one_end x (subst (λ (k : ℕ). Ends k o n h.after) (allows_same l o h.inner i h.allows w) h.ends) in
    one_end z (subst (λ (k : List ℕ). Ends l e k s) (sym same) h.rest)

pub one_first : {c : Bool} {t r s : List ℕ} {j k : LexKind} → First c t j r → First c t k s → (j ≡ k) × (r ≡ s)
one_first (open_tag h e) (open_tag g f) = (refl, e ∙ sym f)
one_first (open_tag h e) (html g f) = absurd cc
one_first (html h e) (open_tag g f) = absurd cc
one_first (html h e) (html g f) = (refl, e ∙ sym f)
one_first (whole p) (whole q) = (cc, cc)
one_first (whole p) (closed q x) = absurd cc
one_first (whole p) (unclosed q x f) = absurd cc
one_first (closed p x) (whole q) = absurd cc
one_first {c} {t} {r} {s} (closed {o = o} p x) (closed {o = u} q y) =
    let same : u ≡ o = cc in
    (refl, one_end x (subst (λ (v : Opened). Ends 32 v.element v.inside s) same y))
one_first {c} {t} {r} {s} (closed {o = o} p x) (unclosed {o = u} q y f) =
    let same : o ≡ u = cc in
    absurd (y r (subst (λ (v : Opened). Ends 32 v.element v.inside r) same x))
one_first (unclosed p x e) (whole q) = absurd cc
one_first {c} {t} {r} {s} (unclosed {o = o} p x e) (closed {o = u} q y) =
    let same : u ≡ o = cc in
    absurd (x s (subst (λ (v : Opened). Ends 32 v.element v.inside s) same y))
one_first (unclosed p x e) (unclosed q y f) = (refl, e ∙ sym f)

not_empty : (bytes rest : List ℕ) → [] ≡ bytes ++ rest → 0 < length bytes → ⊥
not_empty bytes rest e lt = let size : 0 ≡ length bytes + length rest = ap length e ∙ length-append bytes rest in omega arith

pub one_cut : {c : Bool} {t : List ℕ} {xs ys : List Lex} → IsCutFrom c t xs → IsCutFrom c t ys → xs ≡ ys
one_cut end end = refl
one_cut end (next e lt f y) = absurd (not_empty _ _ e lt)
one_cut (next e lt f x) end = absurd (not_empty _ _ e lt)
one_cut {c} {t} (next {kind = k} {bytes = a} {rest = r} {lexemes = xs} e lt f x) (next {kind = j} {bytes = b} {rest = s} {lexemes = ys} d gt g y) =
    let same = one_first g f in
    let bytes : a ≡ b = append_cancel_right a b r (sym e ∙ d ∙ ap (λ (z : List ℕ). b ++ z) same.1) in
    let tail : xs ≡ ys = one_cut x (subst (λ (z : List ℕ). IsCutFrom (is_code_after k) z ys) same.1 (subst (λ (z : LexKind). IsCutFrom (is_code_after z) s ys) same.0 y)) in
    let head : k ≡ j = sym same.0 in
    ap (λ (z : LexKind). record { kind = z; bytes = a } ∷ xs) head ∙ ap (λ (z : List ℕ). record { kind = j; bytes = z } ∷ xs) bytes ∙ ap (λ (z : List Lex). record { kind = j; bytes = b } ∷ z) tail

pub joined_is : {c : Bool} {t : List ℕ} {xs : List Lex} → IsCutFrom c t xs → joined xs ≡ t
joined_is end = refl
joined_is (next {bytes = b} e lt f x) = ap (λ (z : List ℕ). b ++ z) (joined_is x) ∙ sym e

pub none_empty : {c : Bool} {t : List ℕ} {xs : List Lex} → IsCutFrom c t xs → AllByRecursion (λ (x : Lex). 0 < length x.bytes) xs
none_empty end = tt
none_empty (next e lt f x) = (lt, none_empty x)

-- one lexeme more in front of a cut
pub cut_on : (old new : Standing) (kind : LexKind) (bytes : List ℕ) → Takes old kind bytes new → (lexemes : List Lex) → IsCutOf new lexemes → IsCutOf old (record { kind = kind; bytes = bytes } ∷ lexemes)
cut_on old new kind bytes t lexemes x = next t.parts t.not_empty t.first (subst (λ (b : Bool). IsCutFrom b new.rest lexemes) t.in_code x)

-- at the end of a text
pub cut_end : (s : Standing) → s.rest ≡ [] → IsCutOf s []
cut_end s e = subst (λ (r : List ℕ). IsCutFrom s.in_code r []) (sym e) end

pub shorter : (old new : Standing) (kind : LexKind) (bytes : List ℕ) → Takes old kind bytes new → length new.rest < length old.rest
shorter old new kind bytes t =
    let size : length old.rest ≡ length bytes + length new.rest = ap length t.parts ∙ length-append bytes new.rest in
    let some = t.not_empty in
    omega arith

-- a cut begins with the lexeme that stands first
pub cut_off : (old new : Standing) (kind : LexKind) (bytes : List ℕ) → Takes old kind bytes new → (lexemes : List Lex) → IsCutOf old lexemes
    → (more : List Lex) × IsCutOf new more × (lexemes ≡ record { kind = kind; bytes = bytes } ∷ more)
cut_off old new kind bytes t lexemes x = off old.in_code old.rest kind bytes new.rest new.in_code t.parts t.not_empty t.first t.in_code lexemes x where
  off : (c : Bool) (text : List ℕ) (k : LexKind) (a r : List ℕ) (d : Bool) → text ≡ a ++ r → 0 < length a → First c text k r → d ≡ is_code_after k → (lexemes : List Lex) → IsCutFrom c text lexemes
      → (more : List Lex) × IsCutFrom d r more × (lexemes ≡ record { kind = k; bytes = a } ∷ more)
  off c text k a r d e lt f i lexemes end = absurd (not_empty a r e lt)
  off c text k a r d e lt f i lexemes (next {kind = j} {bytes = b} {rest = s} {lexemes = more} h gt g y) =
      let same = one_first g f in
      let bytes_is : b ≡ a = append_cancel_right b a s (sym h ∙ e ∙ ap (λ (z : List ℕ). a ++ z) (sym same.1)) in
      let rest_is : IsCutFrom (is_code_after j) r more = subst (λ (z : List ℕ). IsCutFrom (is_code_after j) z more) same.1 y in
      let code_is : is_code_after j ≡ d = ap is_code_after same.0 ∙ sym i in (
        more,
        subst (λ (z : Bool). IsCutFrom z r more) code_is rest_is,
        ap (λ (z : LexKind). record { kind = z; bytes = b } ∷ more) same.0 ∙ ap (λ (z : List ℕ). record { kind = k; bytes = z } ∷ more) bytes_is,
      )
