-- A pointer is read back as the tokens that it was made of.
use Rattle.std.proofs.Common.{◌≡◌, ℕ, Bool, true, false, cond, ◌&&◌, List, [], ◌∷◌, ◌++◌, map, refl, sym, ap, ◌∙◌}
use Rattle.std.specs.Prelude.{◌==◌, not}
use Rattle.std.proofs.lemmas.List.{map-append}
use Rattle.std.proofs.lemmas.Bool.{eqb-true}
use Rattle.path_name.specs.Paths.{has_no_slash}
use Rattle.path_name.proofs.Joining.{split, split_at, split_whole}
use Rattle.manifest_read.specs.Pointers.{escaped, below, unescaped, IsPointer, tokens_of}

other_byte : (b : ℕ) (rest : List ℕ) → (b == 126) ≡ false → unescaped (b ∷ rest) ≡ b ∷ unescaped rest
other_byte b [] e = refl
other_byte b (c ∷ rest) e = ap (λ t. cond (t && (c == 48)) (126 ∷ unescaped rest) (cond (t && (c == 49)) (47 ∷ unescaped rest) (b ∷ unescaped (c ∷ rest)))) e

one_byte : (b : ℕ) (bs : List ℕ) (t s : Bool) → (b == 126) ≡ t → (b == 47) ≡ s → unescaped (escaped bs) ≡ bs → unescaped (cond t (126 ∷ 48 ∷ []) (cond s (126 ∷ 49 ∷ []) (b ∷ [])) ++ escaped bs) ≡ b ∷ bs
one_byte b bs true s e f rest = ap (λ x. x ∷ unescaped (escaped bs)) (sym (eqb-true b 126 e)) ∙ ap (λ r. b ∷ r) rest
one_byte b bs false true e f rest = ap (λ x. x ∷ unescaped (escaped bs)) (sym (eqb-true b 47 f)) ∙ ap (λ r. b ∷ r) rest
one_byte b bs false false e f rest = other_byte b (escaped bs) e ∙ ap (λ r. b ∷ r) rest

pub unescaped-escaped : (token : List ℕ) → unescaped (escaped token) ≡ token
unescaped-escaped [] = refl
unescaped-escaped (b ∷ bs) = one_byte b bs (b == 126) (b == 47) refl refl (unescaped-escaped bs)

no_slash_byte : (b : ℕ) (bs : List ℕ) (t s : Bool) → (b == 126) ≡ t → (b == 47) ≡ s → has_no_slash (escaped bs) ≡ true → has_no_slash (cond t (126 ∷ 48 ∷ []) (cond s (126 ∷ 49 ∷ []) (b ∷ [])) ++ escaped bs) ≡ true
no_slash_byte b bs true s e f rest = rest
no_slash_byte b bs false true e f rest = rest
no_slash_byte b bs false false e f rest = ap (λ x. not x && has_no_slash (escaped bs)) f ∙ rest

no_slash : (token : List ℕ) → has_no_slash (escaped token) ≡ true
no_slash [] = refl
no_slash (b ∷ bs) = no_slash_byte b bs (b == 126) (b == 47) refl refl (no_slash bs)

pub tokens_of-below : (at token : List ℕ) → IsPointer at → tokens_of (below at token) ≡ tokens_of at ++ token ∷ []
unfolding below
tokens_of-below [] token is = ap (map unescaped) (split_whole (escaped token) (no_slash token)) ∙ ap (λ t. t ∷ []) (unescaped-escaped token)
tokens_of-below (first ∷ rest) token is =
    ap (map unescaped) (split_at rest (escaped token) ∙ ap (λ last. split rest ++ last) (split_whole (escaped token) (no_slash token)))
    ∙ map-append unescaped (split rest) (escaped token ∷ []) ∙ ap (λ t. map unescaped (split rest) ++ t ∷ []) (unescaped-escaped token)
