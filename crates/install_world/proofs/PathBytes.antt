-- The bytes of a path's text are bytes, so their hex digits give them back.
use Rattle.std.proofs.Common.{◌≡◌, ℕ, zero, suc, ◌+◌, ◌/◌, ◌<◌, lt-ltb, Bool, true, false, cond, List, [], ◌∷◌, ◌++◌, Result, Ok, Err, refl, sym, ap, ◌∙◌, arith, inl, inr}
use Rattle.std.specs.Prelude.{nat_lt}
use Rattle.std.specs.List.{list_all, join_with_byte}
use Rattle.std.specs.Str.{is_utf8, chars}
use Rattle.std.specs.Cmp.Lexicographic.{bytes_decides}
use Rattle.std.proofs.lemmas.Bool.{ltb-true}
use Rattle.std.proofs.lemmas.List.Folds.{list_all-append}
use Rattle.hex.specs.Hex.{IsBytes, encode_lower, decode_of}
use Rattle.hex.proofs.HexLemmas.{decode_of-encode_lower}
use Rattle.path_name.specs.Paths.{IsPath, is_segment, path_of, path_text}
use Rattle.path_name.proofs.Joining.{both_true, segment_facts}
use Rattle.path_name.proofs.PathTexts.{path_of-path_text}
use lib.Utf8.{encode, encodes, scalar, scalars, next, scalar_cases}

abbrev are_small : List ℕ → Bool
are_small bytes = list_all (λ byte. nat_lt byte 256) bytes

small_append : (front back : List ℕ) → are_small front ≡ true → are_small back ≡ true → are_small (front ++ back) ≡ true
small_append front back h g = list_all-append _ front back ∙ (rw (h, g) refl)

test : (n : ℕ) → n < 256 → nat_lt n 256 ≡ true
test n h = lt-ltb n 256 h

by_test : (yes : Bool) (front back : List ℕ) → (yes ≡ true → are_small front ≡ true) → (yes ≡ false → are_small back ≡ true) → are_small (cond yes front back) ≡ true
by_test true front back one two = one refl
by_test false front back one two = two refl

-- a byte, and one of those that follow a first one
byte_then : (byte : ℕ) (rest : List ℕ) → byte < 256 → are_small rest ≡ true → are_small (byte ∷ rest) ≡ true
byte_then byte rest h more = rw (test byte h, more) refl

next_then : (bits : ℕ) (rest : List ℕ) → are_small rest ≡ true → are_small (next bits ∷ rest) ≡ true
next_then bits rest more = byte_then (next bits) rest (omega arith) more

-- a character of Unicode is four bytes at most
character_small : (c : ℕ) → c < 1114112 → are_small (encode c) ≡ true
unfolding encode
character_small c h =
    by_test (nat_lt c 128) (c ∷ []) _ (λ e. byte_then c [] (let l = ltb-true c 128 e in omega arith) refl)
    (λ e. by_test (nat_lt c 2048) ((192 + c / 64) ∷ next c ∷ []) _
    (λ f. byte_then (192 + c / 64) (next c ∷ []) (let l = ltb-true c 2048 f in omega arith) (next_then c [] refl))
    (λ f. by_test (nat_lt c 65536) ((224 + c / 4096) ∷ next (c / 64) ∷ next c ∷ []) ((240 + c / 262144) ∷ next (c / 4096) ∷ next (c / 64) ∷ next c ∷ [])
    (λ g. byte_then (224 + c / 4096) (next (c / 64) ∷ next c ∷ []) (let l = ltb-true c 65536 g in omega arith) (next_then (c / 64) (next c ∷ []) (next_then c [] refl)))
    (λ g. byte_then (240 + c / 262144) (next (c / 4096) ∷ next (c / 64) ∷ next c ∷ []) (omega arith)
    (next_then (c / 4096) (next (c / 64) ∷ next c ∷ []) (next_then (c / 64) (next c ∷ []) (next_then c [] refl))))))

in_unicode : (c : ℕ) → scalar c ≡ true → c < 1114112
in_unicode c e = elim (scalar_cases c e) [ inl low ↦ omega (arith, low) | inr high ↦ high.1 ]

characters_small : (cs : List ℕ) → scalars cs ≡ true → are_small (encodes cs) ≡ true
characters_small [] h = refl
characters_small (c ∷ cs) h =
    let p = both_true (scalar c) (scalars cs) h in
    small_append (encode c) (encodes cs) (character_small c (in_unicode c p.0)) (characters_small cs p.1)

utf8_small : (text : List ℕ) → is_utf8 text ≡ true → are_small text ≡ true
unfolding is_utf8
utf8_small text h =
    let p = both_true (scalars (chars text)) _ h in
    ap are_small (sym ((bytes_decides (encodes (chars text)) text).0 p.1)) ∙ characters_small (chars text) p.0

segment_small : (segment : List ℕ) → is_segment segment ≡ true → are_small segment ≡ true
segment_small segment h = utf8_small segment (both_true (is_utf8 segment) _ (segment_facts segment h).clean).0

joined_small : (path : List (List ℕ)) → list_all is_segment path ≡ true → are_small (join_with_byte 47 path) ≡ true
joined_small [] h = refl
joined_small (segment ∷ []) h = segment_small segment (both_true (is_segment segment) true h).0
joined_small (segment ∷ other ∷ rest) h =
    let p = both_true (is_segment segment) (list_all is_segment (other ∷ rest)) h in
    small_append segment (47 ∷ join_with_byte 47 (other ∷ rest)) (segment_small segment p.0) (joined_small (other ∷ rest) p.1)

text_small : (path : List (List ℕ)) → IsPath path → are_small (path_text path) ≡ true
text_small [] h = refl
text_small (segment ∷ rest) h = joined_small (segment ∷ rest) h

bytes_of_small : (text : List ℕ) → are_small text ≡ true → IsBytes text
bytes_of_small [] h i = omega arith
bytes_of_small (x ∷ xs) h zero = ltb-true x 256 (both_true (nat_lt x 256) (are_small xs) h).0
bytes_of_small (x ∷ xs) h (suc i) = bytes_of_small xs (both_true (nat_lt x 256) (are_small xs) h).1 i

pub path_in_hex : (path : List (List ℕ)) → IsPath path → decode_of (encode_lower (path_text path)) ≡ Ok (path_text path)
path_in_hex path is = decode_of-encode_lower (path_text path) (bytes_of_small (path_text path) (text_small path is))

abbrev ok_of : {X Y : Type 0} → X → Result X Y → X
ok_of d (Ok x) = x
ok_of d (Err e) = d

-- small hex digits are those of one path
pub same_path : (first second : List (List ℕ)) → IsPath first → IsPath second
    → encode_lower (path_text first) ≡ encode_lower (path_text second) → first ≡ second
same_path first second f s e =
    let texts : path_text first ≡ path_text second = ap (ok_of []) (sym (path_in_hex first f) ∙ ap decode_of e ∙ path_in_hex second s) in
    ap (ok_of []) (sym (path_of-path_text first f) ∙ ap path_of texts ∙ path_of-path_text second s)
