-- Runs of bytes that a printed form has as they are.
use Rattle.std.proofs.Common.{◌≡◌, ℕ, zero, suc, ◌<◌, ◌≤◌, Bool, true, false, ◌&&◌, List, [], ◌∷◌, ◌++◌, length, take, lit<, refl, ap, ◌∙◌, arith}
use Rattle.std.specs.List.{list_all, flat_map}
use Rattle.std.specs.Str.{IsUtf8, IsAscii, IsCharBoundary, chars}
use Rattle.std.specs.Char.{encode_utf8}
use Rattle.std.proofs.lemmas.Bool.Decides.{nat_tests}
use Rattle.std.proofs.lemmas.Grind.{flat_map-append}
use Rattle.std.proofs.lemmas.Str.{IsUtf8-from_ascii, IsCharBoundary-from_take, chars-append, chars-IsAscii, chars_past_char}
use Rattle.json_ordered.specs.Json.{is_plain}
use Rattle.json_ordered.specs.JsonTexts.{compact_char, compact_string, pretty_byte, quoted}
use Rattle.json_ordered.specs.JsonPrinting.{is_kept}

and_parts : (b c : Bool) → b && c ≡ true → (b ≡ true) × (c ≡ true)
and_parts true c h = (refl, h)
and_parts false c h = absurd cc

kept_small : (byte : ℕ) → is_kept byte ≡ true → byte < 128
kept_small byte h = grind (arith, nat_tests)

kept_char : (byte : ℕ) → is_kept byte ≡ true → compact_char byte ≡ byte ∷ []
kept_char byte h = grind (arith, nat_tests)

plain_byte : (byte : ℕ) → is_plain byte ≡ true → pretty_byte byte ≡ byte ∷ []
plain_byte byte h = grind (arith, nat_tests)

kept_ascii : (run : List ℕ) → list_all is_kept run ≡ true → IsAscii run
kept_ascii [] h i = lit< tt
kept_ascii (byte ∷ run) h zero = kept_small byte (and_parts (is_kept byte) (list_all is_kept run) h).0
kept_ascii (byte ∷ run) h (suc i) = kept_ascii run (and_parts (is_kept byte) (list_all is_kept run) h).1 i

kept_chars : (run : List ℕ) → list_all is_kept run ≡ true → flat_map compact_char run ≡ run
kept_chars [] h = refl
kept_chars (byte ∷ run) h =
    let parts = and_parts (is_kept byte) (list_all is_kept run) h in
    ap (λ (t : List ℕ). t ++ flat_map compact_char run) (kept_char byte parts.0) ∙ ap (λ (t : List ℕ). byte ∷ t) (kept_chars run parts.1)

plain_bytes : (run : List ℕ) → list_all is_plain run ≡ true → flat_map pretty_byte run ≡ run
plain_bytes [] h = refl
plain_bytes (byte ∷ run) h =
    let parts = and_parts (is_plain byte) (list_all is_plain run) h in
    ap (λ (t : List ℕ). t ++ flat_map pretty_byte run) (plain_byte byte parts.0) ∙ ap (λ (t : List ℕ). byte ∷ t) (plain_bytes run parts.1)

-- a text may be cut behind a run that is kept
pub cut_behind_kept : (text : List ℕ) (len : ℕ) → IsUtf8 text → len ≤ length text → list_all is_kept (take len text) ≡ true → IsCharBoundary text len
cut_behind_kept text len u within h = IsCharBoundary-from_take text len u within (IsUtf8-from_ascii (take len text) (kept_ascii (take len text) h))

-- a run that is kept, and what follows it
pub behind_kept : (text run end : List ℕ) → text ≡ run ++ end → list_all is_kept run ≡ true → flat_map compact_char (chars text) ≡ run ++ flat_map compact_char (chars end)
behind_kept text run end parts h =
    let ascii = kept_ascii run h in
    ap (λ (t : List ℕ). flat_map compact_char (chars t)) parts
    ∙ ap (flat_map compact_char) (chars-append run end (IsUtf8-from_ascii run ascii) ∙ ap (λ (t : List ℕ). t ++ chars end) (chars-IsAscii run ascii))
    ∙ flat_map-append compact_char run (chars end)
    ∙ ap (λ (t : List ℕ). t ++ flat_map compact_char (chars end)) (kept_chars run h)

-- a character, and what follows it
pub behind_char : (text rest : List ℕ) (c : ℕ) → IsUtf8 text → text ≡ encode_utf8 c ++ rest → flat_map compact_char (chars text) ≡ compact_char c ++ flat_map compact_char (chars rest)
behind_char text rest c u parts = ap (flat_map compact_char) (chars_past_char text rest c u parts)

-- the same of the pretty form
pub behind_plain : (text run end : List ℕ) → text ≡ run ++ end → list_all is_plain run ≡ true → flat_map pretty_byte text ≡ run ++ flat_map pretty_byte end
behind_plain text run end parts h =
    ap (flat_map pretty_byte) parts ∙ flat_map-append pretty_byte run end ∙ ap (λ (t : List ℕ). t ++ flat_map pretty_byte end) (plain_bytes run h)

-- a string whose bytes are all kept
pub kept_string : (name : List ℕ) → list_all is_kept name ≡ true → compact_string name ≡ quoted name
unfolding compact_string
kept_string name h = ap quoted (ap (flat_map compact_char) (chars-IsAscii name (kept_ascii name h)) ∙ kept_chars name h)
