-- The pretty form of a value with UTF-8 texts is UTF-8, so it is a JSON text of that value.
use Rattle.std.proofs.Common.{◌≡◌, ℕ, ◌+◌, ◌/◌, ◌%◌, ◌<◌, ◌≤◌, Bool, true, false, cond, ◌&&◌, ◌||◌, eqb, ltb, inl, inr, List, [], ◌∷◌, ◌++◌, map, Ok, refl, sym, ap, subst, ◌∙◌, arith, codes}
use Rattle.std.specs.List.{list_all, flat_map, join_with_byte}
use Rattle.std.specs.Str.{IsUtf8}
use Rattle.std.specs.Char.{IsScalar, digit_char, encode_utf8}
use Rattle.std.proofs.Math.Utf8.{encode, scalar}
use Rattle.std.specs.Str.{encode_utf8_all, all_scalars}
use Rattle.std.proofs.lemmas.Bool.{cases_lt, ltb-true}
use Rattle.std.proofs.lemmas.Bool.Decides.{nat_tests}
use Rattle.std.proofs.lemmas.Grind.{flat_map-append}
use Rattle.std.proofs.lemmas.List.{append-nil}
use Rattle.std.proofs.lemmas.Str.{IsUtf8-append, IsUtf8-from_ascii, IsUtf8-encode, encode_ascii}
use Rattle.path_name.specs.Bytes.{is_digit, is_between}
use Rattle.json_ordered.specs.JsonTree.{JsonTree, Null, Boolean, Number, String, Array, Object, Items, no_items, item, Members, no_members, member, HasUtf8Texts, EachHasUtf8Texts, MembersHaveUtf8Texts}
use Rattle.json_ordered.specs.Json.{IsMinus, IsInt, IsDigits, IsSomeDigits, IsFrac, IsSign, IsExp, IsNumber, is_e, is_sign, IsJsonOf, most_levels}
use Rattle.json_ordered.specs.JsonTexts.{unit_text, control_text, pretty_byte, pretty_string, word_of, deeper, lines_of, pretty_at, pretty_items, pretty_members, pretty_text}
use Rattle.json_ordered.specs.JsonDocuments.{HasNumbers, EachHasNumbers, MembersHaveNumbers, IsDocument}
use Rattle.json_ordered.specs.JsonFaults.{json_of}
use Rattle.json_ordered.proofs.Numbers.{all_append}
use Rattle.json_ordered.proofs.Residual.{is_ascii}
use Rattle.json_ordered.proofs.Meaning.{ascii_small, json_is_value}
use Rattle.json_ordered.proofs.ReadBack.{value_back}

abbrev AreAscii : List ℕ → Type 0
AreAscii text = list_all is_ascii text ≡ true

ascii_utf8 : (text : List ℕ) → AreAscii text → IsUtf8 text
ascii_utf8 text h = IsUtf8-from_ascii text (λ i. ascii_small text i h)

-- ---- numbers

digit_ascii : (b : ℕ) → is_digit b ≡ true → is_ascii b ≡ true
digit_ascii b h = grind (arith, nat_tests)

first_ascii : (b : ℕ) → is_between 49 57 b ≡ true → is_ascii b ≡ true
first_ascii b h = grind (arith, nat_tests)

e_ascii : (b : ℕ) → is_e b ≡ true → is_ascii b ≡ true
e_ascii b h = grind (arith, nat_tests)

sign_ascii : (b : ℕ) → is_sign b ≡ true → is_ascii b ≡ true
sign_ascii b h = grind (arith, nat_tests)

and_both : (b c : Bool) → b ≡ true → c ≡ true → b && c ≡ true
and_both true c e f = f
and_both false c e f = absurd cc

and_parts : (b c : Bool) → b && c ≡ true → (b ≡ true) × (c ≡ true)
and_parts true c h = (refl, h)
and_parts false c h = absurd cc

digits_ascii : (ds : List ℕ) → IsDigits ds → AreAscii ds
digits_ascii [] h = refl
digits_ascii (d ∷ ds) h = let p = and_parts (is_digit d) (list_all is_digit ds) h in and_both (is_ascii d) (list_all is_ascii ds) (digit_ascii d p.0) (digits_ascii ds p.1)

some_ascii : (ds : List ℕ) → IsSomeDigits ds → AreAscii ds
some_ascii ds h = subst AreAscii (sym h.4) (and_both (is_ascii h.0) (list_all is_ascii h.1) (digit_ascii h.0 h.2) (digits_ascii h.1 h.3))

minus_ascii : (t : List ℕ) → IsMinus t → AreAscii t
minus_ascii t (inl e) = subst AreAscii (sym e) refl
minus_ascii t (inr e) = subst AreAscii (sym e) refl

int_ascii : (t : List ℕ) → IsInt t → AreAscii t
int_ascii t (inl e) = subst AreAscii (sym e) refl
int_ascii t (inr h) = subst AreAscii (sym h.4) (and_both (is_ascii h.0) (list_all is_ascii h.1) (first_ascii h.0 h.2) (digits_ascii h.1 h.3))

frac_ascii : (t : List ℕ) → IsFrac t → AreAscii t
frac_ascii t (inl e) = subst AreAscii (sym e) refl
frac_ascii t (inr h) = subst AreAscii (sym h.2) (some_ascii h.0 h.1)

sign_text_ascii : (t : List ℕ) → IsSign t → AreAscii t
sign_text_ascii t (inl e) = subst AreAscii (sym e) refl
sign_text_ascii t (inr h) = subst AreAscii (sym h.2) (and_both (is_ascii h.0) true (sign_ascii h.0 h.1) refl)

exp_ascii : (t : List ℕ) → IsExp t → AreAscii t
exp_ascii t (inl e) = subst AreAscii (sym e) refl
exp_ascii t (inr h) = subst AreAscii (sym h.6) (and_both (is_ascii h.0) (list_all is_ascii (h.1 ++ h.2)) (e_ascii h.0 h.3) (all_append is_ascii h.1 h.2 (sign_text_ascii h.1 h.4) (some_ascii h.2 h.5)))

number_ascii : (t : List ℕ) → IsNumber t → AreAscii t
number_ascii t n = subst AreAscii (sym n.parts) (all_append is_ascii n.minus (n.int ++ (n.frac ++ n.exp)) (minus_ascii n.minus n.is_minus)
    (all_append is_ascii n.int (n.frac ++ n.exp) (int_ascii n.int n.is_int) (all_append is_ascii n.frac n.exp (frac_ascii n.frac n.is_frac) (exp_ascii n.exp n.is_exp))))

-- ---- strings

pick : (b : Bool) (x y : List ℕ) → AreAscii x → AreAscii y → AreAscii (cond b x y)
pick true x y h k = h
pick false x y h k = k

hex_ascii : (d : ℕ) → is_ascii (digit_char (d % 16)) ≡ true
hex_ascii d = below (d % 16) (omega arith)
  where
    below : (n : ℕ) → n < 16 → is_ascii (digit_char n) ≡ true
    below n k = grind (arith, nat_tests)

unit_ascii : (u : ℕ) → AreAscii (unit_text u)
unit_ascii u = rw (hex_ascii (u / 0x1000), hex_ascii (u / 0x100), hex_ascii (u / 0x10), hex_ascii (u / 1)) refl

control_ascii : (b : ℕ) → AreAscii (control_text b)
control_ascii b = pick (eqb b 8) _ _ refl (pick (eqb b 12) _ _ refl (pick (eqb b 10) _ _ refl (pick (eqb b 13) _ _ refl (pick (eqb b 9) _ _ refl (unit_ascii b)))))

small_ascii : (b : ℕ) → b < 128 → is_ascii b ≡ true
small_ascii b h = grind (arith, nat_tests)

low_byte : (b : ℕ) → b < 128 → AreAscii (pretty_byte b)
low_byte b h = pick (ltb b 32) _ _ (control_ascii b) (pick (eqb b 34 || eqb b 92) _ _ (rw (small_ascii b h) refl) (rw (small_ascii b h) refl))

high_byte : (b : ℕ) → 128 ≤ b → pretty_byte b ≡ b ∷ []
high_byte b h = grind (arith, nat_tests)

-- bytes past ASCII
abbrev AreHigh : List ℕ → Type 0
AreHigh [] = Unit {0}
AreHigh (b ∷ bs) = (128 ≤ b) × AreHigh bs

high_bytes : (bs : List ℕ) → AreHigh bs → flat_map pretty_byte bs ≡ bs
high_bytes [] h = refl
high_bytes (b ∷ bs) h = ap (λ (t : List ℕ). t ++ flat_map pretty_byte bs) (high_byte b h.0) ∙ ap (λ (t : List ℕ). b ∷ t) (high_bytes bs h.1)

pick_high : (b : Bool) (x y : List ℕ) → AreHigh x → AreHigh y → AreHigh (cond b x y)
pick_high true x y h k = h
pick_high false x y h k = k

encoded_high : (c : ℕ) → 128 ≤ c → AreHigh (encode c)
unfolding encode
encoded_high c h = by (ltb c 128) refl
  where
    by : (b : Bool) → ltb c 128 ≡ b → AreHigh (cond b (c ∷ []) (cond (ltb c 2048) ((192 + c / 64) ∷ (128 + c % 64) ∷ []) (cond (ltb c 65536) ((224 + c / 4096) ∷ (128 + c / 64 % 64) ∷ (128 + c % 64) ∷ []) ((240 + c / 262144) ∷ (128 + c / 4096 % 64) ∷ (128 + c / 64 % 64) ∷ (128 + c % 64) ∷ []))))
    by true e = absurd (not_below (ltb-true c 128 e))
      where
        not_below : c < 128 → ⊥
        not_below k = omega arith
    by false e = pick_high (ltb c 2048) _ _ (omega arith, (omega arith, tt)) (pick_high (ltb c 65536) _ _ (omega arith, (omega arith, (omega arith, tt))) (omega arith, (omega arith, (omega arith, (omega arith, tt)))))

char_utf8 : (c : ℕ) → IsScalar c → IsUtf8 (flat_map pretty_byte (encode_utf8 c))
char_utf8 c s = elim (cases_lt c 128) [
  | inl lt ↦ subst (λ (t : List ℕ). IsUtf8 (flat_map pretty_byte t)) (sym (encode_ascii c lt)) (subst IsUtf8 (sym (append-nil (pretty_byte c))) (ascii_utf8 (pretty_byte c) (low_byte c lt)))
  | inr le ↦ subst IsUtf8 (sym (high_bytes (encode_utf8 c) (encoded_high c le))) (IsUtf8-encode c s)
]

chars_utf8 : (cs : List ℕ) → all_scalars cs ≡ true → IsUtf8 (flat_map pretty_byte (encode_utf8_all cs))
chars_utf8 [] h = ascii_utf8 [] refl
chars_utf8 (c ∷ cs) h =
    let p = and_parts (scalar c) (all_scalars cs) h in
    subst IsUtf8 (sym (flat_map-append pretty_byte (encode_utf8 c) (encode_utf8_all cs))) (IsUtf8-append (flat_map pretty_byte (encode_utf8 c)) (flat_map pretty_byte (encode_utf8_all cs)) (char_utf8 c p.0) (chars_utf8 cs p.1))

string_utf8 : (text : List ℕ) → IsUtf8 text → IsUtf8 (pretty_string text)
unfolding pretty_string
string_utf8 text h =
    IsUtf8-append (34 ∷ []) (flat_map pretty_byte text ++ 34 ∷ []) (ascii_utf8 (34 ∷ []) refl)
    (IsUtf8-append (flat_map pretty_byte text) (34 ∷ []) (subst (λ (t : List ℕ). IsUtf8 (flat_map pretty_byte t)) h.1.1 (chars_utf8 h.0 h.1.0)) (ascii_utf8 (34 ∷ []) refl))

-- ---- values

abbrev Each : List (List ℕ) → Type 0
Each [] = Unit {0}
Each (t ∷ ts) = IsUtf8 t × Each ts

joined_utf8 : (line : List ℕ) (ts : List (List ℕ)) → IsUtf8 line → Each ts → IsUtf8 (join_with_byte 44 (map (λ text. line ++ text) ts))
joined_utf8 line [] h e = ascii_utf8 [] refl
joined_utf8 line (t ∷ []) h e = IsUtf8-append line t h e.0
joined_utf8 line (t ∷ u ∷ ts) h e =
    IsUtf8-append (line ++ t) (44 ∷ join_with_byte 44 (map (λ text. line ++ text) (u ∷ ts))) (IsUtf8-append line t h e.0)
    (IsUtf8-append (44 ∷ []) (join_with_byte 44 (map (λ text. line ++ text) (u ∷ ts))) (ascii_utf8 (44 ∷ []) refl) (joined_utf8 line (u ∷ ts) h e.1))

lines_utf8 : (line : List ℕ) (ts : List (List ℕ)) → IsUtf8 line → IsUtf8 (deeper line) → Each ts → IsUtf8 (lines_of line ts)
lines_utf8 line [] h k e = ascii_utf8 [] refl
lines_utf8 line (t ∷ ts) h k e = IsUtf8-append (join_with_byte 44 (map (λ text. deeper line ++ text) (t ∷ ts))) line (joined_utf8 (deeper line) (t ∷ ts) k e) h

around : (begin end : ℕ) (text : List ℕ) → is_ascii begin ≡ true → is_ascii end ≡ true → IsUtf8 text → IsUtf8 (begin ∷ (text ++ end ∷ []))
around begin end text h k u = IsUtf8-append (begin ∷ []) (text ++ end ∷ []) (ascii_utf8 (begin ∷ []) (rw h refl)) (IsUtf8-append text (end ∷ []) u (ascii_utf8 (end ∷ []) (rw k refl)))

deeper_utf8 : (line : List ℕ) → IsUtf8 line → IsUtf8 (deeper line)
deeper_utf8 line h = IsUtf8-append line (codes "    ") h (ascii_utf8 (codes "    ") refl)

word_utf8 : (b : Bool) → IsUtf8 (word_of b)
word_utf8 true = ascii_utf8 (codes "true") refl
word_utf8 false = ascii_utf8 (codes "false") refl

mutual
  unfolding pretty_at

  utf8_at : (v : JsonTree) (line : List ℕ) → IsUtf8 line → HasUtf8Texts v → HasNumbers v → IsUtf8 (pretty_at line v)
  utf8_at Null line h u n = ascii_utf8 (codes "null") refl
  utf8_at (Boolean b) line h u n = word_utf8 b
  utf8_at (Number text) line h u n = ascii_utf8 text (number_ascii text n)
  utf8_at (String text) line h u n = string_utf8 text u
  utf8_at (Array items) line h u n = around 91 93 (lines_of line (pretty_items (deeper line) items)) refl refl (lines_utf8 line (pretty_items (deeper line) items) h (deeper_utf8 line h) (items_utf8 items (deeper line) (deeper_utf8 line h) u n))
  utf8_at (Object members) line h u n = around 123 125 (lines_of line (pretty_members (deeper line) members)) refl refl (lines_utf8 line (pretty_members (deeper line) members) h (deeper_utf8 line h) (members_utf8 members (deeper line) (deeper_utf8 line h) u n))

  items_utf8 : (vs : Items) (line : List ℕ) → IsUtf8 line → EachHasUtf8Texts vs → EachHasNumbers vs → Each (pretty_items line vs)
  items_utf8 no_items line h u n = tt
  items_utf8 (item v vs) line h u n = (utf8_at v line h u.0 n.0, items_utf8 vs line h u.1 n.1)

  members_utf8 : (ms : Members) (line : List ℕ) → IsUtf8 line → MembersHaveUtf8Texts ms → MembersHaveNumbers ms → Each (pretty_members line ms)
  members_utf8 no_members line h u n = tt
  members_utf8 (member name v ms) line h u n =
      (IsUtf8-append (pretty_string name) (58 ∷ 32 ∷ pretty_at line v) (string_utf8 name u.0) (IsUtf8-append (58 ∷ 32 ∷ []) (pretty_at line v) (ascii_utf8 (58 ∷ 32 ∷ []) refl) (utf8_at v line h u.1 n.0)), members_utf8 ms line h u.2 n.1)

-- ---- texts

pub pretty_json : (levels : ℕ) (tree : JsonTree) → IsDocument levels tree → IsJsonOf levels (pretty_text tree) tree
pretty_json levels tree d = record {
  before = [];
  value = pretty_text tree;
  after = [];
  utf8 = utf8_at tree (10 ∷ []) (ascii_utf8 (10 ∷ []) refl) d.texts d.numbers;
  is_before = refl;
  is_value = value_back tree (10 ∷ []) levels refl d.distinct d.numbers d.depth;
  is_after = refl;
  parts = sym (append-nil (pretty_text tree));
}

pub pretty_read : (tree : JsonTree) → IsDocument most_levels tree → json_of (pretty_text tree) ≡ Ok tree
pretty_read tree d = json_is_value (pretty_text tree) tree (pretty_json most_levels tree d)
