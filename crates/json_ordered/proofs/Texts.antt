-- The strings and names of a text that is read are UTF-8.
use Rattle.std.proofs.Common.{◌≡◌, ℕ, zero, suc, ◌<◌, ◌≤◌, Bool, true, false, cond, ◌&&◌, ◌||◌, eqb, lit<, inl, inr, List, [], ◌∷◌, ◌++◌, length, get_or, Option, Some, None, refl, sym, subst, ◌∙◌, append_assoc, arith, length-append}
use Rattle.std.specs.List.{list_all}
use Rattle.std.specs.Str.{IsUtf8, IsCharBoundary}
use Rattle.std.specs.Char.{IsScalar, digit_value, encode_utf8}
use Rattle.std.specs.Char.Utf16.{is_high_surrogate, is_low_surrogate, surrogate_pair_char}
use Rattle.std.proofs.lemmas.Bool.{ltb-true, cases_lt}
use Rattle.std.proofs.lemmas.Bool.Decides.{nat_tests}
use Rattle.std.proofs.lemmas.List.{append-nil, get_or_at, take_at, drop_at}
use Rattle.std.proofs.lemmas.Str.{IsUtf8-append, IsUtf8-from_ascii, IsUtf8-take, IsUtf8-drop, IsUtf8-encode, IsUtf8-nil, IsCharBoundary-before_ascii, IsCharBoundary-after_ascii}
use Rattle.path_name.specs.Bytes.{is_blank}
use Rattle.path_name.specs.Orders.{bytes_are_equal}
use Rattle.json_ordered.specs.JsonTree.{JsonTree, items_of, members_of, put, put_all, HasUtf8Texts, EachHasUtf8Texts, MembersHaveUtf8Texts}
use Rattle.json_ordered.specs.Json.{IsBlanks, IsChars, no_chars, plain, escape, unit, pair, IsValue, null, true_word, false_word, number, string, empty_array, array, empty_object, object, IsMoreItems, last_item, next_item, IsMember, named, IsMoreMembers, last_member, next_member, IsJsonOf, Quad, is_hex, escaped, unit_of, spelled_unit}
use Rattle.json_ordered.proofs.Complete.{is_end, Ends, only_blanks_end, items_end, members_end, Digits, digits}
use Rattle.json_ordered.proofs.Boundary.{high_hex, no_letter}

-- ---- cuts at ASCII bytes

pub split_ascii : (x : List ℕ) (byte : ℕ) (y : List ℕ) → byte < 128 → IsUtf8 (x ++ byte ∷ y) → IsUtf8 x × IsUtf8 (byte ∷ y)
split_ascii x byte y small u =
    let here : get_or (x ++ byte ∷ y) (length x) 0 ≡ byte = get_or_at x byte y 0 (length x) refl in
    let cut = IsCharBoundary-before_ascii (x ++ byte ∷ y) (length x) (omega (arith, length-append x (byte ∷ y))) (subst (λ (n : ℕ). n < 128) (sym here) small) in
    (subst IsUtf8 (take_at x (byte ∷ y) (length x) refl) (IsUtf8-take (x ++ byte ∷ y) (length x) u cut), subst IsUtf8 (drop_at x (byte ∷ y) (length x) refl) (IsUtf8-drop (x ++ byte ∷ y) (length x) u cut))

pub after_ascii : (byte : ℕ) (y : List ℕ) → byte < 128 → IsUtf8 (byte ∷ y) → IsUtf8 y
after_ascii byte y small u =
    let cut : IsCharBoundary (byte ∷ y) 1 = IsCharBoundary-after_ascii (byte ∷ y) 0 u (omega arith) small in
    IsUtf8-drop (byte ∷ y) 1 u cut

one_ascii : (byte : ℕ) → byte < 128 → IsUtf8 (byte ∷ [])
one_ascii byte h = IsUtf8-from_ascii (byte ∷ []) small
  where
    small : (i : ℕ) → get_or (byte ∷ []) i 0 < 128
    small zero = h
    small (suc i) = omega arith

-- ---- ASCII bytes

hex_small : (byte : ℕ) → is_hex byte ≡ true → byte < 128
hex_small byte h = elim (cases_lt byte 128) [
  | inl lt ↦ lt
  | inr le ↦ let low : digit_value byte < 16 = ltb-true (digit_value byte) 16 h in let same : digit_value byte ≡ 36 = high_hex byte le in unlike (digit_value byte) low same
]
  where
    unlike : (x : ℕ) → x < 16 → x ≡ 36 → byte < 128
    unlike x a b = absurd (omega arith)

letter_small : (letter meant : ℕ) → escaped letter ≡ Some meant → letter < 128
letter_small letter meant e = elim (cases_lt letter 128) [
  | inl lt ↦ lt
  | inr le ↦ absurd (unlike (sym (no_letter letter le) ∙ e))
]
  where
    unlike : {m : ℕ} → None ≡ Some m → ⊥
    unlike p = cc

abbrev IsSmall : Option ℕ → Type 0
IsSmall (Some n) = n < 128
IsSmall None = Unit {0}

small_pick : (b : Bool) (x y : Option ℕ) → (b ≡ true → IsSmall x) → IsSmall y → IsSmall (cond b x y)
small_pick true x y f g = f refl
small_pick false x y f g = g

itself_small_left : (letter : ℕ) → eqb letter 34 || eqb letter 92 || eqb letter 47 ≡ true → letter < 128
itself_small_left letter e = grind (arith, nat_tests)

escaped_small : (letter : ℕ) → IsSmall (escaped letter)
escaped_small letter =
    small_pick _ _ _ (λ k. itself_small_left letter k) (
    small_pick (eqb letter 98) _ _ (λ _. lit< tt) (
    small_pick (eqb letter 102) _ _ (λ _. lit< tt) (
    small_pick (eqb letter 110) _ _ (λ _. lit< tt) (
    small_pick (eqb letter 114) _ _ (λ _. lit< tt) (
    small_pick (eqb letter 116) _ _ (λ _. lit< tt) tt)))))

meant_small : (letter meant : ℕ) → escaped letter ≡ Some meant → meant < 128
meant_small letter meant e = subst IsSmall e (escaped_small letter)

unit_scalar : (u : ℕ) → u < 65536 → is_high_surrogate u ≡ false → is_low_surrogate u ≡ false → IsScalar u
unit_scalar u b h l = grind (arith, nat_tests)

pair_scalar : (high low : ℕ) → is_high_surrogate high ≡ true → is_low_surrogate low ≡ true → IsScalar (surrogate_pair_char high low)
pair_scalar high low h l =
    let first : (55296 ≤ high) × (high < 56320) = grind (arith, nat_tests) in
    let second : (56320 ≤ low) × (low < 57344) = grind (arith, nat_tests) in
    large_scalar (surrogate_pair_char high low) (omega (arith, first.0, first.1, second.0, second.1)) (omega (arith, first.0, first.1, second.0, second.1))
  where
    large_scalar : (c : ℕ) → 65536 ≤ c → c < 1114112 → IsScalar c
    large_scalar c a b = grind (arith, nat_tests)

unit_below : (q : Quad) → Digits q → unit_of q < 65536
unit_below q h = omega (arith, ltb-true (digit_value q.a) 16 h.a, ltb-true (digit_value q.b) 16 h.b, ltb-true (digit_value q.c) 16 h.c, ltb-true (digit_value q.d) 16 h.d)

-- what follows an escape of a unit
after_unit : (q : Quad) (rest : List ℕ) → Digits q → IsUtf8 (spelled_unit q rest) → IsUtf8 rest
after_unit q rest h u =
    after_ascii q.d rest (hex_small q.d h.d) (after_ascii q.c (q.d ∷ rest) (hex_small q.c h.c) (after_ascii q.b (q.c ∷ q.d ∷ rest) (hex_small q.b h.b) (after_ascii q.a (q.b ∷ q.c ∷ q.d ∷ rest) (hex_small q.a h.a)
    (after_ascii 117 (q.a ∷ q.b ∷ q.c ∷ q.d ∷ rest) (lit< tt) (after_ascii 92 (117 ∷ q.a ∷ q.b ∷ q.c ∷ q.d ∷ rest) (lit< tt) u)))))

-- ---- strings

chars_utf8 : {spelled value : List ℕ} → IsChars spelled value → (before : List ℕ) → IsUtf8 (before ++ spelled) → IsUtf8 (before ++ value)
chars_utf8 no_chars before u = u
chars_utf8 (plain {byte} {spelled} {value} k c) before u = subst IsUtf8 (append_assoc before (byte ∷ []) value) (chars_utf8 c (before ++ byte ∷ []) (subst IsUtf8 (sym (append_assoc before (byte ∷ []) spelled)) u))
chars_utf8 (escape {letter} {meant} {spelled} {value} e c) before u =
    let s = split_ascii before 92 (letter ∷ spelled) (lit< tt) u in
    let rest = after_ascii letter spelled (letter_small letter meant e) (after_ascii 92 (letter ∷ spelled) (lit< tt) s.1) in
    IsUtf8-append before (meant ∷ value) s.0 (IsUtf8-append (meant ∷ []) value (one_ascii meant (meant_small letter meant e)) (chars_utf8 c [] rest))
chars_utf8 (unit q {spelled} {value} isq nohigh nolow c) before u =
    let s = split_ascii before 92 (117 ∷ q.a ∷ q.b ∷ q.c ∷ q.d ∷ spelled) (lit< tt) u in
    let h = digits q isq in
    IsUtf8-append before (encode_utf8 (unit_of q) ++ value) s.0 (IsUtf8-append (encode_utf8 (unit_of q)) value (IsUtf8-encode (unit_of q) (unit_scalar (unit_of q) (unit_below q h) nohigh nolow)) (chars_utf8 c [] (after_unit q spelled h s.1)))
chars_utf8 (pair high low {spelled} {value} ishigh surely islow surelylow c) before u =
    let s = split_ascii before 92 (117 ∷ high.a ∷ high.b ∷ high.c ∷ high.d ∷ spelled_unit low spelled) (lit< tt) u in
    let rest = after_unit low spelled (digits low islow) (after_unit high (spelled_unit low spelled) (digits high ishigh) s.1) in
    let code = surrogate_pair_char (unit_of high) (unit_of low) in
    IsUtf8-append before (encode_utf8 code ++ value) s.0 (IsUtf8-append (encode_utf8 code) value (IsUtf8-encode code (pair_scalar (unit_of high) (unit_of low) surely surelylow)) (chars_utf8 c [] rest))

-- ---- members

put_by : (b : Bool) (name : List ℕ) (m : List ℕ × JsonTree) (v : JsonTree) (ms : List (List ℕ × JsonTree)) → HasUtf8Texts v → MembersHaveUtf8Texts (members_of (m ∷ ms)) → MembersHaveUtf8Texts (members_of (put ms name v))
    → MembersHaveUtf8Texts (members_of (cond b ((m.0, v) ∷ ms) (m ∷ put ms name v)))
put_by true name m v ms hv h k = (h.0, hv, h.2)
put_by false name m v ms hv h k = (h.0, h.1, k)

put_utf8 : (ms : List (List ℕ × JsonTree)) (name : List ℕ) (v : JsonTree) → IsUtf8 name → HasUtf8Texts v → MembersHaveUtf8Texts (members_of ms) → MembersHaveUtf8Texts (members_of (put ms name v))
put_utf8 [] name v hn hv h = (hn, hv, tt)
put_utf8 (m ∷ ms) name v hn hv h = put_by (bytes_are_equal name m.0) name m v ms hv h (put_utf8 ms name v hn hv h.2)

abbrev Each : List (List ℕ × JsonTree) → Type 0
Each [] = Unit {0}
Each (m ∷ ms) = IsUtf8 m.0 × HasUtf8Texts m.1 × Each ms

all_utf8 : (done ms : List (List ℕ × JsonTree)) → MembersHaveUtf8Texts (members_of done) → Each ms → MembersHaveUtf8Texts (members_of (put_all done ms))
all_utf8 done [] h e = h
all_utf8 done (m ∷ ms) h e = all_utf8 (put done m.0 m.1) ms (put_utf8 done m.0 m.1 e.0 e.1 h) e.2

-- ---- values

blank_small : (byte : ℕ) → is_blank byte ≡ true → byte < 128
blank_small byte e = grind (arith, nat_tests)

end_small : (byte : ℕ) → is_end byte ≡ true → byte < 128
end_small byte e = grind (arith, nat_tests)

and_parts : (b c : Bool) → b && c ≡ true → (b ≡ true) × (c ≡ true)
and_parts true c h = (refl, h)
and_parts false c h = absurd cc

after_blanks : (blanks rest : List ℕ) → IsBlanks blanks → IsUtf8 (blanks ++ rest) → IsUtf8 rest
after_blanks [] rest h u = u
after_blanks (b ∷ blanks) rest h u =
    let parts = and_parts (is_blank b) (list_all is_blank blanks) h in
    after_blanks blanks rest parts.1 (after_ascii b (blanks ++ rest) (blank_small b parts.0) u)

split_end : (x more : List ℕ) → Ends more → IsUtf8 (x ++ more) → IsUtf8 x × IsUtf8 more
split_end x [] h u = (subst IsUtf8 (append-nil x) u, IsUtf8-nil)
split_end x (b ∷ more) h u = split_ascii x b more (end_small b h) u

items_end_here : {levels : ℕ} {a : List ℕ} {vs : List JsonTree} → IsMoreItems levels a vs → Ends a
items_end_here {levels} {a} {vs} m = subst Ends (append-nil a) (items_end m [])

members_end_here : {levels : ℕ} {a : List ℕ} {ms : List (List ℕ × JsonTree)} → IsMoreMembers levels a ms → Ends a
members_end_here {levels} {a} {ms} m = subst Ends (append-nil a) (members_end m [])

mutual
  pub utf8_texts : {levels : ℕ} {a : List ℕ} {v : JsonTree} → IsValue levels a v → IsUtf8 a → HasUtf8Texts v
  utf8_texts null u = tt
  utf8_texts true_word u = tt
  utf8_texts false_word u = tt
  utf8_texts (number {levels} {text} n) u = tt
  utf8_texts (string text c) u = chars_utf8 c [] (split_ascii text 34 [] (lit< tt) (after_ascii 34 (text ++ 34 ∷ []) (lit< tt) u)).0
  utf8_texts (empty_array blanks h) u = tt
  utf8_texts (array blanks text more h i m) u =
      let s = split_end text more (items_end_here m) (after_blanks blanks (text ++ more) h (after_ascii 91 (blanks ++ (text ++ more)) (lit< tt) u)) in
      (utf8_texts i s.0, utf8_items m s.1)
  utf8_texts (empty_object blanks h) u = tt
  utf8_texts (object blanks text more {m} {ms} h i mm) u =
      let s = split_end text more (members_end_here mm) (after_blanks blanks (text ++ more) h (after_ascii 123 (blanks ++ (text ++ more)) (lit< tt) u)) in
      let one = utf8_member i s.0 in
      all_utf8 [] (m ∷ ms) tt (one.0, one.1, utf8_members mm s.1)

  utf8_items : {levels : ℕ} {a : List ℕ} {vs : List JsonTree} → IsMoreItems levels a vs → IsUtf8 a → EachHasUtf8Texts (items_of vs)
  utf8_items (last_item blanks h) u = tt
  utf8_items (next_item before after text more h i v m) u =
      let s = split_end text more (items_end_here m) (after_blanks after (text ++ more) i (after_ascii 44 (after ++ (text ++ more)) (lit< tt) (after_blanks before (44 ∷ (after ++ (text ++ more))) h u))) in
      (utf8_texts v s.0, utf8_items m s.1)

  utf8_member : {levels : ℕ} {a : List ℕ} {m : List ℕ × JsonTree} → IsMember levels a m → IsUtf8 a → IsUtf8 m.0 × HasUtf8Texts m.1
  utf8_member (named text before after value c h i v) u =
      let s = split_ascii text 34 (before ++ 58 ∷ (after ++ value)) (lit< tt) (after_ascii 34 (text ++ 34 ∷ (before ++ 58 ∷ (after ++ value))) (lit< tt) u) in
      let colon = after_blanks before (58 ∷ (after ++ value)) h (after_ascii 34 (before ++ 58 ∷ (after ++ value)) (lit< tt) s.1) in
      (chars_utf8 c [] s.0, utf8_texts v (after_blanks after value i (after_ascii 58 (after ++ value) (lit< tt) colon)))

  utf8_members : {levels : ℕ} {a : List ℕ} {ms : List (List ℕ × JsonTree)} → IsMoreMembers levels a ms → IsUtf8 a → Each ms
  utf8_members (last_member blanks h) u = tt
  utf8_members (next_member before after text more h i m mm) u =
      let s = split_end text more (members_end_here mm) (after_blanks after (text ++ more) i (after_ascii 44 (after ++ (text ++ more)) (lit< tt) (after_blanks before (44 ∷ (after ++ (text ++ more))) h u))) in
      let one = utf8_member m s.0 in
      (one.0, one.1, utf8_members mm s.1)

-- of a whole text
pub json_utf8_texts : (levels : ℕ) (text : List ℕ) (tree : JsonTree) → IsJsonOf levels text tree → HasUtf8Texts tree
json_utf8_texts levels text tree json =
    let u = after_blanks json.before (json.value ++ json.after) json.is_before (subst IsUtf8 json.parts json.utf8) in
    utf8_texts json.is_value (split_end json.value json.after (only_blanks_end json.after json.is_after) u).0
