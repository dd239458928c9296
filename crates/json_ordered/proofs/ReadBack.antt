-- What the pretty form of a value is read as.
use Rattle.std.proofs.Common.{◌≡◌, ℕ, zero, suc, ◌/◌, ◌%◌, ◌<◌, ◌≤◌, Bool, true, false, cond, ◌&&◌, ◌||◌, eqb, ltb, List, [], ◌∷◌, ◌++◌, map, refl, sym, ap, subst, ◌∙◌, append_assoc, arith, codes}
use Rattle.std.specs.List.{list_all, flat_map, join_with_byte}
use Rattle.std.specs.Char.{digit_char, digit_value, encode_utf8}
use Rattle.std.specs.Char.Utf16.{is_high_surrogate, is_low_surrogate}
use Rattle.std.specs.Char.Escape.{hex_digit_at}
use Rattle.std.proofs.lemmas.Bool.{eqb-true, ltb-true}
use Rattle.std.proofs.lemmas.Bool.Decides.{nat_tests}
use Rattle.std.proofs.lemmas.List.{append-nil}
use Rattle.std.proofs.lemmas.Str.{digit_value-digit_char, encode_ascii}
use Rattle.path_name.specs.Bytes.{is_blank}
use Rattle.path_name.specs.Orders.{byte_equality}
use Rattle.json_ordered.specs.JsonTree.{JsonTree, Null, Boolean, Number, String, Array, Object, Items, no_items, item, Members, no_members, member, items_of, members_of, object_of, put, put_all, IsNewName, HasDistinctNames, EachHasDistinctNames, AreDistinctNames}
use Rattle.json_ordered.specs.Json.{IsBlanks, is_plain, is_hex, Quad, is_quad, unit_of, spelled_unit, IsChars, no_chars, plain, escape, unit, IsValue, null, true_word, false_word, number, string, empty_array, array, empty_object, object, IsMoreItems, last_item, next_item, IsMember, named, IsMoreMembers, last_member, next_member}
use Rattle.json_ordered.specs.JsonTexts.{unit_text, control_text, pretty_byte, pretty_string, word_of, deeper, pretty_at, pretty_items, pretty_members}
use Rattle.json_ordered.specs.JsonDocuments.{depth_of, items_depth, members_depth, HasNumbers, EachHasNumbers, MembersHaveNumbers}

-- ---- strings

digit_of : ℕ → ℕ → ℕ
digit_of p u = u / p % 16

-- the digits of a unit
abbrev quad_of : ℕ → Quad
quad_of u = record { a = hex_digit_at 0x1000 u; b = hex_digit_at 0x100 u; c = hex_digit_at 0x10 u; d = hex_digit_at 1 u }

hex_back : (d : ℕ) → d < 16 → digit_value (digit_char d) ≡ d
hex_back d h = digit_value-digit_char d (omega arith)

is_hex_digit : (d : ℕ) → d < 16 → is_hex (digit_char d) ≡ true
is_hex_digit d h = ap (λ (n : ℕ). ltb n 16) (hex_back d h) ∙ below d h
  where
    below : (n : ℕ) → n < 16 → ltb n 16 ≡ true
    below n k = grind (arith, nat_tests)

below_16 : (n : ℕ) → n % 16 < 16
below_16 n = omega arith

quad_is : (u : ℕ) → is_quad (quad_of u) ≡ true
quad_is u = rw (is_hex_digit (u / 0x1000 % 16) (below_16 (u / 0x1000)), is_hex_digit (u / 0x100 % 16) (below_16 (u / 0x100)), is_hex_digit (u / 0x10 % 16) (below_16 (u / 0x10)), is_hex_digit (u / 1 % 16) (below_16 (u / 1))) refl

unit_is : (u : ℕ) → u < 32 → unit_of (quad_of u) ≡ u
unit_is u h = rw (hex_back (u / 0x1000 % 16) (below_16 (u / 0x1000)), hex_back (u / 0x100 % 16) (below_16 (u / 0x100)), hex_back (u / 0x10 % 16) (below_16 (u / 0x10)), hex_back (u / 1 % 16) (below_16 (u / 1))) (omega arith)

no_high : (u : ℕ) → u < 32 → is_high_surrogate u ≡ false
no_high u h = grind (arith, nat_tests)

no_low : (u : ℕ) → u < 32 → is_low_surrogate u ≡ false
no_low u h = grind (arith, nat_tests)

module _ (byte : ℕ) (spelled value : List ℕ) (c : IsChars spelled value) where
  -- `\` and a letter
  by_letter : (letter meant : ℕ) → eqb byte meant ≡ true → IsChars (92 ∷ letter ∷ spelled) (meant ∷ value) → IsChars (92 ∷ letter ∷ spelled) (byte ∷ value)
  by_letter letter meant e k = subst (λ (b : ℕ). IsChars (92 ∷ letter ∷ spelled) (b ∷ value)) (sym (eqb-true byte meant e)) k

  by_unit : byte < 32 → IsChars (unit_text byte ++ spelled) (byte ∷ value)
  by_unit small =
      let is : unit_of (quad_of byte) ≡ byte = unit_is byte small in
      let k : IsChars (spelled_unit (quad_of byte) spelled) (encode_utf8 (unit_of (quad_of byte)) ++ value) =
      unit (quad_of byte) (quad_is byte) (ap is_high_surrogate is ∙ no_high byte small) (ap is_low_surrogate is ∙ no_low byte small) c in
      subst (λ (t : List ℕ). IsChars (unit_text byte ++ spelled) (t ++ value)) (ap encode_utf8 is ∙ encode_ascii byte (omega arith)) k

  by_control : (b8 b12 b10 b13 b9 : Bool) → eqb byte 8 ≡ b8 → eqb byte 12 ≡ b12 → eqb byte 10 ≡ b10 → eqb byte 13 ≡ b13 → eqb byte 9 ≡ b9 → byte < 32
      → IsChars (cond b8 (codes "\\b") (cond b12 (codes "\\f") (cond b10 (codes "\\n") (cond b13 (codes "\\r") (cond b9 (codes "\\t") (unit_text byte))))) ++ spelled) (byte ∷ value)
  by_control true b12 b10 b13 b9 e f g h i small = by_letter 98 8 e (escape refl c)
  by_control false true b10 b13 b9 e f g h i small = by_letter 102 12 f (escape refl c)
  by_control false false true b13 b9 e f g h i small = by_letter 110 10 g (escape refl c)
  by_control false false false true b9 e f g h i small = by_letter 114 13 h (escape refl c)
  by_control false false false false true e f g h i small = by_letter 116 9 i (escape refl c)
  by_control false false false false false e f g h i small = by_unit small

  by_quote : (q s : Bool) → eqb byte 34 ≡ q → eqb byte 92 ≡ s → ltb byte 32 ≡ false → IsChars (cond (q || s) (92 ∷ byte ∷ []) (byte ∷ []) ++ spelled) (byte ∷ value)
  by_quote true s e f low = subst (λ (b : ℕ). IsChars (92 ∷ b ∷ spelled) (b ∷ value)) (sym (eqb-true byte 34 e)) (escape refl c)
  by_quote false true e f low = subst (λ (b : ℕ). IsChars (92 ∷ b ∷ spelled) (b ∷ value)) (sym (eqb-true byte 92 f)) (escape refl c)
  by_quote false false e f low = plain (is_one e f low) c
    where
      is_one : eqb byte 34 ≡ false → eqb byte 92 ≡ false → ltb byte 32 ≡ false → is_plain byte ≡ true
      is_one x y z = grind (arith, nat_tests)

  by_low : (low : Bool) → ltb byte 32 ≡ low → IsChars (cond low (control_text byte) (cond (eqb byte 34 || eqb byte 92) (92 ∷ byte ∷ []) (byte ∷ [])) ++ spelled) (byte ∷ value)
  by_low true e = by_control (eqb byte 8) (eqb byte 12) (eqb byte 10) (eqb byte 13) (eqb byte 9) refl refl refl refl refl (ltb-true byte 32 e)
  by_low false e = by_quote (eqb byte 34) (eqb byte 92) refl refl e

chars_back : (text : List ℕ) → IsChars (flat_map pretty_byte text) text
chars_back [] = no_chars
chars_back (byte ∷ text) = by_low byte (flat_map pretty_byte text) text (chars_back text) (ltb byte 32) refl

-- ---- names

abbrev member_list : Members → List (List ℕ × JsonTree)
member_list no_members = []
member_list (member name v ms) = (name, v) ∷ member_list ms

same_members : (ms : Members) → members_of (member_list ms) ≡ ms
same_members no_members = refl
same_members (member name v ms) = ap (member name v) (same_members ms)

-- none of the names that are there comes again
abbrev Apart : List (List ℕ × JsonTree) → Members → Type 0
Apart [] ms = Unit {0}
Apart (d ∷ done) ms = IsNewName d.0 ms × Apart done ms

put_new : (done : List (List ℕ × JsonTree)) (name : List ℕ) (v : JsonTree) (ms : Members) → Apart done (member name v ms) → put done name v ≡ done ++ (name, v) ∷ []
put_new [] name v ms h = refl
put_new (d ∷ done) name v ms h = rw (byte_equality.symm name d.0 ∙ h.0.0) (ap (λ (t : List (List ℕ × JsonTree)). d ∷ t) (put_new done name v ms h.1))

still_apart : (done : List (List ℕ × JsonTree)) (name : List ℕ) (v : JsonTree) (ms : Members) → Apart done (member name v ms) → IsNewName name ms → Apart (done ++ (name, v) ∷ []) ms
still_apart [] name v ms h k = (k, tt)
still_apart (d ∷ done) name v ms h k = (h.0.1, still_apart done name v ms h.1 k)

put_apart : (done : List (List ℕ × JsonTree)) (ms : Members) → Apart done ms → AreDistinctNames ms → put_all done (member_list ms) ≡ done ++ member_list ms
put_apart done no_members h k = sym (append-nil done)
put_apart done (member name v ms) h k =
    ap (λ (t : List (List ℕ × JsonTree)). put_all t (member_list ms)) (put_new done name v ms h)
    ∙ put_apart (done ++ (name, v) ∷ []) ms (still_apart done name v ms h k.0) k.2
    ∙ append_assoc done ((name, v) ∷ []) (member_list ms)

object_is : (name : List ℕ) (v : JsonTree) (ms : Members) → AreDistinctNames (member name v ms) → object_of (put_all [] ((name, v) ∷ member_list ms)) ≡ Object (member name v ms)
object_is name v ms k = ap object_of (put_apart ((name, v) ∷ []) ms (k.0, tt) k.2) ∙ ap (λ (t : Members). Object (member name v t)) (same_members ms)

abbrev item_list : Items → List JsonTree
item_list no_items = []
item_list (item v vs) = v ∷ item_list vs

same_items : (vs : Items) → items_of (item_list vs) ≡ vs
same_items no_items = refl
same_items (item v vs) = ap (item v) (same_items vs)

-- ---- lines

-- what follows an entry, up to the end of what is open
abbrev more_lines : List ℕ → List ℕ → ℕ → List (List ℕ) → List ℕ
more_lines line outer end [] = outer ++ end ∷ []
more_lines line outer end (entry ∷ entries) = 44 ∷ (line ++ (entry ++ more_lines line outer end entries))

lines_more : (line outer : List ℕ) (end : ℕ) (entry : List ℕ) (entries : List (List ℕ)) → (join_with_byte 44 (map (λ text. line ++ text) (entry ∷ entries)) ++ outer) ++ end ∷ [] ≡ line ++ (entry ++ more_lines line outer end entries)
lines_more line outer end entry [] = append_assoc (line ++ entry) outer (end ∷ []) ∙ append_assoc line entry (outer ++ end ∷ [])
lines_more line outer end entry (next ∷ entries) =
    ap (λ (t : List ℕ). t ++ end ∷ []) (append_assoc (line ++ entry) (44 ∷ joined) outer)
    ∙ append_assoc (line ++ entry) (44 ∷ (joined ++ outer)) (end ∷ [])
    ∙ ap (λ (t : List ℕ). (line ++ entry) ++ 44 ∷ t) (lines_more line outer end next entries)
    ∙ append_assoc line entry (more_lines line outer end (next ∷ entries))
  where
    joined : List ℕ
    joined = join_with_byte 44 (map (λ text. line ++ text) (next ∷ entries))

all_and : (a b : List ℕ) → IsBlanks a → IsBlanks b → IsBlanks (a ++ b)
all_and [] b h k = k
all_and (x ∷ a) b h k = both (is_blank x) (list_all is_blank a) (list_all is_blank (a ++ b)) h (λ e. all_and a b e k)
  where
    both : (x y z : Bool) → x && y ≡ true → (y ≡ true → z ≡ true) → x && z ≡ true
    both true y z p q = q p
    both false y z p q = absurd cc

deeper_blank : (line : List ℕ) → IsBlanks line → IsBlanks (deeper line)
deeper_blank line h = all_and line (codes "    ") h refl

-- ---- values

string_back : (text : List ℕ) (levels : ℕ) → IsValue levels (pretty_string text) (String text)
unfolding pretty_string
string_back text levels = string (flat_map pretty_byte text) (chars_back text)

member_back : (name : List ℕ) (v : JsonTree) (line : List ℕ) (levels : ℕ) → IsValue levels (pretty_at line v) v → IsMember levels (pretty_string name ++ 58 ∷ 32 ∷ pretty_at line v) (name, v)
unfolding pretty_string
member_back name v line levels h =
    subst (λ (t : List ℕ). IsMember levels (34 ∷ t) (name, v)) (sym (append_assoc (flat_map pretty_byte name) (34 ∷ []) (58 ∷ 32 ∷ pretty_at line v)))
    (named (flat_map pretty_byte name) [] (32 ∷ []) (pretty_at line v) (chars_back name) refl refl h)

word_back : (b : Bool) (levels : ℕ) → IsValue levels (word_of b) (Boolean b)
word_back true levels = true_word
word_back false levels = false_word

array_back : (line : List ℕ) (levels : ℕ) (v : JsonTree) (vs : Items) → IsBlanks line → IsValue levels (pretty_at (deeper line) v) v → IsMoreItems levels (more_lines (deeper line) line 93 (pretty_items (deeper line) vs)) (item_list vs)
    → IsValue (suc levels) (pretty_at line (Array (item v vs))) (Array (item v vs))
unfolding pretty_at
array_back line levels v vs h one rest =
    subst (λ (t : List ℕ). IsValue (suc levels) (91 ∷ t) (Array (item v vs))) (sym (lines_more (deeper line) line 93 (pretty_at (deeper line) v) (pretty_items (deeper line) vs)))
    (subst (λ (ws : Items). IsValue (suc levels) (91 ∷ (deeper line ++ (pretty_at (deeper line) v ++ more_lines (deeper line) line 93 (pretty_items (deeper line) vs)))) (Array (item v ws))) (same_items vs)
    (array (deeper line) (pretty_at (deeper line) v) (more_lines (deeper line) line 93 (pretty_items (deeper line) vs)) (deeper_blank line h) one rest))

object_back : (line : List ℕ) (levels : ℕ) (name : List ℕ) (v : JsonTree) (ms : Members) → IsBlanks line → AreDistinctNames (member name v ms) → IsMember levels (pretty_string name ++ 58 ∷ 32 ∷ pretty_at (deeper line) v) (name, v)
    → IsMoreMembers levels (more_lines (deeper line) line 125 (pretty_members (deeper line) ms)) (member_list ms) → IsValue (suc levels) (pretty_at line (Object (member name v ms))) (Object (member name v ms))
unfolding pretty_at
object_back line levels name v ms h distinct one rest =
    let entry = pretty_string name ++ 58 ∷ 32 ∷ pretty_at (deeper line) v in
    let more = more_lines (deeper line) line 125 (pretty_members (deeper line) ms) in
    subst (λ (t : List ℕ). IsValue (suc levels) (123 ∷ t) (Object (member name v ms))) (sym (lines_more (deeper line) line 125 entry (pretty_members (deeper line) ms)))
    (subst (λ (w : JsonTree). IsValue (suc levels) (123 ∷ (deeper line ++ (entry ++ more))) w) (object_is name v ms distinct)
    (object (deeper line) entry more (deeper_blank line h) one rest))

mutual
  unfolding pretty_at

  pub value_back : (v : JsonTree) (line : List ℕ) (levels : ℕ) → IsBlanks line → HasDistinctNames v → HasNumbers v → depth_of v ≤ levels → IsValue levels (pretty_at line v) v
  value_back Null line levels h d n s = null
  value_back (Boolean b) line levels h d n s = word_back b levels
  value_back (Number text) line levels h d n s = number n
  value_back (String text) line levels h d n s = string_back text levels
  value_back (Array no_items) line zero h d n s = absurd (omega arith)
  value_back (Array no_items) line (suc levels) h d n s = empty_array [] refl
  value_back (Array (item v vs)) line zero h d n s = absurd (omega arith)
  value_back (Array (item v vs)) line (suc levels) h d n s =
      array_back line levels v vs h (value_back v (deeper line) levels (deeper_blank line h) d.0 n.0 (omega arith)) (items_back vs (deeper line) line levels (deeper_blank line h) h d.1 n.1 (omega arith))
  value_back (Object no_members) line zero h d n s = absurd (omega arith)
  value_back (Object no_members) line (suc levels) h d n s = empty_object [] refl
  value_back (Object (member name v ms)) line zero h d n s = absurd (omega arith)
  value_back (Object (member name v ms)) line (suc levels) h d n s =
      object_back line levels name v ms h d (member_back name v (deeper line) levels (value_back v (deeper line) levels (deeper_blank line h) d.1 n.0 (omega arith))) (members_back ms (deeper line) line levels (deeper_blank line h) h d.2 n.1 (omega arith))

  items_back : (vs : Items) (line outer : List ℕ) (levels : ℕ) → IsBlanks line → IsBlanks outer → EachHasDistinctNames vs → EachHasNumbers vs → items_depth vs ≤ levels → IsMoreItems levels (more_lines line outer 93 (pretty_items line vs)) (item_list vs)
  items_back no_items line outer levels h k d n s = last_item outer k
  items_back (item v vs) line outer levels h k d n s =
      next_item [] line (pretty_at line v) (more_lines line outer 93 (pretty_items line vs)) refl h (value_back v line levels h d.0 n.0 (omega arith)) (items_back vs line outer levels h k d.1 n.1 (omega arith))

  members_back : (ms : Members) (line outer : List ℕ) (levels : ℕ) → IsBlanks line → IsBlanks outer → AreDistinctNames ms → MembersHaveNumbers ms → members_depth ms ≤ levels → IsMoreMembers levels (more_lines line outer 125 (pretty_members line ms)) (member_list ms)
  members_back no_members line outer levels h k d n s = last_member outer k
  members_back (member name v ms) line outer levels h k d n s =
      next_member [] line (pretty_string name ++ 58 ∷ 32 ∷ pretty_at line v) (more_lines line outer 125 (pretty_members line ms)) refl h (member_back name v line levels (value_back v line levels h d.1 n.0 (omega arith))) (members_back ms line outer levels h k d.2 n.1 (omega arith))
