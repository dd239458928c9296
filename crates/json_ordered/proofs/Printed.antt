-- What the printers have added is the value's text.
use Rattle.std.proofs.Common.{◌≡◌, ℕ, zero, suc, ◌-◌, ◌<◌, ◌≤◌, Bool, true, false, List, [], ◌∷◌, ◌++◌, length, map, take, drop, get_or, refl, sym, ap, subst, ◌∙◌, append_assoc, arith, length-drop, length-append, codes, nat_eq}
use Rattle.std.proofs.lemmas.Bool.Decides.{nat_tests}
use Rattle.std.specs.Str.{IsUtf8}
use Rattle.std.proofs.lemmas.List.{append-nil, nil_from_length, take_at}
use Rattle.json_ordered.specs.declared.doc.Doc.{Doc}
use Rattle.json_ordered.specs.JsonTree.{JsonTree, array_of, object_of, items_of, members_of, HasUtf8Texts, EachHasUtf8Texts, MembersHaveUtf8Texts}
use Rattle.json_ordered.specs.Docs.{tree_of, pair_of}
use Rattle.json_ordered.specs.JsonTexts.{compact_text, compact_items, compact_values, compact_members, are_places, pretty_at, pretty_items, pretty_members, deeper}
use Rattle.json_ordered.specs.JsonPrinting.{values_text, members_text, compact_from_item, compact_from_value, compact_from_member, entry_lines, pretty_from_item, pretty_from_member}
use Rattle.json_ordered.proofs.Entries.{joined}

-- ---- texts of what is inside are UTF-8

pub item_texts : (items : List Doc) (i : ℕ) (x : Doc) → EachHasUtf8Texts (items_of (map tree_of items)) → i < length items → x ≡ get_or items i x → HasUtf8Texts (tree_of x)
item_texts [] i x h within is = absurd (omega arith)
item_texts (y ∷ items) zero x h within is = subst (λ (d : Doc). HasUtf8Texts (tree_of d)) (sym is) h.0
item_texts (y ∷ items) (suc i) x h within is = item_texts items i x h.1 (omega arith) is

pub member_texts : (members : List (List ℕ × Doc)) (i : ℕ) (x : List ℕ × Doc) → MembersHaveUtf8Texts (members_of (map pair_of members)) → i < length members → x ≡ get_or members i x → IsUtf8 x.0 × HasUtf8Texts (tree_of x.1)
member_texts [] i x h within is = absurd (omega arith)
member_texts (y ∷ members) zero x h within is = subst (λ (d : List ℕ × Doc). IsUtf8 d.0 × HasUtf8Texts (tree_of d.1)) (sym is) (h.0, h.1)
member_texts (y ∷ members) (suc i) x h within is = member_texts members i x h.2 (omega arith) is

-- ---- behind the last entry

none_left : {X : Type 0} (xs : List X) (place : ℕ) → length xs ≤ place → drop place xs ≡ []
none_left xs place past = nil_from_length (drop place xs) (omega (arith, length-drop place xs))

closed : (begin end : ℕ) (out now left all : List ℕ) → left ≡ [] → now ++ left ≡ (out ++ begin ∷ []) ++ all → now ++ end ∷ [] ≡ out ++ begin ∷ (all ++ end ∷ [])
closed begin end out now left all none e =
    ap (λ (t : List ℕ). t ++ end ∷ []) (sym (append-nil now) ∙ ap (λ (t : List ℕ). now ++ t) (sym none) ∙ e)
    ∙ append_assoc (out ++ begin ∷ []) all (end ∷ []) ∙ append_assoc out (begin ∷ []) (all ++ end ∷ [])

pub items_closed : (out now : List ℕ) (place : ℕ) (items : List Doc) → length items ≤ place
    → now ++ compact_from_item place (map tree_of (drop place items)) ≡ (out ++ 91 ∷ []) ++ compact_from_item 0 (map tree_of items)
    → now ++ 93 ∷ [] ≡ out ++ compact_text (array_of (map tree_of items))
unfolding compact_text
items_closed out now place items past e =
    closed 91 93 out now (compact_from_item place (map tree_of (drop place items))) (compact_from_item 0 (map tree_of items)) (ap (λ (xs : List Doc). compact_from_item place (map tree_of xs)) (none_left items place past)) e
    ∙ ap (λ (t : List ℕ). out ++ 91 ∷ (t ++ 93 ∷ [])) (joined (compact_items (items_of (map tree_of items))))

pub values_closed : (out now : List ℕ) (place : ℕ) (members : List (List ℕ × Doc)) → length members ≤ place
    → now ++ compact_from_value place (map pair_of (drop place members)) ≡ (out ++ 91 ∷ []) ++ compact_from_value 0 (map pair_of members)
    → now ++ 93 ∷ [] ≡ out ++ values_text (map pair_of members)
unfolding compact_values
values_closed out now place members past e =
    closed 91 93 out now (compact_from_value place (map pair_of (drop place members))) (compact_from_value 0 (map pair_of members)) (ap (λ (xs : List (List ℕ × Doc)). compact_from_value place (map pair_of xs)) (none_left members place past)) e
    ∙ ap (λ (t : List ℕ). out ++ 91 ∷ (t ++ 93 ∷ [])) (joined (compact_values (members_of (map pair_of members))))

pub members_closed : (out now : List ℕ) (place : ℕ) (members : List (List ℕ × Doc)) → length members ≤ place
    → now ++ compact_from_member place (map pair_of (drop place members)) ≡ (out ++ 123 ∷ []) ++ compact_from_member 0 (map pair_of members)
    → now ++ 125 ∷ [] ≡ out ++ members_text (map pair_of members)
unfolding compact_members
members_closed out now place members past e =
    closed 123 125 out now (compact_from_member place (map pair_of (drop place members))) (compact_from_member 0 (map pair_of members)) (ap (λ (xs : List (List ℕ × Doc)). compact_from_member place (map pair_of xs)) (none_left members place past)) e
    ∙ ap (λ (t : List ℕ). out ++ 123 ∷ (t ++ 125 ∷ [])) (joined (compact_members (members_of (map pair_of members))))

-- ---- objects of the compact form

pub as_values : (ms : List (List ℕ × JsonTree)) → are_places 0 (members_of ms) ≡ true → compact_text (object_of ms) ≡ values_text ms
unfolding compact_text
as_values ms e = rw e refl

pub as_members : (ms : List (List ℕ × JsonTree)) → are_places 0 (members_of ms) ≡ false → compact_text (object_of ms) ≡ members_text ms
unfolding compact_text
as_members ms e = rw e refl

-- ---- behind the last line

-- the line's beginning without the four blanks
pub back_out : (line : List ℕ) → take (length (deeper line) - 4) (deeper line) ≡ line
back_out line = take_at line (codes "    ") (length (deeper line) - 4) (omega (arith, length-append line (codes "    ")))

last_line : (begin end : ℕ) (out now left all line : List ℕ) → left ≡ [] → now ++ left ≡ (out ++ begin ∷ []) ++ all → (now ++ line) ++ end ∷ [] ≡ out ++ begin ∷ ((all ++ line) ++ end ∷ [])
last_line begin end out now left all line none e =
    ap (λ (t : List ℕ). (t ++ line) ++ end ∷ []) (sym (append-nil now) ∙ ap (λ (t : List ℕ). now ++ t) (sym none) ∙ e)
    ∙ ap (λ (t : List ℕ). t ++ end ∷ []) (append_assoc (out ++ begin ∷ []) all line)
    ∙ append_assoc (out ++ begin ∷ []) (all ++ line) (end ∷ []) ∙ append_assoc out (begin ∷ []) ((all ++ line) ++ end ∷ [])

pub array_closed : (out now line : List ℕ) (place : ℕ) (items : List Doc) → 0 < length items → length items ≤ place
    → now ++ pretty_from_item (deeper line) place (map tree_of (drop place items)) ≡ (out ++ 91 ∷ []) ++ pretty_from_item (deeper line) 0 (map tree_of items)
    → (now ++ line) ++ 93 ∷ [] ≡ out ++ pretty_at line (array_of (map tree_of items))
unfolding pretty_at
array_closed out now line place [] some past e = absurd (omega arith)
array_closed out now line place (x ∷ items) some past e =
    last_line 91 93 out now (pretty_from_item (deeper line) place (map tree_of (drop place (x ∷ items)))) (pretty_from_item (deeper line) 0 (map tree_of (x ∷ items))) line (ap (λ (xs : List Doc). pretty_from_item (deeper line) place (map tree_of xs)) (none_left (x ∷ items) place past)) e
    ∙ ap (λ (t : List ℕ). out ++ 91 ∷ ((t ++ line) ++ 93 ∷ [])) (joined (entry_lines (deeper line) (pretty_items (deeper line) (items_of (map tree_of (x ∷ items))))))

pub object_closed : (out now line : List ℕ) (place : ℕ) (members : List (List ℕ × Doc)) → 0 < length members → length members ≤ place
    → now ++ pretty_from_member (deeper line) place (map pair_of (drop place members)) ≡ (out ++ 123 ∷ []) ++ pretty_from_member (deeper line) 0 (map pair_of members)
    → (now ++ line) ++ 125 ∷ [] ≡ out ++ pretty_at line (object_of (map pair_of members))
unfolding pretty_at
object_closed out now line place [] some past e = absurd (omega arith)
object_closed out now line place (x ∷ members) some past e =
    last_line 123 125 out now (pretty_from_member (deeper line) place (map pair_of (drop place (x ∷ members)))) (pretty_from_member (deeper line) 0 (map pair_of (x ∷ members))) line (ap (λ (xs : List (List ℕ × Doc)). pretty_from_member (deeper line) place (map pair_of xs)) (none_left (x ∷ members) place past)) e
    ∙ ap (λ (t : List ℕ). out ++ 123 ∷ ((t ++ line) ++ 125 ∷ [])) (joined (entry_lines (deeper line) (pretty_members (deeper line) (members_of (map pair_of (x ∷ members))))))

-- nothing inside
pub empty_array : (line : List ℕ) (items : List Doc) → length items ≡ 0 → pretty_at line (array_of (map tree_of items)) ≡ codes "[]"
unfolding pretty_at
empty_array line [] e = refl
empty_array line (x ∷ items) e = absurd (omega arith)

pub empty_object : (line : List ℕ) (members : List (List ℕ × Doc)) → length members ≡ 0 → pretty_at line (object_of (map pair_of members)) ≡ codes "{}"
unfolding pretty_at
empty_object line [] e = refl
empty_object line (x ∷ members) e = absurd (omega arith)

pub none_there : (n : ℕ) (b : Bool) → b ≡ nat_eq n 0 → b ≡ true → n ≡ 0
none_there n b e f = grind (arith, nat_tests)

pub some_there : (n : ℕ) (b : Bool) → b ≡ nat_eq n 0 → b ≡ false → 0 < n
some_there n b e f = grind (arith, nat_tests)
