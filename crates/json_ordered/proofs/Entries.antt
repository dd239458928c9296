-- Entries that the printers add one after the other.
use Rattle.std.proofs.Common.{◌≡◌, ℕ, zero, suc, ◌<◌, List, [], ◌∷◌, ◌++◌, length, map, drop, get_or, refl, sym, ap, ◌∙◌, append_assoc, drop-cons}
use Rattle.std.specs.List.{join_with_byte}
use Rattle.std.proofs.lemmas.List.{append-nil}
use Rattle.json_ordered.specs.declared.doc.Doc.{Doc}
use Rattle.json_ordered.specs.Docs.{tree_of, pair_of}
use Rattle.json_ordered.specs.JsonTexts.{compact_string, compact_text, compact_items, compact_values, compact_members, pretty_string, pretty_at, pretty_items, pretty_members}
use Rattle.json_ordered.specs.JsonPrinting.{comma, from_entry, compact_from_item, compact_from_value, compact_from_member, pretty_from_item, pretty_from_member}

-- ---- all entries, joined

later : (place : ℕ) (entry : List ℕ) (entries : List (List ℕ)) → from_entry (suc place) (entry ∷ entries) ≡ 44 ∷ join_with_byte 44 (entry ∷ entries)
later place entry [] = ap (λ (t : List ℕ). 44 ∷ t) (append-nil entry)
later place entry (next ∷ entries) = ap (λ (t : List ℕ). 44 ∷ (entry ++ t)) (later (suc place) next entries)

pub joined : (entries : List (List ℕ)) → from_entry 0 entries ≡ join_with_byte 44 entries
joined [] = refl
joined (entry ∷ []) = append-nil entry
joined (entry ∷ next ∷ entries) = ap (λ (t : List ℕ). entry ++ t) (later zero next entries)

-- ---- the next entry

pub next_item : (place : ℕ) (items : List Doc) (x : Doc) → place < length items → x ≡ get_or items place x
    → compact_from_item place (map tree_of (drop place items)) ≡ comma place ++ (compact_text (tree_of x) ++ compact_from_item (suc place) (map tree_of (drop (suc place) items)))
unfolding compact_items
next_item place items x within is =
    ap (λ (xs : List Doc). compact_from_item place (map tree_of xs)) (drop-cons items place x within)
    ∙ ap (λ (y : Doc). comma place ++ (compact_text (tree_of y) ++ compact_from_item (suc place) (map tree_of (drop (suc place) items)))) (sym is)

pub next_value : (place : ℕ) (members : List (List ℕ × Doc)) (x : List ℕ × Doc) → place < length members → x ≡ get_or members place x
    → compact_from_value place (map pair_of (drop place members)) ≡ comma place ++ (compact_text (tree_of x.1) ++ compact_from_value (suc place) (map pair_of (drop (suc place) members)))
unfolding compact_values
next_value place members x within is =
    ap (λ (xs : List (List ℕ × Doc)). compact_from_value place (map pair_of xs)) (drop-cons members place x within)
    ∙ ap (λ (y : List ℕ × Doc). comma place ++ (compact_text (tree_of y.1) ++ compact_from_value (suc place) (map pair_of (drop (suc place) members)))) (sym is)

pub next_member : (place : ℕ) (members : List (List ℕ × Doc)) (x : List ℕ × Doc) → place < length members → x ≡ get_or members place x
    → compact_from_member place (map pair_of (drop place members)) ≡ comma place ++ ((compact_string x.0 ++ 58 ∷ compact_text (tree_of x.1)) ++ compact_from_member (suc place) (map pair_of (drop (suc place) members)))
unfolding compact_members
next_member place members x within is =
    ap (λ (xs : List (List ℕ × Doc)). compact_from_member place (map pair_of xs)) (drop-cons members place x within)
    ∙ ap (λ (y : List ℕ × Doc). comma place ++ ((compact_string y.0 ++ 58 ∷ compact_text (tree_of y.1)) ++ compact_from_member (suc place) (map pair_of (drop (suc place) members)))) (sym is)

pub next_item_line : (line : List ℕ) (place : ℕ) (items : List Doc) (x : Doc) → place < length items → x ≡ get_or items place x
    → pretty_from_item line place (map tree_of (drop place items)) ≡ comma place ++ ((line ++ pretty_at line (tree_of x)) ++ pretty_from_item line (suc place) (map tree_of (drop (suc place) items)))
unfolding pretty_items
next_item_line line place items x within is =
    ap (λ (xs : List Doc). pretty_from_item line place (map tree_of xs)) (drop-cons items place x within)
    ∙ ap (λ (y : Doc). comma place ++ ((line ++ pretty_at line (tree_of y)) ++ pretty_from_item line (suc place) (map tree_of (drop (suc place) items)))) (sym is)

pub next_member_line : (line : List ℕ) (place : ℕ) (members : List (List ℕ × Doc)) (x : List ℕ × Doc) → place < length members → x ≡ get_or members place x
    → pretty_from_member line place (map pair_of (drop place members)) ≡ comma place ++ ((line ++ (pretty_string x.0 ++ 58 ∷ 32 ∷ pretty_at line (tree_of x.1))) ++ pretty_from_member line (suc place) (map pair_of (drop (suc place) members)))
unfolding pretty_members
next_member_line line place members x within is =
    ap (λ (xs : List (List ℕ × Doc)). pretty_from_member line place (map pair_of xs)) (drop-cons members place x within)
    ∙ ap (λ (y : List ℕ × Doc). comma place ++ ((line ++ (pretty_string y.0 ++ 58 ∷ 32 ∷ pretty_at line (tree_of y.1))) ++ pretty_from_member line (suc place) (map pair_of (drop (suc place) members)))) (sym is)

-- ---- what is added, against what was still to come

pub added : (before after separator entry rest left all : List ℕ) → before ++ left ≡ all → left ≡ separator ++ (entry ++ rest) → after ≡ (before ++ separator) ++ entry → after ++ rest ≡ all
added before after separator entry rest left all so_far parts is =
    ap (λ (t : List ℕ). t ++ rest) is ∙ append_assoc (before ++ separator) entry rest ∙ append_assoc before separator (entry ++ rest)
    ∙ ap (λ (t : List ℕ). before ++ t) (sym parts) ∙ so_far

-- the same for a member, whose name and value are added in turn
pub added_member : (before after separator name value rest left all : List ℕ) (one two three : List ℕ) → before ++ left ≡ all → left ≡ separator ++ ((name ++ 58 ∷ value) ++ rest)
    → one ≡ before ++ separator → two ≡ one ++ name → three ≡ two ++ 58 ∷ [] → after ≡ three ++ value → after ++ rest ≡ all
added_member before after separator name value rest left all one two three so_far parts e f g h =
    added before after separator (name ++ 58 ∷ value) rest left all so_far parts
    (h ∙ ap (λ (t : List ℕ). t ++ value) (g ∙ ap (λ (t : List ℕ). t ++ 58 ∷ []) (f ∙ ap (λ (t : List ℕ). t ++ name) e)) ∙ append_assoc ((before ++ separator) ++ name) (58 ∷ []) value ∙ append_assoc (before ++ separator) name (58 ∷ value))

-- an item on a line of its own
pub added_line : (before after separator line value rest left all : List ℕ) (one two : List ℕ) → before ++ left ≡ all → left ≡ separator ++ ((line ++ value) ++ rest)
    → one ≡ before ++ separator → two ≡ one ++ line → after ≡ two ++ value → after ++ rest ≡ all
added_line before after separator line value rest left all one two so_far parts e f g =
    added before after separator (line ++ value) rest left all so_far parts
    (g ∙ ap (λ (t : List ℕ). t ++ value) (f ∙ ap (λ (t : List ℕ). t ++ line) e) ∙ append_assoc (before ++ separator) line value)

-- a member on a line of its own
pub added_named_line : (before after separator line name value rest left all : List ℕ) (one two three four : List ℕ) → before ++ left ≡ all → left ≡ separator ++ ((line ++ (name ++ 58 ∷ 32 ∷ value)) ++ rest)
    → one ≡ before ++ separator → two ≡ one ++ line → three ≡ two ++ name → four ≡ three ++ 58 ∷ 32 ∷ [] → after ≡ four ++ value → after ++ rest ≡ all
added_named_line before after separator line name value rest left all one two three four so_far parts e f g h i =
    added_line before after separator line (name ++ 58 ∷ 32 ∷ value) rest left all one two so_far parts e f
    (i ∙ ap (λ (t : List ℕ). t ++ value) (h ∙ ap (λ (t : List ℕ). t ++ 58 ∷ 32 ∷ []) g) ∙ append_assoc (two ++ name) (58 ∷ 32 ∷ []) value ∙ append_assoc two name (58 ∷ 32 ∷ value))
