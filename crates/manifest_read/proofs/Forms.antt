-- The form of a value, from what a document answers.
use Rattle.std.proofs.Common.{◌≡◌, ℕ, false, List, [], ◌∷◌, map, length, Option, Some, None, refl, ap, ◌∙◌}
use Rattle.std.specs.Prelude.{MatchOption, ◌==◌}
use Rattle.std.specs.Borrow.{Bor}
use Rattle.json_ordered.specs.JsonTree.{JsonTree, Null, Boolean, Number, String, Array, Object, items_of, members_of, array_of, object_of}
use Rattle.json_ordered.specs.JsonParts.{IsNoArray, IsNoObject}
use Rattle.json_ordered.specs.Docs.{tree_of, pair_of}
use Rattle.json_ordered.specs.declared.doc.Doc.{Doc}
use Rattle.manifest_read.specs.Keys.{Pairs}
use Rattle.manifest_read.specs.Values.{list_of_items, pairs_of_members, items_in, pairs_in}

pub list-items_of : (vs : List JsonTree) → list_of_items (items_of vs) ≡ vs
list-items_of [] = refl
list-items_of (v ∷ vs) = ap (λ (rest : List JsonTree). v ∷ rest) (list-items_of vs)

pub pairs-members_of : (ms : Pairs) → pairs_of_members (members_of ms) ≡ ms
pairs-members_of [] = refl
pairs-members_of (m ∷ ms) = ap (λ (rest : Pairs). m ∷ rest) (pairs-members_of ms)

no_array : (tree : JsonTree) → IsNoArray tree → items_in tree ≡ None
no_array Null h = refl
no_array (Boolean b) h = refl
no_array (Number text) h = refl
no_array (String text) h = refl
no_array (Array vs) h = absurd h
no_array (Object ms) h = refl

pub items_found : (tree : JsonTree) (found : Option (Bor (List Doc))) → MatchOption found (IsNoArray tree) (λ items. tree ≡ array_of (map tree_of items.now))
    → MatchOption found (items_in tree ≡ None) (λ items. items_in tree ≡ Some (map tree_of items.now))
items_found tree None none = no_array tree none
items_found tree (Some items) is = ap items_in is ∙ ap Some (list-items_of (map tree_of items.now))

pub pairs_found : (tree : JsonTree) (members : List (List ℕ × Doc)) → tree ≡ object_of (map pair_of members) → pairs_in tree ≡ Some (map pair_of members)
pairs_found tree members is = ap pairs_in is ∙ ap Some (pairs-members_of (map pair_of members))

pub no_pairs : (tree : JsonTree) → IsNoArray tree → IsNoObject tree → pairs_in tree ≡ None
no_pairs Null a o = refl
no_pairs (Boolean b) a o = refl
no_pairs (Number text) a o = refl
no_pairs (String text) a o = refl
no_pairs (Array vs) a o = absurd a
no_pairs (Object ms) a o = absurd o

pub no_empty_pairs : (tree : JsonTree) (items : List Doc) → tree ≡ array_of (map tree_of items) → (length items == 0) ≡ false → pairs_in tree ≡ None
no_empty_pairs tree [] is some = absurd cc
no_empty_pairs tree (first ∷ rest) is some = ap pairs_in is
