-- Whether two values are the same.
use Rattle.std.specs.Prelude.{◌≡◌, ℕ, Bool, true, false, ◌&&◌, List, refl}
use Rattle.std.proofs.Common.{sym, ap, subst, ◌∙◌}
use Rattle.std.specs.Cmp.{IsEquivalence}
use Rattle.std.specs.Cmp.Lexicographic.{bytes_decides}
use Rattle.path_name.specs.Orders.{bytes_are_equal}
use Rattle.json_ordered.specs.declared.doc.Doc.{Doc}
use Rattle.json_ordered.specs.JsonTree.{JsonTree, Null, Boolean, Number, String, Array, Object, Items, no_items, item, Members, no_members, member}
use Rattle.json_ordered.specs.Docs.{tree_of}

abbrev pub is_same_bool : Bool → Bool → Bool
is_same_bool true true = true
is_same_bool false false = true
is_same_bool _ _ = false

abbrev mutual
  pub trees_are_equal : JsonTree → JsonTree → Bool
  trees_are_equal Null Null = true
  trees_are_equal (Boolean a) (Boolean b) = is_same_bool a b
  trees_are_equal (Number a) (Number b) = bytes_are_equal a b
  trees_are_equal (String a) (String b) = bytes_are_equal a b
  trees_are_equal (Array a) (Array b) = items_are_equal a b
  trees_are_equal (Object a) (Object b) = members_are_equal a b
  trees_are_equal _ _ = false

  pub items_are_equal : Items → Items → Bool
  items_are_equal no_items no_items = true
  items_are_equal (item v vs) (item w ws) = trees_are_equal v w && items_are_equal vs ws
  items_are_equal _ _ = false

  pub members_are_equal : Members → Members → Bool
  members_are_equal no_members no_members = true
  members_are_equal (member name v ms) (member other w ns) = bytes_are_equal name other && (trees_are_equal v w && members_are_equal ms ns)
  members_are_equal _ _ = false

-- documents are equal where their trees are
abbrev pub documents_are_equal : Doc → Doc → Bool
documents_are_equal a b = trees_are_equal (tree_of a) (tree_of b)

-- ---- values are equal exactly where they are the same

and_parts : (b c : Bool) → b && c ≡ true → (b ≡ true) × (c ≡ true)
and_parts true c h = (refl, h)
and_parts false c h = absurd cc

both_true : (b c : Bool) → b ≡ true → c ≡ true → b && c ≡ true
both_true true c e f = f
both_true false c e f = absurd cc

same_bool : (a b : Bool) → is_same_bool a b ≡ true → a ≡ b
same_bool true true e = refl
same_bool true false e = absurd cc
same_bool false true e = absurd cc
same_bool false false e = refl

itself_bool : (a : Bool) → is_same_bool a a ≡ true
itself_bool true = refl
itself_bool false = refl

mutual
  itself : (v : JsonTree) → trees_are_equal v v ≡ true
  itself Null = refl
  itself (Boolean b) = itself_bool b
  itself (Number text) = (bytes_decides text text).1 refl
  itself (String text) = (bytes_decides text text).1 refl
  itself (Array items) = itself_items items
  itself (Object members) = itself_members members

  itself_items : (vs : Items) → items_are_equal vs vs ≡ true
  itself_items no_items = refl
  itself_items (item v vs) = both_true (trees_are_equal v v) (items_are_equal vs vs) (itself v) (itself_items vs)

  itself_members : (ms : Members) → members_are_equal ms ms ≡ true
  itself_members no_members = refl
  itself_members (member name v ms) = both_true (bytes_are_equal name name) (trees_are_equal v v && members_are_equal ms ms) ((bytes_decides name name).1 refl) (both_true (trees_are_equal v v) (members_are_equal ms ms) (itself v) (itself_members ms))

mutual
  same_tree : (v w : JsonTree) → trees_are_equal v w ≡ true → v ≡ w
  same_tree Null Null e = refl
  same_tree (Boolean a) (Boolean b) e = ap Boolean (same_bool a b e)
  same_tree (Number a) (Number b) e = ap Number ((bytes_decides a b).0 e)
  same_tree (String a) (String b) e = ap String ((bytes_decides a b).0 e)
  same_tree (Array a) (Array b) e = ap Array (same_items a b e)
  same_tree (Object a) (Object b) e = ap Object (same_members a b e)
  same_tree _ _ e = absurd cc

  same_items : (vs ws : Items) → items_are_equal vs ws ≡ true → vs ≡ ws
  same_items no_items no_items e = refl
  same_items (item v vs) (item w ws) e =
      let parts = and_parts (trees_are_equal v w) (items_are_equal vs ws) e in
      ap (λ (x : JsonTree). item x vs) (same_tree v w parts.0) ∙ ap (item w) (same_items vs ws parts.1)
  same_items _ _ e = absurd cc

  same_members : (ms ns : Members) → members_are_equal ms ns ≡ true → ms ≡ ns
  same_members no_members no_members e = refl
  same_members (member name v ms) (member other w ns) e =
      let first = and_parts (bytes_are_equal name other) (trees_are_equal v w && members_are_equal ms ns) e in
      let rest = and_parts (trees_are_equal v w) (members_are_equal ms ns) first.1 in
      ap (λ (x : List ℕ). member x v ms) ((bytes_decides name other).0 first.0) ∙ ap (λ (x : JsonTree). member other x ms) (same_tree v w rest.0) ∙ ap (member other w) (same_members ms ns rest.1)
  same_members _ _ e = absurd cc

one_way : (x y : Bool) → (x ≡ true → y ≡ true) → (y ≡ true → x ≡ true) → x ≡ y
one_way true y f g = sym (f refl)
one_way false true f g = g refl
one_way false false f g = refl

symmetric : (v w : JsonTree) → trees_are_equal v w ≡ trees_are_equal w v
symmetric v w = one_way (trees_are_equal v w) (trees_are_equal w v)
    (λ e. subst (λ (x : JsonTree). trees_are_equal x v ≡ true) (same_tree v w e) (itself v))
    (λ e. subst (λ (x : JsonTree). trees_are_equal x w ≡ true) (same_tree w v e) (itself w))

pub document_equality : IsEquivalence documents_are_equal
document_equality = record {
  refl = λ a. itself (tree_of a);
  symm = λ a b. symmetric (tree_of a) (tree_of b);
  congr = λ a b c e. ap (λ (x : JsonTree). trees_are_equal x (tree_of c)) (same_tree (tree_of a) (tree_of b) e);
}

-- two equal documents have one tree
pub equal_documents : (a b : Doc) → documents_are_equal a b ≡ true → tree_of a ≡ tree_of b
equal_documents a b e = same_tree (tree_of a) (tree_of b) e
