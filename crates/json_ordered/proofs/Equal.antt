-- Equality of lists of documents.
use Rattle.std.proofs.Common.{◌≡◌, ℕ, suc, Bool, true, false, ◌&&◌, List, [], ◌∷◌, length, map, refl, ap, ◌∙◌}
use Rattle.std.specs.Global.{Vec}
use Rattle.path_name.specs.Orders.{bytes_are_equal}
use Rattle.json_ordered.specs.declared.doc.Doc.{Doc}
use Rattle.json_ordered.specs.declared.doc.Doc.TheVariants as docs
use Rattle.json_ordered.specs.JsonTree.{JsonTree, object_of, items_of, members_of}
use Rattle.json_ordered.specs.Docs.{tree_of, pair_of}
use Rattle.json_ordered.specs.JsonEquality.{trees_are_equal, items_are_equal, members_are_equal}
use Rattle.json_ordered.proofs.Docs.{tree_obj}

abbrev pub same_items : List Doc → List Doc → Bool
same_items a b = items_are_equal (items_of (map tree_of a)) (items_of (map tree_of b))

abbrev pub same_members : List (List ℕ × Doc) → List (List ℕ × Doc) → Bool
same_members a b = members_are_equal (members_of (map pair_of a)) (members_of (map pair_of b))

and_false : (b c : Bool) → c ≡ false → b && c ≡ false
and_false true c e = e
and_false false c e = refl

pub items_differ : (a b : List Doc) → (length a ≡ length b → ⊥) → same_items a b ≡ false
items_differ [] [] h = absurd (h refl)
items_differ [] (y ∷ ys) h = refl
items_differ (x ∷ xs) [] h = refl
items_differ (x ∷ xs) (y ∷ ys) h = and_false (trees_are_equal (tree_of x) (tree_of y)) (same_items xs ys) (items_differ xs ys (λ e. h (ap suc e)))

pub members_differ : (a b : List (List ℕ × Doc)) → (length a ≡ length b → ⊥) → same_members a b ≡ false
members_differ [] [] h = absurd (h refl)
members_differ [] (y ∷ ys) h = refl
members_differ (x ∷ xs) [] h = refl
members_differ (x ∷ xs) (y ∷ ys) h = and_false (bytes_are_equal x.0 y.0) (trees_are_equal (tree_of x.1) (tree_of y.1) && same_members xs ys) (and_false (trees_are_equal (tree_of x.1) (tree_of y.1)) (same_members xs ys) (members_differ xs ys (λ e. h (ap suc e))))

pub objects_equal : (a b : Vec (List ℕ × Doc)) (x y : Doc) → x ≡ docs.Obj a → y ≡ docs.Obj b → trees_are_equal (tree_of x) (tree_of y) ≡ same_members a.items b.items
objects_equal a b x y e f =
    ap (λ (t : JsonTree). trees_are_equal t (tree_of y)) (ap tree_of e ∙ tree_obj a)
    ∙ ap (trees_are_equal (object_of (map pair_of a.items))) (ap tree_of f ∙ tree_obj b)
