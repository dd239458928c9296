-- Lists of references, and the lists that they show.
use Rattle.std.proofs.Common.{◌≡◌, ℕ, ◌+◌, ◌<◌, List, [], ◌∷◌, ◌++◌, length, map, get_or, sym, ap, subst, ◌∙◌, Bool, arith}
use Rattle.std.proofs.lemmas.Simd.{map-map}
use Rattle.std.proofs.lemmas.List.{length-map, get_or-map}
use Rattle.std.specs.Borrow.{Bor}
use Rattle.std.specs.List.Sorted.{IsSortedBy}
use Rattle.lock_file.specs.declared.types.Locked.{Locked}
use Rattle.lock_file.specs.Locks.{locked_name}
use Rattle.json_ordered.specs.JsonTree.{JsonTree, String, array_of}
use Rattle.json_ordered.specs.JsonTexts.{pretty_text}
use Rattle.lock_file.specs.declared.types.Lock.{Lock}
use Rattle.lock_file.specs.InstalledText.{IsByName, IsInstalledText, installed_dev, installed_tree, installed_json, entries_tree}

-- what is in order stays so behind a view
pub sorted_map : {X Y : Type 0} (f : X → Y) (lt : Y → Y → Bool) (xs : List X) → IsSortedBy (λ x y. lt (f x) (f y)) xs → IsSortedBy lt (map f xs)
sorted_map f lt [] up k d low below = absurd (omega (arith, below))
sorted_map f lt (x ∷ xs) up k d low below =
    let within : k + 1 < length (x ∷ xs) = subst (λ n. k + 1 < n) (length-map (x ∷ xs) f) below in
    let here : k < length (x ∷ xs) = omega (arith, within) in
    ap (λ y. lt y (get_or (map f (x ∷ xs)) k d)) (get_or-map f (x ∷ xs) (k + 1) x d within) ∙ ap (lt (f (get_or (x ∷ xs) (k + 1) x))) (get_or-map f (x ∷ xs) k x d here) ∙ up k x low within

abbrev pub shown : Bor Locked → Locked
shown entry = entry.now

pub fused : {Y : Type 0} (f : Locked → Y) (entries : List (Bor Locked)) → map f (map shown entries) ≡ map (λ entry. f entry.now) entries
fused f entries = map-map f shown entries

-- the text of what is installed, from the lists that were put in order
pub is_installed_text : (lock : Lock) (dev : Bool) (some some_dev : List Locked) (sorted sorted_dev : List (Bor Locked)) (packages names doc : JsonTree) (written : List ℕ)
    → some ≡ lock.packages ++ installed_dev dev lock → some_dev ≡ installed_dev dev lock → IsByName some (map shown sorted) → IsByName some_dev (map shown sorted_dev)
    → packages ≡ array_of (map (λ entry. installed_tree entry.now) sorted) → names ≡ array_of (map (λ entry. String (locked_name entry.now)) sorted_dev) → doc ≡ installed_json dev packages names
    → written ≡ pretty_text doc ++ 10 ∷ [] → IsInstalledText lock dev written
is_installed_text lock dev some some_dev sorted sorted_dev packages names doc written all all_dev by by_dev p n j w = record {
  entries = map shown sorted;
  dev_entries = map shown sorted_dev;
  by_name = subst (λ list. IsByName list (map shown sorted)) all by;
  dev_by_name = subst (λ list. IsByName list (map shown sorted_dev)) all_dev by_dev;
  text = w ∙ ap (λ tree. pretty_text tree ++ 10 ∷ []) (j ∙ ap (λ tree. installed_json dev tree names) (p ∙ ap array_of (sym (fused installed_tree sorted)))
      ∙ ap (installed_json dev (entries_tree (map shown sorted))) (n ∙ ap array_of (sym (fused (λ (entry : Locked). String (locked_name entry)) sorted_dev))));
}
