-- The next name of a folder.
use Rattle.std.proofs.Common.{◌≡◌, ℕ, zero, suc, ◌==◌, ◌≤◌, Bool, true, false, ◌&&◌, not, List, [], ◌∷◌, ◌++◌, length, Option, Some, None, is_some, refl, sym, ap, ◌∙◌, subst, arith, append_assoc, append-nil, length-append}
use Rattle.std.specs.List.{list_all, last_or}
use Rattle.std.proofs.lemmas.List.Folds.{list_all-append}
use Rattle.std.proofs.lemmas.Str.{IsUtf8-append, IsUtf8-from_ascii, IsUtf8-from_is_utf8, is_utf8-from_IsUtf8}
use Rattle.std.proofs.lemmas.Str.Ascii.{IsAscii-cons, IsAscii-nil}
use Rattle.std.specs.Str.{is_utf8}
use Rattle.std.specs.Ordering.{is_gt, is_lt}
use Rattle.std.specs.FinMap.{contains_key, get}
use Rattle.std.specs.declared.cmp.Ordering.{Ordering}
use Rattle.std.specs.declared.cmp.Ordering.TheVariants.{Less, Equal, Greater}
use Rattle.path_name.specs.Orders.{byte_cmp, path_cmp, bytes_are_equal}
use Rattle.path_name.specs.Paths.{BeginsWith, EndsWith, is_clean, has_no_slash, is_here, is_above, is_segment, without_last}
use Rattle.tree_dev.specs.Told.{both}
use Rattle.tree_dev.specs.Trees.{FileTree, IsTree, entry_at, is_folder, has_folder}
use Rattle.tree_dev.specs.Listing.{HasName, IsFirstFrom, IsNoneFrom, IsLastName, IsNextName, IsNameOrNothing}
use Rattle.tree_dev.specs.Changes.{is_root}
use Rattle.tree_dev.specs.declared.entry.Entry.{Entry}
use Rattle.tree_dev.proofs.Behind.{same_bytes}
use Rattle.tree_dev.proofs.NameOrder.{no_nul, after_bound, first_counts, head_is_before, longer_is_after, between}
use Rattle.tree_dev.proofs.Snoc.{snoc_of, without_last-snoc}

-- parts of a segment
pub record HasParts (name : List ℕ) : Type 0 where
  pub utf8 : is_utf8 name ≡ true
  pub nul : no_nul name ≡ true
  pub slash : has_no_slash name ≡ true
  pub here : not (is_here name) ≡ true
  pub above : not (is_above name) ≡ true

pub parts_of_segment : (name : List ℕ) → is_segment name ≡ true → HasParts name
parts_of_segment name e =
    let a = both (is_clean name && has_no_slash name && not (is_here name)) (not (is_above name)) e in
    let b = both (is_clean name && has_no_slash name) (not (is_here name)) a.0 in
    let d = both (is_clean name) (has_no_slash name) b.0 in
    let f = both (is_utf8 name) (no_nul name) d.0 in
    record { utf8 = f.0; nul = f.1; slash = d.1; here = b.1; above = a.1 }

false_of : (b : Bool) → (b ≡ true → ⊥) → b ≡ false
false_of true no_way = absurd (no_way refl)
false_of false no_way = refl

no_end : (first : List ℕ) → first ++ 1 ∷ [] ≡ [] → ⊥
no_end [] e = cc
no_end (x ∷ xs) e = cc

not_dot : (last : List ℕ) → last ++ 1 ∷ [] ≡ 46 ∷ [] → ⊥
not_dot [] e = let h = ap (λ l. list_all (λ b. b == 1) l) e in cc
not_dot (x ∷ xs) e = no_end xs (tail_of e)
  where
    tail_of : x ∷ (xs ++ 1 ∷ []) ≡ 46 ∷ [] → xs ++ 1 ∷ [] ≡ []
    tail_of e = cc

not_dots : (last : List ℕ) → last ++ 1 ∷ [] ≡ 46 ∷ 46 ∷ [] → ⊥
not_dots [] e = cc
not_dots (x ∷ xs) e = not_dot xs (tail_of e)
  where
    tail_of : x ∷ (xs ++ 1 ∷ []) ≡ 46 ∷ 46 ∷ [] → xs ++ 1 ∷ [] ≡ 46 ∷ []
    tail_of e = cc

-- what stands behind a name is a segment too
with_byte : (last : List ℕ) → is_utf8 last ≡ true → no_nul last ≡ true → has_no_slash last ≡ true → is_segment (last ++ 1 ∷ []) ≡ true
with_byte last utf8 nul slash =
    let u : is_utf8 (last ++ 1 ∷ []) ≡ true =
    is_utf8-from_IsUtf8 (last ++ 1 ∷ []) (IsUtf8-append last (1 ∷ []) (IsUtf8-from_is_utf8 last utf8) (IsUtf8-from_ascii (1 ∷ []) (IsAscii-cons 1 [] (omega arith) IsAscii-nil))) in
    let n : no_nul (last ++ 1 ∷ []) ≡ true = list_all-append (λ byte. not (byte == 0)) last (1 ∷ []) ∙ rw nul refl in
    let s : has_no_slash (last ++ 1 ∷ []) ≡ true = list_all-append (λ byte. not (byte == 47)) last (1 ∷ []) ∙ rw slash refl in
    let e : bytes_are_equal (last ++ 1 ∷ []) [] ≡ false = false_of _ (λ b. no_end last (same_bytes (last ++ 1 ∷ []) [] b)) in
    let d : bytes_are_equal (last ++ 1 ∷ []) (46 ∷ []) ≡ false = false_of _ (λ b. not_dot last (same_bytes (last ++ 1 ∷ []) (46 ∷ []) b)) in
    let dd : bytes_are_equal (last ++ 1 ∷ []) (46 ∷ 46 ∷ []) ≡ false = false_of _ (λ b. not_dots last (same_bytes (last ++ 1 ∷ []) (46 ∷ 46 ∷ []) b)) in
    rw (u, n, s, e, d, dd) refl

pub bound_is_segment : (last : List ℕ) → IsNameOrNothing last → is_segment (last ++ 1 ∷ []) ≡ true
bound_is_segment [] is = with_byte [] (is_utf8-from_IsUtf8 [] (IsUtf8-from_ascii [] IsAscii-nil)) refl refl
bound_is_segment (x ∷ xs) is = let parts = parts_of_segment (x ∷ xs) is in with_byte (x ∷ xs) parts.utf8 parts.nul parts.slash

less_of : (o : Ordering) → is_lt o ≡ true → o ≡ Less
less_of Less e = refl
less_of Equal e = absurd cc
less_of Greater e = absurd cc

not_flipped : (b : Bool) → not b ≡ true → b ≡ false
not_flipped true e = absurd cc
not_flipped false e = refl

module _ (t : FileTree) (tree : IsTree t) (folder : List (List ℕ)) (last : List ℕ) where
  abbrev bound : List (List ℕ)
  bound = folder ++ (last ++ 1 ∷ []) ∷ []

  name_parts : (name : List ℕ) → HasName t folder name → no_nul name ≡ true
  name_parts name has =
      let path = tree.paths (folder ++ name ∷ []) has in
      let one = both (list_all is_segment folder) (list_all is_segment (name ∷ [])) (sym (list_all-append is_segment folder (name ∷ [])) ∙ path) in
      (parts_of_segment name (both (is_segment name) true one.1).0).nul

  -- a name after the last one stands at the bound or behind it
  behind_bound : (name : List ℕ) → HasName t folder name → byte_cmp last name ≡ Less → is_gt (path_cmp bound (folder ++ name ∷ [])) ≡ false
  behind_bound name has after =
      first_counts folder (last ++ 1 ∷ []) name [] ∙ not_flipped _ (after_bound last name (name_parts name has) ∙ ap is_lt after)

  pub none_left : IsNoneFrom t bound → IsLastName t folder last
  none_left none name has after = let gone = none (folder ++ name ∷ []) (behind_bound name has after) in absurd (let h = ap is_some gone in cc)

  pub outside : (first : List (List ℕ)) → IsFirstFrom t bound first → (BeginsWith first folder → ⊥) → IsLastName t folder last
  outside first is apart name has after =
      let le = is.least (folder ++ name ∷ []) (behind_bound name has after) has in
      apart (between folder ((last ++ 1 ∷ []) ∷ []) (name ∷ []) first is.after le)

  -- an entry has all folders above it
  folder_has : (p : List (List ℕ)) → is_root p ≡ false → is_folder (entry_at t p) ≡ true → contains_key t p ≡ true
  folder_has [] root e = absurd cc
  folder_has (x ∷ xs) root e = some_folder (get t (x ∷ xs)) e
    where
      some_folder : (present : Option Entry) → is_folder present ≡ true → is_some present ≡ true
      some_folder None e = absurd cc
      some_folder (Some x) e = refl

  not_root_end : (front rest : List (List ℕ)) (x : List ℕ) → is_root (front ++ x ∷ rest) ≡ false
  not_root_end [] rest x = refl
  not_root_end (y ∷ ys) rest x = refl

  up_one : (x l : List ℕ) (g : List (List ℕ)) → contains_key t (folder ++ x ∷ (g ++ l ∷ [])) ≡ true → contains_key t (folder ++ x ∷ g) ≡ true
  up_one x l g has =
      let is : folder ++ x ∷ (g ++ l ∷ []) ≡ (folder ++ x ∷ g) ++ l ∷ [] = sym (append_assoc folder (x ∷ g) (l ∷ [])) in
      let above : has_folder t (without_last (folder ++ x ∷ (g ++ l ∷ []))) ≡ true = tree.below_folders (folder ++ x ∷ (g ++ l ∷ [])) has in
      folder_has (folder ++ x ∷ g) (not_root_end folder g x) (ap (has_folder t) (sym (without_last-snoc (folder ++ x ∷ g) l) ∙ ap without_last (sym is)) ∙ above)

  ancestor : (fuel : ℕ) (x : List ℕ) (rest : List (List ℕ)) → length rest ≤ fuel → contains_key t (folder ++ x ∷ rest) ≡ true → contains_key t (folder ++ x ∷ []) ≡ true
  ancestor fuel x [] le has = has
  ancestor zero x (y ∷ rest) le has = absurd (omega arith)
  ancestor (suc fuel) x (y ∷ rest) le has =
      let snoc = snoc_of (y ∷ rest) refl in
      let up = up_one x snoc.last snoc.front (ap (λ r. contains_key t (folder ++ x ∷ r)) (sym snoc.is) ∙ has) in
      let n = ap length snoc.is in
      let m = simp length-append at n in
      ancestor fuel x snoc.front (omega (arith, m)) up

  pub at_child : (first : List (List ℕ)) (x : List ℕ) → IsFirstFrom t bound first → first ≡ folder ++ x ∷ [] → IsNextName t folder last x
  at_child first x is here =
      let has : HasName t folder x = ap (contains_key t) (sym here) ∙ is.has in
      let le : is_gt (path_cmp bound (folder ++ x ∷ [])) ≡ false = ap (λ p. is_gt (path_cmp bound p)) (sym here) ∙ is.after in
      record {
        has = has;
        after = less_of (byte_cmp last x) (sym (after_bound last x (name_parts x has)) ∙ ap not (sym (first_counts folder (last ++ 1 ∷ []) x []) ∙ le));
        least = λ other there after.
            sym (first_counts folder x other []) ∙ ap (λ p. is_gt (path_cmp p (folder ++ other ∷ []))) (sym here)
            ∙ is.least (folder ++ other ∷ []) (behind_bound other there after) there;
      }

  no_descendant : (first : List (List ℕ)) (x y : List ℕ) (more : List (List ℕ)) → IsFirstFrom t bound first → first ≡ folder ++ x ∷ y ∷ more → ⊥
  no_descendant first x y more is here =
      let has = ancestor (length (y ∷ more)) x (y ∷ more) (omega arith) (ap (contains_key t) (sym here) ∙ is.has) in
      let le : is_gt (path_cmp bound (folder ++ x ∷ [])) ≡ false =
      first_counts folder (last ++ 1 ∷ []) x [] ∙ sym (first_counts folder (last ++ 1 ∷ []) x (y ∷ more)) ∙ ap (λ p. is_gt (path_cmp bound p)) (sym here) ∙ is.after in
      let low = ap (λ p. is_gt (path_cmp p (folder ++ x ∷ []))) (sym here) ∙ is.least (folder ++ x ∷ []) le has in
      let high = longer_is_after folder x y more in
      absurd (let e : true ≡ false = sym high ∙ low in cc)

  last_one : (d : Option (List ℕ)) (front : List (List ℕ)) (x : List ℕ) → last_or d (front ++ x ∷ []) ≡ Some x
  last_one d [] x = refl
  last_one d (y ∷ ys) x = last_one (Some y) ys x

  same_last : (a b : List (List ℕ)) (x y : List ℕ) → a ++ x ∷ [] ≡ b ++ y ∷ [] → x ≡ y
  same_last a b x y e = let p = last_one None a x in let q = last_one None b y in let r = ap (last_or None) e in cc

  at_rest : (first rest : List (List ℕ)) (name : List ℕ) → IsFirstFrom t bound first → first ≡ folder ++ rest → EndsWith first name → IsNextName t folder last name
  at_rest first [] name is here ends =
      absurd (let low = ap (λ p. is_gt (path_cmp bound p)) (sym (here ∙ append-nil folder)) ∙ is.after in let high = head_is_before folder (last ++ 1 ∷ []) in let e : true ≡ false = sym high ∙ low in cc)
  at_rest first (x ∷ []) name is here ends =
      subst (IsNextName t folder last) (same_last folder ends.0 x name (sym here ∙ ends.1)) (at_child first x is here)
  at_rest first (x ∷ y ∷ more) name is here ends = absurd (no_descendant first x y more is here)

  pub next_there : (first : List (List ℕ)) (name : List ℕ) → IsFirstFrom t bound first → BeginsWith first folder → EndsWith first name → IsNextName t folder last name
  next_there first name is begins ends = at_rest first begins.0 name is begins.1 ends
