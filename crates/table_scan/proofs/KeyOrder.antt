-- Keys that rise or fall throughout are not repeated, and the place of a key.
use Rattle.std.proofs.Common.{◌≡◌, ℕ, suc, ◌+◌, ◌<◌, ◌≤◌, Bool, true, false, cond, List, [], ◌∷◌, ◌++◌, length, map, get_or, set, take, Option, Some, None, refl, sym, ap, subst, ◌∙◌, arith}
use Rattle.std.specs.Prelude.{◌&&◌}
use Rattle.std.specs.Borrow.{Bor}
use Rattle.std.specs.List.{AllByRecursion, IsDistinct}
use Rattle.std.specs.List.Sorted.{IsPermutation}
use Rattle.std.specs.Option.{option_map}
use Rattle.std.specs.Cmp.Lexicographic.{bytes_decides}
use Rattle.std.specs.declared.cmp.Ordering.{Ordering}
use Rattle.std.specs.declared.cmp.Ordering.TheVariants.{Less, Equal, Greater}
use Rattle.std.specs.Ordering.{ordering_reverse, is_eq}
use Rattle.std.proofs.lemmas.Bool.{false≢true, false_from_ne_true}
use Rattle.std.proofs.lemmas.List.{map-append, take_more, take_all}
use Rattle.std.proofs.lemmas.List.Sorted.{IsPermutation-map, IsPermutation-sym}
use Rattle.std.proofs.lemmas.Map.Keys.{IsDistinct-IsPermutation}
use Rattle.path_name.specs.Orders.{byte_cmp, byte_cmp_total, bytes_are_equal, byte_ties}
use Rattle.table_scan.proofs.Cases.{by_test}
use Rattle.table_scan.specs.TableGrammar.{put, put_all, last_values}
use Rattle.table_scan.specs.DistinctKeys.{AreDistinct}
use Rattle.table_scan.proofs.Distinct.{distinct_are_last}
use Rattle.table_scan.specs.Repeats.{is_order, are_strict_behind, are_strict, place_of}

order_is : (a b : Ordering) → is_order a b ≡ true → a ≡ b
order_is Less Less e = refl
order_is Equal Equal e = refl
order_is Greater Greater e = refl
order_is _ _ e = absurd cc

and_parts : (b c : Bool) → b && c ≡ true → (b ≡ true) × (c ≡ true)
and_parts true c h = (refl, h)
and_parts false c h = absurd cc

reversed_greater : (x y : List ℕ) → byte_cmp x y ≡ Greater → byte_cmp y x ≡ Less
reversed_greater x y e = byte_cmp_total.antisymm y x ∙ ap ordering_reverse e

reversed_less : (x y : List ℕ) → byte_cmp y x ≡ Less → byte_cmp x y ≡ Greater
reversed_less x y e = byte_cmp_total.antisymm x y ∙ ap ordering_reverse e

abbrev pub IsStrict : Ordering → Type 0
IsStrict Less = Unit {0}
IsStrict Equal = ⊥
IsStrict Greater = Unit {0}

along : (order : Ordering) → IsStrict order → (x y z : List ℕ) → byte_cmp x y ≡ order → byte_cmp y z ≡ order → byte_cmp x z ≡ order
along Less s x y z e f = byte_cmp_total.trans x y z e f
along Equal s x y z e f = absurd s
along Greater s x y z e f = reversed_less x z (byte_cmp_total.trans z y x (reversed_greater y z f) (reversed_greater x y e))

itself_equal : (x : List ℕ) (o : Ordering) → byte_cmp x x ≡ o → o ≡ ordering_reverse o → o ≡ Equal
itself_equal x Less e h = absurd cc
itself_equal x Equal e h = refl
itself_equal x Greater e h = absurd cc

apart : (order : Ordering) → IsStrict order → (x y : List ℕ) → byte_cmp x y ≡ order → bytes_are_equal x y ≡ false
apart order s x y e = false_from_ne_true (bytes_are_equal x y) (λ t. differ order s (let same : x ≡ y = (bytes_decides x y).0 t in let k : byte_cmp x x ≡ order = ap (byte_cmp x) same ∙ e in sym (itself_equal x (byte_cmp x x) refl (byte_cmp_total.antisymm x x)) ∙ k))
  where
    differ : (o : Ordering) → IsStrict o → Equal ≡ o → ⊥
    differ Less s e = absurd cc
    differ Equal s e = s
    differ Greater s e = absurd cc

-- each key stands so to all before it, so it is none of them
strict_new : (order : Ordering) → IsStrict order → (key last : List ℕ) (keys : List (List ℕ)) → byte_cmp key last ≡ order → are_strict_behind order last keys ≡ true → AllByRecursion (λ other. bytes_are_equal key other ≡ false) keys
strict_new order s key last [] e h = tt
strict_new order s key last (next ∷ keys) e h =
    let parts = and_parts (is_order (byte_cmp last next) order) (are_strict_behind order next keys) h in
    let on : byte_cmp key next ≡ order = along order s key last next e (order_is (byte_cmp last next) order parts.0) in
    (apart order s key next on, strict_new order s key next keys on parts.1)

strict_behind : (order : Ordering) → IsStrict order → (last : List ℕ) (keys : List (List ℕ)) → are_strict_behind order last keys ≡ true → AreDistinct (last ∷ keys)
unfolding IsDistinct
strict_behind order s last [] h = (tt, tt)
strict_behind order s last (next ∷ keys) h =
    let parts = and_parts (is_order (byte_cmp last next) order) (are_strict_behind order next keys) h in
    let is : byte_cmp last next ≡ order = order_is (byte_cmp last next) order parts.0 in
    ((apart order s last next is, strict_new order s last next keys is parts.1), strict_behind order s next keys parts.1)

pub strict_distinct : (order : Ordering) → IsStrict order → (keys : List (List ℕ)) → are_strict order keys ≡ true → AreDistinct keys
unfolding IsDistinct
strict_distinct order s [] h = tt
strict_distinct order s (key ∷ keys) h = strict_behind order s key keys h

-- rows whose keys rise or fall throughout
pub strict_keys : {R : Type 0} (key : R → List ℕ) (order : Ordering) → IsStrict order → (rows : List R) → are_strict order (map key rows) ≡ true → rows ≡ last_values key rows
strict_keys key order s rows h = distinct_are_last key rows (strict_distinct order s (map key rows) h)

equal_either_way : (x y : List ℕ) → bytes_are_equal x y ≡ bytes_are_equal y x
equal_either_way x y = by_test (bytes_are_equal x y)
    (λ b. by_test (bytes_are_equal y x) (λ d. b ∙ sym d) (λ d. absurd (false≢true (sym d ∙ (bytes_decides y x).1 (sym ((bytes_decides x y).0 b))))))
    (λ b. by_test (bytes_are_equal y x) (λ d. absurd (false≢true (sym b ∙ (bytes_decides x y).1 (sym ((bytes_decides y x).0 d))))) (λ d. b ∙ sym d))

-- keys of which some order rises throughout
pub sorted_distinct : (keys sorted : List (Bor (List ℕ))) → IsPermutation keys sorted → are_strict Less (map (λ k. k.now) sorted) ≡ true → AreDistinct (map (λ k. k.now) keys)
sorted_distinct keys sorted p h = IsDistinct-IsPermutation bytes_are_equal equal_either_way (map (λ k. k.now) sorted) (map (λ k. k.now) keys)
    (IsPermutation-sym (map (λ k. k.now) keys) (map (λ k. k.now) sorted) (IsPermutation-map (λ k. k.now) keys sorted p)) (strict_distinct Less tt (map (λ k. k.now) sorted) h)

-- one more key, in the words of a loop
pub one_more_key : {R : Type 0} (key : R → List ℕ) (rows : List R) (i : ℕ) (row : R) (keys now : List (Bor (List ℕ))) (k : Bor (List ℕ)) → i < length rows → row ≡ get_or rows i row → k.now ≡ key row → now ≡ keys ++ k ∷ []
    → map (λ k. k.now) keys ≡ map key (take i rows) → map (λ k. k.now) now ≡ map key (take (i + 1) rows)
one_more_key key rows i row keys now k l is same has so_far =
    ap (map (λ k. k.now)) has ∙ map-append (λ k. k.now) keys (k ∷ []) ∙ ap (λ ks. ks ++ k.now ∷ []) so_far ∙ ap (λ x. map key (take i rows) ++ x ∷ []) same
    ∙ sym (ap (map key) (take_more rows i row l ∙ ap (λ y. take i rows ++ y ∷ []) (sym is)) ∙ map-append key (take i rows) (row ∷ []))

-- all keys, sorted and found to rise
pub keys_distinct : {R : Type 0} (key : R → List ℕ) (rows : List R) (i : ℕ) (keys sorted slice : List (Bor (List ℕ))) (rises : Bool) → length rows ≤ i → map (λ k. k.now) keys ≡ map key (take i rows) → IsPermutation keys sorted → slice ≡ sorted
    → rises ≡ are_strict Less (map (λ k. k.now) slice) → rises ≡ true → AreDistinct (map key rows)
keys_distinct key rows i keys sorted slice rises l all p is said e =
    subst AreDistinct (all ∙ ap (map key) (take_all i rows l)) (sorted_distinct keys sorted p (sym (ap (λ s. are_strict Less (map (λ k. k.now) s)) is) ∙ sym said ∙ e))

-- ---- rows put one by one

none_back : (o : Option ℕ) → option_map suc o ≡ None → o ≡ None
none_back None e = refl
none_back (Some n) e = absurd cc

some_back : (o : Option ℕ) (n : ℕ) → option_map suc o ≡ Some n → (m : ℕ) × (o ≡ Some m) × (n ≡ suc m)
some_back None n e = absurd cc
some_back (Some m) n e = (m, refl, let same : suc m ≡ n = cc in sym same)

module _ {R : Type 0} (key : R → List ℕ) where
  pub put_all-append : (done rows : List R) (row : R) → put_all key done (rows ++ row ∷ []) ≡ put key (put_all key done rows) row
  put_all-append done [] row = refl
  put_all-append done (first ∷ rows) row = put_all-append (put key done first) rows row

  put_missing : (rows : List R) (row : R) → place_of (key row) (map key rows) ≡ None → put key rows row ≡ rows ++ row ∷ []
  put_missing [] row e = refl
  put_missing (first ∷ rows) row e = by_test (bytes_are_equal (key first) (key row))
      (λ b. absurd (let no : ◌≡◌ {A = Option ℕ} (Some 0) None = rw b at e in cc))
      (λ b. rw b (ap (λ rs. first ∷ rs) (put_missing rows row (none_back (place_of (key row) (map key rows)) (rw b at e)))))

  -- the place of a row's key
  record FoundAt (rows : List R) (row : R) (place : ℕ) : Type 0 where
    within : place < length rows
    replaced : put key rows row ≡ set rows place row
    kept : map key (set rows place row) ≡ map key rows

  found_first : (first row : R) (rows : List R) (place : ℕ) → bytes_are_equal (key first) (key row) ≡ true → place ≡ 0 → FoundAt (first ∷ rows) row place
  found_first first row rows place b e = rw e (record { within = omega arith; replaced = rw b refl; kept = ap (λ k. k ∷ map key rows) (sym ((bytes_decides (key first) (key row)).0 b)) })

  found_later : (first row : R) (rows : List R) (place before : ℕ) → bytes_are_equal (key first) (key row) ≡ false → place ≡ suc before → FoundAt rows row before → FoundAt (first ∷ rows) row place
  found_later first row rows place before b e h = rw e (record { within = omega (arith, h.within); replaced = rw b (ap (λ rs. first ∷ rs) h.replaced); kept = ap (λ ks. key first ∷ ks) h.kept })

  put_found : (rows : List R) (row : R) (place : ℕ) → place_of (key row) (map key rows) ≡ Some place → FoundAt rows row place
  put_found [] row place e = absurd cc
  put_found (first ∷ rows) row place e = by_test (bytes_are_equal (key first) (key row))
      (λ b. found_first first row rows place b (let is : ◌≡◌ {A = Option ℕ} (Some 0) (Some place) = rw b at e in cc))
      (λ b. let later = some_back (place_of (key row) (map key rows)) place (rw b at e) in found_later first row rows place later.0 b later.2 (put_found rows row later.0 later.1))

  -- ---- in the words of a loop

  pub missing_kept : (kept all : List R) (row : R) → kept ≡ put_all key [] all → place_of (key row) (map key kept) ≡ None → kept ++ row ∷ [] ≡ put_all key [] (all ++ row ∷ [])
  missing_kept kept all row e none = sym (put_missing kept row none) ∙ ap (λ rs. put key rs row) e ∙ sym (put_all-append [] all row)

  pub found_kept : (kept all : List R) (row : R) (place : ℕ) → kept ≡ put_all key [] all → place_of (key row) (map key kept) ≡ Some place → set kept place row ≡ put_all key [] (all ++ row ∷ [])
  found_kept kept all row place e some = sym (put_found kept row place some).replaced ∙ ap (λ rs. put key rs row) e ∙ sym (put_all-append [] all row)

  pub found_keys : (kept : List R) (row : R) (place : ℕ) → place_of (key row) (map key kept) ≡ Some place → map key (set kept place row) ≡ map key kept
  found_keys kept row place some = (put_found kept row place some).kept

  pub found_within : (kept : List R) (row : R) (place : ℕ) → place_of (key row) (map key kept) ≡ Some place → place < length kept
  found_within kept row place some = (put_found kept row place some).within

-- the place of a key behind the others
place_last : (keys : List (List ℕ)) (k q : List ℕ) → place_of q keys ≡ None → bytes_are_equal k q ≡ true → place_of q (keys ++ k ∷ []) ≡ Some (length keys)
place_last [] k q none b = rw b refl
place_last (first ∷ keys) k q none b = by_test (bytes_are_equal first q)
    (λ t. absurd (let no : ◌≡◌ {A = Option ℕ} (Some 0) None = rw t at none in cc))
    (λ t. rw t (ap (option_map suc) (place_last keys k q (none_back (place_of q keys) (rw t at none)) b)))

place_before : (keys : List (List ℕ)) (k q : List ℕ) → bytes_are_equal k q ≡ false → place_of q (keys ++ k ∷ []) ≡ place_of q keys
place_before [] k q b = rw b refl
place_before (first ∷ keys) k q b = by_test (bytes_are_equal first q) (λ t. rw t refl) (λ t. rw t (ap (option_map suc) (place_before keys k q b)))

pub place_added : (keys : List (List ℕ)) (k q : List ℕ) (n : ℕ) → n ≡ length keys → place_of k keys ≡ None → cond (is_eq (byte_cmp k q)) (Some n) (place_of q keys) ≡ place_of q (keys ++ k ∷ [])
place_added keys k q n e none = by_test (bytes_are_equal k q)
    (λ b. let same : k ≡ q = (bytes_decides k q).0 b in rw (← byte_ties k q, b, e) (sym (place_last keys k q (ap (λ x. place_of x keys) (sym same) ∙ none) b)))
    (λ b. rw (← byte_ties k q, b) (sym (place_before keys k q b)))
