-- Items in groups by their keys, in an order of keys.
use Rattle.std.proofs.Common.{◌≡◌, ℕ, Bool, true, false, not, ◌&&◌, ◌||◌, cond, List, [], ◌∷◌, ◌++◌, map, refl, sym, ap, subst, ◌∙◌, append-nil, append_assoc}
use Rattle.std.specs.Prelude.{filter, T}
use Rattle.std.specs.Cmp.{IsTotalOrder, IsStrictWeakOrder, tied_itself}
use Rattle.std.specs.Cmp.Lexicographic.{bytes_decides}
use Rattle.std.specs.FinMap.{keys, entries, entries_sorted, from_entries, contains_key-keys, get-from_entries}
use Rattle.std.specs.FinMap.Entries.{is_sorted, below_all, is_some-find}
use Rattle.std.specs.List.{AllByRecursion, flat_map, list_any}
use Rattle.std.specs.List.Sorted.{IsSortedBy, IsStableBy, ties}
use Rattle.std.specs.Ordering.{is_lt, is_eq, eq_by_cmp, ordering_reverse}
use Rattle.std.specs.Option.{is_some}
use Rattle.std.specs.declared.cmp.Ordering.{Ordering}
use Rattle.std.specs.declared.cmp.Ordering.TheVariants.{Less, Equal, Greater}
use Rattle.std.proofs.lemmas.List.Sorted.{ranks_by}
use Rattle.path_name.specs.Orders.{byte_equality, bytes_are_equal}
use Rattle.autoload_build.specs.Jobs.{each_once}
use Rattle.autoload_build.proofs.StableSort.{Rises, rises, one_order}

pub equal_bytes : (a b : List ℕ) → bytes_are_equal a b ≡ true → a ≡ b
equal_bytes a b e = (bytes_decides a b).0 e

-- ---- all and some of a list

pub all_weaker : {X : Type 0} (P Q : X → Type 0) → ((x : X) → P x → Q x) → (xs : List X) → AllByRecursion P xs → AllByRecursion Q xs
all_weaker P Q f [] h = tt
all_weaker P Q f (x ∷ xs) h = (f x h.0, all_weaker P Q f xs h.1)

pub all_append : {X : Type 0} (P : X → Type 0) (xs ys : List X) → AllByRecursion P xs → AllByRecursion P ys → AllByRecursion P (xs ++ ys)
all_append P [] ys h k = k
all_append P (x ∷ xs) ys h k = (h.0, all_append P xs ys h.1 k)

pub kept_none : {X : Type 0} (t : X → Bool) (xs : List X) → AllByRecursion (λ x. t x ≡ false) xs → filter t xs ≡ []
kept_none t [] h = refl
kept_none t (x ∷ xs) h = ap (λ b. cond b (x ∷ filter t xs) (filter t xs)) h.0 ∙ kept_none t xs h.1

pub kept_append : {X : Type 0} (t : X → Bool) (xs ys : List X) → filter t (xs ++ ys) ≡ filter t xs ++ filter t ys
kept_append t [] ys = refl
kept_append t (x ∷ xs) ys = by (t x) (kept_append t xs ys)
  where
    by : (b : Bool) → filter t (xs ++ ys) ≡ filter t xs ++ filter t ys → cond b (x ∷ filter t (xs ++ ys)) (filter t (xs ++ ys)) ≡ cond b (x ∷ filter t xs) (filter t xs) ++ filter t ys
    by true e = ap (λ list. x ∷ list) e
    by false e = e

-- what two tests keep, where a third says both
pub kept_twice : {X : Type 0} (t u both : X → Bool) → ((x : X) → (t x && u x) ≡ both x) → (xs : List X) → filter u (filter t xs) ≡ filter both xs
kept_twice t u both e [] = refl
kept_twice t u both e (x ∷ xs) = by (t x) (u x) (both x) refl (e x) (kept_twice t u both e xs)
  where
    by : (a b c : Bool) → u x ≡ b → (a && b) ≡ c → filter u (filter t xs) ≡ filter both xs → filter u (cond a (x ∷ filter t xs) (filter t xs)) ≡ cond c (x ∷ filter both xs) (filter both xs)
    by true true c f g rest = rw f (rw (← g) (ap (λ list. x ∷ list) rest))
    by true false c f g rest = rw f (rw (← g) rest)
    by false b c f g rest = rw (← g) rest

pub any_alike : {X : Type 0} (t u : X → Bool) → ((x : X) → t x ≡ u x) → (xs : List X) → list_any t xs ≡ list_any u xs
any_alike t u e [] = refl
any_alike t u e (x ∷ xs) = rw (e x, any_alike t u e xs) refl

-- ---- texts in order, each once

first_of : (a b : Bool) → T (a && b) → T a
first_of true b h = tt
first_of false b h = h

second_of : (a b : Bool) → T (a && b) → T b
second_of true b h = h
second_of false b h = absurd h

less : (r : Ordering) → T (is_lt r) → r ≡ Less
less Less h = refl
less Equal h = absurd h
less Greater h = absurd h

firsts : (texts : List (List ℕ)) → map (λ (e : List ℕ × List ℕ). e.0) (map (λ (text : List ℕ). (text, text)) texts) ≡ texts
firsts [] = refl
firsts (text ∷ texts) = ap (λ list. text ∷ list) (firsts texts)

level : (r : Ordering) → (not (is_lt r) && not (is_lt (ordering_reverse r))) ≡ is_eq r
level Less = refl
level Equal = refl
level Greater = refl

module _ (R : List ℕ → List ℕ → Ordering) (o : IsTotalOrder R) (tied : (one other : List ℕ) → eq_by_cmp R one other ≡ bytes_are_equal one other) where
  -- each text is before those behind it
  abbrev pub Ascends : List (List ℕ) → Type 0
  Ascends [] = Unit {0}
  Ascends (text ∷ rest) = AllByRecursion (λ other. R text other ≡ Less) rest × Ascends rest

  module _ {X : Type 0} where
    all_less : (text : List ℕ) (es : List (List ℕ × X)) → T (below_all R text es) → AllByRecursion (λ other. R text other ≡ Less) (map (λ e. e.0) es)
    all_less text [] h = tt
    all_less text (e ∷ es) h = (less (R text e.0) (first_of _ _ h), all_less text es (second_of _ _ h))

    pub keys_ascend : (es : List (List ℕ × X)) → T (is_sorted R es) → Ascends (map (λ e. e.0) es)
    keys_ascend [] h = tt
    keys_ascend (e ∷ es) h = (all_less e.0 es (first_of _ _ h), keys_ascend es (second_of _ _ h))

  pub each_ascends : (texts : List (List ℕ)) → Ascends (each_once R texts)
  each_ascends texts = keys_ascend (entries (from_entries {R = R} (map (λ text. (text, text)) texts))) (entries_sorted (from_entries {R = R} (map (λ text. (text, text)) texts)))

  -- they are the same texts
  pub each_has : (texts : List (List ℕ)) (text : List ℕ) → list_any (bytes_are_equal text) (each_once R texts) ≡ list_any (bytes_are_equal text) texts
  each_has texts text =
      let pairs = map (λ (one : List ℕ). (one, one)) texts in
      sym (any_alike (eq_by_cmp R text) (bytes_are_equal text) (tied text) (keys (from_entries {R = R} pairs)))
      ∙ sym (contains_key-keys (from_entries {R = R} pairs) text)
      ∙ ap is_some (get-from_entries o pairs text)
      ∙ is_some-find R text pairs
      ∙ ap (list_any (eq_by_cmp R text)) (firsts texts)
      ∙ any_alike (eq_by_cmp R text) (bytes_are_equal text) (tied text) texts

  pub not_less : (one other : List ℕ) → R one other ≡ Less → bytes_are_equal one other ≡ false
  not_less one other e = sym (tied one other) ∙ ap is_eq e

  pub none_equal : (text : List ℕ) (texts : List (List ℕ)) → AllByRecursion (λ other. R text other ≡ Less) texts → list_any (bytes_are_equal text) texts ≡ false
  none_equal text [] h = refl
  none_equal text (other ∷ texts) h = rw (not_less text other h.0) (none_equal text texts h.1)

  pub turned : (one other : List ℕ) → R one other ≡ Less → is_lt (R other one) ≡ false
  turned one other e = ap is_lt (o.antisymm other one ∙ ap ordering_reverse e)

  -- ---- items by their keys

  module _ {X : Type 0} (key : X → List ℕ) where
    abbrev pub comes_first : X → X → Bool
    comes_first one other = is_lt (R (key one) (key other))

    abbrev pub has_key : List ℕ → X → Bool
    has_key text x = bytes_are_equal (key x) text

    abbrev pub in_groups : List (List ℕ) → List X → List X
    in_groups texts xs = flat_map (λ text. filter (has_key text) xs) texts

    -- items tie that have one key
    pub ties_by_key : (x y : X) → ties comes_first x y ≡ has_key (key x) y
    ties_by_key x y =
        ap (λ r. not (is_lt (R (key x) (key y))) && not (is_lt r)) (o.antisymm (key y) (key x))
        ∙ level (R (key x) (key y)) ∙ tied (key x) (key y) ∙ byte_equality.symm (key x) (key y)

    pub keys_are : (text : List ℕ) (xs : List X) → AllByRecursion (λ x. key x ≡ text) (filter (has_key text) xs)
    keys_are text [] = tt
    keys_are text (x ∷ xs) = by (has_key text x) refl (keys_are text xs)
      where
        by : (b : Bool) → has_key text x ≡ b → AllByRecursion (λ y. key y ≡ text) (filter (has_key text) xs) → AllByRecursion (λ y. key y ≡ text) (cond b (x ∷ filter (has_key text) xs) (filter (has_key text) xs))
        by true e rest = (equal_bytes (key x) text e, rest)
        by false e rest = rest

    pub level_rises : (text : List ℕ) (xs : List X) → AllByRecursion (λ x. key x ≡ text) xs → Rises comes_first xs
    level_rises text [] h = tt
    level_rises text (x ∷ xs) h =
        (all_weaker (λ y. key y ≡ text) (λ y. comes_first y x ≡ false) (λ y e. ap is_lt (ap (λ k. R k (key x)) (e ∙ sym h.0) ∙ tied_itself o (key x))) xs h.1, level_rises text xs h.1)

    pub rises_append : (xs ys : List X) → Rises comes_first xs → Rises comes_first ys → AllByRecursion (λ x. AllByRecursion (λ y. comes_first y x ≡ false) ys) xs → Rises comes_first (xs ++ ys)
    rises_append [] ys h k below = k
    rises_append (x ∷ xs) ys h k below = (all_append (λ y. comes_first y x ≡ false) xs ys h.0 below.0, rises_append xs ys h.1 k below.1)

    -- items of keys that are below a text are below it
    pub keys_below : (text : List ℕ) (texts : List (List ℕ)) (xs : List X) → AllByRecursion (λ other. R text other ≡ Less) texts → AllByRecursion (λ x. R text (key x) ≡ Less) (in_groups texts xs)
    keys_below text [] xs h = tt
    keys_below text (other ∷ texts) xs h =
        all_append (λ x. R text (key x) ≡ Less) (filter (has_key other) xs) (in_groups texts xs)
        (all_weaker (λ x. key x ≡ other) (λ x. R text (key x) ≡ Less) (λ x e. ap (R text) e ∙ h.0) (filter (has_key other) xs) (keys_are other xs))
        (keys_below text texts xs h.1)

    groups_rise : (texts : List (List ℕ)) (xs : List X) → Ascends texts → Rises comes_first (in_groups texts xs)
    groups_rise [] xs h = tt
    groups_rise (text ∷ texts) xs h =
        rises_append (filter (has_key text) xs) (in_groups texts xs) (level_rises text (filter (has_key text) xs) (keys_are text xs)) (groups_rise texts xs h.1)
        (all_weaker (λ x. key x ≡ text) (λ x. AllByRecursion (λ y. comes_first y x ≡ false) (in_groups texts xs))
        (λ x e. all_weaker (λ y. R text (key y) ≡ Less) (λ y. comes_first y x ≡ false) (λ y below. ap (λ k. is_lt (R (key y) k)) e ∙ turned text (key y) below) (in_groups texts xs) (keys_below text texts xs h.0))
        (filter (has_key text) xs) (keys_are text xs))

    -- what the groups have of one key
    pub kept_in_groups : (text : List ℕ) (texts : List (List ℕ)) (xs : List X) → Ascends texts → filter (has_key text) (in_groups texts xs) ≡ cond (list_any (bytes_are_equal text) texts) (filter (has_key text) xs) []
    kept_in_groups text [] xs h = refl
    kept_in_groups text (other ∷ texts) xs h =
        kept_append (has_key text) (filter (has_key other) xs) (in_groups texts xs) ∙ by (bytes_are_equal text other) refl (kept_in_groups text texts xs h.1)
      where
        rest : List X
        rest = filter (has_key text) (in_groups texts xs)

        by : (b : Bool) → bytes_are_equal text other ≡ b → rest ≡ cond (list_any (bytes_are_equal text) texts) (filter (has_key text) xs) []
            → filter (has_key text) (filter (has_key other) xs) ++ rest ≡ cond (b || list_any (bytes_are_equal text) texts) (filter (has_key text) xs) []
        by true e f =
            let same : text ≡ other = equal_bytes text other e in
            let last : rest ≡ [] = f ∙ ap (λ b. cond b (filter (has_key text) xs) []) (ap (λ t. list_any (bytes_are_equal t) texts) same ∙ none_equal other texts h.0) in
            let own : filter (has_key text) (filter (has_key other) xs) ≡ filter (has_key text) xs =
            kept_twice (has_key other) (has_key text) (has_key text) (λ x. ap (λ t. has_key t x && has_key text x) (sym same) ∙ twice (has_key text x)) xs in
            rw last (rw own (append-nil _))
          where
            twice : (b : Bool) → (b && b) ≡ b
            twice true = refl
            twice false = refl
        by false e f = rw (none) f
          where
            none : filter (has_key text) (filter (has_key other) xs) ≡ []
            none = kept_none (has_key text) (filter (has_key other) xs)
                (all_weaker (λ x. key x ≡ other) (λ x. has_key text x ≡ false) (λ x g. ap (λ k. bytes_are_equal k text) g ∙ byte_equality.symm other text ∙ e) (filter (has_key other) xs) (keys_are other xs))

    no_other : (texts : List (List ℕ)) (xs : List X) (text : List ℕ) → list_any (bytes_are_equal text) texts ≡ false → AllByRecursion (λ x. list_any (bytes_are_equal (key x)) texts ≡ true) xs → AllByRecursion (λ x. has_key text x ≡ false) xs
    no_other texts xs text none = all_weaker (λ x. list_any (bytes_are_equal (key x)) texts ≡ true) (λ x. has_key text x ≡ false) (λ x some. by x some (has_key text x) refl) xs
      where
        by : (x : X) → list_any (bytes_are_equal (key x)) texts ≡ true → (b : Bool) → has_key text x ≡ b → b ≡ false
        by x some true e =
            let both : true ≡ false = sym some ∙ ap (λ t. list_any (bytes_are_equal t) texts) (equal_bytes (key x) text e) ∙ none in
            absurd cc
        by x some false e = refl

    -- the groups of all keys have what the list has
    pub groups_have : (text : List ℕ) (texts : List (List ℕ)) (xs : List X) → Ascends texts → AllByRecursion (λ x. list_any (bytes_are_equal (key x)) texts ≡ true) xs → filter (has_key text) (in_groups texts xs) ≡ filter (has_key text) xs
    groups_have text texts xs h all = kept_in_groups text texts xs h ∙ by (list_any (bytes_are_equal text) texts) refl
      where
        by : (b : Bool) → list_any (bytes_are_equal text) texts ≡ b → cond b (filter (has_key text) xs) [] ≡ filter (has_key text) xs
        by true e = refl
        by false e = sym (kept_none (has_key text) xs (no_other texts xs text e all))

    own_keys : (front back : List X) → AllByRecursion (λ x. list_any (bytes_are_equal (key x)) (map key (front ++ back)) ≡ true) back
    own_keys front [] = tt
    own_keys front (x ∷ back) = (found front, subst (λ list. AllByRecursion (λ y. list_any (bytes_are_equal (key y)) (map key list) ≡ true) back) (append_assoc front (x ∷ []) back) (own_keys (front ++ x ∷ []) back))
      where
        found : (some : List X) → list_any (bytes_are_equal (key x)) (map key (some ++ x ∷ back)) ≡ true
        found [] = rw (byte_equality.refl (key x)) refl
        found (y ∷ some) = rw (found some) (either (bytes_are_equal (key x) (key y)))
          where
            either : (b : Bool) → (b || true) ≡ true
            either true = refl
            either false = refl

    pub all_keys : (xs : List X) → AllByRecursion (λ x. list_any (bytes_are_equal (key x)) (each_once R (map key xs)) ≡ true) xs
    all_keys xs = all_weaker (λ x. list_any (bytes_are_equal (key x)) (map key xs) ≡ true) (λ x. list_any (bytes_are_equal (key x)) (each_once R (map key xs)) ≡ true) (λ x e. each_has (map key xs) (key x) ∙ e) xs (own_keys [] xs)

    alike_by_key : (x : X) (xs : List X) → filter (ties comes_first x) xs ≡ filter (has_key (key x)) xs
    alike_by_key x [] = refl
    alike_by_key x (y ∷ xs) = rw (ties_by_key x y, alike_by_key x xs) refl

    pub weak_order : IsStrictWeakOrder comes_first
    weak_order = ranks_by o key

    -- A stable sort by keys gives the groups.
    pub sorted_in_groups : (xs ys : List X) → IsSortedBy comes_first ys → IsStableBy comes_first xs ys → ys ≡ in_groups (each_once R (map key xs)) xs
    sorted_in_groups xs ys sorted stable =
        let texts = each_once R (map key xs) in
        one_order comes_first weak_order ys (in_groups texts xs) (rises comes_first weak_order ys sorted) (groups_rise texts xs (each_ascends (map key xs)))
        (λ x. stable x ∙ alike_by_key x xs ∙ sym (alike_by_key x (in_groups texts xs) ∙ groups_have (key x) texts xs (each_ascends (map key xs)) (all_keys xs)))
