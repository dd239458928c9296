-- Groups that stand behind each other, taken one by one from the front.
use Rattle.std.proofs.Common.{◌≡◌, ℕ, suc, ◌+◌, Bool, true, false, ◌||◌, cond, List, [], ◌∷◌, ◌++◌, take, drop, map, refl, sym, ap, subst, ◌∙◌, arith}
use Rattle.std.specs.Prelude.{filter}
use Rattle.std.specs.List.{AllByRecursion, list_any, prefix_len}
use Rattle.std.specs.Cmp.{IsTotalOrder}
use Rattle.std.specs.Ordering.{eq_by_cmp}
use Rattle.std.specs.declared.cmp.Ordering.{Ordering}
use Rattle.std.specs.declared.cmp.Ordering.TheVariants.{Less}
use Rattle.path_name.specs.Orders.{bytes_are_equal, byte_equality}
use Rattle.autoload_build.specs.Jobs.{each_once}
use Rattle.autoload_build.proofs.KeyGroups.{Ascends, has_key, in_groups, keys_are, keys_below, not_less, all_weaker, each_has}

one_on : (n : ℕ) {X : Type 0} (x : X) (xs ys : List X) → take n xs ≡ ys → take (1 + n) (x ∷ xs) ≡ x ∷ ys
one_on n x xs ys e =
    let more : 1 + n ≡ suc n = omega arith in
    ap (λ m. take m (x ∷ xs)) more ∙ ap (λ list. x ∷ list) e

one_off : (n : ℕ) {X : Type 0} (x : X) (xs ys : List X) → drop n xs ≡ ys → drop (1 + n) (x ∷ xs) ≡ ys
one_off n x xs ys e =
    let more : 1 + n ≡ suc n = omega arith in
    ap (λ m. drop m (x ∷ xs)) more ∙ e

-- the items that pass a test, and behind them those that don't
pub split_run : {X : Type 0} (t : X → Bool) (front back : List X) → AllByRecursion (λ x. t x ≡ true) front → AllByRecursion (λ x. t x ≡ false) back
    → (take (prefix_len t (front ++ back)) (front ++ back) ≡ front) × (drop (prefix_len t (front ++ back)) (front ++ back) ≡ back)
split_run t [] [] h k = (refl, refl)
split_run t [] (y ∷ back) h k = rw k.0 (refl, refl)
split_run t (x ∷ front) back h k =
    let rest = split_run t front back h.1 k in
    rw h.0 (one_on (prefix_len t (front ++ back)) x (front ++ back) front rest.0, one_off (prefix_len t (front ++ back)) x (front ++ back) back rest.1)

module _ (R : List ℕ → List ℕ → Ordering) (o : IsTotalOrder R) (tied : (one other : List ℕ) → eq_by_cmp R one other ≡ bytes_are_equal one other) where
  module _ {X : Type 0} (key : X → List ℕ) where
    -- each text is a key
    abbrev pub AreKeys : List (List ℕ) → List X → Type 0
    AreKeys texts xs = AllByRecursion (λ text. list_any (bytes_are_equal text) (map key xs) ≡ true) texts

    own : (texts : List (List ℕ)) (all : List (List ℕ)) → ((text : List ℕ) → list_any (bytes_are_equal text) texts ≡ true → list_any (bytes_are_equal text) all ≡ true) → AllByRecursion (λ text. list_any (bytes_are_equal text) all ≡ true) texts
    own [] all h = tt
    own (text ∷ texts) all h = (h text (rw (byte_equality.refl text) refl), own texts all (λ other e. h other (rw e (either (bytes_are_equal other text)))))
      where
        either : (b : Bool) → (b || true) ≡ true
        either true = refl
        either false = refl

    pub are_keys : (xs : List X) → AreKeys (each_once R (map key xs)) xs
    are_keys xs = own (each_once R (map key xs)) (map key xs) (λ text e. sym (each_has R o tied (map key xs) text) ∙ e)

    -- a key has items
    some_of : (text : List ℕ) (xs : List X) → list_any (bytes_are_equal text) (map key xs) ≡ true → filter (has_key R o tied key text) xs ≡ [] → ⊥
    some_of text [] h e = absurd cc
    some_of text (x ∷ xs) h e = by (bytes_are_equal (key x) text) refl (some_of text xs)
      where
        rest : List X
        rest = filter (λ y. bytes_are_equal (key y) text) xs

        by : (b : Bool) → bytes_are_equal (key x) text ≡ b → (list_any (bytes_are_equal text) (map key xs) ≡ true → rest ≡ [] → ⊥) → ⊥
        by true f later =
            let none : x ∷ rest ≡ [] = ap (λ c. cond c (x ∷ rest) rest) (sym f) ∙ e in
            absurd cc
        by false f later = later
            (ap (λ c. c || list_any (bytes_are_equal text) (map key xs)) (sym (byte_equality.symm text (key x) ∙ f)) ∙ h)
            (ap (λ c. cond c (x ∷ rest) rest) (sym f) ∙ e)

    front_none : (front back : List X) → front ++ back ≡ [] → front ≡ []
    front_none [] back e = refl
    front_none (x ∷ front) back e = absurd cc

    pub nothing_left : (texts : List (List ℕ)) (xs : List X) → AreKeys texts xs → in_groups R o tied key texts xs ≡ [] → texts ≡ []
    nothing_left [] xs k e = refl
    nothing_left (text ∷ texts) xs k e = absurd (some_of text xs k.0 (front_none (filter (has_key R o tied key text) xs) (in_groups R o tied key texts xs) e))

    -- the first group, and those behind it
    pub record Run (xs rest : List X) (first : X) (texts : List (List ℕ)) : Type 0 where
      pub more : List (List ℕ)
      pub is : texts ≡ key first ∷ more
      pub group : take (prefix_len (λ x. bytes_are_equal (key x) (key first)) rest) rest ≡ filter (λ x. bytes_are_equal (key x) (key first)) xs
      pub behind : drop (prefix_len (λ x. bytes_are_equal (key x) (key first)) rest) rest ≡ in_groups R o tied key more xs
      pub ascends : Ascends R o tied more
      pub keys : AreKeys more xs

    passes : (text : List ℕ) (xs : List X) → AllByRecursion (λ x. key x ≡ text) xs → AllByRecursion (λ x. bytes_are_equal (key x) text ≡ true) xs
    passes text xs h = all_weaker (λ x. key x ≡ text) (λ x. bytes_are_equal (key x) text ≡ true) (λ x e. ap (λ k. bytes_are_equal k text) e ∙ byte_equality.refl text) xs h

    fails : (text : List ℕ) (xs : List X) → AllByRecursion (λ x. R text (key x) ≡ Less) xs → AllByRecursion (λ x. bytes_are_equal (key x) text ≡ false) xs
    fails text xs h = all_weaker (λ x. R text (key x) ≡ Less) (λ x. bytes_are_equal (key x) text ≡ false) (λ x e. byte_equality.symm (key x) text ∙ not_less R o tied text (key x) e) xs h

    pub first_run : (texts : List (List ℕ)) (xs : List X) (first : X) (tail : List X) → Ascends R o tied texts → AreKeys texts xs → first ∷ tail ≡ in_groups R o tied key texts xs → Run xs (first ∷ tail) first texts
    first_run [] xs first tail h k e = absurd cc
    first_run (text ∷ texts) xs first tail h k e = by (filter (has_key R o tied key text) xs) refl
      where
        back : List X
        back = in_groups R o tied key texts xs

        group_of : List ℕ → List X
        group_of one = filter (has_key R o tied key one) xs

        parts : (take (prefix_len (has_key R o tied key text) (group_of text ++ back)) (group_of text ++ back) ≡ group_of text) × (drop (prefix_len (has_key R o tied key text) (group_of text ++ back)) (group_of text ++ back) ≡ back)
        parts = split_run (has_key R o tied key text) (group_of text) back (passes text (group_of text) (keys_are R o tied key text xs)) (fails text back (keys_below R o tied key text texts xs h.0))

        run : key first ≡ text → Run xs (first ∷ tail) first (text ∷ texts)
        run same = record {
          more = texts;
          is = ap (λ one. one ∷ texts) (sym same);
          group = subst (λ one. take (prefix_len (λ x. bytes_are_equal (key x) one) (first ∷ tail)) (first ∷ tail) ≡ filter (λ x. bytes_are_equal (key x) one) xs) (sym same)
              (subst (λ list. take (prefix_len (λ x. bytes_are_equal (key x) text) list) list ≡ group_of text) (sym e) parts.0);
          behind = subst (λ one. drop (prefix_len (λ x. bytes_are_equal (key x) one) (first ∷ tail)) (first ∷ tail) ≡ back) (sym same)
              (subst (λ list. drop (prefix_len (λ x. bytes_are_equal (key x) text) list) list ≡ back) (sym e) parts.1);
          ascends = h.1;
          keys = k.1;
        }

        by : (group : List X) → filter (has_key R o tied key text) xs ≡ group → Run xs (first ∷ tail) first (text ∷ texts)
        by [] f = absurd (some_of text xs k.0 f)
        by (g ∷ group) f =
            let all = subst (AllByRecursion (λ x. key x ≡ text)) f (keys_are R o tied key text xs) in
            let heads : first ∷ tail ≡ g ∷ (group ++ back) = e ∙ ap (λ list. list ++ back) f in
            let head : first ≡ g = cc in
            run (ap key head ∙ all.0)
