-- Rows by falling prefixes stand as they are tried.
use Rattle.std.proofs.Common.{◌≡◌, ℕ, zero, suc, ◌<◌, ◌≤◌, Bool, true, false, ◌&&◌, ◌||◌, ◌==◌, cond, List, [], ◌∷◌, ◌++◌, length, take, nat_lt, refl, sym, ap, ◌∙◌, arith}
use Rattle.std.specs.Prelude.{filter}
use Rattle.std.specs.Cmp.Lexicographic.{bytes_decides}
use Rattle.std.specs.List.{AllByRecursion}
use Rattle.std.specs.Ordering.{is_lt}
use Rattle.std.proofs.lemmas.Bool.Decides.{nat_tests}
use Rattle.std.proofs.lemmas.List.{length-take, length-take-le}
use Rattle.path_name.specs.Orders.{byte_equality, bytes_are_equal}
use Rattle.class_paths.specs.Candidates.{rows_at, rows_for, rows_upto}
use Rattle.class_paths.specs.RowPath.{begins}
use Rattle.class_paths.specs.declared.types.Route.{Route}
use Rattle.class_paths.proofs.PrefixOrder.{less_prefix, unlike}
use Rattle.autoload_build.specs.Jobs.{falls}
use Rattle.autoload_build.proofs.KeyGroups.{all_weaker, kept_none}
use Rattle.autoload_build.proofs.StableSort.{Rises}

pub kept_alike : {X : Type 0} (t u : X → Bool) → ((x : X) → t x ≡ u x) → (xs : List X) → filter t xs ≡ filter u xs
kept_alike t u e [] = refl
kept_alike t u e (x ∷ xs) = rw (e x, kept_alike t u e xs) refl

module _ {X : Type 0} (lt : X → X → Bool) (p q both : X → Bool) (either : (x : X) → (p x || q x) ≡ both x) (apart : (x : X) → p x ≡ true → q x ≡ false) (before : (x y : X) → q x ≡ true → p y ≡ true → lt y x ≡ true) where
  -- what passes one test stands before what passes another one
  parted : (xs : List X) → Rises lt xs → filter p xs ++ filter q xs ≡ filter both xs
  parted [] up = refl
  parted (x ∷ xs) up = by (p x) (q x) refl refl (parted xs up.1)
    where
      none : q x ≡ true → AllByRecursion (λ y. p y ≡ false) xs
      none e = all_weaker (λ y. lt y x ≡ false) (λ y. p y ≡ false) (λ y f. fails y f (p y) refl) xs up.0
        where
          fails : (y : X) → lt y x ≡ false → (b : Bool) → p y ≡ b → b ≡ false
          fails y f true g =
              let less : lt y x ≡ true = before x y e g in
              let no' : true ≡ false = sym less ∙ f in
              absurd cc
          fails y f false g = refl

      by : (a b : Bool) → p x ≡ a → q x ≡ b → filter p xs ++ filter q xs ≡ filter both xs → cond a (x ∷ filter p xs) (filter p xs) ++ cond b (x ∷ filter q xs) (filter q xs) ≡ cond (both x) (x ∷ filter both xs) (filter both xs)
      by true true e f rest =
          let no' : true ≡ false = sym f ∙ apart x e in
          absurd cc
      by true false e f rest =
          let yes : both x ≡ true = sym (either x) ∙ ap (λ b. b || q x) e in
          rw yes (ap (λ list. x ∷ list) rest)
      by false true e f rest =
          let yes : both x ≡ true = sym (either x) ∙ ap (λ b. b || q x) e ∙ f in
          let empty : filter p xs ≡ [] = kept_none p xs (none f) in
          let later : filter q xs ≡ filter both xs = sym (ap (λ list. list ++ filter q xs) empty) ∙ rest in
          rw (yes, empty) (ap (λ list. x ∷ list) later)
      by false false e f rest =
          let no' : both x ≡ false = sym (either x) ∙ ap (λ b. b || q x) e ∙ f in
          rw no' rest

module _ (name : List ℕ) where
  -- a prefix that begins the name is as many of its first bytes as it is long
  at_len : (prefix : List ℕ) (len : ℕ) → len ≤ length name → begins prefix name ≡ true → bytes_are_equal prefix (take len name) ≡ (length prefix == len)
  at_len prefix len within begun = by (length prefix == len) (bytes_are_equal prefix (take len name)) refl refl
    where
      first : prefix ≡ take (length prefix) name
      first = (bytes_decides prefix (take (length prefix) name)).0 begun

      by : (a b : Bool) → (length prefix == len) ≡ a → bytes_are_equal prefix (take len name) ≡ b → b ≡ a
      by true true e f = refl
      by false false e f = refl
      by true false e f =
          let same : length prefix ≡ len = grind (arith, nat_tests) in
          let yes : bytes_are_equal prefix (take len name) ≡ true = ap (bytes_are_equal prefix) (ap (λ n. take n name) (sym same) ∙ sym first) ∙ byte_equality.refl prefix in
          let no' : true ≡ false = sym yes ∙ f in
          absurd cc
      by false true e f =
          let long : length prefix ≡ len = ap length ((bytes_decides prefix (take len name)).0 f) ∙ length-take-le len name within in
          let yes : (length prefix == len) ≡ true = grind (arith, nat_tests) in
          let no' : true ≡ false = sym yes ∙ e in
          absurd cc

  short : ℕ → Route → Bool
  short len row = begins row.prefix name && nat_lt (length row.prefix) (suc len)

  at_start : (row : Route) → bytes_are_equal row.prefix (take zero name) ≡ short zero row
  unfolding short
  at_start row = by (begins row.prefix name) refl
    where
      by : (b : Bool) → begins row.prefix name ≡ b → bytes_are_equal row.prefix (take zero name) ≡ (b && nat_lt (length row.prefix) 1)
      by true e = at_len row.prefix zero (omega arith) e ∙ one (length row.prefix)
        where
          one : (n : ℕ) → (n == 0) ≡ nat_lt n 1
          one n = grind (arith, nat_tests)
      by false e = unlike row.prefix name zero (omega arith) e

  one_longer : (len : ℕ) → suc len ≤ length name → (row : Route) → (bytes_are_equal row.prefix (take (suc len) name) || short len row) ≡ short (suc len) row
  unfolding short
  one_longer len within row = by (begins row.prefix name) refl
    where
      by : (b : Bool) → begins row.prefix name ≡ b → (bytes_are_equal row.prefix (take (suc len) name) || (b && nat_lt (length row.prefix) (suc len))) ≡ (b && nat_lt (length row.prefix) (suc (suc len)))
      by true e = ap (λ b. b || nat_lt (length row.prefix) (suc len)) (at_len row.prefix (suc len) within e) ∙ next (length row.prefix)
        where
          next : (n : ℕ) → ((n == suc len) || nat_lt n (suc len)) ≡ nat_lt n (suc (suc len))
          next n = grind (arith, nat_tests)
      by false e = ap (λ b. b || false) (unlike row.prefix name (suc len) within e)

  and_parts : (a b : Bool) → (a && b) ≡ true → (a ≡ true) × (b ≡ true)
  and_parts true b e = (refl, e)
  and_parts false b e = absurd cc

  below : (n m : ℕ) → nat_lt n m ≡ true → n < m
  below n m e = grind (arith, nat_tests)

  long_of : (len : ℕ) → len ≤ length name → (row : Route) → bytes_are_equal row.prefix (take len name) ≡ true → length row.prefix ≡ len
  long_of len within row e = ap length ((bytes_decides row.prefix (take len name)).0 e) ∙ length-take-le len name within

  begun_at : (len : ℕ) → len ≤ length name → (row : Route) → bytes_are_equal row.prefix (take len name) ≡ true → begins row.prefix name ≡ true
  begun_at len within row e = ap (λ n. bytes_are_equal row.prefix (take n name)) (long_of len within row e) ∙ e

  not_short : (len : ℕ) → suc len ≤ length name → (row : Route) → bytes_are_equal row.prefix (take (suc len) name) ≡ true → short len row ≡ false
  unfolding short
  not_short len within row e = by (nat_lt (length row.prefix) (suc len)) refl (long_of (suc len) within row e)
    where
      by : (b : Bool) → nat_lt (length row.prefix) (suc len) ≡ b → length row.prefix ≡ suc len → (begins row.prefix name && b) ≡ false
      by true f long = absurd (omega (arith, below (length row.prefix) (suc len) f, long))
      by false f long = last (begins row.prefix name)
        where
          last : (b : Bool) → (b && false) ≡ false
          last true = refl
          last false = refl

  longer_first : (len : ℕ) → suc len ≤ length name → (row other : Route) → short len row ≡ true → bytes_are_equal other.prefix (take (suc len) name) ≡ true → is_lt (falls other.prefix row.prefix) ≡ true
  unfolding short
  longer_first len within row other e f =
      let parts = and_parts (begins row.prefix name) (nat_lt (length row.prefix) (suc len)) e in
      let long = long_of (suc len) within other f in
      ap is_lt (less_prefix name row.prefix other.prefix parts.0 (begun_at (suc len) within other f) (omega (arith, below (length row.prefix) (suc len) parts.1, long)))

  module _ (rows : List Route) (up : Rises (λ one other. is_lt (falls one.prefix other.prefix)) rows) where
    upto : (len : ℕ) → len ≤ length name → rows_upto rows name len ≡ filter (short len) rows
    upto zero within = kept_alike (λ row. bytes_are_equal row.prefix (take zero name)) (short zero) at_start rows
    upto (suc len) within =
        ap (λ list. rows_at rows name (suc len) ++ list) (upto len (omega (arith, within)))
        ∙ parted (λ one other. is_lt (falls one.prefix other.prefix)) (λ row. bytes_are_equal row.prefix (take (suc len) name)) (short len) (short (suc len)) (one_longer len within) (not_short len within) (longer_first len within) rows up

    all_short : (row : Route) → short (length name) row ≡ begins row.prefix name
    unfolding short
    all_short row = by (begins row.prefix name) refl
      where
        by : (b : Bool) → begins row.prefix name ≡ b → (b && nat_lt (length row.prefix) (suc (length name))) ≡ b
        by true e =
            let long : length row.prefix ≤ length name = omega (arith, ap length ((bytes_decides row.prefix (take (length row.prefix) name)).0 e), length-take (length row.prefix) name) in
            grind (arith, nat_tests)
        by false e = refl

    -- the rows that begin the name are tried as they stand
    pub as_they_stand : rows_upto rows name (length name) ≡ rows_for rows name
    as_they_stand = upto (length name) (omega arith) ∙ kept_alike (short (length name)) (λ row. begins row.prefix name) all_short rows
