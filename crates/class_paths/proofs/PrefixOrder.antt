-- Prefixes that begin one name, and rows of other prefixes.
use Rattle.std.proofs.Common.{◌≡◌, ℕ, zero, suc, ◌<◌, ◌≤◌, Bool, true, false, cond, List, [], ◌∷◌, ◌++◌, length, take, map, filter, IsTrue, refl, sym, ap, ◌∙◌, arith}
use Rattle.std.specs.Prelude.{◌&&◌}
use Rattle.std.specs.Cmp.Lexicographic.{bytes_decides}
use Rattle.std.specs.Ordering.{nat_cmp}
use Rattle.std.specs.declared.cmp.Ordering.TheVariants.{Less, Equal}
use Rattle.std.proofs.lemmas.Bool.{false≢true}
use Rattle.std.proofs.lemmas.List.{length-take}
use Rattle.path_name.specs.Orders.{bytes_are_equal, byte_cmp}
use Rattle.class_paths.specs.declared.types.RouteKind.{RouteKind}
use Rattle.class_paths.specs.declared.types.RouteKind.TheVariants.{Psr4, Psr0}
use Rattle.class_paths.specs.declared.types.Route.{Route}
use Rattle.class_paths.specs.RowPath.{row_path_of, begins}
use Rattle.class_paths.specs.Candidates.{is_same_kind, of_kind, rows_at, rows_upto, is_of, candidates_of}

-- ---- prefixes of one name

-- a prefix that begins a name is its first bytes
pub first_bytes : (prefix name : List ℕ) → IsTrue (begins prefix name) → prefix ≡ take (length prefix) name
first_bytes prefix name begun = (bytes_decides prefix (take (length prefix) name)).0 begun

pub same_prefix : (name prefix other : List ℕ) → IsTrue (begins prefix name) → IsTrue (begins other name) → length prefix ≡ length other → prefix ≡ other
same_prefix name prefix other begun also long = first_bytes prefix name begun ∙ ap (λ n. take n name) long ∙ sym (first_bytes other name also)

itself : (byte : ℕ) → nat_cmp byte byte ≡ Equal
itself byte = grind arith

less_bytes : (name : List ℕ) (few more : ℕ) → few < more → more ≤ length name → byte_cmp (take few name) (take more name) ≡ Less
less_bytes [] few more less within = absurd (omega (arith, less, within))
less_bytes (byte ∷ name) zero zero less within = absurd (omega (arith, less))
less_bytes (byte ∷ name) zero (suc more) less within = refl
less_bytes (byte ∷ name) (suc few) zero less within = absurd (omega (arith, less))
less_bytes (byte ∷ name) (suc few) (suc more) less within =
    rw (itself byte) (less_bytes name few more (omega (arith, less)) (omega (arith, within)))

pub less_prefix : (name prefix longer : List ℕ) → IsTrue (begins prefix name) → IsTrue (begins longer name) → length prefix < length longer → byte_cmp prefix longer ≡ Less
less_prefix name prefix longer begun also less =
    let first = first_bytes prefix name begun in
    let second = first_bytes longer name also in
    let within : length longer ≤ length name = omega (arith, ap length second ∙ length-take (length longer) name) in
    ap (λ p. byte_cmp p longer) first ∙ ap (byte_cmp (take (length prefix) name)) second ∙ less_bytes name (length prefix) (length longer) less within

-- ---- rows whose prefix is none of a name's first bytes

pub unlike : (prefix name : List ℕ) (len : ℕ) → len ≤ length name → begins prefix name ≡ false → bytes_are_equal prefix (take len name) ≡ false
unlike prefix name len within miss = by (bytes_are_equal prefix (take len name)) refl
  where
    by : (t : Bool) → bytes_are_equal prefix (take len name) ≡ t → t ≡ false
    by true e =
        let is = (bytes_decides prefix (take len name)).0 e in
        let long : length prefix ≡ len = omega (arith, within, ap length is ∙ length-take len name) in
        absurd (false≢true (sym miss ∙ ap (λ n. bytes_are_equal prefix (take n name)) long ∙ e))
    by false e = refl

module _ {X : Type 0} (p q : X → Bool) where
  left_out : (t : Bool) (x : X) (xs : List X) → p x ≡ false → filter p (cond t (x ∷ xs) xs) ≡ filter p xs
  left_out true x xs miss = rw miss refl
  left_out false x xs miss = refl

  kept_on : (t : Bool) (x : X) (xs ys : List X) → filter p xs ≡ filter p ys → filter p (cond t (x ∷ xs) xs) ≡ filter p (cond t (x ∷ ys) ys)
  kept_on true x xs ys e = ap (λ zs. cond (p x) (x ∷ zs) zs) e
  kept_on false x xs ys e = e

  -- an item that one of two filters drops
  pub dropped : (before behind : List X) (x : X) → p x ≡ false → filter p (filter q (before ++ x ∷ behind)) ≡ filter p (filter q (before ++ behind))
  dropped [] behind x miss = left_out (q x) x (filter q behind) miss
  dropped (y ∷ before) behind x miss = kept_on (q y) y (filter q (before ++ x ∷ behind)) (filter q (before ++ behind)) (dropped before behind x miss)

  both_ways : (t : Bool) (x : X) (xs : List X) (all : List X) → filter p xs ≡ all → filter p (cond t (x ∷ xs) xs) ≡ cond (t && p x) (x ∷ all) all
  both_ways true x xs all e = ap (λ zs. cond (p x) (x ∷ zs) zs) e
  both_ways false x xs all e = e

  -- two filters are one
  pub filter_twice : (xs : List X) → filter p (filter q xs) ≡ filter (λ x. q x && p x) xs
  filter_twice [] = refl
  filter_twice (x ∷ xs) = both_ways (q x) x (filter q xs) (filter (λ y. q y && p y) xs) (filter_twice xs)

-- ---- candidates by the rows of each length

pub same_upto : (rows others : List Route) (name : List ℕ) (len : ℕ) → ((n : ℕ) → n ≤ len → rows_at rows name n ≡ rows_at others name n) → rows_upto rows name len ≡ rows_upto others name len
same_upto rows others name zero each = each 0 (omega arith)
same_upto rows others name (suc len) each = rw (each (suc len) (omega arith), same_upto rows others name len (λ n below. each n (omega (arith, below)))) refl

pub same_candidates : (rows others : List Route) (name : List ℕ) → ((kind : RouteKind) (len : ℕ) → len ≤ length name → rows_at (of_kind kind rows) name len ≡ rows_at (of_kind kind others) name len) → candidates_of rows name ≡ candidates_of others name
unfolding candidates_of
same_candidates rows others name each =
    let first = same_upto (of_kind Psr4 rows) (of_kind Psr4 others) name (length name) (each Psr4) in
    let second = same_upto (of_kind Psr0 rows) (of_kind Psr0 others) name (length name) (each Psr0) in
    ap (map (λ row. row_path_of row name)) (ap (λ some. some ++ rows_upto (of_kind Psr0 rows) name (length name)) first ∙ ap (λ some. rows_upto (of_kind Psr4 others) name (length name) ++ some) second)

pub row_added : (before behind : List Route) (row : Route) (name : List ℕ) → begins row.prefix name ≡ false → candidates_of (before ++ row ∷ behind) name ≡ candidates_of (before ++ behind) name
row_added before behind row name miss =
    same_candidates (before ++ row ∷ behind) (before ++ behind) name
    (λ kind len within. dropped (λ r. bytes_are_equal r.prefix (take len name)) (λ r. is_same_kind kind r.kind) before behind row (unlike row.prefix name len within miss))

pub at_prefix : (rows : List Route) (kind : RouteKind) (prefix : List ℕ) → filter (λ row. bytes_are_equal row.prefix prefix) (of_kind kind rows) ≡ filter (is_of kind prefix) rows
at_prefix rows kind prefix = filter_twice (λ row. bytes_are_equal row.prefix prefix) (λ row. is_same_kind kind row.kind) rows

pub rows_merged : (rows others : List Route) (name : List ℕ) → ((kind : RouteKind) (prefix : List ℕ) → filter (is_of kind prefix) rows ≡ filter (is_of kind prefix) others) → candidates_of rows name ≡ candidates_of others name
rows_merged rows others name each =
    same_candidates rows others name (λ kind len within. at_prefix rows kind (take len name) ∙ each kind (take len name) ∙ sym (at_prefix others kind (take len name)))
