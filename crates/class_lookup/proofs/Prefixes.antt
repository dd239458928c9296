-- Prefixes of a table that begin a name.
use Rattle.std.proofs.Common.{◌≡◌, ℕ, ◌≤◌, Bool, true, false, cond, List, [], ◌∷◌, ◌++◌, length, take, map, All, Bor, IsTrue, refl, sym, ap, subst, ◌∙◌, inl, inr}
use Rattle.std.specs.List.{AllByRecursion}
use Rattle.std.specs.Cmp.Lexicographic.{bytes_decides}
use Rattle.std.proofs.lemmas.Bool.{false≢true}
use Rattle.std.proofs.lemmas.Bool.Decides.{eqb_tells}
use Rattle.std.proofs.lemmas.List.{get_or-map, length-map, length-take-le}
use Rattle.std.proofs.lemmas.List.Elements.{All-from_recursion, recursion_from_All}
use Rattle.path_name.specs.Orders.{bytes_are_equal}
use Rattle.table_scan.specs.declared.types.PrefixRow.{PrefixRow}
use Rattle.table_scan.specs.TableGrammar.{is_whole}
use Rattle.class_paths.specs.declared.types.RouteKind.TheVariants.{Psr4}
use Rattle.class_paths.specs.RowPath.{begins, is_route_prefix}
use Rattle.class_lookup.specs.Groups.{table_rows_at}

-- a whole text that isn't empty ends in `\`
whole_end : (byte : ℕ) (rest : List ℕ) → is_whole (byte ∷ rest) ≡ true → (front : List ℕ) × (byte ∷ rest ≡ front ++ 92 ∷ [])
whole_end byte [] whole = elim (eqb_tells byte 92) [ inl e ↦ ([], ap (λ b. b ∷ []) e.1) | inr e ↦ absurd (false≢true (sym e.0 ∙ whole)) ]
whole_end byte (next ∷ more) whole =
    let back = whole_end next more whole in
    (byte ∷ back.0, ap (λ all. byte ∷ all) back.1)

-- the name's first bytes begin it
first_bytes_begin : (prefix name : List ℕ) (len : ℕ) → len ≤ length name → bytes_are_equal prefix (take len name) ≡ true → begins prefix name ≡ true
first_bytes_begin prefix name len within same =
    let is : prefix ≡ take len name = (bytes_decides prefix (take len name)).0 same in
    let long : length prefix ≡ len = ap length is ∙ length-take-le len name within in
    rw long same

-- a row whose prefix is one of PSR-4 and begins the name
abbrev pub Fits : List ℕ → PrefixRow → Type 0
Fits name row = IsTrue (is_route_prefix Psr4 row.prefix) × IsTrue (begins row.prefix name)

module _ (empty : IsTrue (is_route_prefix Psr4 [])) (ended : (front : List ℕ) → IsTrue (is_route_prefix Psr4 (front ++ 92 ∷ []))) where
  whole_prefix : (prefix : List ℕ) → is_whole prefix ≡ true → is_route_prefix Psr4 prefix ≡ true
  whole_prefix [] whole = empty
  whole_prefix (byte ∷ rest) whole =
      let back = whole_end byte rest whole in
      ap (is_route_prefix Psr4) back.1 ∙ ended back.0

  module _ (name : List ℕ) (len : ℕ) (within : len ≤ length name) where
    next_fits : (t : Bool) (row : PrefixRow) (rows : List PrefixRow) → bytes_are_equal row.prefix (take len name) ≡ t → is_whole row.prefix ≡ true
        → AllByRecursion (Fits name) rows → AllByRecursion (Fits name) (cond t (row ∷ rows) rows)
    next_fits true row rows same whole fit = ((whole_prefix row.prefix whole, first_bytes_begin row.prefix name len within same), fit)
    next_fits false row rows same whole fit = fit

    kept_fit : (rows : List PrefixRow) → AllByRecursion (λ row. IsTrue (is_whole row.prefix)) rows → AllByRecursion (Fits name) (table_rows_at rows name len)
    kept_fit [] whole = tt
    kept_fit (row ∷ rows) whole = next_fits (bytes_are_equal row.prefix (take len name)) row (table_rows_at rows name len) refl whole.0 (kept_fit rows whole.1)

    pub group_fits : (rows : List PrefixRow) → All (λ row. IsTrue (is_whole row.prefix)) rows → All (Fits name) (table_rows_at rows name len)
    group_fits rows whole = All-from_recursion (Fits name) (table_rows_at rows name len) (kept_fit rows (recursion_from_All (λ row. IsTrue (is_whole row.prefix)) rows whole))

-- the rows that a group lends
pub all_lent : (P : PrefixRow → Type 0) (rows : List (Bor PrefixRow)) → All P (map (λ row. row.now) rows) → All (λ row. P row.now) rows
all_lent P rows all k d below = subst P (get_or-map (λ (row : Bor PrefixRow). row.now) rows k d d.now below) (all k d.now (rw length-map below))
