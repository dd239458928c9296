-- Rows whose prefix is a name's first bytes.
use Rattle.std.proofs.Common.{◌≡◌, ℕ, ◌≤◌, Bool, true, false, cond, List, [], ◌∷◌, length, take, map, All, Bor, IsTrue, refl, ap, subst, ◌∙◌}
use Rattle.std.specs.List.{AllByRecursion}
use Rattle.std.specs.Cmp.Lexicographic.{bytes_decides}
use Rattle.std.proofs.lemmas.List.{get_or-map, length-map, length-take-le}
use Rattle.std.proofs.lemmas.List.Elements.{All-filter, All-from_recursion, recursion_from_All}
use Rattle.path_name.specs.Orders.{bytes_are_equal}
use Rattle.class_paths.specs.declared.types.Route.{Route}
use Rattle.class_paths.specs.declared.types.RouteKind.{RouteKind}
use Rattle.class_paths.specs.RowPath.{begins, is_route_prefix}
use Rattle.class_paths.specs.Candidates.{is_same_kind, of_kind, rows_at}

-- the name's first bytes begin it
first_bytes_begin : (prefix name : List ℕ) (len : ℕ) → len ≤ length name → bytes_are_equal prefix (take len name) ≡ true → begins prefix name ≡ true
first_bytes_begin prefix name len within same =
    let is : prefix ≡ take len name = (bytes_decides prefix (take len name)).0 same in
    let long : length prefix ≡ len = ap length is ∙ length-take-le len name within in
    rw long same

abbrev pub HasPrefix : Route → Type 0
HasPrefix row = IsTrue (is_route_prefix row.kind row.prefix)

-- its prefix is one of its kind, and begins the name
abbrev pub Fits : List ℕ → Route → Type 0
Fits name row = IsTrue (is_route_prefix row.kind row.prefix) × IsTrue (begins row.prefix name)

module _ (name : List ℕ) (len : ℕ) (within : len ≤ length name) where
  next_fits : (t : Bool) (row : Route) (rows : List Route) → bytes_are_equal row.prefix (take len name) ≡ t → HasPrefix row → AllByRecursion (Fits name) rows → AllByRecursion (Fits name) (cond t (row ∷ rows) rows)
  next_fits true row rows same whole fit = ((whole, first_bytes_begin row.prefix name len within same), fit)
  next_fits false row rows same whole fit = fit

  kept_fit : (rows : List Route) → AllByRecursion HasPrefix rows → AllByRecursion (Fits name) (rows_at rows name len)
  kept_fit [] whole = tt
  kept_fit (row ∷ rows) whole = next_fits (bytes_are_equal row.prefix (take len name)) row (rows_at rows name len) refl whole.0 (kept_fit rows whole.1)

  pub group_fits : (kind : RouteKind) (rows : List Route) → All HasPrefix rows → All (Fits name) (rows_at (of_kind kind rows) name len)
  group_fits kind rows whole =
      All-from_recursion (Fits name) (rows_at (of_kind kind rows) name len)
      (kept_fit (of_kind kind rows) (recursion_from_All HasPrefix (of_kind kind rows) (All-filter (λ row. is_same_kind kind row.kind) HasPrefix rows whole)))

-- the rows that a group lends
pub all_lent : (P : Route → Type 0) (rows : List (Bor Route)) → All P (map (λ row. row.now) rows) → All (λ row. P row.now) rows
all_lent P rows all k d below = subst P (get_or-map (λ (row : Bor Route). row.now) rows k d d.now below) (all k d.now (rw length-map below))
