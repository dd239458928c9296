-- The order of packages: what a package requires comes before it.
use Rattle.std.specs.Prelude.{◌≡◌, ◌≢◌, ℕ, zero, suc, ◌<◌, List, [], ◌∷◌, length, map, filter, find, Bool, not, ◌&&◌, ◌==◌, Option, Some, IsTrue}
use Rattle.std.specs.List.{list_any, enumerate_from, slice_get}
use Rattle.std.specs.Option.{option_or, option_map_or}
use Rattle.std.specs.Ordering.{is_lt}
use Rattle.path_name.specs.Orders.{bytes_are_equal, byte_cmp}
use Rattle.manifest_read.specs.declared.types.Package.{Package}
use Rattle.psr_routes.specs.declared.types.Placed.{Placed}

-- a package with its place in the list of all
abbrev pub Numbered : Type 0
Numbered = ℕ × Placed

-- one package's `require` has the other's name
abbrev pub requires : Package → Package → Bool
requires one other = list_any (λ link. bytes_are_equal link.name other.name) one.require

-- one package waits for another one. None waits for itself.
abbrev pub waits_for : Numbered → Numbered → Bool
waits_for one other = not (one.0 == other.0) && requires one.1.package other.1.package

-- all that it requires is taken: it waits for none of those that remain
abbrev pub is_ready : List Numbered → Numbered → Bool
is_ready remaining one = not (list_any (waits_for one) remaining)

abbrev pub is_less : Numbered → Numbered → Bool
is_less one other = is_lt (byte_cmp one.1.package.name other.1.package.name)

-- the least name in byte order; of equal names the first
abbrev pub least_of : List Numbered → Option Numbered
least_of some = find (λ one. not (list_any (λ other. is_less other one) some)) some

-- The next package is the one of the least name among those that are ready, and where none is, among all that remain.
abbrev pub next_of : List Numbered → Option Numbered
next_of remaining = option_or (least_of (filter (is_ready remaining) remaining)) (least_of remaining)

abbrev pub without : ℕ → List Numbered → List Numbered
without place remaining = filter (λ one. not (one.0 == place)) remaining

-- as many packages as count says, each the next of those that remain
unfoldable pub taken_from : ℕ → List Numbered → List Numbered
taken_from zero remaining = []
taken_from (suc count) remaining = option_map_or (λ next. next ∷ taken_from count (without next.0 remaining)) (next_of remaining) []

-- the packages in their order, each with its place
unfoldable pub ordered : List Placed → List Numbered
ordered members = taken_from (length members) (enumerate_from 0 members)

-- the places of the packages in their order
abbrev pub package_order_of : List Placed → List ℕ
package_order_of members = map (λ one. one.0) (ordered members)

-- ---- words of its laws

-- one of two places holds a package that requires another one, which stands at the other place
pub record Requires (members : List Placed) (place other : ℕ) : Type 0 where
  pub one : Placed
  pub needed : Placed
  pub at : slice_get members place ≡ Some one
  pub needed_at : slice_get members other ≡ Some needed
  pub apart : place ≢ other
  pub has_name : IsTrue (requires one.package needed.package)

-- No chain of requirements leads from a package to itself: each has a rank above those of what it requires.
abbrev pub HasNoCycle : List Placed → Type 0
HasNoCycle members = (rank : ℕ → ℕ) × ((place other : ℕ) → Requires members place other → rank other < rank place)

-- one number stands before another in a list
abbrev pub StandsBefore : List ℕ → ℕ → ℕ → Type 0
StandsBefore order first second = (i : ℕ) × (j : ℕ) × (i < j) × (slice_get order i ≡ Some first) × (slice_get order j ≡ Some second)
