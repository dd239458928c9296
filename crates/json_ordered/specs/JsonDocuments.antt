-- Which values some JSON text has.
use Rattle.std.specs.Prelude.{ℕ, suc, ◌≤◌, max}
use Rattle.json_ordered.specs.JsonTree.{JsonTree, Null, Boolean, Number, String, Array, Object, Items, no_items, item, Members, no_members, member, HasDistinctNames, HasUtf8Texts}
use Rattle.json_ordered.specs.Json.{IsNumber}

-- how many levels of arrays and objects the value has
abbrev mutual
  pub depth_of : JsonTree → ℕ
  depth_of Null = 0
  depth_of (Boolean b) = 0
  depth_of (Number text) = 0
  depth_of (String text) = 0
  depth_of (Array items) = suc (items_depth items)
  depth_of (Object members) = suc (members_depth members)

  pub items_depth : Items → ℕ
  items_depth no_items = 0
  items_depth (item v vs) = max (depth_of v) (items_depth vs)

  pub members_depth : Members → ℕ
  members_depth no_members = 0
  members_depth (member name v ms) = max (depth_of v) (members_depth ms)

-- each number in the value is spelled as one
abbrev mutual
  pub HasNumbers : JsonTree → Type 0
  HasNumbers Null = Unit {0}
  HasNumbers (Boolean b) = Unit {0}
  HasNumbers (Number text) = IsNumber text
  HasNumbers (String text) = Unit {0}
  HasNumbers (Array items) = EachHasNumbers items
  HasNumbers (Object members) = MembersHaveNumbers members

  pub EachHasNumbers : Items → Type 0
  EachHasNumbers no_items = Unit {0}
  EachHasNumbers (item v vs) = HasNumbers v × EachHasNumbers vs

  pub MembersHaveNumbers : Members → Type 0
  MembersHaveNumbers no_members = Unit {0}
  MembersHaveNumbers (member name v ms) = HasNumbers v × MembersHaveNumbers ms

-- Some text with at most so many levels open anywhere has this value: a law says that these are just the
-- values that texts have.
pub record IsDocument (levels : ℕ) (tree : JsonTree) : Type 0 where
  pub distinct : HasDistinctNames tree
  pub texts : HasUtf8Texts tree
  pub numbers : HasNumbers tree
  pub depth : depth_of tree ≤ levels
