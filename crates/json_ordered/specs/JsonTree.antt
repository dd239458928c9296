-- JSON values, apart from where they lie in memory.
use Rattle.std.specs.Prelude.{◌≡◌, ℕ, Bool, false, List, [], ◌∷◌, if◌then◌else◌}
use Rattle.std.specs.Str.{IsUtf8}
use Rattle.path_name.specs.Orders.{bytes_are_equal}

-- A value, with the items of an array and the members of an object in order. A number is kept as it is
-- spelled; a string and a name are the bytes of their UTF-8.
mutual
  pub data JsonTree : Type 0 where
    Null : JsonTree
    Boolean : Bool → JsonTree
    Number : List ℕ → JsonTree
    String : List ℕ → JsonTree
    Array : Items → JsonTree
    Object : Members → JsonTree

  pub data Items : Type 0 where
    no_items : Items
    item : JsonTree → Items → Items

  pub data Members : Type 0 where
    no_members : Members
    member : List ℕ → JsonTree → Members → Members

abbrev pub items_of : List JsonTree → Items
items_of [] = no_items
items_of (v ∷ vs) = item v (items_of vs)

abbrev pub members_of : List (List ℕ × JsonTree) → Members
members_of [] = no_members
members_of (m ∷ ms) = member m.0 m.1 (members_of ms)

-- the array of these items, and the object of these members
abbrev pub array_of : List JsonTree → JsonTree
array_of vs = Array (items_of vs)

abbrev pub object_of : List (List ℕ × JsonTree) → JsonTree
object_of ms = Object (members_of ms)

-- the members after one more: a name that is there keeps its place and takes the value, a new one goes last
abbrev pub put : List (List ℕ × JsonTree) → List ℕ → JsonTree → List (List ℕ × JsonTree)
put [] name value = (name, value) ∷ []
put (m ∷ ms) name value = if bytes_are_equal name m.0 then (m.0, value) ∷ ms else m ∷ put ms name value

-- the same for several, one after the other
abbrev pub put_all : List (List ℕ × JsonTree) → List (List ℕ × JsonTree) → List (List ℕ × JsonTree)
put_all done [] = done
put_all done (m ∷ ms) = put_all (put done m.0 m.1) ms

-- a name that none of the members has
abbrev pub IsNewName : List ℕ → Members → Type 0
IsNewName name no_members = Unit {0}
IsNewName name (member other v ms) = (bytes_are_equal name other ≡ false) × IsNewName name ms

-- the names of each object in the value are distinct
abbrev mutual
  pub HasDistinctNames : JsonTree → Type 0
  HasDistinctNames Null = Unit {0}
  HasDistinctNames (Boolean b) = Unit {0}
  HasDistinctNames (Number text) = Unit {0}
  HasDistinctNames (String text) = Unit {0}
  HasDistinctNames (Array items) = EachHasDistinctNames items
  HasDistinctNames (Object members) = AreDistinctNames members

  pub EachHasDistinctNames : Items → Type 0
  EachHasDistinctNames no_items = Unit {0}
  EachHasDistinctNames (item v vs) = HasDistinctNames v × EachHasDistinctNames vs

  pub AreDistinctNames : Members → Type 0
  AreDistinctNames no_members = Unit {0}
  AreDistinctNames (member name v ms) = IsNewName name ms × HasDistinctNames v × AreDistinctNames ms

-- each string and name in the value is UTF-8
abbrev mutual
  pub HasUtf8Texts : JsonTree → Type 0
  HasUtf8Texts Null = Unit {0}
  HasUtf8Texts (Boolean b) = Unit {0}
  HasUtf8Texts (Number text) = Unit {0}
  HasUtf8Texts (String text) = IsUtf8 text
  HasUtf8Texts (Array items) = EachHasUtf8Texts items
  HasUtf8Texts (Object members) = MembersHaveUtf8Texts members

  pub EachHasUtf8Texts : Items → Type 0
  EachHasUtf8Texts no_items = Unit {0}
  EachHasUtf8Texts (item v vs) = HasUtf8Texts v × EachHasUtf8Texts vs

  pub MembersHaveUtf8Texts : Members → Type 0
  MembersHaveUtf8Texts no_members = Unit {0}
  MembersHaveUtf8Texts (member name v ms) = IsUtf8 name × HasUtf8Texts v × MembersHaveUtf8Texts ms
