-- What a value is, and the parts of it.
use Rattle.std.specs.Prelude.{ℕ, Bool, true, false, List, Option, Some, None, if◌then◌else◌}
use Rattle.path_name.specs.Orders.{bytes_are_equal}
use Rattle.json_ordered.specs.JsonTree.{JsonTree, Null, Boolean, Number, String, Array, Object, Members, no_members, member}

abbrev pub is_null : JsonTree → Bool
is_null Null = true
is_null _ = false

abbrev pub boolean_in : JsonTree → Option Bool
boolean_in (Boolean b) = Some b
boolean_in _ = None

abbrev pub number_in : JsonTree → Option (List ℕ)
number_in (Number text) = Some text
number_in _ = None

abbrev pub string_in : JsonTree → Option (List ℕ)
string_in (String text) = Some text
string_in _ = None

abbrev pub IsNoArray : JsonTree → Type 0
IsNoArray (Array _) = ⊥
IsNoArray _ = Unit {0}

abbrev pub IsNoObject : JsonTree → Type 0
IsNoObject (Object _) = ⊥
IsNoObject _ = Unit {0}

-- the value that a name has in an object, that of the first member with the name; other values have none
abbrev pub value_among : Members → List ℕ → Option JsonTree
value_among no_members name = None
value_among (member other v ms) name = if bytes_are_equal name other then Some v else value_among ms name

abbrev pub value_at : JsonTree → List ℕ → Option JsonTree
value_at (Object members) name = value_among members name
value_at _ name = None
