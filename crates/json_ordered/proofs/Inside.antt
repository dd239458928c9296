-- What holds of a value holds of what is inside it.
use Rattle.std.proofs.Common.{◌≡◌, ℕ, Bool, true, false, cond, List, Option, Some, None, subst}
use Rattle.path_name.specs.Orders.{bytes_are_equal}
use Rattle.json_ordered.specs.JsonTree.{JsonTree, Null, Boolean, Number, String, Array, Object, Members, no_members, member, HasUtf8Texts, MembersHaveUtf8Texts}
use Rattle.json_ordered.specs.JsonParts.{value_among, value_at}

abbrev IfText : Option JsonTree → Type 0
IfText None = Unit {0}
IfText (Some v) = HasUtf8Texts v

pick : (b : Bool) (x y : Option JsonTree) → IfText x → IfText y → IfText (cond b x y)
pick true x y h k = h
pick false x y h k = k

among : (ms : Members) (name : List ℕ) → MembersHaveUtf8Texts ms → IfText (value_among ms name)
among no_members name h = tt
among (member other v ms) name h = pick (bytes_are_equal name other) (Some v) (value_among ms name) h.1 (among ms name h.2)

inside : (v : JsonTree) (name : List ℕ) → HasUtf8Texts v → IfText (value_at v name)
inside Null name h = tt
inside (Boolean b) name h = tt
inside (Number text) name h = tt
inside (String text) name h = tt
inside (Array items) name h = tt
inside (Object members) name h = among members name h

pub texts_inside : (v w : JsonTree) (name : List ℕ) → value_at v name ≡ Some w → HasUtf8Texts v → HasUtf8Texts w
texts_inside v w name e h = subst IfText e (inside v name h)
