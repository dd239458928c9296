-- Values of JSON by their form, or the fault at their pointer.
use Rattle.std.specs.Prelude.{ℕ, Bool, List, [], ◌∷◌, Option, Some, None, Result, Ok}
use Rattle.std.specs.Option.{ok_or}
use Rattle.path_name.specs.Given.{◌>>=◌}
use Rattle.json_ordered.specs.JsonTree.{JsonTree, Array, Object, Items, no_items, item, Members, no_members, member}
use Rattle.json_ordered.specs.JsonParts.{boolean_in, string_in}
use Rattle.manifest_read.specs.declared.fault.FieldFault.{FieldFault}
use Rattle.manifest_read.specs.declared.fault.FieldFault.TheVariants.{BadField}
use Rattle.manifest_read.specs.Keys.{Pairs}

abbrev pub list_of_items : Items → List JsonTree
list_of_items no_items = []
list_of_items (item v vs) = v ∷ list_of_items vs

abbrev pub pairs_of_members : Members → Pairs
pairs_of_members no_members = []
pairs_of_members (member name v ms) = (name, v) ∷ pairs_of_members ms

-- the items of an array
abbrev pub items_in : JsonTree → Option (List JsonTree)
items_in (Array vs) = Some (list_of_items vs)
items_in _ = None

-- the pairs of an object; an empty array is taken for an empty object
abbrev pub pairs_in : JsonTree → Option Pairs
pairs_in (Object ms) = Some (pairs_of_members ms)
pairs_in (Array no_items) = Some []
pairs_in _ = None

-- a value of a form, or a bad field at its pointer
unfoldable pub text_at : List ℕ → JsonTree → Result (List ℕ) FieldFault
text_at pointer v = ok_or (string_in v) (BadField pointer)

unfoldable pub list_at : List ℕ → JsonTree → Result (List JsonTree) FieldFault
list_at pointer v = ok_or (items_in v) (BadField pointer)

unfoldable pub object_at : List ℕ → JsonTree → Result Pairs FieldFault
object_at pointer v = ok_or (pairs_in v) (BadField pointer)

unfoldable pub boolean_at : List ℕ → JsonTree → Result Bool FieldFault
boolean_at pointer v = ok_or (boolean_in v) (BadField pointer)

-- what a value gives, and what stands for a key that is missing
abbrev pub if_there : {X : Type 0} → Option JsonTree → X → (JsonTree → X) → X
if_there None missing read = missing
if_there (Some v) missing read = read v

-- each of a list, in order; the first refusal is the answer
unfoldable pub each : {X Y : Type 0} → (X → Result Y FieldFault) → List X → Result (List Y) FieldFault
each read [] = Ok []
each read (x ∷ xs) = do
  y ← read x
  ys ← each read xs
  Ok (y ∷ ys)
