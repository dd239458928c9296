-- Links: what a package requires, replaces, provides, and can't be installed with (Composer's documentation, "Package links").
use Rattle.std.specs.Prelude.{ℕ, Bool, List, [], ◌∷◌, ◌++◌, Option, Some, Result, Ok, Err, if◌then◌else◌}
use Rattle.std.specs.List.{list_any}
use Rattle.path_name.specs.Given.{◌>>=◌}
use Rattle.path_name.specs.Bytes.{lowered}
use Rattle.path_name.specs.Orders.{bytes_are_equal}
use Rattle.json_ordered.specs.JsonTree.{JsonTree}
use Rattle.version_norm.specs.declared.version.Version.{Version}
use Rattle.constraint_set.specs.declared.constraint.Constraint.{Constraint}
use Rattle.constraint_set.specs.declared.fault.ConstraintFault.{ConstraintFault}
use Rattle.constraint_set.specs.declared.fault.ConstraintFault.TheVariants as constraint_faults
use Rattle.constraint_set.specs.Constraints.{constraint_of}
use Rattle.manifest_read.specs.declared.fault.FieldFault.{FieldFault}
use Rattle.manifest_read.specs.declared.fault.FieldFault.TheVariants.{BadField, NotOffered, OutOfMemory}
use Rattle.manifest_read.specs.declared.key.Key.{Key}
use Rattle.manifest_read.specs.declared.types.Link.{Link}
use Rattle.manifest_read.specs.Keys.{Pairs, value_at}
use Rattle.manifest_read.specs.Pointers.{below, at_key}
use Rattle.manifest_read.specs.Values.{text_at, object_at, if_there, each}
use Rattle.manifest_read.specs.Names.{is_link_name}

-- ---- names that are equal in small letters are one repeated name: it keeps its first place and takes its last value

abbrev pub is_same_name : List ℕ × JsonTree → List ℕ × JsonTree → Bool
is_same_name a b = bytes_are_equal (lowered a.0) (lowered b.0)

-- the last pair of this one's name, among those that follow it and itself
abbrev pub last_of : List ℕ × JsonTree → Pairs → List ℕ × JsonTree
last_of pair [] = pair
last_of pair (next ∷ pairs) = last_of (if is_same_name pair next then next else pair) pairs

-- in the place of each pair whose name is new, the last one of that name
unfoldable pub kept_behind : Pairs → Pairs → Pairs
kept_behind before [] = []
kept_behind before (pair ∷ pairs) = if list_any (is_same_name pair) before then kept_behind (before ++ pair ∷ []) pairs else last_of pair pairs ∷ kept_behind (before ++ pair ∷ []) pairs

abbrev pub kept : Pairs → Pairs
kept pairs = kept_behind [] pairs

-- the last pair of a name in small letters, or the one that was found before
abbrev pub last_named : Option (List ℕ × JsonTree) → List ℕ → Pairs → Option (List ℕ × JsonTree)
last_named found name [] = found
last_named found name (pair ∷ pairs) = last_named (if bytes_are_equal name (lowered pair.0) then Some pair else found) name pairs

-- ---- one link

unfoldable pub link_name_at : List ℕ → List ℕ → Result (List ℕ) FieldFault
link_name_at pointer written = if is_link_name (lowered written) then Ok (lowered written) else Err (BadField pointer)

abbrev pub constraint_or_fault : List ℕ → Result Constraint ConstraintFault → Result Constraint FieldFault
constraint_or_fault pointer (Ok wants) = Ok wants
constraint_or_fault pointer (Err (constraint_faults.InlineAlias at)) = Err (NotOffered pointer)
constraint_or_fault pointer (Err (constraint_faults.BadConstraint at)) = Err (BadField pointer)
constraint_or_fault pointer (Err constraint_faults.OutOfMemory) = Err OutOfMemory

unfoldable pub constraint_at : List ℕ → Version → List ℕ → Result Constraint FieldFault
constraint_at pointer own text = constraint_or_fault pointer (constraint_of text own)

unfoldable pub link_at : Version → List ℕ → List ℕ × JsonTree → Result Link FieldFault
link_at own at pair = do
  name ← link_name_at (below at pair.0) pair.0
  text ← text_at (below at pair.0) pair.1
  wants ← constraint_at (below at pair.0) own text
  Ok (record { name = name; text = text; wants = wants })

-- ---- the links of a key

unfoldable pub links_in : Version → List ℕ → JsonTree → Result (List Link) FieldFault
links_in own pointer v = do
  pairs ← object_at pointer v
  each (link_at own pointer) (kept pairs)

unfoldable pub links_of : Version → List ℕ → Pairs → Key → Result (List Link) FieldFault
links_of own at pairs key = if_there (value_at pairs key) (Ok []) (links_in own (at_key at key))
