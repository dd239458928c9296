-- The packages of a lock and of installed.json: lists in which no two packages have one name.
use Rattle.std.specs.Prelude.{◌≡◌, ℕ, Bool, List, [], ◌∷◌, ◌++◌, Result, Ok, Err, if◌then◌else◌}
use Rattle.std.specs.List.{list_any, enumerate_from}
use Rattle.std.specs.BTreeSet.{BTreeSet, contains}
use Rattle.path_name.specs.Given.{◌>>=◌}
use Rattle.path_name.specs.Orders.{byte_cmp, bytes_are_equal}
use Rattle.json_ordered.specs.JsonTree.{JsonTree}
use Rattle.manifest_read.specs.declared.fault.FieldFault.{FieldFault}
use Rattle.manifest_read.specs.declared.fault.FieldFault.TheVariants.{BadField}
use Rattle.manifest_read.specs.declared.key.Key.{Key}
use Rattle.manifest_read.specs.Keys.{Pairs, value_at}
use Rattle.manifest_read.specs.Pointers.{at_key, at_item}
use Rattle.manifest_read.specs.Values.{list_at, if_there}

-- the name is one of the list
abbrev pub is_among : List ℕ → List (List ℕ) → Bool
is_among name names = list_any (bytes_are_equal name) names

-- How an entry at a pointer is read, and what its package is called.
module _ {Y : Type 0} (read : List ℕ → JsonTree → Result Y FieldFault) (name : Y → List ℕ) where
  -- an entry behind packages of these names; one of a name that is among them is a bad field, once it is read
  unfoldable pub entry_behind : List (List ℕ) → List ℕ → JsonTree → Result Y FieldFault
  entry_behind before pointer v = do
    entry ← read pointer v
    if is_among (name entry) before then Err (BadField pointer) else Ok entry

  -- entries with their numbers, behind packages of these names
  unfoldable pub entries_behind : List (List ℕ) → List ℕ → List (ℕ × JsonTree) → Result (List Y) FieldFault
  entries_behind before at [] = Ok []
  entries_behind before at (n ∷ ns) = do
    entry ← entry_behind before (at_item at n.0) n.1
    entries ← entries_behind (before ++ name entry ∷ []) at ns
    Ok (entry ∷ entries)

  unfoldable pub entries_in : List (List ℕ) → List ℕ → JsonTree → Result (List Y) FieldFault
  entries_in before pointer v = do
    items ← list_at pointer v
    entries_behind before pointer (enumerate_from 0 items)

  -- the entries of a key, which must be there
  unfoldable pub entries_of : List (List ℕ) → List ℕ → Pairs → Key → Result (List Y) FieldFault
  entries_of before at pairs key = if_there (value_at pairs key) (Err (BadField (at_key at key))) (entries_in before (at_key at key))

-- the set holds these names and no others
abbrev pub Holds : BTreeSet (List ℕ) → List (List ℕ) → Type 0
Holds seen names = (name : List ℕ) → contains byte_cmp seen name ≡ is_among name names
