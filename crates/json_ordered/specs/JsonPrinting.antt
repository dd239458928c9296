-- What the printers have still to add.
use Rattle.std.specs.Prelude.{ℕ, zero, suc, Bool, ◌&&◌, ◌||◌, ◌==◌, not, nat_le, nat_lt, List, [], ◌∷◌, ◌++◌, map}
use Rattle.json_ordered.specs.JsonTree.{JsonTree, items_of, members_of}
use Rattle.std.specs.List.{join_with_byte}
use Rattle.json_ordered.specs.JsonTexts.{in_brackets, in_braces, compact_items, compact_values, compact_members, pretty_items, pretty_members}

-- a byte that the compact form has as it is: ASCII from space on, apart from `"`, `\` and `/`
abbrev pub is_kept : ℕ → Bool
is_kept byte = nat_le 32 byte && (nat_lt byte 128 && not (byte == 34 || byte == 92 || byte == 47))

-- the values of members as a list, and the members with their names
abbrev pub values_text : List (List ℕ × JsonTree) → List ℕ
values_text ms = in_brackets (join_with_byte 44 (compact_values (members_of ms)))

abbrev pub members_text : List (List ℕ × JsonTree) → List ℕ
members_text ms = in_braces (join_with_byte 44 (compact_members (members_of ms)))

-- what stands before an entry: a `,` before each but the first
abbrev pub comma : ℕ → List ℕ
comma zero = []
comma (suc place) = 44 ∷ []

-- the entries from a place on
abbrev pub from_entry : ℕ → List (List ℕ) → List ℕ
from_entry place [] = []
from_entry place (entry ∷ entries) = comma place ++ (entry ++ from_entry (suc place) entries)

abbrev pub compact_from_item : ℕ → List JsonTree → List ℕ
compact_from_item place vs = from_entry place (compact_items (items_of vs))

abbrev pub compact_from_value : ℕ → List (List ℕ × JsonTree) → List ℕ
compact_from_value place ms = from_entry place (compact_values (members_of ms))

abbrev pub compact_from_member : ℕ → List (List ℕ × JsonTree) → List ℕ
compact_from_member place ms = from_entry place (compact_members (members_of ms))

-- the lines of entries, each from its LF on
abbrev pub entry_lines : List ℕ → List (List ℕ) → List (List ℕ)
entry_lines line entries = map (λ text. line ++ text) entries

abbrev pub pretty_from_item : List ℕ → ℕ → List JsonTree → List ℕ
pretty_from_item line place vs = from_entry place (entry_lines line (pretty_items line (items_of vs)))

abbrev pub pretty_from_member : List ℕ → ℕ → List (List ℕ × JsonTree) → List ℕ
pretty_from_member line place ms = from_entry place (entry_lines line (pretty_members line (members_of ms)))
