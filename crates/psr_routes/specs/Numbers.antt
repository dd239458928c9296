-- Names of packages as numbers, which are ordered as the names are.
use Rattle.std.specs.Prelude.{◌≡◌, ℕ, ◌≤◌, Bool, true, false, List, [], ◌∷◌, length, map, if◌then◌else◌, slice_index_or, Vec}
use Rattle.std.specs.Borrow.{Bor}
use Rattle.std.specs.declared.alloc.Global.{Global}
use Rattle.std.specs.List.{AllWithin, list_any, count_by, flat_map}
use Rattle.std.specs.List.Sorted.{IsSorted}
use Rattle.std.specs.Ordering.{is_lt}
use Rattle.path_name.specs.Orders.{byte_cmp, bytes_are_equal}
use Rattle.manifest_read.specs.declared.types.Link.{Link}
use Rattle.psr_routes.specs.declared.types.Placed.{Placed}
use Rattle.psr_routes.specs.declared.needs.Needs.{Needs}

abbrev pub lent : List (Bor (List ℕ)) → List (List ℕ)
lent names = map (λ name. name.now) names

abbrev pub names_of : List Placed → List (List ℕ)
names_of members = map (λ one. one.package.name) members

abbrev pub IsInOrder : List (List ℕ) → Type 0
IsInOrder names = IsSorted byte_cmp names

-- how many of the names are less
abbrev pub number_in : List (List ℕ) → List ℕ → ℕ
number_in names name = count_by (λ other. is_lt (byte_cmp other name)) names

-- those before a place are less, and no others are
abbrev pub IsPointOf : List (List ℕ) → List ℕ → ℕ → Type 0
IsPointOf names name place = (place ≤ length names) × AllWithin (λ other. is_lt (byte_cmp other name) ≡ true) names 0 place × AllWithin (λ other. is_lt (byte_cmp other name) ≡ false) names place (length names)

abbrev pub is_borne : List (List ℕ) → List ℕ → Bool
is_borne names name = list_any (bytes_are_equal name) names

-- the number of a name, where it is one of the names
abbrev pub number_if_borne : List (List ℕ) → List ℕ → List ℕ
number_if_borne names name = if is_borne names name then number_in names name ∷ [] else []

-- the numbers of the names that links require
abbrev pub required_by : List (List ℕ) → List Link → List ℕ
required_by names links = flat_map (λ link. number_if_borne names link.name) links

-- the list at a place of lists
abbrev pub list_at : List (Vec ℕ Global) → ℕ → List ℕ
list_at lists place = slice_index_or (map (λ list. list.items) lists) place []

-- the numbers of packages
pub record IsOf (members : List Placed) (needs : Needs) : Type 0 where
  pub numbers : needs.numbers.items ≡ map (λ one. number_in (names_of members) one.package.name) members
  pub required : map (λ list. list.items) needs.required.items ≡ map (λ one. required_by (names_of members) one.package.require) members
