-- Packages that wait, by their places and the numbers of their names.
use Rattle.std.specs.Prelude.{◌≡◌, ◌⊎◌, ℕ, ◌<◌, ◌≤◌, List, [], length, filter, Bool, true, false, ◌==◌, if◌then◌else◌, slice_index_or, nat_lt}
use Rattle.std.specs.List.{Contains, count_by, enumerate_from}
use Rattle.std.specs.Ordering.{nat_cmp, ordering_then, is_gt}
use Rattle.std.specs.BTreeSet.{BTreeSet, contains, IsOrdered}
use Rattle.std.specs.declared.cmp.Ordering.{Ordering}
use Rattle.psr_routes.specs.declared.types.Placed.{Placed}
use Rattle.psr_routes.specs.declared.needs.Needs.{Needs}
use Rattle.psr_routes.specs.declared.queue.Queue.{Queue}
use Rattle.psr_routes.specs.PackageOrder.{Numbered}
use Rattle.psr_routes.specs.Numbers.{list_at}

-- the number of a package's name, and its place
abbrev pub Key : Type 0
Key = ℕ × ℕ

abbrev pub key_cmp : Key → Key → Ordering
key_cmp one other = ordering_then (nat_cmp one.0 other.0) (nat_cmp one.1 other.1)

abbrev pub is_in : BTreeSet Key → Key → Bool
is_in set key = contains key_cmp set key

-- ---- what packages require

abbrev pub count_of : Needs → ℕ
count_of needs = length needs.numbers.items

abbrev pub number_at : Needs → ℕ → ℕ
number_at needs place = slice_index_or needs.numbers.items place 0

abbrev pub required_at : Needs → ℕ → List ℕ
required_at needs place = list_at needs.required.items place

abbrev pub key_of : Needs → ℕ → Key
key_of needs place = (number_at needs place, place)

-- there is a number and a list for each package, and each number is below how many they are
pub record Fits (needs : Needs) : Type 0 where
  pub lists : length needs.required.items ≡ count_of needs
  pub numbers : (place : ℕ) → place < count_of needs → number_at needs place < count_of needs
  pub required : (place at : ℕ) → place < count_of needs → at < length (required_at needs place) → slice_index_or (required_at needs place) at 0 < count_of needs

-- ---- the packages that remain

-- the members that remain, with their places
abbrev pub remaining : List Placed → Needs → Queue → List Numbered
remaining members needs queue = filter (λ one. is_in queue.rest (key_of needs one.0)) (enumerate_from 0 members)

-- Where so many packages that remain bear each name, a package of one name waits for another name: its own one is to
-- be borne by two.
abbrev pub is_awaited : List ℕ → ℕ → ℕ → Bool
is_awaited bearers number name = nat_lt (if number == name then 1 else 0) (slice_index_or bearers name 0)

abbrev pub awaits : Needs → Queue → ℕ → ℕ → Bool
awaits needs queue place at = is_awaited queue.bearers.items (number_at needs place) (slice_index_or (required_at needs place) at 0)

abbrev pub passed_at : Queue → ℕ → ℕ
passed_at queue place = slice_index_or queue.passed.items place 0

-- a package waits for the first name that it is not known not to wait for, and is parked there
pub record IsParked (needs : Needs) (queue : Queue) (place : ℕ) : Type 0 where
  pub within : passed_at queue place < length (required_at needs place)
  pub awaits : awaits needs queue place (passed_at queue place) ≡ true
  pub there : Contains (list_at queue.parked.items (slice_index_or (required_at needs place) (passed_at queue place) 0)) place

-- there is an item for each package
pub record IsLong (count : ℕ) (queue : Queue) : Type 0 where
  pub bearers : length queue.bearers.items ≡ count
  pub passed : length queue.passed.items ≡ count
  pub parked : length queue.parked.items ≡ count

-- what is kept of each package and of each name
pub record Keeps (needs : Needs) (queue : Queue) : Type 0 where
  pub long : IsLong (count_of needs) queue
  pub sorted : IsOrdered key_cmp queue.rest
  pub members : (key : Key) → is_in queue.rest key ≡ true → (key.1 < count_of needs) × (key.0 ≡ number_at needs key.1)
  pub counted : (name : ℕ) → name < count_of needs → slice_index_or queue.bearers.items name 0 ≡ count_by (λ key. key.0 == name) queue.rest.keys
  pub passed : (place at : ℕ) → place < count_of needs → at < passed_at queue place → (at < length (required_at needs place)) × (awaits needs queue place at ≡ false)
  pub ready : (key : Key) → is_in queue.ready key ≡ true → (is_in queue.rest key ≡ true) × (passed_at queue key.1 ≡ length (required_at needs key.1))
  pub parked : (name place : ℕ) → Contains (list_at queue.parked.items name) place → place < count_of needs

-- Each package that remains is ready, or parked, or among those that are to be looked at.
pub record Waits (needs : Needs) (queue : Queue) (unseen : List ℕ) : Type 0 where
  pub fits : Fits needs
  pub keeps : Keeps needs queue
  pub looks : (place : ℕ) → Contains unseen place → place < count_of needs
  pub waits : (place : ℕ) → place < count_of needs → is_in queue.rest (key_of needs place) ≡ true → (is_in queue.ready (key_of needs place) ≡ true) ⊎ IsParked needs queue place ⊎ Contains unseen place

-- the names that a package is known not to wait for
pub record Passes (needs : Needs) (queue : Queue) (place at : ℕ) : Type 0 where
  pub within : place < count_of needs
  pub from : passed_at queue place ≤ at
  pub upto : at ≤ length (required_at needs place)
  pub not_awaited : (k : ℕ) → passed_at queue place ≤ k → k < at → awaits needs queue place k ≡ false

-- ---- the next one

-- a key of a set, and none is less
pub record IsFirst (set : BTreeSet Key) (key : Key) : Type 0 where
  pub within : is_in set key ≡ true
  pub least : (other : Key) → is_in set other ≡ true → is_gt (key_cmp key other) ≡ false

-- the first of those that are ready, or where none is, of all
abbrev pub IsNext : Queue → Key → Type 0
IsNext queue key = IsFirst queue.ready key ⊎ ((queue.ready.keys ≡ []) × IsFirst queue.rest key)

-- a queue without packages
pub record IsBlank (count : ℕ) (queue : Queue) : Type 0 where
  pub long : IsLong count queue
  pub rest : queue.rest.keys ≡ []
  pub ready : queue.ready.keys ≡ []
  pub bearers : (name : ℕ) → slice_index_or queue.bearers.items name 0 ≡ 0
  pub passed : (place : ℕ) → passed_at queue place ≡ 0
  pub parked : (name : ℕ) → list_at queue.parked.items name ≡ []
  pub unseen : queue.unseen.items ≡ []

-- what a new queue has after so many packages: these, each to be looked at
pub record Holds (needs : Needs) (queue : Queue) (count : ℕ) : Type 0 where
  pub long : IsLong (count_of needs) queue
  pub sorted : IsOrdered key_cmp queue.rest
  pub members : (key : Key) → is_in queue.rest key ≡ true → (key.1 < count) × (key.0 ≡ number_at needs key.1)
  pub all : (place : ℕ) → place < count → (is_in queue.rest (key_of needs place) ≡ true) × Contains queue.unseen.items place
  pub looks : (place : ℕ) → Contains queue.unseen.items place → place < count
  pub counted : (name : ℕ) → name < count_of needs → slice_index_or queue.bearers.items name 0 ≡ count_by (λ key. key.0 == name) queue.rest.keys
  pub few : (name : ℕ) → slice_index_or queue.bearers.items name 0 ≤ count
  pub ready : queue.ready.keys ≡ []
  pub passed : (place : ℕ) → passed_at queue place ≡ 0
  pub parked : (name : ℕ) → list_at queue.parked.items name ≡ []
