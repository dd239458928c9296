-- The text in which a `Path` keeps its segments: joined by `/`, and nothing for the root.
use Rattle.std.specs.Prelude.{◌≡◌, ◌≢◌, ℕ, ◌+◌, ◌-◌, ◌<◌, ◌≤◌, List, [], ◌∷◌, ◌++◌, length, take, ◌==◌, if◌then◌else◌, slice_index}
use Rattle.std.specs.List.{slice_split}
use Rattle.std.specs.Ordering.{nat_cmp}
use Rattle.std.specs.Cmp.Lexicographic.{slice_cmp}
use Rattle.std.specs.declared.cmp.Ordering.{Ordering}
use Rattle.path_name.specs.Paths.{is_slash}

abbrev pub segments_of : List ℕ → List (List ℕ)
segments_of [] = []
segments_of (byte ∷ bytes) = slice_split is_slash (byte ∷ bytes)

-- `/` before every other byte: texts compared so stand in path order
abbrev pub rank : ℕ → ℕ
rank byte = if byte == 47 then 0 else byte + 1

abbrev pub rank_cmp : ℕ → ℕ → Ordering
rank_cmp a b = nat_cmp (rank a) (rank b)

abbrev pub joined_cmp : List ℕ → List ℕ → Ordering
joined_cmp = slice_cmp rank_cmp

-- a `/` stands there
abbrev pub IsSlashAt : List ℕ → ℕ → Type 0
IsSlashAt text at = (at < length text) × (slice_index text at ≡ 47)

-- no `/` stands there or behind it
abbrev pub HasNoSlash : List ℕ → ℕ → Type 0
HasNoSlash text from = (k : ℕ) → from ≤ k → k < length text → slice_index text k ≢ 47

-- what stands before the next segment
abbrev pub set_off : List ℕ → List ℕ
set_off [] = []
set_off (byte ∷ bytes) = (byte ∷ bytes) ++ 47 ∷ []

-- nothing follows a segment, or a `/` does
abbrev pub IsSetOff : List ℕ → Type 0
IsSetOff [] = Unit {0}
IsSetOff (byte ∷ bytes) = byte ≡ 47

-- the text's first bytes hold all segments but the last ones, as many as up says
abbrev pub IsAncestor : List ℕ → ℕ → ℕ → Type 0
IsAncestor joined up len = (len ≤ length joined) × (segments_of (take len joined) ≡ take (length (segments_of joined) - up) (segments_of joined))

-- what follows a segment is nothing, or a `/` and the rest
abbrev pub IsRestOf : List ℕ → List ℕ → Type 0
IsRestOf [] rest = rest ≡ []
IsRestOf (byte ∷ bytes) rest = (byte ≡ 47) × (rest ≡ bytes)
