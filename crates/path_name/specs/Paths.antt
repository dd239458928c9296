-- Paths below a root: the list of segments from the root, and the texts that are read as one.
use Rattle.std.specs.Prelude.{◌≡◌, ℕ, ◌+◌, List, [], ◌∷◌, ◌++◌, length, take, Bool, ◌&&◌, ◌||◌, not, ◌==◌, if◌then◌else◌, IsTrue, Option, Some, None, Result, Ok, Err}
use Rattle.std.specs.List.{list_all, slice_split, join_with_byte}
use Rattle.std.specs.Option.{ok_or}
use Rattle.std.specs.Str.{is_utf8}
use Rattle.path_name.specs.Given.{◌>>=◌}
use Rattle.path_name.specs.Orders.{bytes_are_equal}
use Rattle.path_name.specs.declared.fault.PathFault.{PathFault}
use Rattle.path_name.specs.declared.fault.PathFault.TheVariants.{BadSegment, AboveRoot}

abbrev pub is_slash : ℕ → Bool
is_slash byte = byte == 47

abbrev pub has_no_slash : List ℕ → Bool
has_no_slash part = list_all (λ byte. not (is_slash byte)) part

-- UTF-8, without a NUL
abbrev pub is_clean : List ℕ → Bool
is_clean part = is_utf8 part && list_all (λ byte. not (byte == 0)) part

-- nothing, or `.`: the folder that it stands in
abbrev pub is_here : List ℕ → Bool
is_here part = bytes_are_equal part [] || bytes_are_equal part (46 ∷ [])

-- `..`: the folder above
abbrev pub is_above : List ℕ → Bool
is_above part = bytes_are_equal part (46 ∷ 46 ∷ [])

-- A segment is the name of an entry: UTF-8 without NUL and `/`, and neither empty nor `.` nor `..`.
abbrev pub is_segment : List ℕ → Bool
is_segment part = is_clean part && has_no_slash part && not (is_here part) && not (is_above part)

-- the segments of a path
abbrev pub IsPath : List (List ℕ) → Type 0
IsPath segments = IsTrue (list_all is_segment segments)

-- A path's text is its segments joined by `/`, and `.` for the root.
abbrev pub path_text : List (List ℕ) → List ℕ
path_text [] = 46 ∷ []
path_text (first ∷ rest) = join_with_byte 47 (first ∷ rest)

-- the head is a prefix of the path by segments
abbrev pub BeginsWith : List (List ℕ) → List (List ℕ) → Type 0
BeginsWith path head = (rest : List (List ℕ)) × (path ≡ head ++ rest)

-- the text joins the segments behind those of the head
abbrev pub IsBehind : List (List ℕ) → List (List ℕ) → List ℕ → Type 0
IsBehind path head text = (rest : List (List ℕ)) × (path ≡ head ++ rest) × (text ≡ join_with_byte 47 rest)

-- the segments behind those of one head, behind another head
abbrev pub IsMoved : List (List ℕ) → List (List ℕ) → List (List ℕ) → List (List ℕ) → Type 0
IsMoved path from to moved = (rest : List (List ℕ)) × (path ≡ from ++ rest) × (moved ≡ to ++ rest)

-- the path's last segment
abbrev pub EndsWith : List (List ℕ) → List ℕ → Type 0
EndsWith path segment = (front : List (List ℕ)) × (path ≡ front ++ segment ∷ [])

-- all but the last; there is none in an empty list
abbrev pub without_last : List (List ℕ) → Option (List (List ℕ))
without_last [] = None
without_last (first ∷ rest) = Some (take (length rest) (first ∷ rest))

-- the parts of a text between its `/`, each with the place of its first byte
abbrev pub placed : ℕ → List (List ℕ) → List (ℕ × List ℕ)
placed at [] = []
placed at (part ∷ parts) = (at, part) ∷ placed (at + length part + 1) parts

abbrev pub parts_of : List ℕ → List (ℕ × List ℕ)
parts_of text = placed 0 (slice_split is_slash text)

-- What a part leaves of the segments before it: an empty part and `.` all, `..` all but the last, and
-- any other part adds itself. None: a `..` has nothing to take away.
abbrev pub entered : List (List ℕ) → List ℕ → Option (List (List ℕ))
entered before part = if is_here part then Some before else if is_above part then without_last before else Some (before ++ part ∷ [])

-- what a part makes of the path before it, or the fault in it
abbrev pub path_step : List (List ℕ) → ℕ × List ℕ → Result (List (List ℕ)) PathFault
path_step before part = if is_clean part.1 then ok_or (entered before part.1) (AboveRoot part.0) else Err (BadSegment part.0)

-- Parts are read from the left by a step, and the first fault counts. A part that a later `..` takes
-- away is looked at too.
abbrev pub read_parts : {S : Type 0} → (S → ℕ × List ℕ → Result S PathFault) → S → List (ℕ × List ℕ) → Result S PathFault
read_parts step before [] = Ok before
read_parts step before (part ∷ parts) = step before part >>= λ after. read_parts step after parts

-- the path that a text names, or its fault
unfoldable pub path_of : List ℕ → Result (List (List ℕ)) PathFault
path_of text = read_parts path_step [] (parts_of text)

-- the path that a text leads to from another one, or its fault
unfoldable pub followed : List (List ℕ) → List ℕ → Result (List (List ℕ)) PathFault
followed start text = read_parts path_step start (parts_of text)
