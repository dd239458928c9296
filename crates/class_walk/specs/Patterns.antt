-- Patterns of what a search for classes leaves out (Composer's documentation, "exclude-from-classmap").
use Rattle.std.specs.Prelude.{◌≡◌, ℕ, List, [], ◌∷◌, ◌++◌, Bool, true, false, not, ◌&&◌, ◌||◌, ◌==◌, if◌then◌else◌, Option, Some, None, filter, IsTrue}
use Rattle.std.specs.List.{slice_split, join_with_byte, list_any, Contains}
use Rattle.path_name.specs.Paths.{is_slash, has_no_slash, IsBehind}
use Rattle.tree_dev.specs.Trees.{behind}
use Rattle.class_walk.specs.declared.pattern.Pattern.{Pattern}
use Rattle.class_walk.specs.declared.pattern.PatternPart.{PatternPart}
use Rattle.class_walk.specs.declared.pattern.PatternPart.TheVariants as kinds

-- ---- the pattern of a text

abbrev pub is_filled : List ℕ → Bool
is_filled [] = false
is_filled (byte ∷ bytes) = true

-- `/` at the ends are cut, and `/` in a row are one
unfoldable pub cleaned : List ℕ → List ℕ
cleaned text = join_with_byte 47 (filter is_filled (slice_split is_slash text))

abbrev pub is_star : ℕ → Bool
is_star byte = byte == 42

abbrev pub star_or_byte : ℕ → PatternPart
star_or_byte byte = if is_star byte then kinds.Within else kinds.Byte byte

-- two `*` in a row, taken from the left, are one part
abbrev pub parts_of : List ℕ → List PatternPart
parts_of [] = []
parts_of (byte ∷ []) = star_or_byte byte ∷ []
parts_of (byte ∷ next ∷ rest) = if is_star byte && is_star next then kinds.Across ∷ parts_of rest else star_or_byte byte ∷ parts_of (next ∷ rest)

unfoldable pub pattern_of : List (List ℕ) → List ℕ → Pattern
pattern_of folder text = record { folder = folder; parts = parts_of (cleaned text) }

-- ---- what it matches, for some cutting of the text

abbrev pub IsTakenBy : PatternPart → List ℕ → Type 0
IsTakenBy (kinds.Byte byte) piece = piece ≡ byte ∷ []
IsTakenBy kinds.Within piece = IsTrue (is_filled piece) × IsTrue (has_no_slash piece)
IsTakenBy kinds.Across piece = IsTrue (is_filled piece)

-- each part takes a piece of the text
abbrev pub Matches : List PatternPart → List ℕ → Type 0
Matches [] text = text ≡ []
Matches (part ∷ parts) text = (piece : List ℕ) × (rest : List ℕ) × (text ≡ piece ++ rest) × IsTakenBy part piece × Matches parts rest

-- a text's end, or a `/`
abbrev pub is_end : List ℕ → Bool
is_end [] = true
is_end (byte ∷ rest) = is_slash byte

-- the parts match the text from its first byte up to its end or up to a `/`
abbrev pub MatchesFront : List PatternPart → List ℕ → Type 0
MatchesFront parts text = (front : List ℕ) × (rest : List ℕ) × (text ≡ front ++ rest) × IsTrue (is_end rest) × Matches parts front

-- A file is excluded where it lies below the pattern's folder, and the pattern matches its path from there.
abbrev pub IsExcludedBy : Pattern → List (List ℕ) → Type 0
IsExcludedBy pattern path = (text : List ℕ) × IsBehind path pattern.folder text × IsTrue (is_filled text) × MatchesFront pattern.parts text

abbrev pub IsExcluded : List Pattern → List (List ℕ) → Type 0
IsExcluded patterns path = (pattern : Pattern) × Contains patterns pattern × IsExcludedBy pattern path

-- ---- the same by looking at each byte once a part

-- whether a part takes a byte, by whether what follows the part matches behind it, and whether the part itself goes on there
abbrev pub is_taken : PatternPart → ℕ → Bool → Bool → Bool
is_taken (kinds.Byte wanted) byte follows goes_on = byte == wanted && follows
is_taken kinds.Within byte follows goes_on = not (is_slash byte) && (follows || goes_on)
is_taken kinds.Across byte follows goes_on = follows || goes_on

abbrev pub matches_front : List PatternPart → List ℕ → Bool
matches_front [] text = is_end text
matches_front (part ∷ parts) [] = false
matches_front (part ∷ parts) (byte ∷ text) = is_taken part byte (matches_front parts text) (matches_front (part ∷ parts) text)

abbrev pub matches_below : List PatternPart → Option (List (List ℕ)) → Bool
matches_below parts None = false
matches_below parts (Some below) = is_filled (join_with_byte 47 below) && matches_front parts (join_with_byte 47 below)

unfoldable pub is_excluded_by : Pattern → List (List ℕ) → Bool
is_excluded_by pattern path = matches_below pattern.parts (behind pattern.folder path)

unfoldable pub is_excluded : List Pattern → List (List ℕ) → Bool
is_excluded patterns path = list_any (λ pattern. is_excluded_by pattern path) patterns
