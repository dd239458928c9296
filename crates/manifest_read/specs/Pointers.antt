-- JSON pointers (RFC 6901): reference tokens, each behind a `/`, in which `~0` stands for `~` and `~1` for `/`.
use Rattle.std.specs.Prelude.{◌≡◌, ℕ, List, [], ◌∷◌, ◌++◌, map, ◌==◌, ◌&&◌, if◌then◌else◌}
use Rattle.std.specs.List.{flat_map, slice_split}
use Rattle.path_name.specs.Decimals.{decimal_text}
use Rattle.path_name.specs.Paths.{is_slash}
use Rattle.manifest_read.specs.declared.key.Key.{Key}
use Rattle.manifest_read.specs.Keys.{key_text}

abbrev pub escaped_byte : ℕ → List ℕ
escaped_byte byte = if byte == 126 then 126 ∷ 48 ∷ [] else (if byte == 47 then 126 ∷ 49 ∷ [] else byte ∷ [])

abbrev pub escaped : List ℕ → List ℕ
escaped token = flat_map escaped_byte token

-- the pointer of the value that has this name in the object at a pointer
unfoldable pub below : List ℕ → List ℕ → List ℕ
below at token = at ++ 47 ∷ escaped token

-- the same for a key, and for an item of an array, which is named by its number from 0
abbrev pub at_key : List ℕ → Key → List ℕ
at_key at key = below at (key_text key)

abbrev pub at_item : List ℕ → ℕ → List ℕ
at_item at i = below at (decimal_text i)

-- ---- what a pointer says, read as RFC 6901 reads it

-- `~1` stands for `/`, and `~0` for `~`
abbrev pub unescaped : List ℕ → List ℕ
unescaped [] = []
unescaped (byte ∷ []) = byte ∷ []
unescaped (byte ∷ next ∷ rest) = if byte == 126 && next == 48 then 126 ∷ unescaped rest else (if byte == 126 && next == 49 then 47 ∷ unescaped rest else byte ∷ unescaped (next ∷ rest))

-- nothing, or a text that begins with `/`
abbrev pub IsPointer : List ℕ → Type 0
IsPointer [] = Unit {0}
IsPointer (first ∷ rest) = first ≡ 47

-- its reference tokens: what stands between the `/`
abbrev pub tokens_of : List ℕ → List (List ℕ)
tokens_of [] = []
tokens_of (first ∷ rest) = map unescaped (slice_split is_slash rest)
