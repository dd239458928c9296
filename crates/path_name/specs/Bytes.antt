-- Kinds of bytes. Letters are ASCII letters.
use Rattle.std.specs.Prelude.{ℕ, List, [], ◌∷◌, Bool, false, ◌&&◌, ◌||◌, ◌==◌, nat_le, map}
use Rattle.std.specs.List.{list_all}
use Rattle.std.specs.Char.{to_ascii_lowercase}

-- from low to high, both with it
abbrev pub is_between : ℕ → ℕ → ℕ → Bool
is_between low high byte = nat_le low byte && nat_le byte high

-- space, tab, LF or CR
abbrev pub is_blank : ℕ → Bool
is_blank byte = byte == 32 || byte == 9 || byte == 10 || byte == 13

-- `0` to `9`
abbrev pub is_digit : ℕ → Bool
is_digit byte = is_between 48 57 byte

-- `A` to `Z`, `a` to `z`
abbrev pub is_letter : ℕ → Bool
is_letter byte = is_between 65 90 byte || is_between 97 122 byte

-- An identifier's bytes, by the PHP manual's pattern [a-zA-Z_\x80-\xff][a-zA-Z0-9_\x80-\xff]*.
abbrev pub starts_identifier : ℕ → Bool
starts_identifier byte = is_letter byte || byte == 95 || nat_le 128 byte

abbrev pub continues_identifier : ℕ → Bool
continues_identifier byte = starts_identifier byte || is_digit byte

abbrev pub is_identifier : List ℕ → Bool
is_identifier [] = false
is_identifier (first ∷ rest) = starts_identifier first && list_all continues_identifier rest

-- a letter's small form; another byte is kept
abbrev pub lower : ℕ → ℕ
lower byte = to_ascii_lowercase byte

abbrev pub lowered : List ℕ → List ℕ
lowered text = map lower text
