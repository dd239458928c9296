-- Prefixes of class names (PSR-4, 2; Composer's documentation, "autoload").
use Rattle.std.specs.Prelude.{ℕ, List, Bool, true, ◌==◌, ◌-◌, Option, Some, None, length, slice_get}

abbrev pub is_backslash : ℕ → Bool
is_backslash byte = byte == 92

abbrev pub is_end_of_prefix : Option ℕ → Bool
is_end_of_prefix None = true
is_end_of_prefix (Some byte) = is_backslash byte

-- empty, or it ends in `\`
unfoldable pub is_psr4_prefix : List ℕ → Bool
is_psr4_prefix prefix = is_end_of_prefix (slice_get prefix (length prefix - 1))
