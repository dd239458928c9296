-- Comments, after the PHP manual's page "Comments".
use Rattle.std.specs.Prelude.{ℕ, Bool, ◌&&◌, ◌||◌, ◌==◌, not, List, [], drop, codes, Option, Some, None, if◌then◌else◌}
use Rattle.php_lex.specs.Places.{begins_with, has_first, first_place, behind, is_line_end}

-- `//`, or `#` that is not followed by `[`
abbrev pub is_line_comment : List ℕ → Bool
is_line_comment text = begins_with (codes "//") text || (has_first (λ b. b == 35) text && not (has_first (λ b. b == 91) (drop 1 text)))

-- `?>`
abbrev pub is_close_tag : List ℕ → Bool
is_close_tag text = begins_with (codes "?>") text

-- `/*` and `*/`
abbrev pub opens_block : List ℕ → Bool
opens_block text = begins_with (codes "/*") text

abbrev pub closes_block : List ℕ → Bool
closes_block text = begins_with (codes "*/") text

-- where a comment of one line ends: at LF or CR, or at `?>`
abbrev pub ends_line : List ℕ → Bool
ends_line text = has_first is_line_end text || is_close_tag text

-- LF or CR, one byte, belongs to the comment, `?>` doesn't
abbrev pub after_line_end : List ℕ → List ℕ
after_line_end text = if has_first is_line_end text then drop 1 text else text

abbrev pub after_line_place : Option (List ℕ) → List ℕ
after_line_place None = []
after_line_place (Some place) = after_line_end place

-- what follows a comment of one line
abbrev pub after_line : List ℕ → List ℕ
after_line text = after_line_place (first_place ends_line text)

-- what follows the first `*/`
abbrev pub after_block : List ℕ → List ℕ
after_block text = behind 2 (first_place closes_block text)

-- What follows the comment that stands here, if one does: of one line from behind its first byte on, of the
-- other kind from behind `/*` on.
abbrev pub comment : List ℕ → Option (List ℕ)
comment text = if is_line_comment text then Some (after_line (drop 1 text))
    else (if opens_block text then Some (after_block (drop 2 text)) else None)
