-- Lengths of texts in place of what follows.
use Rattle.std.specs.Prelude.{◌≡◌, ℕ, Bool, ◌<◌, ◌≤◌, List, ◌∷◌, length, drop, Option, Some, None}
use Rattle.php_lex.specs.declared.lexeme.LexKind.{LexKind}
use Rattle.php_lex.specs.declared.lexeme.LexKind.TheVariants as kinds
use Rattle.php_lex.specs.declared.opening.Opening.{Opening as CodeOpening}
use Rattle.php_lex.specs.Lexemes.{Taken, Whole, Opening, taken}
use Rattle.php_lex.specs.Openings.{element_of}
use Rattle.php_lex.specs.Cut.{First}

-- the length up to there, of something that has a byte at least
abbrev pub IsLengthOf : List ℕ → Option ℕ → Option (List ℕ) → Type 0
IsLengthOf text None wanted = wanted ≡ None
IsLengthOf text (Some len) wanted = (0 < len) × (len ≤ length text) × (wanted ≡ Some (drop len text))

-- a lexeme of this kind and length is what a rule takes
abbrev pub IsWhole : List ℕ → (LexKind × ℕ) → Taken → Type 0
IsWhole text x wanted = (0 < x.1) × (x.1 ≤ length text) × (wanted ≡ Whole x.0 (drop x.1 text))

-- a mark stands first
abbrev pub IsMark : List ℕ → Type 0
IsMark text = (1 ≤ length text) × (taken text ≡ Whole kinds.Mark (drop 1 text))

-- whatever stands behind the next byte
abbrev pub IsMarkBefore : ℕ → ℕ → Type 0
IsMarkBefore byte next = (rest : List ℕ) → IsMark (byte ∷ next ∷ rest)

-- a quoted element opens in code, and so many bytes lead into it
abbrev pub Opens : List ℕ → CodeOpening → ℕ → Type 0
Opens text opening len = (0 < len) × (len ≤ length text) × (taken text ≡ Opening (record { element = element_of opening; inside = drop len text }))

-- the lexeme that stands first, by its length
abbrev pub IsFirst : Bool → List ℕ → (LexKind × ℕ) → Type 0
IsFirst in_code text x = (0 < x.1) × (x.1 ≤ length text) × First in_code text x.0 (drop x.1 text)
