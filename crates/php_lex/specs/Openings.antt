-- The openings of quoted elements in the lexer's own words.
use Rattle.std.specs.Prelude.{◌≡◌, ℕ, ◌<◌, ◌≤◌, List, length, drop, Option, Some, None}
use Rattle.std.specs.Borrow.{Bor}
use Rattle.php_lex.specs.declared.opening.Opening.{Opening}
use Rattle.php_lex.specs.declared.opening.Opening.TheVariants as openings
use Rattle.php_lex.specs.Quotes.{Element, Single, Double, Nowdoc, Heredoc, Opened, labelled}

-- the element that an opening opens
abbrev pub element_of : Opening → Element
element_of openings.Single = Single
element_of openings.Double = Double 34
element_of openings.Backtick = Double 96
element_of (openings.Nowdoc label) = Nowdoc label.now
element_of (openings.Heredoc label) = Heredoc label.now

abbrev pub IsOpening : List ℕ → Option (Opening × ℕ) → Option Opened → Type 0
IsOpening text None wanted = wanted ≡ None
IsOpening text (Some x) wanted = (0 < x.1) × (x.1 ≤ length text) × (wanted ≡ Some (record { element = element_of x.0; inside = drop x.1 text }))

-- behind so many bytes a label before this quote, of whatever kind of element
abbrev pub IsLabelled : List ℕ → List ℕ → ℕ → Option (Bor (List ℕ) × ℕ) → Type 0
IsLabelled quote text from None = (kind : List ℕ → Element) → labelled quote kind (drop from text) ≡ None
IsLabelled quote text from (Some x) = (0 < x.1) × (x.1 ≤ length text)
    × ((kind : List ℕ → Element) → labelled quote kind (drop from text) ≡ Some (record { element = kind x.0.now; inside = drop x.1 text }))
