-- Where quoted elements open, after the PHP manual's page "Strings": single quotes, double quotes and
-- backticks, heredocs and nowdocs.
use Rattle.std.specs.Prelude.{ℕ, Bool, ◌&&◌, ◌==◌, not, List, [], ◌∷◌, length, drop, codes, Option, Some, None, if◌then◌else◌}
use Rattle.path_name.specs.Bytes.{starts_identifier, continues_identifier}
use Rattle.php_lex.specs.Places.{begins_with, has_first, run_of, after_run, is_space, is_line_end}

-- What can be open: a quoted element, or nested code in one.
pub data Element : Type 0 where
  Single : Element  -- in `'`
  Double : ℕ → Element  -- in `"` or backticks, by that byte
  Nowdoc : List ℕ → Element  -- by its label
  Heredoc : List ℕ → Element  -- by its label
  Nested : Element  -- code between `{` and `}`

-- an element, and what follows its opening
pub record Opened : Type 0 where
  pub element : Element
  pub inside : List ℕ

-- A label: an identifier, then its closing quote if it has one, then a line's end, at which the inside begins.
abbrev pub is_labelled : List ℕ → List ℕ → Bool
is_labelled [] text = has_first starts_identifier text && has_first is_line_end (after_run continues_identifier text)
is_labelled (quote ∷ more) text = (has_first starts_identifier text && has_first (λ b. b == quote) (after_run continues_identifier text))
    && has_first is_line_end (drop 1 (after_run continues_identifier text))

abbrev pub labelled : List ℕ → (List ℕ → Element) → List ℕ → Option Opened
labelled quote kind text = if is_labelled quote text
    then Some (record { element = kind (run_of continues_identifier text); inside = drop (length quote) (after_run continues_identifier text) }) else None

-- a label in single quotes, in double quotes, or bare
abbrev pub label : List ℕ → Option Opened
label text = if has_first (λ b. b == 39) text then labelled (39 ∷ []) Nowdoc (drop 1 text)
    else (if has_first (λ b. b == 34) text then labelled (34 ∷ []) Heredoc (drop 1 text)
    else labelled [] Heredoc text)

-- `<<<`
abbrev pub opens_heredoc : List ℕ → Bool
opens_heredoc text = begins_with (codes "<<<") text

-- `<<<`, spaces and tabs, and a label
abbrev pub heredoc : List ℕ → Option Opened
heredoc text = if opens_heredoc text then label (after_run is_space (drop 3 text)) else None

-- the quoted element that opens here, if one does
abbrev pub quoted : List ℕ → Option Opened
quoted text = if has_first (λ b. b == 39) text then Some (record { element = Single; inside = drop 1 text })
    else (if has_first (λ b. b == 34) text then Some (record { element = Double 34; inside = drop 1 text })
    else (if has_first (λ b. b == 96) text then Some (record { element = Double 96; inside = drop 1 text })
    else heredoc text))

-- From a line's end: what follows the label, where the next line begins with it, after spaces and tabs, and
-- no identifier's byte comes behind it.
abbrev pub closing_line : List ℕ → List ℕ → Option (List ℕ)
closing_line label line = if begins_with label line && not (has_first continues_identifier (drop (length label) line)) then Some (drop (length label) line) else None

abbrev pub closing : List ℕ → List ℕ → Option (List ℕ)
closing label text = if has_first is_line_end text then closing_line label (after_run is_space (drop 1 text)) else None
