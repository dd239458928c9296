-- Quoted elements as trees, whose children are the nested code in them and the quoted elements in that.
use Rattle.std.specs.Prelude.{◌≡◌, ℕ, suc, Bool, ◌&&◌, ◌||◌, ◌==◌, List, [], ◌∷◌, drop, Option, Some, None, if◌then◌else◌}
use Rattle.php_lex.specs.Places.{has_first, is_line_end}
use Rattle.php_lex.specs.Comments.{comment}
use Rattle.php_lex.specs.Quotes.{Element, Single, Double, Nowdoc, Heredoc, Nested, Opened, quoted, closing}

-- What stands first inside an element, and what follows it.
pub data Piece : Type 0 where
  Close : List ℕ → Piece  -- what closes the element
  Plain : List ℕ → Piece  -- what belongs to it and opens nothing
  Child : Element → List ℕ → Piece  -- what opens an element inside it
  Missing : Piece  -- the text ends

-- `{$` and `${` open nested code, which begins with the second of the two bytes or behind it
abbrev pub opens_code : ℕ → List ℕ → Bool
opens_code b text = (b == 123 && has_first (λ c. c == 36) text) || (b == 36 && has_first (λ c. c == 123) text)

abbrev pub interpolated : ℕ → List ℕ → Piece
interpolated b text = if opens_code b text then Child Nested (drop 1 text) else Plain text

-- `\` takes the next byte with it
abbrev pub double_piece : ℕ → ℕ → List ℕ → Piece
double_piece quote b text = if b == quote then Close text else (if b == 92 then Plain (drop 1 text) else interpolated b text)

abbrev pub single_piece : ℕ → List ℕ → Piece
single_piece b text = if b == 39 then Close text else (if b == 92 then Plain (drop 1 text) else Plain text)

-- in a heredoc not LF or CR
abbrev pub after_escape : List ℕ → List ℕ
after_escape text = if has_first is_line_end text then text else drop 1 text

abbrev pub closed_or : Option (List ℕ) → Piece → Piece
closed_or (Some rest) other = Close rest
closed_or None other = other

abbrev pub heredoc_piece : ℕ → List ℕ → Piece
heredoc_piece b text = if b == 92 then Plain (after_escape text) else interpolated b text

-- In nested code stand comments, quoted elements, and braces in pairs; nothing else counts there.
abbrev pub brace_piece : ℕ → List ℕ → Piece
brace_piece b text = if b == 123 then Child Nested text else (if b == 125 then Close text else Plain text)

abbrev pub quoted_or : Option Opened → Piece → Piece
quoted_or (Some o) other = Child o.element o.inside
quoted_or None other = other

abbrev pub comment_or : Option (List ℕ) → Piece → Piece
comment_or (Some rest) other = Plain rest
comment_or None other = other

unfoldable pub piece_in : Element → List ℕ → Piece
piece_in element [] = Missing
piece_in Single (b ∷ text) = single_piece b text
piece_in (Double quote) (b ∷ text) = double_piece quote b text
piece_in (Nowdoc label) (b ∷ text) = closed_or (closing label (b ∷ text)) (Plain text)
piece_in (Heredoc label) (b ∷ text) = closed_or (closing label (b ∷ text)) (heredoc_piece b text)
piece_in Nested (b ∷ text) = comment_or (comment (b ∷ text)) (quoted_or (quoted (b ∷ text)) (brace_piece b text))

-- how many further quoted elements may be open in a child, of those that may be open here: nested code takes none of them
abbrev pub Allows : ℕ → Element → ℕ → Type 0
Allows levels Nested inner = inner ≡ levels
Allows levels Single inner = levels ≡ suc inner
Allows levels (Double quote) inner = levels ≡ suc inner
Allows levels (Nowdoc label) inner = levels ≡ suc inner
Allows levels (Heredoc label) inner = levels ≡ suc inner

-- From inside an element: what follows its end. The first number is how many further quoted elements may be
-- open in it at once.
pub data Ends : ℕ → Element → List ℕ → List ℕ → Type 0 where
  close : {levels : ℕ} {element : Element} {text rest : List ℕ} → piece_in element text ≡ Close rest → Ends levels element text rest
  plain : {levels : ℕ} {element : Element} {text next rest : List ℕ} → piece_in element text ≡ Plain next → Ends levels element next rest → Ends levels element text rest
  child : {levels inner : ℕ} {element opened : Element} {text next after rest : List ℕ} → piece_in element text ≡ Child opened next
      → Allows levels opened inner → Ends inner opened next after → Ends levels element after rest → Ends levels element text rest
