-- The pieces inside an element in the lexer's own words: lengths in place of what follows.
use Rattle.std.specs.Prelude.{◌≡◌, ℕ, ◌<◌, ◌≤◌, Bool, ◌&&◌, ◌||◌, ◌==◌, List, length, drop, Option, Some, None}
use Rattle.php_lex.specs.declared.piece.Piece.{Piece as CodePiece}
use Rattle.php_lex.specs.declared.piece.Piece.TheVariants as pieces
use Rattle.php_lex.specs.Places.{has_first}
use Rattle.php_lex.specs.Quotes.{Element, Nested}
use Rattle.php_lex.specs.Elements.{Piece, Close, Child, piece_in, Ends}
use Rattle.php_lex.specs.Openings.{element_of}

-- `{$` or `${` stands here
abbrev pub opens_code_at : List ℕ → Bool
opens_code_at text = (has_first (λ b. b == 123) text && has_first (λ b. b == 36) (drop 1 text)) || (has_first (λ b. b == 36) text && has_first (λ b. b == 123) (drop 1 text))

-- two places of which an element that is open at both has the same end
pub record SameEnd (element : Element) (text later : List ℕ) : Type 0 where
  pub on : (levels : ℕ) (rest : List ℕ) → Ends levels element text rest → Ends levels element later rest
  pub back : (levels : ℕ) (rest : List ℕ) → Ends levels element later rest → Ends levels element text rest

-- so many bytes lead to a place of the same end
pub record Passes (element : Element) (text : List ℕ) (len : ℕ) : Type 0 where
  pub some : 0 < len
  pub within : len ≤ length text
  pub same : SameEnd element text (drop len text)

-- so many bytes lead behind a piece, before which nothing opens or closes
pub record Arrives (element : Element) (text : List ℕ) (len : ℕ) (piece : List ℕ → Piece) : Type 0 where
  pub place : List ℕ
  pub some : 0 < len
  pub within : len ≤ length text
  pub same : SameEnd element text place
  pub is_piece : piece_in element place ≡ piece (drop len text)

abbrev pub IsPiece : Element → List ℕ → CodePiece → Type 0
IsPiece element text (pieces.Plain len) = Passes element text len
IsPiece element text (pieces.Closed len) = Arrives element text len Close
IsPiece element text (pieces.Nested len) = Arrives element text len (Child Nested)
IsPiece element text (pieces.Quoted opening len) = Arrives element text len (Child (element_of opening))

-- from inside an element, the length up to its end, or None where it has no end
abbrev pub EndsAt : ℕ → Element → List ℕ → Option ℕ → Type 0
EndsAt levels element text None = (rest : List ℕ) → Ends levels element text rest → ⊥
EndsAt levels element text (Some len) = (len ≤ length text) × Ends levels element text (drop len text)

-- the same from a place of the text on, with the length counted from the text's front
abbrev pub EndsFrom : ℕ → Element → List ℕ → ℕ → Option ℕ → Type 0
EndsFrom levels element text at None = (rest : List ℕ) → Ends levels element (drop at text) rest → ⊥
EndsFrom levels element text at (Some len) = (len ≤ length text) × Ends levels element (drop at text) (drop len text)
