-- The tokens of a table's text, by the PHP manual's pages on opening tags, comments and single-quoted strings.
use Rattle.std.specs.Prelude.{ℕ, zero, suc, List, [], ◌∷◌, ◌++◌, length, drop, codes, Bool, ◌&&◌, ◌||◌, ◌==◌, if◌then◌else◌, Option, Some, None}
use Rattle.std.specs.Option.{option_map}
use Rattle.path_name.specs.Bytes.{is_blank, is_digit}
use Rattle.table_scan.specs.declared.mark.Mark.{Mark}
use Rattle.table_scan.specs.declared.mark.Mark.TheVariants as marks

-- A token: a mark, a quoted text by what it means, a number by its digits, or a byte that begins no token.
pub data Token : Type 0 where
  Marked : (mark : Mark) → Token
  Quoted : (text : List ℕ) → Token
  Number : (digits : List ℕ) → Token
  Stray : Token

-- how a mark is spelled
unfoldable pub spelling : Mark → List ℕ
spelling marks.Tag = codes "<?php"
spelling marks.VendorDir = codes "$vendorDir"
spelling marks.BaseDir = codes "$baseDir"
spelling marks.Dirname = codes "dirname"
spelling marks.ThisDir = codes "__DIR__"
spelling marks.ThisFile = codes "__FILE__"
spelling marks.Return = codes "return"
spelling marks.Array = codes "array"
spelling marks.Arrow = codes "=>"
spelling marks.Assign = codes "="
spelling marks.Open = codes "("
spelling marks.Close = codes ")"
spelling marks.Comma = codes ","
spelling marks.Dot = codes "."
spelling marks.Semicolon = codes ";"

-- the marks that stand anywhere, the longer of two spellings with one beginning first
abbrev pub marks_anywhere : List Mark
marks_anywhere = marks.VendorDir ∷ marks.BaseDir ∷ marks.Dirname ∷ marks.ThisDir ∷ marks.ThisFile ∷ marks.Return ∷ marks.Array ∷ marks.Arrow ∷ marks.Assign
    ∷ marks.Open ∷ marks.Close ∷ marks.Comma ∷ marks.Dot ∷ marks.Semicolon ∷ []

-- what follows a front of a text; None where the text doesn't begin with it
abbrev pub behind : List ℕ → List ℕ → Option (List ℕ)
behind [] text = Some text
behind (byte ∷ front) [] = None
behind (byte ∷ front) (first ∷ rest) = if first == byte then behind front rest else None

-- What stands at the front of a text, and what follows it: nothing at the end; a blank or a comment, which
-- stand between tokens and mean nothing; or a token.
pub data Piece : Type 0 where
  End : Piece
  Gap : (rest : List ℕ) → Piece
  Lexeme : (token : Token) (rest : List ℕ) → Piece

-- LF or CR
abbrev pub ends_line : ℕ → Bool
ends_line byte = byte == 10 || byte == 13

-- from a line's end on
abbrev pub line_end : List ℕ → List ℕ
line_end [] = []
line_end (byte ∷ rest) = if ends_line byte then byte ∷ rest else line_end rest

-- what follows the first `*/`
abbrev pub behind_block : List ℕ → Option (List ℕ)
behind_block [] = None
behind_block (byte ∷ []) = None
behind_block (byte ∷ next ∷ rest) = if byte == 42 && next == 47 then Some rest else behind_block (next ∷ rest)

-- A comment that is not closed is no comment.
abbrev pub block_piece : List ℕ → Option (List ℕ) → Piece
block_piece inside (Some rest) = Gap rest
block_piece inside None = Lexeme Stray inside

-- behind a `/`
abbrev pub slash_piece : List ℕ → Piece
slash_piece [] = Lexeme Stray []
slash_piece (byte ∷ rest) = if byte == 47 then Gap (line_end rest) else if byte == 42 then block_piece rest (behind_block rest) else Lexeme Stray (byte ∷ rest)

-- `\` or `'`
abbrev pub is_special : ℕ → Bool
is_special byte = byte == 92 || byte == 39

-- bytes before what was read
abbrev pub in_front : List ℕ → Option (List ℕ × List ℕ) → Option (List ℕ × List ℕ)
in_front bytes read = option_map (λ x. (bytes ++ x.0, x.1)) read

-- A single-quoted text behind its opening quote, and what follows its closing quote: `\\` and `\'` mean `\`
-- and `'`, and any other `\` means itself. None where it is not closed.
abbrev pub unquoted : List ℕ → Option (List ℕ × List ℕ)
unquoted [] = None
unquoted (byte ∷ []) = if byte == 39 then Some ([], []) else None
unquoted (byte ∷ next ∷ rest) = if byte == 39 then Some ([], next ∷ rest)
    else if byte == 92 && is_special next then in_front (next ∷ []) (unquoted rest) else in_front (byte ∷ []) (unquoted (next ∷ rest))

abbrev pub quoted_piece : List ℕ → Option (List ℕ × List ℕ) → Piece
quoted_piece inside (Some read) = Lexeme (Quoted read.0) read.1
quoted_piece inside None = Lexeme Stray inside

-- the digits at the front of a text, as many as n at most, and what follows them
unfoldable pub front_digits : ℕ → List ℕ → List ℕ × List ℕ
front_digits zero text = ([], text)
front_digits (suc n) [] = ([], [])
front_digits (suc n) (byte ∷ rest) = if is_digit byte then (byte ∷ (front_digits n rest).0, (front_digits n rest).1) else ([], byte ∷ rest)

-- a number has one to 20 digits
abbrev pub most_digits : ℕ
most_digits = 20

abbrev pub number_piece : List ℕ × List ℕ → Piece
number_piece read = Lexeme (Number read.0) read.1

abbrev pub or_else : Mark → Option (List ℕ) → Piece → Piece
or_else mark (Some rest) otherwise = Lexeme (Marked mark) rest
or_else mark None otherwise = otherwise

-- the first of these marks with which a text begins, or a byte that begins no token
abbrev pub mark_piece : List Mark → List ℕ → Piece
mark_piece [] text = Lexeme Stray (drop 1 text)
mark_piece (mark ∷ others) text = or_else mark (behind (spelling mark) text) (mark_piece others text)

-- a token, where no gap stands
unfoldable pub lexeme_at : List ℕ → Piece
lexeme_at [] = End
lexeme_at (byte ∷ rest) = if byte == 39 then quoted_piece rest (unquoted rest)
    else if is_digit byte then number_piece (front_digits most_digits (byte ∷ rest))
    else mark_piece marks_anywhere (byte ∷ rest)

unfoldable pub piece_at : List ℕ → Piece
piece_at [] = End
piece_at (byte ∷ rest) = if is_blank byte then Gap rest
    else if byte == 35 then Gap (line_end rest)
    else if byte == 47 then slash_piece rest
    else lexeme_at (byte ∷ rest)

-- a token, before how many bytes of the text's end it begins
pub record Placed : Type 0 where
  pub left : ℕ
  pub token : Token

-- a piece's token, and then those that follow it
abbrev pub and_then : ℕ → Piece → (List ℕ → List Placed) → List Placed
and_then left End following = []
and_then left (Gap rest) following = following rest
and_then left (Lexeme token rest) following = record { left = left; token = token } ∷ following rest

-- the tokens of a text that has n pieces at most
unfoldable pub tokens_within : ℕ → List ℕ → List Placed
tokens_within zero text = []
tokens_within (suc n) text = and_then (length text) (piece_at text) (λ rest. tokens_within n rest)

-- the tokens of a text: a piece takes a byte at least
unfoldable pub tokens : List ℕ → List Placed
tokens text = tokens_within (length text) text

abbrev pub before_blank : Option (List ℕ) → Option (List ℕ)
before_blank None = None
before_blank (Some []) = None
before_blank (Some (byte ∷ rest)) = if is_blank byte then Some (byte ∷ rest) else None

-- what follows a `<?php` at the front, which has a blank behind it
unfoldable pub behind_tag : List ℕ → Option (List ℕ)
behind_tag text = before_blank (behind (spelling marks.Tag) text)

abbrev pub opened : List ℕ → Option (List ℕ) → List Placed
opened text (Some rest) = record { left = length text; token = Marked marks.Tag } ∷ tokens rest
opened text None = tokens text

-- The tokens of a whole text: the opening tag is one at the very beginning alone.
unfoldable pub text_tokens : List ℕ → List Placed
text_tokens text = opened text (behind_tag text)

-- how many bytes stand from the first of some last tokens of a text on, none where there is no token
abbrev pub left_of : List Placed → ℕ
left_of [] = 0
left_of (first ∷ rest) = first.left
