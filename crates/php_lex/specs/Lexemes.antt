-- The rules of code, of which the first that fits takes its bytes: the PHP manual's pages "Basic syntax",
-- "Strings", "Variables" (identifiers) and "Namespaces" (qualified names).
use Rattle.std.specs.Prelude.{ℕ, Bool, ◌&&◌, ◌||◌, ◌==◌, List, [], ◌∷◌, drop, codes, Option, Some, None, if◌then◌else◌}
use Rattle.path_name.specs.Bytes.{is_blank, is_digit, starts_identifier, continues_identifier}
use Rattle.php_lex.specs.declared.lexeme.LexKind.{LexKind}
use Rattle.php_lex.specs.declared.lexeme.LexKind.TheVariants as kinds
use Rattle.php_lex.specs.Places.{begins_with, has_first, after_run}
use Rattle.php_lex.specs.Comments.{is_close_tag, comment}
use Rattle.php_lex.specs.Quotes.{Opened, quoted}

-- what a rule takes: a lexeme of a kind, and what follows it; or the opening of a quoted element
pub data Taken : Type 0 where
  Whole : LexKind → List ℕ → Taken
  Opening : Opened → Taken

-- `\` before an identifier
abbrev pub joins : List ℕ → Bool
joins text = has_first (λ b. b == 92) text && has_first starts_identifier (drop 1 text)

-- a name goes on: with a byte of an identifier, or with a `\` before an identifier
abbrev pub continues_name : List ℕ → Bool
continues_name text = has_first continues_identifier text || joins text

-- what follows a name from inside it: identifiers joined by `\`
abbrev pub after_name : List ℕ → List ℕ
after_name [] = []
after_name (b ∷ text) = if continues_name (b ∷ text) then after_name text else b ∷ text

-- a name that begins with an identifier: it is plain where it ends with that
abbrev pub named : List ℕ → Taken
named rest = if joins rest then Whole kinds.Qualified (after_name rest) else Whole kinds.Plain rest

-- `::`, `->`, `?->`, or any one byte
abbrev pub sign : List ℕ → Taken
sign text = if begins_with (codes "::") text || begins_with (codes "->") text then Whole kinds.Member (drop 2 text)
    else (if begins_with (codes "?->") text then Whole kinds.Member (drop 3 text) else Whole kinds.Mark (drop 1 text))

-- variables, names, numbers, signs
abbrev pub word : List ℕ → Taken
word text = if has_first (λ b. b == 36) text && has_first starts_identifier (drop 1 text) then Whole kinds.Variable (after_run continues_identifier (drop 1 text))
    else (if has_first starts_identifier text then named (after_run continues_identifier text)
    else (if joins text then Whole kinds.Qualified (after_name (drop 1 text))
    else (if has_first is_digit text then Whole kinds.Number (after_run continues_identifier text)
    else sign text)))

abbrev pub comment_or : Option (List ℕ) → Taken → Taken
comment_or (Some rest) other = Whole kinds.Comment rest
comment_or None other = other

abbrev pub quoted_or : Option Opened → Taken → Taken
quoted_or (Some o) other = Opening o
quoted_or None other = other

-- blanks, the closing tag, comments, quoted elements, and the rest
unfoldable pub taken : List ℕ → Taken
taken text = if has_first is_blank text then Whole kinds.Blank (after_run is_blank text)
    else (if is_close_tag text then Whole kinds.Close (drop 2 text)
    else comment_or (comment text) (quoted_or (quoted text) (word text)))
