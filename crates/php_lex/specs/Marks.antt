-- What can begin with a byte: nothing but a mark; neither a blank, a comment nor a quoted element; or one of the latter two.
use Rattle.std.specs.Prelude.{ℕ, Bool, ◌&&◌, ◌||◌, ◌==◌, not, List, drop}
use Rattle.path_name.specs.Bytes.{is_blank, is_digit, starts_identifier}
use Rattle.php_lex.specs.Places.{has_first}

-- `?`, `/`, `#`, quotes and backtick, `<`, `$`, `\`, `:`, `-`
abbrev pub begins_more : ℕ → Bool
begins_more b = b == 63 || (b == 47 || (b == 35 || (b == 39 || (b == 34 || (b == 96 || (b == 60 || (b == 36 || (b == 92 || (b == 58 || b == 45)))))))))

abbrev pub is_mark : ℕ → Bool
is_mark b = not (is_blank b || (starts_identifier b || (is_digit b || begins_more b)))

-- a digit, `$`, `-`, `:`, `?` and `\`
abbrev pub begins_word : ℕ → Bool
begins_word b = is_digit b || (b == 36 || (b == 45 || (b == 58 || (b == 63 || b == 92))))

-- `"`, `#`, `'`, `/`, `<` and the backtick, with which a comment or a quoted element can begin
abbrev pub can_open : ℕ → Bool
can_open b = b == 34 || (b == 35 || (b == 39 || (b == 47 || (b == 60 || b == 96))))

-- `$` and an identifier
abbrev pub is_variable : List ℕ → Bool
is_variable text = has_first (λ b. b == 36) text && has_first starts_identifier (drop 1 text)
