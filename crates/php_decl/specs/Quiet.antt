-- Where nothing more is declared. A declaring word and the name behind it are two lexemes, between which a blank or a
-- comment stands, since an identifier goes on as far as it can.
use Rattle.std.specs.Prelude.{◌≡◌, ℕ, ◌+◌, ◌<◌, ◌≤◌, Bool, false, ◌&&◌, ◌||◌, ◌==◌, List, length, take, drop, codes, slice_index}
use Rattle.path_name.specs.Bytes.{is_blank, lower}
use Rattle.php_lex.specs.Places.{has_first}
use Rattle.php_decl.specs.Words.{equals_word}

-- a blank, or what a comment begins with
abbrev pub is_gap : ℕ → Bool
is_gap byte = is_blank byte || (byte == 47 || byte == 35)

-- this word stands here, in any case, and a gap behind it
abbrev pub stands_at : List ℕ → List ℕ → Bool
stands_at word text = equals_word word (take (length word) text) && has_first is_gap (drop (length word) text)

-- a word that declares can stand here
abbrev pub can_declare : List ℕ → Bool
can_declare text = stands_at (codes "class") text || (stands_at (codes "interface") text || (stands_at (codes "trait") text || stands_at (codes "enum") text))

-- none can, from here to the end
abbrev pub IsQuiet : List ℕ → Type 0
IsQuiet text = (j : ℕ) → can_declare (drop j text) ≡ false

-- ---- as the code looks for them, from the end

-- the last two letters of such a word, and a gap behind them
abbrev pub is_tail : ℕ → ℕ → ℕ → Bool
is_tail first second behind = is_gap behind && (((lower first == 115 && lower second == 115) || (lower first == 99 && lower second == 101)) || ((lower first == 105 && lower second == 116) || (lower first == 117 && lower second == 109)))

abbrev pub tail_at : ℕ → List ℕ → Bool
tail_at k text = is_tail (slice_index text k) (slice_index text (k + 1)) (slice_index text (k + 2))

-- this word doesn't stand so that its last two letters are at this place; none of the four does
abbrev pub NotEnding : List ℕ → ℕ → List ℕ → Type 0
NotEnding word k text = (j : ℕ) → j + length word ≡ k + 2 → stands_at word (drop j text) ≡ false

pub record NoneEnds (k : ℕ) (text : List ℕ) : Type 0 where
  pub classes : NotEnding (codes "class") k text
  pub interfaces : NotEnding (codes "interface") k text
  pub traits : NotEnding (codes "trait") k text
  pub enums : NotEnding (codes "enum") k text

-- no such word has its last two letters between these places
abbrev pub NoneBetween : ℕ → ℕ → List ℕ → Type 0
NoneBetween from to text = (k : ℕ) → from ≤ k → k < to → NoneEnds k text

-- none from the place on, or from behind it where there is one
abbrev pub NoneLater : ℕ → ℕ → List ℕ → Type 0
NoneLater at to text = (k : ℕ) → at < k → k < to → NoneEnds k text
