-- Texts in single quotes, as they are written.
use Rattle.std.specs.Prelude.{ℕ, List, [], ◌∷◌, ◌++◌, if◌then◌else◌}
use Rattle.table_scan.specs.TableTokens.{is_special}

-- By the PHP manual's page on strings: `\` and `'` are preceded by `\`.
abbrev pub escaped : List ℕ → List ℕ
escaped [] = []
escaped (byte ∷ bytes) = if is_special byte then 92 ∷ byte ∷ escaped bytes else byte ∷ escaped bytes

-- a quoted text behind its opening quote
abbrev pub closed : List ℕ → List ℕ
closed text = escaped text ++ 39 ∷ []

abbrev pub quoted : List ℕ → List ℕ
quoted text = 39 ∷ closed text
