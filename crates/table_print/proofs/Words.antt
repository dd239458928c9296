-- Marks and blanks in a row, as the fixed parts of a table have them.
use Rattle.std.proofs.Common.{◌≡◌, ℕ, true, List, [], ◌∷◌, ◌++◌, refl, ap, ◌∙◌}
use Rattle.path_name.specs.Bytes.{is_blank}
use Rattle.table_scan.specs.declared.mark.Mark.{Mark}
use Rattle.table_scan.specs.declared.mark.Mark.TheVariants as marks
use Rattle.table_scan.specs.TableTokens.{Token, Marked, spelling}
use Rattle.table_scan.proofs.TokenKinds.{kinds, over_blank, IsCommon, at_mark, at_assign}

-- a mark, a blank, or `=` and a blank
pub data Word : Type 0 where
  Sign : (mark : Mark) → Word
  Blank : (byte : ℕ) → Word
  Equals : Word

abbrev pub AreCommon : List Word → Type 0
AreCommon [] = Unit {0}
AreCommon (Sign mark ∷ words) = IsCommon mark × AreCommon words
AreCommon (Blank byte ∷ words) = (is_blank byte ≡ true) × AreCommon words
AreCommon (Equals ∷ words) = AreCommon words

-- the words before a text
abbrev pub words_text : List Word → List ℕ → List ℕ
words_text [] rest = rest
words_text (Sign mark ∷ words) rest = spelling mark ++ words_text words rest
words_text (Blank byte ∷ words) rest = byte ∷ words_text words rest
words_text (Equals ∷ words) rest = 61 ∷ 32 ∷ words_text words rest

abbrev pub words_kinds : List Word → List Token → List Token
words_kinds [] ts = ts
words_kinds (Sign mark ∷ words) ts = Marked mark ∷ words_kinds words ts
words_kinds (Blank byte ∷ words) ts = words_kinds words ts
words_kinds (Equals ∷ words) ts = Marked marks.Assign ∷ words_kinds words ts

pub at_words : (words : List Word) (rest : List ℕ) → AreCommon words → kinds (words_text words rest) ≡ words_kinds words (kinds rest)
at_words [] rest h = refl
at_words (Sign mark ∷ words) rest h = at_mark mark (words_text words rest) h.0 ∙ ap (λ ts. Marked mark ∷ ts) (at_words words rest h.1)
at_words (Blank byte ∷ words) rest h = over_blank byte (words_text words rest) h.0 ∙ at_words words rest h.1
at_words (Equals ∷ words) rest h = at_assign (words_text words rest) ∙ ap (λ ts. Marked marks.Assign ∷ ts) (at_words words rest h)
