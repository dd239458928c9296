-- The cut of a PHP file into lexemes.
use Rattle.std.specs.Prelude.{◌≡◌, ℕ, ◌+◌, ◌<◌, Bool, true, false, List, [], ◌∷◌, ◌++◌, length}
use Rattle.php_lex.specs.declared.lexeme.LexKind.{LexKind}
use Rattle.php_lex.specs.declared.lexeme.LexKind.TheVariants as kinds
use Rattle.php_lex.specs.Tags.{is_tag, after_tag, after_html}
use Rattle.php_lex.specs.Quotes.{Opened}
use Rattle.php_lex.specs.Elements.{Ends}
use Rattle.php_lex.specs.Lexemes.{Whole, Opening, taken}

-- a lexeme, apart from where it stands
pub record Lex : Type 0 where
  pub kind : LexKind
  pub bytes : List ℕ

-- how many quoted elements may be open inside the outermost one
abbrev pub inner_levels : ℕ
inner_levels = 32

-- whether code follows: what follows `?>`, and what follows other text outside code, is no code
abbrev pub is_code_after : LexKind → Bool
is_code_after kinds.Close = false
is_code_after kinds.Html = false
is_code_after kind = true

-- What stands first in a text that isn't empty, in code or outside it: its kind, and what follows it. A quoted
-- element that isn't closed, or has too many open in it, runs to the end.
pub data First : Bool → List ℕ → LexKind → List ℕ → Type 0 where
  open_tag : {text rest : List ℕ} → is_tag text ≡ true → rest ≡ after_tag text → First false text kinds.Open rest
  html : {text rest : List ℕ} → is_tag text ≡ false → rest ≡ after_html text → First false text kinds.Html rest
  whole : {text rest : List ℕ} {kind : LexKind} → taken text ≡ Whole kind rest → First true text kind rest
  closed : {text rest : List ℕ} {o : Opened} → taken text ≡ Opening o → Ends inner_levels o.element o.inside rest → First true text kinds.Quoted rest
  unclosed : {text rest : List ℕ} {o : Opened} → taken text ≡ Opening o → ((other : List ℕ) → Ends inner_levels o.element o.inside other → ⊥) → rest ≡ [] → First true text kinds.Quoted rest

-- The lexemes of a text, in order: what each is follows from its place alone.
pub data IsCutFrom : Bool → List ℕ → List Lex → Type 0 where
  end : {in_code : Bool} → IsCutFrom in_code [] []
  next : {in_code : Bool} {kind : LexKind} {text bytes rest : List ℕ} {lexemes : List Lex} → text ≡ bytes ++ rest → 0 < length bytes → First in_code text kind rest
      → IsCutFrom (is_code_after kind) rest lexemes → IsCutFrom in_code text (record { kind = kind; bytes = bytes } ∷ lexemes)

-- of a whole file, which begins outside code
abbrev pub IsCut : List ℕ → List Lex → Type 0
IsCut text lexemes = IsCutFrom false text lexemes

-- where a lexer stands: in code or outside, how many bytes it has passed, and the rest of the text
pub record Standing : Type 0 where
  pub in_code : Bool
  pub at : ℕ
  pub rest : List ℕ

-- at a text's beginning
abbrev pub start_of : List ℕ → Standing
start_of text = record { in_code = false; at = 0; rest = text }

-- one lexeme on: the rest begins with it, it isn't empty, and it is what stands first
pub record Takes (old : Standing) (kind : LexKind) (bytes : List ℕ) (new : Standing) : Type 0 where
  pub parts : old.rest ≡ bytes ++ new.rest
  pub not_empty : 0 < length bytes
  pub first : First old.in_code old.rest kind new.rest
  pub in_code : new.in_code ≡ is_code_after kind
  pub passed : new.at ≡ old.at + length bytes

-- a cut of the rest
abbrev pub IsCutOf : Standing → List Lex → Type 0
IsCutOf s lexemes = IsCutFrom s.in_code s.rest lexemes

-- the lexemes' bytes, one after the other
abbrev pub joined : List Lex → List ℕ
joined [] = []
joined (x ∷ xs) = x.bytes ++ joined xs
