-- The names that a PHP file declares: its classes, interfaces, traits and enums, after the PHP manual's pages
-- "Classes and Objects", "Enumerations", "Namespaces" and "__halt_compiler". What a lexeme declares follows from
-- what stands before it and behind it in the list of the lexemes without blanks and comments.
use Rattle.std.specs.Prelude.{ℕ, Bool, true, false, ◌&&◌, ◌||◌, ◌==◌, not, List, [], ◌∷◌, ◌++◌, codes, Option, Some, None, if◌then◌else◌}
use Rattle.path_name.specs.Bytes.{lowered}
use Rattle.path_name.specs.Orders.{bytes_are_equal}
use Rattle.php_lex.specs.declared.lexeme.LexKind.{LexKind}
use Rattle.php_lex.specs.declared.lexeme.LexKind.TheVariants as kinds
use Rattle.php_lex.specs.Cut.{Lex}

-- ---- kinds and words

abbrev pub is_skipped : LexKind → Bool
is_skipped kinds.Blank = true
is_skipped kinds.Comment = true
is_skipped kind = false

abbrev pub is_plain : LexKind → Bool
is_plain kinds.Plain = true
is_plain kind = false

abbrev pub is_member : LexKind → Bool
is_member kinds.Member = true
is_member kind = false

-- a name, of one identifier or more
abbrev pub is_name : LexKind → Bool
is_name kinds.Plain = true
is_name kinds.Qualified = true
is_name kind = false

abbrev pub is_mark : LexKind → Bool
is_mark kinds.Mark = true
is_mark kind = false

-- an identifier that is this word, in any case
abbrev pub is_word : List ℕ → Lex → Bool
is_word word x = is_plain x.kind && bytes_are_equal (lowered x.bytes) word

-- a mark of this byte
abbrev pub is_only : ℕ → List ℕ → Bool
is_only byte [] = false
is_only byte (b ∷ []) = b == byte
is_only byte (b ∷ c ∷ bytes) = false

abbrev pub is_sign : ℕ → Lex → Bool
is_sign byte x = is_mark x.kind && is_only byte x.bytes

-- ---- where lexemes stand

-- the lexemes without blanks and comments
abbrev pub solid : List Lex → List Lex
solid [] = []
solid (x ∷ xs) = if is_skipped x.kind then solid xs else x ∷ solid xs

-- a lexeme with the one before it, if there is one, and all behind it
pub record Stand : Type 0 where
  pub previous : Option Lex
  pub here : Lex
  pub behind : List Lex

-- each lexeme where it stands
abbrev pub stands_after : Option Lex → List Lex → List Stand
stands_after previous [] = []
stands_after previous (x ∷ xs) = record { previous = previous; here = x; behind = xs } ∷ stands_after (Some x) xs

abbrev pub stands : List Lex → List Stand
stands xs = stands_after None xs

-- ---- what a lexeme says where it stands

abbrev pub follows_member : Option Lex → Bool
follows_member None = false
follows_member (Some x) = is_member x.kind

-- an identifier that is this word, and is no name of a member
abbrev pub is_keyword : List ℕ → Stand → Bool
is_keyword word s = is_word word s.here && not (follows_member s.previous)

-- `class`, `interface`, `trait` or `enum`
abbrev pub is_declaring : Stand → Bool
is_declaring s = is_keyword (codes "class") s || (is_keyword (codes "interface") s || (is_keyword (codes "trait") s || is_keyword (codes "enum") s))

-- an identifier other than `extends` and `implements`
abbrev pub is_identifier : Lex → Bool
is_identifier x = is_plain x.kind && not (bytes_are_equal (lowered x.bytes) (codes "extends") || bytes_are_equal (lowered x.bytes) (codes "implements"))

-- the identifier behind it
abbrev pub identifier_of : List Lex → Option (List ℕ)
identifier_of [] = None
identifier_of (x ∷ xs) = if is_identifier x then Some x.bytes else None

abbrev pub declared_by : Stand → Option (List ℕ)
declared_by s = if is_declaring s then identifier_of s.behind else None

-- a leading `\`
abbrev pub is_rooted : List ℕ → Bool
is_rooted [] = false
is_rooted (b ∷ bytes) = b == 92

abbrev pub is_relative_name : Lex → Bool
is_relative_name x = is_name x.kind && not (is_rooted x.bytes)

abbrev pub ends_name : List Lex → Bool
ends_name [] = false
ends_name (x ∷ xs) = is_sign 59 x || is_sign 123 x

-- what stands behind `namespace`: a name and `;` or `{`, or `{` alone, which is the global one
abbrev pub namespace_of : List Lex → Option (List ℕ)
namespace_of [] = None
namespace_of (x ∷ xs) = if is_sign 123 x then Some []
    else (if is_relative_name x && ends_name xs then Some x.bytes else None)

abbrev pub namespace_by : Stand → Option (List ℕ)
namespace_by s = if is_keyword (codes "namespace") s then namespace_of s.behind else None

abbrev pub is_halting : Stand → Bool
is_halting s = is_keyword (codes "__halt_compiler") s

-- ---- the names

-- the namespace in force behind these, of which the latest comes first
abbrev pub or_earlier : Option (List ℕ) → List ℕ → List ℕ
or_earlier None earlier = earlier
or_earlier (Some name) earlier = name

abbrev pub namespace_after : List Stand → List ℕ
namespace_after [] = []
namespace_after (s ∷ earlier) = or_earlier (namespace_by s) (namespace_after earlier)

abbrev pub is_halted_after : List Stand → Bool
is_halted_after [] = false
is_halted_after (s ∷ earlier) = is_halting s || is_halted_after earlier

-- the identifier alone in the global namespace, else behind the namespace and `\`
abbrev pub full_name : List ℕ → List ℕ → List ℕ
full_name [] identifier = identifier
full_name (b ∷ bytes) identifier = (b ∷ bytes) ++ 92 ∷ identifier

abbrev pub in_namespace : List ℕ → Option (List ℕ) → List (List ℕ)
in_namespace namespace None = []
in_namespace namespace (Some identifier) = full_name namespace identifier ∷ []

-- what is declared at a place, by what stands before it, the latest first
abbrev pub declared_at : List Stand → Stand → List (List ℕ)
declared_at earlier s = if is_halted_after earlier then [] else in_namespace (namespace_after earlier) (declared_by s)

abbrev pub declared_from : List Stand → List Stand → List (List ℕ)
declared_from earlier [] = []
declared_from earlier (s ∷ later) = declared_at earlier s ++ declared_from (s ∷ earlier) later

-- the names that a list of lexemes declares, in order
unfoldable pub names_of : List Lex → List (List ℕ)
names_of lexemes = declared_from [] (stands (solid lexemes))
