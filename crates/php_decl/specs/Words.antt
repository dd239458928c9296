-- The words that matter to declarations, and steps over lexemes, as the code takes them.
use Rattle.std.specs.Prelude.{◌≡◌, ℕ, ◌<◌, Bool, true, false, ◌||◌, List, [], ◌∷◌, ◌++◌, length, drop, codes, Option, Some, None}
use Rattle.std.specs.Borrow.{Bor}
use Rattle.path_name.specs.Bytes.{lowered}
use Rattle.path_name.specs.Orders.{bytes_are_equal}
use Rattle.php_lex.specs.declared.lexeme.Lexeme.{Lexeme}
use Rattle.php_lex.specs.Cut.{Lex, Standing, IsCutOf}
use Rattle.php_decl.specs.Declarations.{Stand, solid, stands_after, follows_member, identifier_of, namespace_of, declared_by, namespace_by, or_earlier, is_halting, namespace_after, is_halted_after, in_namespace, declared_from, names_of}

abbrev pub equals_word : List ℕ → List ℕ → Bool
equals_word word bytes = bytes_are_equal (lowered bytes) word

abbrev pub is_declaring_word : List ℕ → Bool
is_declaring_word bytes = equals_word (codes "class") bytes || (equals_word (codes "interface") bytes || (equals_word (codes "trait") bytes || equals_word (codes "enum") bytes))

-- a lexeme apart from where it stands
abbrev pub lex_of : Lexeme → Lex
lex_of x = record { kind = x.kind; bytes = x.bytes.now }

-- the next lexeme that is no blank and no comment
pub record NextSolid (old : Standing) (x : Lex) (new : Standing) : Type 0 where
  pub on : (lexemes : List Lex) → IsCutOf old lexemes → (more : List Lex) × IsCutOf new more × (solid lexemes ≡ x ∷ solid more)
  pub shorter : length new.rest < length old.rest
  pub place : (text : List ℕ) → old.rest ≡ drop old.at text → new.rest ≡ drop new.at text

abbrev pub NoneSolid : Standing → Type 0
NoneSolid old = (lexemes : List Lex) → IsCutOf old lexemes → solid lexemes ≡ []

abbrev pub bytes_of : Option (Bor (List ℕ)) → Option (List ℕ)
bytes_of None = None
bytes_of (Some bytes) = Some bytes.now

-- what stands behind, by each cut of the rest
abbrev pub IsIdentifier : Standing → Option (Bor (List ℕ)) → Type 0
IsIdentifier s result = (lexemes : List Lex) → IsCutOf s lexemes → bytes_of result ≡ identifier_of (solid lexemes)

abbrev pub IsNamespace : Standing → Option (Bor (List ℕ)) → Type 0
IsNamespace s result = (lexemes : List Lex) → IsCutOf s lexemes → bytes_of result ≡ namespace_of (solid lexemes)

-- the names so far and those that are declared from here on are all names
pub record Behind (s : Standing) (after_member : Bool) (namespace : List ℕ) (names : List (List ℕ)) (lexemes : List Lex) : Type 0 where
  pub more : List Lex
  pub previous : Option Lex
  pub earlier : List Stand
  pub cut : IsCutOf s more
  pub member : follows_member previous ≡ after_member
  pub goes_on : is_halted_after earlier ≡ false
  pub in_force : namespace_after earlier ≡ namespace
  pub all : names ++ declared_from earlier (stands_after previous (solid more)) ≡ names_of lexemes

-- what a lexeme does where it stands: the names that it adds, and the namespace behind it, or none where nothing
-- is declared any more
abbrev pub Leads : Stand → List ℕ → Option (Bor (List ℕ)) → Type 0
Leads s namespace None = is_halting s ≡ true
Leads s namespace (Some after) = (is_halting s ≡ false) × (after.now ≡ or_earlier (namespace_by s) namespace)

abbrev pub Visits : Lex → Bool → Standing → List ℕ → List (List ℕ) → List (List ℕ) → Option (Bor (List ℕ)) → Type 0
Visits x after_member s namespace old new result = (previous : Option Lex) (lexemes : List Lex) → follows_member previous ≡ after_member → IsCutOf s lexemes
    → (new ≡ old ++ in_namespace namespace (declared_by (record { previous = previous; here = x; behind = solid lexemes })))
    × Leads (record { previous = previous; here = x; behind = solid lexemes }) namespace result
