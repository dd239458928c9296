-- Lexemes without blanks and comments.
use Rattle.std.proofs.Common.{◌≡◌, ℕ, true, false, ◌&&◌, List, [], ◌∷◌, Some, None, ◌∙◌, ap, sym, refl, length, drop}
use Rattle.std.proofs.lemmas.List.{drop_at, drop-drop}
use Rattle.php_lex.specs.declared.lexeme.LexKind.{LexKind}
use Rattle.php_lex.specs.Cut.{Lex, Standing, Takes, IsCutOf}
use Rattle.php_lex.proofs.OneCut.{one_cut, cut_end}
use Rattle.php_decl.specs.Declarations.{is_skipped, solid, is_identifier, identifier_of, is_sign, is_relative_name, ends_name, namespace_of}

pub solid_skips : (x : Lex) (xs : List Lex) → is_skipped x.kind ≡ true → solid (x ∷ xs) ≡ solid xs
solid_skips x xs h = rw h refl

pub solid_keeps : (x : Lex) (xs : List Lex) → is_skipped x.kind ≡ false → solid (x ∷ xs) ≡ x ∷ solid xs
solid_keeps x xs h = rw h refl

pub no_lexemes : (s : Standing) → s.rest ≡ [] → (lexemes : List Lex) → IsCutOf s lexemes → solid lexemes ≡ []
no_lexemes s e lexemes x = ap solid (one_cut x (cut_end s e))

pub identifier_yes : (x : Lex) (xs : List Lex) → is_identifier x ≡ true → identifier_of (x ∷ xs) ≡ Some x.bytes
identifier_yes x xs h = rw h refl

pub identifier_no : (x : Lex) (xs : List Lex) → is_identifier x ≡ false → identifier_of (x ∷ xs) ≡ None
identifier_no x xs h = rw h refl

pub namespace_global : (x : Lex) (xs : List Lex) → is_sign 123 x ≡ true → namespace_of (x ∷ xs) ≡ Some []
namespace_global x xs h = rw h refl

pub namespace_named : (x : Lex) (xs : List Lex) → is_sign 123 x ≡ false → is_relative_name x && ends_name xs ≡ true → namespace_of (x ∷ xs) ≡ Some x.bytes
namespace_named x xs g h = rw (g, h) refl

pub namespace_none : (x : Lex) (xs : List Lex) → is_sign 123 x ≡ false → is_relative_name x && ends_name xs ≡ false → namespace_of (x ∷ xs) ≡ None
namespace_none x xs g h = rw (g, h) refl

-- a lexeme on, the rest is what stands from the place there
pub place_after : (old new : Standing) (kind : LexKind) (bytes : List ℕ) → Takes old kind bytes new → (text : List ℕ) → old.rest ≡ drop old.at text → new.rest ≡ drop new.at text
place_after old new kind bytes t text e =
    sym (drop_at bytes new.rest (length bytes) refl) ∙ ap (drop (length bytes)) (sym t.parts ∙ e) ∙ drop-drop (length bytes) old.at text ∙ ap (λ (n : ℕ). drop n text) (sym t.passed)
