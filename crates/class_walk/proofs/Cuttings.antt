-- A pattern matches a text's front exactly where some cutting of the front gives each part a piece.
use Rattle.std.proofs.Common.{◌≡◌, ℕ, zero, suc, get_or, ◌<◌, Bool, true, false, List, [], ◌∷◌, ◌++◌, length, Option, Some, None, refl, sym, ap, ◌∙◌, append_assoc, arith, inl, inr}
use Rattle.std.specs.Prelude.{◌⊎◌, ◌||◌, not, ◌==◌, IsTrue}
use Rattle.std.specs.List.{list_any, Contains, join_with_byte}
use Rattle.std.proofs.lemmas.Bool.Decides.{eqb_tells}
use Rattle.path_name.specs.Paths.{is_slash, has_no_slash}
use Rattle.path_name.proofs.Joining.{both_true}
use Rattle.tree_dev.specs.Trees.{behind}
use Rattle.tree_dev.proofs.Behind.{behind_head, head_behind}
use Rattle.class_walk.specs.Patterns.{is_filled, is_end, matches_front, matches_below, is_excluded_by, is_excluded, IsTakenBy, Matches, MatchesFront, IsExcludedBy, IsExcluded}
use Rattle.class_walk.specs.declared.pattern.Pattern.{Pattern}
use Rattle.class_walk.specs.declared.pattern.PatternPart.{PatternPart}
use Rattle.class_walk.specs.declared.pattern.PatternPart.TheVariants as kinds

one_true : (a b : Bool) → (a || b) ≡ true → (a ≡ true) ⊎ (b ≡ true)
one_true true b e = inl refl
one_true false b e = inr e

or_true : (a b : Bool) → (a ≡ true) ⊎ (b ≡ true) → (a || b) ≡ true
or_true a b (inl e) = rw e refl
or_true true b (inr e) = refl
or_true false b (inr e) = e

byte_is : (a b : ℕ) → (a == b) ≡ true → a ≡ b
byte_is a b e = elim (eqb_tells a b) [ inl same ↦ same.1 | inr apart ↦ let f = apart.0 in absurd cc ]

same_byte : (a : ℕ) → (a == a) ≡ true
same_byte a = elim (eqb_tells a a) [ inl same ↦ same.0 | inr apart ↦ absurd (apart.1 refl) ]

-- ---- from the test to a cutting

-- a part takes the byte, and those behind it match
first_byte : (part : PatternPart) (parts : List PatternPart) (byte : ℕ) (text : List ℕ) → IsTakenBy part (byte ∷ []) → MatchesFront parts text → MatchesFront (part ∷ parts) (byte ∷ text)
first_byte part parts byte text takes (front, rest, is, ends, matches) = (byte ∷ front, rest, ap (λ back. byte ∷ back) is, ends, (byte ∷ [], front, refl, takes, matches))

-- a part takes one byte more
longer_piece : (part : PatternPart) (parts : List PatternPart) (byte : ℕ) (text : List ℕ) → ((piece : List ℕ) → IsTakenBy part piece → IsTakenBy part (byte ∷ piece)) → MatchesFront (part ∷ parts) text → MatchesFront (part ∷ parts) (byte ∷ text)
longer_piece part parts byte text more (front, rest, is, ends, (piece, behind, cut, takes, matches)) =
    (byte ∷ front, rest, ap (λ back. byte ∷ back) is, ends, (byte ∷ piece, behind, ap (λ back. byte ∷ back) cut, more piece takes, matches))

pub cutting : (parts : List PatternPart) (text : List ℕ) → matches_front parts text ≡ true → MatchesFront parts text
cutting [] text e = ([], text, refl, e, refl)
cutting (part ∷ parts) [] e = absurd cc
cutting (kinds.Byte wanted ∷ parts) (byte ∷ text) e =
    let two = both_true (byte == wanted) (matches_front parts text) e in
    first_byte (kinds.Byte wanted) parts byte text (ap (λ b. b ∷ []) (byte_is byte wanted two.0)) (cutting parts text two.1)
cutting (kinds.Within ∷ parts) (byte ∷ text) e =
    let two = both_true (not (is_slash byte)) (matches_front parts text || matches_front (kinds.Within ∷ parts) text) e in
    elim (one_true (matches_front parts text) (matches_front (kinds.Within ∷ parts) text) two.1) [
      | inl here ↦ first_byte kinds.Within parts byte text (refl, rw two.0 refl) (cutting parts text here)
      | inr on ↦ longer_piece kinds.Within parts byte text (λ piece takes. (refl, rw two.0 takes.1)) (cutting (kinds.Within ∷ parts) text on)
    ]
cutting (kinds.Across ∷ parts) (byte ∷ text) e =
    elim (one_true (matches_front parts text) (matches_front (kinds.Across ∷ parts) text) e) [
      | inl here ↦ first_byte kinds.Across parts byte text refl (cutting parts text here)
      | inr on ↦ longer_piece kinds.Across parts byte text (λ piece takes. refl) (cutting (kinds.Across ∷ parts) text on)
    ]

-- ---- from a cutting to the test

within : (parts : List PatternPart) (piece text : List ℕ) → IsTrue (is_filled piece) → IsTrue (has_no_slash piece) → matches_front parts text ≡ true → matches_front (kinds.Within ∷ parts) (piece ++ text) ≡ true
within parts [] text filled whole e = absurd cc
within parts (byte ∷ []) text filled whole e =
    let two = both_true (not (is_slash byte)) true whole in
    rw (two.0, e) refl
within parts (byte ∷ next ∷ piece) text filled whole e =
    let two = both_true (not (is_slash byte)) (has_no_slash (next ∷ piece)) whole in
    rw (two.0) (or_true (matches_front parts ((next ∷ piece) ++ text)) _ (inr (within parts (next ∷ piece) text refl two.1 e)))

across : (parts : List PatternPart) (piece text : List ℕ) → IsTrue (is_filled piece) → matches_front parts text ≡ true → matches_front (kinds.Across ∷ parts) (piece ++ text) ≡ true
across parts [] text filled e = absurd cc
across parts (byte ∷ []) text filled e = rw e refl
across parts (byte ∷ next ∷ piece) text filled e = or_true (matches_front parts ((next ∷ piece) ++ text)) _ (inr (across parts (next ∷ piece) text refl e))

taken : (part : PatternPart) (parts : List PatternPart) (piece text : List ℕ) → IsTakenBy part piece → matches_front parts text ≡ true → matches_front (part ∷ parts) (piece ++ text) ≡ true
taken (kinds.Byte wanted) parts piece text takes e = rw (takes, e, same_byte wanted) refl
taken kinds.Within parts piece text takes e = within parts piece text takes.0 takes.1 e
taken kinds.Across parts piece text takes e = across parts piece text takes e

pub tested : (parts : List PatternPart) (front rest : List ℕ) → Matches parts front → IsTrue (is_end rest) → matches_front parts (front ++ rest) ≡ true
tested [] front rest none ends = rw none ends
tested (part ∷ parts) front rest (piece, behind, cut, takes, matches) ends =
    ap (λ whole. matches_front (part ∷ parts) (whole ++ rest)) cut
    ∙ ap (λ whole. matches_front (part ∷ parts) whole) (append_assoc piece behind rest)
    ∙ taken part parts piece (behind ++ rest) takes (tested parts behind rest matches ends)

-- ---- excluded files

below_cut : (pattern : Pattern) (path : List (List ℕ)) (b : Option (List (List ℕ))) → behind pattern.folder path ≡ b → matches_below pattern.parts b ≡ true → IsExcludedBy pattern path
below_cut pattern path None is e = absurd cc
below_cut pattern path (Some below) is e =
    let text = join_with_byte 47 below in
    let two = both_true (is_filled text) (matches_front pattern.parts text) e in
    (text, (below, head_behind pattern.folder path below is, refl), two.0, cutting pattern.parts text two.1)

excluded_cut : (pattern : Pattern) (path : List (List ℕ)) → is_excluded_by pattern path ≡ true → IsExcludedBy pattern path
unfolding is_excluded_by
excluded_cut pattern path e = below_cut pattern path (behind pattern.folder path) refl e

cut_excluded : (pattern : Pattern) (path : List (List ℕ)) → IsExcludedBy pattern path → is_excluded_by pattern path ≡ true
unfolding is_excluded_by
cut_excluded pattern path (text, (below, at, is), filled, (front, rest, cut, ends, matches)) =
    let test : matches_front pattern.parts text ≡ true = ap (matches_front pattern.parts) cut ∙ tested pattern.parts front rest matches ends in
    rw (at, behind_head pattern.folder below, sym is, filled, test) refl

abbrev pub Passing : {X : Type 0} → (X → Bool) → List X → Type 0
Passing {X} p xs = (x : X) × Contains xs x × (p x ≡ true)

one_behind : {X : Type 0} (p : X → Bool) (x : X) (xs : List X) → Passing p xs → Passing p (x ∷ xs)
one_behind p x xs (found, (at, below, is), passes) = (found, (suc at, omega (arith, below), is), passes)

some_step : {X : Type 0} (p : X → Bool) (x : X) (xs : List X) (t : Bool) → p x ≡ t → (list_any p xs ≡ true → Passing p xs) → (t || list_any p xs) ≡ true → Passing p (x ∷ xs)
some_step p x xs true e rest any = (x, (0, omega arith, refl), e)
some_step p x xs false e rest any = one_behind p x xs (rest any)

some_passes : {X : Type 0} (p : X → Bool) (xs : List X) → list_any p xs ≡ true → Passing p xs
some_passes p [] e = absurd cc
some_passes p (x ∷ xs) e = some_step p x xs (p x) refl (some_passes p xs) e

passes_at : {X : Type 0} (p : X → Bool) (xs : List X) (at : ℕ) (x d : X) → at < length xs → get_or xs at d ≡ x → p x ≡ true → list_any p xs ≡ true
passes_at p [] at x d below is e = absurd (omega (arith, below))
passes_at p (y ∷ ys) zero x d below is e = rw (is, e) refl
passes_at p (y ∷ ys) (suc at) x d below is e = or_true (p y) (list_any p ys) (inr (passes_at p ys at x d (omega (arith, below)) is e))

pub some_cutting : (patterns : List Pattern) (path : List (List ℕ)) → IsTrue (is_excluded patterns path) → IsExcluded patterns path
unfolding is_excluded
some_cutting patterns path e =
    let found = some_passes (λ pattern. is_excluded_by pattern path) patterns e in
    (found.0, found.1, excluded_cut found.0 path found.2)

pub cutting_some : (patterns : List Pattern) (path : List (List ℕ)) → IsExcluded patterns path → IsTrue (is_excluded patterns path)
unfolding is_excluded
cutting_some patterns path (pattern, there, by) = passes_at (λ one. is_excluded_by one path) patterns there.0 pattern pattern there.1 there.2 (cut_excluded pattern path by)
