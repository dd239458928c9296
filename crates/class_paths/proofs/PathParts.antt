-- The texts of paths that rows give are read as these paths.
use Rattle.std.proofs.Common.{◌≡◌, ℕ, zero, suc, ◌+◌, ◌-◌, ◌<◌, ◌≤◌, Bool, true, false, cond, List, [], ◌∷◌, ◌++◌, length, get_or, take, drop, map, filter, Ok, refl, sym, ap, subst, ◌∙◌, append_assoc, arith}
use Rattle.std.specs.Prelude.{not, ◌||◌}
use Rattle.std.specs.List.{list_all, list_any, slice_split, onto_first}
use Rattle.std.specs.Str.{is_utf8, chars}
use Rattle.std.proofs.lemmas.Bool.{false≢true}
use Rattle.std.proofs.lemmas.List.{append-nil}
use Rattle.std.proofs.lemmas.List.Folds.{list_any_at}
use Rattle.path_name.specs.Paths.{is_slash, is_clean, is_segment, placed, path_step, read_parts}
use Rattle.path_name.proofs.Joining.{both_true, not_true, HasFirst, segment_facts}
use Rattle.path_name.proofs.Parts.{reads_on}
use Rattle.class_paths.specs.Prefixes.{is_backslash}
use Rattle.class_paths.specs.RowPath.{php_ending, with_ending, with_cut_class, is_underscore, is_no_part}
use Rattle.class_paths.specs.PathTexts.{slashed, parted, own_name_at, psr4_text}

-- ---- where a class's own name begins

minus_one : (n : ℕ) → suc n - 1 ≡ n
minus_one n = omega arith

pub own_name_is : (name : List ℕ) (at : ℕ) → at ≤ length name → list_any is_backslash (drop at name) ≡ false → (0 < at → is_backslash (get_or name (at - 1) 0) ≡ true) → at ≡ own_name_at name
own_name_is [] zero within none before = refl
own_name_is [] (suc at) within none before = absurd (omega (arith, within))
own_name_is (byte ∷ rest) zero within none before = rw none refl
own_name_is (byte ∷ rest) (suc at) within none before =
    let here : is_backslash (get_or (byte ∷ rest) at 0) ≡ true = subst (λ k. is_backslash (get_or (byte ∷ rest) k 0) ≡ true) (minus_one at) (before (omega arith)) in
    let there : list_any is_backslash (byte ∷ rest) ≡ true = list_any_at is_backslash (byte ∷ rest) at 0 (omega (arith, within)) here in
    rw there (ap suc (own_name_is rest at (omega (arith, within)) none (below at here)))
  where
    below : (k : ℕ) → is_backslash (get_or (byte ∷ rest) k 0) ≡ true → 0 < k → is_backslash (get_or rest (k - 1) 0) ≡ true
    below zero slash some = absurd (omega (arith, some))
    below (suc k) slash some = subst (λ n. is_backslash (get_or rest n 0) ≡ true) (sym (minus_one k)) slash

-- ---- parts that are read: empty ones leave nothing

abbrev pub is_kept : List ℕ → Bool
is_kept part = is_no_part part || is_segment part

nothing_is_clean : is_clean [] ≡ true
unfolding is_utf8 chars lib.Utf8.encode
nothing_is_clean = refl

pub reads_kept : (at : ℕ) (before parts : List (List ℕ)) → list_all is_kept parts ≡ true → read_parts path_step before (placed at parts) ≡ Ok (before ++ filter (λ part. not (is_no_part part)) parts)
reads_kept at before [] kept = ap Ok (sym (append-nil before))
reads_kept at before ([] ∷ parts) kept =
    reads_on path_step before before (at, []) (placed (at + 0 + 1) parts) (rw nothing_is_clean refl) ∙ reads_kept (at + 0 + 1) before parts kept
reads_kept at before ((byte ∷ bytes) ∷ parts) kept =
    let part = byte ∷ bytes in
    let both = both_true (is_segment part) (list_all is_kept parts) kept in
    let s = segment_facts part both.0 in
    reads_on path_step before (before ++ part ∷ []) (at, part) (placed (at + length part + 1) parts) (rw (s.clean, s.here, s.above) refl)
    ∙ reads_kept (at + length part + 1) (before ++ part ∷ []) parts both.1 ∙ ap Ok (append_assoc before (part ∷ []) (filter (λ p. not (is_no_part p)) parts))

-- ---- the text of a path, cut at its `/`

pub first_of_cut : (t : Bool) (byte : ℕ) (parts : List (List ℕ)) → HasFirst (cond t ([] ∷ parts) (onto_first byte parts))
first_of_cut true byte parts = tt
first_of_cut false byte [] = tt
first_of_cut false byte (part ∷ parts) = tt

pub cut_has_first : (p : ℕ → Bool) (text : List ℕ) → HasFirst (slice_split p text)
cut_has_first p [] = tt
cut_has_first p (byte ∷ text) = first_of_cut (p byte) byte (slice_split p text)

ending_onto : (byte : ℕ) (parts : List (List ℕ)) → HasFirst parts → onto_first byte (with_ending parts) ≡ with_ending (onto_first byte parts)
ending_onto byte [] first = absurd first
ending_onto byte (part ∷ []) first = refl
ending_onto byte (part ∷ next ∷ parts) first = refl

ending_behind : (parts : List (List ℕ)) → HasFirst parts → [] ∷ with_ending parts ≡ with_ending ([] ∷ parts)
ending_behind [] first = absurd first
ending_behind (part ∷ parts) first = refl

ending_cut : slice_split is_slash php_ending ≡ with_ending ([] ∷ [])
unfolding php_ending
ending_cut = refl

-- a `\` is a cut, and no other byte is one
cut_step : (t : Bool) (byte : ℕ) (parts : List (List ℕ)) → is_slash byte ≡ false → HasFirst parts
    → cond (is_slash (cond t 47 byte)) ([] ∷ with_ending parts) (onto_first (cond t 47 byte) (with_ending parts)) ≡ with_ending (cond t ([] ∷ parts) (onto_first byte parts))
cut_step true byte parts whole first = ending_behind parts first
cut_step false byte parts whole first = rw whole (ending_onto byte parts first)

pub psr4_cut : (rest : List ℕ) → list_all (λ byte. not (is_slash byte)) rest ≡ true → slice_split is_slash (psr4_text rest) ≡ with_ending (slice_split is_backslash rest)
psr4_cut [] whole = ending_cut
psr4_cut (byte ∷ rest) whole =
    let both = both_true (not (is_slash byte)) (list_all (λ b. not (is_slash b)) rest) whole in
    ap (λ parts. cond (is_slash (slashed byte)) ([] ∷ parts) (onto_first (slashed byte) parts)) (psr4_cut rest both.1)
    ∙ cut_step (is_backslash byte) byte (slice_split is_backslash rest) (not_true (is_slash byte) both.0) (cut_has_first is_backslash rest)

-- ---- the text of a path of PSR-0

abbrev pub class_text : List ℕ → List ℕ
class_text [] = []
class_text (byte ∷ rest) = cond (list_any is_backslash (byte ∷ rest)) (slashed byte) (parted byte) ∷ class_text rest

either_false : (a b : Bool) → (a || b) ≡ false → (a ≡ false) × (b ≡ false)
either_false true b e = absurd (false≢true (sym e))
either_false false b e = (refl, e)

all_parted : (text : List ℕ) → list_any is_backslash text ≡ false → class_text text ≡ map parted text
all_parted [] none = refl
all_parted (byte ∷ rest) none =
    let both = either_false (is_backslash byte) (list_any is_backslash rest) none in
    rw (none, all_parted rest both.1) refl

pub class_text_is : (name : List ℕ) → map slashed (take (own_name_at name) name) ++ map parted (drop (own_name_at name) name) ≡ class_text name
class_text_is [] = refl
class_text_is (byte ∷ rest) = by (class_text_is rest) (list_any is_backslash (byte ∷ rest)) refl
  where
    by : map slashed (take (own_name_at rest) rest) ++ map parted (drop (own_name_at rest) rest) ≡ class_text rest → (t : Bool) → list_any is_backslash (byte ∷ rest) ≡ t → map slashed (take (own_name_at (byte ∷ rest)) (byte ∷ rest)) ++ map parted (drop (own_name_at (byte ∷ rest)) (byte ∷ rest)) ≡ class_text (byte ∷ rest)
    by same true e = rw e (ap (λ text. slashed byte ∷ text) same)
    by same false e = rw e (ap (λ text. parted byte ∷ text) (sym (all_parted rest (either_false (is_backslash byte) (list_any is_backslash rest) e).1)))

-- more than one part
abbrev has_more : List (List ℕ) → Bool
has_more [] = false
has_more (part ∷ []) = false
has_more (part ∷ next ∷ parts) = true

more_cut : (t : Bool) (byte : ℕ) (parts : List (List ℕ)) → HasFirst parts → (t || has_more parts) ≡ has_more (cond t ([] ∷ parts) (onto_first byte parts))
more_cut t byte [] first = absurd first
more_cut true byte (part ∷ parts) first = refl
more_cut false byte (part ∷ []) first = refl
more_cut false byte (part ∷ next ∷ parts) first = refl

any_cut : (text : List ℕ) → list_any is_backslash text ≡ has_more (slice_split is_backslash text)
any_cut [] = refl
any_cut (byte ∷ rest) = ap (λ t. is_backslash byte || t) (any_cut rest) ∙ more_cut (is_backslash byte) byte (slice_split is_backslash rest) (cut_has_first is_backslash rest)

class_has_first : (parts : List (List ℕ)) → HasFirst parts → HasFirst (with_cut_class parts)
class_has_first [] first = absurd first
class_has_first (part ∷ []) first = cut_has_first is_underscore part
class_has_first (part ∷ next ∷ parts) first = tt

behind_class : (parts : List (List ℕ)) → HasFirst parts → [] ∷ with_ending (with_cut_class parts) ≡ with_ending (with_cut_class ([] ∷ parts))
behind_class [] first = absurd first
behind_class (part ∷ parts) first = ending_behind (with_cut_class (part ∷ parts)) (class_has_first (part ∷ parts) first)

onto_class : (u : Bool) (byte : ℕ) (part : List ℕ) → is_underscore byte ≡ u → is_slash byte ≡ false
    → cond (is_slash (cond u 47 byte)) ([] ∷ with_ending (slice_split is_underscore part)) (onto_first (cond u 47 byte) (with_ending (slice_split is_underscore part))) ≡ with_ending (slice_split is_underscore (byte ∷ part))
onto_class true byte part e whole = rw e (ending_behind (slice_split is_underscore part) (cut_has_first is_underscore part))
onto_class false byte part e whole = rw (e, whole) (ending_onto byte (slice_split is_underscore part) (cut_has_first is_underscore part))

-- one byte more in front
class_step : (t : Bool) (byte : ℕ) (parts : List (List ℕ)) → is_slash byte ≡ false → HasFirst parts
    → let b = cond (t || has_more parts) (cond t 47 byte) (cond (is_underscore byte) 47 (cond t 47 byte)) in
    cond (is_slash b) ([] ∷ with_ending (with_cut_class parts)) (onto_first b (with_ending (with_cut_class parts))) ≡ with_ending (with_cut_class (cond t ([] ∷ parts) (onto_first byte parts)))
class_step t byte [] whole first = absurd first
class_step true byte (part ∷ parts) whole first = behind_class (part ∷ parts) first
class_step false byte (part ∷ []) whole first = onto_class (is_underscore byte) byte part refl whole
class_step false byte (part ∷ next ∷ parts) whole first = rw whole (ending_onto byte (part ∷ with_cut_class (next ∷ parts)) tt)

pub psr0_cut : (name : List ℕ) → list_all (λ byte. not (is_slash byte)) name ≡ true → slice_split is_slash (class_text name ++ php_ending) ≡ with_ending (with_cut_class (slice_split is_backslash name))
psr0_cut [] whole = ending_cut
psr0_cut (byte ∷ rest) whole =
    let both = both_true (not (is_slash byte)) (list_all (λ b. not (is_slash b)) rest) whole in
    let b = cond (list_any is_backslash (byte ∷ rest)) (slashed byte) (parted byte) in
    ap (λ parts. cond (is_slash b) ([] ∷ parts) (onto_first b parts)) (psr0_cut rest both.1)
    ∙ rw (any_cut rest) (class_step (is_backslash byte) byte (slice_split is_backslash rest) (not_true (is_slash byte) both.0) (cut_has_first is_backslash rest))
