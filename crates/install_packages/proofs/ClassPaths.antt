-- The paths that rows give classes, below the folders of rows: their first name is neither `.install` nor `composer.lock`.
use Rattle.std.proofs.Common.{◌≡◌, ℕ, zero, suc, Bool, true, false, cond, List, [], ◌∷◌, ◌++◌, length, drop, filter, refl, sym, ap, ◌∙◌, inl, inr}
use Rattle.std.specs.Prelude.{codes, not, ◌==◌, ◌||◌}
use Rattle.std.specs.List.{list_all, onto_first, slice_split}
use Rattle.std.specs.Str.{is_utf8}
use Rattle.std.proofs.lemmas.Bool.{false≢true}
use Rattle.std.proofs.lemmas.Bool.Decides.{eqb_tells}
use Rattle.path_name.specs.Bytes.{continues_identifier, is_identifier, starts_identifier}
use Rattle.path_name.specs.Orders.{bytes_are_equal}
use Rattle.path_name.proofs.Joining.{HasFirst, both_true}
use Rattle.tree_dev.proofs.Behind.{same_bytes}
use Rattle.class_paths.specs.ClassNames.{is_class_name, is_name_part}
use Rattle.class_paths.specs.Prefixes.{is_backslash}
use Rattle.class_paths.specs.RowPath.{is_no_part, is_underscore, path_below, php_ending, with_cut_class, with_ending}
use Rattle.class_paths.specs.declared.types.RouteKind.{RouteKind}
use Rattle.class_paths.specs.declared.types.RouteKind.TheVariants.{Psr4, Psr0}
use Rattle.class_paths.proofs.ClassParts.{all_so}
use Rattle.class_paths.proofs.PathParts.{cut_has_first}
use Rattle.class_walk.specs.Walks.{ends_in}
use Rattle.autoload_build.proofs.RowTails.{tail_ends}

-- ---- no `.` in a class name

abbrev no_dot : ℕ → Bool
no_dot byte = not (byte == 46)

abbrev no_dots : List ℕ → Bool
no_dots text = list_all no_dot text

not_dot : (test : ℕ → Bool) (byte : ℕ) → test 46 ≡ false → test byte ≡ true → no_dot byte ≡ true
not_dot test byte fails passes = elim (eqb_tells byte 46) [ inl e ↦ absurd (false≢true (sym fails ∙ sym (ap test e.1) ∙ passes)) | inr e ↦ ap not e.0 ]

part_has_none : (part : List ℕ) → is_name_part part ≡ true → no_dots part ≡ true
part_has_none [] is = refl
part_has_none (byte ∷ bytes) is =
    let both = both_true (is_identifier (byte ∷ bytes)) (is_utf8 (byte ∷ bytes)) is in
    let first = both_true (starts_identifier byte) (list_all continues_identifier bytes) both.0 in
    let all : list_all continues_identifier (byte ∷ bytes) ≡ true = rw (first.0, first.1) refl in
    all_so continues_identifier no_dot (λ b passes. not_dot continues_identifier b refl passes) (byte ∷ bytes) all

parts_have_none : (parts : List (List ℕ)) → list_all is_name_part parts ≡ true → list_all no_dots parts ≡ true
parts_have_none [] all = refl
parts_have_none (part ∷ parts) all =
    let both = both_true (is_name_part part) (list_all is_name_part parts) all in
    rw (part_has_none part both.0, parts_have_none parts both.1) refl

joined_step : (cut : Bool) (byte : ℕ) (parts : List (List ℕ)) → is_backslash byte ≡ cut → HasFirst parts → list_all no_dots (cond cut ([] ∷ parts) (onto_first byte parts)) ≡ true → (no_dot byte ≡ true) × (list_all no_dots parts ≡ true)
joined_step true byte parts e first all = (not_dot is_backslash byte refl e, all)
joined_step false byte [] e first all = absurd first
joined_step false byte (part ∷ parts) e first all =
    let both = both_true (no_dots (byte ∷ part)) (list_all no_dots parts) all in
    let here = both_true (no_dot byte) (no_dots part) both.0 in
    (here.0, rw (here.1, both.1) refl)

joined_has_none : (text : List ℕ) → list_all no_dots (slice_split is_backslash text) ≡ true → no_dots text ≡ true
joined_has_none [] all = refl
joined_has_none (byte ∷ rest) all =
    let step = joined_step (is_backslash byte) byte (slice_split is_backslash rest) refl (cut_has_first is_backslash rest) all in
    rw (step.0, joined_has_none rest step.1) refl

-- ---- none in what it is cut into

dropped : (n : ℕ) (text : List ℕ) → no_dots text ≡ true → no_dots (drop n text) ≡ true
dropped zero text all = all
dropped (suc n) [] all = refl
dropped (suc n) (byte ∷ text) all = dropped n text (both_true (no_dot byte) (no_dots text) all).1

cut_step : (cut : Bool) (byte : ℕ) (parts : List (List ℕ)) → no_dot byte ≡ true → list_all no_dots parts ≡ true → list_all no_dots (cond cut ([] ∷ parts) (onto_first byte parts)) ≡ true
cut_step true byte parts here all = all
cut_step false byte [] here all = rw here refl
cut_step false byte (part ∷ parts) here all =
    let both = both_true (no_dots part) (list_all no_dots parts) all in
    rw (here, both.0, both.1) refl

cut_has_none : (test : ℕ → Bool) (text : List ℕ) → no_dots text ≡ true → list_all no_dots (slice_split test text) ≡ true
cut_has_none test [] all = refl
cut_has_none test (byte ∷ rest) all =
    let both = both_true (no_dot byte) (no_dots rest) all in
    cut_step (test byte) byte (slice_split test rest) both.0 (cut_has_none test rest both.1)

class_has_none : (parts : List (List ℕ)) → list_all no_dots parts ≡ true → list_all no_dots (with_cut_class parts) ≡ true
class_has_none [] all = refl
class_has_none (part ∷ []) all = cut_has_none is_underscore part (both_true (no_dots part) true all).0
class_has_none (part ∷ next ∷ parts) all =
    let both = both_true (no_dots part) (list_all no_dots (next ∷ parts)) all in
    rw (both.0, class_has_none (next ∷ parts) both.1) refl

-- ---- names that an install writes beside `vendor`

abbrev pub is_aside_name : List ℕ → Bool
is_aside_name name = bytes_are_equal name (codes "composer.lock") || bytes_are_equal name (codes ".install")

pub neither : (name : List ℕ) → (name ≡ codes "composer.lock" → ⊥) → (name ≡ codes ".install" → ⊥) → is_aside_name name ≡ false
neither name lock work = by (bytes_are_equal name (codes "composer.lock")) refl (bytes_are_equal name (codes ".install")) refl
  where
    by : (a : Bool) → bytes_are_equal name (codes "composer.lock") ≡ a → (b : Bool) → bytes_are_equal name (codes ".install") ≡ b → a || b ≡ false
    by true e b f = absurd (lock (same_bytes name (codes "composer.lock") e))
    by false e true f = absurd (work (same_bytes name (codes ".install") f))
    by false e false f = refl

abbrev is_other : List ℕ → Bool
is_other name = not (is_aside_name name)

plain_part : (part : List ℕ) → no_dots part ≡ true → is_other part ≡ true
plain_part part none =
    ap not (neither part (λ e. false≢true (sym (ap no_dots e) ∙ none)) (λ e. false≢true (sym (ap no_dots e) ∙ none)))

php_part : (part : List ℕ) → is_other (part ++ php_ending) ≡ true
php_part part =
    let ends = tail_ends [] ((part ++ php_ending) ∷ []) (record { front = []; part = part; is = refl }) in
    ap not (neither (part ++ php_ending) (λ e. false≢true (sym (ap (ends_in (codes ".php")) e) ∙ ends)) (λ e. false≢true (sym (ap (ends_in (codes ".php")) e) ∙ ends)))

ended_parts : (parts : List (List ℕ)) → list_all no_dots parts ≡ true → list_all is_other (with_ending parts) ≡ true
ended_parts [] all = refl
ended_parts (part ∷ []) all = rw (php_part part) refl
ended_parts (part ∷ next ∷ parts) all =
    let both = both_true (no_dots part) (list_all no_dots (next ∷ parts)) all in
    rw (plain_part part both.0, ended_parts (next ∷ parts) both.1) refl

kept_parts : (keep : List ℕ → Bool) (parts : List (List ℕ)) → list_all is_other parts ≡ true → list_all is_other (filter keep parts) ≡ true
kept_parts keep [] all = refl
kept_parts keep (part ∷ parts) all =
    let both = both_true (is_other part) (list_all is_other parts) all in
    by (keep part) both.0 (kept_parts keep parts both.1)
  where
    by : (b : Bool) → is_other part ≡ true → list_all is_other (filter keep parts) ≡ true → list_all is_other (cond b (part ∷ filter keep parts) (filter keep parts)) ≡ true
    by true here rest = rw (here, rest) refl
    by false here rest = rest

-- ---- paths of rows

abbrev pub begins_aside : List (List ℕ) → Bool
begins_aside [] = false
begins_aside (name ∷ rest) = is_aside_name name

first_other : (path : List (List ℕ)) → list_all is_other path ≡ true → begins_aside path ≡ false
first_other [] all = refl
first_other (name ∷ rest) all = by (is_aside_name name) (both_true (is_other name) (list_all is_other rest) all).0
  where
    by : (b : Bool) → not b ≡ true → b ≡ false
    by true e = absurd (false≢true e)
    by false e = refl

pub path_begins : (kind : RouteKind) (prefix name : List ℕ) → is_class_name name ≡ true → begins_aside (path_below kind prefix name) ≡ false
path_begins Psr4 prefix name is =
    let rest = drop (length prefix) name in
    let none = joined_has_none name (parts_have_none (slice_split is_backslash name) is) in
    first_other (with_ending (slice_split is_backslash rest)) (ended_parts (slice_split is_backslash rest) (cut_has_none is_backslash rest (dropped (length prefix) name none)))
path_begins Psr0 prefix name is =
    let parts = with_cut_class (slice_split is_backslash name) in
    first_other (filter (λ part. not (is_no_part part)) (with_ending parts))
    (kept_parts (λ part. not (is_no_part part)) (with_ending parts) (ended_parts parts (class_has_none (slice_split is_backslash name) (parts_have_none (slice_split is_backslash name) is))))
