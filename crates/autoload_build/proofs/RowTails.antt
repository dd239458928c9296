-- The paths that rows give classes, below the folders of rows: the last name is a part with `.php` behind it, and no name
-- begins with `.`, unless the last one is `.php` alone.
use Rattle.std.proofs.Common.{◌≡◌, ◌≢◌, ℕ, zero, suc, ◌-◌, Bool, true, false, cond, List, [], ◌∷◌, ◌++◌, length, drop, filter, refl, sym, ap, subst, ◌∙◌, append_assoc, arith, inl, inr}
use Rattle.std.specs.Prelude.{codes, not, ◌==◌, nat_eq}
use Rattle.std.specs.Cmp.Lexicographic.{pointwise}
use Rattle.std.specs.List.{list_all, onto_first, slice_split}
use Rattle.std.specs.Str.{is_utf8}
use Rattle.std.proofs.lemmas.Bool.{false≢true}
use Rattle.std.proofs.lemmas.Bool.Decides.{eqb_tells}
use Rattle.std.proofs.lemmas.List.{length-append}
use Rattle.std.proofs.Math.Seq.{drop-append_seam}
use Rattle.path_name.specs.Bytes.{continues_identifier, is_identifier, starts_identifier}
use Rattle.path_name.proofs.Joining.{HasFirst, both_true}
use Rattle.class_paths.specs.ClassNames.{is_class_name, is_name_part}
use Rattle.class_paths.specs.Prefixes.{is_backslash}
use Rattle.class_paths.specs.RowPath.{is_no_part, is_underscore, path_below, php_ending, with_cut_class, with_ending}
use Rattle.class_paths.specs.declared.types.RouteKind.{RouteKind}
use Rattle.class_paths.specs.declared.types.RouteKind.TheVariants.{Psr4, Psr0}
use Rattle.class_paths.proofs.ClassParts.{all_so}
use Rattle.class_paths.proofs.Members.{filter_all}
use Rattle.class_paths.proofs.PathParts.{cut_has_first}
use Rattle.class_walk.specs.Walks.{ends_in, is_hidden, last_of}

-- ---- no `.` in a class name

abbrev no_dot : ℕ → Bool
no_dot byte = not (byte == 46)

abbrev no_dots : List ℕ → Bool
no_dots text = list_all no_dot text

not_dot : (p : ℕ → Bool) (byte : ℕ) → p 46 ≡ false → p byte ≡ true → no_dot byte ≡ true
not_dot p byte fails fits = elim (eqb_tells byte 46) [ inl e ↦ absurd (false≢true (sym fails ∙ sym (ap p e.1) ∙ fits)) | inr e ↦ ap not e.0 ]

part_has_none : (part : List ℕ) → is_name_part part ≡ true → no_dots part ≡ true
part_has_none [] fits = refl
part_has_none (byte ∷ bytes) fits =
    let both = both_true (is_identifier (byte ∷ bytes)) (is_utf8 (byte ∷ bytes)) fits in
    let first = both_true (starts_identifier byte) (list_all continues_identifier bytes) both.0 in
    let all : list_all continues_identifier (byte ∷ bytes) ≡ true = rw (first.0, first.1) refl in
    all_so continues_identifier no_dot (λ b fit. not_dot continues_identifier b refl fit) (byte ∷ bytes) all

parts_have_none : (parts : List (List ℕ)) → list_all is_name_part parts ≡ true → list_all no_dots parts ≡ true
parts_have_none [] all = refl
parts_have_none (part ∷ parts) all =
    let both = both_true (is_name_part part) (list_all is_name_part parts) all in
    rw (part_has_none part both.0, parts_have_none parts both.1) refl

text_step : (t : Bool) (byte : ℕ) (parts : List (List ℕ)) → is_backslash byte ≡ t → HasFirst parts → list_all no_dots (cond t ([] ∷ parts) (onto_first byte parts)) ≡ true → (no_dot byte ≡ true) × (list_all no_dots parts ≡ true)
text_step true byte parts e first all = (not_dot is_backslash byte refl e, all)
text_step false byte [] e first all = absurd first
text_step false byte (part ∷ parts) e first all =
    let both = both_true (no_dots (byte ∷ part)) (list_all no_dots parts) all in
    let here = both_true (no_dot byte) (no_dots part) both.0 in
    (here.0, rw (here.1, both.1) refl)

text_has_none : (text : List ℕ) → list_all no_dots (slice_split is_backslash text) ≡ true → no_dots text ≡ true
text_has_none [] all = refl
text_has_none (byte ∷ rest) all =
    let step = text_step (is_backslash byte) byte (slice_split is_backslash rest) refl (cut_has_first is_backslash rest) all in
    rw (step.0, text_has_none rest step.1) refl

name_has_none : (name : List ℕ) → is_class_name name ≡ true → no_dots name ≡ true
name_has_none name is = text_has_none name (parts_have_none (slice_split is_backslash name) is)

-- ---- none in what it is cut into

dropped : (n : ℕ) (text : List ℕ) → no_dots text ≡ true → no_dots (drop n text) ≡ true
dropped zero text all = all
dropped (suc n) [] all = refl
dropped (suc n) (byte ∷ text) all = dropped n text (both_true (no_dot byte) (no_dots text) all).1

split_step : (t : Bool) (byte : ℕ) (parts : List (List ℕ)) → no_dot byte ≡ true → list_all no_dots parts ≡ true → list_all no_dots (cond t ([] ∷ parts) (onto_first byte parts)) ≡ true
split_step true byte parts here all = all
split_step false byte [] here all = rw here refl
split_step false byte (part ∷ parts) here all =
    let both = both_true (no_dots part) (list_all no_dots parts) all in
    rw (here, both.0, both.1) refl

split_has_none : (p : ℕ → Bool) (text : List ℕ) → no_dots text ≡ true → list_all no_dots (slice_split p text) ≡ true
split_has_none p [] all = refl
split_has_none p (byte ∷ rest) all =
    let both = both_true (no_dot byte) (no_dots rest) all in
    split_step (p byte) byte (slice_split p rest) both.0 (split_has_none p rest both.1)

class_has_none : (parts : List (List ℕ)) → list_all no_dots parts ≡ true → list_all no_dots (with_cut_class parts) ≡ true
class_has_none [] all = refl
class_has_none (part ∷ []) all = split_has_none is_underscore part (both_true (no_dots part) true all).0
class_has_none (part ∷ next ∷ parts) all =
    let both = both_true (no_dots part) (list_all no_dots (next ∷ parts)) all in
    rw (both.0, class_has_none (next ∷ parts) both.1) refl

class_has_first : (parts : List (List ℕ)) → HasFirst parts → HasFirst (with_cut_class parts)
class_has_first [] first = absurd first
class_has_first (part ∷ []) first = cut_has_first is_underscore part
class_has_first (part ∷ next ∷ parts) first = tt

-- ---- parts with the ending

-- the last name is a part with the ending behind it
pub record EndsInPhp (tail : List (List ℕ)) : Type 0 where
  pub front : List (List ℕ)
  pub part : List ℕ
  pub is : tail ≡ front ++ (part ++ php_ending) ∷ []

ending_is : php_ending ≡ codes ".php"
unfolding php_ending
ending_is = refl

not_empty : (part : List ℕ) → is_no_part (part ++ php_ending) ≡ false
unfolding php_ending
not_empty [] = refl
not_empty (byte ∷ bytes) = refl

abbrev shown_name : List ℕ → Bool
shown_name name = not (is_hidden name)

part_shown : (part : List ℕ) → no_dots part ≡ true → shown_name part ≡ true
part_shown [] none = refl
part_shown (byte ∷ bytes) none = (both_true (no_dot byte) (no_dots bytes) none).0

-- a test that drops none but empty names
module _ (keep : List ℕ → Bool) (keeps : (byte : ℕ) (bytes : List ℕ) → keep (byte ∷ bytes) ≡ true) where
  filled_kept : (part : List ℕ) → is_no_part part ≡ false → keep part ≡ true
  filled_kept [] e = absurd cc
  filled_kept (byte ∷ bytes) e = keeps byte bytes

  last_kept : (part : List ℕ) → keep (part ++ php_ending) ≡ true
  last_kept part = filled_kept (part ++ php_ending) (not_empty part)

  one_more : (b : Bool) (x : List ℕ) (rest : List (List ℕ)) → EndsInPhp rest → EndsInPhp (cond b (x ∷ rest) rest)
  one_more true x rest ends = record { front = x ∷ ends.front; part = ends.part; is = ap (λ list. x ∷ list) ends.is }
  one_more false x rest ends = ends

  parts_end : (parts : List (List ℕ)) → HasFirst parts → EndsInPhp (filter keep (with_ending parts))
  parts_end [] first = absurd first
  parts_end (part ∷ []) first = subst (λ b. EndsInPhp (cond b ((part ++ php_ending) ∷ []) [])) (sym (last_kept part)) (record { front = []; part = part; is = refl })
  parts_end (part ∷ next ∷ parts) first = one_more (keep part) part (filter keep (with_ending (next ∷ parts))) (parts_end (next ∷ parts) tt)

  alone_shown : (part : List ℕ) → no_dots part ≡ true → last_of (filter keep ((part ++ php_ending) ∷ [])) ≢ codes ".php" → list_all shown_name (filter keep ((part ++ php_ending) ∷ [])) ≡ true
  alone_shown [] none other = absurd (other (ap (λ b. last_of (cond b (php_ending ∷ []) [])) (last_kept []) ∙ ending_is))
  alone_shown (byte ∷ bytes) none other =
      let here = both_true (no_dot byte) (no_dots bytes) none in
      ap (λ b. list_all shown_name (cond b (((byte ∷ bytes) ++ php_ending) ∷ []) [])) (keeps byte (bytes ++ php_ending)) ∙ rw here.0 refl

  first_shown : (b : Bool) (x : List ℕ) (rest : List (List ℕ)) → shown_name x ≡ true → (last_of rest ≢ codes ".php" → list_all shown_name rest ≡ true) → last_of (cond b (x ∷ rest) rest) ≢ codes ".php" → list_all shown_name (cond b (x ∷ rest) rest) ≡ true
  first_shown false x rest here each other = each other
  first_shown true x [] here each other = rw here refl
  first_shown true x (y ∷ rest) here each other = rw here (each other)

  parts_shown : (parts : List (List ℕ)) → list_all no_dots parts ≡ true → last_of (filter keep (with_ending parts)) ≢ codes ".php" → list_all shown_name (filter keep (with_ending parts)) ≡ true
  parts_shown [] all other = refl
  parts_shown (part ∷ []) all other = alone_shown part (both_true (no_dots part) true all).0 other
  parts_shown (part ∷ next ∷ parts) all other =
      let both = both_true (no_dots part) (list_all no_dots (next ∷ parts)) all in
      first_shown (keep part) part (filter keep (with_ending (next ∷ parts))) (part_shown part both.0) (λ later. parts_shown (next ∷ parts) both.1 later) other

-- ---- paths of rows

all_kept : (parts : List (List ℕ)) → filter (λ (part : List ℕ). true) parts ≡ parts
all_kept parts = filter_all (λ (part : List ℕ). true) parts (λ part there. refl)

pub row_tail : (kind : RouteKind) (prefix name : List ℕ) → EndsInPhp (path_below kind prefix name)
row_tail Psr4 prefix name =
    let parts = slice_split is_backslash (drop (length prefix) name) in
    subst EndsInPhp (all_kept (with_ending parts)) (parts_end (λ part. true) (λ byte bytes. refl) parts (cut_has_first is_backslash (drop (length prefix) name)))
row_tail Psr0 prefix name =
    let parts = with_cut_class (slice_split is_backslash name) in
    parts_end (λ part. not (is_no_part part)) (λ byte bytes. refl) parts (class_has_first (slice_split is_backslash name) (cut_has_first is_backslash name))

-- no name is hidden
pub tail_shown : (kind : RouteKind) (prefix name : List ℕ) → is_class_name name ≡ true → last_of (path_below kind prefix name) ≢ codes ".php" → list_all (λ part. not (is_hidden part)) (path_below kind prefix name) ≡ true
tail_shown Psr4 prefix name is other =
    let rest = drop (length prefix) name in
    let parts = slice_split is_backslash rest in
    let same = all_kept (with_ending parts) in
    ap (list_all shown_name) (sym same)
    ∙ parts_shown (λ part. true) (λ byte bytes. refl) parts (split_has_none is_backslash rest (dropped (length prefix) name (name_has_none name is))) (λ e. other (ap last_of (sym same) ∙ e))
tail_shown Psr0 prefix name is other =
    let parts = with_cut_class (slice_split is_backslash name) in
    parts_shown (λ part. not (is_no_part part)) (λ byte bytes. refl) parts (class_has_none (slice_split is_backslash name) (parts_have_none (slice_split is_backslash name) is)) other

last_snoc : (front : List (List ℕ)) (x : List ℕ) → last_of (front ++ x ∷ []) ≡ x
last_snoc [] x = refl
last_snoc (y ∷ []) x = refl
last_snoc (y ∷ z ∷ front) x = last_snoc (z ∷ front) x

-- the last name of such a path, also behind a folder
pub last_is : (folder tail : List (List ℕ)) (ends : EndsInPhp tail) → last_of (folder ++ tail) ≡ ends.part ++ php_ending
last_is folder tail ends =
    ap (λ t. last_of (folder ++ t)) ends.is ∙ ap last_of (sym (append_assoc folder ends.front ((ends.part ++ php_ending) ∷ []))) ∙ last_snoc (folder ++ ends.front) (ends.part ++ php_ending)

text_ends : (part : List ℕ) → ends_in (codes ".php") (part ++ php_ending) ≡ true
unfolding php_ending
text_ends part =
    let at : length (part ++ codes ".php") - 4 ≡ length part = omega (arith, length-append part (codes ".php")) in
    ap (λ n. pointwise nat_eq (codes ".php") (drop n (part ++ codes ".php"))) at ∙ ap (pointwise nat_eq (codes ".php")) (drop-append_seam part (codes ".php"))

pub tail_ends : (folder tail : List (List ℕ)) → EndsInPhp tail → ends_in (codes ".php") (last_of (folder ++ tail)) ≡ true
tail_ends folder tail ends = ap (ends_in (codes ".php")) (last_is folder tail ends) ∙ text_ends ends.part
