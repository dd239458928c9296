-- The parts of a class name are segments of a path, also where its last part is cut at `_`.
use Rattle.std.proofs.Common.{◌≡◌, ℕ, suc, zero, ◌+◌, ◌-◌, ◌<◌, ◌≤◌, Bool, true, false, cond, eqb, List, [], ◌∷◌, ◌++◌, length, get_or, drop, Ok, Some, refl, sym, ap, subst, ◌∙◌, arith, inl, inr}
use Rattle.std.specs.Prelude.{not, ◌||◌, ◌&&◌, ◌==◌}
use Rattle.std.specs.List.{list_all, slice_split, onto_first}
use Rattle.std.specs.Str.{is_utf8, IsUtf8, chars}
use Rattle.std.proofs.lemmas.Bool.{false≢true}
use Rattle.std.proofs.lemmas.Bool.Decides.{eqb_tells}
use Rattle.std.proofs.lemmas.List.{append-nil, length-drop}
use Rattle.std.proofs.lemmas.List.Folds.{list_all-append}
use Rattle.std.proofs.lemmas.Str.{IsUtf8-append, is_utf8-from_IsUtf8, IsUtf8-from_is_utf8}
use Rattle.path_name.specs.Bytes.{starts_identifier, continues_identifier, is_identifier}
use Rattle.path_name.specs.Paths.{is_slash, has_no_slash, is_clean, is_segment, placed, read_parts, path_step}
use Rattle.path_name.proofs.Joining.{both_true, segment_made}
use Rattle.class_paths.specs.ClassNames.{is_name_part}
use Rattle.class_paths.specs.RowPath.{php_ending, with_ending, is_no_part}
use Rattle.class_paths.specs.Prefixes.{is_backslash, is_end_of_prefix, is_psr4_prefix}
use Rattle.std.specs.Prelude.{◌⊎◌, filter}
use Rattle.std.specs.List.{position_or_len, before_first, after_first, slice_get}
use Rattle.std.proofs.lemmas.List.{take-append-drop}
use Rattle.std.proofs.lemmas.List.Sums.{fails_before_first, passes_at_first, split_at_first}
use Rattle.std.proofs.lemmas.List.Splits.{slice_split_none, slice_split_first}
use Rattle.std.proofs.lemmas.Str.{IsUtf8-take, IsUtf8-drop, IsCharBoundary-before_ascii, IsCharBoundary-after_ascii}
use Rattle.path_name.specs.Paths.{path_of}
use Rattle.path_name.proofs.Joining.{HasFirst}
use Rattle.class_paths.specs.RowPath.{with_cut_class, is_underscore, path_behind, path_of_class, begins}
use Rattle.class_paths.specs.PathTexts.{psr4_text, psr0_text}
use Rattle.class_paths.proofs.PathParts.{is_kept, reads_kept, psr4_cut, psr0_cut, class_text_is, cut_has_first}
use Rattle.class_paths.proofs.PrefixOrder.{first_bytes}

not_byte : (p : ℕ → Bool) (byte other : ℕ) → p byte ≡ true → p other ≡ false → eqb byte other ≡ false
not_byte p byte other fits fails = elim (eqb_tells byte other) [ inl e ↦ absurd (false≢true (sym fails ∙ sym (ap p e.1) ∙ fits)) | inr e ↦ e.0 ]

pub all_so : (p q : ℕ → Bool) → ((byte : ℕ) → p byte ≡ true → q byte ≡ true) → (bytes : List ℕ) → list_all p bytes ≡ true → list_all q bytes ≡ true
all_so p q so [] all = refl
all_so p q so (byte ∷ bytes) all =
    let both = both_true (p byte) (list_all p bytes) all in
    rw (so byte both.0, all_so p q so bytes both.1) refl

-- what stands in an identifier is no NUL and no `/`
not_in_identifier : (other : ℕ) → continues_identifier other ≡ false → (byte : ℕ) → continues_identifier byte ≡ true → not (eqb byte other) ≡ true
not_in_identifier other fails byte fits = rw (not_byte continues_identifier byte other fits fails) refl

all_of_both : (p : ℕ → Bool) (front back : List ℕ) → list_all p front ≡ true → list_all p back ≡ true → list_all p (front ++ back) ≡ true
all_of_both p front back all more = list_all-append p front back ∙ rw (all, more) refl

-- bytes of identifiers that are UTF-8
pub record IsPiece (piece : List ℕ) : Type 0 where
  pub bytes : list_all continues_identifier piece ≡ true
  pub text : is_utf8 piece ≡ true

-- a piece that is not empty, with more behind it
pub piece_with : (byte : ℕ) (bytes tail : List ℕ) → IsPiece (byte ∷ bytes) → is_clean tail ≡ true → has_no_slash tail ≡ true → is_segment ((byte ∷ bytes) ++ tail) ≡ true
piece_with byte bytes tail piece clean whole =
    let part = byte ∷ bytes in
    let first = both_true (continues_identifier byte) (list_all continues_identifier bytes) piece.bytes in
    let tail_fits = both_true (is_utf8 tail) (list_all (λ b. not (b == 0)) tail) clean in
    let text : is_utf8 (part ++ tail) ≡ true = is_utf8-from_IsUtf8 _ (IsUtf8-append _ _ (IsUtf8-from_is_utf8 part piece.text) (IsUtf8-from_is_utf8 tail tail_fits.0)) in
    let no_nul : list_all (λ b. not (b == 0)) (part ++ tail) ≡ true = all_of_both (λ b. not (b == 0)) part tail (all_so continues_identifier (λ b. not (b == 0)) (not_in_identifier 0 refl) part piece.bytes) tail_fits.1 in
    let no_slash : has_no_slash (part ++ tail) ≡ true = all_of_both (λ b. not (is_slash b)) part tail (all_so continues_identifier (λ b. not (is_slash b)) (not_in_identifier 47 refl) part piece.bytes) whole in
    let no_dot : eqb byte 46 ≡ false = not_byte continues_identifier byte 46 first.0 refl in
    segment_made (part ++ tail) (record { clean = rw (text, no_nul) refl; whole = no_slash; here = rw no_dot refl; above = rw no_dot refl })

-- ---- parts of a class name

ending_is_clean : is_clean php_ending ≡ true
unfolding php_ending is_utf8 chars lib.Utf8.encode
ending_is_clean = refl

ending_is_whole : has_no_slash php_ending ≡ true
unfolding php_ending
ending_is_whole = refl

nothing_is_clean : is_clean [] ≡ true
unfolding is_utf8 chars lib.Utf8.encode
nothing_is_clean = refl

ending_is_segment : is_segment php_ending ≡ true
unfolding php_ending is_utf8 chars lib.Utf8.encode
ending_is_segment = refl

abbrev pub is_piece : List ℕ → Bool
is_piece piece = list_all continues_identifier piece && is_utf8 piece

piece_of : (piece : List ℕ) → is_piece piece ≡ true → IsPiece piece
piece_of piece fits = let both = both_true (list_all continues_identifier piece) (is_utf8 piece) fits in record { bytes = both.0; text = both.1 }

-- a part is a piece that is not empty
part_piece : (byte : ℕ) (bytes : List ℕ) → is_name_part (byte ∷ bytes) ≡ true → is_piece (byte ∷ bytes) ≡ true
part_piece byte bytes fits =
    let both = both_true (is_identifier (byte ∷ bytes)) (is_utf8 (byte ∷ bytes)) fits in
    let first = both_true (starts_identifier byte) (list_all continues_identifier bytes) both.0 in
    rw (first.0, first.1, both.1) refl

piece_of_part : (part : List ℕ) → is_name_part part ≡ true → is_piece part ≡ true
piece_of_part [] fits = absurd (false≢true fits)
piece_of_part (byte ∷ bytes) fits = part_piece byte bytes fits

segment_with : (part tail : List ℕ) → is_name_part part ≡ true → is_clean tail ≡ true → has_no_slash tail ≡ true → is_segment (part ++ tail) ≡ true
segment_with [] tail fits clean whole = absurd (false≢true fits)
segment_with (byte ∷ bytes) tail fits clean whole = piece_with byte bytes tail (piece_of (byte ∷ bytes) (part_piece byte bytes fits)) clean whole

segment_of : (part : List ℕ) → is_name_part part ≡ true → is_segment part ≡ true
segment_of part fits = subst (λ bytes. is_segment bytes ≡ true) (append-nil part) (segment_with part [] fits nothing_is_clean refl)

with_ending_segments : (parts : List (List ℕ)) → list_all is_name_part parts ≡ true → list_all is_segment (with_ending parts) ≡ true
with_ending_segments [] all = refl
with_ending_segments (part ∷ []) all =
    let both = both_true (is_name_part part) true all in
    rw (segment_with part php_ending both.0 ending_is_clean ending_is_whole) refl
with_ending_segments (part ∷ next ∷ parts) all =
    let both = both_true (is_name_part part) (list_all is_name_part (next ∷ parts)) all in
    rw (segment_of part both.0, with_ending_segments (next ∷ parts) both.1) refl

nothing_is_none : is_segment [] ≡ false
unfolding is_utf8 chars lib.Utf8.encode
nothing_is_none = refl

-- segments are kept when they are read
segments_kept : (parts : List (List ℕ)) → list_all is_segment parts ≡ true → (list_all is_kept parts ≡ true) × (filter (λ part. not (is_no_part part)) parts ≡ parts)
segments_kept [] all = (refl, refl)
segments_kept ([] ∷ parts) all = absurd (false≢true (sym nothing_is_none ∙ (both_true (is_segment []) (list_all is_segment parts) all).0))
segments_kept ((byte ∷ bytes) ∷ parts) all =
    let both = both_true (is_segment (byte ∷ bytes)) (list_all is_segment parts) all in
    let rest = segments_kept parts both.1 in
    (rw (both.0, rest.0) refl, ap (λ list. (byte ∷ bytes) ∷ list) rest.1)

-- a class name has no `/`
not_slash_in_part : (part : List ℕ) → is_name_part part ≡ true → has_no_slash part ≡ true
not_slash_in_part part fits = all_so continues_identifier (λ b. not (is_slash b)) (not_in_identifier 47 refl) part (piece_of part (piece_of_part part fits)).bytes

whole_step : (t : Bool) (byte : ℕ) (parts : List (List ℕ)) → is_backslash byte ≡ t → HasFirst parts → list_all has_no_slash (cond t ([] ∷ parts) (onto_first byte parts)) ≡ true → (not (is_slash byte) ≡ true) × (list_all has_no_slash parts ≡ true)
whole_step true byte parts e first all = (rw (not_byte is_backslash byte 47 e refl) refl, all)
whole_step false byte [] e first all = absurd first
whole_step false byte (part ∷ parts) e first all =
    let both = both_true (has_no_slash (byte ∷ part)) (list_all has_no_slash parts) all in
    let here = both_true (not (is_slash byte)) (has_no_slash part) both.0 in
    (here.0, rw (here.1, both.1) refl)

whole_from_parts : (text : List ℕ) → list_all has_no_slash (slice_split is_backslash text) ≡ true → list_all (λ b. not (is_slash b)) text ≡ true
whole_from_parts [] all = refl
whole_from_parts (byte ∷ rest) all =
    let step = whole_step (is_backslash byte) byte (slice_split is_backslash rest) refl (cut_has_first is_backslash rest) all in
    rw (step.0, whole_from_parts rest step.1) refl

parts_whole : (parts : List (List ℕ)) → list_all is_name_part parts ≡ true → list_all has_no_slash parts ≡ true
parts_whole [] all = refl
parts_whole (part ∷ parts) all =
    let both = both_true (is_name_part part) (list_all is_name_part parts) all in
    rw (not_slash_in_part part both.0, parts_whole parts both.1) refl

-- ---- PSR-4

pub psr4_reads : (rest : List ℕ) → list_all is_name_part (slice_split is_backslash rest) ≡ true → path_of (psr4_text rest) ≡ Ok (path_behind rest)
unfolding path_of
psr4_reads rest all =
    let parts = with_ending (slice_split is_backslash rest) in
    let kept = segments_kept parts (with_ending_segments (slice_split is_backslash rest) all) in
    ap (λ cut. read_parts path_step [] (placed 0 cut)) (psr4_cut rest (whole_from_parts rest (parts_whole (slice_split is_backslash rest) all)))
    ∙ reads_kept 0 [] parts kept.0 ∙ ap Ok kept.1

-- what follows a prefix that ends in `\` are parts too
abbrev pub HasEnd : List ℕ → Type 0
HasEnd [] = ⊥
HasEnd (byte ∷ []) = is_backslash byte ≡ true
HasEnd (byte ∷ next ∷ rest) = HasEnd (next ∷ rest)

record SplitsOff (whole back : List (List ℕ)) : Type 0 where
  pub front : List (List ℕ)
  pub first : HasFirst front
  pub is : whole ≡ front ++ back

onto_front : (byte : ℕ) (front back : List (List ℕ)) → HasFirst front → SplitsOff (onto_first byte (front ++ back)) back
onto_front byte [] back first = absurd first
onto_front byte (part ∷ parts) back first = record { front = (byte ∷ part) ∷ parts; first = tt; is = refl }

one_more : (t : Bool) (byte : ℕ) (whole back : List (List ℕ)) → SplitsOff whole back → SplitsOff (cond t ([] ∷ whole) (onto_first byte whole)) back
one_more true byte whole back off = record { front = [] ∷ off.front; first = tt; is = ap (λ parts. [] ∷ parts) off.is }
one_more false byte whole back off = subst (λ parts. SplitsOff (onto_first byte parts) back) (sym off.is) (onto_front byte off.front back off.first)

splits_off : (prefix rest : List ℕ) → HasEnd prefix → SplitsOff (slice_split is_backslash (prefix ++ rest)) (slice_split is_backslash rest)
splits_off [] rest end = absurd end
splits_off (byte ∷ []) rest end = rw end (record { front = [] ∷ []; first = tt; is = refl })
splits_off (byte ∷ next ∷ prefix) rest end = one_more (is_backslash byte) byte (slice_split is_backslash ((next ∷ prefix) ++ rest)) (slice_split is_backslash rest) (splits_off (next ∷ prefix) rest end)

all_behind : (p : List ℕ → Bool) (front back : List (List ℕ)) → list_all p (front ++ back) ≡ true → list_all p back ≡ true
all_behind p [] back all = all
all_behind p (part ∷ front) back all = all_behind p front back (both_true (p part) (list_all p (front ++ back)) all).1

less_one : (n : ℕ) → suc (suc n) - 1 ≡ suc n
less_one n = omega arith

has_end : (byte : ℕ) (rest : List ℕ) → is_end_of_prefix (slice_get (byte ∷ rest) (length (byte ∷ rest) - 1)) ≡ true → HasEnd (byte ∷ rest)
has_end byte [] ends = subst (λ n. is_end_of_prefix (slice_get (byte ∷ []) n) ≡ true) zero_left ends
  where
    zero_left : 1 - 1 ≡ 0
    zero_left = omega arith
has_end byte (next ∷ rest) ends =
    has_end next rest (subst (λ n. is_end_of_prefix (slice_get (next ∷ rest) n) ≡ true) (one_left (length rest)) (subst (λ n. is_end_of_prefix (slice_get (byte ∷ next ∷ rest) n) ≡ true) (less_one (length rest)) ends))
  where
    one_left : (n : ℕ) → n ≡ suc n - 1
    one_left n = omega arith

parts_behind : (prefix rest : List ℕ) → is_psr4_prefix prefix ≡ true → list_all is_name_part (slice_split is_backslash (prefix ++ rest)) ≡ true → list_all is_name_part (slice_split is_backslash rest) ≡ true
unfolding is_psr4_prefix
parts_behind [] rest ends all = all
parts_behind (byte ∷ prefix) rest ends all =
    let off = splits_off (byte ∷ prefix) rest (has_end byte prefix ends) in
    all_behind is_name_part off.front (slice_split is_backslash rest) (subst (λ parts. list_all is_name_part parts ≡ true) off.is all)

pub psr4_behind : (prefix name : List ℕ) → is_psr4_prefix prefix ≡ true → begins prefix name ≡ true → list_all is_name_part (slice_split is_backslash name) ≡ true
    → path_of (psr4_text (drop (length prefix) name)) ≡ Ok (path_behind (drop (length prefix) name))
psr4_behind prefix name ends begun all =
    let whole : prefix ++ drop (length prefix) name ≡ name = ap (λ front. front ++ drop (length prefix) name) (first_bytes prefix name begun) ∙ take-append-drop (length prefix) name in
    psr4_reads (drop (length prefix) name) (parts_behind prefix (drop (length prefix) name) ends (subst (λ text. list_all is_name_part (slice_split is_backslash text) ≡ true) (sym whole) all))

-- ---- PSR-0: pieces of the class's own name

piece_made : (piece : List ℕ) → list_all continues_identifier piece ≡ true → IsUtf8 piece → is_piece piece ≡ true
piece_made piece bytes text = rw (bytes, is_utf8-from_IsUtf8 piece text) refl

underscore_is_ascii : (byte : ℕ) → is_underscore byte ≡ true → byte < 128
underscore_is_ascii byte e = elim (eqb_tells byte 95) [ inl f ↦ omega (arith, f.1) | inr f ↦ absurd (false≢true (sym f.0 ∙ e)) ]

below_or_not : (a b : ℕ) → (a < b) ⊎ (b ≤ a)
below_or_not a b = elim (eqb_tells (b - a) 0) [ inl e ↦ inr (omega (arith, e.1)) | inr e ↦ inl (omega (arith, e.1)) ]

-- the pieces before and behind the first `_`
record FirstCut (bytes : List ℕ) : Type 0 where
  pub cut : slice_split is_underscore bytes ≡ before_first is_underscore bytes ∷ slice_split is_underscore (after_first is_underscore bytes)
  pub front : is_piece (before_first is_underscore bytes) ≡ true
  pub back : is_piece (after_first is_underscore bytes) ≡ true
  pub less : length (after_first is_underscore bytes) < length bytes

first_cut : (bytes : List ℕ) → is_piece bytes ≡ true → position_or_len is_underscore bytes < length bytes → FirstCut bytes
first_cut bytes fits found =
    let both = both_true (list_all continues_identifier bytes) (is_utf8 bytes) fits in
    let text = IsUtf8-from_is_utf8 bytes both.1 in
    let at = position_or_len is_underscore bytes in
    let ascii : get_or bytes at 0 < 128 = underscore_is_ascii (get_or bytes at 0) (passes_at_first is_underscore bytes 0 found) in
    let all = subst (λ list. list_all continues_identifier list ≡ true) (split_at_first is_underscore bytes 0 found) both.0 in
    let parts = both_true (list_all continues_identifier (before_first is_underscore bytes)) (list_all continues_identifier (get_or bytes at 0 ∷ after_first is_underscore bytes)) (sym (list_all-append continues_identifier (before_first is_underscore bytes) (get_or bytes at 0 ∷ after_first is_underscore bytes)) ∙ all) in
    let back = both_true (continues_identifier (get_or bytes at 0)) (list_all continues_identifier (after_first is_underscore bytes)) parts.1 in
    record {
      cut = slice_split_first is_underscore bytes 0 found;
      front = piece_made (before_first is_underscore bytes) parts.0 (IsUtf8-take bytes at text (IsCharBoundary-before_ascii bytes at found ascii));
      back = piece_made (after_first is_underscore bytes) back.1 (IsUtf8-drop bytes (at + 1) text (IsCharBoundary-after_ascii bytes at text found ascii));
      less = omega (arith, length-drop (at + 1) bytes, found);
    }

all_cut : (bytes : List ℕ) (cut : FirstCut bytes) → list_all is_piece (slice_split is_underscore (after_first is_underscore bytes)) ≡ true → list_all is_piece (slice_split is_underscore bytes) ≡ true
all_cut bytes cut rest = rw (cut.cut, cut.front) rest

all_whole : (bytes : List ℕ) → is_piece bytes ≡ true → length bytes ≤ position_or_len is_underscore bytes → list_all is_piece (slice_split is_underscore bytes) ≡ true
all_whole bytes fits none = rw (slice_split_none is_underscore bytes (λ k d within. fails_before_first is_underscore bytes k d (omega (arith, none, within))), fits) refl

split_pieces : (most : ℕ) (bytes : List ℕ) → length bytes ≤ most → is_piece bytes ≡ true → list_all is_piece (slice_split is_underscore bytes) ≡ true
split_pieces zero bytes few fits = elim (below_or_not (position_or_len is_underscore bytes) (length bytes)) [
  | inl found ↦ absurd (omega (arith, found, few))
  | inr none ↦ all_whole bytes fits none
]
split_pieces (suc most) bytes few fits = elim (below_or_not (position_or_len is_underscore bytes) (length bytes)) [
  | inl found ↦
      let cut = first_cut bytes fits found in
      all_cut bytes cut (split_pieces most (after_first is_underscore bytes) (omega (arith, cut.less, few)) cut.back)
  | inr none ↦ all_whole bytes fits none
]

cut_pieces : (parts : List (List ℕ)) → list_all is_name_part parts ≡ true → list_all is_piece (with_cut_class parts) ≡ true
cut_pieces [] all = refl
cut_pieces (part ∷ []) all = split_pieces (length part) part (omega arith) (piece_of_part part (both_true (is_name_part part) true all).0)
cut_pieces (part ∷ next ∷ parts) all =
    let both = both_true (is_name_part part) (list_all is_name_part (next ∷ parts)) all in
    rw (piece_of_part part both.0, cut_pieces (next ∷ parts) both.1) refl

piece_kept : (piece : List ℕ) → is_piece piece ≡ true → is_kept piece ≡ true
piece_kept [] fits = refl
piece_kept (byte ∷ bytes) fits = subst (λ part. is_segment part ≡ true) (append-nil (byte ∷ bytes)) (piece_with byte bytes [] (piece_of (byte ∷ bytes) fits) nothing_is_clean refl)

last_kept : (piece : List ℕ) → is_piece piece ≡ true → is_kept (piece ++ php_ending) ≡ true
last_kept [] fits = rw ending_is_segment (or_true (is_no_part php_ending))
  where
    or_true : (t : Bool) → (t || true) ≡ true
    or_true true = refl
    or_true false = refl
last_kept (byte ∷ bytes) fits = piece_with byte bytes php_ending (piece_of (byte ∷ bytes) fits) ending_is_clean ending_is_whole

pieces_kept : (pieces : List (List ℕ)) → list_all is_piece pieces ≡ true → list_all is_kept (with_ending pieces) ≡ true
pieces_kept [] all = refl
pieces_kept (piece ∷ []) all = rw (last_kept piece (both_true (is_piece piece) true all).0) refl
pieces_kept (piece ∷ next ∷ pieces) all =
    let both = both_true (is_piece piece) (list_all is_piece (next ∷ pieces)) all in
    rw (piece_kept piece both.0, pieces_kept (next ∷ pieces) both.1) refl

pub psr0_reads : (name : List ℕ) → list_all is_name_part (slice_split is_backslash name) ≡ true → path_of (psr0_text name) ≡ Ok (path_of_class name)
unfolding path_of
psr0_reads name all =
    let pieces = with_cut_class (slice_split is_backslash name) in
    ap (λ text. read_parts path_step [] (placed 0 (slice_split is_slash (text ++ php_ending)))) (class_text_is name)
    ∙ ap (λ cut. read_parts path_step [] (placed 0 cut)) (psr0_cut name (whole_from_parts name (parts_whole (slice_split is_backslash name) all)))
    ∙ reads_kept 0 [] (with_ending pieces) (pieces_kept pieces (cut_pieces (slice_split is_backslash name) all))

-- ---- prefixes

pub empty_prefix : is_psr4_prefix [] ≡ true
unfolding is_psr4_prefix
empty_prefix = refl

last_at : (front : List ℕ) (byte : ℕ) → slice_get (front ++ byte ∷ []) (length front) ≡ Some byte
last_at [] byte = refl
last_at (x ∷ front) byte = last_at front byte

one_longer : (front : List ℕ) (byte : ℕ) → length (front ++ byte ∷ []) ≡ length front + 1
one_longer [] byte = refl
one_longer (x ∷ front) byte = omega (arith, one_longer front byte)

pub ended_prefix : (front : List ℕ) → is_psr4_prefix (front ++ 92 ∷ []) ≡ true
unfolding is_psr4_prefix
ended_prefix front =
    let at : length (front ++ 92 ∷ []) - 1 ≡ length front = omega (arith, one_longer front 92) in
    ap (λ n. is_end_of_prefix (slice_get (front ++ 92 ∷ []) n)) at ∙ ap is_end_of_prefix (last_at front 92)
