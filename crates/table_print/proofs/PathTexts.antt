-- Paths as expressions: which are printed, and that they are read as these paths.
use Rattle.std.proofs.Common.{◌≡◌, ℕ, ◌+◌, Bool, true, false, cond, List, [], ◌∷◌, ◌++◌, length, drop, Ok, refl, sym, ap, ◌∙◌, append_assoc, subst}
use Rattle.std.specs.List.{list_all, join_with_byte}
use Rattle.std.specs.Str.{is_utf8, chars}
use Rattle.std.specs.Cmp.Lexicographic.{bytes_decides}
use Rattle.std.proofs.lemmas.List.{append-nil, drop_at}
use Rattle.std.proofs.lemmas.List.Folds.{list_all-append}
use Rattle.path_name.specs.Orders.{bytes_are_equal}
use Rattle.path_name.specs.Paths.{is_clean, is_segment, IsPath, BeginsWith, IsBehind, placed, path_step, read_parts, followed}
use Rattle.path_name.proofs.Joining.{both_true, segment_facts, all_whole, split_at, split-join}
use Rattle.path_name.proofs.Parts.{reads_on}
use Rattle.table_scan.specs.declared.mark.Mark.TheVariants as marks
use Rattle.table_scan.specs.TableTokens.{Token, Marked, Quoted, spelling}
use Rattle.table_scan.specs.TableGrammar.{vendor_name, IsPath as IsPathOf, in_vendor, in_project}
use Rattle.table_scan.proofs.Cases.{by_test}
use Rattle.table_scan.specs.QuotedTexts.{closed}
use Rattle.table_print.specs.TablePrinting.{vendor_start, base_start, expression_of, path_expression}
use Rattle.table_scan.proofs.TokenKinds.{kinds, at_quoted}
use Rattle.table_print.proofs.Words.{Word, Sign, Blank, at_words}

-- ---- which expression a path has

vendor_is_vendor : bytes_are_equal vendor_name vendor_name ≡ true
vendor_is_vendor = (bytes_decides vendor_name vendor_name).1 refl

below_vendor : (rest : List (List ℕ)) → expression_of (vendor_name ∷ rest) ≡ vendor_start ++ closed (join_with_byte 47 rest)
below_vendor rest = rw vendor_is_vendor refl

pub path_in_vendor : (project path : List (List ℕ)) (text : List ℕ) → IsBehind path (project ++ vendor_name ∷ []) text → path_expression project path ≡ vendor_start ++ closed text
path_in_vendor project path text behind =
    let rest : drop (length project) path ≡ vendor_name ∷ behind.0 = ap (drop (length project)) (behind.1 ∙ append_assoc project (vendor_name ∷ []) behind.0) ∙ drop_at project (vendor_name ∷ behind.0) (length project) refl in
    ap expression_of rest ∙ below_vendor behind.0 ∙ ap (λ t. vendor_start ++ closed t) (sym behind.2)

pub path_in_project : (project path : List (List ℕ)) (text : List ℕ) → (BeginsWith path (project ++ vendor_name ∷ []) → ⊥) → IsBehind path project text → path_expression project path ≡ base_start ++ closed text
path_in_project project path text apart behind =
    let rest : drop (length project) path ≡ behind.0 = ap (drop (length project)) behind.1 ∙ drop_at project behind.0 (length project) refl in
    ap expression_of rest ∙ by behind.0 behind.1 ∙ ap (λ t. base_start ++ closed t) (sym behind.2)
  where
    chosen : (first : List ℕ) (more : List (List ℕ)) (t : Bool) → bytes_are_equal first vendor_name ≡ t → path ≡ project ++ first ∷ more → cond t (vendor_start ++ closed (join_with_byte 47 more)) (base_start ++ closed (join_with_byte 47 (first ∷ more))) ≡ base_start ++ closed (join_with_byte 47 (first ∷ more))
    chosen first more true same e =
        let is : first ≡ vendor_name = (bytes_decides first vendor_name).0 same in
        absurd (apart (more, e ∙ ap (λ f. project ++ f ∷ more) is ∙ sym (append_assoc project (vendor_name ∷ []) more)))
    chosen first more false same e = refl

    by : (segments : List (List ℕ)) → path ≡ project ++ segments → expression_of segments ≡ base_start ++ closed (join_with_byte 47 segments)
    by [] e = refl
    by (first ∷ more) e = chosen first more (bytes_are_equal first vendor_name) refl e

-- ---- where the text behind a variable leads

nothing_is_clean : is_clean [] ≡ true
unfolding is_utf8 chars lib.Utf8.encode
nothing_is_clean = refl

nothing_step : (before : List (List ℕ)) (at : ℕ) → path_step before (at, []) ≡ Ok before
nothing_step before at = rw nothing_is_clean refl

segment_step : (before : List (List ℕ)) (at : ℕ) (segment : List ℕ) → is_segment segment ≡ true → path_step before (at, segment) ≡ Ok (before ++ segment ∷ [])
segment_step before at segment h =
    let s = segment_facts segment h in
    rw (s.clean, s.here, s.above) refl

reads_segments : (at : ℕ) (before segments : List (List ℕ)) → IsPath segments → read_parts path_step before (placed at segments) ≡ Ok (before ++ segments)
reads_segments at before [] path = ap (λ p. Ok p) (sym (append-nil before))
reads_segments at before (s ∷ rest) path =
    let p = both_true (is_segment s) (list_all is_segment rest) path in
    reads_on path_step before (before ++ s ∷ []) (at, s) (placed (at + length s + 1) rest) (segment_step before at s p.0)
    ∙ reads_segments (at + length s + 1) (before ++ s ∷ []) rest p.1 ∙ ap (λ p. Ok p) (append_assoc before (s ∷ []) rest)

leads : (from rest : List (List ℕ)) → IsPath rest → followed from (47 ∷ join_with_byte 47 rest) ≡ Ok (from ++ rest)
unfolding followed
leads from [] path =
    reads_on path_step from from (0, []) ((1, []) ∷ []) (nothing_step from 0) ∙ reads_on path_step from from (1, []) [] (nothing_step from 1) ∙ ap (λ p. Ok p) (sym (append-nil from))
leads from (s ∷ rest) path =
    ap (λ parts. read_parts path_step from (placed 0 parts)) (split_at [] (join_with_byte 47 (s ∷ rest)) ∙ ap (λ parts. [] ∷ parts) (split-join s rest (all_whole (s ∷ rest) path)))
    ∙ reads_on path_step from from (0, []) (placed 1 (s ∷ rest)) (nothing_step from 0) ∙ reads_segments 1 from (s ∷ rest) path

-- ---- the tokens of an expression

-- What is printed of a value is read as tokens of its kind, whatever follows.
pub record IsRead {V : Type 0} (IsKind : List Token → V → Type 0) (text : List ℕ) (value : V) : Type 0 where
  pub inside : List Token
  pub is : IsKind inside value
  pub read : (rest : List ℕ) → kinds (text ++ rest) ≡ inside ++ kinds rest

abbrev vendor_words : List Word
vendor_words = Sign marks.VendorDir ∷ Blank 32 ∷ Sign marks.Dot ∷ Blank 32 ∷ []

abbrev base_words : List Word
base_words = Sign marks.BaseDir ∷ Blank 32 ∷ Sign marks.Dot ∷ Blank 32 ∷ []

vendor_kinds : (text rest : List ℕ) → kinds ((vendor_start ++ closed text) ++ rest) ≡ Marked marks.VendorDir ∷ Marked marks.Dot ∷ Quoted (47 ∷ text) ∷ kinds rest
unfolding vendor_start spelling
vendor_kinds text rest = at_words vendor_words (39 ∷ (closed (47 ∷ text) ++ rest)) (tt, (refl, (tt, (refl, tt)))) ∙ ap (λ ts. Marked marks.VendorDir ∷ Marked marks.Dot ∷ ts) (at_quoted (47 ∷ text) rest)

base_kinds : (text rest : List ℕ) → kinds ((base_start ++ closed text) ++ rest) ≡ Marked marks.BaseDir ∷ Marked marks.Dot ∷ Quoted (47 ∷ text) ∷ kinds rest
unfolding base_start spelling
base_kinds text rest = at_words base_words (39 ∷ (closed (47 ∷ text) ++ rest)) (tt, (refl, (tt, (refl, tt)))) ∙ ap (λ ts. Marked marks.BaseDir ∷ Marked marks.Dot ∷ ts) (at_quoted (47 ∷ text) rest)

seen_from_vendor : (project segments : List (List ℕ)) → IsPath segments → IsRead (IsPathOf project) (vendor_start ++ closed (join_with_byte 47 segments)) ((project ++ vendor_name ∷ []) ++ segments)
seen_from_vendor project segments path = record {
  inside = Marked marks.VendorDir ∷ Marked marks.Dot ∷ Quoted (47 ∷ join_with_byte 47 segments) ∷ [];
  is = in_vendor (record { rest = join_with_byte 47 segments; slash = refl; read = leads (project ++ vendor_name ∷ []) segments path });
  read = λ rest. vendor_kinds (join_with_byte 47 segments) rest;
}

seen_from_project : (project segments : List (List ℕ)) → IsPath segments → IsRead (IsPathOf project) (base_start ++ closed (join_with_byte 47 segments)) (project ++ segments)
seen_from_project project segments path = record {
  inside = Marked marks.BaseDir ∷ Marked marks.Dot ∷ Quoted (47 ∷ join_with_byte 47 segments) ∷ [];
  is = in_project (record { rest = join_with_byte 47 segments; slash = refl; read = leads project segments path });
  read = λ rest. base_kinds (join_with_byte 47 segments) rest;
}

expression_is_read : (project segments : List (List ℕ)) → IsPath segments → IsRead (IsPathOf project) (expression_of segments) (project ++ segments)
expression_is_read project [] path = seen_from_project project [] path
expression_is_read project (first ∷ more) path = by_test (bytes_are_equal first vendor_name)
    (λ e. rw e (subst (λ value. IsRead (IsPathOf project) (vendor_start ++ closed (join_with_byte 47 more)) value)
    (append_assoc project (vendor_name ∷ []) more ∙ ap (λ f. project ++ f ∷ more) (sym ((bytes_decides first vendor_name).0 e)))
    (seen_from_vendor project more (both_true (is_segment first) (list_all is_segment more) path).1)))
    (λ e. rw e (seen_from_project project (first ∷ more) path))

pub path_is_read : (project path : List (List ℕ)) → BeginsWith path project → IsPath path → IsRead (IsPathOf project) (path_expression project path) path
path_is_read project path begins whole =
    let rest : drop (length project) path ≡ begins.0 = ap (drop (length project)) begins.1 ∙ drop_at project begins.0 (length project) refl in
    let all : IsPath (project ++ begins.0) = subst IsPath begins.1 whole in
    let behind : IsPath begins.0 = (both_true (list_all is_segment project) (list_all is_segment begins.0) (sym (list_all-append is_segment project begins.0) ∙ all)).1 in
    subst (λ segments. IsRead (IsPathOf project) (expression_of segments) path) (sym rest)
    (subst (λ value. IsRead (IsPathOf project) (expression_of begins.0) value) (sym begins.1) (expression_is_read project begins.0 behind))
