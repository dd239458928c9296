-- Each list of tokens that the grammar has is that of some text.
use Rattle.std.proofs.Common.{◌≡◌, ℕ, ◌≤◌, Bool, true, false, cond, List, [], ◌∷◌, ◌++◌, length, Option, Some, None, inl, inr, refl, sym, ap, ◌∙◌}
use Rattle.std.specs.Prelude.{nat_lt}
use Rattle.std.specs.List.{list_all}
use Rattle.std.proofs.lemmas.Bool.{ltb-false, le-ltb}
use Rattle.std.proofs.lemmas.List.Folds.{list_all-append}
use Rattle.path_name.specs.Decimals.{is_number, number_in}
use Rattle.path_name.proofs.Joining.{both_true}
use Rattle.table_scan.specs.declared.mark.Mark.{Mark}
use Rattle.table_scan.specs.declared.mark.Mark.TheVariants as marks
use Rattle.table_scan.specs.declared.types.PrefixRow.{PrefixRow}
use Rattle.table_scan.specs.declared.types.ClassRow.{ClassRow}
use Rattle.table_scan.specs.declared.types.State.{State}
use Rattle.table_scan.specs.TableTokens.{Token, Marked, Quoted, Number, Stray, spelling, most_digits, behind_tag, text_tokens}
use Rattle.table_scan.specs.QuotedTexts.{quoted}
use Rattle.table_scan.specs.TableGrammar.{IsPath, in_vendor, in_project, IsList, no_items, last_item, next_item, IsFolders, IsRow, IsHead, IsTable, IsState, IsLastComma, is_any, generation_of}
use Rattle.table_scan.specs.TableFaults.{token_list, prefix_row, class_row, ArePrefixRows, AreClassRows, IsSpelled}
use Rattle.table_scan.proofs.Cases.{by_test}
use Rattle.table_scan.proofs.Tokens.{tokens-nil}
use Rattle.table_scan.proofs.TokenKinds.{kinds, over_blank, IsCommon, at_mark, at_assign, at_quoted, at_digits}

-- ---- tokens, each with a blank behind it

-- whether a token is one that stands behind the opening tag
abbrev is_written : Token → Bool
is_written (Marked marks.Tag) = false
is_written (Marked _) = true
is_written (Quoted text) = true
is_written (Number digits) = cond (nat_lt most_digits (length digits)) false (is_number digits)
is_written Stray = false

abbrev written : Token → List ℕ
written (Marked mark) = spelling mark
written (Quoted text) = quoted text
written (Number digits) = digits
written Stray = []

abbrev written_all : List Token → List ℕ
written_all [] = []
written_all (t ∷ ts) = written t ++ 32 ∷ written_all ts

behind_blank : (t : Token) (rest : List ℕ) → t ∷ kinds (32 ∷ rest) ≡ t ∷ kinds rest
behind_blank t rest = ap (λ ts. t ∷ ts) (over_blank 32 rest refl)

common_is_read : (mark : Mark) (rest : List ℕ) → IsCommon mark → kinds (spelling mark ++ 32 ∷ rest) ≡ Marked mark ∷ kinds rest
common_is_read mark rest h = at_mark mark (32 ∷ rest) h ∙ behind_blank (Marked mark) rest

mark_is_read : (mark : Mark) (rest : List ℕ) → is_written (Marked mark) ≡ true → kinds (spelling mark ++ 32 ∷ rest) ≡ Marked mark ∷ kinds rest
unfolding spelling
mark_is_read marks.Tag rest h = absurd cc
mark_is_read marks.VendorDir rest h = common_is_read marks.VendorDir rest tt
mark_is_read marks.BaseDir rest h = common_is_read marks.BaseDir rest tt
mark_is_read marks.Dirname rest h = common_is_read marks.Dirname rest tt
mark_is_read marks.ThisDir rest h = common_is_read marks.ThisDir rest tt
mark_is_read marks.ThisFile rest h = common_is_read marks.ThisFile rest tt
mark_is_read marks.Return rest h = common_is_read marks.Return rest tt
mark_is_read marks.Array rest h = common_is_read marks.Array rest tt
mark_is_read marks.Arrow rest h = common_is_read marks.Arrow rest tt
mark_is_read marks.Assign rest h = at_assign rest
mark_is_read marks.Open rest h = common_is_read marks.Open rest tt
mark_is_read marks.Close rest h = common_is_read marks.Close rest tt
mark_is_read marks.Comma rest h = common_is_read marks.Comma rest tt
mark_is_read marks.Dot rest h = common_is_read marks.Dot rest tt
mark_is_read marks.Semicolon rest h = common_is_read marks.Semicolon rest tt

number_is_read : (digits rest : List ℕ) → is_written (Number digits) ≡ true → kinds (digits ++ 32 ∷ rest) ≡ Number digits ∷ kinds rest
number_is_read digits rest h = by_test (nat_lt most_digits (length digits))
    (λ b. absurd (let no : false ≡ true = rw b at h in cc))
    (λ b. at_digits digits 32 rest refl (rw b at h) (ltb-false most_digits (length digits) b) ∙ behind_blank (Number digits) rest)

one_is_read : (t : Token) (rest : List ℕ) → is_written t ≡ true → kinds (written t ++ 32 ∷ rest) ≡ t ∷ kinds rest
one_is_read (Marked mark) rest h = mark_is_read mark rest h
one_is_read (Quoted text) rest h = at_quoted text (32 ∷ rest) ∙ behind_blank (Quoted text) rest
one_is_read (Number digits) rest h = number_is_read digits rest h
one_is_read Stray rest h = absurd cc

all_are_read : (ts : List Token) → list_all is_written ts ≡ true → kinds (written_all ts) ≡ ts
all_are_read [] h = ap (λ ts. token_list ts) tokens-nil
all_are_read (t ∷ ts) h =
    let p = both_true (is_written t) (list_all is_written ts) h in
    one_is_read t (written_all ts) p.0 ∙ ap (λ us. t ∷ us) (all_are_read ts p.1)

tag_is_read : (rest : List ℕ) → token_list (text_tokens (spelling marks.Tag ++ 32 ∷ rest)) ≡ Marked marks.Tag ∷ kinds rest
unfolding text_tokens behind_tag spelling
tag_is_read rest = behind_blank (Marked marks.Tag) rest

-- a tag, and then tokens that stand behind it
record AreWritten (ks : List Token) : Type 0 where
  others : List Token
  parts : ks ≡ Marked marks.Tag ∷ others
  written : list_all is_written others ≡ true

spelled : (ks : List Token) → AreWritten ks → IsSpelled ks
spelled ks w = (spelling marks.Tag ++ 32 ∷ written_all w.others, tag_is_read (written_all w.others) ∙ ap (λ us. Marked marks.Tag ∷ us) (all_are_read w.others w.written) ∙ sym w.parts)

-- ---- the grammar's tokens

abbrev AllWritten : List Token → Type 0
AllWritten ts = list_all is_written ts ≡ true

both_written : (a b : List Token) → AllWritten a → AllWritten b → AllWritten (a ++ b)
both_written a b p q = list_all-append is_written a b ∙ rw (p, q) refl

path_written : (project : List (List ℕ)) {ks : List Token} {path : List (List ℕ)} → IsPath project ks path → AllWritten ks
path_written project (in_vendor l) = refl
path_written project (in_project l) = refl

list_written : {X : Type 0} (IsItem : List Token → X → Type 0) → ((ks : List Token) (x : X) → IsItem ks x → AllWritten ks) → {ks : List Token} {xs : List X} → IsList IsItem ks xs → AllWritten ks
list_written IsItem each no_items = refl
list_written IsItem each (last_item {ts} {x} i) = each ts x i
list_written IsItem each (next_item ts more {x} {xs} i l) = both_written ts (Marked marks.Comma ∷ more) (each ts x i) (list_written IsItem each l)

folders_written : (project : List (List ℕ)) (ks : List Token) (folders : List (List (List ℕ))) → IsFolders project ks folders → AllWritten ks
folders_written project ks folders f = rw f.parts (both_written f.inside (Marked marks.Close ∷ []) (list_written (IsPath project) (λ ts path p. path_written project p) f.list) refl)

module _ {V R : Type 0} (allowed : List ℕ → Bool) (make : List ℕ → V → R) (IsValue : List Token → V → Type 0) (values : (ks : List Token) (value : V) → IsValue ks value → AllWritten ks) where
  row_written : (ks : List Token) (row : R) → IsRow allowed IsValue make ks row → AllWritten ks
  row_written ks row r = rw r.parts (values r.inside r.value r.is_value)

  head_first : (head rest : List Token) → IsHead head → AllWritten rest → AreWritten (head ++ rest)
  head_first head rest (inl e) h = rw e (record { others = _; parts = refl; written = h })
  head_first head rest (inr e) h = rw e (record { others = _; parts = refl; written = h })

  table_spelled : (ks : List Token) (rows : List R) → IsTable (IsRow allowed IsValue make) ks rows → IsSpelled ks
  table_spelled ks rows t = rw t.parts (spelled (t.head ++ (t.inside ++ Marked marks.Close ∷ Marked marks.Semicolon ∷ []))
      (head_first t.head (t.inside ++ Marked marks.Close ∷ Marked marks.Semicolon ∷ []) t.is_head
      (both_written t.inside (Marked marks.Close ∷ Marked marks.Semicolon ∷ []) (list_written (IsRow allowed IsValue make) row_written t.list) refl)))

pub prefixes_spelled : (project : List (List ℕ)) (allowed : List ℕ → Bool) (ks : List Token) (rows : List PrefixRow) → ArePrefixRows project allowed ks rows → IsSpelled ks
prefixes_spelled project allowed ks rows t = table_spelled allowed prefix_row (IsFolders project) (folders_written project) ks rows t

pub classes_spelled : (project : List (List ℕ)) (ks : List Token) (rows : List ClassRow) → AreClassRows project ks rows → IsSpelled ks
classes_spelled project ks rows t = table_spelled is_any class_row (IsPath project) (λ ts path p. path_written project p) ks rows t

-- ---- the state

pub few_digits : (digits : List ℕ) → length digits ≤ most_digits → generation_of digits ≡ number_in digits
unfolding generation_of
few_digits digits l = rw (le-ltb most_digits (length digits) l) refl

generation_written : (digits : List ℕ) (n : ℕ) → generation_of digits ≡ Some n → is_written (Number digits) ≡ true
unfolding generation_of number_in
generation_written digits n e = by_test (nat_lt most_digits (length digits))
    (λ b. absurd (let no : ◌≡◌ {A = Option ℕ} None (Some n) = rw b at e in cc))
    (λ b. rw b (by_test (is_number digits) (λ d. d) (λ d. absurd (let no : ◌≡◌ {A = Option ℕ} None (Some n) = rw (b, d) at e in cc))))

end_written : (comma : List Token) → IsLastComma comma → AllWritten (comma ++ Marked marks.Close ∷ Marked marks.Semicolon ∷ [])
end_written comma (inl e) = rw e refl
end_written comma (inr e) = rw e refl

pub state_spelled : (ks : List Token) (state : State) → IsState ks state → IsSpelled ks
state_spelled ks state s = spelled ks (record { others = _; parts = s.parts; written = rw (generation_written s.digits state.generation s.number) (end_written s.comma s.is_comma) })
