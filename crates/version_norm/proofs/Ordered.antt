-- The rules in their order give the normal form, and nothing else.
use Rattle.std.proofs.Common.{◌≡◌, ℕ, suc, ◌+◌, ◌<◌, Bool, true, false, cond, eqb, ltb, List, [], ◌∷◌, ◌++◌, length, get_or, take, drop, Option, Some, None, Result, Ok, Err, refl, ap, sym, ◌∙◌, inl, inr, arith}
use Rattle.std.specs.Prelude.{codes, not, ◌&&◌, ◌==◌}
use Rattle.std.specs.List.{list_all, list_any, position_or_len}
use Rattle.std.proofs.Math.Numerals.{one-add}
use Rattle.std.proofs.lemmas.List.{take_at, length-append, length-take, length-drop}
use Rattle.std.proofs.lemmas.List.Sums.{passes_at_first, split_at_first}
use Rattle.std.proofs.lemmas.Bool.{eqb-true, ltb-true, lt-ltb}
use Rattle.std.proofs.lemmas.Bool.Decides.{nat_tests}
use Rattle.path_name.specs.Bytes.{lower, lowered}
use Rattle.path_name.specs.Orders.{bytes_are_equal}
use Rattle.version_norm.specs.declared.fault.VersionFault.{VersionFault}
use Rattle.version_norm.specs.declared.fault.VersionFault.TheVariants.{DateVersion, NotAVersion}
use Rattle.version_norm.specs.declared.version.Numbered.{Numbered}
use Rattle.version_norm.specs.declared.version.Version.{Version}
use Rattle.version_norm.specs.Pieces.{after_word}
use Rattle.version_norm.specs.Versions.{is_flag, without_flag, trimmed, is_main_line, is_in_branch_name, branch_named, branch_of, with_branch_mark, is_plus, is_blank_or_comma, without_build, classical_of, numbered_branch_of, is_date, fault_of, else_numbered_branch, else_numbered, numbered_form, unflagged_form, normal_form}
use Rattle.version_norm.specs.Grammar.{IsClassical, IsNumberedBranch}
use Rattle.version_norm.specs.Rules.{IsFlagged, IsBranch, IsBuilt, IsNever, IsLeft, IsMarked, RuleGives, branch, classical, numbered_branch, date, no_version, HasForm}
use Rattle.version_norm.proofs.Digits.{both_true, front_passes}
use Rattle.version_norm.proofs.Blanks.{trimmed_again, trimmed_left}
use Rattle.version_norm.proofs.Words.{after_word-append, after_word_takes}
use Rattle.version_norm.proofs.Spelled.{classical_again, numbered_branch_again}
use Rattle.version_norm.proofs.Read.{classical_takes, numbered_branch_takes}

-- ---- a branch

abbrev named : List ℕ → Option (List ℕ)
named name = Some name

branch_again : (text name : List ℕ) → IsBranch text name → branch_of text ≡ Some name
branch_again text name is =
    let some : ltb 0 (length is.1) ≡ true = lt-ltb 0 (length is.1) is.4 in
    rw (is.2, after_word-append (codes "dev-") is.0 is.1 is.3, some, is.5) (ap named (sym is.6))

branch_takes : (text name : List ℕ) → branch_of text ≡ Some name → IsBranch text name
branch_takes text name e =
    elim (after_word (codes "dev-") text) as (λ o. after_word (codes "dev-") text ≡ o → branch_named o ≡ Some name → IsBranch text name) [
      | None ↦ λ is h. absurd cc
      | Some rest ↦ λ is h.
          elim (ltb 0 (length rest) && list_all is_in_branch_name rest) as (λ t. (ltb 0 (length rest) && list_all is_in_branch_name rest) ≡ t → cond t (named (codes "dev-" ++ rest)) None ≡ Some name → IsBranch text name) [
            | true ↦ λ test g.
                let both = both_true (ltb 0 (length rest)) (list_all is_in_branch_name rest) test in
                let word = after_word_takes (codes "dev-") text rest is in
                (word.front, rest, word.parts, word.spelled, ltb-true 0 (length rest) both.0, both.1, sym (same_name (codes "dev-" ++ rest) name g))
            | false ↦ λ test g. absurd cc
          ] refl h
    ] refl e
  where
    same_name : (x y : List ℕ) → named x ≡ named y → x ≡ y
    same_name x y h = cc

no_branch : (text : List ℕ) → IsNever IsBranch text → branch_of text ≡ None
no_branch text never = elim (branch_of text) as (λ o. branch_of text ≡ o → o ≡ None) [ None ↦ λ e. refl | Some name ↦ λ e. absurd (never name (branch_takes text name e)) ] refl

never_branch : (text : List ℕ) → branch_of text ≡ None → IsNever IsBranch text
never_branch text none name is =
    let some = branch_again text name is in
    let apart : ◌≡◌ {A = Option (List ℕ)} None (Some name) = sym none ∙ some in
    absurd cc

-- ---- rule 1

-- in a stability's name there is no `@`
not_both : (a : Bool) → (a && false) ≡ false
not_both true = refl
not_both false = refl

at_apart : (letter : ℕ) → not (letter == 64) ≡ true → eqb 64 letter ≡ false
at_apart letter e = grind (arith, nat_tests)

no_at : (letters front word : List ℕ) → list_all (λ l. not (l == 64)) letters ≡ true → bytes_are_equal (lowered (front ++ 64 ∷ word)) letters ≡ false
no_at [] [] word e = refl
no_at [] (b ∷ bs) word e = refl
no_at (l ∷ ls) [] word e = rw (at_apart l (both_true (not (l == 64)) (list_all (λ x. not (x == 64)) ls) e).0) refl
no_at (l ∷ ls) (b ∷ bs) word e = rw (no_at ls bs word (both_true (not (l == 64)) (list_all (λ x. not (x == 64)) ls) e).1) (not_both (eqb (lower b) l))

no_at_in_flag : (front word : List ℕ) → is_flag (front ++ 64 ∷ word) ≡ false
no_at_in_flag front word = rw (no_at (codes "stable") front word refl, no_at (codes "rc") front word refl, no_at (codes "beta") front word refl, no_at (codes "alpha") front word refl, no_at (codes "dev") front word refl) refl

pub flag_again : (text front : List ℕ) → IsFlagged text front → without_flag text ≡ front
flag_again text front is = rw is.1 (by front is.0 is.2)
  where
    by : (front word : List ℕ) → is_flag word ≡ true → without_flag (front ++ 64 ∷ word) ≡ front
    by [] word flag = rw flag refl
    by (b ∷ bs) word flag = rw (no_at_in_flag bs word, not_both (b == 64), by bs word flag) refl

pub no_flag : (text : List ℕ) → IsNever IsFlagged text → without_flag text ≡ text
no_flag [] never = refl
no_flag (b ∷ bs) never =
    elim (b == 64 && is_flag bs) as (λ t. (b == 64 && is_flag bs) ≡ t → cond t [] (b ∷ without_flag bs) ≡ b ∷ bs) [
      | true ↦ λ test.
          let both = both_true (b == 64) (is_flag bs) test in
          let at : b ≡ 64 = eqb-true b 64 both.0 in
          absurd (never [] (bs, rw at refl, both.1))
      | false ↦ λ test. ap (λ (x : List ℕ). b ∷ x) (no_flag bs (λ front is. never (b ∷ front) (is.0, ap (λ (x : List ℕ). b ∷ x) is.1, is.2)))
    ] refl

-- a text has a final stability, or it has none
nothing_flagged : (front : List ℕ) → IsFlagged [] front → ⊥
nothing_flagged [] is = let parts = is.1 in absurd cc
nothing_flagged (b ∷ bs) is = let parts = is.1 in absurd cc

pub flag_left : (text : List ℕ) → IsLeft IsFlagged text (without_flag text)
flag_left [] = inr (nothing_flagged, refl)
flag_left (b ∷ bs) = elim (b == 64 && is_flag bs) as (λ t. (b == 64 && is_flag bs) ≡ t → IsLeft IsFlagged (b ∷ bs) (cond t [] (b ∷ without_flag bs))) [
  | true ↦ λ test.
      let both = both_true (b == 64) (is_flag bs) test in
      let at : b ≡ 64 = eqb-true b 64 both.0 in
      inl (bs, rw at refl, both.1)
  | false ↦ λ test. behind test (flag_left bs)
] refl
  where
    later : (front : List ℕ) → IsFlagged bs front → IsFlagged (b ∷ bs) (b ∷ front)
    later front is = (is.0, ap (λ (x : List ℕ). b ∷ x) is.1, is.2)

    never : (b == 64 && is_flag bs) ≡ false → IsNever IsFlagged bs → IsNever IsFlagged (b ∷ bs)
    never test none [] is =
        let parts = is.1 in
        let at : b ≡ 64 = cc in
        let word : bs ≡ is.0 = cc in
        let passed : (b == 64 && is_flag bs) ≡ true = rw (at, word, is.2) refl in
        let apart : false ≡ true = sym test ∙ passed in
        absurd cc
    never test none (c ∷ cs) is =
        let parts = is.1 in
        let rest : bs ≡ cs ++ 64 ∷ is.0 = cc in
        none cs (is.0, rest, is.2)

    behind : (b == 64 && is_flag bs) ≡ false → IsLeft IsFlagged bs (without_flag bs) → IsLeft IsFlagged (b ∷ bs) (b ∷ without_flag bs)
    behind test (inl is) = inl (later (without_flag bs) is)
    behind test (inr none) = inr (never test none.0, ap (λ (x : List ℕ). b ∷ x) none.1)

pub flag_is : (text left : List ℕ) → IsLeft IsFlagged text left → without_flag text ≡ left
flag_is text left (inl is) = flag_again text left is
flag_is text left (inr none) = no_flag text none.0 ∙ sym none.1

-- ---- rule 4

abbrev no_plus : ℕ → Bool
no_plus byte = not (is_plus byte)

place_of_plus : (front build : List ℕ) → list_all no_plus front ≡ true → position_or_len is_plus (front ++ 43 ∷ build) ≡ length front
place_of_plus [] build all = refl
place_of_plus (b ∷ bs) build all =
    let both = both_true (no_plus b) (list_all no_plus bs) all in
    rw (both.0, one-add) (ap suc (place_of_plus bs build both.1))

abbrev has_build : List ℕ → Bool
has_build text = not (list_any is_blank_or_comma text) && ltb 0 (position_or_len is_plus text) && ltb (position_or_len is_plus text + 1) (length text)

build_test : (front build : List ℕ) → list_all no_plus front ≡ true → 0 < length front → 0 < length build → list_any is_blank_or_comma (front ++ 43 ∷ build) ≡ false
    → has_build (front ++ 43 ∷ build) ≡ true
build_test front build all some more plain =
    let at = place_of_plus front build all in
    let before : ltb 0 (length front) ≡ true = lt-ltb 0 (length front) some in
    let behind : ltb (length front + 1) (length (front ++ 43 ∷ build)) ≡ true = lt-ltb (length front + 1) (length (front ++ 43 ∷ build)) (omega (arith, length-append front (43 ∷ build))) in
    rw (at, plain, before, behind) refl

built : (front build : List ℕ) → list_all no_plus front ≡ true → 0 < length front → 0 < length build → list_any is_blank_or_comma (front ++ 43 ∷ build) ≡ false → without_build (front ++ 43 ∷ build) ≡ front
built front build all some more plain = rw (build_test front build all some more plain, place_of_plus front build all) (take_at front (43 ∷ build) (length front) refl)

pub build_again : (text front : List ℕ) → IsBuilt text front → without_build text ≡ front
build_again text front is = rw is.1 (built front is.0 is.2 is.3 is.4 (rw (← is.1) is.5))

is_not : (b : Bool) → not b ≡ true → b ≡ false
is_not true e = sym e
is_not false e = refl

-- a text has a build, or it has none
build_at : (text : List ℕ) → has_build text ≡ true → IsBuilt text (take (position_or_len is_plus text) text)
build_at text test =
    let at = position_or_len is_plus text in
    let first = both_true (not (list_any is_blank_or_comma text) && ltb 0 at) (ltb (at + 1) (length text)) test in
    let second = both_true (not (list_any is_blank_or_comma text)) (ltb 0 at) first.0 in
    let within : at + 1 < length text = ltb-true (at + 1) (length text) first.1 in
    let some : 0 < at = ltb-true 0 at second.1 in
    let inside : at < length text = omega arith in
    let plus : get_or text at 0 ≡ 43 = eqb-true (get_or text at 0) 43 (passes_at_first is_plus text 0 inside) in
    let parts : text ≡ take at text ++ 43 ∷ drop (at + 1) text = split_at_first is_plus text 0 inside ∙ ap (λ (byte : ℕ). take at text ++ byte ∷ drop (at + 1) text) plus in
    (drop (at + 1) text, parts, front_passes no_plus text, omega (arith, length-take at text), omega (arith, length-drop (at + 1) text), is_not (list_any is_blank_or_comma text) second.0)

no_build_at : (text front : List ℕ) → has_build text ≡ false → IsBuilt text front → ⊥
no_build_at text front test is =
    let apart : has_build (front ++ 43 ∷ is.0) ≡ false = rw (← is.1) test in
    let passed : has_build (front ++ 43 ∷ is.0) ≡ true = build_test front is.0 is.2 is.3 is.4 (rw (← is.1) is.5) in
    let never : false ≡ true = sym apart ∙ passed in
    absurd cc

pub build_left : (text : List ℕ) → IsLeft IsBuilt text (without_build text)
build_left text = elim (has_build text) as (λ t. has_build text ≡ t → IsLeft IsBuilt text (cond t (take (position_or_len is_plus text) text) text)) [
  | true ↦ λ test. inl (build_at text test)
  | false ↦ λ test. inr (λ front is. no_build_at text front test is, refl)
] refl

pub no_build : (text : List ℕ) → IsNever IsBuilt text → without_build text ≡ text
no_build text never = elim (has_build text) as (λ t. has_build text ≡ t → cond t (take (position_or_len is_plus text) text) text ≡ text) [
  | true ↦ λ test. absurd (never (take (position_or_len is_plus text) text) (build_at text test))
  | false ↦ λ test. refl
] refl

pub build_is : (text left : List ℕ) → IsLeft IsBuilt text left → without_build text ≡ left
build_is text left (inl is) = build_again text left is
build_is text left (inr none) = no_build text none.0 ∙ sym none.1

-- ---- the rules from 3 on

-- what they give of a text
abbrev form_of : List ℕ → Result Version VersionFault
form_of text = else_numbered (branch_of text) (numbered_form (without_build text))

abbrev read_as : Numbered → Result Numbered VersionFault
read_as v = Ok v

never_read : (P : Numbered → Type 0) (r : Result Numbered VersionFault) (fault : VersionFault) → r ≡ Err fault → ((w : Numbered) → P w → r ≡ Ok w) → (w : Numbered) → P w → ⊥
never_read P r fault barred again w is = let apart : read_as w ≡ Err fault = sym (again w is) ∙ barred in absurd cc

-- one of them takes each text
pub some_rule : (text : List ℕ) → RuleGives text (form_of text)
unfolding numbered_form
some_rule text =
    let rest = without_build text in
    elim (branch_of text) as (λ o. branch_of text ≡ o → RuleGives text (else_numbered o (else_numbered_branch (classical_of rest) (numbered_branch_of rest) (fault_of rest)))) [
      | Some name ↦ λ is. branch (branch_takes text name is)
      | None ↦ λ none. elim (classical_of rest) as (λ r. classical_of rest ≡ r → RuleGives text (else_numbered_branch r (numbered_branch_of rest) (fault_of rest))) [
        | Ok v ↦ λ is. classical (never_branch text none) (build_left text) (classical_takes rest v is)
        | Err f ↦ λ barred. elim (numbered_branch_of rest) as (λ r. numbered_branch_of rest ≡ r → RuleGives text (else_numbered_branch (Err f) r (fault_of rest))) [
          | Ok v ↦ λ is. numbered_branch (never_branch text none) (build_left text) (never_read (IsClassical rest) (classical_of rest) f barred (classical_again rest)) (numbered_branch_takes rest v is)
          | Err g ↦ λ barred_too. elim (is_date rest) as (λ t. is_date rest ≡ t → RuleGives text (Err (cond t DateVersion NotAVersion))) [
            | true ↦ λ is. date (never_branch text none) (build_left text) (never_read (IsClassical rest) (classical_of rest) f barred (classical_again rest)) (never_read (IsNumberedBranch rest) (numbered_branch_of rest) g barred_too (numbered_branch_again rest)) is
            | false ↦ λ is. no_version (never_branch text none) (build_left text) (never_read (IsClassical rest) (classical_of rest) f barred (classical_again rest)) (never_read (IsNumberedBranch rest) (numbered_branch_of rest) g barred_too (numbered_branch_again rest)) is
          ] refl
        ] refl
      ] refl
    ] refl

-- what is read in no version is refused
no_reading : (P : Numbered → Type 0) (r : Result Numbered VersionFault) → ((w : Numbered) → r ≡ Ok w → P w) → ((w : Numbered) → P w → ⊥) → (f : VersionFault) × (r ≡ Err f)
no_reading P (Ok w) takes never = absurd (never w (takes w refl))
no_reading P (Err f) takes never = (f, refl)

-- and no other
pub rule_is : (text : List ℕ) (r : Result Version VersionFault) → RuleGives text r → form_of text ≡ r
unfolding numbered_form
rule_is text r (branch is) = rw (branch_again text _ is) refl
rule_is text r (classical {left = left} never built is) = rw (no_branch text never, build_is text left built, classical_again left _ is) refl
rule_is text r (numbered_branch {left = left} never built barred is) =
    let f = no_reading (IsClassical left) (classical_of left) (classical_takes left) barred in
    rw (no_branch text never, build_is text left built, f.1, numbered_branch_again left _ is) refl
rule_is text r (date {left = left} never built barred barred_too is) =
    let f = no_reading (IsClassical left) (classical_of left) (classical_takes left) barred in
    let g = no_reading (IsNumberedBranch left) (numbered_branch_of left) (numbered_branch_takes left) barred_too in
    rw (no_branch text never, build_is text left built, f.1, g.1, is) refl
rule_is text r (no_version {left = left} never built barred barred_too is) =
    let f = no_reading (IsClassical left) (classical_of left) (classical_takes left) barred in
    let g = no_reading (IsNumberedBranch left) (numbered_branch_of left) (numbered_branch_takes left) barred_too in
    rw (no_branch text never, build_is text left built, f.1, g.1, is) refl

pub normal_form_rule : (text : List ℕ) → RuleGives (with_branch_mark (without_flag (trimmed text))) (normal_form text)
unfolding normal_form unflagged_form
normal_form_rule text = some_rule (with_branch_mark (without_flag (trimmed text)))

pub one_rule : (text : List ℕ) (r s : Result Version VersionFault) → RuleGives text r → RuleGives text s → r ≡ s
one_rule text r s first second = sym (rule_is text r first) ∙ rule_is text s second

-- ---- a whole text

mark_is : (text marked : List ℕ) → IsMarked text marked → with_branch_mark text ≡ marked
mark_is text marked (inl is) = rw is.0 (sym is.1)
mark_is text marked (inr is) = rw is.0 (sym is.1)

marked_as : (text : List ℕ) → IsMarked text (with_branch_mark text)
marked_as text = elim (is_main_line text) as (λ t. is_main_line text ≡ t → IsMarked text (cond t (codes "dev-" ++ text) text)) [ true ↦ λ e. inl (e, refl) | false ↦ λ e. inr (e, refl) ] refl

pub has_form : (text : List ℕ) → HasForm text (normal_form text)
has_form text = record {
  middle = trimmed text;
  front = without_flag (trimmed text);
  marked = with_branch_mark (without_flag (trimmed text));
  blanks = trimmed_left text;
  stability = flag_left (trimmed text);
  main_line = marked_as (without_flag (trimmed text));
  rule = normal_form_rule text;
}

pub only_form : (text : List ℕ) (form : Result Version VersionFault) → HasForm text form → form ≡ normal_form text
unfolding normal_form unflagged_form
only_form text form has = sym (rw (trimmed_again text has.middle has.blanks, flag_is has.middle has.front has.stability, mark_is has.front has.marked has.main_line) (rule_is has.marked form has.rule))
