-- What is read is spelled by the grammar.
use Rattle.std.proofs.Common.{◌≡◌, ℕ, zero, suc, ◌<◌, ◌≤◌, Bool, true, false, cond, eqb, List, [], ◌∷◌, ◌++◌, length, Option, Some, None, Result, Ok, Err, refl, ap, sym, subst, ◌∙◌, arith, append_assoc, inl, inr}
use Rattle.std.specs.Prelude.{codes, ◌&&◌, ◌==◌, unwrap_or}
use Rattle.std.specs.List.{list_all}
use Rattle.std.proofs.lemmas.Bool.{eqb-true}
use Rattle.std.proofs.lemmas.List.{append-nil}
use Rattle.path_name.specs.Bytes.{is_digit, lowered}
use Rattle.path_name.specs.Orders.{bytes_are_equal}
use Rattle.path_name.specs.Decimals.{is_number}
use Rattle.path_name.specs.Given.{◌>>=◌}
use Rattle.version_norm.specs.declared.fault.VersionFault.{VersionFault}
use Rattle.version_norm.specs.declared.fault.VersionFault.TheVariants.{NotAVersion}
use Rattle.version_norm.specs.declared.version.Stage.{Stage}
use Rattle.version_norm.specs.declared.version.Numbers.{Numbers}
use Rattle.version_norm.specs.declared.version.Numbered.{Numbered}
use Rattle.version_norm.specs.Pieces.{Reading, Suffix, is_separator, is_dot_or_dash, is_any_v, is_small_v, is_wildcard, without_first, begins_with_digit, number_at, part_at, branch_part_at, anything, Word, all_words, after_word, word_or, first_word, following_within, following_at, suffix_of, suffix_at, is_dev, dev_at_end}
use Rattle.version_norm.specs.Versions.{version_numbers_at, numbered, classical_of, numbered_branch_of}
use Rattle.version_norm.specs.Grammar.{IsNumber, IsRow, IsPart, IsBranchPart, IsFollowing, IsWordOf, IsModifier, IsDevMark, four_of, IsClassical, IsNumberedBranch}
use Rattle.version_norm.proofs.Digits.{bind_ok, both_true, guard_ok, TakesNumber, number_takes}
use Rattle.version_norm.proofs.Front.{digit-front, digit-append, optional_takes}
use Rattle.version_norm.proofs.Words.{after_word_takes}
use Rattle.version_norm.proofs.Spelled.{part_dot, branch_part_dot}

-- ---- plain facts

pub same_bytes : (xs ys : List ℕ) → bytes_are_equal xs ys ≡ true → xs ≡ ys
same_bytes [] [] e = refl
same_bytes [] (y ∷ ys) e = absurd cc
same_bytes (x ∷ xs) [] e = absurd cc
same_bytes (x ∷ xs) (y ∷ ys) e =
    let both = both_true (eqb x y) (bytes_are_equal xs ys) e in
    let head : x ≡ y = eqb-true x y both.0 in
    let tail = same_bytes xs ys both.1 in
    cc

abbrev read : {X : Type 0} → X → Result X VersionFault
read x = Ok x

same_reading : {X : Type 0} (x y : X) → read x ≡ read y → x ≡ y
same_reading x y e = cc

pub number_is : (most : ℕ) (text : List ℕ) (n : ℕ) (rest : List ℕ) (took : TakesNumber most text n rest) → IsNumber most took.digits n
number_is most text n rest took = record { digits = by took.digits took.all took.some; short = took.short; value = took.value }
  where
    by : (digits : List ℕ) → list_all is_digit digits ≡ true → 0 < length digits → is_number digits ≡ true
    by [] all some = absurd (omega arith)
    by (d ∷ ds) all some = all

-- ---- parts

-- what a reading of a part took
abbrev pub Took : (List ℕ → ℕ → Type 0) → List ℕ → Option ℕ × List ℕ → Type 0
Took IsPiece text (None, rest) = rest ≡ text
Took IsPiece text (Some n, rest) = (piece : List ℕ) × (text ≡ piece ++ rest) × IsPiece piece n

abbrev unnumbered : Option ℕ → List ℕ → Reading (Option ℕ)
unnumbered n rest = Ok (n, rest)

abbrev unread : List ℕ → Reading (Option ℕ)
unread text = unnumbered None text

abbrev some_of : Result (ℕ × List ℕ) VersionFault → Reading (Option ℕ)
some_of reading = reading >>= λ number. unnumbered (Some number.0) number.1

-- four numbers, those of missing parts as given
abbrev four_with : ℕ → ℕ → Option ℕ → Option ℕ → Option ℕ → Numbers
four_with missing first minor release build = record { major = first; minor = unwrap_or minor missing; release = unwrap_or release missing; build = unwrap_or build missing }

abbrev all_numbers : ℕ → ℕ → Option ℕ → Option ℕ → Option ℕ → List ℕ → Reading Numbers
all_numbers missing first minor release build rest = Ok (four_with missing first minor release build, rest)

wider : (text : List ℕ) (x : Option ℕ × List ℕ) → Took IsPart text x → Took IsBranchPart text x
wider text (None, rest) took = took
wider text (Some n, rest) took = (took.0, took.1, inl took.2)

pub part_takes : (text : List ℕ) (x : Option ℕ × List ℕ) → part_at text ≡ Ok x → Took IsPart text x
unfolding part_at
part_takes [] x e = let none : Option ℕ × List ℕ = (None, []) in subst (λ (y : Option ℕ × List ℕ). Took IsPart [] y) (same_reading none x e) refl
part_takes (b ∷ bs) x e =
    elim (b == 46 && begins_with_digit bs) as (λ t. (b == 46 && begins_with_digit bs) ≡ t → cond t (some_of (number_at 18 bs)) (unread (b ∷ bs)) ≡ Ok x → Took IsPart (b ∷ bs) x) [
      | true ↦ λ test h.
          let n = bind_ok (number_at 18 bs) (λ number. unnumbered (Some number.0) number.1) x h in
          let took = number_takes 18 bs n.0.0 n.0.1 n.1 in
          let dot : b ≡ 46 = eqb-true b 46 (both_true (b == 46) (begins_with_digit bs) test).0 in
          let parts : b ∷ bs ≡ (46 ∷ took.digits) ++ n.0.1 = let back = took.parts in cc in
          let made : Option ℕ × List ℕ = (Some n.0.0, n.0.1) in
          subst (λ (y : Option ℕ × List ℕ). Took IsPart (b ∷ bs) y) (same_reading made x n.2) (46 ∷ took.digits, parts, (took.digits, refl, number_is 18 bs n.0.0 n.0.1 took))
      | false ↦ λ test h.
          let none : Option ℕ × List ℕ = (None, b ∷ bs) in
          subst (λ (y : Option ℕ × List ℕ). Took IsPart (b ∷ bs) y) (same_reading none x h) refl
    ] refl e

branch_part_takes : (text : List ℕ) (x : Option ℕ × List ℕ) → branch_part_at text ≡ Ok x → Took IsBranchPart text x
unfolding branch_part_at
branch_part_takes [] x e = wider [] x (part_takes [] x e)
branch_part_takes (b ∷ []) x e = wider (b ∷ []) x (part_takes (b ∷ []) x e)
branch_part_takes (b ∷ c ∷ cs) x e =
    elim (b == 46 && is_wildcard c) as (λ t. (b == 46 && is_wildcard c) ≡ t → cond t (unnumbered (Some anything) cs) (part_at (b ∷ c ∷ cs)) ≡ Ok x → Took IsBranchPart (b ∷ c ∷ cs) x) [
      | true ↦ λ test h.
          let both = both_true (b == 46) (is_wildcard c) test in
          let dot : b ≡ 46 = eqb-true b 46 both.0 in
          let parts : b ∷ c ∷ cs ≡ (46 ∷ c ∷ []) ++ cs = cc in
          let made : Option ℕ × List ℕ = (Some anything, cs) in
          let wild : IsBranchPart (46 ∷ c ∷ []) anything = inr (c, refl, both.1, refl) in
          subst (λ (y : Option ℕ × List ℕ). Took IsBranchPart (b ∷ c ∷ cs) y) (same_reading made x h) (46 ∷ c ∷ [], parts, wild)
      | false ↦ λ test h. wider (b ∷ c ∷ cs) x (part_takes (b ∷ c ∷ cs) x h)
    ] refl e

-- ---- the numbers of a version

-- What a reading of the numbers took.
pub record TakesNumbers (most missing : ℕ) (IsPiece : List ℕ → ℕ → Type 0) (text : List ℕ) (x : Numbers × List ℕ) : Type 0 where
  pub number : List ℕ
  pub parts : List ℕ
  pub whole : text ≡ number ++ (parts ++ x.1)
  pub first : ℕ
  pub others : List ℕ
  pub number_is : IsNumber most number first
  pub parts_are : IsRow IsPiece parts others
  pub at_most_three : length others ≤ 3
  pub numbers_are : x.0 ≡ four_of missing first others

-- What three readings of a part took.
record TakesParts (missing : ℕ) (IsPiece : List ℕ → ℕ → Type 0) (text : List ℕ) (minor release build : Option ℕ) (rest : List ℕ) : Type 0 where
  parts : List ℕ
  whole : text ≡ parts ++ rest
  others : List ℕ
  parts_are : IsRow IsPiece parts others
  at_most_three : length others ≤ 3
  numbers_are : (first : ℕ) → four_with missing first minor release build ≡ four_of missing first others

module _ (part : List ℕ → Reading (Option ℕ)) (IsPiece : List ℕ → ℕ → Type 0) (takes : (text : List ℕ) (x : Option ℕ × List ℕ) → part text ≡ Ok x → Took IsPiece text x)
    (dot : (piece : List ℕ) (n : ℕ) → IsPiece piece n → begins_with_digit piece ≡ false) where
  -- where no part was read, none is read after it
  none_again : (text after rest : List ℕ) (n : ℕ) → part text ≡ Ok (None, after) → part after ≡ Ok (Some n, rest) → ⊥
  none_again text after rest n first second =
      let same : after ≡ text = takes text (None, after) first in
      let again : part text ≡ Ok (Some n, rest) = rw (← same) second in
      let nothing : Option ℕ × List ℕ = (None, after) in
      let something : Option ℕ × List ℕ = (Some n, rest) in
      let pairs : nothing ≡ something = same_reading nothing something (sym first ∙ again) in
      let apart : ◌≡◌ {A = Option ℕ} None (Some n) = ap (λ (p : Option ℕ × List ℕ). p.0) pairs in
      absurd cc

  parts_take : (missing : ℕ) (text : List ℕ) (minor : Option ℕ) (t2 : List ℕ) (release : Option ℕ) (t3 : List ℕ) (build : Option ℕ) (rest : List ℕ)
      → part text ≡ Ok (minor, t2) → part t2 ≡ Ok (release, t3) → part t3 ≡ Ok (build, rest) → TakesParts missing IsPiece text minor release build rest
  parts_take missing text None t2 None t3 None rest e1 e2 e3 =
      let whole : text ≡ rest = sym (takes t3 (None, rest) e3 ∙ takes t2 (None, t3) e2 ∙ takes text (None, t2) e1) in
      record { parts = []; whole = whole; others = []; parts_are = refl; at_most_three = omega arith; numbers_are = λ first. refl }
  parts_take missing text None t2 (Some b) t3 build rest e1 e2 e3 = absurd (none_again text t2 t3 b e1 e2)
  parts_take missing text None t2 None t3 (Some c) rest e1 e2 e3 = absurd (none_again t2 t3 rest c e2 e3)
  parts_take missing text (Some a) t2 None t3 (Some c) rest e1 e2 e3 = absurd (none_again t2 t3 rest c e2 e3)
  parts_take missing text (Some a) t2 None t3 None rest e1 e2 e3 =
      let one = takes text (Some a, t2) e1 in
      let left : t2 ≡ rest = sym (takes t3 (None, rest) e3 ∙ takes t2 (None, t3) e2) in
      record {
        parts = one.0;
        whole = one.1 ∙ ap (λ (x : List ℕ). one.0 ++ x) left;
        others = a ∷ [];
        parts_are = (one.0, [], sym (append-nil one.0), one.2, refl, refl);
        at_most_three = omega arith;
        numbers_are = λ first. refl;
      }
  parts_take missing text (Some a) t2 (Some b) t3 None rest e1 e2 e3 =
      let one = takes text (Some a, t2) e1 in
      let two = takes t2 (Some b, t3) e2 in
      let left : t3 ≡ rest = sym (takes t3 (None, rest) e3) in
      record {
        parts = one.0 ++ two.0;
        whole = one.1 ∙ ap (λ (x : List ℕ). one.0 ++ x) (two.1 ∙ ap (λ (x : List ℕ). two.0 ++ x) left) ∙ sym (append_assoc one.0 two.0 rest);
        others = a ∷ b ∷ [];
        parts_are = (one.0, two.0, refl, one.2, dot two.0 b two.2, (two.0, [], sym (append-nil two.0), two.2, refl, refl));
        at_most_three = omega arith;
        numbers_are = λ first. refl;
      }
  parts_take missing text (Some a) t2 (Some b) t3 (Some c) rest e1 e2 e3 =
      let one = takes text (Some a, t2) e1 in
      let two = takes t2 (Some b, t3) e2 in
      let three = takes t3 (Some c, rest) e3 in
      let last : t2 ≡ (two.0 ++ three.0) ++ rest = two.1 ∙ ap (λ (x : List ℕ). two.0 ++ x) three.1 ∙ sym (append_assoc two.0 three.0 rest) in
      record {
        parts = one.0 ++ (two.0 ++ three.0);
        whole = one.1 ∙ ap (λ (x : List ℕ). one.0 ++ x) last ∙ sym (append_assoc one.0 (two.0 ++ three.0) rest);
        others = a ∷ b ∷ c ∷ [];
        parts_are = (
          one.0,
          two.0 ++ three.0,
          refl,
          one.2,
          digit-append two.0 three.0 (dot two.0 b two.2) (dot three.0 c three.2),
          (two.0, three.0, refl, two.2, dot three.0 c three.2, (three.0, [], sym (append-nil three.0), three.2, refl, refl)),
        );
        at_most_three = omega arith;
        numbers_are = λ first. refl;
      }

  pub numbers_take : (most missing : ℕ) (text : List ℕ) (x : Numbers × List ℕ) → version_numbers_at most part missing text ≡ Ok x → TakesNumbers most missing IsPiece text x
  unfolding version_numbers_at
  numbers_take most missing text x e =
      let major = bind_ok (number_at most text) (λ major. part major.1 >>= λ minor. part minor.1 >>= λ release. part release.1 >>= λ build. all_numbers missing major.0 minor.0 release.0 build.0 build.1) x e in
      let minor = bind_ok (part major.0.1) (λ minor. part minor.1 >>= λ release. part release.1 >>= λ build. all_numbers missing major.0.0 minor.0 release.0 build.0 build.1) x major.2 in
      let release = bind_ok (part minor.0.1) (λ release. part release.1 >>= λ build. all_numbers missing major.0.0 minor.0.0 release.0 build.0 build.1) x minor.2 in
      let build = bind_ok (part release.0.1) (λ build. all_numbers missing major.0.0 minor.0.0 release.0.0 build.0 build.1) x release.2 in
      let number = number_takes most text major.0.0 major.0.1 major.1 in
      let parts = parts_take missing major.0.1 minor.0.0 minor.0.1 release.0.0 release.0.1 build.0.0 build.0.1 minor.1 release.1 build.1 in
      let made : Numbers × List ℕ = (four_with missing major.0.0 minor.0.0 release.0.0 build.0.0, build.0.1) in
      subst (λ (y : Numbers × List ℕ). TakesNumbers most missing IsPiece text y) (same_reading made x build.2) (record {
        number = number.digits;
        parts = parts.parts;
        whole = number.parts ∙ ap (λ (y : List ℕ). number.digits ++ y) parts.whole;
        first = major.0.0;
        others = parts.others;
        number_is = number_is most text major.0.0 major.0.1 number;
        parts_are = parts.parts_are;
        at_most_three = parts.at_most_three;
        numbers_are = parts.numbers_are major.0.0;
      })

-- ---- a dev mark

dev_takes : (text : List ℕ) (marked : Bool) → dev_at_end text ≡ Ok marked → IsDevMark text marked
unfolding dev_at_end
dev_takes [] marked e = subst (λ (m : Bool). IsDevMark [] m) (same_reading false marked e) refl
dev_takes (b ∷ bs) marked e =
    let after = without_first is_separator (b ∷ bs) in
    let cut = optional_takes is_separator (b ∷ bs) in
    let g = guard_ok (is_dev after) true marked NotAVersion e in
    subst (λ (m : Bool). IsDevMark (b ∷ bs) m) g.1 (cut.mark, after, cut.parts, cut.optional, same_bytes (lowered after) (codes "dev") g.0)

-- ---- a modifier

regroup : (a b c d : List ℕ) → a ++ (b ++ (c ++ d)) ≡ ((a ++ b) ++ c) ++ d
regroup a b c d = sym (append_assoc (a ++ b) c d ∙ append_assoc a b (c ++ d))

-- What a reading of numbers took.
record TakesRow (text : List ℕ) (x : List ℕ × List ℕ) : Type 0 where
  numbers : List ℕ
  whole : text ≡ numbers ++ x.1
  numbers_are : IsRow IsFollowing numbers x.0

abbrev listed : List ℕ → List ℕ → Reading (List ℕ)
listed ns rest = Ok (ns, rest)

abbrev one_more_of : ℕ → Result (ℕ × List ℕ) VersionFault → Reading (List ℕ)
one_more_of most reading = reading >>= λ number. following_within most number.1 >>= λ others. listed (number.0 ∷ others.0) others.1

no_row : (text : List ℕ) (x : List ℕ × List ℕ) → listed [] text ≡ Ok x → TakesRow text x
no_row text x e =
    let made : List ℕ × List ℕ = ([], text) in
    subst (λ (y : List ℕ × List ℕ). TakesRow text y) (same_reading made x e) (record { numbers = []; whole = refl; numbers_are = refl })

row_takes : (most : ℕ) (text : List ℕ) (x : List ℕ × List ℕ) → following_within most text ≡ Ok x → TakesRow text x
unfolding following_within
row_takes zero text x e = no_row text x e
row_takes (suc most) text x e =
    let after = without_first is_dot_or_dash text in
    elim (begins_with_digit after) as (λ t. cond t (one_more_of most (number_at 18 after)) (listed [] text) ≡ Ok x → TakesRow text x) [
      | true ↦ λ h.
          let number = bind_ok (number_at 18 after) (λ number. following_within most number.1 >>= λ others. listed (number.0 ∷ others.0) others.1) x h in
          let others = bind_ok (following_within most number.0.1) (λ others. listed (number.0.0 ∷ others.0) others.1) x number.2 in
          let cut = optional_takes is_dot_or_dash text in
          let took = number_takes 18 after number.0.0 number.0.1 number.1 in
          let more = row_takes most number.0.1 others.0 others.1 in
          let made : List ℕ × List ℕ = (number.0.0 ∷ others.0.0, others.0.1) in
          let stops : begins_with_digit (more.numbers ++ others.0.1) ≡ false = rw (← more.whole) took.stops in
          let whole : text ≡ ((cut.mark ++ took.digits) ++ more.numbers) ++ others.0.1 =
          cut.parts ∙ ap (λ (y : List ℕ). cut.mark ++ y) (took.parts ∙ ap (λ (y : List ℕ). took.digits ++ y) more.whole) ∙ regroup cut.mark took.digits more.numbers others.0.1 in
          subst (λ (y : List ℕ × List ℕ). TakesRow text y) (same_reading made x others.2) (record {
            numbers = (cut.mark ++ took.digits) ++ more.numbers;
            whole = whole;
            numbers_are = (cut.mark ++ took.digits, more.numbers, refl, (cut.mark, took.digits, refl, cut.optional, number_is 18 after number.0.0 number.0.1 took), digit-front more.numbers others.0.1 stops, more.numbers_are);
          })
      | false ↦ λ h. no_row text x h
    ] e

-- What was before it is one of the words, and stands for that.
record TakesWordOf (some : List Word) (text : List ℕ) (found : Option Stage × List ℕ) : Type 0 where
  front : List ℕ
  parts : text ≡ front ++ found.1
  word : IsWordOf some front found.0

first_word_takes : (some : List Word) (text : List ℕ) (found : Option Stage × List ℕ) → first_word some text ≡ Some found → TakesWordOf some text found
first_word_takes [] text found e = absurd cc
first_word_takes (word ∷ others) text found e =
    elim (after_word word.0 text) as (λ o. after_word word.0 text ≡ o → word_or word.1 o (first_word others text) ≡ Some found → TakesWordOf (word ∷ others) text found) [
      | None ↦ λ is h. let more = first_word_takes others text found h in record { front = more.front; parts = more.parts; word = inr more.word }
      | Some rest ↦ λ is h.
          let made : Option Stage × List ℕ = (word.1, rest) in
          let took = after_word_takes word.0 text rest is in
          subst (λ (y : Option Stage × List ℕ). TakesWordOf (word ∷ others) text y) (same_found made found h) (record { front = took.front; parts = took.parts; word = inl (took.spelled, refl) })
    ] refl e
  where
    same_found : (x y : Option Stage × List ℕ) → ◌≡◌ {A = Option (Option Stage × List ℕ)} (Some x) (Some y) → x ≡ y
    same_found x y h = cc

-- What a reading of a modifier took.
record TakesSuffix (text : List ℕ) (x : Option Suffix × List ℕ) : Type 0 where
  modifier : List ℕ
  whole : text ≡ modifier ++ x.1
  modifier_is : IsModifier modifier x.0

abbrev suffixed : Option Suffix → List ℕ → Reading (Option Suffix)
suffixed suffix rest = Ok (suffix, rest)

suffix_takes : (text : List ℕ) (x : Option Suffix × List ℕ) → suffix_at text ≡ Ok x → TakesSuffix text x
unfolding suffix_at suffix_of
suffix_takes text x e =
    let after = without_first is_separator text in
    elim (first_word all_words after) as (λ o. first_word all_words after ≡ o → suffix_of o text ≡ Ok x → TakesSuffix text x) [
      | None ↦ λ is h.
          let made : Option Suffix × List ℕ = (None, text) in
          subst (λ (y : Option Suffix × List ℕ). TakesSuffix text y) (same_reading made x h) (record { modifier = []; whole = refl; modifier_is = refl })
      | Some found ↦ λ is h.
          let numbers = bind_ok (following_at found.1) (λ numbers. suffixed (Some (found.0, numbers.0)) numbers.1) x h in
          let cut = optional_takes is_separator text in
          let word = first_word_takes all_words after found is in
          let row = row_takes (length found.1) found.1 numbers.0 numbers.1 in
          let made : Option Suffix × List ℕ = (Some (found.0, numbers.0.0), numbers.0.1) in
          subst (λ (y : Option Suffix × List ℕ). TakesSuffix text y) (same_reading made x numbers.2) (record {
            modifier = cut.mark ++ (word.front ++ row.numbers);
            whole = cut.parts ∙ ap (λ (y : List ℕ). cut.mark ++ y) (word.parts ∙ ap (λ (y : List ℕ). word.front ++ y) row.whole ∙ sym (append_assoc word.front row.numbers numbers.0.1)) ∙ sym (append_assoc cut.mark (word.front ++ row.numbers) numbers.0.1);
            modifier_is = (cut.mark, word.front, row.numbers, refl, cut.optional, word.word, row.numbers_are);
          })
    ] refl e

-- ---- the two rules

abbrev whole_version : Numbered → Result Numbered VersionFault
whole_version v = Ok v

pub classical_takes : (text : List ℕ) (version : Numbered) → classical_of text ≡ Ok version → IsClassical text version
unfolding classical_of
classical_takes text version e =
    let after = without_first is_any_v text in
    let numbers = bind_ok (version_numbers_at 5 part_at 0 after) (λ numbers. suffix_at numbers.1 >>= λ suffix. dev_at_end suffix.1 >>= λ dev. whole_version (numbered numbers.0 suffix.0 dev)) version e in
    let suffix = bind_ok (suffix_at numbers.0.1) (λ suffix. dev_at_end suffix.1 >>= λ dev. whole_version (numbered numbers.0.0 suffix.0 dev)) version numbers.2 in
    let dev = bind_ok (dev_at_end suffix.0.1) (λ dev. whole_version (numbered numbers.0.0 suffix.0.0 dev)) version suffix.2 in
    let cut = optional_takes is_any_v text in
    let four = numbers_take part_at IsPart part_takes part_dot 5 0 after numbers.0 numbers.1 in
    let modifier = suffix_takes numbers.0.1 suffix.0 suffix.1 in
    record {
      mark = cut.mark;
      number = four.number;
      parts = four.parts;
      modifier = modifier.modifier;
      dev = suffix.0.1;
      whole = cut.parts ∙ ap (λ (y : List ℕ). cut.mark ++ y) (four.whole ∙ ap (λ (y : List ℕ). four.number ++ (four.parts ++ y)) modifier.whole);
      first = four.first;
      others = four.others;
      suffix = suffix.0.0;
      has_dev = dev.0;
      mark_is = cut.optional;
      number_is = four.number_is;
      parts_are = four.parts_are;
      at_most_three = four.at_most_three;
      modifier_is = modifier.modifier_is;
      dev_is = dev_takes suffix.0.1 dev.0 dev.1;
      version_is = sym (same_reading (numbered numbers.0.0 suffix.0.0 dev.0) version dev.2) ∙ ap (λ (n : Numbers). numbered n suffix.0.0 dev.0) four.numbers_are;
    }

pub numbered_branch_takes : (text : List ℕ) (version : Numbered) → numbered_branch_of text ≡ Ok version → IsNumberedBranch text version
unfolding numbered_branch_of
numbered_branch_takes text version e =
    let after = without_first is_small_v text in
    let numbers = bind_ok (version_numbers_at 18 branch_part_at anything after) (λ numbers. cond (is_dev (without_first is_dot_or_dash numbers.1)) (whole_version (numbered numbers.0 None true)) (Err NotAVersion)) version e in
    let test = guard_ok (is_dev (without_first is_dot_or_dash numbers.0.1)) (numbered numbers.0.0 None true) version NotAVersion numbers.2 in
    let cut = optional_takes is_small_v text in
    let four = numbers_take branch_part_at IsBranchPart branch_part_takes branch_part_dot 18 anything after numbers.0 numbers.1 in
    let mark = optional_takes is_dot_or_dash numbers.0.1 in
    record {
      mark = cut.mark;
      number = four.number;
      parts = four.parts;
      separator = mark.mark;
      dev = without_first is_dot_or_dash numbers.0.1;
      whole = cut.parts ∙ ap (λ (y : List ℕ). cut.mark ++ y) (four.whole ∙ ap (λ (y : List ℕ). four.number ++ (four.parts ++ y)) mark.parts);
      first = four.first;
      others = four.others;
      mark_is = cut.optional;
      number_is = four.number_is;
      parts_are = four.parts_are;
      at_most_three = four.at_most_three;
      separator_is = mark.optional;
      dev_is = same_bytes (lowered (without_first is_dot_or_dash numbers.0.1)) (codes "dev") test.0;
      version_is = sym test.1 ∙ ap (λ (n : Numbers). numbered n None true) four.numbers_are;
    }
