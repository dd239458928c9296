-- The normal text of a normal version is spelled by the grammar, so it is read back.
use Rattle.std.proofs.Common.{◌≡◌, ℕ, ◌^◌, ◌<◌, ◌≤◌, Bool, true, false, List, [], ◌∷◌, ◌++◌, length, Option, Some, None, Ok, Err, refl, ap, Result, sym, ◌∙◌, arith, append_assoc, inl, inr, ⊎_elim, lit≤}
use Rattle.std.specs.Prelude.{codes, ◌⊎◌, IfSome}
use Rattle.std.specs.List.{list_all, flat_map, AllByRecursion}
use Rattle.std.specs.Str.Parse.{AllDigits}
use Rattle.std.proofs.lemmas.Bool.{cases_lt}
use Rattle.std.proofs.lemmas.Bool.Decides.{nat_tests}
use Rattle.std.proofs.lemmas.Fmt.{decimal_is_IsNumeral, length-decimal-le}
use Rattle.std.proofs.lemmas.Str.Parse.{digit_from_value}
use Rattle.std.proofs.lemmas.Int.Digits.{digits_value-lt}
use Rattle.path_name.specs.Bytes.{is_digit}
use Rattle.path_name.specs.Decimals.{is_number, decimal_text}
use Rattle.version_norm.specs.declared.fault.VersionFault.{VersionFault}
use Rattle.version_norm.specs.declared.fault.VersionFault.TheVariants.{NotAVersion}
use Rattle.version_norm.specs.declared.version.Stage.{Stage}
use Rattle.version_norm.specs.declared.version.Stage.TheVariants as stages
use Rattle.version_norm.specs.declared.version.Modifier.{Modifier}
use Rattle.version_norm.specs.declared.version.Numbers.{Numbers}
use Rattle.version_norm.specs.declared.version.Numbered.{Numbered}
use Rattle.version_norm.specs.declared.version.Version.{Version}
use Rattle.version_norm.specs.declared.version.Version.TheVariants as versions
use Rattle.version_norm.specs.Pieces.{Suffix, is_any_v, without_first, begins_with_digit, all_words}
use Rattle.version_norm.specs.Versions.{version_numbers_at, numbered, classical_of, numbered_branch_of, numbered_form, unflagged_form, normal_form, joined, stage_text, numbers_text, modifier_text, dev_text, numbered_text}
use Rattle.version_norm.specs.Grammar.{IsNumber, IsRow, IsPart, IsBranchPart, IsFollowing, IsWordOf, IsModifier, IsDevMark, IsClassical, IsNumberedBranch}
use Rattle.version_norm.specs.VersionOrder.{four_numbers}
use Rattle.version_norm.specs.Normal.{IsNormal}
use Rattle.version_norm.proofs.Digits.{digit_range, digit_value_is, both_true, power_mono, number_too_long}
use Rattle.version_norm.proofs.Plain.{is_plain, digits_plain, plain-append, IsLeft, is_left}
use Rattle.version_norm.proofs.Spelled.{classical_again, numbered_branch_again}

-- a dot and a number
abbrev dotted : ℕ → List ℕ
dotted n = codes "." ++ decimal_text n

-- ---- the text of a number

digits_all : (xs : List ℕ) → AllDigits 10 xs → list_all is_digit xs ≡ true
digits_all [] all = refl
digits_all (x ∷ xs) all = let range = digit_from_value x all.0 in let first : is_digit x ≡ true = grind (arith, nat_tests) in rw first (digits_all xs all.1)

all_digits : (xs : List ℕ) → list_all is_digit xs ≡ true → AllDigits 10 xs
all_digits [] e = tt
all_digits (x ∷ xs) e =
    let both = both_true (is_digit x) (list_all is_digit xs) e in
    let range = digit_range x both.0 in
    (rw (digit_value_is x both.0) (omega arith), all_digits xs both.1)

some_number : (xs : List ℕ) → 0 < length xs → list_all is_digit xs ≡ true → is_number xs ≡ true
some_number [] some all = absurd (omega arith)
some_number (x ∷ xs) some all = all

pub number_text : (most n : ℕ) → 0 < most → most ≤ 18 → n < 10 ^ most → IsNumber most (decimal_text n) n
number_text most n some few lt =
    let mono = power_mono most 18 few in
    let small : n < 2 ^ 64 = omega arith in
    let numeral = decimal_is_IsNumeral n small in
    record {
      digits = some_number (decimal_text n) numeral.0.0 (digits_all (decimal_text n) numeral.0.1);
      short = length-decimal-le most n some lt small;
      value = sym numeral.1;
    }

-- and what a number's digits say of it
pub number_below : (most : ℕ) (text : List ℕ) (n : ℕ) → IsNumber most text n → n < 10 ^ most
number_below most [] n is = absurd (let h = is.digits in cc)
number_below most (d ∷ ds) n is =
    let below = digits_value-lt 10 (d ∷ ds) (all_digits (d ∷ ds) is.digits) in
    let mono = power_mono (length (d ∷ ds)) most is.short in
    omega (arith, is.value)

-- ---- rows of numbers

no_digit_dotted : (ns : List ℕ) → begins_with_digit (flat_map dotted ns) ≡ false
no_digit_dotted [] = refl
no_digit_dotted (n ∷ ns) = refl

row_of_parts : (ns : List ℕ) → AllByRecursion (λ n. n < 10 ^ 18) ns → IsRow IsPart (flat_map dotted ns) ns
row_of_parts [] all = refl
row_of_parts (n ∷ ns) all = (dotted n, flat_map dotted ns, refl, (decimal_text n, refl, number_text 18 n (omega arith) (omega arith) all.0), no_digit_dotted ns, row_of_parts ns all.1)

row_of_branch_parts : (ns : List ℕ) → AllByRecursion (λ n. n < 10 ^ 18) ns → IsRow IsBranchPart (flat_map dotted ns) ns
row_of_branch_parts [] all = refl
row_of_branch_parts (n ∷ ns) all = (dotted n, flat_map dotted ns, refl, inl (decimal_text n, refl, number_text 18 n (omega arith) (omega arith) all.0), no_digit_dotted ns, row_of_branch_parts ns all.1)

row_of_following : (ns : List ℕ) → AllByRecursion (λ n. n < 10 ^ 18) ns → IsRow IsFollowing (flat_map dotted ns) ns
row_of_following [] all = refl
row_of_following (n ∷ ns) all = (dotted n, flat_map dotted ns, refl, (codes ".", decimal_text n, refl, refl, number_text 18 n (omega arith) (omega arith) all.0), no_digit_dotted ns, row_of_following ns all.1)

row_joined : (ns : List ℕ) → AllByRecursion (λ n. n < 10 ^ 18) ns → IsRow IsFollowing (joined ns) ns
row_joined [] all = refl
row_joined (n ∷ ns) all = (decimal_text n, flat_map dotted ns, refl, ([], decimal_text n, refl, tt, number_text 18 n (omega arith) (omega arith) all.0), no_digit_dotted ns, row_of_following ns all.1)

-- ---- the modifier and the dev mark

stage_spelled : (stage : Stage) → IsWordOf all_words (stage_text stage) (Some stage)
stage_spelled stages.Alpha = inr (inr (inr (inr (inl (refl, refl)))))
stage_spelled stages.Beta = inr (inl (refl, refl))
stage_spelled stages.Rc = inr (inr (inr (inl (refl, refl))))
stage_spelled stages.Patch = inr (inr (inr (inr (inr (inr (inl (refl, refl)))))))

abbrev suffix_in : Option Modifier → Option Suffix
suffix_in None = None
suffix_in (Some modifier) = Some (Some modifier.stage, modifier.numbers)

modifier_spelled : (modifier : Option Modifier) → IfSome modifier (λ m. AllByRecursion (λ n. n < 10 ^ 18) m.numbers) → IsModifier (modifier_text modifier) (suffix_in modifier)
modifier_spelled None all = refl
modifier_spelled (Some m) all = (codes "-", stage_text m.stage, joined m.numbers, refl, refl, stage_spelled m.stage, row_joined m.numbers all)

dev_spelled : (dev : Bool) → IsDevMark (dev_text dev) dev
dev_spelled true = (codes "-", codes "dev", refl, refl, refl)
dev_spelled false = refl

version_again : (numbers : Numbers) (modifier : Option Modifier) (dev : Bool) → numbered numbers (suffix_in modifier) dev ≡ record { numbers = numbers; modifier = modifier; dev = dev }
version_again numbers None dev = refl
version_again numbers (Some m) dev = refl

-- ---- the whole

abbrev later : Numbers → List ℕ
later n = n.minor ∷ n.release ∷ n.build ∷ []

spelled : (v : Numbered) → numbered_text v ≡ [] ++ (decimal_text v.numbers.major ++ (flat_map dotted (later v.numbers) ++ (modifier_text v.modifier ++ dev_text v.dev)))
spelled v =
    let a = decimal_text v.numbers.major in
    let b = flat_map dotted (later v.numbers) in
    let c = modifier_text v.modifier in
    let d = dev_text v.dev in
    append_assoc (a ++ b) c d ∙ append_assoc a b (c ++ d)

classical_text : (v : Numbered) → IsNormal v → v.numbers.major < 10 ^ 5 → IsClassical (numbered_text v) v
classical_text v normal small = record {
  mark = [];
  number = decimal_text v.numbers.major;
  parts = flat_map dotted (later v.numbers);
  modifier = modifier_text v.modifier;
  dev = dev_text v.dev;
  whole = spelled v;
  first = v.numbers.major;
  others = later v.numbers;
  suffix = suffix_in v.modifier;
  has_dev = v.dev;
  mark_is = tt;
  number_is = number_text 5 v.numbers.major (omega arith) (omega arith) small;
  parts_are = row_of_parts (later v.numbers) normal.numbers.1;
  at_most_three = lit≤ tt;
  modifier_is = modifier_spelled v.modifier normal.following;
  dev_is = dev_spelled v.dev;
  version_is = sym (version_again v.numbers v.modifier v.dev);
}

branch_text : (v : Numbered) → IsNormal v → v.modifier ≡ None → v.dev ≡ true → IsNumberedBranch (numbered_text v) v
branch_text v normal unmodified dev = record {
  mark = [];
  number = decimal_text v.numbers.major;
  parts = flat_map dotted (later v.numbers);
  separator = codes "-";
  dev = codes "dev";
  whole = spelled v ∙ rw (unmodified, dev) refl;
  first = v.numbers.major;
  others = later v.numbers;
  mark_is = tt;
  number_is = number_text 18 v.numbers.major (omega arith) (omega arith) normal.numbers.0;
  parts_are = row_of_branch_parts (later v.numbers) normal.numbers.1;
  at_most_three = lit≤ tt;
  separator_is = refl;
  dev_is = refl;
  version_is = λ i. record { numbers = v.numbers; modifier = unmodified i; dev = dev i };
}

-- a first number of more than five digits is no classical one
digits_v : (d : ℕ) → is_digit d ≡ true → is_any_v d ≡ false
digits_v d e = grind (arith, nat_tests)

no_mark : (digits rest : List ℕ) → is_number digits ≡ true → without_first is_any_v (digits ++ rest) ≡ digits ++ rest
no_mark [] rest is = absurd cc
no_mark (d ∷ ds) rest is = rw (digits_v d (both_true (is_digit d) (list_all is_digit ds) is).0) refl

all_of_number : (digits : List ℕ) → is_number digits ≡ true → list_all is_digit digits ≡ true
all_of_number [] is = absurd cc
all_of_number (d ∷ ds) is = is

not_classical : (major : ℕ) (rest : List ℕ) → major < 10 ^ 18 → 10 ^ 5 ≤ major → begins_with_digit rest ≡ false → classical_of (decimal_text major ++ rest) ≡ Err NotAVersion
unfolding classical_of version_numbers_at
not_classical major rest small large stops =
    let number = number_text 18 major (omega arith) (omega arith) small in
    let long : 5 < length (decimal_text major) = ⊎_elim (λ lt. lt) (λ le. absurd (let few : IsNumber 5 (decimal_text major) major = record { digits = number.digits; short = le; value = number.value } in let below = number_below 5 (decimal_text major) major few in omega arith)) (cases_lt 5 (length (decimal_text major))) in
    rw (no_mark (decimal_text major) rest number.digits, number_too_long 5 (decimal_text major) rest (all_of_number (decimal_text major) number.digits) long stops) refl

-- ---- the rules before

plain_number : (n : ℕ) → n < 10 ^ 18 → list_all is_plain (decimal_text n) ≡ true
plain_number n lt = digits_plain (decimal_text n) (all_of_number (decimal_text n) (number_text 18 n (omega arith) (omega arith) lt).digits)

plain_dotted : (ns : List ℕ) → AllByRecursion (λ n. n < 10 ^ 18) ns → list_all is_plain (flat_map dotted ns) ≡ true
plain_dotted [] all = refl
plain_dotted (n ∷ ns) all =
    plain-append (decimal_text n) (flat_map dotted ns) (plain_number n all.0) (plain_dotted ns all.1)

plain_joined : (ns : List ℕ) → AllByRecursion (λ n. n < 10 ^ 18) ns → list_all is_plain (joined ns) ≡ true
plain_joined [] all = refl
plain_joined (n ∷ ns) all = plain-append (decimal_text n) (flat_map dotted ns) (plain_number n all.0) (plain_dotted ns all.1)

plain_stage : (stage : Stage) → list_all is_plain (stage_text stage) ≡ true
plain_stage stages.Alpha = refl
plain_stage stages.Beta = refl
plain_stage stages.Rc = refl
plain_stage stages.Patch = refl

plain_modifier : (modifier : Option Modifier) → IfSome modifier (λ m. AllByRecursion (λ n. n < 10 ^ 18) m.numbers) → list_all is_plain (modifier_text modifier) ≡ true
plain_modifier None all = refl
plain_modifier (Some m) all = plain-append (codes "-" ++ stage_text m.stage) (joined m.numbers) (plain_stage m.stage) (plain_joined m.numbers all)

plain_dev : (dev : Bool) → list_all is_plain (dev_text dev) ≡ true
plain_dev true = refl
plain_dev false = refl

plain_text : (v : Numbered) → IsNormal v → list_all is_plain (numbered_text v) ≡ true
plain_text v normal =
    plain-append (numbers_text v.numbers ++ modifier_text v.modifier) (dev_text v.dev)
    (plain-append (numbers_text v.numbers) (modifier_text v.modifier) (plain_joined (four_numbers v.numbers) normal.numbers) (plain_modifier v.modifier normal.following))
    (plain_dev v.dev)

left_of : (digits rest : List ℕ) → is_number digits ≡ true → list_all is_plain (digits ++ rest) ≡ true → IsLeft (digits ++ rest)
left_of [] rest is plain = absurd cc
left_of (d ∷ ds) rest is plain = is_left d (ds ++ rest) (both_true (is_digit d) (list_all is_digit ds) is).0 plain

-- ---- read back

abbrev formed : Numbered → Result Version VersionFault
formed v = Ok (versions.Numbered v)

form_of : (text : List ℕ) (v : Numbered) → IsLeft text → numbered_form text ≡ Ok (versions.Numbered v) → normal_form text ≡ Ok (versions.Numbered v)
unfolding normal_form unflagged_form
form_of text v left e = rw (left.unflagged, left.unnamed, left.no_branch, left.unbuilt) e

classical_form : (text : List ℕ) (v : Numbered) → classical_of text ≡ Ok v → numbered_form text ≡ Ok (versions.Numbered v)
unfolding numbered_form
classical_form text v e = rw e refl

branch_form : (text : List ℕ) (v : Numbered) → classical_of text ≡ Err NotAVersion → numbered_branch_of text ≡ Ok v → numbered_form text ≡ Ok (versions.Numbered v)
unfolding numbered_form
branch_form text v barred e = rw (barred, e) refl

pub read_back : (v : Numbered) → IsNormal v → normal_form (numbered_text v) ≡ Ok (versions.Numbered v)
read_back v normal =
    let number = number_text 18 v.numbers.major (omega arith) (omega arith) normal.numbers.0 in
    let rest : List ℕ = flat_map dotted (later v.numbers) ++ (modifier_text v.modifier ++ dev_text v.dev) in
    let is : numbered_text v ≡ decimal_text v.numbers.major ++ rest = spelled v in
    let left : IsLeft (numbered_text v) = rw is (left_of (decimal_text v.numbers.major) rest number.digits (rw (← is) (plain_text v normal))) in
    form_of (numbered_text v) v left (by (cases_lt v.numbers.major (10 ^ 5)) normal.first)
  where
    by : (v.numbers.major < 10 ^ 5) ⊎ (10 ^ 5 ≤ v.numbers.major) → (v.numbers.major < 10 ^ 5) ⊎ ((v.modifier ≡ None) × (v.dev ≡ true)) → numbered_form (numbered_text v) ≡ Ok (versions.Numbered v)
    by (inl small) first = classical_form (numbered_text v) v (classical_again (numbered_text v) v (classical_text v normal small))
    by (inr large) (inl small) = absurd (omega arith)
    by (inr large) (inr branch) =
        let rest : List ℕ = flat_map dotted (later v.numbers) ++ (modifier_text v.modifier ++ dev_text v.dev) in
        let is : numbered_text v ≡ decimal_text v.numbers.major ++ rest = spelled v in
        branch_form (numbered_text v) v (rw is (not_classical v.numbers.major rest normal.numbers.0 large refl))
        (numbered_branch_again (numbered_text v) v (branch_text v normal branch.0 branch.1))

-- no two normal versions have the same text
pub normal_text_exact : (a b : Numbered) → IsNormal a → IsNormal b → numbered_text a ≡ numbered_text b → a ≡ b
normal_text_exact a b first second same =
    let back : formed a ≡ formed b = sym (read_back a first) ∙ ap normal_form same ∙ read_back b second in
    cc
