-- What is spelled by the grammar is read.
use Rattle.std.proofs.Common.{◌≡◌, ℕ, ◌≤◌, Bool, true, false, cond, List, [], ◌∷◌, ◌++◌, length, Option, Some, None, Ok, refl, ap, ◌∙◌, arith, append_assoc, inl, inr, lit≤}
use Rattle.std.specs.Prelude.{codes, ◌&&◌, ◌||◌, ◌==◌}
use Rattle.std.specs.List.{list_all}
use Rattle.std.proofs.lemmas.Bool.Decides.{nat_tests}
use Rattle.path_name.specs.Bytes.{is_digit, lower, lowered}
use Rattle.path_name.specs.Given.{◌>>=◌}
use Rattle.version_norm.specs.declared.version.Numbered.{Numbered}
use Rattle.version_norm.specs.Pieces.{Reading, Suffix, is_separator, is_dot_or_dash, is_any_v, is_small_v, is_wildcard, without_first, begins_with_digit, number_at, part_at, branch_part_at, anything, all_words, first_word, following_at, suffix_of, suffix_at, is_dev, dev_at_end}
use Rattle.version_norm.specs.Versions.{version_numbers_at, classical_of, numbered_branch_of}
use Rattle.version_norm.specs.Grammar.{IsOptional, IsNumber, IsRow, IsPart, IsBranchPart, IsFollowing, IsModifier, IsDevMark, four_of, IsClassical, IsNumberedBranch}
use Rattle.version_norm.proofs.Digits.{both_true, number_again}
use Rattle.version_norm.proofs.Front.{first_passes, first_passes-append, digit-append, without_optional}
use Rattle.version_norm.proofs.Letters.{StartsWithLetter, EndsWord, letter_is, starts, word_first, dev_first, first_word_again, first_word-dev}
use Rattle.version_norm.proofs.Sequences.{with_front, one_number, no_number}

-- ---- numbers

-- a number, whatever follows it that is no digit
pub record ReadsNumber (most : ℕ) (text : List ℕ) (n : ℕ) (rest : List ℕ) : Type 0 where
  pub digit : begins_with_digit text ≡ true
  pub no_dot_or_dash : first_passes is_dot_or_dash text ≡ false
  pub no_v : first_passes is_any_v text ≡ false
  pub no_small_v : first_passes is_small_v text ≡ false
  pub reads : number_at most text ≡ Ok (n, rest)

digit_apart : (d : ℕ) → is_digit d ≡ true → (is_dot_or_dash d ≡ false) × (is_any_v d ≡ false) × (is_small_v d ≡ false)
digit_apart d e = (grind (arith, nat_tests), grind (arith, nat_tests), grind (arith, nat_tests))

pub reads_number : (most : ℕ) (digits rest : List ℕ) (n : ℕ) → IsNumber most digits n → begins_with_digit rest ≡ false → ReadsNumber most (digits ++ rest) n rest
reads_number most [] rest n is stops = absurd (let h = is.digits in cc)
reads_number most (d ∷ ds) rest n is stops =
    let all : list_all is_digit (d ∷ ds) ≡ true = is.digits in
    let first = both_true (is_digit d) (list_all is_digit ds) all in
    let apart = digit_apart d first.0 in
    record {
      digit = first.0;
      no_dot_or_dash = apart.0;
      no_v = apart.1;
      no_small_v = apart.2;
      reads = rw is.value (number_again most (d ∷ ds) rest all (omega arith) is.short stops);
    }

-- ---- parts

pub part_again : (piece rest : List ℕ) (n : ℕ) → IsPart piece n → begins_with_digit rest ≡ false → part_at (piece ++ rest) ≡ Ok (Some n, rest)
unfolding part_at
part_again piece rest n is stops =
    let number = reads_number 18 is.0 rest n is.2 stops in
    rw (is.1, number.digit, number.reads) refl

pub part_dot : (piece : List ℕ) (n : ℕ) → IsPart piece n → begins_with_digit piece ≡ false
part_dot piece n is = rw is.1 refl

wild_apart : (byte : ℕ) → is_wildcard byte ≡ true → is_digit byte ≡ false
wild_apart byte e = grind (arith, nat_tests)

digit_not_wild : (d : ℕ) → is_digit d ≡ true → is_wildcard d ≡ false
digit_not_wild d e = grind (arith, nat_tests)

numbered_part_again : (digits rest : List ℕ) (n : ℕ) → IsNumber 18 digits n → begins_with_digit rest ≡ false → branch_part_at ((46 ∷ digits) ++ rest) ≡ Ok (Some n, rest)
unfolding branch_part_at
numbered_part_again [] rest n is stops = absurd (let h = is.digits in cc)
numbered_part_again (d ∷ ds) rest n is stops =
    let first = both_true (is_digit d) (list_all is_digit ds) is.digits in
    rw (digit_not_wild d first.0) (part_again (46 ∷ d ∷ ds) rest n (d ∷ ds, refl, is) stops)

pub branch_part_again : (piece rest : List ℕ) (n : ℕ) → IsBranchPart piece n → begins_with_digit rest ≡ false → branch_part_at (piece ++ rest) ≡ Ok (Some n, rest)
unfolding branch_part_at
branch_part_again piece rest n (inl is) stops = rw is.1 (numbered_part_again is.0 rest n is.2 stops)
branch_part_again piece rest n (inr is) stops = rw (is.1, is.2, is.3) refl

pub branch_part_dot : (piece : List ℕ) (n : ℕ) → IsBranchPart piece n → begins_with_digit piece ≡ false
branch_part_dot piece n (inl is) = rw is.1 refl
branch_part_dot piece n (inr is) = rw is.1 refl

-- no part is left where no digit follows an optional separator
pub no_part : (text : List ℕ) → begins_with_digit (without_first is_separator text) ≡ false → part_at text ≡ Ok (None, text)
unfolding part_at
no_part [] e = refl
no_part (b ∷ bs) e = by (b == 46) (b == 95) (b == 45) e
  where
    by : (dot low dash : Bool) → begins_with_digit (cond (dot || low || dash) bs (b ∷ bs)) ≡ false
        → cond (dot && begins_with_digit bs) (number_at 18 bs >>= λ (number : ℕ × List ℕ). let x : Option ℕ × List ℕ = (Some number.0, number.1) in Ok x) (let x : Option ℕ × List ℕ = (None, b ∷ bs) in Ok x) ≡ Ok (None, b ∷ bs)
    by true low dash h = rw h refl
    by false low dash h = refl

-- ---- the numbers of a version: any reading of parts that reads a piece back

module _ (part : List ℕ → Reading (Option ℕ)) (IsPiece : List ℕ → ℕ → Type 0) (again : (piece rest : List ℕ) (n : ℕ) → IsPiece piece n → begins_with_digit rest ≡ false → part (piece ++ rest) ≡ Ok (Some n, rest))
    (dot : (piece : List ℕ) (n : ℕ) → IsPiece piece n → begins_with_digit piece ≡ false) where
  pub row_stops : (parts : List ℕ) (ns : List ℕ) → IsRow IsPiece parts ns → begins_with_digit parts ≡ false
  row_stops parts [] row = rw row refl
  row_stops parts (n ∷ ns) row = rw row.2 (digit-append row.0 row.1 (dot row.0 n row.3) row.4)

  row_step : (parts rest : List ℕ) (n : ℕ) (ns : List ℕ) (row : IsRow IsPiece parts (n ∷ ns)) → begins_with_digit rest ≡ false → part (parts ++ rest) ≡ Ok (Some n, row.1 ++ rest)
  row_step parts rest n ns row stops = rw (row.2, append_assoc) (again row.0 (row.1 ++ rest) n row.3 (digit-append row.1 rest row.4 stops))

  row_end : (parts rest : List ℕ) → IsRow IsPiece parts [] → parts ++ rest ≡ rest
  row_end parts rest row = rw row refl

  pub numbers_again : (most missing : ℕ) (number parts rest : List ℕ) (first : ℕ) (others : List ℕ) → IsNumber most number first → IsRow IsPiece parts others → length others ≤ 3
      → begins_with_digit rest ≡ false → part rest ≡ Ok (None, rest) → version_numbers_at most part missing (number ++ (parts ++ rest)) ≡ Ok (four_of missing first others, rest)
  unfolding version_numbers_at
  numbers_again most missing number parts rest first [] is row few stops none =
      let n = reads_number most number (parts ++ rest) first is (digit-append parts rest (row_stops parts [] row) stops) in
      rw (n.reads, row_end parts rest row, none, none, none) refl
  numbers_again most missing number parts rest first (a ∷ []) is row few stops none =
      let n = reads_number most number (parts ++ rest) first is (digit-append parts rest (row_stops parts (a ∷ []) row) stops) in
      rw (n.reads, row_step parts rest a [] row stops, row_end row.1 rest row.5, none, none) refl
  numbers_again most missing number parts rest first (a ∷ b ∷ []) is row few stops none =
      let n = reads_number most number (parts ++ rest) first is (digit-append parts rest (row_stops parts (a ∷ b ∷ []) row) stops) in
      rw (n.reads, row_step parts rest a (b ∷ []) row stops, row_step row.1 rest b [] row.5 stops, row_end row.5.1 rest row.5.5, none) refl
  numbers_again most missing number parts rest first (a ∷ b ∷ c ∷ []) is row few stops none =
      let n = reads_number most number (parts ++ rest) first is (digit-append parts rest (row_stops parts (a ∷ b ∷ c ∷ []) row) stops) in
      rw (n.reads, row_step parts rest a (b ∷ c ∷ []) row stops, row_step row.1 rest b (c ∷ []) row.5 stops, row_step row.5.1 rest c [] row.5.5 stops, row_end row.5.5.1 rest row.5.5.5) refl
  numbers_again most missing number parts rest first (a ∷ b ∷ c ∷ d ∷ ds) is row few stops none = absurd (omega arith)

-- ---- a dev mark

-- What a dev mark looks like to the readings before it.
pub record IsTail (text : List ℕ) : Type 0 where
  pub no_digit : begins_with_digit text ≡ false
  pub no_number : begins_with_digit (without_first is_dot_or_dash text) ≡ false
  pub no_digit_behind : begins_with_digit (without_first is_separator text) ≡ false
  pub no_word : first_word all_words (without_first is_separator text) ≡ None
  pub ends_word : EndsWord text

separator_apart : (s : ℕ) → is_separator s ≡ true → (is_digit s ≡ false) × ((lower s == 97) ≡ false) × ((lower s == 101) ≡ false) × ((lower s == 108) ≡ false)
separator_apart s e = (grind (arith, nat_tests), grind (arith, nat_tests), grind (arith, nat_tests), grind (arith, nat_tests))

letter_not_first : (text : List ℕ) (start : StartsWithLetter text) → (begins_with_digit text ≡ false) × (first_passes is_separator text ≡ false) × (first_passes is_dot_or_dash text ≡ false)
letter_not_first text start = (rw (start.is) start.letter.no_digit, rw (start.is) start.letter.no_separator, rw (start.is) start.letter.no_dot_or_dash)

dev_ends : (word : List ℕ) → lowered word ≡ codes "dev" → EndsWord word
dev_ends word e = let s = starts 100 (codes "ev") word e in record { no_a = rw (s.is, s.low) refl; no_e = rw (s.is, s.low) refl; no_l = rw (s.is, s.low) refl }

word_alone : (p : ℕ → Bool) (text : List ℕ) → first_passes p text ≡ false → without_first p text ≡ text
word_alone p [] e = refl
word_alone p (b ∷ bs) e = rw e refl

-- behind one separator, whether the reading cuts it or not
after_one : (s : ℕ) (word : List ℕ) → is_separator s ≡ true → begins_with_digit word ≡ false → begins_with_digit (without_first is_dot_or_dash (s ∷ word)) ≡ false
after_one s word e stops = elim (is_dot_or_dash s) as (λ t. begins_with_digit (cond t word (s ∷ word)) ≡ false) [ true ↦ stops | false ↦ (separator_apart s e).0 ]

pub marked_tail : (separator word : List ℕ) → IsOptional is_separator separator → lowered word ≡ codes "dev" → IsTail (separator ++ word)
marked_tail [] word o e =
    let start = dev_first word e in
    let apart = letter_not_first word start in
    record {
      no_digit = apart.0;
      no_number = rw (word_alone is_dot_or_dash word apart.2) apart.0;
      no_digit_behind = rw (word_alone is_separator word apart.1) apart.0;
      no_word = rw (word_alone is_separator word apart.1) (first_word-dev word e);
      ends_word = dev_ends word e;
    }
marked_tail (s ∷ []) word o e =
    let start = dev_first word e in
    let apart = letter_not_first word start in
    let separate = separator_apart s o in
    record {
      no_digit = separate.0;
      no_number = after_one s word o apart.0;
      no_digit_behind = rw o apart.0;
      no_word = rw o (first_word-dev word e);
      ends_word = record { no_a = separate.1; no_e = separate.2; no_l = separate.3 };
    }
marked_tail (s ∷ t ∷ ts) word o e = absurd o

pub dev_tail : (text : List ℕ) (marked : Bool) → IsDevMark text marked → IsTail text
dev_tail text false is = rw is (record { no_digit = refl; no_number = refl; no_digit_behind = refl; no_word = refl; ends_word = record { no_a = refl; no_e = refl; no_l = refl } })
dev_tail text true is = rw is.2 (marked_tail is.0 is.1 is.3 is.4)

is_dev_word : (word : List ℕ) → lowered word ≡ codes "dev" → is_dev word ≡ true
is_dev_word word e = rw e refl

pub dev_again : (text : List ℕ) (marked : Bool) → IsDevMark text marked → dev_at_end text ≡ Ok marked
unfolding dev_at_end
dev_again text false is = rw is refl
dev_again text true is = rw is.2 (by is.0 is.1 is.3 is.4)
  where
    by : (separator word : List ℕ) → IsOptional is_separator separator → lowered word ≡ codes "dev" → dev_at_end (separator ++ word) ≡ Ok true
    by [] [] o e = absurd cc
    by [] (b ∷ bs) o e =
        let low : lower b ≡ 100 = cc in
        let letter = letter_is b 100 low (lit≤ tt) (lit≤ tt) in
        rw (letter.no_separator, is_dev_word (b ∷ bs) e) refl
    by (s ∷ []) word o e = rw (o, is_dev_word word e) refl
    by (s ∷ t ∷ ts) word o e = absurd o

-- ---- a modifier

following_piece : (piece rest : List ℕ) (n : ℕ) → IsFollowing piece n → begins_with_digit rest ≡ false
    → (begins_with_digit (without_first is_dot_or_dash (piece ++ rest)) ≡ true) × (number_at 18 (without_first is_dot_or_dash (piece ++ rest)) ≡ Ok (n, rest))
following_piece piece rest n is stops =
    let number = reads_number 18 is.1 rest n is.4 stops in
    let cut : without_first is_dot_or_dash (piece ++ rest) ≡ is.1 ++ rest = rw (is.2, append_assoc) (without_optional is_dot_or_dash is.0 (is.1 ++ rest) is.3 number.no_dot_or_dash) in
    (rw cut number.digit, rw cut number.reads)

pub following_again : (numbers rest : List ℕ) (ns : List ℕ) → IsRow IsFollowing numbers ns → begins_with_digit rest ≡ false → begins_with_digit (without_first is_dot_or_dash rest) ≡ false
    → following_at (numbers ++ rest) ≡ Ok (ns, rest)
following_again numbers rest [] row stops ends = rw row (no_number rest ends)
following_again numbers rest (n ∷ ns) row stops ends =
    let piece = following_piece row.0 (row.1 ++ rest) n row.3 (digit-append row.1 rest row.4 stops) in
    let first = one_number (row.0 ++ (row.1 ++ rest)) (row.1 ++ rest) n piece.0 piece.1 in
    let others = following_again row.1 rest ns row.5 stops ends in
    rw (row.2, append_assoc) (first ∙ ap (with_front (n ∷ [])) others)

-- what begins no longer word, if the text goes on so
ends_word-append : (text rest : List ℕ) → EndsWord text → EndsWord rest → EndsWord (text ++ rest)
ends_word-append text rest first second = record {
  no_a = first_passes-append (λ b. lower b == 97) text rest first.no_a second.no_a;
  no_e = first_passes-append (λ b. lower b == 101) text rest first.no_e second.no_e;
  no_l = first_passes-append (λ b. lower b == 108) text rest first.no_l second.no_l;
}

digit_ends : (d : ℕ) (ds : List ℕ) → is_digit d ≡ true → EndsWord (d ∷ ds)
digit_ends d ds e = record { no_a = grind (arith, nat_tests); no_e = grind (arith, nat_tests); no_l = grind (arith, nat_tests) }

dot_or_dash_ends : (s : ℕ) (rest : List ℕ) → is_dot_or_dash s ≡ true → EndsWord (s ∷ rest)
dot_or_dash_ends s rest e = record { no_a = grind (arith, nat_tests); no_e = grind (arith, nat_tests); no_l = grind (arith, nat_tests) }

number_ends : (digits : List ℕ) (n : ℕ) → IsNumber 18 digits n → EndsWord digits
number_ends [] n is = absurd (let h = is.digits in cc)
number_ends (d ∷ ds) n is = digit_ends d ds (both_true (is_digit d) (list_all is_digit ds) is.digits).0

piece_ends : (separator digits : List ℕ) (n : ℕ) → IsOptional is_dot_or_dash separator → IsNumber 18 digits n → EndsWord (separator ++ digits)
piece_ends [] digits n o is = number_ends digits n is
piece_ends (s ∷ []) digits n o is = dot_or_dash_ends s digits o
piece_ends (s ∷ t ∷ ts) digits n o is = absurd o

row_ends : (numbers rest : List ℕ) (ns : List ℕ) → IsRow IsFollowing numbers ns → EndsWord rest → EndsWord (numbers ++ rest)
row_ends numbers rest [] row ends = rw row ends
row_ends numbers rest (n ∷ ns) row ends =
    let piece : EndsWord row.0 = rw row.3.2 (piece_ends row.3.0 row.3.1 n row.3.3 row.3.4) in
    rw (row.2, append_assoc) (ends_word-append row.0 (row.1 ++ rest) piece (row_ends row.1 rest ns row.5 ends))

-- What a modifier and the dev mark behind it look like to the readings before them.
pub record ReadsSuffix (text rest : List ℕ) (suffix : Option Suffix) : Type 0 where
  pub no_digit : begins_with_digit text ≡ false
  pub no_part_here : part_at text ≡ Ok (None, text)
  pub reads : suffix_at text ≡ Ok (suffix, rest)

separated : (separator word tail : List ℕ) → IsOptional is_separator separator → StartsWithLetter word → begins_with_digit (separator ++ (word ++ tail)) ≡ false
separated [] word tail o start = rw start.is start.letter.no_digit
separated (s ∷ []) word tail o start = (separator_apart s o).0
separated (s ∷ t ∷ ts) word tail o start = absurd o

pub suffix_again : (modifier rest : List ℕ) (suffix : Option Suffix) → IsModifier modifier suffix → IsTail rest → ReadsSuffix (modifier ++ rest) rest suffix
unfolding suffix_at suffix_of
suffix_again modifier rest None is tail =
    rw is (record { no_digit = tail.no_digit; no_part_here = no_part rest tail.no_digit_behind; reads = rw tail.no_word refl })
suffix_again modifier rest (Some suffix) is tail =
    let start = word_first is.1 suffix.0 is.5 in
    let regrouped : modifier ++ rest ≡ is.0 ++ (is.1 ++ (is.2 ++ rest)) = rw (is.3, append_assoc, append_assoc) refl in
    let first : first_passes is_separator (is.1 ++ (is.2 ++ rest)) ≡ false = rw start.is start.letter.no_separator in
    let cut : without_first is_separator (is.0 ++ (is.1 ++ (is.2 ++ rest))) ≡ is.1 ++ (is.2 ++ rest) = without_optional is_separator is.0 (is.1 ++ (is.2 ++ rest)) is.4 first in
    let no_digit : begins_with_digit (is.1 ++ (is.2 ++ rest)) ≡ false = rw start.is start.letter.no_digit in
    let word = first_word_again is.1 (is.2 ++ rest) suffix.0 is.5 (row_ends is.2 rest suffix.1 is.6 tail.ends_word) in
    let numbers = following_again is.2 rest suffix.1 is.6 tail.no_digit tail.no_number in
    rw regrouped (record {
      no_digit = separated is.0 is.1 (is.2 ++ rest) is.4 start;
      no_part_here = no_part (is.0 ++ (is.1 ++ (is.2 ++ rest))) (rw cut no_digit);
      reads = rw (cut, word, numbers) refl;
    })

-- ---- the two rules

pub classical_again : (text : List ℕ) (version : Numbered) → IsClassical text version → classical_of text ≡ Ok version
unfolding classical_of
classical_again text version is =
    let tail = dev_tail is.dev is.has_dev is.dev_is in
    let suffix = suffix_again is.modifier is.dev is.suffix is.modifier_is tail in
    let numbers = numbers_again part_at IsPart part_again part_dot 5 0 is.number is.parts (is.modifier ++ is.dev) is.first is.others is.number_is is.parts_are is.at_most_three suffix.no_digit suffix.no_part_here in
    let stops : begins_with_digit (is.parts ++ (is.modifier ++ is.dev)) ≡ false = digit-append is.parts (is.modifier ++ is.dev) (row_stops part_at IsPart part_again part_dot is.parts is.others is.parts_are) suffix.no_digit in
    let number = reads_number 5 is.number (is.parts ++ (is.modifier ++ is.dev)) is.first is.number_is stops in
    let cut = without_optional is_any_v is.mark (is.number ++ (is.parts ++ (is.modifier ++ is.dev))) is.mark_is number.no_v in
    rw (is.whole, cut, numbers, suffix.reads, dev_again is.dev is.has_dev is.dev_is, is.version_is) refl

not_wild : (b : ℕ) → lower b ≡ 100 → is_wildcard b ≡ false
not_wild b e = grind (arith, nat_tests)

not_both : (a : Bool) → (a && false) ≡ false
not_both true = refl
not_both false = refl

dot_or_dash_separates : (s : ℕ) → is_dot_or_dash s ≡ true → is_separator s ≡ true
dot_or_dash_separates s e = grind (arith, nat_tests)

-- What the end of a numbered branch looks like to the readings before it.
record IsBranchEnd (text dev : List ℕ) : Type 0 where
  no_digit : begins_with_digit text ≡ false
  no_part_here : branch_part_at text ≡ Ok (None, text)
  cut : without_first is_dot_or_dash text ≡ dev

branch_end : (separator dev : List ℕ) → IsOptional is_dot_or_dash separator → lowered dev ≡ codes "dev" → IsBranchEnd (separator ++ dev) dev
unfolding branch_part_at part_at
branch_end [] [] o e = absurd cc
branch_end [] (b ∷ []) o e = absurd cc
branch_end [] (b ∷ c ∷ cs) o e =
    let low : lower b ≡ 100 = cc in
    let letter = letter_is b 100 low (lit≤ tt) (lit≤ tt) in
    record { no_digit = letter.no_digit; no_part_here = rw letter.no_dot refl; cut = rw letter.no_dot_or_dash refl }
branch_end (s ∷ []) [] o e = absurd cc
branch_end (s ∷ []) (b ∷ bs) o e =
    let low : lower b ≡ 100 = cc in
    let letter = letter_is b 100 low (lit≤ tt) (lit≤ tt) in
    let separates = dot_or_dash_separates s o in
    record {
      no_digit = (separator_apart s separates).0;
      no_part_here = rw (not_wild b low, not_both (s == 46)) (no_part (s ∷ b ∷ bs) (rw separates letter.no_digit));
      cut = rw o refl;
    }
branch_end (s ∷ t ∷ ts) dev o e = absurd o

pub numbered_branch_again : (text : List ℕ) (version : Numbered) → IsNumberedBranch text version → numbered_branch_of text ≡ Ok version
unfolding numbered_branch_of
numbered_branch_again text version is =
    let end = branch_end is.separator is.dev is.separator_is is.dev_is in
    let numbers = numbers_again branch_part_at IsBranchPart branch_part_again branch_part_dot 18 anything is.number is.parts (is.separator ++ is.dev) is.first is.others is.number_is is.parts_are is.at_most_three end.no_digit end.no_part_here in
    let stops : begins_with_digit (is.parts ++ (is.separator ++ is.dev)) ≡ false = digit-append is.parts (is.separator ++ is.dev) (row_stops branch_part_at IsBranchPart branch_part_again branch_part_dot is.parts is.others is.parts_are) end.no_digit in
    let number = reads_number 18 is.number (is.parts ++ (is.separator ++ is.dev)) is.first is.number_is stops in
    let cut = without_optional is_small_v is.mark (is.number ++ (is.parts ++ (is.separator ++ is.dev))) is.mark_is number.no_small_v in
    rw (is.whole, cut, numbers, end.cut, is_dev_word is.dev is.dev_is, is.version_is) refl
