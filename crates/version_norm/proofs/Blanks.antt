-- What is left of a text without the blanks at its ends.
use Rattle.std.proofs.Common.{◌≡◌, ℕ, suc, ◌+◌, ◌-◌, Bool, true, false, List, [], ◌∷◌, ◌++◌, length, get_or, refl, ap, sym, subst, ◌∙◌, arith}
use Rattle.std.specs.List.{prefix_len, suffix_len, list_all}
use Rattle.std.proofs.Math.Numerals.{one-add}
use Rattle.std.proofs.lemmas.List.{take_at, drop_at, drop_all, length-append, get_or_append_left, get_or-append_right}
use Rattle.std.proofs.lemmas.List.Sums.{AllPass-from_list_all, suffix_len_is}
use Rattle.std.proofs.lemmas.List.Folds.{list_all-append}
use Rattle.path_name.specs.Bytes.{is_blank}
use Rattle.version_norm.specs.Versions.{without_blanks_before, without_blanks_after, trimmed}
use Rattle.version_norm.specs.Rules.{IsTrimmed}
use Rattle.version_norm.proofs.Digits.{both_true}
use Rattle.version_norm.proofs.Plain.{all_of_it}

blanks_before : (before : List ℕ) (m : ℕ) (rest : List ℕ) → list_all is_blank before ≡ true → is_blank m ≡ false → prefix_len is_blank (before ++ m ∷ rest) ≡ length before
blanks_before [] m rest all stop = rw stop refl
blanks_before (b ∷ bs) m rest all stop =
    let both = both_true (is_blank b) (list_all is_blank bs) all in
    rw (both.0, one-add) (ap suc (blanks_before bs m rest both.1 stop))

blanks_after : (m : ℕ) (ms after : List ℕ) → list_all is_blank after ≡ true → is_blank (get_or (m ∷ ms) (length (m ∷ ms) - 1) 0) ≡ false → without_blanks_after ((m ∷ ms) ++ after) ≡ m ∷ ms
blanks_after m ms after all last =
    let text : List ℕ = (m ∷ ms) ++ after in
    let n : ℕ = length (m ∷ ms) in
    let long : length text ≡ n + length after = length-append (m ∷ ms) after in
    let behind : suffix_len is_blank text ≡ length text - n = suffix_len_is is_blank text n 0 (omega arith)
    (λ k from within. rw (get_or-append_right (m ∷ ms) after n k 0 refl from) (AllPass-from_list_all is_blank after all (k - n) 0 (omega arith)))
    (λ some. rw (get_or_append_left (m ∷ ms) after 0 (n - 1) (omega arith)) last) in
    let kept : length text - suffix_len is_blank text ≡ n = omega arith in
    rw kept (take_at (m ∷ ms) after n refl)

all_blank : (text : List ℕ) → list_all is_blank text ≡ true → trimmed text ≡ []
all_blank text all = rw (all_of_it is_blank text all, drop_all (length text) text (omega arith)) refl

trimmed_middle : (before middle after : List ℕ) → list_all is_blank before ≡ true → list_all is_blank after ≡ true → is_blank (get_or middle 0 0) ≡ false → is_blank (get_or middle (length middle - 1) 0) ≡ false
    → trimmed (before ++ (middle ++ after)) ≡ middle
trimmed_middle before [] after all_before all_after first last = all_blank (before ++ after) (list_all-append is_blank before after ∙ rw (all_before, all_after) refl)
trimmed_middle before (m ∷ ms) after all_before all_after first last =
    let front = blanks_before before m (ms ++ after) all_before first in
    let kept : without_blanks_before (before ++ ((m ∷ ms) ++ after)) ≡ (m ∷ ms) ++ after = rw front (drop_at before ((m ∷ ms) ++ after) (length before) refl) in
    rw kept (blanks_after m ms after all_after last)

pub trimmed_again : (text middle : List ℕ) → IsTrimmed text middle → trimmed text ≡ middle
trimmed_again text middle is = rw is.whole (trimmed_middle is.before middle is.after is.blank_before is.blank_after is.first is.last)

-- ---- each text has such a middle

-- What stands behind the blanks at the front.
record SplitFront (text : List ℕ) : Type 0 where
  before : List ℕ
  rest : List ℕ
  whole : text ≡ before ++ rest
  blank : list_all is_blank before ≡ true
  first : is_blank (get_or rest 0 0) ≡ false

split_front : (text : List ℕ) → SplitFront text
split_front [] = record { before = []; rest = []; whole = refl; blank = refl; first = refl }
split_front (b ∷ bs) = by (is_blank b) refl (split_front bs)
  where
    by : (t : Bool) → is_blank b ≡ t → SplitFront bs → SplitFront (b ∷ bs)
    by true e more = record { before = b ∷ more.before; rest = more.rest; whole = ap (λ (x : List ℕ). b ∷ x) more.whole; blank = rw (e, more.blank) refl; first = more.first }
    by false e more = record { before = []; rest = b ∷ bs; whole = refl; blank = refl; first = e }

-- What stands before the blanks at the end.
record SplitEnd (text : List ℕ) : Type 0 where
  middle : List ℕ
  after : List ℕ
  whole : text ≡ middle ++ after
  blank : list_all is_blank after ≡ true
  last : is_blank (get_or middle (length middle - 1) 0) ≡ false

split_end : (text : List ℕ) → SplitEnd text
split_end [] = record { middle = []; after = []; whole = refl; blank = refl; last = refl }
split_end (b ∷ bs) = let more = split_end bs in by more.middle more.after more.whole more.blank more.last (is_blank b) refl
  where
    by : (middle after : List ℕ) → bs ≡ middle ++ after → list_all is_blank after ≡ true → is_blank (get_or middle (length middle - 1) 0) ≡ false → (t : Bool) → is_blank b ≡ t → SplitEnd (b ∷ bs)
    by [] after whole blank last true e = record { middle = []; after = b ∷ after; whole = ap (λ (x : List ℕ). b ∷ x) whole; blank = rw (e, blank) refl; last = refl }
    by [] after whole blank last false e = record { middle = b ∷ []; after = after; whole = ap (λ (x : List ℕ). b ∷ x) whole; blank = blank; last = e }
    by (m ∷ ms) after whole blank last t e =
        let longer : length (b ∷ m ∷ ms) - 1 ≡ suc (length ms) = omega arith in
        let shorter : length (m ∷ ms) - 1 ≡ length ms = omega arith in
        record { middle = b ∷ m ∷ ms; after = after; whole = ap (λ (x : List ℕ). b ∷ x) whole; blank = blank; last = rw longer (rw shorter at last) }

trimmed_middle_of : (text : List ℕ) → (middle : List ℕ) × IsTrimmed text middle
trimmed_middle_of text =
    let front = split_front text in
    let end = split_end front.rest in (
      end.middle,
      record {
        before = front.before;
        after = end.after;
        whole = front.whole ∙ ap (λ (x : List ℕ). front.before ++ x) end.whole;
        blank_before = front.blank;
        blank_after = end.blank;
        first = by end.middle end.after front.rest end.whole front.first;
        last = end.last;
      },
    )
  where
    by : (middle after rest : List ℕ) → rest ≡ middle ++ after → is_blank (get_or rest 0 0) ≡ false → is_blank (get_or middle 0 0) ≡ false
    by [] after rest whole first = refl
    by (m ∷ ms) after rest whole first = rw whole at first

pub trimmed_left : (text : List ℕ) → IsTrimmed text (trimmed text)
trimmed_left text =
    let some = trimmed_middle_of text in
    subst (λ (middle : List ℕ). IsTrimmed text middle) (sym (trimmed_again text some.0 some.1)) some.1
