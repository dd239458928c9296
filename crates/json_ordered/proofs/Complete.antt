-- What is in the grammar is accepted, with its value.
use Rattle.std.proofs.Common.{◌≡◌, ℕ, suc, Bool, true, false, ◌&&◌, ◌||◌, eqb, leb, lit<, ◌<◌, ◌≤◌, ◌⊎◌, inl, inr, List, [], ◌∷◌, ◌++◌, length, Option, Some, None, Ok, Err, refl, sym, ap, subst, ◌∙◌, append_assoc, arith}
use Rattle.std.specs.Prelude.{not}
use Rattle.std.specs.List.{list_all}
use Rattle.std.specs.Char.{digit_value, encode_utf8}
use Rattle.std.specs.Char.Utf16.{is_high_surrogate, is_low_surrogate, surrogate_pair_char}
use Rattle.std.proofs.lemmas.Bool.{eqb-true, ltb-true}
use Rattle.std.proofs.lemmas.Bool.Decides.{nat_tests}
use Rattle.std.proofs.lemmas.List.{append-nil}
use Rattle.path_name.specs.Bytes.{is_blank, is_digit, is_between}
use Rattle.json_ordered.specs.JsonTree.{JsonTree, Null, Boolean, Number, array_of, object_of, put, put_all}
use Rattle.json_ordered.specs.Json.{IsBlanks, IsDigits, IsMinus, IsInt, IsSomeDigits, IsFrac, IsSign, IsExp, IsNumber, is_e, is_sign, IsChars, no_chars, plain, escape, unit, pair, IsValue, null, true_word, false_word, number, string, empty_array, array, empty_object, object, IsMoreItems, last_item, next_item, IsMember, named, IsMoreMembers, last_member, next_member, IsJsonOf, Quad, is_hex, is_quad, is_plain, escaped, unit_of}
use Rattle.json_ordered.specs.declared.number.Part.{Part}
use Rattle.json_ordered.specs.declared.number.Part.TheVariants.{Minus, Zero, Int, Point, Frac, E, Sign, Exp}
use Rattle.json_ordered.specs.JsonReading.{Frame, In_array, In_object, Piece, Plain, Slash, Unit0, Unit1, Unit2, Unit3, High, High_slash, Low0, Low1, Low2, Low3, Purpose, As_value, As_name, Place, Before_value, After_open_array, After_open_object, Before_name, After_name, After_value, In_word, In_number, In_string, State, Next, Go, Wrong, part_after, may_end, after_string, in_number, after_value, step_at, step, whole_value, Syntax_with, ended, goes_on, read_from, start}
use Rattle.json_ordered.specs.JsonSteps.{at}
use Rattle.json_ordered.proofs.Units.{second_of_high, second_of_other, digits_of_low}

pub one_byte : (levels : ℕ) (stack : List Frame) (place : Place) (t : State) (byte : ℕ) (rest : List ℕ) → step_at levels stack place byte ≡ Go t → read_from (at levels stack place) (byte ∷ rest) ≡ read_from t rest
unfolding read_from step
one_byte levels stack place t byte rest e = ap (λ (n : Next). goes_on n (suc (length rest)) (λ u. read_from u rest)) e

and_parts : (b c : Bool) → b && c ≡ true → (b ≡ true) × (c ≡ true)
and_parts true c h = (refl, h)
and_parts false c h = absurd cc

-- ---- blanks

pub skip : (levels : ℕ) (stack : List Frame) (place : Place) → ((byte : ℕ) → is_blank byte ≡ true → step_at levels stack place byte ≡ Go (at levels stack place))
    → (blanks rest : List ℕ) → IsBlanks blanks → read_from (at levels stack place) (blanks ++ rest) ≡ read_from (at levels stack place) rest
skip levels stack place stays [] rest h = refl
skip levels stack place stays (b ∷ blanks) rest h =
    let parts = and_parts (is_blank b) (list_all is_blank blanks) h in
    one_byte levels stack place (at levels stack place) b (blanks ++ rest) (stays b parts.0) ∙ skip levels stack place stays blanks rest parts.1

pub stays_before_value : (levels : ℕ) (stack : List Frame) (byte : ℕ) → is_blank byte ≡ true → step_at levels stack Before_value byte ≡ Go (at levels stack Before_value)
stays_before_value levels stack byte k = rw k refl

pub stays_open_array : (levels : ℕ) (stack : List Frame) (byte : ℕ) → is_blank byte ≡ true → step_at levels stack After_open_array byte ≡ Go (at levels stack After_open_array)
stays_open_array levels stack byte k = rw k refl

pub stays_open_object : (levels : ℕ) (stack : List Frame) (byte : ℕ) → is_blank byte ≡ true → step_at levels stack After_open_object byte ≡ Go (at levels stack After_open_object)
stays_open_object levels stack byte k = rw k refl

pub stays_before_name : (levels : ℕ) (stack : List Frame) (done : List (List ℕ × JsonTree)) (byte : ℕ) → is_blank byte ≡ true → step_at levels stack (Before_name done) byte ≡ Go (at levels stack (Before_name done))
stays_before_name levels stack done byte k = rw k refl

pub stays_after_name : (levels : ℕ) (stack : List Frame) (done : List (List ℕ × JsonTree)) (name : List ℕ) (byte : ℕ) → is_blank byte ≡ true → step_at levels stack (After_name done name) byte ≡ Go (at levels stack (After_name done name))
stays_after_name levels stack done name byte k = rw k refl

pub stays_after_value : (levels : ℕ) (stack : List Frame) (v : JsonTree) (byte : ℕ) → is_blank byte ≡ true → step_at levels stack (After_value v) byte ≡ Go (at levels stack (After_value v))
stays_after_value levels stack v byte k = rw k refl

-- ---- numbers

-- what may stand behind a value
abbrev pub is_end : ℕ → Bool
is_end byte = is_blank byte || (eqb byte 44 || (eqb byte 93 || eqb byte 125))

abbrev pub Ends : List ℕ → Type 0
Ends [] = Unit {0}
Ends (byte ∷ rest) = is_end byte ≡ true

end_no_digit : (byte : ℕ) → is_end byte ≡ true → is_digit byte ≡ false
end_no_digit byte h = grind (arith, nat_tests)

end_no_point : (byte : ℕ) → is_end byte ≡ true → eqb byte 46 ≡ false
end_no_point byte h = grind (arith, nat_tests)

end_no_e : (byte : ℕ) → is_end byte ≡ true → is_e byte ≡ false
end_no_e byte h = grind (arith, nat_tests)

no_part : (part : Part) (byte : ℕ) → may_end part ≡ true → is_end byte ≡ true → part_after part byte ≡ None
no_part Minus byte m h = absurd cc
no_part Zero byte m h = rw (end_no_point byte h, end_no_e byte h) refl
no_part Int byte m h = rw (end_no_digit byte h, end_no_point byte h, end_no_e byte h) refl
no_part Point byte m h = absurd cc
no_part Frac byte m h = rw (end_no_digit byte h, end_no_e byte h) refl
no_part E byte m h = absurd cc
no_part Sign byte m h = absurd cc
no_part Exp byte m h = rw (end_no_digit byte h) refl

module _ (levels : ℕ) (stack : List Frame) where
  number_stops : (b : Bool) (text : List ℕ) (byte : ℕ) (o : Option Part) → b ≡ true → o ≡ None → in_number levels stack b text byte o ≡ after_value levels stack (Number text) byte
  number_stops true text byte None e f = refl
  number_stops true text byte (Some part) e f = absurd cc
  number_stops false text byte o e f = absurd cc

  number_step : (b : Bool) (text : List ℕ) (byte : ℕ) (part : Part) (o : Option Part) → o ≡ Some part → in_number levels stack b text byte o ≡ Go (at levels stack (In_number part (text ++ byte ∷ [])))
  number_step true text byte part o e = ap (in_number levels stack true text byte) e
  number_step false text byte part o e = ap (in_number levels stack false text byte) e

number_whole : (levels : ℕ) (stack : List Frame) (part : Part) (text : List ℕ) → may_end part ≡ true → whole_value stack (In_number part text) ≡ whole_value stack (After_value (Number text))
number_whole levels [] part text m = rw m refl
number_whole levels (frame ∷ stack) part text m = refl

-- the number doesn't go on
abbrev pub Stops : Part → List ℕ → Type 0
Stops part [] = Unit {0}
Stops part (byte ∷ rest) = part_after part byte ≡ None

pub number_ended : (levels : ℕ) (stack : List Frame) (part : Part) (text rest : List ℕ) → may_end part ≡ true → Stops part rest → read_from (at levels stack (In_number part text)) rest ≡ read_from (at levels stack (After_value (Number text))) rest
unfolding read_from step
number_ended levels stack part text [] m h = ap ended (number_whole levels stack part text m)
number_ended levels stack part text (byte ∷ rest) m h = ap (λ (n : Next). goes_on n (suc (length rest)) (λ u. read_from u rest)) (number_stops levels stack (may_end part) text byte (part_after part byte) m h)

ends_stops : (part : Part) (rest : List ℕ) → may_end part ≡ true → Ends rest → Stops part rest
ends_stops part [] m h = tt
ends_stops part (byte ∷ rest) m h = no_part part byte m h

pub number_done : (levels : ℕ) (stack : List Frame) (part : Part) (text rest : List ℕ) → may_end part ≡ true → Ends rest → read_from (at levels stack (In_number part text)) rest ≡ read_from (at levels stack (After_value (Number text))) rest
number_done levels stack part text rest m h = number_ended levels stack part text rest m (ends_stops part rest m h)

number_stopped : (levels : ℕ) (stack : List Frame) (b : Bool) (text : List ℕ) (byte : ℕ) (o : Option Part) → b ≡ false → o ≡ None → in_number levels stack b text byte o ≡ Wrong
number_stopped levels stack true text byte o e f = absurd cc
number_stopped levels stack false text byte None e f = refl
number_stopped levels stack false text byte (Some part) e f = absurd cc

number_unended : (stack : List Frame) (part : Part) (text : List ℕ) → may_end part ≡ false → whole_value stack (In_number part text) ≡ None
number_unended [] part text m = rw m refl
number_unended (frame ∷ stack) part text m = refl

-- a number that may not end so
pub number_breaks : (levels : ℕ) (stack : List Frame) (part : Part) (text rest : List ℕ) → may_end part ≡ false → Stops part rest → read_from (at levels stack (In_number part text)) rest ≡ Err (Syntax_with (length rest))
unfolding read_from step
number_breaks levels stack part text [] m h = ap ended (number_unended stack part text m)
number_breaks levels stack part text (byte ∷ rest) m h = ap (λ (n : Next). goes_on n (suc (length rest)) (λ u. read_from u rest)) (number_stopped levels stack (may_end part) text byte (part_after part byte) m h)

pub number_more : (levels : ℕ) (stack : List Frame) (part next : Part) (text : List ℕ) (byte : ℕ) (rest : List ℕ) → part_after part byte ≡ Some next
    → read_from (at levels stack (In_number part text)) (byte ∷ rest) ≡ read_from (at levels stack (In_number next (text ++ byte ∷ []))) rest
number_more levels stack part next text byte rest e = one_byte levels stack (In_number part text) (at levels stack (In_number next (text ++ byte ∷ []))) byte rest (number_step levels stack (may_end part) text byte next (part_after part byte) e)

same_number : (levels : ℕ) (stack : List Frame) (part : Part) (a b rest : List ℕ) → a ≡ b → read_from (at levels stack (In_number part a)) rest ≡ read_from (at levels stack (In_number part b)) rest
same_number levels stack part a b rest e = ap (λ (t : List ℕ). read_from (at levels stack (In_number part t)) rest) e

same_after : (levels : ℕ) (stack : List Frame) (a b rest : List ℕ) → a ≡ b → read_from (at levels stack (After_value (Number a))) rest ≡ read_from (at levels stack (After_value (Number b))) rest
same_after levels stack a b rest e = ap (λ (t : List ℕ). read_from (at levels stack (After_value (Number t))) rest) e

pub run_digits : (levels : ℕ) (stack : List Frame) (part : Part) → ((d : ℕ) → is_digit d ≡ true → part_after part d ≡ Some part) → (text ds rest : List ℕ) → IsDigits ds
    → read_from (at levels stack (In_number part text)) (ds ++ rest) ≡ read_from (at levels stack (In_number part (text ++ ds))) rest
run_digits levels stack part stays text [] rest h = same_number levels stack part text (text ++ []) rest (sym (append-nil text))
run_digits levels stack part stays text (d ∷ ds) rest h =
    let parts = and_parts (is_digit d) (list_all is_digit ds) h in
    number_more levels stack part part text d (ds ++ rest) (stays d parts.0) ∙ run_digits levels stack part stays (text ++ d ∷ []) ds rest parts.1
    ∙ same_number levels stack part ((text ++ d ∷ []) ++ ds) (text ++ d ∷ ds) rest (append_assoc text (d ∷ []) ds)

pub int_stays : (d : ℕ) → is_digit d ≡ true → part_after Int d ≡ Some Int
int_stays d k = rw k refl

pub frac_stays : (d : ℕ) → is_digit d ≡ true → part_after Frac d ≡ Some Frac
frac_stays d k = rw k refl

pub exp_stays : (d : ℕ) → is_digit d ≡ true → part_after Exp d ≡ Some Exp
exp_stays d k = rw k refl

digit_no_sign : (d : ℕ) → is_digit d ≡ true → is_sign d ≡ false
digit_no_sign d k = grind (arith, nat_tests)

is_e_cases : (byte : ℕ) → is_e byte ≡ true → (byte ≡ 101) ⊎ (byte ≡ 69)
is_e_cases byte k = go (eqb byte 101) refl k
  where
    go : (b : Bool) → eqb byte 101 ≡ b → b || eqb byte 69 ≡ true → (byte ≡ 101) ⊎ (byte ≡ 69)
    go true e h = inl (eqb-true byte 101 e)
    go false e h = inr (eqb-true byte 69 h)

-- a part after which `.` or `e` may come
pub record MayGoOn (part : Part) : Type 0 where
  pub ends : may_end part ≡ true
  pub at_e : (e : ℕ) → is_e e ≡ true → part_after part e ≡ Some E

by_e : (part : Part) → part_after part 101 ≡ Some E → part_after part 69 ≡ Some E → (e : ℕ) → is_e e ≡ true → part_after part e ≡ Some E
by_e part small large e k = elim (is_e_cases e k) [ inl h ↦ ap (part_after part) h ∙ small | inr h ↦ ap (part_after part) h ∙ large ]

pub zero_goes_on : MayGoOn Zero
zero_goes_on = record { ends = refl; at_e = by_e Zero refl refl }

pub int_goes_on : MayGoOn Int
int_goes_on = record { ends = refl; at_e = by_e Int refl refl }

pub frac_goes_on : MayGoOn Frac
frac_goes_on = record { ends = refl; at_e = by_e Frac refl refl }

module _ (levels : ℕ) (stack : List Frame) (rest : List ℕ) (follows : Ends rest) where
  exp_digits : (part : Part) (text : List ℕ) (d : ℕ) (ds : List ℕ) → part_after part d ≡ Some Exp → IsDigits ds → read_from (at levels stack (In_number part text)) (d ∷ (ds ++ rest)) ≡ read_from (at levels stack (After_value (Number (text ++ d ∷ ds)))) rest
  exp_digits part text d ds e h =
      number_more levels stack part Exp text d (ds ++ rest) e ∙ run_digits levels stack Exp exp_stays (text ++ d ∷ []) ds rest h
      ∙ number_done levels stack Exp ((text ++ d ∷ []) ++ ds) rest refl follows ∙ same_after levels stack ((text ++ d ∷ []) ++ ds) (text ++ d ∷ ds) rest (append_assoc text (d ∷ []) ds)

  exp_signed : (text sign digits : List ℕ) → IsSign sign → IsSomeDigits digits → read_from (at levels stack (In_number E text)) ((sign ++ digits) ++ rest) ≡ read_from (at levels stack (After_value (Number (text ++ (sign ++ digits))))) rest
  exp_signed text sign digits (inl none) (d, ds, isd, isds, is) =
      rw (none, is) (exp_digits E text d ds (rw (digit_no_sign d isd, isd) refl) isds)
  exp_signed text sign digits (inr (s, iss, one)) (d, ds, isd, isds, is) =
      rw (one, is) (number_more levels stack E Sign text s (d ∷ (ds ++ rest)) (rw iss refl) ∙ exp_digits Sign (text ++ s ∷ []) d ds (rw isd refl) isds
      ∙ same_after levels stack ((text ++ s ∷ []) ++ d ∷ ds) (text ++ s ∷ d ∷ ds) rest (append_assoc text (s ∷ []) (d ∷ ds)))

  exp_read : (part : Part) (text exp : List ℕ) → MayGoOn part → IsExp exp → read_from (at levels stack (In_number part text)) (exp ++ rest) ≡ read_from (at levels stack (After_value (Number (text ++ exp)))) rest
  exp_read part text exp on (inl none) = rw none (number_done levels stack part text rest on.ends follows ∙ same_after levels stack text (text ++ []) rest (sym (append-nil text)))
  exp_read part text exp on (inr (e, sign, digits, ise, iss, isd, is)) =
      rw is (number_more levels stack part E text e ((sign ++ digits) ++ rest) (on.at_e e ise) ∙ exp_signed (text ++ e ∷ []) sign digits iss isd
      ∙ same_after levels stack ((text ++ e ∷ []) ++ (sign ++ digits)) (text ++ e ∷ (sign ++ digits)) rest (append_assoc text (e ∷ []) (sign ++ digits)))

  frac_read : (part : Part) (text frac exp : List ℕ) → MayGoOn part → part_after part 46 ≡ Some Point → IsFrac frac → IsExp exp
      → read_from (at levels stack (In_number part text)) (frac ++ (exp ++ rest)) ≡ read_from (at levels stack (After_value (Number (text ++ (frac ++ exp))))) rest
  frac_read part text frac exp on point (inl none) x = rw none (exp_read part text exp on x)
  frac_read part text frac exp on point (inr (digits, (d, ds, isd, isds, is), some)) x =
      rw (some, is) (number_more levels stack part Point text 46 (d ∷ (ds ++ (exp ++ rest))) point
      ∙ number_more levels stack Point Frac (text ++ 46 ∷ []) d (ds ++ (exp ++ rest)) (rw isd refl)
      ∙ run_digits levels stack Frac frac_stays ((text ++ 46 ∷ []) ++ d ∷ []) ds (exp ++ rest) isds
      ∙ exp_read Frac (((text ++ 46 ∷ []) ++ d ∷ []) ++ ds) exp frac_goes_on x
      ∙ same_after levels stack ((((text ++ 46 ∷ []) ++ d ∷ []) ++ ds) ++ exp) (text ++ 46 ∷ d ∷ (ds ++ exp)) rest (simp append_assoc))

  -- from the part that the int ends with
  int_ends : (text ds frac exp : List ℕ) → IsDigits ds → IsFrac frac → IsExp exp → read_from (at levels stack (In_number Int text)) (ds ++ (frac ++ (exp ++ rest))) ≡ read_from (at levels stack (After_value (Number (text ++ (ds ++ (frac ++ exp)))))) rest
  int_ends text ds frac exp h f x =
      run_digits levels stack Int int_stays text ds (frac ++ (exp ++ rest)) h ∙ frac_read Int (text ++ ds) frac exp int_goes_on refl f x
      ∙ same_after levels stack ((text ++ ds) ++ (frac ++ exp)) (text ++ (ds ++ (frac ++ exp))) rest (append_assoc text ds (frac ++ exp))

  first_no_zero : (d : ℕ) → is_between 49 57 d ≡ true → eqb d 48 ≡ false
  first_no_zero d k = grind (arith, nat_tests)

  first_digit : (d : ℕ) → is_between 49 57 d ≡ true → is_digit d ≡ true
  first_digit d k = grind (arith, nat_tests)

  minus_read : (int frac exp : List ℕ) → IsInt int → IsFrac frac → IsExp exp → read_from (at levels stack (In_number Minus (45 ∷ []))) (int ++ (frac ++ (exp ++ rest))) ≡ read_from (at levels stack (After_value (Number (45 ∷ (int ++ (frac ++ exp)))))) rest
  minus_read int frac exp (inl zero_is) f x = rw zero_is (number_more levels stack Minus Zero (45 ∷ []) 48 (frac ++ (exp ++ rest)) refl ∙ frac_read Zero (45 ∷ 48 ∷ []) frac exp zero_goes_on refl f x)
  minus_read int frac exp (inr (d, ds, isd, isds, is)) f x = rw is (number_more levels stack Minus Int (45 ∷ []) d (ds ++ (frac ++ (exp ++ rest))) (rw (first_no_zero d isd, first_digit d isd) refl) ∙ int_ends (45 ∷ d ∷ []) ds frac exp isds f x)

  digit_is_not : (d n : ℕ) → is_between 49 57 d ≡ true → (n < 49) ⊎ (57 < n) → eqb d n ≡ false
  digit_is_not d n k (inl h) = grind (arith, nat_tests)
  digit_is_not d n k (inr h) = grind (arith, nat_tests)

  digit_no_blank : (d : ℕ) → is_between 49 57 d ≡ true → is_blank d ≡ false
  digit_no_blank d k = grind (arith, nat_tests)

  begins_digit : (d : ℕ) → is_between 49 57 d ≡ true → step_at levels stack Before_value d ≡ Go (at levels stack (In_number Int (d ∷ [])))
  begins_digit d k = rw (
    digit_no_blank d k,
    digit_is_not d 91 k (inr (lit< tt)),
    digit_is_not d 123 k (inr (lit< tt)),
    digit_is_not d 34 k (inl (lit< tt)),
    digit_is_not d 110 k (inr (lit< tt)),
    digit_is_not d 116 k (inr (lit< tt)),
    digit_is_not d 102 k (inr (lit< tt)),
    digit_is_not d 45 k (inl (lit< tt)),
    first_no_zero d k,
    first_digit d k,
  ) refl

  plain_int : (int frac exp : List ℕ) → IsInt int → IsFrac frac → IsExp exp → read_from (at levels stack Before_value) (int ++ (frac ++ (exp ++ rest))) ≡ read_from (at levels stack (After_value (Number (int ++ (frac ++ exp))))) rest
  plain_int int frac exp (inl zero_is) f x = rw zero_is (one_byte levels stack Before_value (at levels stack (In_number Zero (48 ∷ []))) 48 (frac ++ (exp ++ rest)) refl ∙ frac_read Zero (48 ∷ []) frac exp zero_goes_on refl f x)
  plain_int int frac exp (inr (d, ds, isd, isds, is)) f x = rw is (one_byte levels stack Before_value (at levels stack (In_number Int (d ∷ []))) d (ds ++ (frac ++ (exp ++ rest))) (begins_digit d isd) ∙ int_ends (d ∷ []) ds frac exp isds f x)

  signed_int : (minus int frac exp : List ℕ) → IsMinus minus → IsInt int → IsFrac frac → IsExp exp → read_from (at levels stack Before_value) (minus ++ (int ++ (frac ++ (exp ++ rest)))) ≡ read_from (at levels stack (After_value (Number (minus ++ (int ++ (frac ++ exp)))))) rest
  signed_int minus int frac exp (inl none) i f x = rw none (plain_int int frac exp i f x)
  signed_int minus int frac exp (inr one) i f x = rw one (one_byte levels stack Before_value (at levels stack (In_number Minus (45 ∷ []))) 45 (int ++ (frac ++ (exp ++ rest))) refl ∙ minus_read int frac exp i f x)

  pub number_read : (text : List ℕ) → IsNumber text → read_from (at levels stack Before_value) (text ++ rest) ≡ read_from (at levels stack (After_value (Number text))) rest
  number_read text n =
      let parts : (n.minus ++ (n.int ++ (n.frac ++ n.exp))) ++ rest ≡ n.minus ++ (n.int ++ (n.frac ++ (n.exp ++ rest))) = simp append_assoc in
      ap (λ (t : List ℕ). read_from (at levels stack Before_value) (t ++ rest)) n.parts ∙ ap (read_from (at levels stack Before_value)) parts ∙ signed_int n.minus n.int n.frac n.exp n.is_minus n.is_int n.is_frac n.is_exp
      ∙ same_after levels stack (n.minus ++ (n.int ++ (n.frac ++ n.exp))) text rest (sym n.parts)

-- ---- strings

plain_no_quote : (byte : ℕ) → is_plain byte ≡ true → eqb byte 34 ≡ false
plain_no_quote byte k = grind (arith, nat_tests)

plain_no_slash : (byte : ℕ) → is_plain byte ≡ true → eqb byte 92 ≡ false
plain_no_slash byte k = grind (arith, nat_tests)

plain_least : (byte : ℕ) → is_plain byte ≡ true → leb 32 byte ≡ true
plain_least byte k = grind (arith, nat_tests)

some_is : {x y : ℕ} → Some x ≡ Some y → x ≡ y
some_is e = cc

letter_no_u : (letter meant : ℕ) → escaped letter ≡ Some meant → eqb letter 117 ≡ false
letter_no_u letter meant e = go (eqb letter 117) refl
  where
    go : (b : Bool) → eqb letter 117 ≡ b → eqb letter 117 ≡ false
    go true h = absurd (none_some (sym (ap escaped (eqb-true letter 117 h)) ∙ e))
      where
        none_some : {m : ℕ} → None ≡ Some m → ⊥
        none_some p = cc
    go false h = h

second_fits : (x y : ℕ) → ((x ≡ 13) → y < 12) → not (eqb x 13 && leb 12 y) ≡ true
second_fits x y h = grind (arith, nat_tests)

is_thirteen : (x : ℕ) → x ≡ 13 → eqb x 13 ≡ true
is_thirteen x e = rw e refl

at_least : (y : ℕ) → 12 ≤ y → leb 12 y ≡ true
at_least y h = grind (arith, nat_tests)

-- the four digits
pub record Digits (q : Quad) : Type 0 where
  pub a : is_hex q.a ≡ true
  pub b : is_hex q.b ≡ true
  pub c : is_hex q.c ≡ true
  pub d : is_hex q.d ≡ true

pub digits : (q : Quad) → is_quad q ≡ true → Digits q
digits q h =
    let x = and_parts (is_hex q.a) (is_hex q.b && (is_hex q.c && is_hex q.d)) h in
    let y = and_parts (is_hex q.b) (is_hex q.c && is_hex q.d) x.1 in
    let z = and_parts (is_hex q.c) (is_hex q.d) y.1 in
    record { a = x.0; b = y.0; c = z.0; d = z.1 }

below : (x : ℕ) → is_hex x ≡ true → digit_value x < 16
below x h = ltb-true (digit_value x) 16 h

second_of_unit : (q : Quad) → Digits q → is_low_surrogate (unit_of q) ≡ false → (digit_value q.a ≡ 13) → digit_value q.b < 12
second_of_unit q h low = second_of_other (digit_value q.a) (digit_value q.b) (digit_value q.c) (digit_value q.d) (below q.a h.a) (below q.b h.b) (below q.c h.c) (below q.d h.d) low

second_of_first_half : (q : Quad) → Digits q → is_high_surrogate (unit_of q) ≡ true → (digit_value q.a ≡ 13) → digit_value q.b < 12
second_of_first_half q h high e = (second_of_high (digit_value q.a) (digit_value q.b) (digit_value q.c) (digit_value q.d) (below q.a h.a) (below q.b h.b) (below q.c h.c) (below q.d h.d) high).1

low_digits : (q : Quad) → Digits q → is_low_surrogate (unit_of q) ≡ true → (digit_value q.a ≡ 13) × (12 ≤ digit_value q.b)
low_digits q h low = digits_of_low (digit_value q.a) (digit_value q.b) (digit_value q.c) (digit_value q.d) (below q.a h.a) (below q.b h.b) (below q.c h.c) (below q.d h.d) low

module _ (levels : ℕ) (stack : List Frame) (purpose : Purpose) where
  abbrev pub in_text : List ℕ → Piece → State
  in_text text piece = at levels stack (In_string purpose text piece)

  text_byte : (text : List ℕ) (piece : Piece) (t : State) (byte : ℕ) (rest : List ℕ) → step_at levels stack (In_string purpose text piece) byte ≡ Go t → read_from (in_text text piece) (byte ∷ rest) ≡ read_from t rest
  text_byte text piece t byte rest e = one_byte levels stack (In_string purpose text piece) t byte rest e

  same_text : (a b rest : List ℕ) → a ≡ b → read_from (at levels stack (after_string purpose a)) rest ≡ read_from (at levels stack (after_string purpose b)) rest
  same_text a b rest e = ap (λ (t : List ℕ). read_from (at levels stack (after_string purpose t)) rest) e

  -- `\u` and three digits
  three_digits : (q : Quad) (text rest : List ℕ) → Digits q → ((digit_value q.a ≡ 13) → digit_value q.b < 12) → read_from (in_text text Plain) (92 ∷ 117 ∷ q.a ∷ q.b ∷ q.c ∷ q.d ∷ rest) ≡ read_from (in_text text (Unit3 q.a q.b q.c)) (q.d ∷ rest)
  three_digits q text rest h second =
      text_byte text Plain (in_text text Slash) 92 (117 ∷ q.a ∷ q.b ∷ q.c ∷ q.d ∷ rest) refl
      ∙ text_byte text Slash (in_text text Unit0) 117 (q.a ∷ q.b ∷ q.c ∷ q.d ∷ rest) refl
      ∙ text_byte text Unit0 (in_text text (Unit1 q.a)) q.a (q.b ∷ q.c ∷ q.d ∷ rest) (rw h.a refl)
      ∙ text_byte text (Unit1 q.a) (in_text text (Unit2 q.a q.b)) q.b (q.c ∷ q.d ∷ rest) (rw (h.b, second_fits (digit_value q.a) (digit_value q.b) second) refl)
      ∙ text_byte text (Unit2 q.a q.b) (in_text text (Unit3 q.a q.b q.c)) q.c (q.d ∷ rest) (rw h.c refl)

  pub chars_read : {spelled value : List ℕ} → IsChars spelled value → (text rest : List ℕ) → read_from (in_text text Plain) (spelled ++ 34 ∷ rest) ≡ read_from (at levels stack (after_string purpose (text ++ value))) rest
  chars_read no_chars text rest = text_byte text Plain (at levels stack (after_string purpose text)) 34 rest refl ∙ same_text text (text ++ []) rest (sym (append-nil text))
  chars_read (plain {byte} {spelled} {value} k c) text rest =
      text_byte text Plain (in_text (text ++ byte ∷ []) Plain) byte (spelled ++ 34 ∷ rest) (rw (plain_no_quote byte k, plain_no_slash byte k, plain_least byte k) refl)
      ∙ chars_read c (text ++ byte ∷ []) rest ∙ same_text ((text ++ byte ∷ []) ++ value) (text ++ byte ∷ value) rest (append_assoc text (byte ∷ []) value)
  chars_read (escape {letter} {meant} {spelled} {value} e c) text rest =
      text_byte text Plain (in_text text Slash) 92 (letter ∷ (spelled ++ 34 ∷ rest)) refl
      ∙ text_byte text Slash (in_text (text ++ meant ∷ []) Plain) letter (spelled ++ 34 ∷ rest) (rw (letter_no_u letter meant e, e) refl)
      ∙ chars_read c (text ++ meant ∷ []) rest ∙ same_text ((text ++ meant ∷ []) ++ value) (text ++ meant ∷ value) rest (append_assoc text (meant ∷ []) value)
  chars_read (unit q {spelled} {value} isq nohigh nolow c) text rest =
      let h = digits q isq in
      let u = encode_utf8 (unit_of q) in
      three_digits q text (spelled ++ 34 ∷ rest) h (second_of_unit q h nolow)
      ∙ text_byte text (Unit3 q.a q.b q.c) (in_text (text ++ u) Plain) q.d (spelled ++ 34 ∷ rest) (rw (h.d, nohigh) refl)
      ∙ chars_read c (text ++ u) rest ∙ same_text ((text ++ u) ++ value) (text ++ (u ++ value)) rest (append_assoc text u value)
  chars_read (pair high low {spelled} {value} ishigh surely islow surelylow c) text rest =
      let h = digits high ishigh in
      let l = digits low islow in
      let first = low_digits low l surelylow in
      let u = encode_utf8 (surrogate_pair_char (unit_of high) (unit_of low)) in
      let after = spelled ++ 34 ∷ rest in
      three_digits high text (92 ∷ 117 ∷ low.a ∷ low.b ∷ low.c ∷ low.d ∷ after) h (second_of_first_half high h surely)
      ∙ text_byte text (Unit3 high.a high.b high.c) (in_text text (High high)) high.d (92 ∷ 117 ∷ low.a ∷ low.b ∷ low.c ∷ low.d ∷ after) (rw (h.d, surely) refl)
      ∙ text_byte text (High high) (in_text text (High_slash high)) 92 (117 ∷ low.a ∷ low.b ∷ low.c ∷ low.d ∷ after) refl
      ∙ text_byte text (High_slash high) (in_text text (Low0 high)) 117 (low.a ∷ low.b ∷ low.c ∷ low.d ∷ after) refl
      ∙ text_byte text (Low0 high) (in_text text (Low1 high low.a)) low.a (low.b ∷ low.c ∷ low.d ∷ after) (rw (is_thirteen (digit_value low.a) first.0) refl)
      ∙ text_byte text (Low1 high low.a) (in_text text (Low2 high low.a low.b)) low.b (low.c ∷ low.d ∷ after) (rw (l.b, at_least (digit_value low.b) first.1) refl)
      ∙ text_byte text (Low2 high low.a low.b) (in_text text (Low3 high low.a low.b low.c)) low.c (low.d ∷ after) (rw l.c refl)
      ∙ text_byte text (Low3 high low.a low.b low.c) (in_text (text ++ u) Plain) low.d after (rw l.d refl)
      ∙ chars_read c (text ++ u) rest ∙ same_text ((text ++ u) ++ value) (text ++ (u ++ value)) rest (append_assoc text u value)

-- a run of bytes that stand for themselves
pub run_plain : (levels : ℕ) (stack : List Frame) (purpose : Purpose) (text run rest : List ℕ) → list_all is_plain run ≡ true
    → read_from (in_text levels stack purpose text Plain) (run ++ rest) ≡ read_from (in_text levels stack purpose (text ++ run) Plain) rest
run_plain levels stack purpose text [] rest h = ap (λ (t : List ℕ). read_from (in_text levels stack purpose t Plain) rest) (sym (append-nil text))
run_plain levels stack purpose text (byte ∷ run) rest h =
    let parts = and_parts (is_plain byte) (list_all is_plain run) h in
    text_byte levels stack purpose text Plain (in_text levels stack purpose (text ++ byte ∷ []) Plain) byte (run ++ rest) (rw (plain_no_quote byte parts.0, plain_no_slash byte parts.0, plain_least byte parts.0) refl)
    ∙ run_plain levels stack purpose (text ++ byte ∷ []) run rest parts.1
    ∙ ap (λ (t : List ℕ). read_from (in_text levels stack purpose t Plain) rest) (append_assoc text (byte ∷ []) run)

-- ---- values

word_done : (levels : ℕ) (stack : List Frame) (v : JsonTree) (rest : List ℕ) → read_from (at levels stack (In_word [] v)) rest ≡ read_from (at levels stack (After_value v)) rest
unfolding read_from step
word_done levels [] v [] = refl
word_done levels (frame ∷ stack) v [] = refl
word_done levels stack v (byte ∷ rest) = refl

pub word_read : (levels : ℕ) (stack : List Frame) (left : List ℕ) (v : JsonTree) (rest : List ℕ) → read_from (at levels stack (In_word left v)) (left ++ rest) ≡ read_from (at levels stack (After_value v)) rest
word_read levels stack [] v rest = word_done levels stack v rest
word_read levels stack (byte ∷ left) v rest = one_byte levels stack (In_word (byte ∷ left) v) (at levels stack (In_word left v)) byte (left ++ rest) (rw (same_byte byte) refl) ∙ word_read levels stack left v rest
  where
    same_byte : (b : ℕ) → eqb b b ≡ true
    same_byte b = grind (arith, nat_tests)

-- a blank, or one of these
pub blanks_end : (blanks : List ℕ) (byte : ℕ) (rest : List ℕ) → IsBlanks blanks → is_end byte ≡ true → Ends (blanks ++ byte ∷ rest)
blanks_end [] byte rest h k = k
blanks_end (b ∷ blanks) byte rest h k = rw (and_parts (is_blank b) (list_all is_blank blanks) h).0 refl

pub only_blanks_end : (blanks : List ℕ) → IsBlanks blanks → Ends blanks
only_blanks_end [] h = tt
only_blanks_end (b ∷ blanks) h = rw (and_parts (is_blank b) (list_all is_blank blanks) h).0 refl

pub items_end : {levels : ℕ} {a : List ℕ} {vs : List JsonTree} → IsMoreItems levels a vs → (rest : List ℕ) → Ends (a ++ rest)
items_end (last_item blanks h) rest = rw (append_assoc blanks (93 ∷ []) rest) (blanks_end blanks 93 rest h refl)
items_end (next_item before after text more h i v m) rest = rw (append_assoc before (44 ∷ (after ++ (text ++ more))) rest) (blanks_end before 44 ((after ++ (text ++ more)) ++ rest) h refl)

pub members_end : {levels : ℕ} {a : List ℕ} {ms : List (List ℕ × JsonTree)} → IsMoreMembers levels a ms → (rest : List ℕ) → Ends (a ++ rest)
members_end (last_member blanks h) rest = rw (append_assoc blanks (125 ∷ []) rest) (blanks_end blanks 125 rest h refl)
members_end (next_member before after text more h i v m) rest = rw (append_assoc before (44 ∷ (after ++ (text ++ more))) rest) (blanks_end before 44 ((after ++ (text ++ more)) ++ rest) h refl)

-- the first byte of a value is no blank and no `]`
abbrev Starts : List ℕ → Type 0
Starts [] = ⊥
Starts (byte ∷ rest) = (is_blank byte ≡ false) × (eqb byte 93 ≡ false)

first_starts : (d : ℕ) (rest : List ℕ) → is_between 49 57 d ≡ true → Starts (d ∷ rest)
first_starts d rest k = (grind (arith, nat_tests), grind (arith, nat_tests))

int_starts : (int rest : List ℕ) → IsInt int → Starts (int ++ rest)
int_starts int rest (inl zero_is) = rw zero_is (refl, refl)
int_starts int rest (inr (d, ds, isd, isds, is)) = rw is (first_starts d (ds ++ rest) isd)

minus_starts : (minus int rest : List ℕ) → IsMinus minus → IsInt int → Starts (minus ++ (int ++ rest))
minus_starts minus int rest (inl none) i = rw none (int_starts int rest i)
minus_starts minus int rest (inr one) i = rw one (refl, refl)

number_starts : (text : List ℕ) → IsNumber text → Starts text
number_starts text n = subst Starts (sym n.parts) (minus_starts n.minus n.int (n.frac ++ n.exp) n.is_minus n.is_int)

value_starts : {levels : ℕ} {a : List ℕ} {v : JsonTree} → IsValue levels a v → Starts a
value_starts null = (refl, refl)
value_starts true_word = (refl, refl)
value_starts false_word = (refl, refl)
value_starts (number {levels} {text} n) = number_starts text n
value_starts (string text c) = (refl, refl)
value_starts (empty_array blanks h) = (refl, refl)
value_starts (array blanks text more h i m) = (refl, refl)
value_starts (empty_object blanks h) = (refl, refl)
value_starts (object blanks text more h i m) = (refl, refl)

first_item : (levels : ℕ) (stack : List Frame) (a rest : List ℕ) → Starts a → read_from (at levels stack After_open_array) (a ++ rest) ≡ read_from (at levels (In_array [] ∷ stack) Before_value) (a ++ rest)
unfolding read_from step
first_item levels stack [] rest h = absurd h
first_item levels stack (byte ∷ a) rest h = rw (h.0, h.1) refl

same_rest : (levels : ℕ) (stack : List Frame) (place : Place) (a b : List ℕ) → a ≡ b → read_from (at levels stack place) a ≡ read_from (at levels stack place) b
same_rest levels stack place a b e = ap (read_from (at levels stack place)) e

mutual
  pub value_read : {levels : ℕ} {a : List ℕ} {v : JsonTree} → IsValue levels a v → (stack : List Frame) (rest : List ℕ) → Ends rest → read_from (at levels stack Before_value) (a ++ rest) ≡ read_from (at levels stack (After_value v)) rest
  value_read (null {levels}) stack rest ends = one_byte levels stack Before_value (at levels stack (In_word (117 ∷ 108 ∷ 108 ∷ []) Null)) 110 (117 ∷ 108 ∷ 108 ∷ rest) refl ∙ word_read levels stack (117 ∷ 108 ∷ 108 ∷ []) Null rest
  value_read (true_word {levels}) stack rest ends = one_byte levels stack Before_value (at levels stack (In_word (114 ∷ 117 ∷ 101 ∷ []) (Boolean true))) 116 (114 ∷ 117 ∷ 101 ∷ rest) refl ∙ word_read levels stack (114 ∷ 117 ∷ 101 ∷ []) (Boolean true) rest
  value_read (false_word {levels}) stack rest ends = one_byte levels stack Before_value (at levels stack (In_word (97 ∷ 108 ∷ 115 ∷ 101 ∷ []) (Boolean false))) 102 (97 ∷ 108 ∷ 115 ∷ 101 ∷ rest) refl ∙ word_read levels stack (97 ∷ 108 ∷ 115 ∷ 101 ∷ []) (Boolean false) rest
  value_read (number {levels} {text} n) stack rest ends = number_read levels stack rest ends text n
  value_read (string {levels} text {value} c) stack rest ends =
      one_byte levels stack Before_value (in_text levels stack As_value [] Plain) 34 ((text ++ 34 ∷ []) ++ rest) refl
      ∙ same_rest levels stack (In_string As_value [] Plain) ((text ++ 34 ∷ []) ++ rest) (text ++ 34 ∷ rest) (append_assoc text (34 ∷ []) rest)
      ∙ chars_read levels stack As_value c [] rest
  value_read (empty_array {levels} blanks h) stack rest ends =
      one_byte (suc levels) stack Before_value (at levels stack After_open_array) 91 ((blanks ++ 93 ∷ []) ++ rest) refl
      ∙ same_rest levels stack After_open_array ((blanks ++ 93 ∷ []) ++ rest) (blanks ++ 93 ∷ rest) (append_assoc blanks (93 ∷ []) rest)
      ∙ skip levels stack After_open_array (stays_open_array levels stack) blanks (93 ∷ rest) h
      ∙ one_byte levels stack After_open_array (at (suc levels) stack (After_value (array_of []))) 93 rest refl
  value_read (array {levels} blanks text more {v} {vs} h isv m) stack rest ends =
      one_byte (suc levels) stack Before_value (at levels stack After_open_array) 91 ((blanks ++ (text ++ more)) ++ rest) refl
      ∙ same_rest levels stack After_open_array ((blanks ++ (text ++ more)) ++ rest) (blanks ++ (text ++ (more ++ rest))) (simp append_assoc)
      ∙ skip levels stack After_open_array (stays_open_array levels stack) blanks (text ++ (more ++ rest)) h
      ∙ first_item levels stack text (more ++ rest) (value_starts isv)
      ∙ value_read isv (In_array [] ∷ stack) (more ++ rest) (items_end m rest)
      ∙ items_read m stack [] v rest
  value_read (empty_object {levels} blanks h) stack rest ends =
      one_byte (suc levels) stack Before_value (at levels stack After_open_object) 123 ((blanks ++ 125 ∷ []) ++ rest) refl
      ∙ same_rest levels stack After_open_object ((blanks ++ 125 ∷ []) ++ rest) (blanks ++ 125 ∷ rest) (append_assoc blanks (125 ∷ []) rest)
      ∙ skip levels stack After_open_object (stays_open_object levels stack) blanks (125 ∷ rest) h
      ∙ one_byte levels stack After_open_object (at (suc levels) stack (After_value (object_of []))) 125 rest refl
  value_read (object {levels} blanks text more {m} {ms} h ism mm) stack rest ends =
      one_byte (suc levels) stack Before_value (at levels stack After_open_object) 123 ((blanks ++ (text ++ more)) ++ rest) refl
      ∙ same_rest levels stack After_open_object ((blanks ++ (text ++ more)) ++ rest) (blanks ++ (text ++ (more ++ rest))) (simp append_assoc)
      ∙ skip levels stack After_open_object (stays_open_object levels stack) blanks (text ++ (more ++ rest)) h
      ∙ first_member ism stack (more ++ rest)
      ∙ member_read ism stack [] (more ++ rest) (members_end mm rest)
      ∙ members_read mm stack [] m.0 m.1 rest

  pub items_read : {levels : ℕ} {a : List ℕ} {vs : List JsonTree} → IsMoreItems levels a vs → (stack : List Frame) (done : List JsonTree) (v : JsonTree) (rest : List ℕ)
      → read_from (at levels (In_array done ∷ stack) (After_value v)) (a ++ rest) ≡ read_from (at (suc levels) stack (After_value (array_of (done ++ v ∷ vs)))) rest
  items_read (last_item {levels} blanks h) stack done v rest =
      same_rest levels (In_array done ∷ stack) (After_value v) ((blanks ++ 93 ∷ []) ++ rest) (blanks ++ 93 ∷ rest) (append_assoc blanks (93 ∷ []) rest)
      ∙ skip levels (In_array done ∷ stack) (After_value v) (stays_after_value levels (In_array done ∷ stack) v) blanks (93 ∷ rest) h
      ∙ one_byte levels (In_array done ∷ stack) (After_value v) (at (suc levels) stack (After_value (array_of (done ++ v ∷ [])))) 93 rest refl
  items_read (next_item {levels} before after text more {v = w} {vs} h i isw m) stack done v rest =
      same_rest levels (In_array done ∷ stack) (After_value v) ((before ++ 44 ∷ (after ++ (text ++ more))) ++ rest) (before ++ 44 ∷ (after ++ (text ++ (more ++ rest)))) (simp append_assoc)
      ∙ skip levels (In_array done ∷ stack) (After_value v) (stays_after_value levels (In_array done ∷ stack) v) before (44 ∷ (after ++ (text ++ (more ++ rest)))) h
      ∙ one_byte levels (In_array done ∷ stack) (After_value v) (at levels (In_array (done ++ v ∷ []) ∷ stack) Before_value) 44 (after ++ (text ++ (more ++ rest))) refl
      ∙ skip levels (In_array (done ++ v ∷ []) ∷ stack) Before_value (stays_before_value levels (In_array (done ++ v ∷ []) ∷ stack)) after (text ++ (more ++ rest)) i
      ∙ value_read isw (In_array (done ++ v ∷ []) ∷ stack) (more ++ rest) (items_end m rest)
      ∙ items_read m stack (done ++ v ∷ []) w rest
      ∙ ap (λ (all : List JsonTree). read_from (at (suc levels) stack (After_value (array_of all))) rest) (append_assoc done (v ∷ []) (w ∷ vs))

  first_member : {levels : ℕ} {a : List ℕ} {m : List ℕ × JsonTree} → IsMember levels a m → (stack : List Frame) (rest : List ℕ)
      → read_from (at levels stack After_open_object) (a ++ rest) ≡ read_from (at levels stack (Before_name [])) (a ++ rest)
  first_member (named {levels} text before after value {name} {v} c h i isv) stack rest =
      one_byte levels stack After_open_object (in_text levels stack (As_name []) [] Plain) 34 ((text ++ 34 ∷ (before ++ 58 ∷ (after ++ value))) ++ rest) refl
      ∙ sym (one_byte levels stack (Before_name []) (in_text levels stack (As_name []) [] Plain) 34 ((text ++ 34 ∷ (before ++ 58 ∷ (after ++ value))) ++ rest) refl)

  pub member_read : {levels : ℕ} {a : List ℕ} {m : List ℕ × JsonTree} → IsMember levels a m → (stack : List Frame) (done : List (List ℕ × JsonTree)) (rest : List ℕ) → Ends rest
      → read_from (at levels stack (Before_name done)) (a ++ rest) ≡ read_from (at levels (In_object done m.0 ∷ stack) (After_value m.1)) rest
  member_read (named {levels} text before after value {name} {v} c h i isv) stack done rest ends =
      one_byte levels stack (Before_name done) (in_text levels stack (As_name done) [] Plain) 34 ((text ++ 34 ∷ (before ++ 58 ∷ (after ++ value))) ++ rest) refl
      ∙ same_rest levels stack (In_string (As_name done) [] Plain) ((text ++ 34 ∷ (before ++ 58 ∷ (after ++ value))) ++ rest) (text ++ 34 ∷ (before ++ 58 ∷ (after ++ (value ++ rest)))) (simp append_assoc)
      ∙ chars_read levels stack (As_name done) c [] (before ++ 58 ∷ (after ++ (value ++ rest)))
      ∙ skip levels stack (After_name done name) (stays_after_name levels stack done name) before (58 ∷ (after ++ (value ++ rest))) h
      ∙ one_byte levels stack (After_name done name) (at levels (In_object done name ∷ stack) Before_value) 58 (after ++ (value ++ rest)) refl
      ∙ skip levels (In_object done name ∷ stack) Before_value (stays_before_value levels (In_object done name ∷ stack)) after (value ++ rest) i
      ∙ value_read isv (In_object done name ∷ stack) rest ends

  pub members_read : {levels : ℕ} {a : List ℕ} {ms : List (List ℕ × JsonTree)} → IsMoreMembers levels a ms → (stack : List Frame) (done : List (List ℕ × JsonTree)) (name : List ℕ) (v : JsonTree) (rest : List ℕ)
      → read_from (at levels (In_object done name ∷ stack) (After_value v)) (a ++ rest) ≡ read_from (at (suc levels) stack (After_value (object_of (put_all done ((name, v) ∷ ms))))) rest
  members_read (last_member {levels} blanks h) stack done name v rest =
      same_rest levels (In_object done name ∷ stack) (After_value v) ((blanks ++ 125 ∷ []) ++ rest) (blanks ++ 125 ∷ rest) (append_assoc blanks (125 ∷ []) rest)
      ∙ skip levels (In_object done name ∷ stack) (After_value v) (stays_after_value levels (In_object done name ∷ stack) v) blanks (125 ∷ rest) h
      ∙ one_byte levels (In_object done name ∷ stack) (After_value v) (at (suc levels) stack (After_value (object_of (put done name v)))) 125 rest refl
  members_read (next_member {levels} before after text more {m} {ms} h i ism mm) stack done name v rest =
      same_rest levels (In_object done name ∷ stack) (After_value v) ((before ++ 44 ∷ (after ++ (text ++ more))) ++ rest) (before ++ 44 ∷ (after ++ (text ++ (more ++ rest)))) (simp append_assoc)
      ∙ skip levels (In_object done name ∷ stack) (After_value v) (stays_after_value levels (In_object done name ∷ stack) v) before (44 ∷ (after ++ (text ++ (more ++ rest)))) h
      ∙ one_byte levels (In_object done name ∷ stack) (After_value v) (at levels stack (Before_name (put done name v))) 44 (after ++ (text ++ (more ++ rest))) refl
      ∙ skip levels stack (Before_name (put done name v)) (stays_before_name levels stack (put done name v)) after (text ++ (more ++ rest)) i
      ∙ member_read ism stack (put done name v) (more ++ rest) (members_end mm rest)
      ∙ members_read mm stack (put done name v) m.0 m.1 rest

-- a whole text
pub json_read : (levels : ℕ) (text : List ℕ) (tree : JsonTree) → IsJsonOf levels text tree → read_from (start levels) text ≡ Ok tree
unfolding read_from
json_read levels text tree json =
    ap (read_from (start levels)) json.parts
    ∙ skip levels [] Before_value (stays_before_value levels []) json.before (json.value ++ json.after) json.is_before
    ∙ value_read json.is_value [] json.after (only_blanks_end json.after json.is_after)
    ∙ ap (read_from (at levels [] (After_value tree))) (sym (append-nil json.after))
    ∙ skip levels [] (After_value tree) (stays_after_value levels [] tree) json.after [] json.is_after
