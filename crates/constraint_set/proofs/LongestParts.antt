-- The parts and joints that are read are the longest that the text has, and the longest are read.
use Rattle.std.proofs.Common.{◌≡◌, ℕ, ◌<◌, ◌≤◌, Bool, true, false, cond, ltb, List, [], ◌∷◌, ◌++◌, length, take, drop, Option, Some, None, inl, inr, refl, sym, subst, ap, ◌∙◌, arith, append_assoc}
use Rattle.std.specs.Prelude.{codes, ◌==◌}
use Rattle.std.specs.List.{list_all, prefix_len}
use Rattle.std.proofs.lemmas.Bool.{lt-ltb}
use Rattle.std.proofs.lemmas.List.{append-nil, length-append, length-drop}
use Rattle.path_name.specs.Bytes.{is_blank}
use Rattle.version_norm.specs.Pieces.{without_first}
use Rattle.version_norm.specs.Versions.{without_blanks_before}
use Rattle.constraint_set.specs.declared.constraint.Operator.{Operator}
use Rattle.constraint_set.specs.declared.words.Joint.{Joint}
use Rattle.constraint_set.specs.declared.words.Joint.TheVariants as joints
use Rattle.constraint_set.specs.Words.{Form, compared, is_in_word, word_len, word_here, next_word, is_bar, operator_word, is_dash, operated, dashed, form_behind, form_at, joint_here, joint_at}
use Rattle.constraint_set.specs.Grammar.{IsBlanks, IsGap, IsWord, IsFormOf, word, comparison, span, IsJoint, blanks, comma, bar}
use Rattle.constraint_set.specs.Faults.{IsPartAt, IsJointAt}
use Rattle.constraint_set.proofs.Members.{both}
use Rattle.constraint_set.proofs.Fronts.{Stops, trimmed_front, same_word, word_here_takes}
use Rattle.constraint_set.proofs.ReadTexts.{TakesForm, form_takes, joint_takes, no_joint}
use Rattle.constraint_set.proofs.SpelledTexts.{word_front, blanks_front, word_no_blank, long_gap_stops, next_front, range_form, end_tail, joint_stops, First, joined_reads, blank_no_bar, dash_word}

-- ---- what is left of a text

prefix_longer : (p : ℕ → Bool) (front rest : List ℕ) → list_all p front ≡ true → length front ≤ prefix_len p (front ++ rest)
prefix_longer p [] rest all = omega arith
prefix_longer p (b ∷ bs) rest all =
    let h = both (p b) (list_all p bs) all in
    let more = prefix_longer p bs rest h.1 in
    rw h.0 (omega (arith, more))

passed : (p : ℕ → Bool) (front rest : List ℕ) → list_all p front ≡ true → length (drop (prefix_len p (front ++ rest)) (front ++ rest)) ≤ length rest
passed p front rest all = omega (arith, prefix_longer p front rest all, length-drop (prefix_len p (front ++ rest)) (front ++ rest), length-append front rest)

pub blanks_passed : (b rest : List ℕ) → IsBlanks b → length (without_blanks_before (b ++ rest)) ≤ length rest
blanks_passed b rest blank = passed is_blank b rest blank

pub fewer_blanks : (text : List ℕ) → length (without_blanks_before text) ≤ length text
fewer_blanks text = omega (arith, length-drop (prefix_len is_blank text) text)

same_split : (a b c d : List ℕ) → a ++ b ≡ c ++ d → length a ≡ length c → (a ≡ c) × (b ≡ d)
same_split [] b [] d e same = (refl, e)
same_split [] b (y ∷ ys) d e same = absurd (omega arith)
same_split (x ∷ xs) b [] d e same = absurd (omega arith)
same_split (x ∷ xs) b (y ∷ ys) d e same =
    let head : x ≡ y = cc in
    let tail : xs ++ b ≡ ys ++ d = cc in
    let fewer : length xs ≡ length ys = omega arith in
    let rest = same_split xs b ys d tail fewer in
    let whole : x ∷ xs ≡ y ∷ ys = let t = rest.0 in cc in
    (whole, rest.1)

-- ---- words

pub record LongWord (text tail : List ℕ) (x : Option (List ℕ × List ℕ)) : Type 0 where
  pub first : List ℕ × List ℕ
  pub is : x ≡ Some first
  pub within : length first.1 ≤ length tail

word_longest : (w tail : List ℕ) → IsWord w → LongWord (w ++ tail) tail (word_here (w ++ tail))
word_longest w tail is =
    let n = word_len (w ++ tail) in
    let long = prefix_longer is_in_word w tail is.all in
    let some : ltb 0 n ≡ true = lt-ltb 0 n (omega (arith, long, is.some)) in
    record { first = (take n (w ++ tail), drop n (w ++ tail)); is = rw some refl; within = passed is_in_word w tail is.all }

pub next_longest : (gap w tail : List ℕ) → IsBlanks gap → IsWord w → LongWord (gap ++ (w ++ tail)) tail (next_word (gap ++ (w ++ tail)))
next_longest gap w tail blank is =
    let long = word_longest w tail is in
    record { first = long.first; is = rw (blanks_front gap (w ++ tail) blank (word_no_blank w tail is)) long.is; within = long.within }

next_within : (text : List ℕ) (x : List ℕ × List ℕ) → next_word text ≡ Some x → length x.1 ≤ length text
next_within text x e =
    let took = word_here_takes (without_blanks_before text) x e in
    omega (arith, ap (length {A = ℕ}) took.whole, length-append x.0 x.1, fewer_blanks text)

-- ---- forms

operated_within : (o : Option Operator) (w rest : List ℕ) (second : List ℕ × List ℕ) → length second.1 ≤ length rest → length (operated o w rest second).1 ≤ length rest
operated_within None w rest second le = omega arith
operated_within (Some operator) w rest second le = le

dashed_within : (w rest : List ℕ) (second : List ℕ × List ℕ) (third : Option (List ℕ × List ℕ)) → next_word second.1 ≡ third → length second.1 ≤ length rest → length (dashed w rest second third).1 ≤ length rest
dashed_within w rest second None e le = operated_within (operator_word w) w rest second le
dashed_within w rest second (Some third) e le = omega (arith, next_within second.1 third e, le)

form_within : (w rest : List ℕ) → length (form_at w rest).1 ≤ length rest
unfolding form_at
form_within w rest = by (next_word rest) refl
  where
    by : (o : Option (List ℕ × List ℕ)) → next_word rest ≡ o → length (form_behind w rest o).1 ≤ length rest
    by None e = omega arith
    by (Some second) e =
        let le = next_within rest second e in
        elim (is_dash second.0) as (λ t. length (cond t (dashed w rest second (next_word second.1)) (operated (operator_word w) w rest second)).1 ≤ length rest) [
          | true ↦ dashed_within w rest second (next_word second.1) refl le
          | false ↦ operated_within (operator_word w) w rest second le
        ]

-- an operator and a word, or more
compared_within : (symbol rest : List ℕ) (operator : Operator) (second : List ℕ × List ℕ) (n : ℕ) → operator_word symbol ≡ Some operator → next_word rest ≡ Some second → length second.1 ≤ n → length (form_at symbol rest).1 ≤ n
unfolding form_at
compared_within symbol rest operator second n e found le = rw (found, e)
    (elim (is_dash second.0) as (λ t. length (cond t (dashed symbol rest second (next_word second.1)) (compared operator second.0, second.1)).1 ≤ n) [ true ↦ by (next_word second.1) refl | false ↦ le ])
  where
    by : (third : Option (List ℕ × List ℕ)) → next_word second.1 ≡ third → length (dashed symbol rest second third).1 ≤ n
    by None none = rw e le
    by (Some third) some = omega (arith, next_within second.1 third some, le)

range_within : (v rest after : List ℕ) (third : List ℕ × List ℕ) (n : ℕ) → next_word rest ≡ Some (codes "-", after) → next_word after ≡ Some third → length third.1 ≤ n → length (form_at v rest).1 ≤ n
unfolding form_at
range_within v rest after third n found also le = rw (found, also) le

-- What is read reaches as far as any form at the front.
record Furthest (text tail : List ℕ) : Type 0 where
  first : List ℕ × List ℕ
  here : word_here text ≡ Some first
  within : length (form_at first.0 first.1).1 ≤ length tail

form_furthest : (other tail : List ℕ) (form : Form) → IsFormOf other form → Furthest (other ++ tail) tail
form_furthest other tail form (word {w} is) =
    let long = word_longest w tail is in
    record { first = long.first; here = long.is; within = omega (arith, form_within long.first.0 long.first.1, long.within) }
form_furthest other tail form (comparison {symbol} {gap} {w} {operator} is e g also) =
    let whole : (symbol ++ (gap ++ w)) ++ tail ≡ symbol ++ (gap ++ (w ++ tail)) = simp append_assoc in
    let next = next_longest gap w tail g.blank also in
    record {
      first = (symbol, gap ++ (w ++ tail));
      here = rw whole (word_front symbol (gap ++ (w ++ tail)) is (long_gap_stops gap (w ++ tail) g));
      within = compared_within symbol (gap ++ (w ++ tail)) operator next.first (length tail) e next.is next.within;
    }
form_furthest other tail form (span {v} {before} {after} {w} is g h also) =
    let whole : (v ++ (before ++ (codes "-" ++ (after ++ w)))) ++ tail ≡ v ++ (before ++ (codes "-" ++ (after ++ (w ++ tail)))) = simp append_assoc in
    let third = next_longest after w tail h.blank also in
    record {
      first = (v, before ++ (codes "-" ++ (after ++ (w ++ tail))));
      here = rw whole (word_front v (before ++ (codes "-" ++ (after ++ (w ++ tail)))) is (long_gap_stops before (codes "-" ++ (after ++ (w ++ tail))) g));
      within = range_within v (before ++ (codes "-" ++ (after ++ (w ++ tail)))) (after ++ (w ++ tail)) third.first (length tail) (next_front before (codes "-") (after ++ (w ++ tail)) g.blank dash_word (long_gap_stops after (w ++ tail) h)) third.is third.within;
    }

-- What is read of a text that begins with a word is the longest part.
pub longest_part : (w rest : List ℕ) (took : TakesForm (w ++ rest) (form_at w rest)) → IsWord w → Stops is_in_word rest → IsPartAt took.words (form_at w rest).1 (form_at w rest).0
longest_part w rest took is stops = record {
  is = took.is;
  longest = λ other after some same form.
      let far = form_furthest other after some form in
      let texts : other ++ after ≡ w ++ rest = same ∙ sym took.whole in
      let first : far.first ≡ (w, rest) = same_word far.first (w, rest) (sym far.here ∙ ap word_here texts ∙ word_front w rest is stops) in
      let within : length (form_at w rest).1 ≤ length after = subst (λ (x : List ℕ × List ℕ). length (form_at x.0 x.1).1 ≤ length after) first far.within in
      omega (arith, within, ap (length {A = ℕ}) same, length-append other after, length-append took.words (form_at w rest).1);
}

-- ---- one text has one form

record AloneAs (words : List ℕ) (form : Form) : Type 0 where
  first : List ℕ × List ℕ
  here : word_here (words ++ []) ≡ Some first
  form_is : form_at first.0 first.1 ≡ (form, [])

form_alone : (words : List ℕ) (form : Form) → IsFormOf words form → AloneAs words form
unfolding form_at
form_alone words form (word {w} is) = record { first = (w, []); here = word_front w [] is tt; form_is = refl }
form_alone words form (comparison {symbol} {gap} {w} {operator} is e g also) =
    let whole : (symbol ++ (gap ++ w)) ++ [] ≡ symbol ++ (gap ++ (w ++ [])) = simp append_assoc in
    let next : next_word (gap ++ (w ++ [])) ≡ Some (w, []) = next_front gap w [] g.blank also tt in
    let read : Form × List ℕ = (compared operator w, []) in
    record {
      first = (symbol, gap ++ (w ++ []));
      here = rw whole (word_front symbol (gap ++ (w ++ [])) is (long_gap_stops gap (w ++ []) g));
      form_is = rw (next, e) (elim (is_dash w) as (λ t. cond t read read ≡ read) [ true ↦ refl | false ↦ refl ]);
    }
form_alone words form (span {v} {before} {after} {w} is g h also) =
    let whole : (v ++ (before ++ (codes "-" ++ (after ++ w)))) ++ [] ≡ v ++ (before ++ (codes "-" ++ (after ++ (w ++ [])))) = simp append_assoc in
    record {
      first = (v, before ++ (codes "-" ++ (after ++ (w ++ []))));
      here = rw whole (word_front v (before ++ (codes "-" ++ (after ++ (w ++ [])))) is (long_gap_stops before (codes "-" ++ (after ++ (w ++ []))) g));
      form_is = range_form v before after w [] g h also (end_tail [] refl);
    }

one_form : (words : List ℕ) (form other : Form) → IsFormOf words form → IsFormOf words other → form ≡ other
one_form words form other is also =
    let one = form_alone words form is in
    let two = form_alone words other also in
    let same : one.first ≡ two.first = same_word one.first two.first (sym one.here ∙ two.here) in
    let pairs : (form, []) ≡ (other, []) = sym one.form_is ∙ ap (λ (x : List ℕ × List ℕ). form_at x.0 x.1) same ∙ two.form_is in
    ap (λ (x : Form × List ℕ). x.0) pairs

-- The longest part is what is read.
pub record ReadPart (words tail : List ℕ) (form : Form) : Type 0 where
  pub first : List ℕ × List ℕ
  pub here : word_here (words ++ tail) ≡ Some first
  pub form_is : form_at first.0 first.1 ≡ (form, tail)

pub part_read : (words tail : List ℕ) (form : Form) → IsPartAt words tail form → ReadPart words tail form
part_read words tail form is =
    let far = form_furthest words tail form is.is in
    let took = word_here_takes (words ++ tail) far.first far.here in
    let made = form_takes far.first.0 far.first.1 took.is took.stops in
    let left = (form_at far.first.0 far.first.1).1 in
    let texts : made.words ++ left ≡ words ++ tail = sym (took.whole ∙ made.whole) in
    let short = is.longest made.words left (form_at far.first.0 far.first.1).0 texts made.is in
    let lengths : length made.words ≡ length words = omega (arith, short, far.within, ap (length {A = ℕ}) texts, length-append made.words left, length-append words tail) in
    let split = same_split made.words left words tail texts lengths in
    let form_is : (form_at far.first.0 far.first.1).0 ≡ form = one_form words (form_at far.first.0 far.first.1).0 form (subst (λ (x : List ℕ). IsFormOf x (form_at far.first.0 far.first.1).0) split.0 made.is) is.is in
    record { first = far.first; here = far.here; form_is = λ i. (form_is i, split.1 i) }

-- ---- joints

joint_within : (left : List ℕ) (x : Joint × List ℕ) → joint_here left ≡ Some x → length x.1 ≤ length left
joint_within [] x e = absurd cc
joint_within (b ∷ bs) x e = by (b == 44) (is_bar b) e
  where
    same : (y z : Joint × List ℕ) → ◌≡◌ {A = Option (Joint × List ℕ)} (Some y) (Some z) → y.1 ≡ z.1
    same y z h = cc

    first_shorter : length (without_first is_bar bs) ≤ length (b ∷ bs)
    first_shorter = omega (arith, shorter bs)
      where
        shorter : (text : List ℕ) → length (without_first is_bar text) ≤ length text
        shorter [] = omega arith
        shorter (c ∷ cs) = elim (is_bar c) as (λ t. length (cond t cs (c ∷ cs)) ≤ length (c ∷ cs)) [ true ↦ omega arith | false ↦ omega arith ]

    by : (c d : Bool) → cond c (Some (joints.Comma, bs)) (cond d (Some (joints.Bar, without_first is_bar bs)) (Some (joints.Blanks, b ∷ bs))) ≡ Some x → length x.1 ≤ length (b ∷ bs)
    by true d h = rw (← same (joints.Comma, bs) x h) (omega arith)
    by false true h = rw (← same (joints.Bar, without_first is_bar bs) x h) first_shorter
    by false false h = rw (← same (joints.Blanks, b ∷ bs) x h) (omega arith)

pub joint_shorter : (text : List ℕ) (x : Joint × List ℕ) → joint_at text ≡ Some x → length x.1 ≤ length text
joint_shorter text x e = omega (arith, joint_within (without_blanks_before text) x e, fewer_blanks text)

second_of : (x y : Joint × List ℕ) → ◌≡◌ {A = Option (Joint × List ℕ)} (Some x) (Some y) → x.1 ≡ y.1
second_of x y e = cc

-- one bar, where another may follow
bar_left : (after rest : List ℕ) → IsBlanks after → length (without_blanks_before (without_first is_bar (after ++ rest))) ≤ length rest
bar_left [] [] blank = omega arith
bar_left [] (b ∷ bs) blank = elim (is_bar b) as (λ t. length (without_blanks_before (cond t bs (b ∷ bs))) ≤ length (b ∷ bs)) [
  | true ↦ omega (arith, fewer_blanks bs)
  | false ↦ fewer_blanks (b ∷ bs)
]
bar_left (c ∷ cs) rest blank = rw (blank_no_bar c (both (is_blank c) (list_all is_blank cs) blank).0) (blanks_passed (c ∷ cs) rest blank)

-- what is read of a joint reaches as far as any
joint_furthest : (other after : List ℕ) (some : Joint) (x : Joint × List ℕ) → IsJoint other some → joint_at (other ++ after) ≡ Some x → length (without_blanks_before x.1) ≤ length after
joint_furthest other after some x (blanks {gap} g) e =
    omega (arith, fewer_blanks x.1, joint_within (without_blanks_before (gap ++ after)) x e, blanks_passed gap after g.blank)
joint_furthest other after some x (comma before behind p q) e =
    let whole : (before ++ (codes "," ++ behind)) ++ after ≡ before ++ (44 ∷ (behind ++ after)) = append_assoc before (codes "," ++ behind) after in
    let front : without_blanks_before ((before ++ (codes "," ++ behind)) ++ after) ≡ 44 ∷ (behind ++ after) = rw whole (blanks_front before (44 ∷ (behind ++ after)) p refl) in
    let left : behind ++ after ≡ x.1 = second_of (joints.Comma, behind ++ after) x (rw front at e) in
    rw (← left) (blanks_passed behind after q)
joint_furthest other after some x (bar before mark behind p (inl m) q) e =
    let whole : (before ++ (mark ++ behind)) ++ after ≡ before ++ (124 ∷ (behind ++ after)) = rw m (append_assoc before (codes "|" ++ behind) after) in
    let front : without_blanks_before ((before ++ (mark ++ behind)) ++ after) ≡ 124 ∷ (behind ++ after) = rw whole (blanks_front before (124 ∷ (behind ++ after)) p refl) in
    let left : without_first is_bar (behind ++ after) ≡ x.1 = second_of (joints.Bar, without_first is_bar (behind ++ after)) x (rw front at e) in
    rw (← left) (bar_left behind after q)
joint_furthest other after some x (bar before mark behind p (inr m) q) e =
    let whole : (before ++ (mark ++ behind)) ++ after ≡ before ++ (124 ∷ 124 ∷ (behind ++ after)) = rw m (append_assoc before (codes "||" ++ behind) after) in
    let front : without_blanks_before ((before ++ (mark ++ behind)) ++ after) ≡ 124 ∷ 124 ∷ (behind ++ after) = rw whole (blanks_front before (124 ∷ 124 ∷ (behind ++ after)) p refl) in
    let left : behind ++ after ≡ x.1 = second_of (joints.Bar, behind ++ after) x (rw front at e) in
    rw (← left) (blanks_passed behind after q)

-- What is read is the longest joint.
pub record ReadJoint (text : List ℕ) (x : Joint × List ℕ) : Type 0 where
  pub between : List ℕ
  pub whole : text ≡ between ++ without_blanks_before x.1
  pub is : IsJointAt between (without_blanks_before x.1) x.0

pub longest_joint : (text : List ℕ) (x : Joint × List ℕ) → Stops is_in_word text → joint_at text ≡ Some x → ReadJoint text x
longest_joint text x stops e =
    let took = joint_takes text x stops e in
    let cut = trimmed_front x.1 in
    let whole : text ≡ (took.taken ++ cut.before) ++ without_blanks_before x.1 = took.whole ∙ ap (λ (y : List ℕ). took.taken ++ y) cut.whole ∙ sym (append_assoc took.taken cut.before (without_blanks_before x.1)) in
    record {
      between = took.taken ++ cut.before;
      whole = whole;
      is = record {
        is = took.joins cut.before cut.blank;
        longest = λ other after some same joint.
            let here : joint_at (other ++ after) ≡ Some x = ap joint_at (same ∙ sym whole) ∙ e in
            omega (arith, joint_furthest other after some x joint here, ap (length {A = ℕ}) same, length-append other after, length-append (took.taken ++ cut.before) (without_blanks_before x.1));
      };
    }

-- one text is one kind of joint
x_first : First (codes "x")
x_first = record { word = codes "x"; after = []; whole = refl; is = record { some = omega arith; all = refl }; stops = tt; no_dash = refl }

one_joint : (between : List ℕ) (joint other : Joint) → IsJoint between joint → IsJoint between other → joint ≡ other
one_joint between joint other is also =
    let one = joined_reads between (codes "x") joint is x_first in
    let two = joined_reads between (codes "x") other also x_first in
    first_of (joint, one.left ++ codes "x") (other, two.left ++ codes "x") (sym one.reads ∙ two.reads)
  where
    first_of : (x y : Joint × List ℕ) → ◌≡◌ {A = Option (Joint × List ℕ)} (Some x) (Some y) → x.0 ≡ y.0
    first_of x y e = cc

-- The longest joint is what is read, where something stands behind blanks.
pub record JointRead (between rest : List ℕ) (joint : Joint) : Type 0 where
  pub left : List ℕ
  pub reads : joint_at (between ++ rest) ≡ Some (joint, left)
  pub front : without_blanks_before left ≡ rest

no_some : (x : Joint × List ℕ) → ◌≡◌ {A = Option (Joint × List ℕ)} (Some x) None → ⊥
no_some x e = cc

some_joint : (between rest : List ℕ) (joint : Joint) → IsJoint between joint → ((other after : List ℕ) (some : Joint) → other ++ after ≡ between ++ rest → IsJoint other some → length other ≤ length between) → (joint ≡ joints.Blanks → 0 < length rest)
    → joint_at (between ++ rest) ≡ None → ⊥
some_joint between rest joint (blanks {gap} g) longest behind none =
    let long : IsGap (gap ++ rest) = record { some = omega (arith, length-append gap rest, g.some); blank = no_joint (gap ++ rest) none } in
    let short = longest (gap ++ rest) [] joints.Blanks (append-nil (gap ++ rest)) (blanks long) in
    omega (arith, short, behind refl, length-append gap rest)
some_joint between rest joint (comma before after p q) longest behind none =
    let whole : (before ++ (codes "," ++ after)) ++ rest ≡ before ++ (44 ∷ (after ++ rest)) = append_assoc before (codes "," ++ after) rest in
    let front : without_blanks_before ((before ++ (codes "," ++ after)) ++ rest) ≡ 44 ∷ (after ++ rest) = rw whole (blanks_front before (44 ∷ (after ++ rest)) p refl) in
    no_some (joints.Comma, after ++ rest) (rw front at none)
some_joint between rest joint (bar before mark after p (inl m) q) longest behind none =
    let whole : (before ++ (mark ++ after)) ++ rest ≡ before ++ (124 ∷ (after ++ rest)) = rw m (append_assoc before (codes "|" ++ after) rest) in
    let front : without_blanks_before ((before ++ (mark ++ after)) ++ rest) ≡ 124 ∷ (after ++ rest) = rw whole (blanks_front before (124 ∷ (after ++ rest)) p refl) in
    no_some (joints.Bar, without_first is_bar (after ++ rest)) (rw front at none)
some_joint between rest joint (bar before mark after p (inr m) q) longest behind none =
    let whole : (before ++ (mark ++ after)) ++ rest ≡ before ++ (124 ∷ 124 ∷ (after ++ rest)) = rw m (append_assoc before (codes "||" ++ after) rest) in
    let front : without_blanks_before ((before ++ (mark ++ after)) ++ rest) ≡ 124 ∷ 124 ∷ (after ++ rest) = rw whole (blanks_front before (124 ∷ 124 ∷ (after ++ rest)) p refl) in
    no_some (joints.Bar, after ++ rest) (rw front at none)

pub joint_read : (between rest : List ℕ) (joint : Joint) → IsJointAt between rest joint → (joint ≡ joints.Blanks → 0 < length rest) → JointRead between rest joint
joint_read between rest joint is some = by (joint_at (between ++ rest)) refl
  where
    by : (o : Option (Joint × List ℕ)) → joint_at (between ++ rest) ≡ o → JointRead between rest joint
    by None e = absurd (some_joint between rest joint is.is is.longest some e)
    by (Some x) e =
        let read = longest_joint (between ++ rest) x (joint_stops between rest joint is.is) e in
        let texts : read.between ++ without_blanks_before x.1 ≡ between ++ rest = sym read.whole in
        let short = is.longest read.between (without_blanks_before x.1) x.0 texts read.is.is in
        let within = joint_furthest between rest joint x is.is e in
        let lengths : length read.between ≡ length between = omega (arith, short, within, ap (length {A = ℕ}) texts, length-append read.between (without_blanks_before x.1), length-append between rest) in
        let split = same_split read.between (without_blanks_before x.1) between rest texts lengths in
        let kind : x.0 ≡ joint = one_joint between x.0 joint (subst (λ (y : List ℕ). IsJoint y x.0) split.0 read.is.is) is.is in
        record { left = x.1; reads = e ∙ ap (λ (k : Joint). Some (k, x.1)) kind; front = split.1 }
