-- Several elements that are open: what one piece of the innermost does to them.
use Rattle.std.proofs.Common.{◌≡◌, ℕ, zero, suc, ◌+◌, ◌-◌, ◌^◌, ◌<◌, ◌≤◌, List, [], ◌∷◌, ◌++◌, length, drop, refl, sym, ap, subst, ◌∙◌, add-one, arith}
use Rattle.std.proofs.lemmas.List.{length-append}
use Rattle.php_lex.specs.declared.opening.Opening.{Opening}
use Rattle.php_lex.specs.declared.opening.Opening.TheVariants as openings
use Rattle.php_lex.specs.declared.nested.Open.{Open}
use Rattle.php_lex.specs.Quotes.{Element, Single, Double, Nowdoc, Heredoc, Nested}
use Rattle.php_lex.specs.Elements.{Close, Child, piece_in, Allows, Ends, close, child}
use Rattle.php_lex.specs.Openings.{element_of}
use Rattle.php_lex.specs.Pieces.{SameEnd, Passes, Arrives}
use Rattle.php_lex.specs.Stacks.{outside, AllEnd, braces_on, frames_on, stack_on, stack_of, innermost_by, innermost, levels_of, HasRoom, SameAll}
use Rattle.php_lex.proofs.Ends.{after_close, after_child, never}

allows_outside : (l : ℕ) (o : Element) (i : ℕ) → Allows l o i → outside i o ≡ l
allows_outside l Nested i a = a
allows_outside l Single i a = sym a
allows_outside l (Double q) i a = sym a
allows_outside l (Nowdoc t) i a = sym a
allows_outside l (Heredoc t) i a = sym a

suc_same : (a b : ℕ) → suc a ≡ suc b → a ≡ b
suc_same a b e = omega arith

pub allows_same : (l : ℕ) (o : Element) (i j : ℕ) → Allows l o i → Allows l o j → i ≡ j
allows_same l Nested i j a b = a ∙ sym b
allows_same l Single i j a b = suc_same i j (sym a ∙ b)
allows_same l (Double q) i j a b = suc_same i j (sym a ∙ b)
allows_same l (Nowdoc t) i j a b = suc_same i j (sym a ∙ b)
allows_same l (Heredoc t) i j a b = suc_same i j (sym a ∙ b)

pub allows_quoted : (l : ℕ) (o : Opening) (i : ℕ) → l ≡ suc i → Allows l (element_of o) i
allows_quoted l openings.Single i e = e
allows_quoted l openings.Double i e = e
allows_quoted l openings.Backtick i e = e
allows_quoted l (openings.Nowdoc t) i e = e
allows_quoted l (openings.Heredoc t) i e = e

pub none_allowed : (l : ℕ) (o : Opening) (i : ℕ) → l ≡ 0 → Allows l (element_of o) i → ⊥
none_allowed l openings.Single i z a = absurd (omega arith)
none_allowed l openings.Double i z a = absurd (omega arith)
none_allowed l openings.Backtick i z a = absurd (omega arith)
none_allowed l (openings.Nowdoc t) i z a = absurd (omega arith)
none_allowed l (openings.Heredoc t) i z a = absurd (omega arith)

pub outside_quoted : (l : ℕ) (o : Opening) → outside l (element_of o) ≡ suc l
outside_quoted l openings.Single = refl
outside_quoted l openings.Double = refl
outside_quoted l openings.Backtick = refl
outside_quoted l (openings.Nowdoc t) = refl
outside_quoted l (openings.Heredoc t) = refl

-- ---- what a piece does

pub all_refl : (l : ℕ) (es : List Element) (t : List ℕ) → SameAll l es t l es t
all_refl l es t = record { on = λ r x. x; back = λ r x. x }

pub all_trans : {l m n : ℕ} {es fs gs : List Element} {a b c : List ℕ} → SameAll l es a m fs b → SameAll m fs b n gs c → SameAll l es a n gs c
all_trans f g = record { on = λ r x. g.on r (f.on r x); back = λ r x. f.back r (g.back r x) }

pub all_same : (l : ℕ) (e : Element) (es : List Element) (a b : List ℕ) → SameEnd e a b → SameAll l (e ∷ es) a l (e ∷ es) b
all_same l e es a b s = record { on = λ r x. (x.0, s.on l x.0 x.1, x.2); back = λ r x. (x.0, s.back l x.0 x.1, x.2) }

pub all_close : (l : ℕ) (e : Element) (es : List Element) (t n : List ℕ) → piece_in e t ≡ Close n → SameAll l (e ∷ es) t (outside l e) es n
all_close l e es t n p = record {
  on = λ r x. subst (λ (a : List ℕ). AllEnd (outside l e) es a r) (sym (after_close p x.1)) x.2;
  back = λ r x. (n, close p, x);
}

pub all_child : (l i : ℕ) (e o : Element) (es : List Element) (t n : List ℕ) → piece_in e t ≡ Child o n → Allows l o i → SameAll l (e ∷ es) t i (o ∷ e ∷ es) n
all_child l i e o es t n p allows =
    let out = allows_outside l o i allows in
    record {
      on = λ r x.
          let h = after_child p x.1 in (
            h.after,
            subst (λ (k : ℕ). Ends k o n h.after) (allows_same l o h.inner i h.allows allows) h.ends,
            subst (λ (k : ℕ). AllEnd k (e ∷ es) h.after r) (sym out) (x.0, h.rest, x.2),
          );
      back = λ r x.
          let y = subst (λ (k : ℕ). AllEnd k (e ∷ es) x.0 r) out x.2 in
          (y.0, child p allows x.1 y.1, y.2);
    }

pub all_deep : (l : ℕ) (e : Element) (o : Opening) (es : List Element) (t n r : List ℕ) → piece_in e t ≡ Child (element_of o) n → l ≡ 0 → AllEnd l (e ∷ es) t r → ⊥
all_deep l e o es t n r p z x = let h = after_child p x.1 in none_allowed l o h.inner z h.allows

-- ---- the innermost of a stack

pub outer_by : ℕ → Opening → List Element → List Element
outer_by zero o es = es
outer_by (suc n) o es = braces_on n (element_of o ∷ es)

by_innermost : (n : ℕ) (o : Opening) (es : List Element) → braces_on n (element_of o ∷ es) ≡ innermost_by n o ∷ outer_by n o es
unfolding outer_by
by_innermost zero o es = refl
by_innermost (suc n) o es = refl

pub outer_of : Open → List Open → List Element
outer_of top below = outer_by top.braces top.opening (stack_on below [])

pub stack_is : (top : Open) (below : List Open) → stack_of top below ≡ innermost top ∷ outer_of top below
unfolding outer_of
stack_is top below = by_innermost top.braces top.opening (stack_on below [])

pub none_at_end : (l : ℕ) (top : Open) (below : List Open) (r : List ℕ) → AllEnd l (stack_of top below) [] r → ⊥
none_at_end l top below r x = let y = subst (λ (s : List Element). AllEnd l s [] r) (stack_is top below) x in never y.1

-- ---- one more element, or one fewer

pub stack_on-push : (below : List Open) (top : Open) (es : List Element) → stack_on (below ++ top ∷ []) es ≡ frames_on top (stack_on below es)
stack_on-push [] top es = refl
stack_on-push (o ∷ os) top es = stack_on-push os top (frames_on o es)

pub room_less : (n m : ℕ) (os : List Open) → n ≤ m → HasRoom m os → HasRoom n os
room_less n m [] le h = tt
room_less n m (o ∷ os) le h = (let a = h.0 in omega arith, room_less n m os le h.1)

pub room_push : (n : ℕ) (os : List Open) (o : Open) → HasRoom n os → o.braces + n < 2 ^ 64 → HasRoom n (os ++ o ∷ [])
room_push n [] o h lt = (lt, tt)
room_push n (p ∷ os) o h lt = (h.0, room_push n os o h.1 lt)

pub room_pop : (n : ℕ) (os : List Open) (o : Open) → HasRoom n (os ++ o ∷ []) → HasRoom n os × (o.braces + n < 2 ^ 64)
room_pop n [] o h = (tt, h.0)
room_pop n (p ∷ os) o h = let more = room_pop n os o h.1 in ((h.0, more.0), more.1)

-- ---- the steps, by the kind of the piece

brace_closed : (l n : ℕ) (o : Opening) (es : List Element) (text place rest : List ℕ) → SameEnd (innermost_by n o) text place → piece_in (innermost_by n o) place ≡ Close rest → 0 < n
    → SameAll l (braces_on n (element_of o ∷ es)) text l (braces_on (n - 1) (element_of o ∷ es)) rest
brace_closed l zero o es text place rest same p lt = absurd (omega arith)
brace_closed l (suc m) o es text place rest same p lt =
    let e : m ≡ suc m - 1 = omega arith in
    subst (λ (k : ℕ). SameAll l (Nested ∷ braces_on m (element_of o ∷ es)) text l (braces_on k (element_of o ∷ es)) rest) e
    (all_trans (all_same l Nested (braces_on m (element_of o ∷ es)) text place same) (all_close l Nested (braces_on m (element_of o ∷ es)) place rest p))

element_closed : (l n : ℕ) (o : Opening) (es : List Element) (text place rest : List ℕ) → SameEnd (innermost_by n o) text place → piece_in (innermost_by n o) place ≡ Close rest → n ≤ 0
    → SameAll l (braces_on n (element_of o ∷ es)) text (suc l) es rest
element_closed l zero o es text place rest same p le =
    subst (λ (k : ℕ). SameAll l (element_of o ∷ es) text k es rest) (outside_quoted l o)
    (all_trans (all_same l (element_of o) es text place same) (all_close l (element_of o) es place rest p))
element_closed l (suc m) o es text place rest same p le = absurd (omega arith)

pub close_brace : (top : Open) (below : List Open) (text : List ℕ) (len : ℕ) → Arrives (innermost top) text len Close → 0 < top.braces
    → SameAll (levels_of below) (stack_of top below) text (levels_of below) (stack_of (record { opening = top.opening; braces = top.braces - 1 }) below) (drop len text)
close_brace top below text len a lt = brace_closed (levels_of below) top.braces top.opening (stack_on below []) text a.place (drop len text) a.same a.is_piece lt

pub close_outer : (top : Open) (below left : List Open) (outer : Open) (text : List ℕ) (len : ℕ) → below ≡ left ++ outer ∷ [] → length below ≤ 32 → Arrives (innermost top) text len Close → top.braces ≤ 0
    → SameAll (levels_of below) (stack_of top below) text (levels_of left) (stack_of outer left) (drop len text)
close_outer top below left outer text len e le a z =
    let size : length below ≡ length left + 1 = ap length e ∙ length-append left (outer ∷ []) in
    let levels : suc (levels_of below) ≡ levels_of left = omega arith in
    let stack : stack_on below [] ≡ stack_of outer left = ap (λ (b : List Open). stack_on b []) e ∙ stack_on-push left outer [] in
    let s = element_closed (levels_of below) top.braces top.opening (stack_on below []) text a.place (drop len text) a.same a.is_piece z in
    subst (λ (k : ℕ). SameAll (levels_of below) (stack_of top below) text k (stack_of outer left) (drop len text)) levels
    (subst (λ (es : List Element). SameAll (levels_of below) (stack_of top below) text (suc (levels_of below)) es (drop len text)) stack s)

pub close_last : (top : Open) (below : List Open) (text : List ℕ) (len : ℕ) → below ≡ [] → Arrives (innermost top) text len Close → top.braces ≤ 0
    → AllEnd (levels_of below) (stack_of top below) text (drop len text)
close_last top below text len e a z =
    let s = element_closed (levels_of below) top.braces top.opening (stack_on below []) text a.place (drop len text) a.same a.is_piece z in
    s.back (drop len text) (subst (λ (b : List Open). AllEnd (suc (levels_of below)) (stack_on b []) (drop len text) (drop len text)) (sym e) refl)

-- the same for a stack by its innermost element
by_stack : (l m : ℕ) (top : Open) (below : List Open) (fs : List Element) (a b : List ℕ) → SameAll l (innermost top ∷ outer_of top below) a m fs b → SameAll l (stack_of top below) a m fs b
by_stack l m top below fs a b s = subst (λ (es : List Element). SameAll l es a m fs b) (sym (stack_is top below)) s

pub pass : (top : Open) (below : List Open) (text : List ℕ) (len : ℕ) → Passes (innermost top) text len → SameAll (levels_of below) (stack_of top below) text (levels_of below) (stack_of top below) (drop len text)
pass top below text len p =
    let l = levels_of below in
    by_stack l l top below (stack_of top below) text (drop len text)
    (subst (λ (es : List Element). SameAll l (innermost top ∷ outer_of top below) text l es (drop len text)) (sym (stack_is top below))
    (all_same l (innermost top) (outer_of top below) text (drop len text) p.same))

opened : (l m : ℕ) (top : Open) (below : List Open) (o : Element) (text : List ℕ) (len : ℕ) → Arrives (innermost top) text len (Child o) → Allows l o m
    → SameAll l (stack_of top below) text m (o ∷ stack_of top below) (drop len text)
opened l m top below o text len a allows =
    by_stack l m top below (o ∷ stack_of top below) text (drop len text)
    (subst (λ (es : List Element). SameAll l (innermost top ∷ outer_of top below) text m (o ∷ es) (drop len text)) (sym (stack_is top below))
    (all_trans (all_same l (innermost top) (outer_of top below) text a.place a.same) (all_child l m (innermost top) o (outer_of top below) a.place (drop len text) a.is_piece allows)))

pub open_brace : (top : Open) (below : List Open) (text : List ℕ) (len : ℕ) → Arrives (innermost top) text len (Child Nested)
    → SameAll (levels_of below) (stack_of top below) text (levels_of below) (stack_of (record { opening = top.opening; braces = top.braces + 1 }) below) (drop len text)
open_brace top below text len a =
    let l = levels_of below in
    subst (λ (n : ℕ). SameAll l (stack_of top below) text l (braces_on n (element_of top.opening ∷ stack_on below [])) (drop len text)) (sym (add-one top.braces))
    (opened l l top below Nested text len a refl)

pub open_quoted : (top : Open) (below more : List Open) (o : Opening) (text : List ℕ) (len : ℕ) → more ≡ below ++ top ∷ [] → length below < 32 → Arrives (innermost top) text len (Child (element_of o))
    → SameAll (levels_of below) (stack_of top below) text (levels_of more) (stack_of (record { opening = o; braces = 0 }) more) (drop len text)
open_quoted top below more o text len e lt a =
    let size : length more ≡ length below + 1 = ap length e ∙ length-append below (top ∷ []) in
    let levels : levels_of below ≡ suc (levels_of more) = omega arith in
    let stack : stack_of top below ≡ stack_on more [] = sym (ap (λ (b : List Open). stack_on b []) e ∙ stack_on-push below top []) in
    subst (λ (es : List Element). SameAll (levels_of below) (stack_of top below) text (levels_of more) (element_of o ∷ es) (drop len text)) stack
    (opened (levels_of below) (levels_of more) top below (element_of o) text len a (allows_quoted (levels_of below) o (levels_of more) levels))

pub open_deep : (top : Open) (below : List Open) (o : Opening) (text : List ℕ) (len : ℕ) → 32 ≤ length below → Arrives (innermost top) text len (Child (element_of o))
    → (rest : List ℕ) → AllEnd (levels_of below) (stack_of top below) text rest → ⊥
open_deep top below o text len le a rest x =
    let l = levels_of below in
    let y = subst (λ (es : List Element). AllEnd l es text rest) (stack_is top below) x in
    let z = (all_same l (innermost top) (outer_of top below) text a.place a.same).on rest y in
    all_deep l (innermost top) o (outer_of top below) a.place (drop len text) rest a.is_piece (omega arith) z

pub empty_of : (xs : List Open) → (0 < length xs → ⊥) → xs ≡ []
empty_of [] h = refl
empty_of (x ∷ xs) h = absurd (h (omega arith))
