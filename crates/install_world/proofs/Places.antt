-- The place at which a text leaves a grammar of lines: at its first line, or further on.
use Rattle.std.proofs.Common.{◌≡◌, ◌≢◌, ℕ, ◌+◌, true, List, [], ◌∷◌, ◌++◌, length, refl, sym, ap, ◌∙◌, append_assoc, inl, inr, subst}
use Rattle.std.specs.Prelude.{◌↔◌, ◌⊎◌}
use Rattle.std.proofs.lemmas.List.{length-append, append-nil}
use Rattle.install_world.specs.Lines.{line, is_one_line, IsWholeLines, Begins, IsBadFrom}
use Rattle.install_world.proofs.Cuts.{same_first, one_cut, no_cut}

-- Behind a front, a grammar goes on as another.
abbrev pub GoesOn : (List ℕ → Type 0) → List ℕ → (List ℕ → Type 0) → Type 0
GoesOn IsText front IsRest = (rest : List ℕ) → (IsText (front ++ rest) ↔ IsRest rest)

pub goes_on_at_once : (IsText : List ℕ → Type 0) → GoesOn IsText [] IsText
goes_on_at_once IsText rest = (λ is. is, λ is. is)

pub goes_on_further : (IsText IsNext IsRest : List ℕ → Type 0) (front next : List ℕ)
    → GoesOn IsText front IsNext → GoesOn IsNext next IsRest → GoesOn IsText (front ++ next) IsRest
goes_on_further IsText IsNext IsRest front next on further rest = (
  λ is. (further rest).0 ((on (next ++ rest)).0 (subst IsText (append_assoc front next rest) is)),
  λ is. subst IsText (sym (append_assoc front next rest)) ((on (next ++ rest)).1 ((further rest).1 is)),
)

pub whole_further : (front next : List ℕ) → IsWholeLines front → IsWholeLines next → IsWholeLines (front ++ next)
whole_further front next whole (inl none) = subst IsWholeLines (sym (ap (λ rest. front ++ rest) none ∙ append-nil front)) whole
whole_further front next whole (inr some) = inr (front ++ some.0, ap (λ rest. front ++ rest) some.1 ∙ sym (append_assoc front some.0 (10 ∷ [])))

-- what is bad behind whole lines is bad at its place in the whole
pub bad_further : (IsText IsRest : List ℕ → Type 0) (front text : List ℕ) (at : ℕ)
    → IsWholeLines front → GoesOn IsText front IsRest → IsBadFrom IsRest text at → IsBadFrom IsText (front ++ text) (length front + at)
bad_further IsText IsRest front text at whole on bad = record {
  front = front ++ bad.front;
  rest = bad.rest;
  cut = ap (λ rest. front ++ rest) bad.cut ∙ sym (append_assoc front bad.front bad.rest);
  place = ap (λ n. length front + n) bad.place ∙ sym (length-append front bad.front);
  whole = whole_further front bad.front whole bad.whole;
  begins = (bad.begins.0, subst IsText (sym (append_assoc front bad.front bad.begins.0)) ((on (bad.front ++ bad.begins.0)).1 bad.begins.1));
  no_further = λ words after cut begins. bad.no_further words after cut (
    begins.0,
    (on ((bad.front ++ line words) ++ begins.0)).0 (subst IsText (regroup bad.front (line words) begins.0) begins.1),
  );
  no_text = λ is. bad.no_text ((on text).0 is);
}
  where
    regroup : (middle words more : List ℕ) → (((front ++ middle) ++ words) ++ more) ≡ (front ++ ((middle ++ words) ++ more))
    regroup middle words more = ap (λ text. text ++ more) (append_assoc front middle words) ∙ append_assoc front (middle ++ words) more

-- every text of a grammar begins with a line like this
pub record FirstOf (IsWords : List ℕ → Type 0) (text : List ℕ) : Type 0 where
  pub words : List ℕ
  pub after : List ℕ
  pub is_words : IsWords words
  pub one : is_one_line words ≡ true
  pub cut : text ≡ words ++ 10 ∷ after

abbrev pub HasFirst : (List ℕ → Type 0) → (List ℕ → Type 0) → Type 0
HasFirst IsText IsWords = (text : List ℕ) → IsText text → FirstOf IsWords text

-- a text without a line is bad at its front
pub bad_without_line : (IsText IsWords : List ℕ → Type 0) (text some : List ℕ) → IsText some → HasFirst IsText IsWords
    → is_one_line text ≡ true → IsBadFrom IsText text 0
bad_without_line IsText IsWords text some is has one = record {
  front = [];
  rest = text;
  cut = refl;
  place = refl;
  whole = inl refl;
  begins = (some, is);
  no_further = λ words after cut begins. no_cut text words after one cut;
  no_text = λ text_is. let first = has text text_is in no_cut text first.words first.after one first.cut;
}

-- a text whose first line is none that a text of the grammar has is bad there
pub bad_line : (IsText IsWords : List ℕ → Type 0) (text some words after : List ℕ) → IsText some → HasFirst IsText IsWords
    → is_one_line words ≡ true → text ≡ words ++ 10 ∷ after → (IsWords words → ⊥) → IsBadFrom IsText text 0
bad_line IsText IsWords text some words after is has one cut no_words = record {
  front = [];
  rest = text;
  cut = refl;
  place = refl;
  whole = inl refl;
  begins = (some, is);
  no_further = λ further behind is_cut begins. none further behind is_cut begins.0 begins.1;
  no_text = λ text_is. let first = has text text_is in
      no_words (subst IsWords (one_cut first.words first.after words after first.one one (sym first.cut ∙ cut)).0 first.is_words);
}
  where
    none : (further behind : List ℕ) → text ≡ further ++ 10 ∷ behind → (more : List ℕ) → IsText (line further ++ more) → ⊥
    none further behind is_cut more begins =
        let first = has (line further ++ more) begins in
        let same = same_first first.words first.after words after further more behind first.one one
        (sym first.cut ∙ append_assoc further (10 ∷ []) more) (sym cut ∙ is_cut) in
        no_words (subst IsWords same first.is_words)

-- ---- a text leaves a grammar at one place

abbrev tail_of : List ℕ → List ℕ
tail_of [] = []
tail_of (x ∷ xs) = xs

abbrev head_of : List ℕ → ℕ
head_of [] = 0
head_of (x ∷ xs) = x

abbrev pub IsCutFurther : List ℕ → List ℕ → List ℕ → List ℕ → Type 0
IsCutFurther front rest longer shorter = (middle : List ℕ) × (longer ≡ front ++ middle) × (rest ≡ middle ++ shorter)

two_cuts : (front rest other behind : List ℕ) → front ++ rest ≡ other ++ behind
    → IsCutFurther front rest other behind ⊎ IsCutFurther other behind front rest
two_cuts [] rest other behind e = inl (other, refl, e)
two_cuts (x ∷ xs) rest [] behind e = inr (x ∷ xs, refl, sym e)
two_cuts (x ∷ xs) rest (y ∷ ys) behind e =
    let first : x ≡ y = ap head_of e in
    elim (two_cuts xs rest ys behind (ap tail_of e)) [
      | inl cut ↦ inl (cut.0, ap (λ bytes. y ∷ bytes) cut.1 ∙ ap (λ byte. byte ∷ (xs ++ cut.0)) (sym first), cut.2)
      | inr cut ↦ inr (cut.0, ap (λ bytes. x ∷ bytes) cut.1 ∙ ap (λ byte. byte ∷ (ys ++ cut.0)) first, cut.2)
    ]

ends_so : (front middle words : List ℕ) → middle ≢ [] → front ++ middle ≡ line words → (last : List ℕ) × (middle ≡ line last)
ends_so [] middle words some e = (words, e)
ends_so (x ∷ xs) middle [] some e = absurd (none xs middle some (ap tail_of e))
  where
    none : (xs middle : List ℕ) → middle ≢ [] → xs ++ middle ≡ [] → ⊥
    none [] middle some e = some e
    none (x ∷ xs) middle some e = cc e
ends_so (x ∷ xs) middle (w ∷ ws) some e = ends_so xs middle ws some (ap tail_of e)

last_line : (front middle : List ℕ) → middle ≢ [] → IsWholeLines (front ++ middle) → (last : List ℕ) × (middle ≡ line last)
last_line [] middle some (inl e) = absurd (some e)
last_line (x ∷ xs) middle some (inl e) = absurd (cc e)
last_line front middle some (inr words) = ends_so front middle words.0 some words.1

no_longer : (IsText : List ℕ → Type 0) (text : List ℕ) (at further : ℕ) (bad : IsBadFrom IsText text at) (longer : IsBadFrom IsText text further)
    → IsCutFurther bad.front bad.rest longer.front longer.rest → at ≡ further
no_longer IsText text at further bad longer ([], front, rest) =
    bad.place ∙ ap length (sym (append-nil bad.front) ∙ sym front) ∙ sym longer.place
no_longer IsText text at further bad longer (x ∷ xs, front, rest) =
    let last = last_line bad.front (x ∷ xs) (λ e. cc e) (subst IsWholeLines front longer.whole) in
    absurd (bad.no_further last.0 longer.rest
    (rest ∙ ap (λ bytes. bytes ++ longer.rest) last.1 ∙ append_assoc last.0 (10 ∷ []) longer.rest)
    (subst (Begins IsText) (front ∙ ap (λ bytes. bad.front ++ bytes) last.1) longer.begins))

pub one_place : (IsText : List ℕ → Type 0) (text : List ℕ) (first second : ℕ) → IsBadFrom IsText text first → IsBadFrom IsText text second → first ≡ second
one_place IsText text first second bad other =
    elim (two_cuts bad.front bad.rest other.front other.rest (sym bad.cut ∙ other.cut)) [
      | inl cut ↦ no_longer IsText text first second bad other cut
      | inr cut ↦ sym (no_longer IsText text second first other bad cut)
    ]
