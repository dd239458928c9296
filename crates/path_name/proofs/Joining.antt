-- Texts cut at `/`, and segments joined by it.
use Rattle.std.proofs.Common.{Option, None, ◌≡◌, ◌≢◌, ℕ, suc, ◌+◌, ◌-◌, ◌<◌, ◌≤◌, Bool, true, false, cond, eqb, List, [], ◌∷◌, ◌++◌, length, get_or, take, drop, Some, refl, sym, ap, ◌∙◌, append_assoc, arith, inl, inr}
use Rattle.std.specs.Prelude.{not, ◌&&◌, MatchOption}
use Rattle.std.specs.Borrow.{Bor}
use Rattle.std.specs.List.{slice_split, onto_first, join_with_byte, list_all, count_by}
use Rattle.std.proofs.lemmas.Bool.Decides.{eqb_tells}
use Rattle.std.proofs.lemmas.List.{take-append-drop, drop_more, length-append, append-nil, take_at, take_all, drop_at, drop_all, length-take, length-take-le, length-drop, take-take, get_or-take, get_or-drop}
use Rattle.std.proofs.lemmas.List.Folds.{list_all-append}
use Rattle.std.proofs.lemmas.List.Splits.{join_with_byte-slice_split, length-slice_split}
use Rattle.path_name.specs.Paths.{is_slash, has_no_slash, is_clean, is_here, is_above, is_segment, IsPath, BeginsWith, IsBehind, EndsWith, path_text, without_last}
use Rattle.path_name.specs.Joined.{segments_of, set_off, IsSetOff, IsRestOf, HasNoSlash, IsSlashAt}

abbrev pub split : List ℕ → List (List ℕ)
split text = slice_split is_slash text

pub both_true : (a b : Bool) → (a && b) ≡ true → (a ≡ true) × (b ≡ true)
both_true true b e = (refl, e)
both_true false b e = absurd cc

pub not_true : (a : Bool) → not a ≡ true → a ≡ false
not_true true e = absurd cc
not_true false e = refl

-- ---- texts without a `/`

pub no_slash : (text : List ℕ) → ((k : ℕ) → k < length text → get_or text k 0 ≢ 47) → has_no_slash text ≡ true
no_slash [] h = refl
no_slash (x ∷ xs) h =
    let e : eqb x 47 ≡ false = elim (eqb_tells x 47) [ inl p ↦ absurd (h 0 (omega arith) p.1) | inr p ↦ p.0 ] in
    let r : has_no_slash xs ≡ true = no_slash xs (λ k below. h (suc k) (omega arith)) in
    rw (e, r) refl

pub split_whole : (text : List ℕ) → has_no_slash text ≡ true → split text ≡ text ∷ []
split_whole [] h = refl
split_whole (x ∷ xs) h =
    let p = both_true (not (eqb x 47)) (has_no_slash xs) h in
    let e : eqb x 47 ≡ false = not_true (eqb x 47) p.0 in
    rw (e, split_whole xs p.1) refl

-- ---- texts with one

-- a cut list has a first part
abbrev pub HasFirst : List (List ℕ) → Type 0
HasFirst [] = ⊥
HasFirst (part ∷ parts) = Unit {0}

first_of_cut : (t : Bool) (x : ℕ) (rest : List (List ℕ)) → HasFirst (cond t ([] ∷ rest) (onto_first x rest))
first_of_cut true x rest = tt
first_of_cut false x [] = tt
first_of_cut false x (part ∷ parts) = tt

pub split_has_first : (text : List ℕ) → HasFirst (split text)
split_has_first [] = tt
split_has_first (x ∷ xs) = first_of_cut (eqb x 47) x (split xs)

cut_onto : (t : Bool) (x : ℕ) (whole front back : List (List ℕ)) → whole ≡ front ++ back → HasFirst front → cond t ([] ∷ whole) (onto_first x whole) ≡ cond t ([] ∷ front) (onto_first x front) ++ back
cut_onto true x whole front back e h = ap (λ parts. [] ∷ parts) e
cut_onto false x whole [] back e h = absurd h
cut_onto false x whole (part ∷ parts) back e h = ap (onto_first x) e

pub split_at : (front back : List ℕ) → split (front ++ 47 ∷ back) ≡ split front ++ split back
split_at [] back = refl
split_at (x ∷ xs) back = cut_onto (eqb x 47) x (split (xs ++ 47 ∷ back)) (split xs) (split back) (split_at xs back) (split_has_first xs)

-- a text with a `/` in it, in two
pub parted : (text : List ℕ) (at : ℕ) → IsSlashAt text at → text ≡ take at text ++ 47 ∷ drop (at + 1) text
parted text at h =
    let e : drop at text ≡ get_or text at 0 ∷ drop (at + 1) text = drop_more text at 0 h.0 in
    sym (take-append-drop at text) ∙ ap (λ back. take at text ++ back) (e ∙ ap (λ byte. byte ∷ drop (at + 1) text) h.1)

pub split_parted : (text : List ℕ) (at : ℕ) → IsSlashAt text at → split text ≡ split (take at text) ++ split (drop (at + 1) text)
split_parted text at h = ap split (parted text at h) ∙ split_at (take at text) (drop (at + 1) text)

pub no_slash_before : (text : List ℕ) (at : ℕ) → at < length text → ((k : ℕ) → k < at → get_or text k 0 ≢ 47) → has_no_slash (take at text) ≡ true
no_slash_before text at below h = no_slash (take at text) (λ k inside.
    let l : k < at = omega (arith, length-take at text) in
    rw get_or-take (h k l))

pub no_slash_behind : (text : List ℕ) (from : ℕ) → HasNoSlash text from → has_no_slash (drop from text) ≡ true
no_slash_behind text from h = no_slash (drop from text) (λ k inside.
    rw get_or-drop (h (from + k) (omega arith) (omega (arith, length-drop from text))))

-- ---- segments joined

pub join-split : (text : List ℕ) → join_with_byte 47 (split text) ≡ text
join-split text = join_with_byte-slice_split 47 text

-- segments without a `/`, joined and cut again
pub split-join : (segment : List ℕ) (rest : List (List ℕ)) → list_all has_no_slash (segment ∷ rest) ≡ true → split (join_with_byte 47 (segment ∷ rest)) ≡ segment ∷ rest
split-join segment [] h = split_whole segment (both_true (has_no_slash segment) true h).0
split-join segment (next ∷ rest) h =
    let p = both_true (has_no_slash segment) (list_all has_no_slash (next ∷ rest)) h in
    split_at segment (join_with_byte 47 (next ∷ rest)) ∙ rw (split_whole segment p.0, split-join next rest p.1) refl

-- what a `Path` keeps, as a text
pub path_text-segments_of : (joined : List ℕ) → 0 < length joined → path_text (segments_of joined) ≡ joined
path_text-segments_of [] h = absurd (omega arith)
path_text-segments_of (byte ∷ bytes) h =
    let by_cases : (parts : List (List ℕ)) → HasFirst parts → path_text parts ≡ join_with_byte 47 parts = elim [ [] ↦ λ h. absurd h | part ∷ parts ↦ λ h. refl ] in
    by_cases (split (byte ∷ bytes)) (split_has_first (byte ∷ bytes)) ∙ join-split (byte ∷ bytes)

-- ---- segments

pub record Segment (part : List ℕ) : Type 0 where
  pub clean : is_clean part ≡ true
  pub whole : has_no_slash part ≡ true
  pub here : is_here part ≡ false
  pub above : is_above part ≡ false

pub segment_facts : (part : List ℕ) → is_segment part ≡ true → Segment part
segment_facts part h =
    let a = both_true (is_clean part && has_no_slash part && not (is_here part)) (not (is_above part)) h in
    let b = both_true (is_clean part && has_no_slash part) (not (is_here part)) a.0 in
    let d = both_true (is_clean part) (has_no_slash part) b.0 in
    record { clean = d.0; whole = d.1; here = not_true (is_here part) b.1; above = not_true (is_above part) a.1 }

pub segment_made : (part : List ℕ) → Segment part → is_segment part ≡ true
segment_made part s = rw (s.clean, s.whole, s.here, s.above) refl

no_empty_segment : is_segment [] ≡ true → ⊥
no_empty_segment h = let e : true ≡ false = (segment_facts [] h).here in cc

pub all_whole : (segments : List (List ℕ)) → list_all is_segment segments ≡ true → list_all has_no_slash segments ≡ true
all_whole [] h = refl
all_whole (s ∷ rest) h =
    let p = both_true (is_segment s) (list_all is_segment rest) h in
    rw ((segment_facts s p.0).whole, all_whole rest p.1) refl

pub segments_of-split : (text : List ℕ) → 0 < length text → segments_of text ≡ split text
segments_of-split [] h = absurd (omega arith)
segments_of-split (x ∷ xs) h = refl

-- The front of a path's text is a path's text too.
pub segments_of-front : (front : List ℕ) (back : List (List ℕ)) → list_all is_segment (split front ++ back) ≡ true → segments_of front ≡ split front
segments_of-front [] back h = absurd (no_empty_segment (both_true (is_segment []) (list_all is_segment back) h).0)
segments_of-front (x ∷ xs) back h = refl

pub without_last-push : (front : List (List ℕ)) (last : List ℕ) → without_last (front ++ last ∷ []) ≡ Some front
without_last-push [] last = refl
without_last-push (first ∷ rest) last =
    ap Some (ap (λ n. take n (first ∷ rest ++ last ∷ [])) (length-append rest (last ∷ []) ∙ add_one_is (length rest)) ∙ take_at (first ∷ rest) (last ∷ []) (suc (length rest)) refl)
  where
    add_one_is : (n : ℕ) → n + 1 ≡ suc n
    add_one_is n = omega arith

pub parent_of_one : (joined : List ℕ) → 0 < length joined → has_no_slash joined ≡ true → without_last (segments_of joined) ≡ Some []
parent_of_one joined some h = rw (segments_of-split joined some, split_whole joined h) refl

pub parent_at : (joined : List ℕ) (at : ℕ) → IsSlashAt joined at → HasNoSlash joined (at + 1) → IsPath (segments_of joined) → without_last (segments_of joined) ≡ Some (segments_of (take at joined))
parent_at joined at slash h path =
    let whole : segments_of joined ≡ split joined = segments_of-split joined (omega (arith, slash.0)) in
    let cut : split joined ≡ split (take at joined) ++ drop (at + 1) joined ∷ [] = split_parted joined at slash ∙ ap (λ back. split (take at joined) ++ back) (split_whole (drop (at + 1) joined) (no_slash_behind joined (at + 1) h)) in
    let e : segments_of joined ≡ split (take at joined) ++ drop (at + 1) joined ∷ [] = whole ∙ cut in
    let front : segments_of (take at joined) ≡ split (take at joined) = segments_of-front (take at joined) (drop (at + 1) joined ∷ []) (rw e at path) in
    rw (e, front) (without_last-push (split (take at joined)) (drop (at + 1) joined))

pub front_is_path : (segments front : List (List ℕ)) → IsPath segments → without_last segments ≡ Some front → IsPath front
front_is_path [] front path e = absurd cc
front_is_path (first ∷ rest) front path e =
    let n = length rest in
    let is : take n (first ∷ rest) ≡ front = cc in
    let halves : list_all is_segment (take n (first ∷ rest)) && list_all is_segment (drop n (first ∷ rest)) ≡ true =
    sym (list_all-append is_segment (take n (first ∷ rest)) (drop n (first ∷ rest))) ∙ ap (list_all is_segment) (take-append-drop n (first ∷ rest)) ∙ path in
    rw (← is) (both_true (list_all is_segment (take n (first ∷ rest))) (list_all is_segment (drop n (first ∷ rest))) halves).0

-- a segment behind what is there
pub segments_of-appended : (joined segment : List ℕ) → is_segment segment ≡ true → segments_of (set_off joined ++ segment) ≡ segments_of joined ++ segment ∷ []
segments_of-appended [] [] h = absurd (no_empty_segment h)
segments_of-appended [] (x ∷ xs) h = split_whole (x ∷ xs) (segment_facts (x ∷ xs) h).whole
segments_of-appended (y ∷ ys) segment h =
    ap split (append_assoc (y ∷ ys) (47 ∷ []) segment) ∙ split_at (y ∷ ys) segment ∙ ap (λ back. split (y ∷ ys) ++ back) (split_whole segment (segment_facts segment h).whole)

-- what was there is still in front of what sets it off
pub front_of-set_off : (joined : List ℕ) → take (length joined) (set_off joined) ≡ joined
front_of-set_off [] = refl
front_of-set_off (x ∷ xs) = take_at (x ∷ xs) (47 ∷ []) (length (x ∷ xs)) refl

pub set_off_some : (joined : List ℕ) → 0 < length joined → set_off joined ≡ joined ++ 47 ∷ []
set_off_some [] h = absurd (omega arith)
set_off_some (x ∷ xs) h = refl

-- two texts of segments, joined
pub segments_of-joined : (head tail : List ℕ) → 0 < length head → 0 < length tail → segments_of ((head ++ 47 ∷ []) ++ tail) ≡ segments_of head ++ segments_of tail
segments_of-joined [] tail h t = absurd (omega arith)
segments_of-joined (x ∷ xs) [] h t = absurd (omega arith)
segments_of-joined (x ∷ xs) (y ∷ ys) h t = ap split (append_assoc (x ∷ xs) (47 ∷ []) (y ∷ ys)) ∙ split_at (x ∷ xs) (y ∷ ys)

pub first_of : (joined first : List ℕ) (rest : Option (Bor (List ℕ))) → 0 < length joined → MatchOption rest (split joined ≡ first ∷ []) (λ after. split joined ≡ first ∷ split after.now) → BeginsWith (segments_of joined) (first ∷ [])
first_of joined first None some parts = ([], segments_of-split joined some ∙ parts)
first_of joined first (Some after) some parts = (split after.now, segments_of-split joined some ∙ parts)

pub last_of_one : (joined : List ℕ) → 0 < length joined → has_no_slash joined ≡ true → EndsWith (segments_of joined) joined
last_of_one joined some h = ([], segments_of-split joined some ∙ split_whole joined h)

pub last_at : (joined : List ℕ) (at : ℕ) → IsSlashAt joined at → HasNoSlash joined (at + 1) → EndsWith (segments_of joined) (drop (at + 1) joined)
last_at joined at slash h =
    (split (take at joined), segments_of-split joined (omega (arith, slash.0)) ∙ split_parted joined at slash ∙ ap (λ back. split (take at joined) ++ back) (split_whole (drop (at + 1) joined) (no_slash_behind joined (at + 1) h)))

pub length-segments_of : (joined : List ℕ) → 0 < length joined → length (segments_of joined) ≡ count_by is_slash joined + 1
length-segments_of [] h = absurd (omega arith)
length-segments_of (x ∷ xs) h = length-slice_split is_slash (x ∷ xs)

-- ---- one text at the front of another

join-append : (front : List (List ℕ)) (next : List ℕ) (rest : List (List ℕ)) → HasFirst front → join_with_byte 47 (front ++ next ∷ rest) ≡ join_with_byte 47 front ++ 47 ∷ join_with_byte 47 (next ∷ rest)
join-append [] next rest h = absurd h
join-append (x ∷ []) next rest h = refl
join-append (x ∷ y ∷ xs) next rest h = ap (λ back. x ++ 47 ∷ back) (join-append (y ∷ xs) next rest tt) ∙ sym (append_assoc x (47 ∷ join_with_byte 47 (y ∷ xs)) (47 ∷ join_with_byte 47 (next ∷ rest)))

no_first : (front rest : List (List ℕ)) → HasFirst front → [] ≡ front ++ rest → ⊥
no_first [] rest h e = h
no_first (x ∷ xs) rest h e = cc

-- the back of a path's text is a path's text too
segments_of-back : (front : List (List ℕ)) (back : List ℕ) → list_all is_segment (front ++ split back) ≡ true → segments_of back ≡ split back
segments_of-back front [] h = absurd (no_empty_segment (both_true (is_segment []) true (both_true (list_all is_segment front) (list_all is_segment ([] ∷ [])) (sym (list_all-append is_segment front ([] ∷ [])) ∙ h)).1).0)
segments_of-back front (x ∷ xs) h = refl

-- what follows a whole head
pub behind_head : (joined head rest after : List ℕ) → 0 < length head → IsPath (segments_of joined) → joined ≡ head ++ rest → IsRestOf rest after → segments_of joined ≡ segments_of head ++ segments_of after
behind_head joined head [] after some path e is =
    rw is (ap segments_of (e ∙ append-nil head) ∙ sym (append-nil (segments_of head)))
behind_head joined head (byte ∷ bytes) after some path e is =
    let cut : joined ≡ head ++ 47 ∷ bytes = e ∙ ap (λ b. head ++ b ∷ bytes) is.0 in
    let parts : segments_of joined ≡ split head ++ split bytes = segments_of-split joined (rw cut (omega (arith, length-append head (47 ∷ bytes)))) ∙ ap split cut ∙ split_at head bytes in
    let back : segments_of bytes ≡ split bytes = segments_of-back (split head) bytes (rw parts at path) in
    rw (is.1, back, segments_of-split head some) parts

pub begins_only : (joined head : List ℕ) → 0 < length head → BeginsWith (segments_of joined) (segments_of head) → (take (length head) joined ≡ head) × IsSetOff (drop (length head) joined)
begins_only [] head some begins = absurd (no_first (split head) begins.0 (split_has_first head) (begins.1 ∙ ap (λ front. front ++ begins.0) (segments_of-split head some)))
begins_only (y ∷ ys) head some begins = by_rest begins.0 (begins.1 ∙ ap (λ front. front ++ begins.0) (segments_of-split head some))
  where
    by_rest : (rest : List (List ℕ)) → split (y ∷ ys) ≡ split head ++ rest → (take (length head) (y ∷ ys) ≡ head) × IsSetOff (drop (length head) (y ∷ ys))
    by_rest [] e =
        let same : y ∷ ys ≡ head = sym (join-split (y ∷ ys)) ∙ ap (join_with_byte 47) (e ∙ append-nil (split head)) ∙ join-split head in
        rw same (take_all (length head) head (omega arith), rw (drop_all (length head) head (omega arith)) tt)
    by_rest (next ∷ rest) e =
        let same : y ∷ ys ≡ head ++ 47 ∷ join_with_byte 47 (next ∷ rest) = sym (join-split (y ∷ ys)) ∙ ap (join_with_byte 47) e ∙ join-append (split head) next rest (split_has_first head) ∙ ap (λ front. front ++ 47 ∷ join_with_byte 47 (next ∷ rest)) (join-split head) in
        rw same (take_at head (47 ∷ join_with_byte 47 (next ∷ rest)) (length head) refl, rw (drop_at head (47 ∷ join_with_byte 47 (next ∷ rest)) (length head) refl) refl)

-- ---- segments taken away, one after the other

without_last_is : (segments front : List (List ℕ)) → without_last segments ≡ Some front → (front ≡ take (length segments - 1) segments) × (0 < length segments)
without_last_is [] front e = absurd cc
without_last_is (first ∷ rest) front e =
    let is : take (length rest) (first ∷ rest) ≡ front = cc in
    let n : suc (length rest) - 1 ≡ length rest = omega arith in
    (sym is ∙ ap (λ k. take k (first ∷ rest)) (sym n), omega arith)

pub IsPath-take : (n : ℕ) (segments : List (List ℕ)) → IsPath segments → IsPath (take n segments)
IsPath-take n segments path =
    (both_true (list_all is_segment (take n segments)) (list_all is_segment (drop n segments))
    (sym (list_all-append is_segment (take n segments) (drop n segments)) ∙ ap (list_all is_segment) (take-append-drop n segments) ∙ path)).0

pub one_less : (segments front : List (List ℕ)) (i : ℕ) → i ≤ length segments → without_last (take (length segments - i) segments) ≡ Some front
    → (front ≡ take (length segments - (i + 1)) segments) × (i + 1 ≤ length segments)
one_less segments front i within e =
    let n = length segments in
    let w = without_last_is (take (n - i) segments) front e in
    let long : length (take (n - i) segments) ≡ n - i = length-take-le (n - i) segments (omega arith) in
    let some : 0 < n - i = rw long at w.1 in
    let k : length (take (n - i) segments) - 1 ≡ n - (i + 1) = omega arith in
    (w.0 ∙ ap (λ m. take m (take (n - i) segments)) k ∙ take-take (n - (i + 1)) (n - i) segments (omega arith), omega arith)

pub none_left : (segments : List (List ℕ)) (i : ℕ) → take (length segments - i) segments ≡ [] → length segments ≤ i
none_left segments i e =
    let long : length (take (length segments - i) segments) ≡ length segments - i = length-take-le (length segments - i) segments (omega arith) in
    let none : length (take (length segments - i) segments) ≡ 0 = ap length e in
    omega arith

pub IsPath-append : (front back : List (List ℕ)) → IsPath front → IsPath back → IsPath (front ++ back)
IsPath-append front back p q = list_all-append is_segment front back ∙ rw (p, q) refl

-- what is found behind a head that is there
pub behind_found : (joined head rest : List ℕ) (found : Option (Bor (List ℕ))) → 0 < length head → IsPath (segments_of joined) → take (length head) joined ≡ head → rest ≡ drop (length head) joined
    → MatchOption found (IsSetOff rest → ⊥) (λ after. IsRestOf rest after.now)
    → MatchOption found (BeginsWith (segments_of joined) (segments_of head) → ⊥) (λ after. segments_of joined ≡ segments_of head ++ segments_of after.now)
behind_found joined head rest None some path same is h = λ begins. h (rw is (begins_only joined head some begins).1)
behind_found joined head rest (Some after) some path same is h =
    let whole : joined ≡ head ++ rest = sym (take-append-drop (length head) joined) ∙ ap (λ front. front ++ drop (length head) joined) same ∙ ap (λ back. head ++ back) (sym is) in
    behind_head joined head rest after.now some path whole h

pub join-segments_of : (joined : List ℕ) → join_with_byte 47 (segments_of joined) ≡ joined
join-segments_of [] = refl
join-segments_of (x ∷ xs) = join-split (x ∷ xs)

-- the same, said of a path
pub is_behind : (path head : List (List ℕ)) (found : Option (Bor (List ℕ)))
    → MatchOption found (BeginsWith path head → ⊥) (λ after. path ≡ head ++ segments_of after.now)
    → MatchOption found (BeginsWith path head → ⊥) (λ after. IsBehind path head after.now)
is_behind path head None h = h
is_behind path head (Some after) h = (segments_of after.now, h, sym (join-segments_of after.now))
