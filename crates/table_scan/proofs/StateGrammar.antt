-- States by the grammar, and as they are read.
use Rattle.std.proofs.Common.{◌≡◌, ℕ, Bool, true, false, cond, List, [], ◌∷◌, ◌++◌, Option, Some, None, inl, inr, refl, sym, ap, ◌∙◌}
use Rattle.std.specs.Cmp.Lexicographic.{bytes_decides}
use Rattle.path_name.specs.Decimals.{number_in}
use Rattle.path_name.specs.Orders.{bytes_are_equal}
use Rattle.table_scan.specs.declared.mark.Mark.TheVariants as marks
use Rattle.table_scan.specs.declared.types.Mode.{Mode}
use Rattle.table_scan.specs.declared.types.Mode.TheVariants.{Plain, Optimised, Authoritative}
use Rattle.table_scan.specs.declared.types.State.{State}
use Rattle.table_scan.specs.TableTokens.{Token, Marked, Quoted, Number}
use Rattle.table_scan.specs.TableGrammar.{mode_text, generation_of, IsLastComma, IsState}
use Rattle.table_scan.specs.TableReading.{Outcome, Next, Done, Wrong, is_wanted, StatePlace, Before_mode, Before_generation, After_generation, At_close, At_state_end, mode_of, before_mode, before_generation, mode_done, number_done, state_next, state_start}
use Rattle.table_scan.proofs.Cases.{by_test}
use Rattle.table_scan.proofs.Wanted.{wanted_is, is_wanted-itself}
use Rattle.table_scan.proofs.Walks.{all_of, walk, Completes}

abbrev state_walk : StatePlace → List Token → Outcome StatePlace State
state_walk place ks = walk state_next place ks

abbrev the_end : List Token
the_end = Marked marks.Close ∷ Marked marks.Semicolon ∷ []

-- ---- modes

mode_named : (mode : Mode) → mode_of (mode_text mode) ≡ Some mode
unfolding mode_text
mode_named Plain = refl
mode_named Optimised = refl
mode_named Authoritative = refl

names_mode : (text : List ℕ) (mode : Mode) → mode_of text ≡ Some mode → text ≡ mode_text mode
names_mode text mode e = by_test (bytes_are_equal (mode_text Plain) text)
    (λ b. let same : Plain ≡ mode = (let f : Some Plain ≡ Some mode = rw b at e in cc) in sym ((bytes_decides (mode_text Plain) text).0 b) ∙ ap mode_text same)
    (λ b. by_test (bytes_are_equal (mode_text Optimised) text)
    (λ d. let same : Optimised ≡ mode = (let f : Some Optimised ≡ Some mode = rw (b, d) at e in cc) in sym ((bytes_decides (mode_text Optimised) text).0 d) ∙ ap mode_text same)
    (λ d. by_test (bytes_are_equal (mode_text Authoritative) text)
    (λ f. let same : Authoritative ≡ mode = (let g : Some Authoritative ≡ Some mode = rw (b, d, f) at e in cc) in sym ((bytes_decides (mode_text Authoritative) text).0 f) ∙ ap mode_text same)
    (λ f. absurd (let g : ◌≡◌ {A = Option Mode} None (Some mode) = rw (b, d, f) at e in cc))))

-- ---- fixed tokens

mode_complete : (wanted rest : List Token) → state_walk (Before_mode wanted) (wanted ++ rest) ≡ state_walk (Before_mode []) rest
mode_complete [] rest = refl
mode_complete (w ∷ wanted) rest = rw (is_wanted-itself w) (mode_complete wanted rest)

generation_complete : (mode : Mode) (wanted rest : List Token) → state_walk (Before_generation mode wanted) (wanted ++ rest) ≡ state_walk (Before_generation mode []) rest
generation_complete mode [] rest = refl
generation_complete mode (w ∷ wanted) rest = rw (is_wanted-itself w) (generation_complete mode wanted rest)

mode_sound : (wanted ks : List Token) (state : State) → state_walk (Before_mode wanted) ks ≡ Done state → (rest : List Token) × (ks ≡ wanted ++ rest) × (state_walk (Before_mode []) rest ≡ Done state)
mode_sound [] ks state e = (ks, refl, e)
mode_sound (w ∷ wanted) [] state e = absurd cc
mode_sound (w ∷ wanted) (k ∷ ks) state e = by (is_wanted w k) refl (λ f. mode_sound wanted ks state f) e
  where
    by : (b : Bool) → is_wanted w k ≡ b → (state_walk (Before_mode wanted) ks ≡ Done state → (rest : List Token) × (ks ≡ wanted ++ rest) × (state_walk (Before_mode []) rest ≡ Done state))
        → all_of (cond b (Next (Before_mode wanted)) Wrong) ks (λ p. walk state_next p ks) ≡ Done state → (rest : List Token) × (k ∷ ks ≡ (w ∷ wanted) ++ rest) × (state_walk (Before_mode []) rest ≡ Done state)
    by true is on f = let r = on f in (r.0, ap (λ x. x ∷ ks) (sym (wanted_is w k is)) ∙ ap (λ us. w ∷ us) r.1, r.2)
    by false is on f = absurd cc

generation_sound : (mode : Mode) (wanted ks : List Token) (state : State) → state_walk (Before_generation mode wanted) ks ≡ Done state → (rest : List Token) × (ks ≡ wanted ++ rest) × (state_walk (Before_generation mode []) rest ≡ Done state)
generation_sound mode [] ks state e = (ks, refl, e)
generation_sound mode (w ∷ wanted) [] state e = absurd cc
generation_sound mode (w ∷ wanted) (k ∷ ks) state e = by (is_wanted w k) refl (λ f. generation_sound mode wanted ks state f) e
  where
    by : (b : Bool) → is_wanted w k ≡ b → (state_walk (Before_generation mode wanted) ks ≡ Done state → (rest : List Token) × (ks ≡ wanted ++ rest) × (state_walk (Before_generation mode []) rest ≡ Done state))
        → all_of (cond b (Next (Before_generation mode wanted)) Wrong) ks (λ p. walk state_next p ks) ≡ Done state → (rest : List Token) × (k ∷ ks ≡ (w ∷ wanted) ++ rest) × (state_walk (Before_generation mode []) rest ≡ Done state)
    by true is on f = let r = on f in (r.0, ap (λ x. x ∷ ks) (sym (wanted_is w k is)) ∙ ap (λ us. w ∷ us) r.1, r.2)
    by false is on f = absurd cc

-- ---- the end

closed_now : (state read_state : State) (ks : List Token) (read : StatePlace → Outcome StatePlace State) → all_of (Done state) ks read ≡ Done read_state → (ks ≡ []) × (state ≡ read_state)
closed_now state other [] read e = let same : state ≡ other = cc in (refl, same)
closed_now state other (k ∷ ks) read e = absurd cc

at_end : (ks : List Token) (state other : State) → state_walk (At_state_end state) ks ≡ Done other → (ks ≡ Marked marks.Semicolon ∷ []) × (state ≡ other)
at_end [] state other e = absurd cc
at_end (Marked marks.Semicolon ∷ ks) state other e = let c = closed_now state other ks (λ p. walk state_next p ks) e in (ap (λ us. Marked marks.Semicolon ∷ us) c.0, c.1)
at_end (_ ∷ ks) state other e = absurd cc

at_close : (ks : List Token) (state other : State) → state_walk (At_close state) ks ≡ Done other → (ks ≡ the_end) × (state ≡ other)
at_close [] state other e = absurd cc
at_close (Marked marks.Close ∷ ks) state other e = let c = at_end ks state other e in (ap (λ us. Marked marks.Close ∷ us) c.0, c.1)
at_close (_ ∷ ks) state other e = absurd cc

record Ending (state : State) (ks : List Token) (other : State) : Type 0 where
  comma : List Token
  is_comma : IsLastComma comma
  parts : ks ≡ comma ++ the_end
  same : state ≡ other

after_generation : (ks : List Token) (state other : State) → state_walk (After_generation state) ks ≡ Done other → Ending state ks other
after_generation [] state other e = absurd cc
after_generation (Marked marks.Comma ∷ ks) state other e = let c = at_close ks state other e in record { comma = Marked marks.Comma ∷ []; is_comma = inr refl; parts = ap (λ us. Marked marks.Comma ∷ us) c.0; same = c.1 }
after_generation (Marked marks.Close ∷ ks) state other e = let c = at_end ks state other e in record { comma = []; is_comma = inl refl; parts = ap (λ us. Marked marks.Close ∷ us) c.0; same = c.1 }
after_generation (_ ∷ ks) state other e = absurd cc

-- ---- the values

record Numbered (mode : Mode) (ks : List Token) (other : State) : Type 0 where
  digits : List ℕ
  generation : ℕ
  rest : List Token
  parts : ks ≡ Number digits ∷ rest
  number : generation_of digits ≡ Some generation
  ending : Ending (record { mode = mode; generation = generation }) rest other

counted : (mode : Mode) (digits : List ℕ) (ks : List Token) (other : State) (o : Option ℕ) → generation_of digits ≡ o → all_of (number_done mode o) ks (λ p. walk state_next p ks) ≡ Done other → Numbered mode (Number digits ∷ ks) other
counted mode digits ks other (Some n) e f = record { digits = digits; generation = n; rest = ks; parts = refl; number = e; ending = after_generation ks (record { mode = mode; generation = n }) other f }
counted mode digits ks other None e f = absurd cc

at_generation : (mode : Mode) (ks : List Token) (other : State) → state_walk (Before_generation mode []) ks ≡ Done other → Numbered mode ks other
at_generation mode [] other e = absurd cc
at_generation mode (Number digits ∷ ks) other e = counted mode digits ks other (generation_of digits) refl e
at_generation mode (_ ∷ ks) other e = absurd cc

record Moded (ks : List Token) (other : State) : Type 0 where
  mode : Mode
  rest : List Token
  parts : ks ≡ Quoted (mode_text mode) ∷ (before_generation ++ rest)
  numbered : Numbered mode rest other

named : (text : List ℕ) (ks : List Token) (other : State) (o : Option Mode) → mode_of text ≡ o → all_of (mode_done o) ks (λ p. walk state_next p ks) ≡ Done other → Moded (Quoted text ∷ ks) other
named text ks other (Some mode) e f = let g = generation_sound mode before_generation ks other f in
    record { mode = mode; rest = g.0; parts = ap (λ t. Quoted t ∷ ks) (names_mode text mode e) ∙ ap (λ us. Quoted (mode_text mode) ∷ us) g.1; numbered = at_generation mode g.0 other g.2 }
named text ks other None e f = absurd cc

at_mode : (ks : List Token) (other : State) → state_walk (Before_mode []) ks ≡ Done other → Moded ks other
at_mode [] other e = absurd cc
at_mode (Quoted text ∷ ks) other e = named text ks other (mode_of text) refl e
at_mode (_ ∷ ks) other e = absurd cc

pub walk_is_state : (ks : List Token) (state : State) → state_walk state_start ks ≡ Done state → IsState ks state
walk_is_state ks state e =
    let s = mode_sound before_mode ks state e in
    let m = at_mode s.0 state s.2 in
    let n = m.numbered in
    let made : State = record { mode = m.mode; generation = n.generation } in
    let whole : ks ≡ before_mode ++ (Quoted (mode_text m.mode) ∷ (before_generation ++ (Number n.digits ∷ (n.ending.comma ++ the_end)))) =
    s.1 ∙ ap (λ us. before_mode ++ us) (m.parts ∙ ap (λ us. Quoted (mode_text m.mode) ∷ (before_generation ++ us)) (n.parts ∙ ap (λ us. Number n.digits ∷ us) n.ending.parts)) in
    let is : IsState ks made = record { digits = n.digits; comma = n.ending.comma; number = n.number; is_comma = n.ending.is_comma; parts = whole } in
    rw (← n.ending.same) is

end_walk : (state : State) (comma : List Token) → IsLastComma comma → state_walk (After_generation state) (comma ++ the_end) ≡ Done state
end_walk state comma (inl e) = rw e refl
end_walk state comma (inr e) = rw e refl

pub state_is_walked : (ks : List Token) (state : State) → IsState ks state → state_walk state_start ks ≡ Done state
state_is_walked ks state s =
    let values : List Token = before_generation ++ (Number s.digits ∷ (s.comma ++ the_end)) in
    ap (state_walk state_start) s.parts
    ∙ mode_complete before_mode (Quoted (mode_text state.mode) ∷ values)
    ∙ rw (mode_named state.mode) (generation_complete state.mode before_generation (Number s.digits ∷ (s.comma ++ the_end)) ∙ rw s.number (end_walk state s.comma s.is_comma))

number_zero : generation_of (48 ∷ []) ≡ Some 0
unfolding generation_of number_in
number_zero = refl

generation_completes : (mode : Mode) (wanted : List Token) → Completes state_next (Before_generation mode wanted)
generation_completes mode wanted = (wanted ++ Number (48 ∷ []) ∷ the_end, record { mode = mode; generation = 0 }, generation_complete mode wanted (Number (48 ∷ []) ∷ the_end) ∙ rw number_zero refl)

pub state_completes : (place : StatePlace) → Completes state_next place
state_completes (Before_mode wanted) =
    let c = generation_completes Plain before_generation in
    (wanted ++ Quoted (mode_text Plain) ∷ c.0, c.1, mode_complete wanted (Quoted (mode_text Plain) ∷ c.0) ∙ rw (mode_named Plain) c.2)
state_completes (Before_generation mode wanted) = generation_completes mode wanted
state_completes (After_generation state) = (the_end, state, refl)
state_completes (At_close state) = (the_end, state, refl)
state_completes (At_state_end state) = (Marked marks.Semicolon ∷ [], state, refl)
