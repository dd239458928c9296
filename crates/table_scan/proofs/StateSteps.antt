-- The reading of a state's tokens.
use Rattle.std.proofs.Common.{◌≡◌, ℕ, Bool, true, false, cond, List, [], ◌∷◌, Option, Some, None, Result, Ok, Err, refl, ap, ◌∙◌}
use Rattle.path_name.specs.Given.{◌>>=◌}
use Rattle.std.specs.Option.{ok_or}
use Rattle.table_scan.specs.declared.mark.Mark.TheVariants as marks
use Rattle.table_scan.specs.declared.types.Mode.{Mode}
use Rattle.table_scan.specs.declared.types.State.{State}
use Rattle.table_scan.specs.TableTokens.{Token, Marked, Quoted, Number, Stray, Placed}
use Rattle.table_scan.specs.TableGrammar.{marked, generation_of}
use Rattle.table_scan.specs.TableReading.{Next, Wrong, goes_on, front_from, read_from, ended, is_wanted, StatePlace, Before_mode, Before_generation, After_generation, At_close, At_state_end, mode_of, before_mode, before_generation, mode_done, number_done, state_next, state_start}
use Rattle.table_scan.specs.TableSteps.{behind_wanted, token_at, tokens_at, quoted_in, number_token, separator_token, behind_generation, mode_at, generation_at, state_end_at, nothing_at, values_at, state_at}

abbrev state_from : StatePlace → List Placed → Result (State × List Placed) ℕ
state_from place ts = front_from state_next place ts

abbrev on_token : StatePlace → Token → Placed → List Placed → Result (State × List Placed) ℕ
on_token place k t ts = goes_on (state_next place k) t ts (λ p. front_from state_next p ts)

front-before_mode : (wanted : List Token) (ts : List Placed) → state_from (Before_mode wanted) ts ≡ (tokens_at wanted ts >>= λ rest. state_from (Before_mode []) rest)
front-before_mode [] ts = refl
front-before_mode (k ∷ more) [] = refl
front-before_mode (k ∷ more) (t ∷ ts) = by (is_wanted k t.token) (front-before_mode more ts)
  where
    by : (b : Bool) → state_from (Before_mode more) ts ≡ (tokens_at more ts >>= λ rest. state_from (Before_mode []) rest)
        → goes_on (cond b (Next (Before_mode more)) Wrong) t ts (λ p. front_from state_next p ts) ≡ ((behind_wanted b t ts >>= λ rest. tokens_at more rest) >>= λ rest. state_from (Before_mode []) rest)
    by true on = on
    by false on = refl

front-before_generation : (mode : Mode) (wanted : List Token) (ts : List Placed) → state_from (Before_generation mode wanted) ts ≡ (tokens_at wanted ts >>= λ rest. state_from (Before_generation mode []) rest)
front-before_generation mode [] ts = refl
front-before_generation mode (k ∷ more) [] = refl
front-before_generation mode (k ∷ more) (t ∷ ts) = by (is_wanted k t.token) (front-before_generation mode more ts)
  where
    by : (b : Bool) → state_from (Before_generation mode more) ts ≡ (tokens_at more ts >>= λ rest. state_from (Before_generation mode []) rest)
        → goes_on (cond b (Next (Before_generation mode more)) Wrong) t ts (λ p. front_from state_next p ts) ≡ ((behind_wanted b t ts >>= λ rest. tokens_at more rest) >>= λ rest. state_from (Before_generation mode []) rest)
    by true on = on
    by false on = refl

abbrev behind_mode : Mode × List Placed → Result (State × List Placed) ℕ
behind_mode mode = state_from (Before_generation mode.0 before_generation) mode.1

front-mode : (ts : List Placed) → state_from (Before_mode []) ts ≡ (mode_at ts >>= behind_mode)
front-mode [] = refl
front-mode (t ∷ ts) = by t.token
  where
    named : (o : Option Mode) → goes_on (mode_done o) t ts (λ p. front_from state_next p ts) ≡ ((ok_or o t.left >>= λ mode. Ok (mode, ts)) >>= behind_mode)
    named (Some mode) = refl
    named None = refl

    by : (k : Token) → on_token (Before_mode []) k t ts ≡ ((quoted_in k t ts >>= λ read. ok_or (mode_of read.0) t.left >>= λ mode. Ok (mode, read.1)) >>= behind_mode)
    by (Quoted text) = named (mode_of text)
    by (Marked mark) = refl
    by (Number digits) = refl
    by Stray = refl

abbrev behind_number : Mode → ℕ × List Placed → Result (State × List Placed) ℕ
behind_number mode n = state_from (After_generation (record { mode = mode; generation = n.0 })) n.1

front-generation : (mode : Mode) (ts : List Placed) → state_from (Before_generation mode []) ts ≡ (generation_at ts >>= behind_number mode)
front-generation mode [] = refl
front-generation mode (t ∷ ts) = by t.token
  where
    counted : (o : Option ℕ) → goes_on (number_done mode o) t ts (λ p. front_from state_next p ts) ≡ ((ok_or o t.left >>= λ n. Ok (n, ts)) >>= behind_number mode)
    counted (Some n) = refl
    counted None = refl

    by : (k : Token) → on_token (Before_generation mode []) k t ts ≡ ((number_token k t ts >>= λ read. ok_or (generation_of read.0) t.left >>= λ n. Ok (n, read.1)) >>= behind_number mode)
    by (Number digits) = counted (generation_of digits)
    by (Marked mark) = refl
    by (Quoted text) = refl
    by Stray = refl

abbrev with_state : State → List Placed → Result (State × List Placed) ℕ
with_state state rest = Ok (state, rest)

front-semicolon : (state : State) (ts : List Placed) → state_from (At_state_end state) ts ≡ (token_at (Marked marks.Semicolon) ts >>= λ rest. with_state state rest)
front-semicolon state [] = refl
front-semicolon state (t ∷ ts) = by t.token
  where
    by : (k : Token) → on_token (At_state_end state) k t ts ≡ (behind_wanted (is_wanted (Marked marks.Semicolon) k) t ts >>= λ rest. with_state state rest)
    by (Marked marks.Semicolon) = refl
    by _ = refl

front-close : (state : State) (ts : List Placed) → state_from (At_close state) ts ≡ (tokens_at (marked (marks.Close ∷ marks.Semicolon ∷ [])) ts >>= λ rest. with_state state rest)
front-close state [] = refl
front-close state (t ∷ ts) = by t.token
  where
    last : (o : Result (List Placed) ℕ) → (o >>= λ rest. with_state state rest) ≡ ((o >>= λ rest. tokens_at [] rest) >>= λ rest. with_state state rest)
    last (Ok rest) = refl
    last (Err e) = refl

    by : (k : Token) → on_token (At_close state) k t ts ≡ ((behind_wanted (is_wanted (Marked marks.Close) k) t ts >>= λ rest. tokens_at (marked (marks.Semicolon ∷ [])) rest) >>= λ rest. with_state state rest)
    by (Marked marks.Close) = front-semicolon state ts ∙ last (token_at (Marked marks.Semicolon) ts)
    by _ = refl

front-end : (state : State) (ts : List Placed) → state_from (After_generation state) ts ≡ (state_end_at ts >>= λ rest. with_state state rest)
front-end state [] = refl
front-end state (t ∷ ts) = by t.token
  where
    by : (k : Token) → on_token (After_generation state) k t ts ≡ ((separator_token k t ts >>= behind_generation) >>= λ rest. with_state state rest)
    by (Marked marks.Comma) = front-close state ts
    by (Marked marks.Close) = front-semicolon state ts
    by _ = refl

pub end_steps : {V : Type 0} (value : V) (ts : List Placed) → ended (value, ts) ≡ (nothing_at ts >>= λ _. Ok value)
end_steps value [] = refl
end_steps value (t ∷ ts) = refl

pub state-steps : (ts : List Placed) → read_from state_next state_start ts ≡ state_at ts
state-steps ts = ap (λ o. o >>= ended) (front-before_mode before_mode ts) ∙ by_head (tokens_at before_mode ts)
  where
    by_end : (state : State) (o : Result (List Placed) ℕ) → ((o >>= λ rest. with_state state rest) >>= ended) ≡ (o >>= λ behind. nothing_at behind >>= λ _. Ok state)
    by_end state (Ok rest) = end_steps state rest
    by_end state (Err e) = refl

    by_number : (mode : Mode) (o : Result (ℕ × List Placed) ℕ) → ((o >>= behind_number mode) >>= ended)
        ≡ (o >>= λ generation. state_end_at generation.1 >>= λ behind. nothing_at behind >>= λ _. Ok (record { mode = mode; generation = generation.0 }))
    by_number mode (Ok n) = let state : State = record { mode = mode; generation = n.0 } in ap (λ o. o >>= ended) (front-end state n.1) ∙ by_end state (state_end_at n.1)
    by_number mode (Err e) = refl

    by_key : (mode : Mode) (o : Result (List Placed) ℕ) → ((o >>= λ rest. state_from (Before_generation mode []) rest) >>= ended)
        ≡ (o >>= λ next. generation_at next >>= λ generation. state_end_at generation.1 >>= λ behind. nothing_at behind >>= λ _. Ok (record { mode = mode; generation = generation.0 }))
    by_key mode (Ok rest) = ap (λ o. o >>= ended) (front-generation mode rest) ∙ by_number mode (generation_at rest)
    by_key mode (Err e) = refl

    by_mode : (o : Result (Mode × List Placed) ℕ) → ((o >>= behind_mode) >>= ended)
        ≡ (o >>= λ mode. tokens_at before_generation mode.1 >>= λ next. generation_at next >>= λ generation. state_end_at generation.1 >>= λ behind. nothing_at behind >>= λ _. Ok (record { mode = mode.0; generation = generation.0 }))
    by_mode (Ok mode) = ap (λ o. o >>= ended) (front-before_generation mode.0 before_generation mode.1) ∙ by_key mode.0 (tokens_at before_generation mode.1)
    by_mode (Err e) = refl

    by_head : (o : Result (List Placed) ℕ) → ((o >>= λ rest. state_from (Before_mode []) rest) >>= ended) ≡ (o >>= λ values. values_at values)
    by_head (Ok rest) = ap (λ o. o >>= ended) (front-mode rest) ∙ by_mode (mode_at rest)
    by_head (Err e) = refl
