-- The reading of a table's tokens, row by row.
use Rattle.std.proofs.Common.{◌≡◌, ℕ, Bool, true, false, cond, List, [], ◌∷◌, ◌++◌, Result, Ok, Err, refl, sym, ap, ◌∙◌}
use Rattle.path_name.specs.Given.{◌>>=◌}
use Rattle.table_scan.specs.declared.mark.Mark.TheVariants as marks
use Rattle.table_scan.specs.TableTokens.{Token, Marked, Quoted, Placed}
use Rattle.table_scan.specs.TableGrammar.{marked, before_folder, behind_folder}
use Rattle.table_scan.specs.TableReading.{Outcome, Next, Done, Wrong, goes_on, front_from, read_from, ended, is_wanted, TablePlace, Before_folder, At_row, At_arrow, In_value, After_row, At_end, behind_folder_at, inside_value, table_next, table_start}
use Rattle.table_scan.specs.TableSteps.{behind_wanted, token_at, tokens_at, quoted_in, Behind, More, Last, separator_at, separator_token, if_allowed, key_at, row_at, folder_token, folder_at, head_at, nothing_at}

module _ {W V R : Type 0} (allowed : List ℕ → Bool) (make : List ℕ → V → R) (start : W) (next : W → Token → Outcome W V) where
  abbrev pub table_from : TablePlace W R → List Placed → Result (List R × List Placed) ℕ
  table_from place ts = front_from (table_next allowed make start next) place ts

  abbrev pub on_token : TablePlace W R → Token → Placed → List Placed → Result (List R × List Placed) ℕ
  on_token place k t ts = goes_on (table_next allowed make start next place k) t ts (λ p. front_from (table_next allowed make start next) p ts)

  -- ---- rows

  front-in_value : (rows : List R) (key : List ℕ) (place : W) (ts : List Placed) → table_from (In_value rows key place) ts ≡ (front_from next place ts >>= λ r. table_from (After_row (rows ++ make key r.0 ∷ [])) r.1)
  front-in_value rows key place [] = refl
  front-in_value rows key place (t ∷ ts) = by (next place t.token) (λ p. front-in_value rows key p ts)
    where
      by : (o : Outcome W V) → ((p : W) → table_from (In_value rows key p) ts ≡ (front_from next p ts >>= λ r. table_from (After_row (rows ++ make key r.0 ∷ [])) r.1))
          → goes_on (inside_value allowed make start next rows key o) t ts (λ p. front_from (table_next allowed make start next) p ts) ≡ (goes_on o t ts (λ p. front_from next p ts) >>= λ r. table_from (After_row (rows ++ make key r.0 ∷ [])) r.1)
      by (Next p) on = on p
      by (Done value) on = refl
      by Wrong on = refl

  front-at_arrow : (rows : List R) (key : List ℕ) (ts : List Placed) → table_from (At_arrow rows key) ts ≡ (token_at (Marked marks.Arrow) ts >>= λ rest. table_from (In_value rows key start) rest)
  front-at_arrow rows key [] = refl
  front-at_arrow rows key (t ∷ ts) = by t.token
    where
      by : (k : Token) → on_token (At_arrow rows key) k t ts ≡ (behind_wanted (is_wanted (Marked marks.Arrow) k) t ts >>= λ rest. table_from (In_value rows key start) rest)
      by (Marked marks.Arrow) = refl
      by _ = refl

  abbrev behind_key : List R → List ℕ × List Placed → Result (List R × List Placed) ℕ
  behind_key rows key = table_from (At_arrow rows key.0) key.1

  front-at_key : (rows : List R) (ts : List Placed) (left : ℕ) → token_at (Marked marks.Close) ts ≡ Err left → table_from (At_row rows) ts ≡ (key_at allowed ts >>= behind_key rows)
  front-at_key rows [] left e = refl
  front-at_key rows (t ∷ ts) left e = by t.token e
    where
      picked : (b : Bool) (key : List ℕ) → goes_on (cond b (Next (At_arrow rows key)) Wrong) t ts (λ p. front_from (table_next allowed make start next) p ts) ≡ (if_allowed b t.left (key, ts) >>= behind_key rows)
      picked true key = refl
      picked false key = refl

      by : (k : Token) → behind_wanted (is_wanted (Marked marks.Close) k) t ts ≡ Err left → on_token (At_row rows) k t ts ≡ ((quoted_in k t ts >>= λ read. if_allowed (allowed read.0) t.left read) >>= behind_key rows)
      by (Quoted key) f = picked (allowed key) key
      by (Marked marks.Close) f = absurd cc
      by _ f = refl

  abbrev pub behind_row : List R → R × List Placed → Result (List R × List Placed) ℕ
  behind_row rows read = table_from (After_row (rows ++ read.0 ∷ [])) read.1

  pub table_row : (rows : List R) (ts : List Placed) (left : ℕ) → token_at (Marked marks.Close) ts ≡ Err left → table_from (At_row rows) ts ≡ (row_at allowed make (λ rest. front_from next start rest) ts >>= behind_row rows)
  table_row rows ts left e = front-at_key rows ts left e ∙ by_key (key_at allowed ts)
    where
      by_value : (key : List ℕ) (o : Result (V × List Placed) ℕ) → (o >>= λ r. table_from (After_row (rows ++ make key r.0 ∷ [])) r.1) ≡ ((o >>= λ read. Ok (make key read.0, read.1)) >>= behind_row rows)
      by_value key (Ok r) = refl
      by_value key (Err f) = refl

      by_arrow : (key : List ℕ) (o : Result (List Placed) ℕ) → (o >>= λ rest. table_from (In_value rows key start) rest) ≡ ((o >>= λ rest. front_from next start rest >>= λ read. Ok (make key read.0, read.1)) >>= behind_row rows)
      by_arrow key (Ok rest) = front-in_value rows key start rest ∙ by_value key (front_from next start rest)
      by_arrow key (Err f) = refl

      by_key : (o : Result (List ℕ × List Placed) ℕ) → (o >>= behind_key rows) ≡ ((o >>= λ key. token_at (Marked marks.Arrow) key.1 >>= λ rest. front_from next start rest >>= λ read. Ok (make key.0 read.0, read.1)) >>= behind_row rows)
      by_key (Ok key) = front-at_arrow rows key.0 key.1 ∙ by_arrow key.0 (token_at (Marked marks.Arrow) key.1)
      by_key (Err f) = refl

  pub table_close : (rows : List R) (ts rest : List Placed) → token_at (Marked marks.Close) ts ≡ Ok rest → table_from (At_row rows) ts ≡ table_from (At_end rows) rest
  table_close rows [] rest e = absurd cc
  table_close rows (t ∷ ts) rest e = by t.token e
    where
      by : (k : Token) → behind_wanted (is_wanted (Marked marks.Close) k) t ts ≡ Ok rest → on_token (At_row rows) k t ts ≡ table_from (At_end rows) rest
      by (Marked marks.Close) f = let same : ts ≡ rest = cc in ap (λ r. table_from (At_end rows) r) same
      by _ f = absurd cc

  abbrev pub behind_item : List R → Behind → Result (List R × List Placed) ℕ
  behind_item rows (More rest) = table_from (At_row rows) rest
  behind_item rows (Last rest) = table_from (At_end rows) rest

  pub front-after_row : (rows : List R) (ts : List Placed) → table_from (After_row rows) ts ≡ (separator_at ts >>= behind_item rows)
  front-after_row rows [] = refl
  front-after_row rows (t ∷ ts) = by t.token
    where
      by : (k : Token) → on_token (After_row rows) k t ts ≡ (separator_token k t ts >>= behind_item rows)
      by (Marked marks.Comma) = refl
      by (Marked marks.Close) = refl
      by _ = refl

  pub front-at_end : (rows : List R) (ts : List Placed) → table_from (At_end rows) ts ≡ (token_at (Marked marks.Semicolon) ts >>= λ rest. Ok (rows, rest))
  front-at_end rows [] = refl
  front-at_end rows (t ∷ ts) = by t.token
    where
      by : (k : Token) → on_token (At_end rows) k t ts ≡ (behind_wanted (is_wanted (Marked marks.Semicolon) k) t ts >>= λ rest. Ok (rows, rest))
      by (Marked marks.Semicolon) = refl
      by _ = refl

  -- ---- the head

  front-before_folder : (wanted : List Token) (ts : List Placed) → table_from (Before_folder wanted) ts ≡ (tokens_at wanted ts >>= λ rest. table_from (Before_folder []) rest)
  front-before_folder [] ts = refl
  front-before_folder (k ∷ more) [] = refl
  front-before_folder (k ∷ more) (t ∷ ts) = by (is_wanted k t.token) (front-before_folder more ts)
    where
      by : (b : Bool) → table_from (Before_folder more) ts ≡ (tokens_at more ts >>= λ rest. table_from (Before_folder []) rest)
          → goes_on (cond b (Next (Before_folder more)) Wrong) t ts (λ p. front_from (table_next allowed make start next) p ts) ≡ ((behind_wanted b t ts >>= λ rest. tokens_at more rest) >>= λ rest. table_from (Before_folder []) rest)
      by true on = on
      by false on = refl

  front-behind_folder : (wanted : List Token) (ts : List Placed) → table_from (behind_folder_at wanted) ts ≡ (tokens_at wanted ts >>= λ rest. table_from (At_row []) rest)
  front-behind_folder [] ts = refl
  front-behind_folder (k ∷ more) [] = refl
  front-behind_folder (k ∷ more) (t ∷ ts) = by (is_wanted k t.token) (front-behind_folder more ts)
    where
      by : (b : Bool) → table_from (behind_folder_at more) ts ≡ (tokens_at more ts >>= λ rest. table_from (At_row []) rest)
          → goes_on (cond b (Next (behind_folder_at more)) Wrong) t ts (λ p. front_from (table_next allowed make start next) p ts) ≡ ((behind_wanted b t ts >>= λ rest. tokens_at more rest) >>= λ rest. table_from (At_row []) rest)
      by true on = on
      by false on = refl

  tokens_split : (front back : List Token) (ts : List Placed) → tokens_at (front ++ back) ts ≡ (tokens_at front ts >>= λ rest. tokens_at back rest)
  tokens_split [] back ts = refl
  tokens_split (k ∷ front) back ts = by (token_at k ts) (λ rest. tokens_split front back rest)
    where
      by : (o : Result (List Placed) ℕ) → ((rest : List Placed) → tokens_at (front ++ back) rest ≡ (tokens_at front rest >>= λ r. tokens_at back r)) → (o >>= λ rest. tokens_at (front ++ back) rest) ≡ ((o >>= λ rest. tokens_at front rest) >>= λ rest. tokens_at back rest)
      by (Ok rest) on = on rest
      by (Err f) on = refl

  abbrev behind_head : List Placed → Result (List R × List Placed) ℕ
  behind_head rest = table_from (At_row []) rest

  front-at_folder : (ts : List Placed) → table_from (Before_folder []) ts ≡ ((folder_at ts >>= λ behind. tokens_at (marked behind_folder) behind) >>= behind_head)
  front-at_folder [] = refl
  front-at_folder (t ∷ ts) = by t.token
    where
      by : (k : Token) → on_token (Before_folder []) k t ts ≡ ((folder_token k t ts >>= λ behind. tokens_at (marked behind_folder) behind) >>= behind_head)
      by (Marked marks.ThisDir) = front-behind_folder (marked behind_folder) ts
      by (Marked marks.Dirname) = front-behind_folder (marked (marks.Open ∷ marks.ThisFile ∷ marks.Close ∷ behind_folder)) ts
          ∙ ap (λ o. o >>= behind_head) (tokens_split (marked (marks.Open ∷ marks.ThisFile ∷ marks.Close ∷ [])) (marked behind_folder) ts)
      by _ = refl

  pub front-head : (ts : List Placed) → table_from table_start ts ≡ (head_at ts >>= behind_head)
  front-head ts = front-before_folder (marked before_folder) ts ∙ by (tokens_at (marked before_folder) ts)
    where
      by : (o : Result (List Placed) ℕ) → (o >>= λ rest. table_from (Before_folder []) rest) ≡ ((o >>= λ folder. folder_at folder >>= λ behind. tokens_at (marked behind_folder) behind) >>= behind_head)
      by (Ok rest) = front-at_folder rest
      by (Err f) = refl

  -- ---- one more row

  pub chain_row : (rows : List R) (text rest here : List Placed) (left : ℕ) → table_from (At_row rows) rest ≡ table_from (At_row []) text → here ≡ rest → token_at (Marked marks.Close) here ≡ Err left
      → table_from (At_row []) text ≡ (row_at allowed make (λ r. front_from next start r) here >>= behind_row rows)
  chain_row rows text rest here left e same close = sym e ∙ ap (λ ts. table_from (At_row rows) ts) (sym same) ∙ table_row rows here left close

  pub chain_item : (rows grown : List R) (row : R) (text here after : List Placed) → table_from (At_row []) text ≡ (row_at allowed make (λ r. front_from next start r) here >>= behind_row rows)
      → row_at allowed make (λ r. front_from next start r) here ≡ Ok (row, after) → grown ≡ rows ++ row ∷ [] → table_from (At_row []) text ≡ (separator_at after >>= behind_item grown)
  chain_item rows grown row text here after e read items = e ∙ ap (λ o. o >>= behind_row rows) read ∙ front-after_row (rows ++ row ∷ []) after ∙ ap (λ rs. separator_at after >>= behind_item rs) (sym items)

  pub chain_end : (rows : List R) (text after behind : List Placed) → table_from (At_row []) text ≡ (separator_at after >>= behind_item rows) → separator_at after ≡ Ok (Last behind)
      → table_from (At_row []) text ≡ (token_at (Marked marks.Semicolon) behind >>= λ rest. Ok (rows, rest))
  chain_end rows text after behind e last = e ∙ ap (λ o. o >>= behind_item rows) last ∙ front-at_end rows behind

  pub chain_next : (rows : List R) (text after more : List Placed) → table_from (At_row []) text ≡ (separator_at after >>= behind_item rows) → separator_at after ≡ Ok (More more)
      → table_from (At_row rows) more ≡ table_from (At_row []) text
  chain_next rows text after more e next_one = sym (e ∙ ap (λ o. o >>= behind_item rows) next_one)

  pub table-steps : (ts : List Placed) → read_from (table_next allowed make start next) table_start ts ≡ (head_at ts >>= λ inside. table_from (At_row []) inside >>= λ read. nothing_at read.1 >>= λ _. Ok read.0)
  table-steps ts = ap (λ o. o >>= ended) (front-head ts) ∙ by_head (head_at ts)
    where
      by_rows : (o : Result (List R × List Placed) ℕ) → (o >>= ended) ≡ (o >>= λ read. nothing_at read.1 >>= λ _. Ok read.0)
      by_rows (Ok (rows, [])) = refl
      by_rows (Ok (rows, t ∷ ts)) = refl
      by_rows (Err e) = refl

      by_head : (o : Result (List Placed) ℕ) → ((o >>= behind_head) >>= ended) ≡ (o >>= λ inside. table_from (At_row []) inside >>= λ read. nothing_at read.1 >>= λ _. Ok read.0)
      by_head (Ok rest) = by_rows (table_from (At_row []) rest)
      by_head (Err e) = refl
