-- Tables by the grammar, and as they are read.
use Rattle.std.proofs.Common.{◌≡◌, ℕ, Bool, true, false, cond, List, [], ◌∷◌, ◌++◌, ◌⊎◌, inl, inr, refl, sym, ap, subst, ◌∙◌, append_assoc}
use Rattle.std.proofs.lemmas.List.{append-nil}
use Rattle.table_scan.specs.declared.mark.Mark.TheVariants as marks
use Rattle.table_scan.specs.TableTokens.{Token, Marked, Quoted}
use Rattle.table_scan.specs.TableGrammar.{marked, IsList, no_items, last_item, next_item, IsRow, IsHead, IsTable, before_folder, behind_folder}
use Rattle.table_scan.specs.TableReading.{Outcome, Next, Done, Wrong, is_wanted, TablePlace, Before_folder, Behind_folder, At_row, At_arrow, In_value, After_row, At_end, behind_folder_at, inside_value, table_next, table_start}
use Rattle.table_scan.proofs.Wanted.{wanted_is, is_wanted-itself}
use Rattle.table_scan.proofs.Walks.{all_of, walk, Completes, walk_inside}

module _ {W V R : Type 0} (allowed : List ℕ → Bool) (make : List ℕ → V → R) (start : W) (next : W → Token → Outcome W V) (IsValue : List Token → V → Type 0)
    (value_walk : (ks : List Token) (value : V) → IsValue ks value → walk next start ks ≡ Done value) (walk_value : (ks : List Token) (value : V) → walk next start ks ≡ Done value → IsValue ks value)
    (completes : (place : W) → Completes next place) where
  abbrev table_walk : TablePlace W R → List Token → Outcome (TablePlace W R) (List R)
  table_walk place ks = walk (table_next allowed make start next) place ks

  abbrev rest_of : List Token → (TablePlace W R → Outcome (TablePlace W R) (List R))
  rest_of ks = λ p. walk (table_next allowed make start next) p ks

  abbrev the_end : List Token
  the_end = Marked marks.Close ∷ Marked marks.Semicolon ∷ []

  -- ---- a table by the grammar is read

  value_inside : (rows : List R) (key : List ℕ) (place : W) (ks rest : List Token) (value : V) → walk next place ks ≡ Done value
      → table_walk (In_value rows key place) (ks ++ rest) ≡ table_walk (After_row (rows ++ make key value ∷ [])) rest
  value_inside rows key place ks rest value e =
      walk_inside next (table_next allowed make start next) (In_value rows key) (λ v. After_row (rows ++ make key v ∷ [])) (inside_value allowed make start next rows key) (λ p. refl) (λ v. refl) (λ p k. refl) place ks rest value e

  row_first : (rows : List R) (rest ks : List Token) (row : R) → IsRow allowed IsValue make ks row → table_walk (At_row rows) (ks ++ rest) ≡ table_walk (After_row (rows ++ row ∷ [])) rest
  row_first rows rest ks row r = rw (r.parts, r.is_allowed) (value_inside rows r.key start r.inside rest r.value (value_walk r.inside r.value r.is_value) ∙ ap (λ x. table_walk (After_row (rows ++ x ∷ [])) rest) (sym r.made))

  list_walk : (rows : List R) {ks : List Token} {items : List R} → IsList (IsRow allowed IsValue make) ks items → table_walk (At_row rows) (ks ++ the_end) ≡ Done (rows ++ items)
  list_walk rows no_items = ap Done (sym (append-nil rows))
  list_walk rows (last_item {ts} {x} i) = row_first rows the_end ts x i
  list_walk rows (next_item ts more {x} {xs} i l) =
      ap (table_walk (At_row rows)) (append_assoc ts (Marked marks.Comma ∷ more) the_end) ∙ row_first rows (Marked marks.Comma ∷ (more ++ the_end)) ts x i
      ∙ list_walk (rows ++ x ∷ []) l ∙ ap Done (append_assoc rows (x ∷ []) xs)

  head_walk : (head rest : List Token) → IsHead head → table_walk table_start (head ++ rest) ≡ table_walk (At_row []) rest
  head_walk head rest (inl e) = rw e refl
  head_walk head rest (inr e) = rw e refl

  pub table_is_walked : (ks : List Token) (rows : List R) → IsTable (IsRow allowed IsValue make) ks rows → table_walk table_start ks ≡ Done rows
  table_is_walked ks rows t = rw t.parts (head_walk t.head (t.inside ++ the_end) t.is_head ∙ list_walk [] t.list)

  -- ---- what is read is a table

  record Items (rows : List R) (ks : List Token) (all : List R) : Type 0 where
    inside : List Token
    items : List R
    list : IsList (IsRow allowed IsValue make) inside items
    parts : ks ≡ inside ++ the_end
    whole : all ≡ rows ++ items

  record MoreItems (rows : List R) (ks : List Token) (all : List R) : Type 0 where
    inside : List Token
    comma : ks ≡ Marked marks.Comma ∷ inside
    more : Items rows inside all

  abbrev After : List R → List Token → List R → Type 0
  After rows ks all = ((ks ≡ the_end) × (all ≡ rows)) ⊎ MoreItems rows ks all

  record Inside (rows : List R) (key : List ℕ) (place : W) (ks : List Token) (all : List R) : Type 0 where
    used : List Token
    behind : List Token
    value : V
    read : walk next place used ≡ Done value
    parts : ks ≡ used ++ behind
    after : After (rows ++ make key value ∷ []) behind all

  inside_step : (rows all : List R) (key : List ℕ) (place : W) (k : Token) (ks : List Token) (o : Outcome W V) → next place k ≡ o
      → ((p : W) → table_walk (In_value rows key p) ks ≡ Done all → Inside rows key p ks all)
      → ((value : V) → table_walk (After_row (rows ++ make key value ∷ [])) ks ≡ Done all → After (rows ++ make key value ∷ []) ks all)
      → all_of (inside_value allowed make start next rows key o) ks (rest_of ks) ≡ Done all → Inside rows key place (k ∷ ks) all
  inside_step rows all key place k ks (Next p) e on_next on_done f = let i = on_next p f in record { used = k ∷ i.used; behind = i.behind; value = i.value; read = rw e i.read; parts = ap (λ us. k ∷ us) i.parts; after = i.after }
  inside_step rows all key place k ks (Done value) e on_next on_done f = record { used = k ∷ []; behind = ks; value = value; read = rw e refl; parts = refl; after = on_done value f }
  inside_step rows all key place k ks Wrong e on_next on_done f = absurd cc

  -- a row and what follows it are items
  items_of : (rows all : List R) (key : List ℕ) (ks us : List Token) → allowed key ≡ true → ks ≡ Quoted key ∷ Marked marks.Arrow ∷ us → Inside rows key start us all → Items rows ks all
  items_of rows all key ks us ok e i = by i.after
    where
      front : List Token
      front = Quoted key ∷ Marked marks.Arrow ∷ i.used

      row : IsRow allowed IsValue make (Quoted key ∷ Marked marks.Arrow ∷ i.used) (make key i.value)
      row = record { key = key; inside = i.used; value = i.value; is_allowed = ok; is_value = walk_value i.used i.value i.read; parts = refl; made = refl }

      by : After (rows ++ make key i.value ∷ []) i.behind all → Items rows ks all
      by (inl (close, is)) = record { inside = Quoted key ∷ Marked marks.Arrow ∷ i.used; items = make key i.value ∷ []; list = last_item row; parts = e ∙ ap (λ vs. Quoted key ∷ Marked marks.Arrow ∷ vs) (i.parts ∙ ap (λ vs. i.used ++ vs) close); whole = is }
      by (inr m) = record {
        inside = (Quoted key ∷ Marked marks.Arrow ∷ i.used) ++ Marked marks.Comma ∷ m.more.inside;
        items = make key i.value ∷ m.more.items;
        list = next_item (Quoted key ∷ Marked marks.Arrow ∷ i.used) m.more.inside row m.more.list;
        parts = e ∙ ap (λ vs. Quoted key ∷ Marked marks.Arrow ∷ vs) (i.parts ∙ ap (λ vs. i.used ++ vs) (m.comma ∙ ap (λ vs. Marked marks.Comma ∷ vs) m.more.parts) ∙ sym (append_assoc i.used (Marked marks.Comma ∷ m.more.inside) the_end));
        whole = m.more.whole ∙ append_assoc rows (make key i.value ∷ []) m.more.items;
      }

  closed_now : (rows all : List R) (ks : List Token) (read : TablePlace W R → Outcome (TablePlace W R) (List R)) → all_of (Done rows) ks read ≡ Done all → (ks ≡ []) × (all ≡ rows)
  closed_now rows all [] read e = let same : rows ≡ all = cc in (refl, sym same)
  closed_now rows all (k ∷ ks) read e = absurd cc

  at_end : (ks : List Token) (rows all : List R) → table_walk (At_end rows) ks ≡ Done all → (ks ≡ Marked marks.Semicolon ∷ []) × (all ≡ rows)
  at_end [] rows all e = absurd cc
  at_end (Marked marks.Semicolon ∷ ks) rows all e = let c = closed_now rows all ks (rest_of ks) e in (ap (λ us. Marked marks.Semicolon ∷ us) c.0, c.1)
  at_end (_ ∷ ks) rows all e = absurd cc

  record Arrowed (rows : List R) (key : List ℕ) (ks : List Token) (all : List R) : Type 0 where
    us : List Token
    parts : ks ≡ Marked marks.Arrow ∷ us
    inside : Inside rows key start us all

  key_step : (rows all : List R) (key : List ℕ) (ks : List Token) (b : Bool) → allowed key ≡ b → (table_walk (At_arrow rows key) ks ≡ Done all → Arrowed rows key ks all)
      → all_of (cond b (Next (At_arrow rows key)) Wrong) ks (rest_of ks) ≡ Done all → Items rows (Quoted key ∷ ks) all
  key_step rows all key ks true e on f = let a = on f in items_of rows all key (Quoted key ∷ ks) a.us e (ap (λ vs. Quoted key ∷ vs) a.parts) a.inside
  key_step rows all key ks false e on f = absurd cc

  mutual
    at_row : (ks : List Token) (rows all : List R) → table_walk (At_row rows) ks ≡ Done all → Items rows ks all
    at_row [] rows all e = absurd cc
    at_row (Marked marks.Close ∷ ks) rows all e = let c = at_end ks rows all e in record { inside = []; items = []; list = no_items; parts = ap (λ us. Marked marks.Close ∷ us) c.0; whole = c.1 ∙ sym (append-nil rows) }
    at_row (Quoted key ∷ ks) rows all e = key_step rows all key ks (allowed key) refl (λ f. at_arrow ks rows key all f) e
    at_row (_ ∷ ks) rows all e = absurd cc

    at_arrow : (ks : List Token) (rows : List R) (key : List ℕ) (all : List R) → table_walk (At_arrow rows key) ks ≡ Done all → Arrowed rows key ks all
    at_arrow [] rows key all e = absurd cc
    at_arrow (Marked marks.Arrow ∷ ks) rows key all e = record { us = ks; parts = refl; inside = in_value ks rows key start all e }
    at_arrow (_ ∷ ks) rows key all e = absurd cc

    in_value : (ks : List Token) (rows : List R) (key : List ℕ) (place : W) (all : List R) → table_walk (In_value rows key place) ks ≡ Done all → Inside rows key place ks all
    in_value [] rows key place all e = absurd cc
    in_value (k ∷ ks) rows key place all e = inside_step rows all key place k ks (next place k) refl (λ p f. in_value ks rows key p all f) (λ value f. after_row ks (rows ++ make key value ∷ []) all f) e

    after_row : (ks : List Token) (rows all : List R) → table_walk (After_row rows) ks ≡ Done all → After rows ks all
    after_row [] rows all e = absurd cc
    after_row (Marked marks.Comma ∷ ks) rows all e = inr (record { inside = ks; comma = refl; more = at_row ks rows all e })
    after_row (Marked marks.Close ∷ ks) rows all e = let c = at_end ks rows all e in inl (ap (λ us. Marked marks.Close ∷ us) c.0, c.1)
    after_row (_ ∷ ks) rows all e = absurd cc

  before_sound : (wanted ks : List Token) (all : List R) → table_walk (Before_folder wanted) ks ≡ Done all → (rest : List Token) × (ks ≡ wanted ++ rest) × (table_walk (Before_folder []) rest ≡ Done all)
  before_sound [] ks all e = (ks, refl, e)
  before_sound (w ∷ wanted) [] all e = absurd cc
  before_sound (w ∷ wanted) (k ∷ ks) all e = by (is_wanted w k) refl (λ f. before_sound wanted ks all f) e
    where
      by : (b : Bool) → is_wanted w k ≡ b → (table_walk (Before_folder wanted) ks ≡ Done all → (rest : List Token) × (ks ≡ wanted ++ rest) × (table_walk (Before_folder []) rest ≡ Done all))
          → all_of (cond b (Next (Before_folder wanted)) Wrong) ks (rest_of ks) ≡ Done all → (rest : List Token) × (k ∷ ks ≡ (w ∷ wanted) ++ rest) × (table_walk (Before_folder []) rest ≡ Done all)
      by true is on f = let r = on f in (r.0, ap (λ x. x ∷ ks) (sym (wanted_is w k is)) ∙ ap (λ us. w ∷ us) r.1, r.2)
      by false is on f = absurd cc

  behind_sound : (wanted ks : List Token) (all : List R) → table_walk (behind_folder_at wanted) ks ≡ Done all → (rest : List Token) × (ks ≡ wanted ++ rest) × (table_walk (At_row []) rest ≡ Done all)
  behind_sound [] ks all e = (ks, refl, e)
  behind_sound (w ∷ wanted) [] all e = absurd cc
  behind_sound (w ∷ wanted) (k ∷ ks) all e = by (is_wanted w k) refl (λ f. behind_sound wanted ks all f) e
    where
      by : (b : Bool) → is_wanted w k ≡ b → (table_walk (behind_folder_at wanted) ks ≡ Done all → (rest : List Token) × (ks ≡ wanted ++ rest) × (table_walk (At_row []) rest ≡ Done all))
          → all_of (cond b (Next (behind_folder_at wanted)) Wrong) ks (rest_of ks) ≡ Done all → (rest : List Token) × (k ∷ ks ≡ (w ∷ wanted) ++ rest) × (table_walk (At_row []) rest ≡ Done all)
      by true is on f = let r = on f in (r.0, ap (λ x. x ∷ ks) (sym (wanted_is w k is)) ∙ ap (λ us. w ∷ us) r.1, r.2)
      by false is on f = absurd cc

  record Headed (ks : List Token) (all : List R) : Type 0 where
    folder : List Token
    rest : List Token
    spelled : IsHead (marked before_folder ++ folder)
    parts : ks ≡ folder ++ rest
    read : table_walk (At_row []) rest ≡ Done all

  folder_sound : (ks : List Token) (all : List R) → table_walk (Before_folder []) ks ≡ Done all → Headed ks all
  folder_sound [] all e = absurd cc
  folder_sound (Marked marks.ThisDir ∷ ks) all e = let b = behind_sound (marked behind_folder) ks all e in
      record { folder = Marked marks.ThisDir ∷ marked behind_folder; rest = b.0; spelled = inl refl; parts = ap (λ us. Marked marks.ThisDir ∷ us) b.1; read = b.2 }
  folder_sound (Marked marks.Dirname ∷ ks) all e = let b = behind_sound (marked (marks.Open ∷ marks.ThisFile ∷ marks.Close ∷ behind_folder)) ks all e in
      record { folder = Marked marks.Dirname ∷ marked (marks.Open ∷ marks.ThisFile ∷ marks.Close ∷ behind_folder); rest = b.0; spelled = inr refl; parts = ap (λ us. Marked marks.Dirname ∷ us) b.1; read = b.2 }
  folder_sound (_ ∷ ks) all e = absurd cc

  pub walk_is_table : (ks : List Token) (rows : List R) → table_walk table_start ks ≡ Done rows → IsTable (IsRow allowed IsValue make) ks rows
  walk_is_table ks rows e =
      let b = before_sound (marked before_folder) ks rows e in
      let h = folder_sound b.0 rows b.2 in
      let i = at_row h.rest [] rows h.read in
      record {
        head = marked before_folder ++ h.folder;
        inside = i.inside;
        is_head = h.spelled;
        list = subst (λ (x : List R). IsList (IsRow allowed IsValue make) i.inside x) (sym i.whole) i.list;
        parts = b.1 ∙ ap (λ us. marked before_folder ++ us) (h.parts ∙ ap (λ us. h.folder ++ us) i.parts) ∙ sym (append_assoc (marked before_folder) h.folder (i.inside ++ the_end));
      }

  -- ---- each place leads to a table

  before_complete : (wanted rest : List Token) → table_walk (Before_folder wanted) (wanted ++ rest) ≡ table_walk (Before_folder []) rest
  before_complete [] rest = refl
  before_complete (w ∷ wanted) rest = rw (is_wanted-itself w) (before_complete wanted rest)

  behind_complete : (wanted rest : List Token) → table_walk (behind_folder_at wanted) (wanted ++ rest) ≡ table_walk (At_row []) rest
  behind_complete [] rest = refl
  behind_complete (w ∷ wanted) rest = rw (is_wanted-itself w) (behind_complete wanted rest)

  value_completes : (rows : List R) (key : List ℕ) (place : W) → Completes (table_next allowed make start next) (In_value rows key place)
  value_completes rows key place = let c = completes place in (c.0 ++ the_end, rows ++ make key c.1 ∷ [], value_inside rows key place c.0 the_end c.1 c.2)

  pub table_completes : (place : TablePlace W R) → Completes (table_next allowed make start next) place
  table_completes (Before_folder wanted) = (wanted ++ Marked marks.ThisDir ∷ (marked behind_folder ++ the_end), [], before_complete wanted (Marked marks.ThisDir ∷ (marked behind_folder ++ the_end)) ∙ behind_complete (marked behind_folder) the_end)
  table_completes (Behind_folder wanted more) = (wanted ∷ (more ++ the_end), [], behind_complete (wanted ∷ more) the_end)
  table_completes (At_row rows) = (the_end, rows, refl)
  table_completes (At_arrow rows key) = let c = value_completes rows key start in (Marked marks.Arrow ∷ c.0, c.1, c.2)
  table_completes (In_value rows key place) = value_completes rows key place
  table_completes (After_row rows) = (the_end, rows, refl)
  table_completes (At_end rows) = (Marked marks.Semicolon ∷ [], rows, refl)
