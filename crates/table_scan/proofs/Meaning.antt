-- What the tables of texts and their faults are, in the words of the grammar.
use Rattle.std.proofs.Common.{◌≡◌, ◌≢◌, ℕ, ◌-◌, Bool, List, [], ◌∷◌, ◌++◌, length, map, Option, Some, None, Result, Ok, Err, ◌⊎◌, inl, inr, refl, sym, ap, subst, ◌∙◌, append_assoc}
use Rattle.std.specs.Prelude.{IfOk, IfErr}
use Rattle.path_name.specs.Given.{◌>>=◌, Gives}
use Rattle.table_scan.specs.declared.types.PrefixRow.{PrefixRow}
use Rattle.table_scan.specs.declared.types.ClassRow.{ClassRow}
use Rattle.table_scan.specs.declared.types.FileRow.{FileRow}
use Rattle.table_scan.specs.declared.types.State.{State}
use Rattle.table_scan.specs.declared.types.Tables.{Tables}
use Rattle.table_scan.specs.declared.types.TableTexts.{TableTexts}
use Rattle.table_scan.specs.declared.types.TableFile.{TableFile}
use Rattle.table_scan.specs.declared.types.TableFile.TheVariants as files
use Rattle.table_scan.specs.declared.types.TableFault.{TableFault}
use Rattle.table_scan.specs.declared.types.TableFault.TheVariants as faults
use Rattle.table_scan.specs.TableTokens.{Token, Placed, text_tokens}
use Rattle.table_scan.specs.TableGrammar.{IsPath, IsFolders, IsState, is_whole, is_any, last_values}
use Rattle.table_scan.specs.TableReading.{Outcome, Done, read_from, At_root, path_next, At_array, folders_next, table_next, table_start, state_next, state_start}
use Rattle.table_scan.specs.TableFaults.{prefix_row, class_row, file_row, prefix_of, class_of, token_list, ArePrefixRows, AreClassRows, IsTextOf, HoldsPrefixes, HoldsClasses, HoldsFiles, HoldsState, IsTableText, IsSpelled, BeginsText, Stops, IsFault, IsFaultIn, IsTableFault, placed, prefixes_of, classes_of, state_of, with_last_values, as_files, as_state, prefix_table, class_table, file_table, state_table, tables_of}
use Rattle.table_scan.specs.declared.stop.Stop.{Stop}
use Rattle.table_scan.specs.declared.stop.Stop.TheVariants.{Bad, OutOfMemory}
use Rattle.table_scan.specs.TableSteps.{Fails, fault_of}
use Rattle.table_scan.proofs.Walks.{walk, Completes, read_is_walk, walk_is_read, StopsWalk, stuck}
use Rattle.table_scan.proofs.PathGrammar.{path_walk, walk_path, path_completes, folders_walk, walk_folders, folders_complete}
use Rattle.table_scan.proofs.RowGrammar.{table_is_walked, walk_is_table, table_completes}
use Rattle.table_scan.proofs.Spelled.{prefixes_spelled, classes_spelled, state_spelled}
use Rattle.table_scan.proofs.StateGrammar.{walk_is_state, state_is_walked, state_completes}

-- ---- a kind of texts

module _ {W V : Type 0} (next : W → Token → Outcome W V) (start : W) (IsKind : List Token → V → Type 0)
    (walked : (ks : List Token) (value : V) → IsKind ks value → walk next start ks ≡ Done value) (kinded : (ks : List Token) (value : V) → walk next start ks ≡ Done value → IsKind ks value)
    (completes : (place : W) → Completes next place) (spelled : (ks : List Token) (value : V) → IsKind ks value → IsSpelled ks) where
  text_is_read : (text : List ℕ) (value : V) → IsTextOf IsKind text value → read_from next start (text_tokens text) ≡ Ok value
  text_is_read text value h = walk_is_read next start (text_tokens text) value (walked (token_list (text_tokens text)) value h)

  read_is_text : (text : List ℕ) (value : V) → read_from next start (text_tokens text) ≡ Ok value → IsTextOf IsKind text value
  read_is_text text value e = kinded (token_list (text_tokens text)) value (read_is_walk next start (text_tokens text) value e)

  stops_kind : (before : List Token) (others : List Placed) → StopsWalk next start before others → Stops IsKind before others
  stops_kind before [] h = λ value is. h value (walked before value is)
  stops_kind before (t ∷ ts) h = λ b. h b.more b.value (walked (before ++ t.token ∷ b.more) b.value (subst (λ ks. IsKind ks b.value) (b.parts ∙ append_assoc before (t.token ∷ []) b.more) b.is))

  begins_text : (before more : List Token) (value : V) → IsKind (before ++ more) value → BeginsText IsKind before
  begins_text before more value h =
      let s = spelled (before ++ more) value h in
      record { text = s.0; value = value; more = more; is = subst (λ ks. IsKind ks value) (sym s.1) h; parts = s.1 }

  text_fault : (text : List ℕ) (left : ℕ) → read_from next start (text_tokens text) ≡ Err left → IsFault IsKind text (length text - left)
  text_fault text left e =
      let s = stuck next completes start (text_tokens text) left e in
      record {
        before = s.before;
        others = s.others;
        parts = s.parts;
        place = ap (λ n. length text - n) s.at;
        begins = begins_text (token_list s.before) s.more s.value (kinded (token_list s.before ++ s.more) s.value s.begins);
        stops = stops_kind (token_list s.before) s.others s.stops;
      }

-- ---- the three kinds

module _ (project : List (List ℕ)) (allowed : List ℕ → Bool) where
  prefixes_read : (text : List ℕ) (rows : List PrefixRow) → IsTextOf (ArePrefixRows project allowed) text rows → prefixes_of project allowed text ≡ Ok rows
  unfolding prefixes_of
  prefixes_read = text_is_read (table_next allowed prefix_row At_array (folders_next project)) table_start (ArePrefixRows project allowed)
      (table_is_walked allowed prefix_row At_array (folders_next project) (IsFolders project) (folders_walk project) (walk_folders project) (folders_complete project))
      (walk_is_table allowed prefix_row At_array (folders_next project) (IsFolders project) (folders_walk project) (walk_folders project) (folders_complete project))
      (table_completes allowed prefix_row At_array (folders_next project) (IsFolders project) (folders_walk project) (walk_folders project) (folders_complete project)) (prefixes_spelled project allowed)

  prefixes_are : (text : List ℕ) (rows : List PrefixRow) → prefixes_of project allowed text ≡ Ok rows → IsTextOf (ArePrefixRows project allowed) text rows
  unfolding prefixes_of
  prefixes_are = read_is_text (table_next allowed prefix_row At_array (folders_next project)) table_start (ArePrefixRows project allowed)
      (table_is_walked allowed prefix_row At_array (folders_next project) (IsFolders project) (folders_walk project) (walk_folders project) (folders_complete project))
      (walk_is_table allowed prefix_row At_array (folders_next project) (IsFolders project) (folders_walk project) (walk_folders project) (folders_complete project))
      (table_completes allowed prefix_row At_array (folders_next project) (IsFolders project) (folders_walk project) (walk_folders project) (folders_complete project)) (prefixes_spelled project allowed)

  prefixes_fault : (text : List ℕ) (left : ℕ) → prefixes_of project allowed text ≡ Err left → IsFault (ArePrefixRows project allowed) text (length text - left)
  unfolding prefixes_of
  prefixes_fault = text_fault (table_next allowed prefix_row At_array (folders_next project)) table_start (ArePrefixRows project allowed)
      (table_is_walked allowed prefix_row At_array (folders_next project) (IsFolders project) (folders_walk project) (walk_folders project) (folders_complete project))
      (walk_is_table allowed prefix_row At_array (folders_next project) (IsFolders project) (folders_walk project) (walk_folders project) (folders_complete project))
      (table_completes allowed prefix_row At_array (folders_next project) (IsFolders project) (folders_walk project) (walk_folders project) (folders_complete project)) (prefixes_spelled project allowed)

module _ (project : List (List ℕ)) where
  one_path : (ks : List Token) (path : List (List ℕ)) → IsPath project ks path → walk (path_next project) At_root ks ≡ Done path
  one_path ks path h = path_walk project h

  classes_read : (text : List ℕ) (rows : List ClassRow) → IsTextOf (AreClassRows project) text rows → classes_of project text ≡ Ok rows
  unfolding classes_of
  classes_read = text_is_read (table_next is_any class_row At_root (path_next project)) table_start (AreClassRows project)
      (table_is_walked is_any class_row At_root (path_next project) (IsPath project) one_path (walk_path project) (path_completes project))
      (walk_is_table is_any class_row At_root (path_next project) (IsPath project) one_path (walk_path project) (path_completes project))
      (table_completes is_any class_row At_root (path_next project) (IsPath project) one_path (walk_path project) (path_completes project)) (classes_spelled project)

  classes_are : (text : List ℕ) (rows : List ClassRow) → classes_of project text ≡ Ok rows → IsTextOf (AreClassRows project) text rows
  unfolding classes_of
  classes_are = read_is_text (table_next is_any class_row At_root (path_next project)) table_start (AreClassRows project)
      (table_is_walked is_any class_row At_root (path_next project) (IsPath project) one_path (walk_path project) (path_completes project))
      (walk_is_table is_any class_row At_root (path_next project) (IsPath project) one_path (walk_path project) (path_completes project))
      (table_completes is_any class_row At_root (path_next project) (IsPath project) one_path (walk_path project) (path_completes project)) (classes_spelled project)

  classes_fault : (text : List ℕ) (left : ℕ) → classes_of project text ≡ Err left → IsFault (AreClassRows project) text (length text - left)
  unfolding classes_of
  classes_fault = text_fault (table_next is_any class_row At_root (path_next project)) table_start (AreClassRows project)
      (table_is_walked is_any class_row At_root (path_next project) (IsPath project) one_path (walk_path project) (path_completes project))
      (walk_is_table is_any class_row At_root (path_next project) (IsPath project) one_path (walk_path project) (path_completes project))
      (table_completes is_any class_row At_root (path_next project) (IsPath project) one_path (walk_path project) (path_completes project)) (classes_spelled project)

state_read : (text : List ℕ) (state : State) → IsTextOf IsState text state → state_of text ≡ Ok state
unfolding state_of
state_read = text_is_read state_next state_start IsState state_is_walked walk_is_state state_completes state_spelled

state_is : (text : List ℕ) (state : State) → state_of text ≡ Ok state → IsTextOf IsState text state
unfolding state_of
state_is = read_is_text state_next state_start IsState state_is_walked walk_is_state state_completes state_spelled

state_fault : (text : List ℕ) (left : ℕ) → state_of text ≡ Err left → IsFault IsState text (length text - left)
unfolding state_of
state_fault = text_fault state_next state_start IsState state_is_walked walk_is_state state_completes state_spelled

-- ---- a table file

-- the fault of a file
record FaultIn {V : Type 0} (IsKind : List Token → V → Type 0) (table : TableFile) (text : Option (List ℕ)) (fault : TableFault) : Type 0 where
  at : ℕ
  is : fault ≡ faults.BadTables table at
  meant : IsFaultIn IsKind text at

ok_is : {X E : Type 0} (x y : X) → ◌≡◌ {A = Result X E} (Ok x) (Ok y) → x ≡ y
ok_is x y e = cc

err_is : {X E : Type 0} (x y : E) → ◌≡◌ {A = Result X E} (Err x) (Err y) → x ≡ y
err_is x y e = cc

module _ (project : List (List ℕ)) (allowed : List ℕ → Bool) (table : TableFile) where
  prefix_holds : (text : Option (List ℕ)) (rows : List PrefixRow) → prefix_table project allowed table text ≡ Ok rows → HoldsPrefixes project allowed text rows
  unfolding prefix_table
  prefix_holds None rows e = sym (ok_is [] rows e)
  prefix_holds (Some text) rows e = by (prefixes_of project allowed text) refl e
    where
      by : (o : Result (List PrefixRow) ℕ) → prefixes_of project allowed text ≡ o → placed table text (with_last_values prefix_of o) ≡ Ok rows → HoldsPrefixes project allowed (Some text) rows
      by (Ok written) is f = (written, prefixes_are project allowed text written is, sym (ok_is (last_values prefix_of written) rows f))
      by (Err left) is f = absurd cc

  holds_prefix : (text : Option (List ℕ)) (rows : List PrefixRow) → HoldsPrefixes project allowed text rows → prefix_table project allowed table text ≡ Ok rows
  unfolding prefix_table
  holds_prefix None rows h = ap (λ r. Ok r) (sym h)
  holds_prefix (Some text) rows h = ap (λ o. placed table text (with_last_values prefix_of o)) (prefixes_read project allowed text h.0 h.1) ∙ ap (λ r. Ok r) (sym h.2)

  prefix_fault : (text : Option (List ℕ)) (fault : TableFault) → prefix_table project allowed table text ≡ Err fault → FaultIn (ArePrefixRows project allowed) table text fault
  unfolding prefix_table
  prefix_fault None fault e = absurd cc
  prefix_fault (Some text) fault e = by (prefixes_of project allowed text) refl e
    where
      by : (o : Result (List PrefixRow) ℕ) → prefixes_of project allowed text ≡ o → placed table text (with_last_values prefix_of o) ≡ Err fault → FaultIn (ArePrefixRows project allowed) table (Some text) fault
      by (Ok written) is f = absurd cc
      by (Err left) is f = record { at = length text - left; is = sym (err_is (faults.BadTables table (length text - left)) fault f); meant = prefixes_fault project allowed text left is }

module _ (project : List (List ℕ)) where
  class_holds : (text : Option (List ℕ)) (rows : List ClassRow) → class_table project text ≡ Ok rows → HoldsClasses project text rows
  unfolding class_table
  class_holds None rows e = sym (ok_is [] rows e)
  class_holds (Some text) rows e = by (classes_of project text) refl e
    where
      by : (o : Result (List ClassRow) ℕ) → classes_of project text ≡ o → placed files.ClassMap text (with_last_values class_of o) ≡ Ok rows → HoldsClasses project (Some text) rows
      by (Ok written) is f = (written, classes_are project text written is, sym (ok_is (last_values class_of written) rows f))
      by (Err left) is f = absurd cc

  holds_class : (text : Option (List ℕ)) (rows : List ClassRow) → HoldsClasses project text rows → class_table project text ≡ Ok rows
  unfolding class_table
  holds_class None rows h = ap (λ r. Ok r) (sym h)
  holds_class (Some text) rows h = ap (λ o. placed files.ClassMap text (with_last_values class_of o)) (classes_read project text h.0 h.1) ∙ ap (λ r. Ok r) (sym h.2)

  class_fault : (text : Option (List ℕ)) (fault : TableFault) → class_table project text ≡ Err fault → FaultIn (AreClassRows project) files.ClassMap text fault
  unfolding class_table
  class_fault None fault e = absurd cc
  class_fault (Some text) fault e = by (classes_of project text) refl e
    where
      by : (o : Result (List ClassRow) ℕ) → classes_of project text ≡ o → placed files.ClassMap text (with_last_values class_of o) ≡ Err fault → FaultIn (AreClassRows project) files.ClassMap (Some text) fault
      by (Ok written) is f = absurd cc
      by (Err left) is f = record { at = length text - left; is = sym (err_is (faults.BadTables files.ClassMap (length text - left)) fault f); meant = classes_fault project text left is }

  file_holds : (text : Option (List ℕ)) (rows : List FileRow) → file_table project text ≡ Ok rows → HoldsFiles project text rows
  unfolding file_table
  file_holds None rows e = ([], refl, sym (ok_is [] rows e))
  file_holds (Some text) rows e = by (classes_of project text) refl e
    where
      by : (o : Result (List ClassRow) ℕ) → classes_of project text ≡ o → placed files.Files text (as_files (with_last_values class_of o)) ≡ Ok rows → HoldsFiles project (Some text) rows
      by (Ok written) is f = (last_values class_of written, (written, classes_are project text written is, refl), sym (ok_is (map file_row (last_values class_of written)) rows f))
      by (Err left) is f = absurd cc

  holds_file : (text : Option (List ℕ)) (rows : List FileRow) → HoldsFiles project text rows → file_table project text ≡ Ok rows
  unfolding file_table
  holds_file None rows h = ap (λ r. Ok r) (sym (h.2 ∙ ap (map file_row) h.1))
  holds_file (Some text) rows h = ap (λ o. placed files.Files text (as_files (with_last_values class_of o))) (classes_read project text h.1.0 h.1.1) ∙ ap (λ r. Ok r) (sym (h.2 ∙ ap (map file_row) h.1.2))

  file_fault : (text : Option (List ℕ)) (fault : TableFault) → file_table project text ≡ Err fault → FaultIn (AreClassRows project) files.Files text fault
  unfolding file_table
  file_fault None fault e = absurd cc
  file_fault (Some text) fault e = by (classes_of project text) refl e
    where
      by : (o : Result (List ClassRow) ℕ) → classes_of project text ≡ o → placed files.Files text (as_files (with_last_values class_of o)) ≡ Err fault → FaultIn (AreClassRows project) files.Files (Some text) fault
      by (Ok written) is f = absurd cc
      by (Err left) is f = record { at = length text - left; is = sym (err_is (faults.BadTables files.Files (length text - left)) fault f); meant = classes_fault project text left is }

state_holds : (text : Option (List ℕ)) (state : Option State) → state_table text ≡ Ok state → HoldsState text state
unfolding state_table
state_holds None state e = sym (ok_is None state e)
state_holds (Some text) state e = by (state_of text) refl e
  where
    by : (o : Result State ℕ) → state_of text ≡ o → placed files.State text (as_state o) ≡ Ok state → HoldsState (Some text) state
    by (Ok read) is f = (read, state_is text read is, sym (ok_is (Some read) state f))
    by (Err left) is f = absurd cc

holds_state : (text : Option (List ℕ)) (state : Option State) → HoldsState text state → state_table text ≡ Ok state
unfolding state_table
holds_state None state h = ap (λ s. Ok s) (sym h)
holds_state (Some text) state h = ap (λ o. placed files.State text (as_state o)) (state_read text h.0 h.1) ∙ ap (λ s. Ok s) (sym h.2)

state_faulty : (text : Option (List ℕ)) (fault : TableFault) → state_table text ≡ Err fault → FaultIn IsState files.State text fault
unfolding state_table
state_faulty None fault e = absurd cc
state_faulty (Some text) fault e = by (state_of text) refl e
  where
    by : (o : Result State ℕ) → state_of text ≡ o → placed files.State text (as_state o) ≡ Err fault → FaultIn IsState files.State (Some text) fault
    by (Ok read) is f = absurd cc
    by (Err left) is f = record { at = length text - left; is = sym (err_is (faults.BadTables files.State (length text - left)) fault f); meant = state_fault text left is }

-- ---- all of them

bind_ok : {X Y : Type 0} (r : Result X TableFault) (f : X → Result Y TableFault) (y : Y) → (r >>= f) ≡ Ok y → (x : X) × (r ≡ Ok x) × (f x ≡ Ok y)
bind_ok (Ok x) f y e = (x, refl, e)
bind_ok (Err fault) f y e = absurd cc

bind_err : {X Y : Type 0} (r : Result X TableFault) (f : X → Result Y TableFault) (fault : TableFault) → (r >>= f) ≡ Err fault → (r ≡ Err fault) ⊎ ((x : X) × (r ≡ Ok x) × (f x ≡ Err fault))
bind_err (Ok x) f fault e = inr (x, refl, e)
bind_err (Err other) f fault e = let same : other ≡ fault = cc in inl (ap (λ x. Err x) same)

module _ (project : List (List ℕ)) (texts : TableTexts) where
  pub tables_are : (tables : Tables) → tables_of project texts ≡ Ok tables → IsTableText texts project tables
  unfolding tables_of
  tables_are tables e =
      let a = bind_ok (prefix_table project is_whole files.Psr4 texts.psr4) _ tables e in
      let b = bind_ok (prefix_table project is_any files.Psr0 texts.psr0) _ tables a.2 in
      let c = bind_ok (class_table project texts.class_map) _ tables b.2 in
      let d = bind_ok (file_table project texts.files) _ tables c.2 in
      let f = bind_ok (state_table texts.state) _ tables d.2 in
      let made : Tables = record { psr4 = a.0; psr0 = b.0; class_map = c.0; files = d.0; state = f.0 } in
      let is : IsTableText texts project made = record {
        psr4 = prefix_holds project is_whole files.Psr4 texts.psr4 a.0 a.1;
        psr0 = prefix_holds project is_any files.Psr0 texts.psr0 b.0 b.1;
        class_map = class_holds project texts.class_map c.0 c.1;
        files = file_holds project texts.files d.0 d.1;
        state = state_holds texts.state f.0 f.1;
      } in
      rw (← ok_is made tables f.2) is

  pub are_tables : (tables : Tables) → IsTableText texts project tables → tables_of project texts ≡ Ok tables
  unfolding tables_of
  are_tables tables h =
      rw (
        holds_prefix project is_whole files.Psr4 texts.psr4 tables.psr4 h.psr4,
        holds_prefix project is_any files.Psr0 texts.psr0 tables.psr0 h.psr0,
        holds_class project texts.class_map tables.class_map h.class_map,
        holds_file project texts.files tables.files h.files,
        holds_state texts.state tables.state h.state,
      ) refl

  -- the part behind each step
  abbrev from_state : List PrefixRow → List PrefixRow → List ClassRow → List FileRow → Result Tables TableFault
  from_state psr4 psr0 classes rows = state_table texts.state >>= λ state. Ok (record { psr4 = psr4; psr0 = psr0; class_map = classes; files = rows; state = state })

  abbrev from_files : List PrefixRow → List PrefixRow → List ClassRow → Result Tables TableFault
  from_files psr4 psr0 classes = file_table project texts.files >>= λ rows. from_state psr4 psr0 classes rows

  abbrev from_classes : List PrefixRow → List PrefixRow → Result Tables TableFault
  from_classes psr4 psr0 = class_table project texts.class_map >>= λ classes. from_files psr4 psr0 classes

  abbrev from_psr0 : List PrefixRow → Result Tables TableFault
  from_psr0 psr4 = prefix_table project is_any files.Psr0 texts.psr0 >>= λ psr0. from_classes psr4 psr0

  fault_in_state : (fault : TableFault) (psr4 psr0 : List PrefixRow) (classes : List ClassRow) (rows : List FileRow) → HoldsPrefixes project is_whole texts.psr4 psr4 → HoldsPrefixes project is_any texts.psr0 psr0 → HoldsClasses project texts.class_map classes → HoldsFiles project texts.files rows
      → (state_table texts.state ≡ Err fault) ⊎ ((state : Option State) × (state_table texts.state ≡ Ok state) × (◌≡◌ {A = Result Tables TableFault} (Ok (record { psr4 = psr4; psr0 = psr0; class_map = classes; files = rows; state = state })) (Err fault))) → IsTableFault texts project fault
  unfolding IsTableFault
  fault_in_state fault psr4 psr0 classes rows a b c d (inl f) = let h = state_faulty texts.state fault f in rw h.is (psr4, psr0, classes, rows, a, b, c, d, h.meant)
  fault_in_state fault psr4 psr0 classes rows a b c d (inr (state, s, f)) = absurd cc

  fault_in_files : (fault : TableFault) (psr4 psr0 : List PrefixRow) (classes : List ClassRow) → HoldsPrefixes project is_whole texts.psr4 psr4 → HoldsPrefixes project is_any texts.psr0 psr0 → HoldsClasses project texts.class_map classes
      → (file_table project texts.files ≡ Err fault) ⊎ ((rows : List FileRow) × (file_table project texts.files ≡ Ok rows) × (from_state psr4 psr0 classes rows ≡ Err fault)) → IsTableFault texts project fault
  unfolding IsTableFault
  fault_in_files fault psr4 psr0 classes a b c (inl f) = let h = file_fault project texts.files fault f in rw h.is (psr4, psr0, classes, a, b, c, h.meant)
  fault_in_files fault psr4 psr0 classes a b c (inr (rows, s, f)) = fault_in_state fault psr4 psr0 classes rows a b c (file_holds project texts.files rows s) (bind_err (state_table texts.state) _ fault f)

  fault_in_classes : (fault : TableFault) (psr4 psr0 : List PrefixRow) → HoldsPrefixes project is_whole texts.psr4 psr4 → HoldsPrefixes project is_any texts.psr0 psr0
      → (class_table project texts.class_map ≡ Err fault) ⊎ ((classes : List ClassRow) × (class_table project texts.class_map ≡ Ok classes) × (from_files psr4 psr0 classes ≡ Err fault)) → IsTableFault texts project fault
  unfolding IsTableFault
  fault_in_classes fault psr4 psr0 a b (inl f) = let h = class_fault project texts.class_map fault f in rw h.is (psr4, psr0, a, b, h.meant)
  fault_in_classes fault psr4 psr0 a b (inr (classes, s, f)) = fault_in_files fault psr4 psr0 classes a b (class_holds project texts.class_map classes s) (bind_err (file_table project texts.files) _ fault f)

  fault_in_psr0 : (fault : TableFault) (psr4 : List PrefixRow) → HoldsPrefixes project is_whole texts.psr4 psr4
      → (prefix_table project is_any files.Psr0 texts.psr0 ≡ Err fault) ⊎ ((psr0 : List PrefixRow) × (prefix_table project is_any files.Psr0 texts.psr0 ≡ Ok psr0) × (from_classes psr4 psr0 ≡ Err fault)) → IsTableFault texts project fault
  unfolding IsTableFault
  fault_in_psr0 fault psr4 a (inl f) = let h = prefix_fault project is_any files.Psr0 texts.psr0 fault f in rw h.is (psr4, a, h.meant)
  fault_in_psr0 fault psr4 a (inr (psr0, s, f)) = fault_in_classes fault psr4 psr0 a (prefix_holds project is_any files.Psr0 texts.psr0 psr0 s) (bind_err (class_table project texts.class_map) _ fault f)

  fault_in_psr4 : (fault : TableFault)
      → (prefix_table project is_whole files.Psr4 texts.psr4 ≡ Err fault) ⊎ ((psr4 : List PrefixRow) × (prefix_table project is_whole files.Psr4 texts.psr4 ≡ Ok psr4) × (from_psr0 psr4 ≡ Err fault)) → IsTableFault texts project fault
  unfolding IsTableFault
  fault_in_psr4 fault (inl f) = let h = prefix_fault project is_whole files.Psr4 texts.psr4 fault f in rw h.is h.meant
  fault_in_psr4 fault (inr (psr4, s, f)) = fault_in_psr0 fault psr4 (prefix_holds project is_whole files.Psr4 texts.psr4 psr4 s) (bind_err (prefix_table project is_any files.Psr0 texts.psr0) _ fault f)

  pub tables_fault : (fault : TableFault) → tables_of project texts ≡ Err fault → IsTableFault texts project fault
  unfolding tables_of
  tables_fault fault e = fault_in_psr4 fault (bind_err (prefix_table project is_whole files.Psr4 texts.psr4) (λ psr4. from_psr0 psr4) fault e)

  -- ---- in the words of a contract

  pub tables_held : (result : Result Tables TableFault) → Gives (λ tables. tables) faults.OutOfMemory (tables_of project texts) result → IfOk result (λ tables. IsTableText texts project tables)
  tables_held (Ok tables) h = tables_are tables h
  tables_held (Err fault) h = tt

  pub held_read : (result : Result Tables TableFault) → Gives (λ tables. tables) faults.OutOfMemory (tables_of project texts) result → (tables : Tables) → IsTableText texts project tables → Gives (λ found. found) faults.OutOfMemory (Ok tables) result
  held_read (Ok found) h tables is = sym (are_tables tables is) ∙ h
  held_read (Err fault) h tables is = λ other. sym (are_tables tables is) ∙ h other

  pub fault_meant : (result : Result Tables TableFault) → Gives (λ tables. tables) faults.OutOfMemory (tables_of project texts) result → IfErr result (λ e. e ≢ faults.OutOfMemory → IsTableFault texts project e)
  fault_meant (Ok tables) h = tt
  fault_meant (Err fault) h = λ other. tables_fault fault (h other)

pub one_tables : (project : List (List ℕ)) (texts : TableTexts) (tables others : Tables) → IsTableText texts project tables → IsTableText texts project others → tables ≡ others
one_tables project texts tables others a b = ok_is {E = TableFault} tables others (sym (are_tables project texts tables a) ∙ are_tables project texts others b)

-- ---- a text that is there

pub text_holds : (project : List (List ℕ)) (allowed : List ℕ → Bool) (table : TableFile) (text : Option (List ℕ)) (t : List ℕ) (rows : List PrefixRow) → text ≡ Some t
    → with_last_values prefix_of (prefixes_of project allowed t) ≡ Ok rows → prefix_table project allowed table text ≡ Ok rows
unfolding prefix_table
text_holds project allowed table text t rows e h = rw e (ap (placed table t) h)

pub text_fails : (project : List (List ℕ)) (allowed : List ℕ → Bool) (table : TableFile) (text : Option (List ℕ)) (t : List ℕ) (stop : Stop) (fault : TableFault) → text ≡ Some t
    → Fails stop (with_last_values prefix_of (prefixes_of project allowed t)) → fault ≡ fault_of stop table (length t) → fault ≢ faults.OutOfMemory → prefix_table project allowed table text ≡ Err fault
unfolding prefix_table
text_fails project allowed table text t (Bad left) fault e h f other = rw (e, f) (ap (placed table t) h)
text_fails project allowed table text t OutOfMemory fault e h f other = absurd (other f)
