-- The steps of arrays and objects.
use Rattle.std.proofs.Common.{◌≡◌, ℕ, suc, ◌+◌, ◌-◌, ◌<◌, ◌≤◌, Bool, true, false, cond, List, [], ◌∷◌, ◌++◌, length, map, None, Result, Ok, Err, refl, sym, ap, subst, ◌∙◌, arith}
use Rattle.std.specs.Prelude.{reverse}
use Rattle.std.specs.Borrow.{Bor}
use Rattle.std.specs.Global.{Vec}
use Rattle.path_name.specs.Bytes.{is_blank}
use Rattle.path_name.specs.Orders.{bytes_are_equal}
use Rattle.indexmap.specs.IndexMap.{insert_entry}
use Rattle.json_ordered.specs.declared.doc.Doc.{Doc}
use Rattle.json_ordered.specs.declared.frame.Frame as frames
use Rattle.json_ordered.specs.declared.step.Step.{Step}
use Rattle.json_ordered.specs.declared.stop.Stop as stops
use Rattle.json_ordered.specs.declared.stop.Stop.TheVariants as stop
use Rattle.json_ordered.specs.JsonTree.{JsonTree, array_of, object_of, put}
use Rattle.json_ordered.specs.Docs.{tree_of}
use Rattle.json_ordered.specs.JsonReading.{Frame, In_array, In_object, Plain, As_name, Place, Before_value, After_open_array, After_open_object, Before_name, After_name, After_value, In_string, State, Next, Go, Wrong, Deep, step_at, step, whole_value, Syntax_with, Too_deep_with, ended, goes_on, read_from}
use Rattle.json_ordered.specs.JsonSteps.{at, Fails, Skips, NoBlank, NoByte}
use Rattle.json_ordered.specs.JsonFrames.{entry_of, frame_of, stack_of, in_frames, Turn, inside}
use Rattle.json_ordered.proofs.Complete.{one_byte, skip, stays_open_array, stays_open_object, stays_before_name, stays_after_name, stays_after_value}
use Rattle.std.proofs.lemmas.List.{map_push, reverse-append, length-append}
use Rattle.json_ordered.proofs.Escapes.{eqb_no, fails_along}

-- ---- where a reading stops

abbrev pub WrongAt : ℕ → List Frame → Place → List ℕ → Type 0
WrongAt levels stack place [] = whole_value stack place ≡ None
WrongAt levels stack place (byte ∷ rest) = step_at levels stack place byte ≡ Wrong

pub halts_at : (levels : ℕ) (stack : List Frame) (place : Place) (text : List ℕ) (e : stops.Stop) → WrongAt levels stack place text → e ≡ stop.Syntax (length text) → Fails e (read_from (at levels stack place) text)
unfolding read_from step
halts_at levels stack place [] e h is = subst (λ (f : stops.Stop). Fails f (read_from (at levels stack place) [])) (sym is) (ap ended h)
halts_at levels stack place (byte ∷ rest) e h is = subst (λ (f : stops.Stop). Fails f (read_from (at levels stack place) (byte ∷ rest))) (sym is) (ap (λ (n : Next). goes_on n (suc (length rest)) (λ u. read_from u rest)) h)

pub deep_at : (levels : ℕ) (stack : List Frame) (place : Place) (byte : ℕ) (rest : List ℕ) → step_at levels stack place byte ≡ Deep → read_from (at levels stack place) (byte ∷ rest) ≡ Err (Too_deep_with (suc (length rest)))
unfolding read_from step
deep_at levels stack place byte rest h = ap (λ (n : Next). goes_on n (suc (length rest)) (λ u. read_from u rest)) h

pub skipped : (levels : ℕ) (stack : List Frame) (place : Place) (text rest : List ℕ) → ((byte : ℕ) → is_blank byte ≡ true → step_at levels stack place byte ≡ Go (at levels stack place)) → Skips text rest
    → read_from (at levels stack place) text ≡ read_from (at levels stack place) rest
skipped levels stack place text rest stays s = ap (read_from (at levels stack place)) s.parts ∙ skip levels stack place stays s.blanks rest s.are_blanks

-- ---- names

no_name : (levels : ℕ) (stack : List Frame) (done : List (List ℕ × JsonTree)) (text : List ℕ) → NoBlank text → NoByte 34 text → WrongAt levels stack (Before_name done) text
no_name levels [] done [] b n = refl
no_name levels (frame ∷ stack) done [] b n = refl
no_name levels stack done (byte ∷ rest) b n = rw (b, n) refl

no_colon : (levels : ℕ) (stack : List Frame) (done : List (List ℕ × JsonTree)) (name text : List ℕ) → NoBlank text → NoByte 58 text → WrongAt levels stack (After_name done name) text
no_colon levels [] done name [] b n = refl
no_colon levels (frame ∷ stack) done name [] b n = refl
no_colon levels stack done name (byte ∷ rest) b n = rw (b, n) refl

module _ (levels : ℕ) (stack : List Frame) (done : List (List ℕ × JsonTree)) where
  pub name_skips : (text rest : List ℕ) → Skips text rest → read_from (at levels stack (Before_name done)) text ≡ read_from (at levels stack (Before_name done)) rest
  name_skips text rest s = skipped levels stack (Before_name done) text rest (stays_before_name levels stack done) s

  pub name_halts : (text rest : List ℕ) (e : stops.Stop) → Skips text rest → e ≡ stop.Syntax (length rest) → NoByte 34 rest → Fails e (read_from (at levels stack (Before_name done)) text)
  name_halts text rest e s is n = fails_along e _ _ (name_skips text rest s) (halts_at levels stack (Before_name done) rest e (no_name levels stack done rest s.stops n) is)

  pub name_begins : (text quoted rest : List ℕ) → Skips text quoted → quoted ≡ 34 ∷ rest → read_from (at levels stack (Before_name done)) text ≡ read_from (at levels stack (In_string (As_name done) [] Plain)) rest
  name_begins text quoted rest s parts = name_skips text quoted s ∙ ap (read_from (at levels stack (Before_name done))) parts ∙ one_byte levels stack (Before_name done) (at levels stack (In_string (As_name done) [] Plain)) 34 rest refl

  colon_skips : (name text rest : List ℕ) → Skips text rest → read_from (at levels stack (After_name done name)) text ≡ read_from (at levels stack (After_name done name)) rest
  colon_skips name text rest s = skipped levels stack (After_name done name) text rest (stays_after_name levels stack done name) s

  pub colon_halts : (name text rest : List ℕ) (e : stops.Stop) → Skips text rest → e ≡ stop.Syntax (length rest) → NoByte 58 rest → Fails e (read_from (at levels stack (After_name done name)) text)
  colon_halts name text rest e s is n = fails_along e _ _ (colon_skips name text rest s) (halts_at levels stack (After_name done name) rest e (no_colon levels stack done name rest s.stops n) is)

  pub colon_more : (name text colon rest : List ℕ) → Skips text colon → colon ≡ 58 ∷ rest → read_from (at levels stack (After_name done name)) text ≡ read_from (at levels (In_object done name ∷ stack) Before_value) rest
  colon_more name text colon rest s parts = colon_skips name text colon s ∙ ap (read_from (at levels stack (After_name done name))) parts ∙ one_byte levels stack (After_name done name) (at levels (In_object done name ∷ stack) Before_value) 58 rest refl

-- ---- what is open

pub stack_push : (all : List frames.Frame) (f : frames.Frame) → stack_of (all ++ f ∷ []) ≡ frame_of f ∷ stack_of all
stack_push all f = ap (λ (fs : List Frame). reverse fs) (map_push frame_of all f) ∙ reverse-append (map frame_of all) (frame_of f ∷ [])

pub in_push : (all new : List frames.Frame) (f : frames.Frame) (g : Frame) (place : Place) → new ≡ all ++ f ∷ [] → frame_of f ≡ g → in_frames new place ≡ at (128 - (length all + 1)) (g ∷ stack_of all) place
in_push all new f g place is same =
    ap (λ (fs : List frames.Frame). in_frames fs place) is ∙ ap (λ (n : ℕ). at (128 - n) (stack_of (all ++ f ∷ [])) place) (length-append all (f ∷ []))
    ∙ ap (λ (fs : List Frame). at (128 - (length all + 1)) fs place) (stack_push all f ∙ ap (λ (h : Frame). h ∷ stack_of all) same)

pub room : (n : ℕ) → n < 128 → 128 - n ≡ suc (128 - (n + 1))
room n h = omega arith

no_room : (n : ℕ) → 128 ≤ n → 128 - n ≡ 0
no_room n h = omega arith

-- the state after a value, one level down again
pub closed_to : (all : List frames.Frame) (v w : JsonTree) (text : List ℕ) → length all < 128 → v ≡ w → read_from (at (suc (128 - (length all + 1))) (stack_of all) (After_value v)) text ≡ read_from (in_frames all (After_value w)) text
closed_to all v w text h same = ap (λ (n : ℕ). read_from (at n (stack_of all) (After_value v)) text) (sym (room (length all) h)) ∙ ap (λ (t : JsonTree). read_from (in_frames all (After_value t)) text) same

abbrev pub inner : List frames.Frame → ℕ
inner all = 128 - (length all + 1)

module _ (all : List frames.Frame) (text : List ℕ) where
  pub array_deep : (left : ℕ) → 128 ≤ length all → left ≡ length text + 1 → read_from (in_frames all Before_value) (91 ∷ text) ≡ Err (Too_deep_with left)
  array_deep left h is = ap (λ (n : ℕ). read_from (at n (stack_of all) Before_value) (91 ∷ text)) (no_room (length all) h) ∙ deep_at 0 (stack_of all) Before_value 91 text refl ∙ ap (λ (n : ℕ). Err (Too_deep_with n)) (omega arith ∙ sym is)

  pub object_deep : (left : ℕ) → 128 ≤ length all → left ≡ length text + 1 → read_from (in_frames all Before_value) (123 ∷ text) ≡ Err (Too_deep_with left)
  object_deep left h is = ap (λ (n : ℕ). read_from (at n (stack_of all) Before_value) (123 ∷ text)) (no_room (length all) h) ∙ deep_at 0 (stack_of all) Before_value 123 text refl ∙ ap (λ (n : ℕ). Err (Too_deep_with n)) (omega arith ∙ sym is)

  -- behind the bracket and the blanks
  pub array_open : (rest : List ℕ) → length all < 128 → Skips text rest → read_from (in_frames all Before_value) (91 ∷ text) ≡ read_from (at (inner all) (stack_of all) After_open_array) rest
  array_open rest h s = ap (λ (n : ℕ). read_from (at n (stack_of all) Before_value) (91 ∷ text)) (room (length all) h)
      ∙ one_byte (suc (inner all)) (stack_of all) Before_value (at (inner all) (stack_of all) After_open_array) 91 text refl
      ∙ skipped (inner all) (stack_of all) After_open_array text rest (stays_open_array (inner all) (stack_of all)) s

  pub object_open : (rest : List ℕ) → length all < 128 → Skips text rest → read_from (in_frames all Before_value) (123 ∷ text) ≡ read_from (at (inner all) (stack_of all) After_open_object) rest
  object_open rest h s = ap (λ (n : ℕ). read_from (at n (stack_of all) Before_value) (123 ∷ text)) (room (length all) h)
      ∙ one_byte (suc (inner all)) (stack_of all) Before_value (at (inner all) (stack_of all) After_open_object) 123 text refl
      ∙ skipped (inner all) (stack_of all) After_open_object text rest (stays_open_object (inner all) (stack_of all)) s

module _ (levels : ℕ) (stack : List Frame) where
  no_whole : (place : Place) → whole_value stack place ≡ None → (text : List ℕ) → text ≡ [] → read_from (at levels stack place) text ≡ Err (Syntax_with 0)
  no_whole place none text nil = ap (read_from (at levels stack place)) nil ∙ halts_at levels stack place [] (stop.Syntax 0) none refl

  array_none : whole_value stack After_open_array ≡ None
  array_none = by_stack stack
    where
      by_stack : (all : List Frame) → whole_value all After_open_array ≡ None
      by_stack [] = refl
      by_stack (frame ∷ all) = refl

  object_none : whole_value stack After_open_object ≡ None
  object_none = by_stack stack
    where
      by_stack : (all : List Frame) → whole_value all After_open_object ≡ None
      by_stack [] = refl
      by_stack (frame ∷ all) = refl

  pub array_early : (text : List ℕ) → text ≡ [] → read_from (at levels stack After_open_array) text ≡ Err (Syntax_with 0)
  array_early text nil = no_whole After_open_array array_none text nil

  pub object_early : (text : List ℕ) → text ≡ [] → read_from (at levels stack After_open_object) text ≡ Err (Syntax_with 0)
  object_early text nil = no_whole After_open_object object_none text nil

  pub array_closed : (text rest : List ℕ) (byte : ℕ) → text ≡ byte ∷ rest → byte ≡ 93 → read_from (at levels stack After_open_array) text ≡ read_from (at (suc levels) stack (After_value (array_of []))) rest
  array_closed text rest byte parts is = ap (read_from (at levels stack After_open_array)) (parts ∙ ap (λ (b : ℕ). b ∷ rest) is) ∙ one_byte levels stack After_open_array (at (suc levels) stack (After_value (array_of []))) 93 rest refl

  pub object_closed : (text rest : List ℕ) (byte : ℕ) → text ≡ byte ∷ rest → byte ≡ 125 → read_from (at levels stack After_open_object) text ≡ read_from (at (suc levels) stack (After_value (object_of []))) rest
  object_closed text rest byte parts is = ap (read_from (at levels stack After_open_object)) (parts ∙ ap (λ (b : ℕ). b ∷ rest) is) ∙ one_byte levels stack After_open_object (at (suc levels) stack (After_value (object_of []))) 125 rest refl

  same_step : (place : Place) (other : State) (byte : ℕ) (rest : List ℕ) → step_at levels stack place byte ≡ step_at other.levels other.stack other.place byte → read_from (at levels stack place) (byte ∷ rest) ≡ read_from other (byte ∷ rest)
  unfolding read_from step
  same_step place other byte rest e = ap (λ (n : Next). goes_on n (suc (length rest)) (λ u. read_from u rest)) e

  pub array_first : (text rest : List ℕ) (byte : ℕ) → text ≡ byte ∷ rest → NoBlank text → (byte ≡ 93 → ⊥) → read_from (at levels stack After_open_array) text ≡ read_from (at levels (In_array [] ∷ stack) Before_value) text
  array_first text rest byte parts stops other =
      let noblank : is_blank byte ≡ false = subst NoBlank parts stops in
      subst (λ (t : List ℕ). read_from (at levels stack After_open_array) t ≡ read_from (at levels (In_array [] ∷ stack) Before_value) t) (sym parts)
      (same_step After_open_array (at levels (In_array [] ∷ stack) Before_value) byte rest (rw (noblank, eqb_no byte 93 other) refl))

  pub object_first : (text rest : List ℕ) (byte : ℕ) → text ≡ byte ∷ rest → NoBlank text → (byte ≡ 125 → ⊥) → read_from (at levels stack After_open_object) text ≡ read_from (at levels stack (Before_name [])) text
  object_first text rest byte parts stops other =
      let noblank : is_blank byte ≡ false = subst NoBlank parts stops in
      subst (λ (t : List ℕ). read_from (at levels stack After_open_object) t ≡ read_from (at levels stack (Before_name [])) t) (sym parts)
      (same_step After_open_object (at levels stack (Before_name [])) byte rest (rw (noblank, eqb_no byte 125 other) refl))

-- ---- behind a value inside a frame

module _ (all : List frames.Frame) (text rest : List ℕ) (s : Skips text rest) where
  pub behind : (f : Frame) (v : JsonTree) → read_from (inside all f v) text ≡ read_from (inside all f v) rest
  behind f v = skipped (inner all) (f ∷ stack_of all) (After_value v) text rest (stays_after_value (inner all) (f ∷ stack_of all) v) s

  pub behind_early : (f : Frame) (v : JsonTree) → rest ≡ [] → read_from (inside all f v) text ≡ Err (Syntax_with 0)
  behind_early f v nil = behind f v ∙ no_whole (inner all) (f ∷ stack_of all) (After_value v) refl rest nil

  pub array_comma : (done : List JsonTree) (v : JsonTree) (byte : ℕ) (after : List ℕ) → rest ≡ byte ∷ after → byte ≡ 44 → read_from (inside all (In_array done) v) text ≡ read_from (at (inner all) (In_array (done ++ v ∷ []) ∷ stack_of all) Before_value) after
  array_comma done v byte after parts is = behind (In_array done) v ∙ ap (read_from (inside all (In_array done) v)) (parts ∙ ap (λ (b : ℕ). b ∷ after) is)
      ∙ one_byte (inner all) (In_array done ∷ stack_of all) (After_value v) (at (inner all) (In_array (done ++ v ∷ []) ∷ stack_of all) Before_value) 44 after refl

  pub array_end : (done : List JsonTree) (v : JsonTree) (byte : ℕ) (after : List ℕ) → rest ≡ byte ∷ after → byte ≡ 93 → read_from (inside all (In_array done) v) text ≡ read_from (at (suc (inner all)) (stack_of all) (After_value (array_of (done ++ v ∷ [])))) after
  array_end done v byte after parts is = behind (In_array done) v ∙ ap (read_from (inside all (In_array done) v)) (parts ∙ ap (λ (b : ℕ). b ∷ after) is)
      ∙ one_byte (inner all) (In_array done ∷ stack_of all) (After_value v) (at (suc (inner all)) (stack_of all) (After_value (array_of (done ++ v ∷ [])))) 93 after refl

  pub array_bad : (done : List JsonTree) (v : JsonTree) (byte : ℕ) (after : List ℕ) → rest ≡ byte ∷ after → (byte ≡ 44 → ⊥) → (byte ≡ 93 → ⊥) → read_from (inside all (In_array done) v) text ≡ Err (Syntax_with (length rest))
  array_bad done v byte after parts nocomma noend =
      let noblank : is_blank byte ≡ false = subst NoBlank parts s.stops in
      behind (In_array done) v ∙ halts_at (inner all) (In_array done ∷ stack_of all) (After_value v) rest (stop.Syntax (length rest))
      (subst (WrongAt (inner all) (In_array done ∷ stack_of all) (After_value v)) (sym parts) (rw (noblank, eqb_no byte 44 nocomma, eqb_no byte 93 noend) refl)) refl

  pub object_comma : (done : List (List ℕ × JsonTree)) (name : List ℕ) (v : JsonTree) (byte : ℕ) (after : List ℕ) → rest ≡ byte ∷ after → byte ≡ 44 → read_from (inside all (In_object done name) v) text ≡ read_from (at (inner all) (stack_of all) (Before_name (put done name v))) after
  object_comma done name v byte after parts is = behind (In_object done name) v ∙ ap (read_from (inside all (In_object done name) v)) (parts ∙ ap (λ (b : ℕ). b ∷ after) is)
      ∙ one_byte (inner all) (In_object done name ∷ stack_of all) (After_value v) (at (inner all) (stack_of all) (Before_name (put done name v))) 44 after refl

  pub object_end : (done : List (List ℕ × JsonTree)) (name : List ℕ) (v : JsonTree) (byte : ℕ) (after : List ℕ) → rest ≡ byte ∷ after → byte ≡ 125 → read_from (inside all (In_object done name) v) text ≡ read_from (at (suc (inner all)) (stack_of all) (After_value (object_of (put done name v)))) after
  object_end done name v byte after parts is = behind (In_object done name) v ∙ ap (read_from (inside all (In_object done name) v)) (parts ∙ ap (λ (b : ℕ). b ∷ after) is)
      ∙ one_byte (inner all) (In_object done name ∷ stack_of all) (After_value v) (at (suc (inner all)) (stack_of all) (After_value (object_of (put done name v)))) 125 after refl

  pub object_bad : (done : List (List ℕ × JsonTree)) (name : List ℕ) (v : JsonTree) (byte : ℕ) (after : List ℕ) → rest ≡ byte ∷ after → (byte ≡ 44 → ⊥) → (byte ≡ 125 → ⊥) → read_from (inside all (In_object done name) v) text ≡ Err (Syntax_with (length rest))
  object_bad done name v byte after parts nocomma noend =
      let noblank : is_blank byte ≡ false = subst NoBlank parts s.stops in
      behind (In_object done name) v ∙ halts_at (inner all) (In_object done name ∷ stack_of all) (After_value v) rest (stop.Syntax (length rest))
      (subst (WrongAt (inner all) (In_object done name ∷ stack_of all) (After_value v)) (sym parts) (rw (noblank, eqb_no byte 44 nocomma, eqb_no byte 125 noend) refl)) refl

-- a turn from further along
pub turn_along : (s t : State) (text rest : List ℕ) (new : List frames.Frame) (result : Result (Step × Bor (List ℕ)) stops.Stop) → read_from s text ≡ read_from t rest → Turn t rest new result → Turn s text new result
turn_along s t text rest new (Ok x) same h = same ∙ h
turn_along s t text rest new (Err e) same h = fails_along e _ _ same h

-- ---- members

put_one : (b : Bool) (m : Vec ℕ × Doc) (k : Vec ℕ) (d : Doc) (es es2 : List (Vec ℕ × Doc)) → map entry_of (cond b ((m.0, d) ∷ es) (m ∷ es2)) ≡ cond b ((m.0.items, tree_of d) ∷ map entry_of es) (entry_of m ∷ map entry_of es2)
put_one true m k d es es2 = refl
put_one false m k d es es2 = refl

-- the map's own insertion is the rule for a repeated name
pub put_entries : (eq : Vec ℕ → Vec ℕ → Bool) → ((x y : Vec ℕ) → eq x y ≡ bytes_are_equal x.items y.items) → (es : List (Vec ℕ × Doc)) (k : Vec ℕ) (d : Doc) → map entry_of (insert_entry eq es k d) ≡ put (map entry_of es) k.items (tree_of d)
put_entries eq same [] k d = refl
put_entries eq same (m ∷ es) k d =
    put_one (eq k m.0) m k d es (insert_entry eq es k d)
    ∙ ap (λ (b : Bool). cond b ((m.0.items, tree_of d) ∷ map entry_of es) (entry_of m ∷ map entry_of (insert_entry eq es k d))) (same k m.0)
    ∙ ap (λ (rest : List (List ℕ × JsonTree)). cond (bytes_are_equal k.items m.0.items) ((m.0.items, tree_of d) ∷ map entry_of es) (entry_of m ∷ rest)) (put_entries eq same es k d)
