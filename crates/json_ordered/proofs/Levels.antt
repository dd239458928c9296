-- One more level: what is read with few levels is read the same with more.
use Rattle.std.proofs.Common.{◌≡◌, ℕ, zero, suc, Bool, true, false, cond, eqb, List, [], ◌∷◌, ◌++◌, length, Option, Some, None, Ok, refl, ap, ◌∙◌}
use Rattle.path_name.specs.Bytes.{is_blank, is_digit}
use Rattle.json_ordered.specs.JsonTree.{JsonTree, Number}
use Rattle.json_ordered.specs.declared.number.Part.{Part}
use Rattle.json_ordered.specs.JsonReading.{Frame, In_array, In_object, Piece, Plain, Slash, Unit0, Unit1, Unit2, Unit3, High, High_slash, Low0, Low1, Low2, Low3, Purpose, Place, Before_value, After_open_array, After_open_object, Before_name, After_name, After_value, In_word, In_number, In_string, State, Next, Go, Wrong, Deep, part_after, may_end, Took, More, Gave, No_char, take_byte, took, open_level, begin_value, end_value, after_value, in_word, in_number, in_string, step_at, step, goes_on, read_from}

abbrev pub up : State → State
up s = record { levels = suc s.levels; stack = s.stack; place = s.place }

abbrev Up : Next → Next → Type 0
Up (Go s) (Go t) = t ≡ up s
Up (Go s) Wrong = ⊥
Up (Go s) Deep = ⊥
Up Wrong (Go t) = ⊥
Up Wrong Wrong = Unit {0}
Up Wrong Deep = ⊥
Up Deep (Go t) = Unit {0}
Up Deep Wrong = ⊥
Up Deep Deep = ⊥

up_pick : (b : Bool) (x y z w : Next) → Up x z → Up y w → Up (cond b x y) (cond b z w)
up_pick true x y z w h k = h
up_pick false x y z w h k = k

up_open : (levels : ℕ) (stack : List Frame) (place : Place) → Up (open_level levels stack place) (open_level (suc levels) stack place)
up_open zero stack place = tt
up_open (suc levels) stack place = refl

up_begin : (levels : ℕ) (stack : List Frame) (byte : ℕ) → Up (begin_value levels stack byte) (begin_value (suc levels) stack byte)
up_begin levels stack byte =
    up_pick (eqb byte 91) _ _ _ _ (up_open levels stack After_open_array) (
    up_pick (eqb byte 123) _ _ _ _ (up_open levels stack After_open_object) (
    up_pick (eqb byte 34) _ _ _ _ refl (
    up_pick (eqb byte 110) _ _ _ _ refl (
    up_pick (eqb byte 116) _ _ _ _ refl (
    up_pick (eqb byte 102) _ _ _ _ refl (
    up_pick (eqb byte 45) _ _ _ _ refl (
    up_pick (eqb byte 48) _ _ _ _ refl (
    up_pick (is_digit byte) _ _ _ _ refl tt))))))))

up_end : (levels : ℕ) (stack : List Frame) (v : JsonTree) (byte : ℕ) → Up (end_value levels stack v byte) (end_value (suc levels) stack v byte)
up_end levels [] v byte = tt
up_end levels (In_array done ∷ stack) v byte = up_pick (eqb byte 44) _ _ _ _ refl (up_pick (eqb byte 93) _ _ _ _ refl tt)
up_end levels (In_object done name ∷ stack) v byte = up_pick (eqb byte 44) _ _ _ _ refl (up_pick (eqb byte 125) _ _ _ _ refl tt)

up_after : (levels : ℕ) (stack : List Frame) (v : JsonTree) (byte : ℕ) → Up (after_value levels stack v byte) (after_value (suc levels) stack v byte)
up_after levels stack v byte = up_pick (is_blank byte) _ _ _ _ refl (up_end levels stack v byte)

up_word : (levels : ℕ) (stack : List Frame) (left : List ℕ) (v : JsonTree) (byte : ℕ) → Up (in_word levels stack left v byte) (in_word (suc levels) stack left v byte)
up_word levels stack [] v byte = up_after levels stack v byte
up_word levels stack (next ∷ left) v byte = up_pick (eqb byte next) _ _ _ _ refl tt

up_number : (levels : ℕ) (stack : List Frame) (ends : Bool) (text : List ℕ) (byte : ℕ) (next : Option Part) → Up (in_number levels stack ends text byte next) (in_number (suc levels) stack ends text byte next)
up_number levels stack true text byte (Some part) = refl
up_number levels stack false text byte (Some part) = refl
up_number levels stack true text byte None = up_after levels stack (Number text) byte
up_number levels stack false text byte None = tt

up_took : (levels : ℕ) (stack : List Frame) (purpose : Purpose) (text : List ℕ) (t : Took) → Up (took levels stack purpose text t) (took (suc levels) stack purpose text t)
up_took levels stack purpose text (More piece) = refl
up_took levels stack purpose text (Gave bytes) = refl
up_took levels stack purpose text No_char = tt

up_string : (levels : ℕ) (stack : List Frame) (purpose : Purpose) (text : List ℕ) (piece : Piece) (byte : ℕ) → Up (in_string levels stack purpose text piece byte) (in_string (suc levels) stack purpose text piece byte)
up_string levels stack purpose text Plain byte = up_pick (eqb byte 34) _ _ _ _ refl (up_took levels stack purpose text (take_byte Plain byte))
up_string levels stack purpose text Slash byte = up_took levels stack purpose text (take_byte Slash byte)
up_string levels stack purpose text Unit0 byte = up_took levels stack purpose text (take_byte Unit0 byte)
up_string levels stack purpose text (Unit1 a) byte = up_took levels stack purpose text (take_byte (Unit1 a) byte)
up_string levels stack purpose text (Unit2 a b) byte = up_took levels stack purpose text (take_byte (Unit2 a b) byte)
up_string levels stack purpose text (Unit3 a b c) byte = up_took levels stack purpose text (take_byte (Unit3 a b c) byte)
up_string levels stack purpose text (High q) byte = up_took levels stack purpose text (take_byte (High q) byte)
up_string levels stack purpose text (High_slash q) byte = up_took levels stack purpose text (take_byte (High_slash q) byte)
up_string levels stack purpose text (Low0 q) byte = up_took levels stack purpose text (take_byte (Low0 q) byte)
up_string levels stack purpose text (Low1 q a) byte = up_took levels stack purpose text (take_byte (Low1 q a) byte)
up_string levels stack purpose text (Low2 q a b) byte = up_took levels stack purpose text (take_byte (Low2 q a b) byte)
up_string levels stack purpose text (Low3 q a b c) byte = up_took levels stack purpose text (take_byte (Low3 q a b c) byte)

up_step_at : (levels : ℕ) (stack : List Frame) (place : Place) (byte : ℕ) → Up (step_at levels stack place byte) (step_at (suc levels) stack place byte)
up_step_at levels stack Before_value byte = up_pick (is_blank byte) _ _ _ _ refl (up_begin levels stack byte)
up_step_at levels stack After_open_array byte = up_pick (is_blank byte) _ _ _ _ refl (up_pick (eqb byte 93) _ _ _ _ refl (up_begin levels (In_array [] ∷ stack) byte))
up_step_at levels stack After_open_object byte = up_pick (is_blank byte) _ _ _ _ refl (up_pick (eqb byte 125) _ _ _ _ refl (up_pick (eqb byte 34) _ _ _ _ refl tt))
up_step_at levels stack (Before_name done) byte = up_pick (is_blank byte) _ _ _ _ refl (up_pick (eqb byte 34) _ _ _ _ refl tt)
up_step_at levels stack (After_name done name) byte = up_pick (is_blank byte) _ _ _ _ refl (up_pick (eqb byte 58) _ _ _ _ refl tt)
up_step_at levels stack (After_value v) byte = up_after levels stack v byte
up_step_at levels stack (In_word left v) byte = up_word levels stack left v byte
up_step_at levels stack (In_number part text) byte = up_number levels stack (may_end part) text byte (part_after part byte)
up_step_at levels stack (In_string purpose text piece) byte = up_string levels stack purpose text piece byte

up_step : (s : State) (byte : ℕ) → Up (step s byte) (step (up s) byte)
unfolding step
up_step s byte = up_step_at s.levels s.stack s.place byte

go_up : (s : State) (n m : Next) → Up n m → n ≡ Go s → m ≡ Go (up s)
go_up s (Go t) (Go u) h e = cc
go_up s (Go t) Wrong h e = absurd h
go_up s (Go t) Deep h e = absurd h
go_up s Wrong m h e = absurd cc
go_up s Deep m h e = absurd cc

wrong_up : (n m : Next) → Up n m → n ≡ Wrong → m ≡ Wrong
wrong_up (Go t) m h e = absurd cc
wrong_up Wrong (Go t) h e = absurd h
wrong_up Wrong Wrong h e = refl
wrong_up Wrong Deep h e = absurd h
wrong_up Deep m h e = absurd cc

deep_up : (n m : Next) → Up n m → n ≡ Deep → (t : State) × (m ≡ Go t)
deep_up (Go t) m h e = absurd cc
deep_up Wrong m h e = absurd cc
deep_up Deep (Go t) h e = (t, refl)
deep_up Deep Wrong h e = absurd h
deep_up Deep Deep h e = absurd h

pub step_up_go : (s t : State) (byte : ℕ) → step s byte ≡ Go t → step (up s) byte ≡ Go (up t)
step_up_go s t byte e = go_up t (step s byte) (step (up s) byte) (up_step s byte) e

pub step_up_wrong : (s : State) (byte : ℕ) → step s byte ≡ Wrong → step (up s) byte ≡ Wrong
step_up_wrong s byte e = wrong_up (step s byte) (step (up s) byte) (up_step s byte) e

pub step_up_deep : (s : State) (byte : ℕ) → step s byte ≡ Deep → (t : State) × (step (up s) byte ≡ Go t)
step_up_deep s byte e = deep_up (step s byte) (step (up s) byte) (up_step s byte) e

-- ---- runs

-- the bytes lead from one state to another
abbrev pub Leads : State → List ℕ → State → Type 0
Leads s [] t = s ≡ t
Leads s (byte ∷ front) t = (m : State) × (step s byte ≡ Go m) × Leads m front t

pub leads_up : (front : List ℕ) (s t : State) → Leads s front t → Leads (up s) front (up t)
leads_up [] s t h = ap up h
leads_up (byte ∷ front) s t (m, e, h) = (up m, step_up_go s m byte e, leads_up front m t h)

pub leads_read : (front : List ℕ) (s t : State) (rest : List ℕ) → Leads s front t → read_from s (front ++ rest) ≡ read_from t rest
unfolding read_from
leads_read [] s t rest h = ap (λ (u : State). read_from u rest) h
leads_read (byte ∷ front) s t rest (m, e, h) = ap (λ (n : Next). goes_on n (suc (length (front ++ rest))) (λ u. read_from u (front ++ rest))) e ∙ leads_read front m t rest h

pub leads_on : (front : List ℕ) (byte : ℕ) (s t u : State) → Leads s front t → step t byte ≡ Go u → Leads s (front ++ byte ∷ []) u
leads_on [] byte s t u h e = (u, ap (λ (v : State). step v byte) h ∙ e, refl)
leads_on (b ∷ front) byte s t u (m, k, h) e = (m, k, leads_on front byte m t u h e)

ok_up_next : (tree : JsonTree) (left : ℕ) (rest : List ℕ) (n m : Next) → ((t : State) → read_from t rest ≡ Ok tree → read_from (up t) rest ≡ Ok tree) → Up n m
    → goes_on n left (λ t. read_from t rest) ≡ Ok tree → goes_on m left (λ t. read_from t rest) ≡ Ok tree
ok_up_next tree left rest (Go t) (Go u) ih h e = ap (λ (v : State). read_from v rest) h ∙ ih t e
ok_up_next tree left rest (Go t) Wrong ih h e = absurd h
ok_up_next tree left rest (Go t) Deep ih h e = absurd h
ok_up_next tree left rest Wrong m ih h e = absurd cc
ok_up_next tree left rest Deep m ih h e = absurd cc

-- a text that is read stays read with one more level
pub ok_up : (tree : JsonTree) (text : List ℕ) (s : State) → read_from s text ≡ Ok tree → read_from (up s) text ≡ Ok tree
unfolding read_from
ok_up tree [] s e = e
ok_up tree (byte ∷ rest) s e = ok_up_next tree (suc (length rest)) rest (step s byte) (step (up s) byte) (λ t k. ok_up tree rest t k) (up_step s byte) e
