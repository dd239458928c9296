-- The first byte of a value, and the end of a text.
use Rattle.std.proofs.Common.{◌≡◌, ℕ, suc, ◌-◌, Bool, true, false, cond, eqb, List, [], ◌∷◌, length, take, drop, None, Ok, Err, refl, sym, ap, subst, ◌∙◌}
use Rattle.path_name.specs.Bytes.{is_blank, is_digit}
use Rattle.std.proofs.lemmas.Bool.{eqb-true}
use Rattle.json_ordered.specs.declared.frame.Frame as frames
use Rattle.json_ordered.specs.declared.stop.Stop.TheVariants as stop
use Rattle.json_ordered.specs.declared.number.Part.{Part}
use Rattle.json_ordered.specs.declared.start.Start.{Start}
use Rattle.json_ordered.specs.declared.start.Start.TheVariants as starts
use Rattle.json_ordered.specs.JsonTree.{JsonTree}
use Rattle.json_ordered.specs.JsonReading.{Frame, Place, Before_value, After_value, In_number, Next, Go, begin_value, step_at, whole_value, Syntax_with, read_from}
use Rattle.json_ordered.specs.JsonSteps.{at, Skips, NoBlank}
use Rattle.json_ordered.specs.JsonFrames.{stack_of, in_frames}
use Rattle.json_ordered.specs.JsonStarts.{start_of, begun}
use Rattle.json_ordered.proofs.Complete.{one_byte, stays_before_value, stays_after_value}
use Rattle.json_ordered.proofs.Frames.{skipped, halts_at, WrongAt}

-- the byte of a bracket
abbrev StartByte : ℕ → Start → Type 0
StartByte byte starts.Array = byte ≡ 91
StartByte byte starts.Object = byte ≡ 123
StartByte byte _ = Unit {0}

byte_pick : (byte : ℕ) (b : Bool) (k l : Start) → (b ≡ true → StartByte byte k) → StartByte byte l → StartByte byte (cond b k l)
byte_pick byte true k l f g = f refl
byte_pick byte false k l f g = g

start_byte : (byte : ℕ) → StartByte byte (start_of byte)
start_byte byte =
    byte_pick byte (eqb byte 91) _ _ (λ k. eqb-true byte 91 k) (
    byte_pick byte (eqb byte 123) _ _ (λ k. eqb-true byte 123 k) (
    byte_pick byte (eqb byte 34) _ _ (λ _. tt) (
    byte_pick byte (eqb byte 110) _ _ (λ _. tt) (
    byte_pick byte (eqb byte 116) _ _ (λ _. tt) (
    byte_pick byte (eqb byte 102) _ _ (λ _. tt) (
    byte_pick byte (eqb byte 45) _ _ (λ _. tt) (
    byte_pick byte (eqb byte 48) _ _ (λ _. tt) (
    byte_pick byte (is_digit byte) _ _ (λ _. tt) tt))))))))

pub array_byte : (byte : ℕ) → starts.Array ≡ start_of byte → byte ≡ 91
array_byte byte e = subst (StartByte byte) (sym e) (start_byte byte)

pub object_byte : (byte : ℕ) → starts.Object ≡ start_of byte → byte ≡ 123
object_byte byte e = subst (StartByte byte) (sym e) (start_byte byte)

module _ (levels : ℕ) (stack : List Frame) (byte : ℕ) where
  begun_pick : (b : Bool) (n m : Next) (k l : Start) → n ≡ begun levels stack byte k → m ≡ begun levels stack byte l → cond b n m ≡ begun levels stack byte (cond b k l)
  begun_pick true n m k l e f = e
  begun_pick false n m k l e f = f

  begins : begin_value levels stack byte ≡ begun levels stack byte (start_of byte)
  begins =
      begun_pick (eqb byte 91) _ _ starts.Array _ refl (
      begun_pick (eqb byte 123) _ _ starts.Object _ refl (
      begun_pick (eqb byte 34) _ _ starts.Quote _ refl (
      begun_pick (eqb byte 110) _ _ starts.NullWord _ refl (
      begun_pick (eqb byte 116) _ _ starts.TrueWord _ refl (
      begun_pick (eqb byte 102) _ _ starts.FalseWord _ refl (
      begun_pick (eqb byte 45) _ _ (starts.Number _) _ refl (
      begun_pick (eqb byte 48) _ _ (starts.Number _) _ refl (
      begun_pick (is_digit byte) _ _ (starts.Number _) starts.Nothing refl refl))))))))

  first_step : (k : Start) → is_blank byte ≡ false → k ≡ start_of byte → step_at levels stack Before_value byte ≡ begun levels stack byte k
  first_step k noblank is = ap (λ (b : Bool). cond b (Go (at levels stack Before_value)) (begin_value levels stack byte)) noblank ∙ begins ∙ ap (begun levels stack byte) (sym is)

module _ (all : List frames.Frame) (text t rest : List ℕ) (byte : ℕ) (s : Skips text t) (parts : t ≡ byte ∷ rest) where
  abbrev ls : ℕ
  ls = 128 - length all

  noblank : is_blank byte ≡ false
  noblank = subst NoBlank parts s.stops

  pub skips : read_from (in_frames all Before_value) text ≡ read_from (in_frames all Before_value) (byte ∷ rest)
  skips = skipped ls (stack_of all) Before_value text t (stays_before_value ls (stack_of all)) s ∙ ap (read_from (in_frames all Before_value)) parts

  -- with the byte that the kind has
  pub skips_to : (n : ℕ) → byte ≡ n → read_from (in_frames all Before_value) text ≡ read_from (in_frames all Before_value) (n ∷ rest)
  skips_to n is = skips ∙ ap (λ (b : ℕ). read_from (in_frames all Before_value) (b ∷ rest)) is

  pub entered : (k : Start) (place : Place) → k ≡ start_of byte → begun ls (stack_of all) byte k ≡ Go (at ls (stack_of all) place) → read_from (in_frames all Before_value) text ≡ read_from (at ls (stack_of all) place) rest
  entered k place is e = skips ∙ one_byte ls (stack_of all) Before_value (at ls (stack_of all) place) byte rest (first_step ls (stack_of all) byte k noblank is ∙ e)

  pub number_entered : (part : Part) → starts.Number part ≡ start_of byte → read_from (in_frames all Before_value) text ≡ read_from (at ls (stack_of all) (In_number part (take 1 t))) (drop 1 t)
  number_entered part is = entered (starts.Number part) (In_number part (byte ∷ [])) is refl
      ∙ subst (λ (x : List ℕ). read_from (at ls (stack_of all) (In_number part (byte ∷ []))) rest ≡ read_from (at ls (stack_of all) (In_number part (take 1 x))) (drop 1 x)) (sym parts) refl

  pub nothing : starts.Nothing ≡ start_of byte → read_from (in_frames all Before_value) text ≡ Err (Syntax_with (length t))
  nothing is = skips ∙ halts_at ls (stack_of all) Before_value (byte ∷ rest) (stop.Syntax (suc (length rest))) (first_step ls (stack_of all) byte starts.Nothing noblank is) refl
      ∙ ap (λ (x : List ℕ). Err (Syntax_with (length x))) (sym parts)

no_value : (stack : List Frame) → whole_value stack Before_value ≡ None
no_value [] = refl
no_value (frame ∷ stack) = refl

pub value_early : (all : List frames.Frame) (text t : List ℕ) → Skips text t → t ≡ [] → read_from (in_frames all Before_value) text ≡ Err (Syntax_with 0)
value_early all text t s nil = skipped (128 - length all) (stack_of all) Before_value text t (stays_before_value (128 - length all) (stack_of all)) s
    ∙ ap (read_from (in_frames all Before_value)) nil ∙ halts_at (128 - length all) (stack_of all) Before_value [] (stop.Syntax 0) (no_value (stack_of all)) refl

-- ---- the end

pub text_ends : (levels : ℕ) (v : JsonTree) (text rest : List ℕ) → Skips text rest → rest ≡ [] → read_from (at levels [] (After_value v)) text ≡ Ok v
unfolding read_from
text_ends levels v text rest s nil = skipped levels [] (After_value v) text rest (stays_after_value levels [] v) s ∙ ap (read_from (at levels [] (After_value v))) nil

wrong_behind : (levels : ℕ) (v : JsonTree) (rest : List ℕ) → NoBlank rest → (length rest ≡ 0 → ⊥) → WrongAt levels [] (After_value v) rest
wrong_behind levels v [] n h = absurd (h refl)
wrong_behind levels v (byte ∷ rest) n h = rw n refl

pub text_goes_on : (levels : ℕ) (v : JsonTree) (text rest : List ℕ) → Skips text rest → (length rest ≡ 0 → ⊥) → read_from (at levels [] (After_value v)) text ≡ Err (Syntax_with (length rest))
text_goes_on levels v text rest s h = skipped levels [] (After_value v) text rest (stays_after_value levels [] v) s ∙ halts_at levels [] (After_value v) rest (stop.Syntax (length rest)) (wrong_behind levels v rest s.stops h) refl

pub is_zero : (n : ℕ) → eqb n 0 ≡ true → n ≡ 0
is_zero n e = eqb-true n 0 e

pub not_zero : (n : ℕ) → eqb n 0 ≡ false → n ≡ 0 → ⊥
not_zero n e h = unlike (sym (ap (λ (k : ℕ). eqb k 0) h) ∙ e)
  where
    unlike : true ≡ false → ⊥
    unlike p = cc
