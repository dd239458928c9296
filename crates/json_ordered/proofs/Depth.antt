-- Only a bracket opens a level.
use Rattle.std.proofs.Common.{◌≡◌, ℕ, zero, suc, Bool, true, false, cond, eqb, ◌⊎◌, inl, inr, List, [], ◌∷◌, Option, Some, None, refl}
use Rattle.std.proofs.lemmas.Bool.{eqb-true}
use Rattle.path_name.specs.Bytes.{is_blank, is_digit}
use Rattle.json_ordered.specs.JsonTree.{JsonTree, Number}
use Rattle.json_ordered.specs.declared.number.Part.{Part}
use Rattle.json_ordered.specs.JsonReading.{Frame, In_array, In_object, Piece, Plain, Slash, Unit0, Unit1, Unit2, Unit3, High, High_slash, Low0, Low1, Low2, Low3, Purpose, Place, Before_value, After_open_array, After_open_object, Before_name, After_name, After_value, In_word, In_number, In_string, State, Next, Go, Wrong, Deep, part_after, may_end, Took, More, Gave, No_char, take_byte, took, open_level, begin_value, end_value, after_value, in_word, in_number, in_string, step_at, step}

abbrev OnDeep : Type 0 → Next → Type 0
OnDeep P (Go s) = Unit {0}
OnDeep P Wrong = Unit {0}
OnDeep P Deep = P

module _ (P : Type 0) where
  deep_pick : (b : Bool) (x y : Next) → (b ≡ true → OnDeep P x) → OnDeep P y → OnDeep P (cond b x y)
  deep_pick true x y f g = f refl
  deep_pick false x y f g = g

  deep_open : (levels : ℕ) (stack : List Frame) (place : Place) → P → OnDeep P (open_level levels stack place)
  deep_open zero stack place p = p
  deep_open (suc levels) stack place p = tt

  deep_end : (levels : ℕ) (stack : List Frame) (v : JsonTree) (byte : ℕ) → OnDeep P (end_value levels stack v byte)
  deep_end levels [] v byte = tt
  deep_end levels (In_array done ∷ stack) v byte = deep_pick (eqb byte 44) _ _ (λ _. tt) (deep_pick (eqb byte 93) _ _ (λ _. tt) tt)
  deep_end levels (In_object done name ∷ stack) v byte = deep_pick (eqb byte 44) _ _ (λ _. tt) (deep_pick (eqb byte 125) _ _ (λ _. tt) tt)

  deep_after : (levels : ℕ) (stack : List Frame) (v : JsonTree) (byte : ℕ) → OnDeep P (after_value levels stack v byte)
  deep_after levels stack v byte = deep_pick (is_blank byte) _ _ (λ _. tt) (deep_end levels stack v byte)

  deep_word : (levels : ℕ) (stack : List Frame) (left : List ℕ) (v : JsonTree) (byte : ℕ) → OnDeep P (in_word levels stack left v byte)
  deep_word levels stack [] v byte = deep_after levels stack v byte
  deep_word levels stack (next ∷ left) v byte = deep_pick (eqb byte next) _ _ (λ _. tt) tt

  deep_number : (levels : ℕ) (stack : List Frame) (ends : Bool) (text : List ℕ) (byte : ℕ) (o : Option Part) → OnDeep P (in_number levels stack ends text byte o)
  deep_number levels stack true text byte (Some part) = tt
  deep_number levels stack false text byte (Some part) = tt
  deep_number levels stack true text byte None = deep_after levels stack (Number text) byte
  deep_number levels stack false text byte None = tt

  deep_took : (levels : ℕ) (stack : List Frame) (purpose : Purpose) (text : List ℕ) (t : Took) → OnDeep P (took levels stack purpose text t)
  deep_took levels stack purpose text (More piece) = tt
  deep_took levels stack purpose text (Gave bytes) = tt
  deep_took levels stack purpose text No_char = tt

  deep_string : (levels : ℕ) (stack : List Frame) (purpose : Purpose) (text : List ℕ) (piece : Piece) (byte : ℕ) → OnDeep P (in_string levels stack purpose text piece byte)
  deep_string levels stack purpose text Plain byte = deep_pick (eqb byte 34) _ _ (λ _. tt) (deep_took levels stack purpose text (take_byte Plain byte))
  deep_string levels stack purpose text Slash byte = deep_took levels stack purpose text (take_byte Slash byte)
  deep_string levels stack purpose text Unit0 byte = deep_took levels stack purpose text (take_byte Unit0 byte)
  deep_string levels stack purpose text (Unit1 a) byte = deep_took levels stack purpose text (take_byte (Unit1 a) byte)
  deep_string levels stack purpose text (Unit2 a b) byte = deep_took levels stack purpose text (take_byte (Unit2 a b) byte)
  deep_string levels stack purpose text (Unit3 a b c) byte = deep_took levels stack purpose text (take_byte (Unit3 a b c) byte)
  deep_string levels stack purpose text (High q) byte = deep_took levels stack purpose text (take_byte (High q) byte)
  deep_string levels stack purpose text (High_slash q) byte = deep_took levels stack purpose text (take_byte (High_slash q) byte)
  deep_string levels stack purpose text (Low0 q) byte = deep_took levels stack purpose text (take_byte (Low0 q) byte)
  deep_string levels stack purpose text (Low1 q a) byte = deep_took levels stack purpose text (take_byte (Low1 q a) byte)
  deep_string levels stack purpose text (Low2 q a b) byte = deep_took levels stack purpose text (take_byte (Low2 q a b) byte)
  deep_string levels stack purpose text (Low3 q a b c) byte = deep_took levels stack purpose text (take_byte (Low3 q a b c) byte)

  deep_begin : (levels : ℕ) (stack : List Frame) (byte : ℕ) → (byte ≡ 91 → P) → (byte ≡ 123 → P) → OnDeep P (begin_value levels stack byte)
  deep_begin levels stack byte f g =
      deep_pick (eqb byte 91) _ _ (λ k. deep_open levels stack After_open_array (f (eqb-true byte 91 k))) (
      deep_pick (eqb byte 123) _ _ (λ k. deep_open levels stack After_open_object (g (eqb-true byte 123 k))) (
      deep_pick (eqb byte 34) _ _ (λ _. tt) (
      deep_pick (eqb byte 110) _ _ (λ _. tt) (
      deep_pick (eqb byte 116) _ _ (λ _. tt) (
      deep_pick (eqb byte 102) _ _ (λ _. tt) (
      deep_pick (eqb byte 45) _ _ (λ _. tt) (
      deep_pick (eqb byte 48) _ _ (λ _. tt) (
      deep_pick (is_digit byte) _ _ (λ _. tt) tt))))))))

  deep_step_at : (levels : ℕ) (stack : List Frame) (place : Place) (byte : ℕ) → (byte ≡ 91 → P) → (byte ≡ 123 → P) → OnDeep P (step_at levels stack place byte)
  deep_step_at levels stack Before_value byte f g = deep_pick (is_blank byte) _ _ (λ _. tt) (deep_begin levels stack byte f g)
  deep_step_at levels stack After_open_array byte f g = deep_pick (is_blank byte) _ _ (λ _. tt) (deep_pick (eqb byte 93) _ _ (λ _. tt) (deep_begin levels (In_array [] ∷ stack) byte f g))
  deep_step_at levels stack After_open_object byte f g = deep_pick (is_blank byte) _ _ (λ _. tt) (deep_pick (eqb byte 125) _ _ (λ _. tt) (deep_pick (eqb byte 34) _ _ (λ _. tt) tt))
  deep_step_at levels stack (Before_name done) byte f g = deep_pick (is_blank byte) _ _ (λ _. tt) (deep_pick (eqb byte 34) _ _ (λ _. tt) tt)
  deep_step_at levels stack (After_name done name) byte f g = deep_pick (is_blank byte) _ _ (λ _. tt) (deep_pick (eqb byte 58) _ _ (λ _. tt) tt)
  deep_step_at levels stack (After_value v) byte f g = deep_after levels stack v byte
  deep_step_at levels stack (In_word left v) byte f g = deep_word levels stack left v byte
  deep_step_at levels stack (In_number part text) byte f g = deep_number levels stack (may_end part) text byte (part_after part byte)
  deep_step_at levels stack (In_string purpose text piece) byte f g = deep_string levels stack purpose text piece byte

by_deep : (P : Type 0) (n : Next) → OnDeep P n → n ≡ Deep → P
by_deep P (Go s) h e = absurd cc
by_deep P Wrong h e = absurd cc
by_deep P Deep h e = h

pub deep_byte : (t : State) (byte : ℕ) → step t byte ≡ Deep → (byte ≡ 91) ⊎ (byte ≡ 123)
unfolding step
deep_byte t byte e = by_deep ((byte ≡ 91) ⊎ (byte ≡ 123)) (step_at t.levels t.stack t.place byte) (deep_step_at ((byte ≡ 91) ⊎ (byte ≡ 123)) t.levels t.stack t.place byte inl inr) e
