-- What the reader answers is what the definitions say.
use Rattle.std.proofs.Common.{◌≡◌, ℕ, Bool, true, false, List, ◌∷◌, length, Result, Ok, Err, refl, sym, ap, ◌∙◌, arith, length-append}
use Rattle.std.specs.Str.{IsUtf8, is_utf8}
use Rattle.std.specs.Str.Lossy.{utf8_valid_len}
use Rattle.std.proofs.lemmas.Str.{IsUtf8-from_is_utf8, is_utf8-from_IsUtf8}
use Rattle.json_ordered.specs.declared.fault.JsonFault.{JsonFault}
use Rattle.json_ordered.specs.declared.fault.JsonFault.TheVariants as faults
use Rattle.json_ordered.specs.declared.stop.Stop as stops
use Rattle.json_ordered.specs.declared.stop.Stop.TheVariants as stop
use Rattle.json_ordered.specs.JsonTree.{JsonTree}
use Rattle.json_ordered.specs.JsonReading.{Stop, Syntax_with, Too_deep_with, read_from, start}
use Rattle.json_ordered.specs.JsonSteps.{Fails}
use Rattle.json_ordered.specs.JsonPlaces.{StandsIn, placed_fault}
use Rattle.json_ordered.specs.JsonFaults.{placed, json_of}
use Rattle.json_ordered.proofs.Meaning.{cut, deep_cut}

pub stands : (text : List ℕ) (e : stops.Stop) → Fails e (read_from (start 128) text) → StandsIn e (length text)
stands text (stop.Syntax left) h = let c = cut text (start 128) left h in let len = ap length c.parts ∙ length-append c.front c.rest in omega (arith, c.left_is, len)
stands text (stop.TooDeep left) h = let c = deep_cut text (start 128) left h in let len = ap length c.parts ∙ length-append c.front (c.byte ∷ c.rest) in omega (arith, c.left_is, len)
stands text stop.OutOfMemory h = tt

not_utf8 : (text : List ℕ) → (IsUtf8 text → ⊥) → is_utf8 text ≡ false
not_utf8 text h = go (is_utf8 text) refl
  where
    go : (b : Bool) → is_utf8 text ≡ b → is_utf8 text ≡ false
    go true e = absurd (h (IsUtf8-from_is_utf8 text e))
    go false e = e

pub utf8_fault : (text : List ℕ) (n : ℕ) → (IsUtf8 text → ⊥) → n ≡ utf8_valid_len text → json_of text ≡ Err (faults.NotUtf8 n)
unfolding json_of
utf8_fault text n h is = rw (not_utf8 text h) (ap (λ (m : ℕ). Err (faults.NotUtf8 m)) (sym is))

placed_is : (text : List ℕ) (r : Result JsonTree Stop) → IsUtf8 text → read_from (start 128) text ≡ r → json_of text ≡ placed (length text) r
unfolding json_of
placed_is text r utf8 e = rw (is_utf8-from_IsUtf8 text utf8) (ap (placed (length text)) e)

pub read_value : (text : List ℕ) (tree : JsonTree) → IsUtf8 text → read_from (start 128) text ≡ Ok tree → json_of text ≡ Ok tree
read_value text tree utf8 e = placed_is text (Ok tree) utf8 e

pub read_fault : (text : List ℕ) (e : stops.Stop) (fault : JsonFault) → IsUtf8 text → Fails e (read_from (start 128) text) → fault ≡ placed_fault e (length text) → (fault ≡ faults.OutOfMemory → ⊥) → json_of text ≡ Err fault
read_fault text (stop.Syntax left) fault utf8 h is other = placed_is text (Err (Syntax_with left)) utf8 h ∙ ap Err (sym is)
read_fault text (stop.TooDeep left) fault utf8 h is other = placed_is text (Err (Too_deep_with left)) utf8 h ∙ ap Err (sym is)
read_fault text stop.OutOfMemory fault utf8 h is other = absurd (other is)
