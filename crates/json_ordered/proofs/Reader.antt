-- The steps of the reader, in terms of the reading of the rest.
use Rattle.std.proofs.Common.{◌≡◌, ℕ, zero, suc, ◌+◌, ◌<◌, ◌≤◌, List, [], ◌∷◌, ◌++◌, length, get_or, take, drop, Some, None, Result, Ok, Err, refl, sym, ap, subst, ◌∙◌, arith, add-one, drop-cons, length-drop}
use Rattle.std.specs.Borrow.{Bor}
use Rattle.std.proofs.lemmas.List.{take-append-drop, take_more}
use Rattle.json_ordered.specs.declared.stop.Stop as stops
use Rattle.json_ordered.specs.declared.number.Part.{Part}
use Rattle.json_ordered.specs.JsonTree.{Number}
use Rattle.json_ordered.specs.JsonReading.{Frame, After_value, In_number, Syntax_with, part_after, read_from}
use Rattle.json_ordered.specs.JsonSteps.{at, Fails, Ended, NumberSteps}
use Rattle.json_ordered.proofs.Complete.{Stops, number_ended, number_breaks, number_more}

pub drop_at : (s : List ℕ) (i : ℕ) → i < length s → drop i s ≡ get_or s i 0 ∷ drop (i + 1) s
drop_at s i h = rw (add-one, drop-cons s i 0) refl

-- ---- numbers

pub stops_at : (text : List ℕ) (len : ℕ) (part : Part) → len < length text → part_after part (get_or text len 0) ≡ None → Stops part (drop len text)
stops_at text len part h e = subst (Stops part) (sym (drop_at text len h)) e

pub stops_at_end : (text : List ℕ) (len : ℕ) (part : Part) → length text ≤ len → Stops part (drop len text)
stops_at_end text len part h = subst (Stops part) (sym (drop_all text len h)) tt
  where
    drop_all : (xs : List ℕ) (n : ℕ) → length xs ≤ n → drop n xs ≡ []
    drop_all [] zero h = refl
    drop_all [] (suc n) h = refl
    drop_all (x ∷ xs) zero h = absurd (omega arith)
    drop_all (x ∷ xs) (suc n) h = drop_all xs n (omega arith)

abbrev pub NumberSoFar : List ℕ → Part → Part → ℕ → Type 0
NumberSoFar text first part len = (levels : ℕ) (stack : List Frame) → read_from (at levels stack (In_number first (take 1 text))) (drop 1 text) ≡ read_from (at levels stack (In_number part (take len text))) (drop len text)

pub number_end : (text : List ℕ) (first part : Part) (len : ℕ) (result : Result (Bor (List ℕ) × Bor (List ℕ)) stops.Stop) → Stops part (drop len text) → NumberSoFar text first part len → Ended text len part result → NumberSteps text first result
number_end text first part len (Ok x) halt so_far (m, e0, e1) levels stack = (
  sym (take-append-drop len text) ∙ ap (λ (t : List ℕ). t ++ drop len text) (sym e0) ∙ ap (λ (t : List ℕ). x.0.now ++ t) (sym e1),
  so_far levels stack ∙ number_ended levels stack part (take len text) (drop len text) m halt
      ∙ ap (λ (t : List ℕ). read_from (at levels stack (After_value (Number t))) (drop len text)) (sym e0) ∙ ap (read_from (at levels stack (After_value (Number x.0.now)))) (sym e1),
)
number_end text first part len (Err e) halt so_far (m, is) levels stack =
    subst (λ (f : stops.Stop). Fails f (read_from (at levels stack (In_number first (take 1 text))) (drop 1 text))) (sym is)
    (so_far levels stack ∙ number_breaks levels stack part (take len text) (drop len text) m halt ∙ ap (λ (n : ℕ). Err (Syntax_with n)) (length-drop len text))

pub number_so_far : (text : List ℕ) (first part next : Part) (len : ℕ) → len < length text → part_after part (get_or text len 0) ≡ Some next → NumberSoFar text first part len → NumberSoFar text first next (len + 1)
number_so_far text first part next len h e so_far levels stack =
    so_far levels stack ∙ ap (read_from (at levels stack (In_number part (take len text)))) (drop_at text len h)
    ∙ number_more levels stack part next (take len text) (get_or text len 0) (drop (len + 1) text) e
    ∙ ap (λ (t : List ℕ). read_from (at levels stack (In_number next t)) (drop (len + 1) text)) (sym (take_more text len 0 h))
