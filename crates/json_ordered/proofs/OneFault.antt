-- A text has one fault: what means a fault of it is the fault that is told.
use Rattle.std.proofs.Common.{◌≡◌, ℕ, suc, ◌<◌, inl, inr, List, length, Some, Result, Ok, Err, refl, sym, ap, subst, ◌∙◌, arith}
use Rattle.std.specs.Str.{IsUtf8, IsValidUpTo}
use Rattle.std.proofs.lemmas.Bool.{cases_lt}
use Rattle.std.proofs.lemmas.List.{take_all}
use Rattle.json_ordered.specs.declared.fault.JsonFault.{JsonFault}
use Rattle.json_ordered.specs.declared.fault.JsonFault.TheVariants.{NotUtf8, Syntax, TooDeep, OutOfMemory}
use Rattle.json_ordered.specs.JsonTree.{JsonTree}
use Rattle.json_ordered.specs.Json.{IsJson, most_levels}
use Rattle.json_ordered.specs.JsonFaults.{json_of, fault_of, json_fault, IsSyntaxFault, IsDepthFault, Means}
use Rattle.json_ordered.proofs.Meaning.{value_is_json, fault_means}

-- two places of which neither is before the other are one
one_place : (a b : ℕ) → (a < b → ⊥) → (b < a → ⊥) → a ≡ b
one_place a b f g = elim (cases_lt a b) [
  | inl lt ↦ absurd (f lt)
  | inr le ↦ elim (cases_lt b a) [ inl gt ↦ absurd (g gt) | inr ge ↦ omega arith ]
]

not_utf8 : (text : List ℕ) (at : ℕ) → IsValidUpTo text at → IsUtf8 text → ⊥
not_utf8 text at v u = v.longest (length text) v.short (subst IsUtf8 (sym (take_all (length text) text (omega arith))) u)

valid_before : (text : List ℕ) (a b : ℕ) → IsValidUpTo text a → IsValidUpTo text b → a < b → ⊥
valid_before text a b v w lt = v.longest b lt w.front

syntax_before : (text : List ℕ) (a b : ℕ) → IsSyntaxFault text a → IsSyntaxFault text b → a < b → ⊥
syntax_before text a b f g lt = f.longest most_levels b lt g.within g.begins

deep_before : (text : List ℕ) (a b : ℕ) → IsDepthFault text a → IsDepthFault text b → a < b → ⊥
deep_before text a b f g lt = f.longest b lt (omega (arith, g.within)) g.begins

syntax_and_deep : (text : List ℕ) (a b : ℕ) → IsSyntaxFault text a → IsDepthFault text b → ⊥
syntax_and_deep text a b f g = elim (cases_lt b a) [
  | inl lt ↦ g.longest a lt f.within f.begins
  | inr le ↦ f.longest (suc most_levels) (suc b) (omega arith) g.within g.opens
]

one_fault : (text : List ℕ) (f g : JsonFault) → Means text f → Means text g → f ≡ g
one_fault text (NotUtf8 a) (NotUtf8 b) v w = ap NotUtf8 (one_place a b (valid_before text a b v w) (valid_before text b a w v))
one_fault text (NotUtf8 a) (Syntax b) v w = absurd (not_utf8 text a v w.utf8)
one_fault text (NotUtf8 a) (TooDeep b) v w = absurd (not_utf8 text a v w.utf8)
one_fault text (Syntax a) (NotUtf8 b) v w = absurd (not_utf8 text b w v.utf8)
one_fault text (Syntax a) (Syntax b) v w = ap Syntax (one_place a b (syntax_before text a b v w) (syntax_before text b a w v))
one_fault text (Syntax a) (TooDeep b) v w = absurd (syntax_and_deep text a b v w)
one_fault text (TooDeep a) (NotUtf8 b) v w = absurd (not_utf8 text b w v.utf8)
one_fault text (TooDeep a) (Syntax b) v w = absurd (syntax_and_deep text b a w v)
one_fault text (TooDeep a) (TooDeep b) v w = ap TooDeep (one_place a b (deep_before text a b v w) (deep_before text b a w v))
one_fault text OutOfMemory g v w = absurd v
one_fault text f OutOfMemory v w = absurd w

-- a text with a value has no fault
no_fault : (text : List ℕ) (tree : JsonTree) (f : JsonFault) → IsJson text tree → Means text f → ⊥
no_fault text tree (NotUtf8 at) json v = not_utf8 text at v json.utf8
no_fault text tree (Syntax at) json f = f.no_value most_levels tree json
no_fault text tree (TooDeep at) json f = f.no_value tree json
no_fault text tree OutOfMemory json f = f

pub meant_result : (text : List ℕ) (f : JsonFault) → Means text f → json_of text ≡ Err f
meant_result text f m = by (json_of text) refl
  where
    by : (r : Result JsonTree JsonFault) → json_of text ≡ r → json_of text ≡ Err f
    by (Ok tree) e = absurd (no_fault text tree f (value_is_json text tree e) m)
    by (Err g) e = e ∙ ap Err (one_fault text g f (fault_means text g (ap fault_of e)) m)

pub meant_fault : (text : List ℕ) (f : JsonFault) → Means text f → json_fault text ≡ Some f
meant_fault text f m = ap fault_of (meant_result text f m)
