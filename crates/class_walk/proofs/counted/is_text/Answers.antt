use Rattle.std.proofs.Common.{◌≡◌, List, ℕ, Bool, true, false, Result, Ok, Err, refl, sym, ◌∙◌}
use Rattle.std.specs.Prelude.{MatchResult, is_ok}
use Rattle.std.specs.Str.{IsUtf8, is_utf8}
use Rattle.std.proofs.lemmas.Str.{is_utf8-from_IsUtf8, IsUtf8-from_is_utf8}
use Rattle.class_walk.proofs.counted.is_text.Goals as goal

not_text : (bytes : List ℕ) (answer : Bool) → is_utf8 bytes ≡ answer → ¬ (IsUtf8 bytes) → answer ≡ false
not_text bytes true e no_text = absurd (no_text (IsUtf8-from_is_utf8 bytes e))
not_text bytes false e no_text = refl

told : {T F : Type 0} (bytes : List ℕ) (now : T → List ℕ) (upto : F → Type 0) (r : Result T F) → MatchResult r (λ s. (now s ≡ bytes) × IsUtf8 bytes) (λ e. ¬ (IsUtf8 bytes) × upto e) → is_ok r ≡ is_utf8 bytes
told bytes now upto (Ok s) h = sym (is_utf8-from_IsUtf8 bytes h.1)
told bytes now upto (Err e) h = sym (not_text bytes (is_utf8 bytes) refl h.0)

pub returns : goal.returns
returns c = c.is_ok.ensures.value ∙ told c.args.name.now (λ s. s.now) _ c.from_utf8.result c.from_utf8.ensures.cases
