-- The steps of a string.
use Rattle.std.proofs.Common.{◌≡◌, ℕ, suc, Bool, true, false, cond, eqb, List, [], ◌∷◌, ◌++◌, length, None, Result, Err, refl, sym, ap, subst, ◌∙◌}
use Rattle.std.specs.List.{list_all}
use Rattle.json_ordered.specs.JsonTree.{JsonTree}
use Rattle.json_ordered.specs.Json.{is_plain}
use Rattle.json_ordered.specs.JsonReading.{Frame, Plain, Slash, Purpose, after_string, In_string, Next, Go, Wrong, took, More, Gave, No_char, in_string, step, whole_value, Stop, Syntax_with, ended, goes_on, read_from}
use Rattle.json_ordered.specs.JsonSteps.{at, StopsPlain}
use Rattle.json_ordered.proofs.Complete.{one_byte, run_plain}
use Rattle.json_ordered.proofs.Escapes.{eqb_no}

module _ (levels : ℕ) (stack : List Frame) (purpose : Purpose) where
  abbrev pub rp : List ℕ → List ℕ → Result JsonTree Stop
  rp out rest = read_from (at levels stack (In_string purpose out Plain)) rest

  -- the run was taken
  pub ran : (text rest run end out now : List ℕ) → rp [] text ≡ rp out rest → rest ≡ run ++ end → list_all is_plain run ≡ true → now ≡ out ++ run → rp [] text ≡ rp now end
  ran text rest run end out now so_far parts plain is = so_far ∙ ap (rp out) parts ∙ run_plain levels stack purpose out run end plain ∙ ap (λ (t : List ℕ). rp t end) (sym is)

  no_value : (out : List ℕ) → whole_value stack (In_string purpose out Plain) ≡ None
  no_value out = by_stack stack
    where
      by_stack : (all : List Frame) → whole_value all (In_string purpose out Plain) ≡ None
      by_stack [] = refl
      by_stack (frame ∷ all) = refl

  pub ends_early : (out end : List ℕ) → end ≡ [] → rp out end ≡ Err (Syntax_with 0)
  unfolding read_from
  ends_early out end none = ap (rp out) none ∙ ap ended (no_value out)

  pub quoted : (out end after : List ℕ) (byte : ℕ) → end ≡ byte ∷ after → byte ≡ 34 → rp out end ≡ read_from (at levels stack (after_string purpose out)) after
  quoted out end after byte parts is = ap (rp out) (parts ∙ ap (λ (b : ℕ). b ∷ after) is) ∙ one_byte levels stack (In_string purpose out Plain) (at levels stack (after_string purpose out)) 34 after refl

  pub slashed : (out end after : List ℕ) (byte : ℕ) → end ≡ byte ∷ after → byte ≡ 92 → rp out end ≡ read_from (at levels stack (In_string purpose out Slash)) after
  slashed out end after byte parts is = ap (rp out) (parts ∙ ap (λ (b : ℕ). b ∷ after) is) ∙ one_byte levels stack (In_string purpose out Plain) (at levels stack (In_string purpose out Slash)) 92 after refl

  bad_next : (out : List ℕ) (byte : ℕ) → eqb byte 34 ≡ false → eqb byte 92 ≡ false → is_plain byte ≡ false → in_string levels stack purpose out Plain byte ≡ Wrong
  bad_next out byte noquote noslash noplain = took_none (is_plain byte) noplain (eqb byte 34) noquote (eqb byte 92) noslash
    where
      took_none : (p : Bool) → p ≡ false → (q : Bool) → q ≡ false → (r : Bool) → r ≡ false → cond q (Go (at levels stack (after_string purpose out))) (took levels stack purpose out (cond r (More Slash) (cond p (Gave (byte ∷ [])) No_char))) ≡ Wrong
      took_none true e q f r g = absurd cc
      took_none false e true f r g = absurd cc
      took_none false e false f true g = absurd cc
      took_none false e false f false g = refl

  pub bad : (out end after : List ℕ) (byte : ℕ) → end ≡ byte ∷ after → (byte ≡ 34 → ⊥) → (byte ≡ 92 → ⊥) → StopsPlain end → rp out end ≡ Err (Syntax_with (length end))
  unfolding read_from step
  bad out end after byte parts noquote noslash stops =
      let noplain : is_plain byte ≡ false = subst StopsPlain parts stops in
      ap (rp out) parts ∙ ap (λ (n : Next). goes_on n (suc (length after)) (λ u. read_from u after)) (bad_next out byte (eqb_no byte 34 noquote) (eqb_no byte 92 noslash) noplain)
      ∙ ap (λ (t : List ℕ). Err (Syntax_with (length t))) (sym parts)
