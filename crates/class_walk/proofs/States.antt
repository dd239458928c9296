-- For each of the last parts of a pattern, whether they match a text's front.
use Rattle.std.proofs.Common.{◌≡◌, ℕ, ◌+◌, ◌-◌, ◌<◌, ◌≤◌, Bool, true, false, List, [], ◌∷◌, ◌++◌, length, get_or, drop, refl, ap, ◌∙◌, arith, inl, inr}
use Rattle.std.proofs.Math.ListN.{get_or-append}
use Rattle.std.proofs.Math.Seq.{get_or-append_seam}
use Rattle.std.proofs.lemmas.Bool.Decides.{eqb_tells}
use Rattle.std.proofs.lemmas.List.{drop_more, drop_all, length-append}
use Rattle.class_walk.specs.Patterns.{matches_front}
use Rattle.class_walk.specs.Matching.{AreStates}
use Rattle.class_walk.specs.declared.pattern.PatternPart.{PatternPart}
use Rattle.class_walk.specs.declared.pattern.PatternPart.TheVariants as kinds

-- at the end of a text, some parts match nothing
none_at_end : (parts : List PatternPart) (at : ℕ) → at < length parts → matches_front (drop at parts) [] ≡ false
none_at_end parts at below = rw (drop_more parts at kinds.Across below) refl

all_at_end : (parts : List PatternPart) (at : ℕ) → at ≡ length parts → matches_front (drop at parts) [] ≡ true
all_at_end parts at e = rw (drop_all at parts (omega (arith, e))) refl

module _ (parts : List PatternPart) (states : List Bool) (long : length states ≡ length parts) (none : (k : ℕ) → get_or states k false ≡ false) where
  each_at_end : (k : ℕ) → k ≤ length parts → get_or (states ++ true ∷ []) k false ≡ matches_front (drop k parts) []
  each_at_end k within = elim (eqb_tells k (length parts)) [
    | inl same ↦ let e = same.1 in ap (λ at. get_or (states ++ true ∷ []) at false) (omega (arith, e, long)) ∙ get_or-append_seam states true [] false ∙ (rw (all_at_end parts k e) refl)
    | inr apart ↦ let other = apart.1 in let below : k < length parts = omega (arith, other, within) in get_or-append states (true ∷ []) false k (omega (arith, below, long)) ∙ none k ∙ (rw (none_at_end parts k below) refl)
  ]

  pub end_states : AreStates parts (states ++ true ∷ []) []
  end_states = record { long = length-append states (true ∷ []) ∙ ap (λ n. n + 1) long; each = each_at_end }

-- one byte more
pub drop_back : {X : Type 0} (xs : List X) (len : ℕ) (d : X) → 0 < len → len ≤ length xs → drop (len - 1) xs ≡ get_or xs (len - 1) d ∷ drop len xs
drop_back xs len d some within =
    let at : len - 1 + 1 ≡ len = omega arith in
    drop_more xs (len - 1) d (omega arith) ∙ ap (λ n. get_or xs (len - 1) d ∷ drop n xs) at
