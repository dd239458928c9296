-- What a loop over a list has gone through, and what is left.
use Rattle.std.proofs.Common.{◌≡◌, suc, ◌<◌, List, ◌∷◌, ◌++◌, length, get_or, take, drop, map, sym, ap, ◌∙◌}
use Rattle.std.proofs.Math.Seq.{drop-cons}
use Rattle.std.proofs.lemmas.List.{map-id, take-append-drop}

module _ {X : Type 0} (all front : List X) (item : X) where
  -- the list is what was gone through, this item, and the rest
  pub split_here : map (λ (x : X). x) front ≡ take (length front) all → (length front < length all) × (item ≡ get_or all (length front) item)
      → all ≡ front ++ item ∷ drop (suc (length front)) all
  split_here so_far turn =
      sym (take-append-drop (length front) all)
      ∙ ap (λ (xs : List X). xs ++ drop (length front) all) (sym so_far ∙ map-id front)
      ∙ ap (λ (xs : List X). front ++ xs)
      (drop-cons all (length front) item turn.0 ∙ ap (λ (x : X). x ∷ drop (suc (length front)) all) (sym turn.1))
