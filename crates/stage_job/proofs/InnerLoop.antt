-- The check of the parts of a folder, one by one.
use Rattle.std.proofs.Common.{◌≡◌, ℕ, ◌+◌, ◌<◌, ◌≤◌, List, ◌∷◌, ◌++◌, length, drop, get_or, Result, Ok, Err, sym, ap, ◌∙◌}
use Rattle.std.proofs.lemmas.List.{at_drop_all, at_drop_more}
use Rattle.path_name.specs.Given.{◌>>=◌}
use Rattle.tree_dev.specs.Trees.{FileTree}
use Rattle.stage_job.specs.Checked.{inner_checked, leaf_checked}
use Rattle.stage_job.specs.declared.fault.StageFault.{StageFault}
use Rattle.stage_job.specs.declared.job.Inner.{Inner}

module _ (t m : FileTree) (at : List (List ℕ)) (inner : List Inner) (i : ℕ) (part : Inner) (before : ℕ) (wanted : Result ℕ StageFault) (lt : i < length inner) (is : part ≡ get_or inner i part)
    (same : leaf_checked m (at ++ part.below) part.from before ≡ leaf_checked t (at ++ part.below) part.from before) (so_far : inner_checked t at (drop i inner) before ≡ wanted) where
  wanted_is : wanted ≡ (leaf_checked m (at ++ part.below) part.from before >>= λ rest. inner_checked t at (drop (i + 1) inner) rest)
  wanted_is =
      sym so_far ∙ at_drop_more (λ (ps : List Inner). inner_checked t at ps before) inner i part lt
      ∙ ap (λ (p : Inner). inner_checked t at (p ∷ drop (i + 1) inner) before) (sym is)
      ∙ ap (λ (r : Result ℕ StageFault). r >>= λ rest. inner_checked t at (drop (i + 1) inner) rest) (sym same)

  pub inner_more : (after : ℕ) → leaf_checked m (at ++ part.below) part.from before ≡ Ok after → inner_checked t at (drop (i + 1) inner) after ≡ wanted
  inner_more after here = sym (wanted_is ∙ ap (λ (r : Result ℕ StageFault). r >>= λ rest. inner_checked t at (drop (i + 1) inner) rest) here)

  pub inner_fault : (fault : StageFault) → leaf_checked m (at ++ part.below) part.from before ≡ Err fault → wanted ≡ Err fault
  inner_fault fault here = wanted_is ∙ ap (λ (r : Result ℕ StageFault). r >>= λ rest. inner_checked t at (drop (i + 1) inner) rest) here

pub inner_all : (t : FileTree) (at : List (List ℕ)) (inner : List Inner) (i left : ℕ) (wanted : Result ℕ StageFault) → length inner ≤ i → inner_checked t at (drop i inner) left ≡ wanted → wanted ≡ Ok left
inner_all t at inner i left wanted le so_far = sym so_far ∙ at_drop_all (λ (ps : List Inner). inner_checked t at ps left) inner i le
