-- Keys that were met, kept in a set.
use Rattle.std.proofs.Common.{◌≡◌, Bool, true, false, not, cond, List, [], ◌∷◌, ◌++◌, refl, sym, ap, ◌∙◌}
use Rattle.std.specs.BTreeMap.{is_at}
use Rattle.std.specs.BTreeSet.{BTreeSet, contains}
use Rattle.std.specs.Cmp.{IsEquivalence}
use Rattle.std.specs.Ordering.{eq_by_cmp, is_eq}
use Rattle.std.specs.declared.cmp.Ordering.{Ordering}
use Rattle.autoload_build.specs.BuiltTables.{first_of_each}
use Rattle.autoload_build.proofs.FirstOfEach.{is_known, kept_more, kept_still, known_more, known_still, same_keys}

was_new : (added had : Bool) → added ≡ not had → added ≡ true → had ≡ false
was_new added true e f =
    let no' : true ≡ false = sym f ∙ e in
    absurd cc
was_new added false e f = refl

was_old : (added had : Bool) → added ≡ not had → added ≡ false → had ≡ true
was_old added true e f = refl
was_old added false e f =
    let no' : true ≡ false = sym e ∙ f in
    absurd cc

module _ {K X : Type 0} (cmp : K → K → Ordering) (eq : K → K → Bool) (laws : IsEquivalence eq) (ties : (a b : K) → eq a b ≡ eq_by_cmp cmp a b) (key : X → K)
    (set new : BTreeSet K) (xs kept : List X) (x : X) (copy : K) (added : Bool) (is : copy ≡ key x) (told : added ≡ not (contains cmp set copy)) (updates : (q : K) → contains cmp new q ≡ cond (is_at (cmp copy) q) true (contains cmp set q))
    (firsts : kept ≡ first_of_each (same_keys eq laws key) xs) (known : (k : K) → contains cmp set k ≡ is_known eq laws key kept k) where
  had : contains cmp set copy ≡ is_known eq laws key kept (key x)
  had = ap (contains cmp set) is ∙ known (key x)

  now : (k : K) → contains cmp new k ≡ cond (eq (key x) k) true (is_known eq laws key kept k)
  now k = updates k ∙ ap (λ b. cond b true (contains cmp set k)) (ap (λ one. is_eq (cmp one k)) is ∙ sym (ties (key x) k)) ∙ ap (cond (eq (key x) k) true) (known k)

  -- a new key
  pub added_kept : added ≡ true → kept ++ x ∷ [] ≡ first_of_each (same_keys eq laws key) (xs ++ x ∷ [])
  added_kept e = kept_more eq laws key xs kept x firsts (sym had ∙ was_new added (contains cmp set copy) told e)

  pub added_known : (k : K) → contains cmp new k ≡ is_known eq laws key (kept ++ x ∷ []) k
  added_known k = known_more eq laws key kept x k (contains cmp new k) (now k)

  -- a key that is known
  pub old_kept : added ≡ false → kept ≡ first_of_each (same_keys eq laws key) (xs ++ x ∷ [])
  old_kept e = kept_still eq laws key xs kept x firsts (sym had ∙ was_old added (contains cmp set copy) told e)

  pub old_known : added ≡ false → (k : K) → contains cmp new k ≡ is_known eq laws key kept k
  old_known e k = known_still eq laws key kept x k (contains cmp new k) (sym had ∙ was_old added (contains cmp set copy) told e) (now k)
