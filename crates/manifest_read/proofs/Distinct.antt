-- The names of what is kept of an object are distinct.
use Rattle.std.proofs.Common.{◌≡◌, ℕ, Bool, true, false, cond, ◌||◌, List, [], ◌∷◌, ◌++◌, map, refl, sym, ap, ◌∙◌}
use Rattle.std.specs.List.{AllByRecursion, IsDistinct, list_any}
use Rattle.std.specs.Cmp.Lexicographic.{bytes_decides}
use Rattle.std.proofs.lemmas.List.Folds.{list_any-append}
use Rattle.path_name.specs.Bytes.{lowered}
use Rattle.path_name.specs.Orders.{bytes_are_equal, byte_equality}
use Rattle.json_ordered.specs.JsonTree.{JsonTree}
use Rattle.manifest_read.specs.Keys.{Pairs}
use Rattle.manifest_read.specs.Links.{is_same_name, last_of, kept_behind}

abbrev Pair : Type 0
Pair = List ℕ × JsonTree

-- a pair's name in small letters
abbrev pub small : Pair → List ℕ
small p = lowered p.0

chosen : (b : Bool) (p next : Pair) → is_same_name p next ≡ b → small (cond b next p) ≡ small p
chosen true p next e = sym ((bytes_decides (small p) (small next)).0 e)
chosen false p next e = refl

name_of_last : (p : Pair) (ps : Pairs) → small (last_of p ps) ≡ small p
name_of_last p [] = refl
name_of_last p (next ∷ ps) = name_of_last (cond (is_same_name p next) next p) ps ∙ chosen (is_same_name p next) p next refl

abbrev IsNewTo : Pairs → Pair → Type 0
IsNewTo before p = list_any (λ x. bytes_are_equal (small p) (small x)) before ≡ false

new_front : (before : Pairs) (p k : Pair) → IsNewTo (before ++ p ∷ []) k → IsNewTo before k × (bytes_are_equal (small k) (small p) ≡ false)
new_front before p k h = by _ _ (sym (list_any-append (λ (x : Pair). bytes_are_equal (small k) (small x)) before (p ∷ [])) ∙ h)
  where
    by : (a b : Bool) → a || (b || false) ≡ false → (a ≡ false) × (b ≡ false)
    by true b e = absurd cc
    by false true e = absurd cc
    by false false e = (refl, refl)

fewer : (before : Pairs) (p : Pair) (ks : Pairs) → AllByRecursion (IsNewTo (before ++ p ∷ [])) ks → AllByRecursion (IsNewTo before) ks
fewer before p [] all = tt
fewer before p (k ∷ ks) all = ((new_front before p k all.0).0, fewer before p ks all.1)

same_new : (before : Pairs) (p q : Pair) → small q ≡ small p → IsNewTo before p → IsNewTo before q
same_new before p q e new = ap (λ name. list_any (λ (x : Pair). bytes_are_equal name (small x)) before) e ∙ new

new_step : (before : Pairs) (p : Pair) (ps more : Pairs) (b : Bool) → list_any (is_same_name p) before ≡ b → AllByRecursion (IsNewTo (before ++ p ∷ [])) more → AllByRecursion (IsNewTo before) (cond b more (last_of p ps ∷ more))
new_step before p ps more true e rest = fewer before p more rest
new_step before p ps more false e rest = (same_new before p (last_of p ps) (name_of_last p ps) e, fewer before p more rest)

kept_is_new : (before pairs : Pairs) → AllByRecursion (IsNewTo before) (kept_behind before pairs)
unfolding kept_behind
kept_is_new before [] = tt
kept_is_new before (p ∷ ps) = new_step before p ps (kept_behind (before ++ p ∷ []) ps) (list_any (is_same_name p) before) refl (kept_is_new (before ++ p ∷ []) ps)

other_names : (before : Pairs) (p q : Pair) (ks : Pairs) → small q ≡ small p → AllByRecursion (IsNewTo (before ++ p ∷ [])) ks → AllByRecursion (λ name. bytes_are_equal (small q) name ≡ false) (map small ks)
other_names before p q [] e all = tt
other_names before p q (k ∷ ks) e all =
    (ap (λ name. bytes_are_equal name (small k)) e ∙ byte_equality.symm (small p) (small k) ∙ (new_front before p k all.0).1, other_names before p q ks e all.1)

distinct_step : (before : Pairs) (p : Pair) (ps more : Pairs) (b : Bool) → AllByRecursion (IsNewTo (before ++ p ∷ [])) more → IsDistinct bytes_are_equal (map small more)
    → IsDistinct bytes_are_equal (map small (cond b more (last_of p ps ∷ more)))
unfolding IsDistinct
distinct_step before p ps more true new rest = rest
distinct_step before p ps more false new rest = (other_names before p (last_of p ps) more (name_of_last p ps) new, rest)

pub kept_distinct : (before pairs : Pairs) → IsDistinct bytes_are_equal (map small (kept_behind before pairs))
unfolding kept_behind IsDistinct
kept_distinct before [] = tt
kept_distinct before (p ∷ ps) =
    distinct_step before p ps (kept_behind (before ++ p ∷ []) ps) (list_any (is_same_name p) before) (kept_is_new (before ++ p ∷ []) ps) (kept_distinct (before ++ p ∷ []) ps)

-- what holds of each pair holds of each that is kept
last_holds : (P : Pair → Type 0) (p : Pair) (ps : Pairs) → P p → AllByRecursion P ps → P (last_of p ps)
last_holds P p [] h all = h
last_holds P p (next ∷ ps) h all = last_holds P (cond (is_same_name p next) next p) ps (one (is_same_name p next)) all.1
  where
    one : (b : Bool) → P (cond b next p)
    one true = all.0
    one false = h

one_more : (P : Pair → Type 0) (b : Bool) (p : Pair) (more : Pairs) → P p → AllByRecursion P more → AllByRecursion P (cond b more (p ∷ more))
one_more P true p more h all = all
one_more P false p more h all = (h, all)

pub kept_hold : (P : Pair → Type 0) (before pairs : Pairs) → AllByRecursion P pairs → AllByRecursion P (kept_behind before pairs)
unfolding kept_behind
kept_hold P before [] all = tt
kept_hold P before (p ∷ ps) all =
    one_more P (list_any (is_same_name p) before) (last_of p ps) (kept_behind (before ++ p ∷ []) ps) (last_holds P p ps all.0 all.1) (kept_hold P (before ++ p ∷ []) ps all.1)
