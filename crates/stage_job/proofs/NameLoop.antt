-- The loop over the names of a folder that is copied.
use Rattle.std.proofs.Common.{◌≡◌, ℕ, zero, suc, ◌+◌, ◌<◌, ◌≤◌, Bool, true, false, ◌||◌, cond, List, [], ◌∷◌, ◌++◌, length, take, drop, get_or, filter, Some, None, Result, Ok, Err, refl, sym, ap, ◌∙◌, arith}
use Rattle.std.proofs.lemmas.List.{at_drop_all, at_drop_more}
use Rattle.std.proofs.lemmas.List.Kept.{IsStrictlySortedBy-filter}
use Rattle.std.specs.FinMap as map
use Rattle.std.specs.List.{list_all}
use Rattle.std.specs.List.Sorted.{IsStrictlySortedBy}
use Rattle.std.specs.Ordering.{eq_by_cmp, is_eq, ordering_reverse}
use Rattle.std.specs.declared.cmp.Ordering.TheVariants.{Less}
use Rattle.path_name.specs.Given.{◌>>=◌}
use Rattle.path_name.specs.Orders.{byte_cmp, byte_cmp_total}
use Rattle.path_name.specs.Paths.{is_segment}
use Rattle.tree_dev.specs.Told.{both}
use Rattle.tree_dev.specs.Trees.{FileTree, IsListing, IsTree, entry_at, names_in}
use Rattle.tree_dev.specs.Changes.{is_root}
use Rattle.tree_dev.specs.declared.entry.Entry.TheVariants as entries
use Rattle.tree_dev.proofs.Snoc.{not_root-append}
use Rattle.stage_job.specs.Checked.{Check, each_checked, entry_checked, passes_top}
use Rattle.stage_job.specs.Copied.{AreThere, is_among, names_entry}
use Rattle.stage_job.specs.Mirrored.{is_left_out, mirrored}
use Rattle.stage_job.specs.declared.fault.StageFault.{StageFault}
use Rattle.stage_job.proofs.Alike.{IsAlike, alike_child, checked_alike}
use Rattle.stage_job.proofs.Below.{itself_named, same_name}
use Rattle.stage_job.proofs.CopySteps.{all_names}

-- ---- a name of a sorted list is none of those before it

after_at : (y : List ℕ) (ys : List (List ℕ)) (j : ℕ) (d : List ℕ) → IsStrictlySortedBy byte_cmp (y ∷ ys) → j < length ys → byte_cmp y (get_or ys j d) ≡ Less
unfolding IsStrictlySortedBy
after_at y [] j d sorted lt = absurd (omega arith)
after_at y (z ∷ zs) zero d sorted lt = sorted.0.0
after_at y (z ∷ zs) (suc j) d sorted lt = after_at y zs j d (sorted.0.1, sorted.1.1) (omega arith)

not_same : (x y : List ℕ) → byte_cmp y x ≡ Less → eq_by_cmp byte_cmp x y ≡ false
not_same x y less = ap is_eq (byte_cmp_total.antisymm x y ∙ ap ordering_reverse less)

tail_sorted : (y : List ℕ) (ys : List (List ℕ)) → IsStrictlySortedBy byte_cmp (y ∷ ys) → IsStrictlySortedBy byte_cmp ys
unfolding IsStrictlySortedBy
tail_sorted y ys sorted = sorted.1

fresh_at : (names : List (List ℕ)) (i : ℕ) (d : List ℕ) → IsStrictlySortedBy byte_cmp names → i < length names → is_among (get_or names i d) (take i names) ≡ false
fresh_at [] i d sorted lt = absurd (omega arith)
fresh_at (y ∷ ys) zero d sorted lt = refl
fresh_at (y ∷ ys) (suc j) d sorted lt =
    let less = after_at y ys j d sorted (omega arith) in
    rw (not_same (get_or ys j d) y less) (fresh_at ys j d (tail_sorted y ys sorted) (omega arith))

pub fresh : (names : List (List ℕ)) (i : ℕ) (x : List ℕ) → IsListing names → i < length names → x ≡ get_or names i x → is_among x (take i names) ≡ false
fresh names i x listing lt is = ap (λ (n : List ℕ). is_among n (take i names)) is ∙ fresh_at names i x listing.ascending lt

among_at : (names : List (List ℕ)) (i : ℕ) (d : List ℕ) → i < length names → is_among (get_or names i d) names ≡ true
among_at [] i d lt = absurd (omega arith)
among_at (y ∷ ys) zero d lt = rw (itself_named y) refl
among_at (y ∷ ys) (suc j) d lt = or_true (eq_by_cmp byte_cmp (get_or ys j d) y) (among_at ys j d (omega arith))
  where
    or_true : (a : Bool) {b : Bool} → b ≡ true → (a || b) ≡ true
    or_true true e = refl
    or_true false e = e

pub named : (names : List (List ℕ)) (i : ℕ) (x : List ℕ) → i < length names → x ≡ get_or names i x → is_among x names ≡ true
named names i x lt is = ap (λ (n : List ℕ). is_among n names) is ∙ among_at names i x lt

pub segment_at : (names : List (List ℕ)) (i : ℕ) (d : List ℕ) → list_all is_segment names ≡ true → i < length names → is_segment (get_or names i d) ≡ true
segment_at [] i d all lt = absurd (omega arith)
segment_at (y ∷ ys) zero d all lt = (both (is_segment y) (list_all is_segment ys) all).0
segment_at (y ∷ ys) (suc j) d all lt = segment_at ys j d (both (is_segment y) (list_all is_segment ys) all).1 (omega arith)

pub segment : (names : List (List ℕ)) (i : ℕ) (x : List ℕ) → IsListing names → i < length names → x ≡ get_or names i x → is_segment x ≡ true
segment names i x listing lt is = ap is_segment is ∙ segment_at names i x listing.segments lt

-- ---- one name looked at

module _ (levels : ℕ) (t m : FileTree) (from names : List (List ℕ)) (i : ℕ) (x : List ℕ) (before : ℕ) (wanted : Result ℕ StageFault)
    (below : is_root from ≡ false) (alike : IsAlike from t m) (lt : i < length names) (is : x ≡ get_or names i x)
    (so_far : each_checked (entry_checked levels t) from (drop i names) before ≡ wanted) where
  wanted_is : wanted ≡ (entry_checked levels m (from ++ x ∷ []) before >>= λ rest. each_checked (entry_checked levels t) from (drop (i + 1) names) rest)
  wanted_is =
      sym so_far ∙ at_drop_more (λ (xs : List (List ℕ)). each_checked (entry_checked levels t) from xs before) names i x lt
      ∙ ap (λ (n : List ℕ). each_checked (entry_checked levels t) from (n ∷ drop (i + 1) names) before) (sym is)
      ∙ ap (λ (r : Result ℕ StageFault). r >>= λ rest. each_checked (entry_checked levels t) from (drop (i + 1) names) rest)
      (sym (checked_alike levels (from ++ x ∷ []) t m before (not_root-append from (x ∷ []) below) (alike_child from x t m alike)))

  pub checked_more : (after : ℕ) → entry_checked levels m (from ++ x ∷ []) before ≡ Ok after → each_checked (entry_checked levels t) from (drop (i + 1) names) after ≡ wanted
  checked_more after here = sym (wanted_is ∙ ap (λ (r : Result ℕ StageFault). r >>= λ rest. each_checked (entry_checked levels t) from (drop (i + 1) names) rest) here)

  pub checked_fault : (fault : StageFault) → entry_checked levels m (from ++ x ∷ []) before ≡ Err fault → wanted ≡ Err fault
  checked_fault fault here = wanted_is ∙ ap (λ (r : Result ℕ StageFault). r >>= λ rest. each_checked (entry_checked levels t) from (drop (i + 1) names) rest) here

pub checked_all : (check : Check) (from names : List (List ℕ)) (i left : ℕ) (wanted : Result ℕ StageFault) → length names ≤ i
    → each_checked check from (drop i names) left ≡ wanted → wanted ≡ Ok left
checked_all check from names i left wanted le so_far = sym so_far ∙ at_drop_all (λ (xs : List (List ℕ)). each_checked check from xs left) names i le

-- ---- the names of a package's top entries

filter_among : (p : List ℕ → Bool) (n : List ℕ) (names : List (List ℕ)) (keeps : Bool) → p n ≡ keeps → is_among n (filter p names) ≡ cond keeps (is_among n names) false
filter_among p n [] true e = refl
filter_among p n [] false e = refl
filter_among p n (y ∷ ys) keeps e = by (p y) refl (eq_by_cmp byte_cmp n y) refl (filter_among p n ys keeps e)
  where
    by : (py : Bool) → p y ≡ py → (same : Bool) → eq_by_cmp byte_cmp n y ≡ same → is_among n (filter p ys) ≡ cond keeps (is_among n ys) false
        → is_among n (cond py (y ∷ filter p ys) (filter p ys)) ≡ cond keeps (same || is_among n ys) false
    by true h true s more = rw s (let k : keeps ≡ true = sym e ∙ ap p (same_name n y s) ∙ h in sym (rw k refl))
    by true h false s more = rw s more
    by false h true s more = (let k : keeps ≡ false = sym e ∙ ap p (same_name n y s) ∙ h in more ∙ rw k refl)
    by false h false s more = more

pub top_listing : (names : List (List ℕ)) → IsListing names → IsListing (filter passes_top names)
top_listing names listing = record { segments = kept_segments names listing.segments; ascending = IsStrictlySortedBy-filter byte_cmp passes_top names listing.ascending }
  where
    by : (y : List ℕ) (ys : List (List ℕ)) (keeps : Bool) → is_segment y ≡ true → list_all is_segment ys ≡ true → list_all is_segment (cond keeps (y ∷ ys) ys) ≡ true
    by y ys true here more = rw here more
    by y ys false here more = more

    kept_segments : (names : List (List ℕ)) → list_all is_segment names ≡ true → list_all is_segment (filter passes_top names) ≡ true
    kept_segments [] all = refl
    kept_segments (y ∷ ys) all =
        let parts = both (is_segment y) (list_all is_segment ys) all in
        by y (filter passes_top ys) (passes_top y) parts.0 (kept_segments ys parts.1)

pub top_there : (t : FileTree) (from names : List (List ℕ)) → AreThere t from names → AreThere t from (filter passes_top names)
top_there t from names there n among = there n (by (passes_top n) refl)
  where
    by : (keeps : Bool) → passes_top n ≡ keeps → is_among n names ≡ true
    by true e = sym (filter_among passes_top n names true e) ∙ among
    by false e = absurd (let none = filter_among passes_top n names false e in cc)

-- what stands at the copy of a package
pub top_names : (t : FileTree) (from : List (List ℕ)) → IsTree t → is_root from ≡ false → entry_at t from ≡ Some entries.Folder → (below : List (List ℕ))
    → names_entry t from (filter passes_top (names_in t from)) below ≡ mirrored t from below
top_names t from tree below folder [] = all_names t from tree below folder []
top_names t from tree below folder (n ∷ rest) = by (is_left_out n) refl
  where
    by : (out : Bool) → is_left_out n ≡ out → names_entry t from (filter passes_top (names_in t from)) (n ∷ rest) ≡ mirrored t from (n ∷ rest)
    by true e =
        let none = filter_among passes_top n (names_in t from) false (rw e refl) in
        rw (none, e) refl
    by false e =
        let same = filter_among passes_top n (names_in t from) true (rw e refl) in
        ap (λ (b : Bool). cond b (map.get t (from ++ n ∷ rest)) None) same ∙ all_names t from tree below folder (n ∷ rest) ∙ sym (rw e refl)
