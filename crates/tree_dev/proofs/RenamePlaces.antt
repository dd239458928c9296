-- Where a rename has a place.
use Rattle.std.proofs.Common.{◌≡◌, ℕ, Bool, true, false, ◌&&◌, ◌||◌, cond, List, [], ◌∷◌, Option, Some, None, is_none, is_some, refl, sym, ap, ◌∙◌, append-nil}
use Rattle.std.specs.FinMap.{get}
use Rattle.path_name.specs.Paths.{without_last}
use Rattle.tree_dev.specs.Told.{both}
use Rattle.tree_dev.specs.Trees.{FileTree, IsTree, behind, entry_at, has_folder, is_folder}
use Rattle.tree_dev.specs.Changes.{has_place, is_file, is_free, is_free_for_file, is_root}
use Rattle.tree_dev.specs.declared.change.Change.TheVariants as changes
use Rattle.tree_dev.specs.declared.entry.Entry.{Entry}
use Rattle.tree_dev.specs.declared.entry.Entry.TheVariants as entries
use Rattle.tree_dev.proofs.Behind.{behind_head, head_behind}
use Rattle.tree_dev.proofs.Carried.{nothing_below}
use Rattle.tree_dev.proofs.Snoc.{not_root_behind}

-- what a place of a rename says
pub record HasPlace (t : FileTree) (from to : List (List ℕ)) : Type 0 where
  pub there : is_some (get t from) ≡ true
  pub apart : behind from to ≡ None
  pub from_below : is_root from ≡ false
  pub below : is_root to ≡ false
  pub to_leaf : is_folder (get t to) ≡ false
  pub over_file : is_some (get t to) ≡ true → is_folder (get t from) ≡ false

none_of : {X : Type 0} (x : Option X) → is_none x ≡ true → x ≡ None
none_of None e = refl
none_of (Some x) e = absurd cc

root_of : (t : FileTree) (to : List (List ℕ)) → has_folder t (without_last to) ≡ true → is_root to ≡ false
root_of t [] e = absurd cc
root_of t (x ∷ xs) e = refl

at_below : (t : FileTree) (p : List (List ℕ)) → is_root p ≡ false → entry_at t p ≡ get t p
at_below t [] e = absurd cc
at_below t (x ∷ xs) e = refl

file_is_no_folder : (present : Option Entry) → is_file present ≡ true → is_folder present ≡ false
file_is_no_folder None e = absurd cc
file_is_no_folder (Some (entries.File bytes)) e = refl
file_is_no_folder (Some entries.Folder) e = absurd cc
file_is_no_folder (Some entries.Other) e = absurd cc

free_is_no_folder : (present : Option Entry) → (is_none present || is_file present) ≡ true → is_folder present ≡ false
free_is_no_folder None e = refl
free_is_no_folder (Some (entries.File bytes)) e = refl
free_is_no_folder (Some entries.Folder) e = absurd cc
free_is_no_folder (Some entries.Other) e = absurd cc

none_is_no_folder : (present : Option Entry) → is_none present ≡ true → is_folder present ≡ false
none_is_no_folder None e = refl
none_is_no_folder (Some x) e = absurd cc

none_is_not_some : (present : Option Entry) → is_none present ≡ true → is_some present ≡ true → ⊥
none_is_not_some None e h = cc
none_is_not_some (Some x) e h = cc

-- the three facts on the second path
record Fits (t : FileTree) (from to : List (List ℕ)) : Type 0 where
  above : has_folder t (without_last to) ≡ true
  leaf : is_folder (entry_at t to) ≡ false
  over : is_some (entry_at t to) ≡ true → is_folder (entry_at t from) ≡ false

fits_of : (t : FileTree) (from to : List (List ℕ)) (b : Bool) → is_file (entry_at t from) ≡ b → cond b (is_free_for_file t to) (is_free t to) ≡ true → Fits t from to
fits_of t from to true file e =
    let parts = both (has_folder t (without_last to)) (is_none (entry_at t to) || is_file (entry_at t to)) e in
    record { above = parts.0; leaf = free_is_no_folder (entry_at t to) parts.1; over = λ some. file_is_no_folder (entry_at t from) file }
fits_of t from to false file e =
    let parts = both (has_folder t (without_last to)) (is_none (entry_at t to)) e in
    record { above = parts.0; leaf = none_is_no_folder (entry_at t to) parts.1; over = λ some. absurd (none_is_not_some (entry_at t to) parts.1 some) }

pub place_of : (t : FileTree) (from to : List (List ℕ)) → has_place t (changes.Renamed from to) ≡ true → HasPlace t from to
unfolding has_place
place_of t from to place =
    let fit = cond (is_file (entry_at t from)) (is_free_for_file t to) (is_free t to) in
    let parts = both (is_some (entry_at t from) && is_none (behind from to)) fit place in
    let first = both (is_some (entry_at t from)) (is_none (behind from to)) parts.0 in
    let apart = none_of (behind from to) first.1 in
    let fits = fits_of t from to (is_file (entry_at t from)) refl parts.1 in
    let from_below = not_root_behind from to apart in
    let below = root_of t to fits.above in
    let at_from = at_below t from from_below in
    let at_to = at_below t to below in
    record {
      there = ap is_some (sym at_from) ∙ first.0;
      apart = apart;
      from_below = from_below;
      below = below;
      to_leaf = ap is_folder (sym at_to) ∙ fits.leaf;
      over_file = λ some. ap is_folder (sym at_from) ∙ fits.over (ap is_some at_to ∙ some);
    }

back_rest : (t : FileTree) (from to rest : List (List ℕ)) → IsTree t → HasPlace t from to → behind to from ≡ Some rest → ⊥
back_rest t from to [] tree place e =
    let same : from ≡ to = head_behind to from [] e ∙ append-nil to in
    let self : behind from to ≡ Some [] = ap (λ p. behind p to) same ∙ ap (behind to) (sym (append-nil to)) ∙ behind_head to [] in
    let apart = place.apart in
    absurd cc
back_rest t from to (x ∷ rest) tree place e =
    let none = nothing_below t tree to place.below place.to_leaf (x ∷ rest) refl in
    let here : get t from ≡ None = ap (get t) (head_behind to from (x ∷ rest) e) ∙ none in
    let there = place.there in
    absurd (let h = ap is_some here in cc)

back_case : (t : FileTree) (from to : List (List ℕ)) (b : Option (List (List ℕ))) → IsTree t → HasPlace t from to → behind to from ≡ b → b ≡ None
back_case t from to None tree place e = refl
back_case t from to (Some rest) tree place e = absurd (back_rest t from to rest tree place e)

pub apart_back : (t : FileTree) (from to : List (List ℕ)) → IsTree t → HasPlace t from to → behind to from ≡ None
apart_back t from to tree place = back_case t from to (behind to from) tree place refl
