-- Room for what a part takes away, and folders that are there.
use Rattle.std.proofs.Common.{◌≡◌, ◌≢◌, ℕ, Bool, true, false, cond, codes, List, [], ◌∷◌, Option, Some, None, is_some, refl, sym, ap, ◌∙◌, inl, inr}
use Rattle.std.specs.Prelude.{Err, MatchOption}
use Rattle.std.specs.Option.{option_map}
use Rattle.std.specs.FinMap as map
use Rattle.std.proofs.lemmas.Cmp.{eq_by_cmp_equiv}
use Rattle.path_name.specs.Orders.{path_cmp_total}
use Rattle.tree_dev.specs.Projects.{journal_path, work_path}
use Rattle.tree_dev.specs.Trees.{FileTree, IsTree, behind, entry_at, is_folder, kind_at, kind_of}
use Rattle.tree_dev.proofs.ProjectParts.{behind_same_head}
use Rattle.tree_dev.specs.Changes.{changed, is_leaf, is_root}
use Rattle.tree_dev.specs.Device.{Adds, MayAdd, Meaning}
use Rattle.tree_dev.specs.declared.change.Change.TheVariants as changes
use Rattle.tree_dev.specs.declared.entry.Entry.{Entry}
use Rattle.tree_dev.specs.declared.entry.Entry.TheVariants as entries
use Rattle.tree_dev.specs.declared.entry.Kind.{Kind}
use Rattle.tree_dev.specs.declared.entry.Kind.TheVariants as kinds
use Rattle.tree_dev.proofs.Changed.{get-changed}
use Rattle.install_world.specs.Emptied as removals
use Rattle.install_world.specs.InFlight.{IsThere, old_path}
use Rattle.install_world.specs.Moving.{ArePlaces, HasRoom}
use Rattle.install_world.specs.PartFaults.{fault_of_removal, is_unfit}
use Rattle.install_world.specs.declared.moving.PartPlaces.{PartPlaces}
use Rattle.install_world.specs.declared.target.Target.{Target}
use Rattle.install_world.proofs.PartPaths.{behind_itself}
use Rattle.install_world.proofs.PlacesFree.{kept_under}
use Rattle.install_world.specs.declared.removal_fault.RemoveFault.{RemoveFault}
use Rattle.install_world.specs.declared.removal_fault.RemoveFault.TheVariants as removal_faults

-- ---- room

none_there : (t : FileTree) (at : List (List ℕ)) → map.get t at ≡ None → IsThere t at → ⊥
none_there t at none there = let no : is_some (map.get t at) ≡ false = ap is_some none in cc

pub room_without_target : (gone : Bool) (places : PartPlaces) (t : FileTree) → map.get t places.target ≡ None → HasRoom gone places t
room_without_target gone places t none = record { free = λ there why. absurd (none_there t places.target none there) }

pub room_without_staged : (gone : Bool) (places : PartPlaces) (t : FileTree) → gone ≡ false → map.get t places.staged ≡ None → HasRoom gone places t
room_without_staged gone places t stays none = record {
  free = λ there why. elim why [ inl away ↦ absurd cc | inr staged ↦ absurd (none_there t places.staged none staged) ];
}

pub room_without_kept : (gone : Bool) (places : PartPlaces) (t : FileTree) → map.get t places.kept ≡ None → HasRoom gone places t
room_without_kept gone places t none = record { free = λ there why. none }

-- ---- what stands at a path

pub stands_at : (t : FileTree) (at : List (List ℕ)) → IsTree t → IsThere t at → entry_at t at ≡ map.get t at
stands_at t [] tree there = let placed = tree.below_folders [] there in absurd cc
stands_at t (x ∷ xs) tree there = refl

pub folder_by_kind : (t : FileTree) (at : List (List ℕ)) (kind : Kind) → IsTree t → IsThere t at → kind ≡ kind_at t at → kind ≡ kinds.Folder → map.get t at ≡ Some entries.Folder
unfolding kind_at
folder_by_kind t at kind tree there is folder = sym (stands_at t at tree there) ∙ by (entry_at t at) refl (sym is ∙ folder)
  where
    by : (entry : Option Entry) → entry_at t at ≡ entry → kind_of entry ≡ kinds.Folder → entry_at t at ≡ Some entries.Folder
    by None e k = absurd cc
    by (Some (entries.File bytes)) e k = absurd cc
    by (Some entries.Folder) e k = e
    by (Some entries.Other) e k = absurd cc

pub leaf_by_kind : (t : FileTree) (at : List (List ℕ)) (kind : Kind) → IsTree t → IsThere t at → kind ≡ kind_at t at → (kind ≡ kinds.Folder → ⊥) → is_leaf (entry_at t at) ≡ true
unfolding kind_at
leaf_by_kind t at kind tree there is other = by (entry_at t at) (ap is_some (stands_at t at tree there) ∙ there) is
  where
    by : (entry : Option Entry) → is_some entry ≡ true → kind ≡ kind_of entry → is_leaf entry ≡ true
    by None some k = absurd cc
    by (Some (entries.File bytes)) some k = refl
    by (Some entries.Folder) some k = absurd (other k)
    by (Some entries.Other) some k = refl

-- ---- what is removed

change_told : (b d : Meaning) (q : List (List ℕ)) (u : FileTree) → MayAdd b d (changes.FileRemoved q) → d.told ≡ Some u → (t : FileTree) × (b.told ≡ Some t)
change_told b d q u (inl stays) told = (u, sym stays.told ∙ told)
change_told b d q u (inr adds) told = by b.told refl
  where
    by : (before : Option FileTree) → b.told ≡ before → (t : FileTree) × (b.told ≡ Some t)
    by None e =
        let none : d.told ≡ None = adds.adds.told ∙ ap (option_map (λ (w : FileTree). changed w adds.torn)) e in
        absurd cc
    by (Some t) e = (t, e)

pub file_is_gone : (q : List (List ℕ)) (b d : Meaning) (u : FileTree) → MayAdd b d (changes.FileRemoved q) → d.told ≡ Some u
    → ((t : FileTree) → b.told ≡ Some t → Adds b d (changes.FileRemoved q)) → map.get u q ≡ None
file_is_gone q b d u may told done =
    let before = change_told b d q u may told in
    let now : Some u ≡ Some (changed before.0 (changes.FileRemoved q)) =
    sym told ∙ (done before.0 before.1).told ∙ ap (option_map (λ (w : FileTree). changed w (changes.FileRemoved q))) before.1 in
    let same : u ≡ changed before.0 (changes.FileRemoved q) = cc in
    ap (λ (w : FileTree). map.get w q) same ∙ get-changed before.0 (changes.FileRemoved q) q
    ∙ ap (λ same. cond same None (map.get before.0 q)) ((eq_by_cmp_equiv path_cmp_total).refl q)

-- ---- faults

pub unfit_removal : (X Y : Type 0) (fault : RemoveFault) → removals.is_vanished {X = X} (Err fault) ≡ false → is_unfit {X = Y} (Err (fault_of_removal fault)) ≡ false
unfit_removal X Y (removal_faults.Vanished at) is = absurd cc
unfit_removal X Y removal_faults.DeviceFault is = refl
unfit_removal X Y removal_faults.OutOfMemory is = refl

-- ---- the place where a target goes

pub kept_found : (gone : Bool) (places : PartPlaces) (t : FileTree) (kind : Kind) (found : Option Kind) → IsThere t places.kept → kind ≡ kind_at t places.kept
    → MatchOption found (HasRoom gone places t) (λ same. same ≡ kind) → MatchOption found (HasRoom gone places t) (λ k. IsThere t places.kept × (k ≡ kind_at t places.kept))
kept_found gone places t kind None there is room = room
kept_found gone places t kind (Some same) there is e = (there, e ∙ is)

pub kept_is_under : (project : List (List ℕ)) (number : ℕ) (target : Target) (places : PartPlaces) → ArePlaces project number target places → is_root places.kept ≡ false
kept_is_under project number target places are = ap is_root are.kept_is ∙ kept_under project number

-- ---- `.install`

pub folder_is : (entry : Option Entry) → is_folder entry ≡ true → entry ≡ Some entries.Folder
folder_is None e = absurd cc
folder_is (Some (entries.File bytes)) e = absurd cc
folder_is (Some entries.Folder) e = refl
folder_is (Some entries.Other) e = absurd cc

pub old_under : (project : List (List ℕ)) → is_root (old_path project) ≡ false
old_under [] = refl
old_under (x ∷ xs) = refl

pub work_not_journal : (project : List (List ℕ)) → work_path project ≢ journal_path project
work_not_journal project same =
    let itself : behind (journal_path project) (work_path project) ≡ Some [] = ap (behind (journal_path project)) same ∙ behind_itself (journal_path project) in
    let none : behind (journal_path project) (work_path project) ≡ None = behind_same_head project (codes ".install" ∷ codes "journal" ∷ []) (codes ".install" ∷ []) in
    cc
