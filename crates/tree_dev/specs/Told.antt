-- A tree in memory tells a tree.
use Rattle.std.specs.Prelude.{◌≡◌, ℕ, zero, suc, ◌^◌, List, [], ◌∷◌, drop, Bool, true, false, cond, ◌&&◌, ◌||◌, ◌⊎◌, nat_lt, Option, Some, None, Result, IfOk, OnOk, OnErr, ◌≢◌, refl}
use Rattle.std.proofs.Common.{sym, ap, ◌∙◌, subst, inl, inr}
use Rattle.std.proofs.lemmas.Bool.{ltb-true}
use Rattle.std.specs.List.{list_any, list_all}
use Rattle.std.specs.Ordering.{is_eq, eq_by_cmp}
use Rattle.std.specs.declared.cmp.Ordering.{Ordering}
use Rattle.std.specs.declared.cmp.Ordering.TheVariants.{Less, Equal, Greater}
use Rattle.std.specs.FinMap.{contains_key, keys, len, contains_key-keys}
use Rattle.path_name.specs.Orders.{path_cmp, path_cmp_exact}
use Rattle.path_name.specs.Paths.{is_segment, without_last}
use Rattle.tree_dev.specs.Trees.{FileTree, has_folder, is_placed, is_tree, IsTree}
use Rattle.tree_dev.specs.Disk.{Disk, IsOnDisk, made, reading}
use Rattle.tree_dev.specs.Memory.{Memory, are_trees, is_sound, told_by}
use Rattle.tree_dev.specs.Device.{Meaning, OfTold, Stays, Adds, MayAdd, Settles, MaySettle}
use Rattle.tree_dev.specs.declared.change.Change.{Change}
use Rattle.tree_dev.specs.declared.did.Did.{Did}
use Rattle.tree_dev.specs.declared.did.Did.TheVariants as dids
use Rattle.tree_dev.specs.declared.did.Made.{Made}
use Rattle.tree_dev.specs.declared.did.Made.TheVariants as mades
use Rattle.tree_dev.specs.declared.fault.Failed.{Failed}

-- tests that are joined
pub one_of : (first rest : Bool) → (first || rest) ≡ true → (first ≡ true) ⊎ (rest ≡ true)
one_of true rest e = inl refl
one_of false rest e = inr e

pub both : (a b : Bool) → (a && b) ≡ true → (a ≡ true) × (b ≡ true)
both true b e = (refl, e)
both false b e = absurd cc

pub equal_of : (order : Ordering) → is_eq order ≡ true → order ≡ Equal
equal_of Less e = absurd cc
equal_of Equal e = refl
equal_of Greater e = absurd cc

pub equal_paths : (q path : List (List ℕ)) → is_eq (path_cmp q path) ≡ true → q ≡ path
equal_paths q path e = path_cmp_exact q path (equal_of (path_cmp q path) e)

each_passes : (p : List (List ℕ) → Bool) (paths : List (List (List ℕ))) (q : List (List ℕ)) → list_all p paths ≡ true → list_any (eq_by_cmp path_cmp q) paths ≡ true → p q ≡ true
each_passes p [] q all among = absurd cc
each_passes p (path ∷ paths) q all among =
    let parts = both (p path) (list_all p paths) all in
    elim (one_of (is_eq (path_cmp q path)) (list_any (eq_by_cmp path_cmp q) paths) among) [
      | inl same ↦ ap p (equal_paths q path same) ∙ parts.0
      | inr rest ↦ each_passes p paths q parts.1 rest
    ]

-- the test says the facts
pub tree_from_test : (t : FileTree) → is_tree t ≡ true → IsTree t
unfolding is_tree
tree_from_test t e =
    let parts = both (list_all (is_placed t) (keys t)) (nat_lt (len t) (2 ^ 32)) e in
    let placed = λ (q : List (List ℕ)) (has : contains_key t q ≡ true). each_passes (is_placed t) (keys t) q parts.0 (sym (contains_key-keys t q) ∙ has) in
    record {
      paths = λ q has. (both (list_all is_segment q) (has_folder t (without_last q)) (placed q has)).0;
      below_folders = λ q has. (both (list_all is_segment q) (has_folder t (without_last q)) (placed q has)).1;
      few = ltb-true (len t) (2 ^ 32) parts.1;
    }

-- each first part of the pending changes makes a tree
pub part_is_tree : (base : FileTree) (pending : List Change) (lost : ℕ) → are_trees base pending ≡ true → is_tree (made base (drop lost pending)) ≡ true
unfolding made
part_is_tree base [] zero e = e
part_is_tree base [] (suc lost) e = e
part_is_tree base (latest ∷ earlier) zero e = (both (is_tree (made base (latest ∷ earlier))) (are_trees base earlier) e).0
part_is_tree base (latest ∷ earlier) (suc lost) e = part_is_tree base earlier lost (both (is_tree (made base (latest ∷ earlier))) (are_trees base earlier) e).1

told_case : (d : Disk) (t : FileTree) (b : Bool) → is_sound d ≡ b → cond b (Some (reading d)) None ≡ Some t → IsOnDisk d t
unfolding is_sound
told_case d t true e told = record { reads = cc; trees = λ lost. tree_from_test (made d.base (drop lost d.pending)) (part_is_tree d.base d.pending lost e) }
told_case d t false e told = absurd cc

-- what a tree in memory tells stands on its disk
pub told_is_on_disk : (m : Memory) (t : FileTree) → (told_by m).told ≡ Some t → IsOnDisk m.disks.now t
told_is_on_disk m t told = told_case m.disks.now t (is_sound m.disks.now) refl told

-- it is a tree
pub told_is_tree : (m : Memory) (t : FileTree) → (told_by m).told ≡ Some t → IsTree t
told_is_tree m t told = let on = told_is_on_disk m t told in subst IsTree (sym on.reads) (on.trees zero)

-- a device that tells nothing
pub nothing_is_told : (t : FileTree) → ◌≡◌ {A = Option FileTree} None (Some t) → IsTree t
nothing_is_told t told = absurd cc

pub nothing_is_on_disk : (d : Disk) (t : FileTree) → ◌≡◌ {A = Option FileTree} None (Some t) → IsOnDisk d t
nothing_is_on_disk d t told = absurd cc

-- what the trait says of a call that makes a change, of one that makes a folder, and of a barrier
pub record TellsChange (before now : Meaning) (change : Change) (result : Result Did Failed) : Type 0 where
  pub done : IfOk result (λ answer. answer ≡ dids.Done → OfTold before (λ _. Adds before now change))
  pub misplaced : IfOk result (λ answer. answer ≡ dids.Misplaced → Stays before now)
  pub moments : MayAdd before now change

pub record TellsFolder (before now : Meaning) (change : Change) (result : Result Made Failed) : Type 0 where
  pub done : IfOk result (λ answer. answer ≡ mades.New → OfTold before (λ _. Adds before now change))
  pub misplaced : IfOk result (λ answer. answer ≢ mades.New → Stays before now)
  pub moments : MayAdd before now change

pub record TellsBarrier (before now : Meaning) (result : Result (Unit {0}) Failed) : Type 0 where
  pub done : OnOk result (OfTold before (λ _. Settles before now))
  pub failed : OnErr result (Stays before now)
  pub moments : MaySettle before now
