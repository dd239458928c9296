-- A disk in memory that is made anew from the record of its steps.
use Rattle.std.proofs.Common.{◌≡◌, ℕ, ◌+◌, ◌-◌, ◌<◌, ◌≤◌, min, true, List, [], ◌∷◌, ◌++◌, length, take, drop, reverse, get_or, Option, refl, sym, ap, subst, ◌∙◌, arith}
use Rattle.std.proofs.lemmas.List.{drop_all, drop_at, drop_more, length-drop, length-reverse, reverse-append, take-append-drop, take_all, take_more}
use Rattle.tree_dev.specs.Trees.{FileTree, IsTree}
use Rattle.tree_dev.specs.Changes.{changed, has_place}
use Rattle.tree_dev.specs.Disk.{Disk, Disks, made}
use Rattle.tree_dev.specs.Memory.{crashed, new_disks, torn_change, torn_changes}
use Rattle.tree_dev.specs.Recorded.{CanRedo, CanRedoAll, after_step, recorded, recorded_from}
use Rattle.tree_dev.specs.Remade.{CanMakeAll, disk_after}
use Rattle.tree_dev.specs.declared.change.Change.{Change}
use Rattle.tree_dev.specs.declared.log.Step.{Step}
use Rattle.tree_dev.specs.declared.log.Step.TheVariants as steps
use Rattle.tree_dev.proofs.PlacesKept.{place_kept}
use Rattle.tree_dev.proofs.TornChanges.{left_torn}
use Rattle.tree_dev.proofs.Unwritten.{HasSameKinds, left_same_kinds, same_tree}

-- ---- changes that are made one after the other

pub can_make_none : (base : FileTree) → CanMakeAll base []
unfolding CanMakeAll
can_make_none base = tt

pub can_make_more : (base : FileTree) (latest : Change) (earlier : List Change) → IsTree (made base earlier) → has_place (made base earlier) latest ≡ true → CanMakeAll base earlier
    → CanMakeAll base (latest ∷ earlier)
unfolding CanMakeAll
can_make_more base latest earlier tree place can = (tree, place, can)

later_dropped : (base : FileTree) (later earlier : List Change) → CanMakeAll base (later ++ earlier) → CanMakeAll base earlier
unfolding CanMakeAll
later_dropped base [] earlier can = can
later_dropped base (change ∷ later) earlier can = later_dropped base later earlier can.2

-- the first ones of these, which come last in reverse
front_and_rest : (cs : List Change) (n : ℕ) → reverse cs ≡ reverse (drop n cs) ++ reverse (take n cs)
front_and_rest cs n = ap reverse (sym (take-append-drop n cs)) ∙ reverse-append (take n cs) (drop n cs)

pub can_make_first : (base : FileTree) (cs : List Change) (n : ℕ) → CanMakeAll base (reverse cs) → CanMakeAll base (reverse (take n cs))
can_make_first base cs n can = later_dropped base (reverse (drop n cs)) (reverse (take n cs)) (subst (CanMakeAll base) (front_and_rest cs n) can)

-- one more of them
first_more : (cs : List Change) (i : ℕ) (d : Change) → d ≡ get_or cs i d → i < length cs → reverse (take (i + 1) cs) ≡ d ∷ reverse (take i cs)
first_more cs i d is lt =
    ap reverse (take_more cs i d lt) ∙ reverse-append (take i cs) (get_or cs i d ∷ []) ∙ ap (λ c. c ∷ reverse (take i cs)) (sym is)

pub head_of_more : (base : FileTree) (latest : Change) (earlier : List Change) → CanMakeAll base (latest ∷ earlier) → IsTree (made base earlier) × (has_place (made base earlier) latest ≡ true)
unfolding CanMakeAll
head_of_more base latest earlier can = (can.0, can.1)

module _ (base : FileTree) (cs : List Change) (torn : Option (List ℕ)) (can : CanMakeAll base (reverse cs)) (i : ℕ) (d : Change) (is : d ≡ get_or cs i d) (lt : i < length cs) where
  parts : IsTree (made base (reverse (take i cs))) × (has_place (made base (reverse (take i cs))) d ≡ true)
  parts = head_of_more base d (reverse (take i cs)) (subst (CanMakeAll base) (first_more cs i d is lt) (can_make_first base cs (i + 1) can))

  same_kinds : HasSameKinds (made base (reverse (take i cs))) (made base (torn_changes torn (reverse (take i cs))))
  same_kinds = left_same_kinds base (made base (torn_changes torn (reverse (take i cs)))) (reverse (take i cs)) (left_torn base torn (reverse (take i cs)))

  pub tree_so_far : (files : FileTree) → files ≡ made base (torn_changes torn (reverse (take i cs))) → IsTree files
  tree_so_far files same = subst IsTree (sym same) (same_tree (made base (reverse (take i cs))) (made base (torn_changes torn (reverse (take i cs)))) same_kinds parts.0)

  pub place_so_far : (files : FileTree) → files ≡ made base (torn_changes torn (reverse (take i cs))) → has_place files d ≡ true
  place_so_far files same =
      ap (λ t. has_place t d) same ∙ place_kept (made base (reverse (take i cs))) (made base (torn_changes torn (reverse (take i cs)))) same_kinds d parts.1

  pub made_more : (files : FileTree) → files ≡ made base (torn_changes torn (reverse (take i cs))) → changed files (torn_change torn d) ≡ made base (torn_changes torn (reverse (take (i + 1) cs)))
  unfolding made torn_changes
  made_more files same = ap (λ t. changed t (torn_change torn d)) same ∙ ap (λ l. made base (torn_changes torn l)) (sym (first_more cs i d is lt))

pub made_none : (base : FileTree) (torn : Option (List ℕ)) → base ≡ made base (torn_changes torn [])
unfolding made torn_changes
made_none base torn = refl

pub all_made : (base : FileTree) (cs : List Change) (torn : Option (List ℕ)) (i : ℕ) → length cs ≤ i → made base (torn_changes torn (reverse (take i cs))) ≡ made base (torn_changes torn (reverse cs))
all_made base cs torn i le = ap (λ l. made base (torn_changes torn (reverse l))) (take_all i cs le)

-- what a crash keeps
kept_rest : (cs : List Change) (applied : ℕ) → drop (length (reverse cs) - applied) (reverse cs) ≡ reverse (take (min applied (length cs)) cs)
kept_rest cs applied =
    let n = min applied (length cs) in
    let lengths : length (reverse (drop n cs)) ≡ length (reverse cs) - applied =
    length-reverse (drop n cs) ∙ length-drop n cs ∙ (let e = length-reverse cs in omega (arith, e)) in
    ap (drop (length (reverse cs) - applied)) (front_and_rest cs n) ∙ drop_at (reverse (drop n cs)) (reverse (take n cs)) (length (reverse cs) - applied) lengths

pub crashed_kept : (base : FileTree) (cs : List Change) (applied : ℕ) (torn : Option (List ℕ))
    → made base (torn_changes torn (reverse (take (min applied (length cs)) cs))) ≡ crashed (record { base = base; pending = reverse cs }) applied torn
unfolding crashed
crashed_kept base cs applied torn = ap (λ l. made base (torn_changes torn l)) (sym (kept_rest cs applied))

pub pushed : (cs : List Change) (change : Change) → reverse (cs ++ change ∷ []) ≡ change ∷ reverse cs
pushed cs change = reverse-append cs (change ∷ [])

-- ---- steps that are taken again

pub redo_none : CanRedoAll new_disks []
unfolding CanRedoAll
redo_none = tt

pub redo-snoc : (first : List Step) (disks : Disks) (last : Step) → CanRedoAll disks first → CanRedo (recorded_from disks first).now last → CanRedoAll disks (first ++ last ∷ [])
unfolding CanRedoAll recorded_from
redo-snoc [] disks last can one = (one, tt)
redo-snoc (step ∷ first) disks last can one = (can.0, redo-snoc first (after_step disks step) last can.1 one)

pub redo_front : (first rest : List Step) (disks : Disks) → CanRedoAll disks (first ++ rest) → CanRedoAll disks first
unfolding CanRedoAll
redo_front [] rest disks can = tt
redo_front (step ∷ first) rest disks can = (can.0, redo_front first rest (after_step disks step) can.1)

-- The disk now is that of some moment from which the steps from the i-th on lead to the end.
pub record IsOnWay (all : List Step) (i : ℕ) (now : Disk) : Type 0 where
  pub disks : Disks
  pub now_is : now ≡ disks.now
  pub can : CanRedoAll disks (drop i all)
  pub leads : recorded_from disks (drop i all) ≡ recorded all

pub on_way_first : (all : List Step) → CanRedoAll new_disks all → (now : Disk) → now ≡ new_disks.now → IsOnWay all 0 now
on_way_first all can now is = record { disks = new_disks; now_is = is; can = can; leads = refl }

now_after : (disks : Disks) (step : Step) → (after_step disks step).now ≡ disk_after disks.now step
now_after disks (steps.Changed change) = refl
now_after disks steps.Settled = refl
now_after disks (steps.Put at entry) = refl
now_after disks (steps.Crashed applied torn) = refl

module _ (all : List Step) (i : ℕ) (now : Disk) (on : IsOnWay all i now) (d : Step) (is : d ≡ get_or all i d) (lt : i < length all) where
  rest : drop i all ≡ d ∷ drop (i + 1) all
  rest = drop_more all i d lt ∙ ap (λ s. s ∷ drop (i + 1) all) (sym is)

  can_here : CanRedoAll on.disks (d ∷ drop (i + 1) all)
  can_here = subst (CanRedoAll on.disks) rest on.can

  leads_here : recorded_from on.disks (d ∷ drop (i + 1) all) ≡ recorded all
  leads_here = ap (recorded_from on.disks) (sym rest) ∙ on.leads

  pub can_next : CanRedo now d
  unfolding CanRedoAll
  can_next = subst (λ x. CanRedo x d) (sym on.now_is) can_here.0

  pub on_way_next : (after : Disk) → after ≡ disk_after now d → IsOnWay all (i + 1) after
  unfolding CanRedoAll recorded_from
  on_way_next after same = record {
    disks = after_step on.disks d;
    now_is = same ∙ ap (λ x. disk_after x d) on.now_is ∙ sym (now_after on.disks d);
    can = can_here.1;
    leads = leads_here;
  }

pub on_way_last : (all : List Step) (i : ℕ) (now : Disk) → IsOnWay all i now → length all ≤ i → now ≡ (recorded all).now
unfolding recorded_from
on_way_last all i now on le = on.now_is ∙ ap (λ (disks : Disks). disks.now) (sym (ap (recorded_from on.disks) (drop_all i all le)) ∙ on.leads)
