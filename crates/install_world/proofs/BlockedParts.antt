-- What stops the parts of a job, and that the moves of one leave what stops another.
use Rattle.std.proofs.Common.{◌≡◌, ◌≢◌, ℕ, ◌<◌, ◌^◌, arith, length, true, false, List, [], ◌∷◌, ◌++◌, append_assoc, append-nil, Option, Some, None, is_some, refl, sym, ap, ◌∙◌, subst, inl, inr}
use Rattle.std.specs.FinMap as map
use Rattle.std.proofs.lemmas.Bool.{false≢true}
use Rattle.std.proofs.lemmas.List.{length-append}
use Rattle.path_name.specs.Paths.{without_last}
use Rattle.tree_dev.specs.Trees.{FileTree, IsTree, behind, entry_at, has_folder, is_folder, kind_at}
use Rattle.tree_dev.specs.Changes.{is_leaf, is_root}
use Rattle.tree_dev.specs.Projects.{is_within, work_path}
use Rattle.tree_dev.specs.declared.entry.Entry.{Entry}
use Rattle.tree_dev.specs.declared.entry.Entry.TheVariants as entries
use Rattle.tree_dev.proofs.Behind.{behind_head, head_behind}
use Rattle.tree_dev.proofs.Carried.{nothing_below}
use Rattle.install_world.specs.Blocked.{IsAbove, IsBlocked, IsFirstBlocked, IsNeeded, NeedsAlike}
use Rattle.install_world.specs.Finishing.{MakesReady, OnlyMade}
use Rattle.std.specs.List.{slice_get}
use Rattle.install_world.specs.InFlight.{IsPart, IsThere, kept_path, old_path, staged_path, target_path}
use Rattle.install_world.specs.Moving.{ArePlaces, ChangesPlaces, is_kept}
use Rattle.install_world.specs.Removals.{OnlyRemoved}
use Rattle.install_world.specs.Targets.{AreTargetsApart, IsTargetPath}
use Rattle.install_world.specs.declared.moving.PartPlaces.{PartPlaces}
use Rattle.install_world.specs.declared.target.Target.{Target}
use Rattle.install_world.proofs.FinishSteps.{made_elsewhere, work_not_above}
use Rattle.install_world.proofs.KeptParts.{kept_alike}
use Rattle.install_world.proofs.PartCleared.{removed_else}
use Rattle.install_world.proofs.PartMoves.{folder_stays}
use Rattle.install_world.proofs.PartPaths.{last_segment, kept_is_work, kept_not_old, kept_not_staged, old_is_work, staged_apart, staged_is_work, staged_not_old, target_is_part, target_not_parent, target_not_work, targets_apart, turned, work_not_parent, work_not_part}

-- ---- paths above others

-- what is at or above no path is at or above none that is above it
none_above : (x at parent : List (List ℕ)) → is_within at parent ≡ true → behind x parent ≡ None → behind x at ≡ None
none_above x at parent within none = by (behind x at) refl
  where
    rest_of : (o : Option (List (List ℕ))) → is_some o ≡ true → (rest : List (List ℕ)) × (o ≡ Some rest)
    rest_of None some = absurd (false≢true some)
    rest_of (Some rest) some = (rest, refl)

    by : (o : Option (List (List ℕ))) → behind x at ≡ o → behind x at ≡ None
    by None e = e
    by (Some rest) e =
        let more = rest_of (behind at parent) within in
        let is : parent ≡ x ++ (rest ++ more.0) = head_behind at parent more.0 more.1 ∙ ap (λ p. p ++ more.0) (head_behind x at rest e) ∙ append_assoc x rest more.0 in
        let found : behind x parent ≡ Some (rest ++ more.0) = ap (behind x) is ∙ behind_head x (rest ++ more.0) in
        absurd (let no = none in cc)

leaf_is_no_folder : (entry : Option Entry) → is_leaf entry ≡ true → is_folder entry ≡ false
leaf_is_no_folder None leaf = refl
leaf_is_no_folder (Some (entries.File bytes)) leaf = refl
leaf_is_no_folder (Some entries.Folder) leaf = absurd (false≢true leaf)
leaf_is_no_folder (Some entries.Other) leaf = refl

leaf_under : (t : FileTree) (at : List (List ℕ)) → is_leaf (entry_at t at) ≡ true → is_root at ≡ false
leaf_under t [] leaf = absurd (false≢true leaf)
leaf_under t (x ∷ xs) leaf = refl

-- nothing but folders is above a folder
pub no_leaf_above : (t : FileTree) → IsTree t → (at parent : List (List ℕ)) → is_within at parent ≡ true → is_folder (entry_at t parent) ≡ true → is_leaf (entry_at t at) ≡ true → ⊥
no_leaf_above t tree at parent within folder leaf = by (behind at parent) refl within
  where
    no_folder : is_folder (entry_at t at) ≡ false
    no_folder = leaf_is_no_folder (entry_at t at) leaf

    there : (path : List (List ℕ)) → is_root path ≡ false → entry_at t path ≡ map.get t path
    there [] under = absurd (false≢true (sym under))
    there (x ∷ xs) under = refl

    below_root : (rest : List (List ℕ)) → is_root (at ++ rest) ≡ false
    below_root rest = more at (leaf_under t at leaf)
      where
        more : (path : List (List ℕ)) → is_root path ≡ false → is_root (path ++ rest) ≡ false
        more [] under = absurd (false≢true (sym under))
        more (x ∷ xs) under = refl

    by : (o : Option (List (List ℕ))) → behind at parent ≡ o → is_some o ≡ true → ⊥
    by None e some = false≢true some
    by (Some []) e some = false≢true (sym no_folder ∙ ap (λ p. is_folder (entry_at t p)) (sym (append-nil at) ∙ sym (head_behind at parent [] e)) ∙ folder)
    by (Some (x ∷ xs)) e some =
        let is = head_behind at parent (x ∷ xs) e in
        let none = nothing_below t tree at (leaf_under t at leaf) (ap is_folder (sym (there at (leaf_under t at leaf))) ∙ no_folder) (x ∷ xs) refl in
        false≢true (sym (ap is_folder (there (at ++ x ∷ xs) (below_root (x ∷ xs)) ∙ none)) ∙ ap (λ p. is_folder (entry_at t p)) (sym is) ∙ folder)

-- a path is not above itself
pub not_above_itself : (path parent : List (List ℕ)) → without_last path ≡ Some parent → behind path parent ≡ None
not_above_itself path parent above = by (behind path parent) refl
  where
    longer : (last : List (List ℕ)) → last ≢ [] → 0 < length last
    longer [] some = absurd (some refl)
    longer (x ∷ xs) some = omega arith

    by : (o : Option (List (List ℕ))) → behind path parent ≡ o → behind path parent ≡ None
    by None e = e
    by (Some rest) e =
        let ends = last_segment path parent above in
        let one = ap length (head_behind path parent rest e) ∙ length-append path rest in
        let two = ap length ends.2 ∙ length-append parent ends.0 in
        let some = longer ends.0 ends.1 in
        absurd (omega (arith, one, two, some))

-- ---- what is needed is the same

module _ (project : List (List ℕ)) (number : ℕ) (target : Target) where
  pub needs_itself : (t : FileTree) → NeedsAlike project number target t t
  needs_itself t = record { target_same = refl; staged_same = refl; old = refl; above = λ at is. refl }

  pub needs_back : (t u : FileTree) → NeedsAlike project number target t u → NeedsAlike project number target u t
  needs_back t u alike = record {
    target_same = sym alike.target_same;
    staged_same = sym alike.staged_same;
    old = sym alike.old;
    above = λ at is. sym (alike.above at is);
  }

  pub needs_on : (t v u : FileTree) → NeedsAlike project number target t v → NeedsAlike project number target v u → NeedsAlike project number target t u
  needs_on t v u first second = record {
    target_same = second.target_same ∙ first.target_same;
    staged_same = second.staged_same ∙ first.staged_same;
    old = second.old ∙ first.old;
    above = λ at is. second.above at is ∙ first.above at is;
  }

  pub blocked_then : (t u : FileTree) → NeedsAlike project number target t u → (at : List (List ℕ)) → IsBlocked project number target t at → IsBlocked project number target u at
  blocked_then t u alike at blocked = record { needed = needed blocked.needed; leaf = leaf blocked.needed }
    where
      needed : IsNeeded project number target t at → IsNeeded project number target u at
      needed (inl kept) = inl (
        kept.0,
        kept_alike target.gone u t (target_path project target) (staged_path project number)
            (sym (folder_stays t u (target_path project target) alike.target_same)) (sym (folder_stays t u (staged_path project number) alike.staged_same)) kept.1,
      )
      needed (inr put) = inr (put.0, ap is_some alike.staged_same ∙ put.1, put.2)

      leaf : IsNeeded project number target t at → is_leaf (entry_at u at) ≡ true
      leaf (inl kept) = ap (λ p. is_leaf (entry_at u p)) kept.0 ∙ alike.old ∙ ap (λ p. is_leaf (entry_at t p)) (sym kept.0) ∙ blocked.leaf
      leaf (inr put) = alike.above at put.2 ∙ blocked.leaf

-- ---- folders that are made stop nothing

pub made_leaf : (head at : List (List ℕ)) (t v : FileTree) → OnlyMade head t v → is_leaf (entry_at v at) ≡ is_leaf (entry_at t at)
made_leaf head [] t v made = refl
made_leaf head (x ∷ xs) t v made = elim (made.each (x ∷ xs)) [
  | inl same ↦ ap is_leaf same
  | inr new ↦ ap is_leaf new.1.1 ∙ sym (ap is_leaf new.1.0)
]

-- `.install/old` is made
pub made_old_needs : (project : List (List ℕ)) (number : ℕ) (target : Target) → IsTargetPath target.path → (t v : FileTree) → OnlyMade (old_path project) t v
    → NeedsAlike project number target t v
made_old_needs project number target is t v made = record {
  target_same = made_elsewhere (old_path project) (target_path project target) t v made (target_not_work project (old_path project) target is (old_is_work project));
  staged_same = made_elsewhere (old_path project) (staged_path project number) t v made (staged_not_old project number);
  old = made_leaf (old_path project) (old_path project) t v made;
  above = λ at above. made_leaf (old_path project) at t v made;
}

-- the folders of the part itself are made
pub own_needs : (project : List (List ℕ)) (number : ℕ) (target : Target) (places : PartPlaces) → ArePlaces project number target places → (t v : FileTree) → OnlyMade (target_path project target) t v
    → map.get v (target_path project target) ≡ map.get t (target_path project target) → NeedsAlike project number target t v
own_needs project number target places are t v made same = record {
  target_same = same;
  staged_same = made_elsewhere (target_path project target) (staged_path project number) t v made (work_not_above project (staged_path project number) number target places are (staged_is_work project number));
  old = made_leaf (target_path project target) (old_path project) t v made;
  above = λ at above. made_leaf (target_path project target) at t v made;
}

-- where the folders that a part needs are there, nothing stops it
pub nothing_stops : (project : List (List ℕ)) (number : ℕ) (target : Target) (v : FileTree) → IsTree v
    → (is_kept target.gone (kind_at v (target_path project target)) (kind_at v (staged_path project number)) ≡ true → is_folder (entry_at v (old_path project)) ≡ true)
    → (target.gone ≡ false → IsThere v (staged_path project number) → has_folder v (without_last (target_path project target)) ≡ true)
    → (at : List (List ℕ)) → IsBlocked project number target v at → ⊥
nothing_stops project number target v tree old parent at blocked = by blocked.needed
  where
    by : IsNeeded project number target v at → ⊥
    by (inl kept) = false≢true (sym (leaf_is_no_folder (entry_at v at) blocked.leaf) ∙ ap (λ p. is_folder (entry_at v p)) kept.0 ∙ old kept.1)
    by (inr put) =
        let above = put.2 in
        no_leaf_above v tree at above.parent above.within (ap (has_folder v) (sym above.parent_is) ∙ parent put.0 put.1) blocked.leaf

module _ (project : List (List ℕ)) (number j : ℕ) (target other : Target) (places : PartPlaces) (are : ArePlaces project number target places) (is_other : IsTargetPath other.path)
    (small : number < 2 ^ 64) (also : j < 2 ^ 64) (differs : number ≢ j) (apart : AreTargetsApart target other) where
  other_out : (at : List (List ℕ)) → is_within (work_path project) at ≡ true → behind at (target_path project other) ≡ None
  other_out at work =
      ap (behind at) (sym (append-nil (target_path project other)))
      ∙ work_not_part project at (target_path project other ++ []) work (target_is_part project [] other is_other)

  -- the folders of another part are made
  made_needs : (t v : FileTree) → OnlyMade (target_path project target) t v → NeedsAlike project j other t v
  made_needs t v made = record {
    target_same = made_elsewhere (target_path project target) (target_path project other) t v made
        (ap (behind (target_path project other)) (sym (append-nil (target_path project target))) ∙ targets_apart project [] other target (turned target other apart));
    staged_same = made_elsewhere (target_path project target) (staged_path project j) t v made (work_not_above project (staged_path project j) number target places are (staged_is_work project j));
    old = made_leaf (target_path project target) (old_path project) t v made;
    above = λ at above. made_leaf (target_path project target) at t v made;
  }

  kept_above : (at : List (List ℕ)) → IsAbove (target_path project other) at → behind (kept_path project number) at ≡ None
  kept_above at above =
      none_above (kept_path project number) at above.parent above.within
      (work_not_parent project above.parent (kept_path project number) other is_other (kept_is_work project number) above.parent_is)

  staged_above : (at : List (List ℕ)) → IsAbove (target_path project other) at → behind (staged_path project number) at ≡ None
  staged_above at above =
      none_above (staged_path project number) at above.parent above.within
      (work_not_parent project above.parent (staged_path project number) other is_other (staged_is_work project number) above.parent_is)

  target_above : (at : List (List ℕ)) → IsAbove (target_path project other) at → behind (target_path project target) at ≡ None
  target_above at above =
      none_above (target_path project target) at above.parent above.within (target_not_parent project above.parent target other (inr apart) above.parent_is)

  -- what stood where it is kept is removed
  removed_needs : (v u : FileTree) → OnlyRemoved places.kept v u → NeedsAlike project j other v u
  removed_needs v u removed =
      let gone : OnlyRemoved (kept_path project number) v u = subst (λ at. OnlyRemoved at v u) are.kept_is removed in
      record {
        target_same = removed_else (kept_path project number) (target_path project other) v u gone (other_out (kept_path project number) (kept_is_work project number));
        staged_same = removed_else (kept_path project number) (staged_path project j) v u gone
            (ap (behind (kept_path project number)) (sym (append-nil (staged_path project j))) ∙ kept_not_staged project number j []);
        old = ap is_leaf (folder_stays v u (old_path project) (removed_else (kept_path project number) (old_path project) v u gone (kept_not_old project number)));
        above = λ at above. ap is_leaf (folder_stays v u at (removed_else (kept_path project number) at v u gone (kept_above at above)));
      }

  pub ready_needs : (t u : FileTree) → MakesReady (target_path project target) places.kept t u → NeedsAlike project j other t u
  ready_needs t u ready = needs_on project j other t ready.between u (made_needs t ready.between ready.made) (removed_needs ready.between u ready.removed)

  -- and the part is moved
  pub moved_needs : (t u : FileTree) → ChangesPlaces places t u → NeedsAlike project j other t u
  moved_needs t u moves = record {
    target_same = moves.others (target_path project other)
        (ap (λ at. behind at (target_path project other)) are.target_is ∙ ap (behind (target_path project target)) (sym (append-nil (target_path project other)))
        ∙ targets_apart project [] target other apart)
        (ap (λ at. behind at (target_path project other)) are.staged_is ∙ other_out (staged_path project number) (staged_is_work project number))
        (ap (λ at. behind at (target_path project other)) are.kept_is ∙ other_out (kept_path project number) (kept_is_work project number));
    staged_same = moves.others (staged_path project j)
        (ap (λ at. behind at (staged_path project j)) are.target_is ∙ target_not_work project (staged_path project j) target are.is_target (staged_is_work project j))
        (ap (λ at. behind at (staged_path project j)) are.staged_is ∙ ap (behind (staged_path project number)) (sym (append-nil (staged_path project j)))
        ∙ staged_apart project number j [] small also differs)
        (ap (λ at. behind at (staged_path project j)) are.kept_is ∙ ap (behind (kept_path project number)) (sym (append-nil (staged_path project j))) ∙ kept_not_staged project number j []);
    old = ap is_leaf (folder_stays t u (old_path project) (moves.others (old_path project)
        (ap (λ at. behind at (old_path project)) are.target_is ∙ target_not_work project (old_path project) target are.is_target (old_is_work project))
        (ap (λ at. behind at (old_path project)) are.staged_is ∙ staged_not_old project number)
        (ap (λ at. behind at (old_path project)) are.kept_is ∙ kept_not_old project number)));
    above = λ at above. ap is_leaf (folder_stays t u at (moves.others at
        (ap (λ p. behind p at) are.target_is ∙ target_above at above)
        (ap (λ p. behind p at) are.staged_is ∙ staged_above at above)
        (ap (λ p. behind p at) are.kept_is ∙ kept_above at above)));
  }

-- a number has one part
pub part_is : (targets : List Target) (i j : ℕ) (x y : Target) → i ≡ j → IsPart targets i x → IsPart targets j y → x ≡ y
part_is targets i j x y same first second =
    let both : Some x ≡ Some y = sym first ∙ ap (slice_get targets) same ∙ second in cc

-- the first of the parts that are stopped stays the first
pub first_blocked_before : (project : List (List ℕ)) (targets : List Target) (t u : FileTree)
    → ((number : ℕ) (target : Target) → IsPart targets number target → NeedsAlike project number target t u) → (at : List (List ℕ)) → IsFirstBlocked project targets u at
    → IsFirstBlocked project targets t at
first_blocked_before project targets t u alike at first = record {
  number = first.number;
  target = first.target;
  part = first.part;
  blocked = blocked_then project first.number first.target u t (needs_back project first.number first.target t u (alike first.number first.target first.part)) at first.blocked;
  before = λ j other less part path blocked. first.before j other less part path (blocked_then project j other t u (alike j other part) path blocked);
}
