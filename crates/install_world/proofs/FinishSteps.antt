-- What the steps of a part, and the end of a journal, keep of what finishing makes of a tree, whether it is in flight or not.
use Rattle.std.proofs.Common.{◌≡◌, ◌≢◌, ℕ, ◌+◌, ◌<◌, ◌^◌, Bool, true, false, cond, List, [], ◌∷◌, ◌++◌, length, get_or, take, drop, Option, Some, None, is_some, is_none, refl, sym, ap, ◌∙◌, subst, inl, inr, arith, append-nil, append_assoc, codes}
use Rattle.std.proofs.lemmas.List.{take-append-drop, take_more}
use Rattle.std.proofs.lemmas.Option.{slice_get_within}
use Rattle.std.specs.Prelude.{◌⊎◌, IsTrue}
use Rattle.std.specs.Ordering.{eq_by_cmp}
use Rattle.std.specs.FinMap as map
use Rattle.path_name.specs.Orders.{path_cmp}
use Rattle.path_name.specs.Paths.{without_last}
use Rattle.tree_dev.specs.Trees.{FileTree, IsTree, behind, entry_at, has_folder, kind_at, kind_of}
use Rattle.tree_dev.specs.Changes.{changed, has_place, is_leaf, is_root}
use Rattle.tree_dev.specs.Disk.{Disks, IsImage, IsOnDisk, reading}
use Rattle.tree_dev.specs.Device.{Adds, MayAdd, MaySettle, Meaning, OnlyRead, Settles}
use Rattle.tree_dev.specs.Projects.{bytes_of, file_at, is_project_part, is_within, journal_path, work_path}
use Rattle.tree_dev.specs.Steady.{EachImage}
use Rattle.tree_dev.specs.Told.{both, equal_paths}
use Rattle.tree_dev.specs.declared.change.Change.TheVariants as changes
use Rattle.tree_dev.specs.declared.entry.Entry.{Entry}
use Rattle.tree_dev.specs.declared.entry.Entry.TheVariants as entries
use Rattle.tree_dev.specs.declared.entry.Kind.{Kind}
use Rattle.tree_dev.specs.declared.entry.Kind.TheVariants as kinds
use Rattle.tree_dev.proofs.Behind.{behind_head}
use Rattle.tree_dev.proofs.Changed.{get-changed}
use Rattle.tree_dev.proofs.Images.{one_image_settled}
use Rattle.tree_dev.proofs.ProjectParts.{behind_same_head, part_is_apart, within_on}
use Rattle.tree_dev.proofs.Stretches.{through_ends, through_from}
use Rattle.tree_dev.proofs.Whole.{reading_on}
use Rattle.install_world.specs.Finishing.{FinishesAlike, IsWithout, MakesReady, OnlyMade, Stands}
use Rattle.install_world.specs.InFlight.{AreAllDone, Files, HasJournal, IsFinishedProject, IsPart, IsPartDone, IsThere, Placed, finished_by, finished_file, kept_path, old_path, part_at, staged_path, target_path}
use Rattle.install_world.specs.JournalText.{Says}
use Rattle.install_world.specs.Moving.{ArePlaces, IsOnWay, Way}
use Rattle.install_world.specs.Recovery.{IsRecovered}
use Rattle.install_world.specs.Removals.{OnlyRemoved, Removes}
use Rattle.install_world.specs.Targets.{AreTargetsApart, IsTargetPath}
use Rattle.install_world.specs.declared.journal.Journal.{Journal}
use Rattle.install_world.specs.declared.moving.PartPlaces.{PartPlaces}
use Rattle.install_world.specs.declared.target.Target.{Target}
use Rattle.install_world.proofs.FinishAlike.{putting_finishes_alike, same_file, taking_finishes_alike}
use Rattle.install_world.proofs.FlightLaws.{all_done_is_own, few, journal_entry_stays, part_target}
use Rattle.install_world.proofs.JournalEnds.{gone_here, no_journal_left, parts_left}
use Rattle.install_world.proofs.LeavesGone.{file_else}
use Rattle.install_world.proofs.PartCleared.{barrier_keeps_reading, removed_else}
use Rattle.install_world.proofs.PartDone.{reads_after, reads_same}
use Rattle.install_world.proofs.PartFinish.{done_then_removed, way_reads}
use Rattle.install_world.proofs.PartMoves.{putting_changes_part, taking_changes_part}
use Rattle.install_world.proofs.PartPaths.{journal_is_work, kept_is_work, kept_not_journal, kept_not_staged, last_segment, staged_is_work, staged_not_old, target_is_part, targets_apart, turned, two_parts_apart, work_not_part}
use Rattle.install_world.proofs.RemovalRules.{through_removes, within_itself}
use Rattle.install_world.proofs.WayMoves.{from_is_there, staged_under}

-- ---- the same of both trees

pub alike_same : (project : List (List ℕ)) (journal : Journal) (t u : FileTree) → u ≡ t → FinishesAlike project journal t u
alike_same project journal t u same = subst (FinishesAlike project journal t) (sym same) (record { stands = refl; each = λ path part. refl })

pub alike_on : (project : List (List ℕ)) (journal : Journal) (t u w : FileTree) → FinishesAlike project journal t u → FinishesAlike project journal u w → FinishesAlike project journal t w
alike_on project journal t u w first second = record {
  stands = second.stands ∙ first.stands;
  each = λ path part. second.each path part ∙ first.each path part;
}

pub stands_then : (project : List (List ℕ)) (journal : Journal) (t u : FileTree) → Stands project journal t → FinishesAlike project journal t u → Stands project journal u
stands_then project journal t u is alike = record {
  has = record { text = is.has.text; there = alike.stands ∙ is.has.there; says = is.has.says };
  small = is.small;
}

-- on the way the journal stands
pub way_stands : (way : Way) (t : FileTree) → IsOnWay way t → Stands way.project way.journal t
way_stands way t on = record { has = on.stands; small = on.small on.stands.text on.stands.there }

pub reads_then : (a b : Meaning) (t : FileTree) (failed : Bool) → IsOnDisk a.disks.now t → OnlyRead a b failed → reading b.disks.now ≡ t
reads_then a b t failed disk read = reads_same a b failed read ∙ sym disk.reads

pub alike_read : (project : List (List ℕ)) (journal : Journal) (a b : Meaning) (t : FileTree) (failed : Bool) → IsOnDisk a.disks.now t → OnlyRead a b failed
    → FinishesAlike project journal t (reading b.disks.now)
alike_read project journal a b t failed disk read = alike_same project journal t (reading b.disks.now) (reads_then a b t failed disk read)

-- calls that leave what finishing makes of a tree, after others
pub alike_then : (project : List (List ℕ)) (journal : Journal) (t u w : FileTree) (b : Meaning) → IsOnDisk b.disks.now u → FinishesAlike project journal t (reading b.disks.now)
    → Stands project journal t → (Stands project journal u → FinishesAlike project journal u w) → FinishesAlike project journal t w
alike_then project journal t u w b disk first stands more =
    let now = subst (FinishesAlike project journal t) (sym disk.reads) first in
    alike_on project journal t u w now (more (stands_then project journal t u stands now))

pub stands_after : (project : List (List ℕ)) (journal : Journal) (t u : FileTree) (b : Meaning) → IsOnDisk b.disks.now u → Stands project journal t
    → FinishesAlike project journal t (reading b.disks.now) → Stands project journal u
stands_after project journal t u b disk stands alike = stands_then project journal t u stands (subst (FinishesAlike project journal t) (sym disk.reads) alike)

module _ (project : List (List ℕ)) (journal : Journal) (t : FileTree) (stands : Stands project journal t) where
  pub stands_target : (number : ℕ) (target : Target) → IsPart journal.targets number target → IsTargetPath target.path
  stands_target number target part = part_target project t journal stands.has number target part

  pub stands_number : (number : ℕ) (target : Target) → IsPart journal.targets number target → number < 2 ^ 64
  stands_number number target part =
      let inside = slice_get_within journal.targets number target part in
      let all = few project t journal stands.has stands.small in
      omega arith

  pub stands_apart : (i j : ℕ) (first second : Target) → i ≢ j → IsPart journal.targets i first → IsPart journal.targets j second → AreTargetsApart first second
  stands_apart i j first second other one two = two_parts_apart journal.targets i j first second stands.has.says.is_journal.job.apart one two other

-- ---- the moves of a part

module _ (project : List (List ℕ)) (journal : Journal) (number : ℕ) (target : Target) (places : PartPlaces) (are : ArePlaces project number target places)
    (part : IsPart journal.targets number target) (t : FileTree) (is : Stands project journal t) where
  taken_alike : (target.gone ≡ true) ⊎ IsThere t places.staged → FinishesAlike project journal t (changed t (changes.Renamed places.target places.kept))
  taken_alike why =
      subst (λ from. FinishesAlike project journal t (changed t (changes.Renamed from places.kept))) (sym are.target_is)
      (subst (λ to. FinishesAlike project journal t (changed t (changes.Renamed (target_path project target) to))) (sym are.kept_is)
      (record {
        stands = journal_entry_stays project t (changed t (changes.Renamed (target_path project target) (kept_path project number))) number target are.is_target
            (taking_changes_part project number target are.is_target t);
        each = λ path in_project. taking_finishes_alike project t journal is.has is.small number target part (by why) path in_project;
      }))
    where
      by : (target.gone ≡ true) ⊎ IsThere t places.staged → (target.gone ≡ true) ⊎ IsThere t (staged_path project number)
      by (inl gone) = inl gone
      by (inr there) = inr (subst (IsThere t) are.staged_is there)

  put_alike : target.gone ≡ false → IsThere t places.staged → FinishesAlike project journal t (changed t (changes.Renamed places.staged places.target))
  put_alike stays there =
      subst (λ from. FinishesAlike project journal t (changed t (changes.Renamed from places.target))) (sym are.staged_is)
      (subst (λ to. FinishesAlike project journal t (changed t (changes.Renamed (staged_path project number) to))) (sym are.target_is)
      (record {
        stands = journal_entry_stays project t (changed t (changes.Renamed (staged_path project number) (target_path project target))) number target are.is_target
            (putting_changes_part project number target are.is_target t);
        each = λ path in_project. putting_finishes_alike project t journal is.has is.small number target part stays (subst (IsThere t) are.staged_is there) path in_project;
      }))

  -- what stands at the target is taken away, or not
  pub alike_taken : (b d : Meaning) → MayAdd b d (changes.Renamed places.target places.kept) → reading b.disks.now ≡ t → (target.gone ≡ true) ⊎ IsThere t places.staged
      → FinishesAlike project journal t (reading d.disks.now)
  alike_taken b d may reads why = elim (reading_on b d (changes.Renamed places.target places.kept) may refl) [
    | inl same ↦ alike_same project journal t (reading d.disks.now) (same ∙ reads)
    | inr made ↦ subst (FinishesAlike project journal t) (sym (made ∙ ap (λ (u : FileTree). changed u (changes.Renamed places.target places.kept)) reads)) (taken_alike why)
  ]

  -- what is staged is put at the target, or not
  pub alike_put : (b d : Meaning) → MayAdd b d (changes.Renamed places.staged places.target) → reading b.disks.now ≡ t → target.gone ≡ false
      → FinishesAlike project journal t (reading d.disks.now)
  alike_put b d (inl stays) reads goes = alike_same project journal t (reading d.disks.now) (ap (λ (disks : Disks). reading disks.now) stays.disks ∙ reads)
  alike_put b d (inr adds) reads goes = elim (reading_on b d (changes.Renamed places.staged places.target) (inr adds) refl) [
    | inl same ↦ alike_same project journal t (reading d.disks.now) (same ∙ reads)
    | inr made ↦ subst (FinishesAlike project journal t) (sym (made ∙ ap (λ (u : FileTree). changed u (changes.Renamed places.staged places.target)) reads))
        (put_alike goes (from_is_there t places.staged places.target (ap is_root are.staged_is ∙ staged_under project number)
        (subst (λ (u : FileTree). IsTrue (has_place u (changes.Renamed places.staged places.target))) reads adds.had_place)))
  ]

-- ---- folders that are made

pub made_itself : (at : List (List ℕ)) (t : FileTree) → OnlyMade at t t
made_itself at t = record { each = λ path. inl refl }

pub made_on : (at : List (List ℕ)) (t u w : FileTree) → OnlyMade at t u → OnlyMade at u w → OnlyMade at t w
made_on at t u w first second = record { each = λ path. by path (second.each path) (first.each path) }
  where
    by : (path : List (List ℕ)) → (map.get w path ≡ map.get u path) ⊎ ((is_within path at ≡ true) × ((map.get u path ≡ None) × (map.get w path ≡ Some entries.Folder)))
        → (map.get u path ≡ map.get t path) ⊎ ((is_within path at ≡ true) × ((map.get t path ≡ None) × (map.get u path ≡ Some entries.Folder)))
        → (map.get w path ≡ map.get t path) ⊎ ((is_within path at ≡ true) × ((map.get t path ≡ None) × (map.get w path ≡ Some entries.Folder)))
    by path (inl same) (inl earlier) = inl (same ∙ earlier)
    by path (inl same) (inr new) = inr (new.0, (new.1.0, same ∙ new.1.1))
    by path (inr new) (inl earlier) = inr (new.0, (sym earlier ∙ new.1.0, new.1.1))
    by path (inr new) (inr earlier) = let none = new.1.0 in let folder = earlier.1.1 in absurd cc

pub made_wider : (at inner : List (List ℕ)) (t u : FileTree) → is_within inner at ≡ true → OnlyMade inner t u → OnlyMade at t u
made_wider at inner t u within made = record {
  each = λ path. elim (made.each path) [
    | inl same ↦ inl same
    | inr new ↦ inr (within_on path inner at new.0 within, new.1)
  ];
}

pub made_same : (at : List (List ℕ)) (t u : FileTree) → u ≡ t → OnlyMade at t u
made_same at t u same = subst (OnlyMade at t) (sym same) (made_itself at t)

pub made_read : (at : List (List ℕ)) (b d : Meaning) (failed : Bool) → OnlyRead b d failed → OnlyMade at (reading b.disks.now) (reading d.disks.now)
made_read at b d failed read = made_same at (reading b.disks.now) (reading d.disks.now) (reads_same b d failed read)

pub made_then_read : (at : List (List ℕ)) (t : FileTree) (b d : Meaning) (failed : Bool) → OnlyRead b d failed → OnlyMade at t (reading b.disks.now) → OnlyMade at t (reading d.disks.now)
made_then_read at t b d failed read made = made_on at t (reading b.disks.now) (reading d.disks.now) made (made_read at b d failed read)

folder_made : (at : List (List ℕ)) (t : FileTree) → map.get t at ≡ None → OnlyMade at t (changed t (changes.FolderMade at))
folder_made at t none = record {
  each = λ path. subst (λ entry. (entry ≡ map.get t path) ⊎ ((is_within path at ≡ true) × ((map.get t path ≡ None) × (entry ≡ Some entries.Folder))))
      (sym (get-changed t (changes.FolderMade at) path)) (by path (eq_by_cmp path_cmp path at) refl);
}
  where
    by : (path : List (List ℕ)) (same : Bool) → eq_by_cmp path_cmp path at ≡ same
        → (cond same (Some entries.Folder) (map.get t path) ≡ map.get t path)
        ⊎ ((is_within path at ≡ true) × ((map.get t path ≡ None) × (cond same (Some entries.Folder) (map.get t path) ≡ Some entries.Folder)))
    by path true e =
        let is = equal_paths path at e in
        inr (subst (λ p. is_within p at ≡ true) (sym is) (within_itself at), (ap (map.get t) is ∙ none, refl))
    by path false e = inl refl

free_is_none : (t : FileTree) (at : List (List ℕ)) → IsTrue (has_place t (changes.FolderMade at)) → map.get t at ≡ None
unfolding has_place
free_is_none t [] place = let free = (both (has_folder t (without_last [])) (is_none (entry_at t [])) place).1 in absurd cc
free_is_none t (x ∷ xs) place = by (map.get t (x ∷ xs)) refl
  where
    by : (entry : Option Entry) → map.get t (x ∷ xs) ≡ entry → map.get t (x ∷ xs) ≡ None
    by None e = e
    by (Some entry) e =
        let free = (both (has_folder t (without_last (x ∷ xs))) (is_none (entry_at t (x ∷ xs))) place).1 in
        let some = ap is_none e in absurd cc

pub makes_folder : (b d : Meaning) (at : List (List ℕ)) → MayAdd b d (changes.FolderMade at) → OnlyMade at (reading b.disks.now) (reading d.disks.now)
makes_folder b d at (inl stays) = made_same at (reading b.disks.now) (reading d.disks.now) (ap (λ (disks : Disks). reading disks.now) stays.disks)
makes_folder b d at (inr adds) = elim (reading_on b d (changes.FolderMade at) (inr adds) refl) [
  | inl same ↦ made_same at (reading b.disks.now) (reading d.disks.now) same
  | inr made ↦ subst (OnlyMade at (reading b.disks.now)) (sym made) (folder_made at (reading b.disks.now) (free_is_none (reading b.disks.now) at adds.had_place))
]

-- ---- what is made ready

module _ (project : List (List ℕ)) (journal : Journal) (t u : FileTree) (stands : map.get u (journal_path project) ≡ map.get t (journal_path project))
    (outside : (path : List (List ℕ)) → is_project_part project path ≡ true → file_at u path ≡ file_at t path)
    (there : (number : ℕ) → is_some (map.get u (staged_path project number)) ≡ is_some (map.get t (staged_path project number)))
    (staged : (number : ℕ) (below : List (List ℕ)) → file_at u (staged_path project number ++ below) ≡ file_at t (staged_path project number ++ below)) where
  agreeing_each : (path : List (List ℕ)) → is_project_part project path ≡ true → finished_by project journal.targets u path ≡ finished_by project journal.targets t path
  unfolding finished_by
  agreeing_each path in_project = by (part_at project journal.targets path)
    where
      by : (found : Option Placed) → finished_file project u path found ≡ finished_file project t path found
      by None = outside path in_project
      by (Some part) =
          same_file part.gone (is_some (map.get t (staged_path project part.number))) (is_some (map.get u (staged_path project part.number)))
          (file_at u (staged_path project part.number ++ part.below)) (file_at t (staged_path project part.number ++ part.below)) (file_at u path) (file_at t path)
          (there part.number) (staged part.number part.below) (outside path in_project)

  pub agreeing_alike : FinishesAlike project journal t u
  agreeing_alike = record { stands = stands; each = agreeing_each }

itself_not : (at path : List (List ℕ)) → behind at (path ++ []) ≡ None → behind at path ≡ None
itself_not at path none = ap (behind at) (sym (append-nil path)) ∙ none

pub made_elsewhere : (at path : List (List ℕ)) (t u : FileTree) → OnlyMade at t u → behind path at ≡ None → map.get u path ≡ map.get t path
made_elsewhere at path t u made none = elim (made.each path) [
  | inl same ↦ same
  | inr new ↦ let some = new.0 in let no : is_within path at ≡ false = ap is_some none in absurd cc
]

pub made_files : (at path : List (List ℕ)) (t u : FileTree) → OnlyMade at t u → file_at u path ≡ file_at t path
made_files at path t u made = elim (made.each path) [
  | inl same ↦ ap bytes_of same
  | inr new ↦ ap bytes_of new.1.1 ∙ sym (ap bytes_of new.1.0)
]

pub made_alike : (project at : List (List ℕ)) (journal : Journal) (t u : FileTree) → ((number : ℕ) → behind (staged_path project number) at ≡ None)
    → behind (journal_path project) at ≡ None → OnlyMade at t u → FinishesAlike project journal t u
made_alike project at journal t u no_staged no_journal made =
    agreeing_alike project journal t u (made_elsewhere at (journal_path project) t u made no_journal) (λ path part. made_files at path t u made)
    (λ number. ap is_some (made_elsewhere at (staged_path project number) t u made (no_staged number)))
    (λ number below. made_files at (staged_path project number ++ below) t u made)

pub removed_alike : (project : List (List ℕ)) (journal : Journal) (number : ℕ) (t u : FileTree) → OnlyRemoved (kept_path project number) t u → FinishesAlike project journal t u
removed_alike project journal number t u removed =
    agreeing_alike project journal t u (removed_else (kept_path project number) (journal_path project) t u removed (kept_not_journal project number))
    (λ path part. ap bytes_of (removed_else (kept_path project number) path t u removed (work_not_part project (kept_path project number) path (kept_is_work project number) part)))
    (λ other. ap is_some (removed_else (kept_path project number) (staged_path project other) t u removed
    (itself_not (kept_path project number) (staged_path project other) (kept_not_staged project number other []))))
    (λ other below. ap bytes_of (removed_else (kept_path project number) (staged_path project other ++ below) t u removed (kept_not_staged project number other below)))

-- a target is at or below no path in `.install`
pub work_not_above : (project at : List (List ℕ)) (number : ℕ) (target : Target) (places : PartPlaces) → ArePlaces project number target places → is_within (work_path project) at ≡ true
    → behind at (target_path project target) ≡ None
work_not_above project at number target places are work =
    itself_not at (target_path project target) (work_not_part project at (target_path project target ++ []) work (target_is_part project [] target are.is_target))

module _ (project : List (List ℕ)) (number : ℕ) (target : Target) (places : PartPlaces) (are : ArePlaces project number target places) (t u : FileTree)
    (ready : MakesReady (target_path project target) places.kept t u) where
  pub ready_alike : (journal : Journal) → FinishesAlike project journal t u
  ready_alike journal =
      alike_on project journal t ready.between u
      (made_alike project (target_path project target) journal t ready.between (λ other. work_not_above project (staged_path project other) number target places are (staged_is_work project other))
      (work_not_above project (journal_path project) number target places are (journal_is_work project)) ready.made)
      (removed_alike project journal number ready.between u (subst (λ at. OnlyRemoved at ready.between u) are.kept_is ready.removed))

  made_done : (gone : Bool) (j : ℕ) (other : Target) → AreTargetsApart target other → IsPartDone gone project j other t → IsPartDone gone project j other ready.between
  made_done true j other apart done =
      made_elsewhere (target_path project target) (target_path project other) t ready.between ready.made
      (itself_not (target_path project other) (target_path project target) (targets_apart project [] other target (turned target other apart))) ∙ done
  made_done false j other apart done =
      made_elsewhere (target_path project target) (staged_path project j) t ready.between ready.made
      (work_not_above project (staged_path project j) number target places are (staged_is_work project j)) ∙ done

  -- parts that are done stay so
  pub ready_done : (gone : Bool) (j : ℕ) (other : Target) → AreTargetsApart target other → IsPartDone gone project j other t → IsPartDone gone project j other u
  ready_done gone j other apart done = done_then_removed project places.kept gone j other ready.between u ready.removed (made_done gone j other apart done)

pub alike_ready : (project : List (List ℕ)) (number : ℕ) (target : Target) (places : PartPlaces) → ArePlaces project number target places → (journal : Journal) (t w : FileTree) (a : Meaning)
    → IsOnDisk a.disks.now t → MakesReady (target_path project target) places.kept (reading a.disks.now) w → FinishesAlike project journal t w
alike_ready project number target places are journal t w a disk ready =
    subst (λ was. FinishesAlike project journal was w) (sym disk.reads) (ready_alike project number target places are (reading a.disks.now) w ready journal)

pub stands_here : (way : Way) (project : List (List ℕ)) (b : Meaning) (t : FileTree) → way.project ≡ project → IsOnDisk b.disks.now t → EachImage b (IsOnWay way) → Stands project way.journal t
stands_here way project b t same disk each = subst (λ p. Stands p way.journal t) same (way_stands way t (way_reads way b t disk each))

-- the folder that keeps what is taken away is made
pub alike_old : (project at : List (List ℕ)) (journal : Journal) (t : FileTree) (a b : Meaning) → IsOnDisk a.disks.now t → at ≡ old_path project
    → OnlyMade at (reading a.disks.now) (reading b.disks.now) → FinishesAlike project journal t (reading b.disks.now)
alike_old project at journal t a b disk is made =
    made_alike project (old_path project) journal t (reading b.disks.now) (λ number. staged_not_old project number)
    (behind_same_head project (codes ".install" ∷ codes "journal" ∷ []) (codes ".install" ∷ codes "old" ∷ []))
    (subst (λ p. OnlyMade p t (reading b.disks.now)) is (subst (λ was. OnlyMade at was (reading b.disks.now)) (sym disk.reads) made))

pub all_done_told : (project : List (List ℕ)) (targets own : List Target) (t : FileTree) (m : Meaning) → targets ≡ own → IsOnDisk m.disks.now t
    → AreAllDone project targets (reading m.disks.now) → AreAllDone project own t
all_done_told project targets own t m same disk done = subst (λ xs. AreAllDone project xs t) same (subst (AreAllDone project targets) (sym disk.reads) done)

pub stands_by : (project : List (List ℕ)) (journal : Journal) (t : FileTree) (text : List ℕ) → map.get t (journal_path project) ≡ Some (entries.File text) → length text < 2 ^ 64 → Says text journal
    → Stands project journal t
stands_by project journal t text there small says = record { has = record { text = text; there = there; says = says }; small = small }

-- ---- the folders on a way

pub first_within : (project names path : List (List ℕ)) (count : ℕ) → names ≡ path → is_within (project ++ take count names) (project ++ path) ≡ true
first_within project names path count same =
    ap is_some (behind_same_head project (take count names) path
    ∙ ap (behind (take count names)) (sym same ∙ sym (take-append-drop count names)) ∙ behind_head (take count names) (drop count names))

pub next_first : (project names : List (List ℕ)) (i : ℕ) (name : List ℕ) (at now : List (List ℕ)) → i < length names → name ≡ get_or names i name → at ≡ project ++ take i names
    → now ≡ at ++ name ∷ [] → now ≡ project ++ take (i + 1) names
next_first project names i name at now less is before after =
    after ∙ ap (λ p. p ++ name ∷ []) before ∙ append_assoc project (take i names) (name ∷ [])
    ∙ ap (λ (ns : List (List ℕ)). project ++ ns) (sym (take_more names i name less ∙ ap (λ (n : List ℕ). take i names ++ n ∷ []) (sym is)))

pub parent_within : (project target above : List (List ℕ)) → without_last target ≡ Some above → is_within (project ++ above) (project ++ target) ≡ true
parent_within project target above is =
    let ends = last_segment target above is in
    ap is_some (behind_same_head project above target ∙ ap (behind above) ends.2 ∙ behind_head above ends.0)

-- what is neither absent nor a folder is a leaf
pub leaf_shown : (t : FileTree) (at : List (List ℕ)) (kind : Kind) → kind ≡ kind_at t at → (kind ≡ kinds.Folder → ⊥) → (kind ≡ kinds.Absent → ⊥) → is_leaf (entry_at t at) ≡ true
unfolding kind_at
leaf_shown t at kind is no_folder some = by (entry_at t at) refl
  where
    by : (entry : Option Entry) → entry_at t at ≡ entry → is_leaf (entry_at t at) ≡ true
    by None e = absurd (some (is ∙ ap kind_of e))
    by (Some (entries.File bytes)) e = ap is_leaf e
    by (Some entries.Folder) e = absurd (no_folder (is ∙ ap kind_of e))
    by (Some entries.Other) e = ap is_leaf e

-- ---- the end of the journal

pub images_without : (a b d e : Meaning) (t : FileTree) (journal : List (List ℕ)) → IsOnDisk a.disks.now t → MaySettle a b → Adds b d (changes.FileRemoved journal) → Settles d e
    → EachImage e (IsWithout journal t)
images_without a b d e t journal disk settles adds last = λ left image.
    subst (IsWithout journal t)
    (sym (one_image_settled d.disks left (subst (λ (disks : Disks). IsImage disks.now left) last.disks image)
    ∙ reads_after b d (changes.FileRemoved journal) adds
    ∙ ap (λ (u : FileTree). changed u (changes.FileRemoved journal)) (barrier_keeps_reading a b settles ∙ sym disk.reads)))
    (record { gone = gone_here journal t; others = λ path differs. file_else t journal path differs })

not_journal : (project path at : List (List ℕ)) → at ≡ journal_path project → is_project_part project path ≡ true → path ≡ at → ⊥
not_journal project path at is part same =
    let out = part_is_apart project path part in
    let work = ap (is_within (work_path project)) (same ∙ is) ∙ journal_is_work project in
    cc

-- all parts are done, and the journal is gone
pub finished_without : (project at : List (List ℕ)) (journal : Journal) (t u left : FileTree) → at ≡ journal_path project → Stands project journal u → FinishesAlike project journal t u → IsTree u
    → AreAllDone project journal.targets u → IsWithout at u left → IsRecovered project (finished_by project journal.targets t) left
finished_without project at journal t u left is stands alike tree done without = record {
  no_journal = record { absent = subst (λ path. map.get left path ≡ None) is without.gone };
  has_files = record {
    each = λ path part. ap bytes_of (without.others path (not_journal project path at is part))
        ∙ sym (all_done_is_own project u journal stands.has tree done path) ∙ alike.each path part;
  };
}

-- once the project is finished, `.install` may go
pub recovered_goes : (project work : List (List ℕ)) (files : Files) (b d : Meaning) → work ≡ work_path project → Removes work b d → EachImage b (IsRecovered project files)
    → EachImage d (IsRecovered project files)
recovered_goes project work files b d is removes each =
    through_ends (IsRecovered project files) b d
    (through_removes (IsRecovered project files) work (λ was left removed has. left_recovered was left (subst (λ at. OnlyRemoved at was left) is removed) has)
    b b d removes (through_from (IsRecovered project files) b each))
  where
    left_recovered : (was left : FileTree) → OnlyRemoved (work_path project) was left → IsRecovered project files was → IsRecovered project files left
    left_recovered was left removed has = record {
      no_journal = no_journal_left project was left removed has.no_journal;
      has_files = parts_left project files was left removed has.has_files;
    }

pub finished_project : (project : List (List ℕ)) (journal : Journal) (files : Files) (t left : FileTree) → HasJournal project t journal → IsFinishedProject project t files
    → IsRecovered project (finished_by project journal.targets t) left → IsRecovered project files left
finished_project project journal files t left stands finished has = record {
  no_journal = has.no_journal;
  has_files = record { each = λ path part. has.has_files.each path part ∙ sym (finished.finished journal stands path part) };
}
