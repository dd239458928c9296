-- The journal is taken away once all parts are done.
use Rattle.std.proofs.Common.{◌≡◌, ℕ, true, List, [], ◌∷◌, ◌++◌, None, cond, codes, append_assoc, refl, sym, ap, ◌∙◌, subst, inl, inr}
use Rattle.std.specs.Prelude.{◌⊎◌}
use Rattle.std.specs.FinMap as map
use Rattle.std.proofs.lemmas.Cmp.{eq_by_cmp_equiv}
use Rattle.path_name.specs.Orders.{path_cmp_total}
use Rattle.tree_dev.specs.Trees.{FileTree, IsTree, entry_at, is_folder}
use Rattle.tree_dev.specs.Changes.{changed}
use Rattle.tree_dev.specs.Disk.{Disks, IsImage, IsOnDisk, reading}
use Rattle.tree_dev.specs.Device.{Adds, MayAdd, MaySettle, Meaning, Settles}
use Rattle.tree_dev.specs.Projects.{bytes_of, is_within, journal_path, work_path}
use Rattle.tree_dev.specs.Steady.{EachImage, IsWhole, Through}
use Rattle.tree_dev.specs.declared.change.Change.TheVariants as changes
use Rattle.tree_dev.proofs.Changed.{get-changed}
use Rattle.tree_dev.proofs.Images.{one_image_settled, reading_is_image}
use Rattle.tree_dev.proofs.Stretches.{through_ends, through_from, through_on}
use Rattle.tree_dev.proofs.Whole.{reading_on, through_then_barrier, through_then_change, whole_then_barrier}
use Rattle.install_world.specs.InFlight.{AreAllDone, Files, HasFiles, HasSurroundings, IsInFlight, IsMoving, NoJournal, old_path}
use Rattle.install_world.specs.Moving.{IsOnWay, Way}
use Rattle.install_world.specs.Recovery.{IsNewProject}
use Rattle.install_world.specs.Removals.{OnlyRemoved, Removes}
use Rattle.install_world.proofs.FlightLaws.{all_done_is_new}
use Rattle.install_world.proofs.PartCleared.{barrier_keeps_reading, removed_else}
use Rattle.install_world.proofs.PartDone.{reads_after}
use Rattle.install_world.specs.declared.journal.Journal.{Journal}
use Rattle.install_world.specs.declared.target.Target.{Target}
use Rattle.install_world.proofs.PartFinish.{way_old_folder}
use Rattle.install_world.proofs.PartPaths.{journal_is_work, work_not_part, work_not_surroundings}
use Rattle.install_world.proofs.RemovalRules.{file_removed, through_removes, within_itself}

work_is_work : (project : List (List ℕ)) → is_within (work_path project) (work_path project) ≡ true
work_is_work project = within_itself (work_path project)

-- what is only removed in `.install` leaves the project and its surroundings
pub parts_left : (project : List (List ℕ)) (files : Files) (t left : FileTree) → OnlyRemoved (work_path project) t left → HasFiles project t files → HasFiles project left files
parts_left project files t left removed has = record {
  each = λ path part. ap bytes_of (removed_else (work_path project) path t left removed (work_not_part project (work_path project) path (work_is_work project) part))
      ∙ has.each path part;
}

pub surroundings_left : (project : List (List ℕ)) (surroundings t left : FileTree) → OnlyRemoved (work_path project) t left → HasSurroundings project surroundings t
    → HasSurroundings project surroundings left
surroundings_left project surroundings t left removed has = record {
  each = λ path out. removed_else (work_path project) path t left removed (work_not_surroundings project (work_path project) path (work_is_work project) out)
      ∙ has.each path out;
}

pub no_journal_left : (project : List (List ℕ)) (t left : FileTree) → OnlyRemoved (work_path project) t left → NoJournal project t → NoJournal project left
no_journal_left project t left removed none = record {
  absent = elim (removed.each (journal_path project)) [ inl same ↦ same ∙ none.absent | inr gone ↦ gone.1 ];
}

-- without a journal, removals in `.install` keep a tree in flight
pub in_flight_left : (project : List (List ℕ)) (surroundings : FileTree) (old new : Files) (t left : FileTree) → OnlyRemoved (work_path project) t left → NoJournal project t
    → IsInFlight project surroundings old new t → IsInFlight project surroundings old new left
in_flight_left project surroundings old new t left removed none flight = record {
  outside = surroundings_left project surroundings t left removed flight.outside;
  state = inl (no_journal_left project t left removed none, by flight.state);
}
  where
    by : (NoJournal project t × (HasFiles project t old ⊎ HasFiles project t new)) ⊎ IsMoving project old new t → HasFiles project left old ⊎ HasFiles project left new
    by (inl (nothing, inl has)) = inl (parts_left project old t left removed has)
    by (inl (nothing, inr has)) = inr (parts_left project new t left removed has)
    by (inr moving) = let one = none.absent in let two = moving.stands.there in absurd cc

pub new_left : (way : Way) (t left : FileTree) → OnlyRemoved (work_path way.project) t left → IsNewProject way t → IsNewProject way left
new_left way t left removed new = record {
  no_journal = no_journal_left way.project t left removed new.no_journal;
  files = parts_left way.project way.new t left removed new.files;
  outside = surroundings_left way.project way.surroundings t left removed new.outside;
}

pub new_in_flight : (way : Way) (t : FileTree) → IsNewProject way t → IsInFlight way.project way.surroundings way.old way.new t
new_in_flight way t new = record { outside = new.outside; state = inl (new.no_journal, inr new.files) }

pub gone_here : (q : List (List ℕ)) (t : FileTree) → map.get (changed t (changes.FileRemoved q)) q ≡ None
gone_here q t = get-changed t (changes.FileRemoved q) q ∙ ap (λ same. cond same None (map.get t q)) ((eq_by_cmp_equiv path_cmp_total).refl q)

-- all parts are done, and the journal goes
pub journal_ends : (way : Way) (t : FileTree) → IsOnWay way t → IsTree t → AreAllDone way.project way.journal.targets t
    → IsNewProject way (changed t (changes.FileRemoved (journal_path way.project)))
journal_ends way t on tree done =
    let removed = file_removed (work_path way.project) (journal_path way.project) t (journal_is_work way.project) in
    record {
      no_journal = record { absent = gone_here (journal_path way.project) t };
      files = parts_left way.project way.new t (changed t (changes.FileRemoved (journal_path way.project))) removed
          (all_done_is_new way.project way.surroundings way.old way.new t way.journal on.stands (on.small on.stands.text on.stands.there) on.flight tree done);
      outside = surroundings_left way.project way.surroundings t (changed t (changes.FileRemoved (journal_path way.project))) removed on.flight.outside;
    }

module _ (way : Way) (a b : Meaning) (t : FileTree) (on_disk : IsOnDisk a.disks.now t) (settles : MaySettle a b) where
  pub still_in_flight : EachImage a (IsOnWay way) → Through a b (IsInFlight way.project way.surroundings way.old way.new)
  still_in_flight each =
      through_then_barrier (IsInFlight way.project way.surroundings way.old way.new) a a b settles
      (through_from (IsInFlight way.project way.surroundings way.old way.new) a (λ left image. (each left image).flight))

  reads : reading b.disks.now ≡ t
  reads = barrier_keeps_reading a b settles ∙ sym on_disk.reads

  pub ends_in_flight : (d : Meaning) (journal : List (List ℕ)) → MayAdd b d (changes.FileRemoved journal) → IsTree t → IsWhole a.disks.now
      → journal ≡ journal_path way.project → AreAllDone way.project way.journal.targets t → EachImage a (IsOnWay way)
      → Through a d (IsInFlight way.project way.surroundings way.old way.new)
  ends_in_flight d journal may tree whole is done each =
      through_then_change (IsInFlight way.project way.surroundings way.old way.new) a b d (changes.FileRemoved journal) may refl (whole_then_barrier a b settles whole)
      (elim (reading_on b d (changes.FileRemoved journal) may refl) [
        | inl same ↦ subst (IsInFlight way.project way.surroundings way.old way.new) (sym (same ∙ reads)) on.flight
        | inr made ↦ subst (IsInFlight way.project way.surroundings way.old way.new)
            (sym (made ∙ ap (λ (u : FileTree). changed u (changes.FileRemoved journal)) reads ∙ ap (λ at. changed t (changes.FileRemoved at)) is))
            (new_in_flight way _ (journal_ends way t on tree done))
      ])
      (still_in_flight each)
    where
      on : IsOnWay way t
      on = subst (IsOnWay way) (sym on_disk.reads) (each (reading a.disks.now) (reading_is_image a.disks.now))

  pub ends_new : (d e : Meaning) (journal : List (List ℕ)) → Adds b d (changes.FileRemoved journal) → Settles d e → IsTree t
      → journal ≡ journal_path way.project → AreAllDone way.project way.journal.targets t → IsOnWay way t → EachImage e (IsNewProject way)
  ends_new d e journal adds last tree is done on = λ left image.
      subst (IsNewProject way)
      (sym (one_image_settled d.disks left (subst (λ (disks : Disks). IsImage disks.now left) last.disks image)
      ∙ reads_after b d (changes.FileRemoved journal) adds
      ∙ ap (λ (u : FileTree). changed u (changes.FileRemoved journal)) reads ∙ ap (λ at. changed t (changes.FileRemoved at)) is))
      (journal_ends way t on tree done)

-- what passes a test passes a weaker one
pub through_weaker : (P Q : FileTree → Type 0) (a b : Meaning) → ((t : FileTree) → P t → Q t) → Through a b P → Through a b Q
through_weaker P Q a b weaker run = record { later = run.later; each = λ left since. weaker left (run.each left since); faults = run.faults }

-- moves on the way, and then what keeps it in flight
pub way_then : (way : Way) (a b e : Meaning) → Through a b (IsOnWay way) → (EachImage b (IsOnWay way) → Through b e (IsInFlight way.project way.surroundings way.old way.new))
    → Through a e (IsInFlight way.project way.surroundings way.old way.new)
way_then way a b e run more =
    through_on (IsInFlight way.project way.surroundings way.old way.new) a b e
    (through_weaker (IsOnWay way) (IsInFlight way.project way.surroundings way.old way.new) a b (λ t on. on.flight) run)
    (more (through_ends (IsOnWay way) a b run))

pub old_is : (project work at : List (List ℕ)) → work ≡ project ++ codes ".install" ∷ [] → at ≡ work ++ codes "old" ∷ [] → at ≡ old_path project
old_is project work at is_work is = is ∙ ap (λ p. p ++ codes "old" ∷ []) is_work ∙ append_assoc project (codes ".install" ∷ []) (codes "old" ∷ [])

-- no moment more
pub nothing_more : (way : Way) (m : Meaning) → EachImage m (IsOnWay way) → Through m m (IsInFlight way.project way.surroundings way.old way.new)
nothing_more way m each = through_from (IsInFlight way.project way.surroundings way.old way.new) m (λ left image. (each left image).flight)

-- the folder that keeps what is taken away is there
pub old_there : (way : Way) (t : FileTree) → IsOnWay way t → (project at : List (List ℕ)) → way.project ≡ project → at ≡ old_path project → is_folder (entry_at t at) ≡ true
old_there way t on project at same is = ap (λ p. is_folder (entry_at t p)) is ∙ ap (λ p. is_folder (entry_at t (old_path p))) (sym same) ∙ way_old_folder way t on

pub targets_of : (way : Way) (journal : Journal) → way.journal ≡ journal → (targets : List Target) → targets ≡ journal.targets → way.journal.targets ≡ targets
targets_of way journal by targets is = ap (λ (j : Journal). j.targets) by ∙ sym is

pub at_way : (way : Way) (project at : List (List ℕ)) → way.project ≡ project → at ≡ journal_path project → at ≡ journal_path way.project
at_way way project at same is = is ∙ ap journal_path (sym same)

pub all_done_of : (way : Way) (project : List (List ℕ)) (targets : List Target) (t : FileTree) (m : Meaning) → way.project ≡ project → way.journal.targets ≡ targets → IsOnDisk m.disks.now t
    → AreAllDone project targets (reading m.disks.now) → AreAllDone way.project way.journal.targets t
all_done_of way project targets t m same by disk done =
    subst (λ p. AreAllDone p way.journal.targets t) (sym same)
    (subst (λ xs. AreAllDone project xs t) (sym by) (subst (AreAllDone project targets) (sym disk.reads) done))

-- once the project is the new one, `.install` may go
pub then_work_goes : (way : Way) (work : List (List ℕ)) (b d : Meaning) → work ≡ work_path way.project → Removes work b d → EachImage b (IsNewProject way)
    → Through b d (IsNewProject way)
then_work_goes way work b d is removes each =
    through_removes (IsNewProject way) work (λ was left removed new. new_left way was left (subst (λ at. OnlyRemoved at was left) is removed) new)
    b b d removes (through_from (IsNewProject way) b each)

pub new_through : (way : Way) (b d : Meaning) → Through b d (IsNewProject way) → Through b d (IsInFlight way.project way.surroundings way.old way.new)
new_through way b d run = through_weaker (IsNewProject way) (IsInFlight way.project way.surroundings way.old way.new) b d (new_in_flight way) run
