-- The journal is placed in a tree in which its job is staged whole.
use Rattle.std.proofs.Common.{◌≡◌, ℕ, ◌<◌, ◌^◌, Bool, true, false, List, [], ◌∷◌, ◌++◌, length, codes, Option, Some, None, is_some, cond, refl, sym, ap, ◌∙◌, subst, inl, inr, append_assoc, append-nil}
use Rattle.std.specs.FinMap as map
use Rattle.std.specs.Ordering.{eq_by_cmp}
use Rattle.std.proofs.lemmas.Cmp.{eq_by_cmp_equiv}
use Rattle.path_name.specs.Decimals.{decimal_text}
use Rattle.path_name.specs.Orders.{path_cmp, path_cmp_total}
use Rattle.path_name.specs.Paths.{without_last}
use Rattle.tree_dev.specs.Trees.{FileTree, behind, entry_at, has_folder, is_folder}
use Rattle.tree_dev.specs.Changes.{changed}
use Rattle.tree_dev.specs.Disk.{Disks, IsImage, reading}
use Rattle.tree_dev.specs.Device.{Adds, MayAdd, Meaning, Settles}
use Rattle.tree_dev.specs.Projects.{bytes_of, is_project_part, is_surroundings, is_within, journal_path, work_path}
use Rattle.tree_dev.specs.Steady.{EachImage, IsStaged, IsSteadily, IsWhole, Steady, Through}
use Rattle.tree_dev.specs.Told.{equal_paths}
use Rattle.tree_dev.specs.declared.change.Change.TheVariants as changes
use Rattle.tree_dev.specs.declared.entry.Entry.TheVariants.{File}
use Rattle.tree_dev.proofs.Changed.{get-changed}
use Rattle.tree_dev.proofs.Images.{one_image_settled, reading_is_image}
use Rattle.tree_dev.proofs.ProjectParts.{behind_same_head}
use Rattle.tree_dev.proofs.Stretches.{through_from}
use Rattle.tree_dev.proofs.Whole.{reading_on, settled_is_whole, through_then_change}
use Rattle.install_world.specs.InFlight.{Files, HasFiles, HasJournal, HasStagedParts, HasSurroundings, IsInFlight, IsPart, IsStagedSource, draft_path, old_path, staged_path, target_path}
use Rattle.install_world.specs.Moving.{IsOnWay, Way}
use Rattle.install_world.specs.Targets.{IsTargetPath}
use Rattle.install_world.specs.declared.target.Target.{Target}
use Rattle.install_world.specs.declared.version.Version.TheVariants.{Two}
use Rattle.install_world.proofs.FlightLaws.{part_target, staged_in_flight}
use Rattle.install_world.proofs.PartDone.{reads_after}
use Rattle.install_world.proofs.PartMoves.{renamed_elsewhere, renamed_here}
use Rattle.install_world.proofs.PartPaths.{behind_itself, in_work, journal_is_work, work_not_parent, work_not_part, work_not_surroundings}
use Rattle.vendor_journal.specs.Committing.{ChangesJournal, IsReady}
use Rattle.vendor_journal.specs.declared.prepared.Prepared.{Prepared}

-- ---- places

draft_is_work : (project : List (List ℕ)) → is_within (work_path project) (draft_path project) ≡ true
draft_is_work project = in_work project (codes "journal.tmp" ∷ [])

pub draft_not_journal : (project : List (List ℕ)) → behind (draft_path project) (journal_path project) ≡ None
draft_not_journal project = behind_same_head project (codes ".install" ∷ codes "journal.tmp" ∷ []) (codes ".install" ∷ codes "journal" ∷ [])

pub draft_staged : (project : List (List ℕ)) → IsStaged project (draft_path project)
draft_staged project = record { within = draft_is_work project; no_journal = λ same. other (behind (draft_path project) (journal_path project)) refl same }
  where
    other : (found : Option (List (List ℕ))) → behind (draft_path project) (journal_path project) ≡ found → draft_path project ≡ journal_path project → ⊥
    other found is same =
        let itself : behind (draft_path project) (journal_path project) ≡ Some [] = ap (λ at. behind at (journal_path project)) same ∙ behind_itself (journal_path project) in
        let none = draft_not_journal project in
        absurd cc

journal_not_staged : (project : List (List ℕ)) (number : ℕ) (below : List (List ℕ)) → behind (journal_path project) (staged_path project number ++ below) ≡ None
journal_not_staged project number below =
    ap (behind (journal_path project)) (append_assoc project (codes ".install" ∷ codes "new" ∷ decimal_text number ∷ []) below)
    ∙ behind_same_head project (codes ".install" ∷ codes "journal" ∷ []) (codes ".install" ∷ codes "new" ∷ decimal_text number ∷ below)

draft_not_staged : (project : List (List ℕ)) (number : ℕ) (below : List (List ℕ)) → behind (draft_path project) (staged_path project number ++ below) ≡ None
draft_not_staged project number below =
    ap (behind (draft_path project)) (append_assoc project (codes ".install" ∷ codes "new" ∷ decimal_text number ∷ []) below)
    ∙ behind_same_head project (codes ".install" ∷ codes "journal.tmp" ∷ []) (codes ".install" ∷ codes "new" ∷ decimal_text number ∷ below)

journal_not_old : (project below : List (List ℕ)) → behind (journal_path project) (old_path project ++ below) ≡ None
journal_not_old project below =
    ap (behind (journal_path project)) (append_assoc project (codes ".install" ∷ codes "old" ∷ []) below)
    ∙ behind_same_head project (codes ".install" ∷ codes "journal" ∷ []) (codes ".install" ∷ codes "old" ∷ below)

draft_not_old : (project below : List (List ℕ)) → behind (draft_path project) (old_path project ++ below) ≡ None
draft_not_old project below =
    ap (behind (draft_path project)) (append_assoc project (codes ".install" ∷ codes "old" ∷ []) below)
    ∙ behind_same_head project (codes ".install" ∷ codes "journal.tmp" ∷ []) (codes ".install" ∷ codes "old" ∷ below)

-- ---- what stays

pub same_entry : (t now : FileTree) (path : List (List ℕ)) → map.get now path ≡ map.get t path → entry_at now path ≡ entry_at t path
same_entry t now [] e = refl
same_entry t now (x ∷ xs) e = e

module _ (project : List (List ℕ)) (t now : FileTree) (change : ChangesJournal project t now) where
  parts_stay : (path : List (List ℕ)) → is_project_part project path ≡ true → map.get now path ≡ map.get t path
  parts_stay path part = change.others path
      (work_not_part project (journal_path project) path (journal_is_work project) part)
      (work_not_part project (draft_path project) path (draft_is_work project) part)

  surroundings_stay : (path : List (List ℕ)) → is_surroundings project path ≡ true → map.get now path ≡ map.get t path
  surroundings_stay path out = change.others path
      (work_not_surroundings project (journal_path project) path (journal_is_work project) out)
      (work_not_surroundings project (draft_path project) path (draft_is_work project) out)

  staged_stays : (number : ℕ) (below : List (List ℕ)) → map.get now (staged_path project number ++ below) ≡ map.get t (staged_path project number ++ below)
  staged_stays number below = change.others (staged_path project number ++ below) (journal_not_staged project number below) (draft_not_staged project number below)

  staged_there : (number : ℕ) → map.get now (staged_path project number) ≡ map.get t (staged_path project number)
  staged_there number =
      ap (map.get now) (sym (append-nil (staged_path project number))) ∙ staged_stays number [] ∙ ap (map.get t) (append-nil (staged_path project number))

  pub old_stays : (below : List (List ℕ)) → map.get now (old_path project ++ below) ≡ map.get t (old_path project ++ below)
  old_stays below = change.others (old_path project ++ below) (journal_not_old project below) (draft_not_old project below)

  old_there : map.get now (old_path project) ≡ map.get t (old_path project)
  old_there = ap (map.get now) (sym (append-nil (old_path project))) ∙ old_stays [] ∙ ap (map.get t) (append-nil (old_path project))

  pub files_left : (files : Files) → HasFiles project t files → HasFiles project now files
  files_left files has = record { each = λ path part. ap bytes_of (parts_stay path part) ∙ has.each path part }

  pub surroundings_left : (surroundings : FileTree) → HasSurroundings project surroundings t → HasSurroundings project surroundings now
  surroundings_left surroundings has = record { each = λ path out. surroundings_stay path out ∙ has.each path out }

  source_left : (gone : Bool) (puts : ℕ → Files) (number : ℕ) → IsStagedSource gone project puts number t → IsStagedSource gone project puts number now
  source_left true puts number none = staged_there number ∙ none
  source_left false puts number some = (ap is_some (staged_there number) ∙ some.0, λ below. ap bytes_of (staged_stays number below) ∙ some.1 below)

  parent_left : (target : Target) → IsTargetPath target.path → has_folder t (without_last (target_path project target)) ≡ true
      → has_folder now (without_last (target_path project target)) ≡ true
  parent_left target is has = by (without_last (target_path project target)) refl has
    where
      by : (parent : Option (List (List ℕ))) → without_last (target_path project target) ≡ parent → has_folder t parent ≡ true → has_folder now (without_last (target_path project target)) ≡ true
      by None e there = absurd cc
      by (Some parent) e there =
          ap (has_folder now) e
          ∙ ap is_folder (same_entry t now parent (change.others parent
          (work_not_parent project parent (journal_path project) target is (journal_is_work project) e)
          (work_not_parent project parent (draft_path project) target is (draft_is_work project) e)))
          ∙ there

  pub job_left : (targets : List Target) (puts : ℕ → Files) → ((number : ℕ) (target : Target) → IsPart targets number target → IsTargetPath target.path)
      → HasStagedParts project targets puts t → HasStagedParts project targets puts now
  job_left targets puts are job = record {
    staged = λ number target part. source_left target.gone puts number (job.staged number target part);
    old_folder = ap is_folder (same_entry t now (old_path project) old_there) ∙ job.old_folder;
    old_empty = λ name. old_stays (name ∷ []) ∙ job.old_empty name;
    parents = λ number target part. parent_left target (are number target part) (job.parents number target part);
  }

-- ---- the journal stands

abbrev pub drafted : FileTree → List (List ℕ) → List ℕ → FileTree
drafted t project text = changed t (changes.Written (draft_path project) text)

abbrev pub placed : FileTree → List (List ℕ) → List ℕ → FileTree
placed t project text = changed (drafted t project text) (changes.Renamed (draft_path project) (journal_path project))

pub written_elsewhere : (t : FileTree) (at path : List (List ℕ)) (text : List ℕ) → behind at path ≡ None → map.get (changed t (changes.Written at text)) path ≡ map.get t path
written_elsewhere t at path text none = get-changed t (changes.Written at text) path ∙ by (eq_by_cmp path_cmp path at) refl
  where
    by : (same : Bool) → eq_by_cmp path_cmp path at ≡ same → cond same (Some (File text)) (map.get t path) ≡ map.get t path
    by true e =
        let found : behind at path ≡ Some [] = ap (behind at) (equal_paths path at e) ∙ behind_itself at in
        absurd cc
    by false e = refl

pub written_here : (t : FileTree) (at : List (List ℕ)) (text : List ℕ) → map.get (changed t (changes.Written at text)) at ≡ Some (File text)
written_here t at text = get-changed t (changes.Written at text) at ∙ ap (λ same. cond same (Some (File text)) (map.get t at)) ((eq_by_cmp_equiv path_cmp_total).refl at)

module _ (project : List (List ℕ)) (t : FileTree) (text : List ℕ) where
  pub placed_changes : ChangesJournal project t (placed t project text)
  placed_changes = record {
    others = λ path at draft.
        renamed_elsewhere (drafted t project text) (draft_path project) (journal_path project) path at draft ∙ written_elsewhere t (draft_path project) path text draft;
  }

  placed_there : map.get (placed t project text) (journal_path project) ≡ Some (File text)
  placed_there =
      ap (map.get (placed t project text)) (sym (append-nil (journal_path project)))
      ∙ renamed_here (drafted t project text) (draft_path project) (journal_path project) []
      ∙ ap (map.get (drafted t project text)) (append-nil (draft_path project))
      ∙ written_here t (draft_path project) text

module _ (way : Way) (puts : ℕ → Files) (prepared : Prepared) (t : FileTree) (ready : IsReady way puts prepared t) where
  pub placed_on_way : IsOnWay way (placed t way.project prepared.text)
  placed_on_way = record { flight = flight; stands = stands; small = small }
    where
      now : FileTree
      now = placed t way.project prepared.text

      change : ChangesJournal way.project t (placed t way.project prepared.text)
      change = placed_changes way.project t prepared.text

      stands : HasJournal way.project (placed t way.project prepared.text) way.journal
      stands = record {
        text = prepared.text;
        there = placed_there way.project t prepared.text;
        says = record { version = Two; is_journal = ready.made_ready.is_journal; printed = ready.made_ready.text_is };
      }

      flight : IsInFlight way.project way.surroundings way.old way.new (placed t way.project prepared.text)
      flight =
          subst (λ (files : Files). IsInFlight way.project way.surroundings way.old files (placed t way.project prepared.text)) (sym ready.new_files)
          (staged_in_flight way.project way.surroundings way.old puts (placed t way.project prepared.text) way.journal stands
          (job_left way.project t (placed t way.project prepared.text) change way.journal.targets puts
          (part_target way.project (placed t way.project prepared.text) way.journal stands) ready.job.parts)
          (files_left way.project t (placed t way.project prepared.text) change way.old ready.old_files)
          (surroundings_left way.project t (placed t way.project prepared.text) change way.surroundings ready.outside))

      small : (text : List ℕ) → map.get (placed t way.project prepared.text) (journal_path way.project) ≡ Some (File text) → length text < 2 ^ 64
      small text there =
          let here = placed_there way.project t prepared.text in
          let same : prepared.text ≡ text = cc in
          subst (λ (bytes : List ℕ). length bytes < 2 ^ 64) same ready.made_ready.small

  -- ---- before it stands

  ready_in_flight : (left : FileTree) → IsSteadily way.project t left → IsInFlight way.project way.surroundings way.old way.new left
  ready_in_flight left steadily = record {
    outside = record { each = λ path out. steadily.surroundings path out ∙ ready.outside.each path out };
    state = inl (record { absent = steadily.no_journal }, inl (record { each = λ path part. steadily.project_files path part ∙ ready.old_files.each path part }));
  }

  steadily_itself : IsSteadily way.project t t
  steadily_itself = record {
    project_files = λ path part. refl;
    surroundings = λ path out. refl;
    no_journal = ready.job.no_journal.absent;
  }

  pub steady_in_flight : (a b : Meaning) → EachImage a (λ left. left ≡ t) → Steady way.project a b → Through a b (IsInFlight way.project way.surroundings way.old way.new)
  steady_in_flight a b each steady = record {
    later = steady.later;
    each = λ left since. ready_in_flight left (steady.each t (λ image is. subst (IsSteadily way.project t) (sym (each image is)) steadily_itself) left since);
    faults = steady.faults;
  }

-- after a barrier the tree as it reads is the only one that a crash leaves, and no write is pending
pub settled_alone : (b d : Meaning) → Settles b d → EachImage d (λ left. left ≡ reading b.disks.now)
settled_alone b d settles = λ left image. one_image_settled b.disks left (subst (λ (disks : Disks). IsImage disks.now left) settles.disks image)

pub settled_whole : (b d : Meaning) → Settles b d → IsWhole d.disks.now
settled_whole b d settles = subst (λ (disks : Disks). IsWhole disks.now) (sym settles.disks) (settled_is_whole b.disks)

-- ---- the journal gets its name

module _ (way : Way) (puts : ℕ → Files) (prepared : Prepared) (t : FileTree) (ready : IsReady way puts prepared t) (b d : Meaning) where
  written_reads : EachImage b (λ left. left ≡ changed t (changes.Written prepared.draft prepared.text)) → reading b.disks.now ≡ drafted t way.project prepared.text
  written_reads alone = alone (reading b.disks.now) (reading_is_image b.disks.now) ∙ ap (λ at. changed t (changes.Written at prepared.text)) ready.made_ready.draft_is

  after_name : EachImage b (λ left. left ≡ changed t (changes.Written prepared.draft prepared.text))
      → changed (reading b.disks.now) (changes.Renamed prepared.draft prepared.at) ≡ placed t way.project prepared.text
  after_name alone =
      ap (λ (u : FileTree). changed u (changes.Renamed prepared.draft prepared.at)) (written_reads alone)
      ∙ ap (λ from. changed (drafted t way.project prepared.text) (changes.Renamed from prepared.at)) ready.made_ready.draft_is
      ∙ ap (λ to. changed (drafted t way.project prepared.text) (changes.Renamed (draft_path way.project) to)) ready.made_ready.at_is

  pub named_reads : Adds b d (changes.Renamed prepared.draft prepared.at) → EachImage b (λ left. left ≡ changed t (changes.Written prepared.draft prepared.text))
      → reading d.disks.now ≡ placed t way.project prepared.text
  named_reads adds alone = reads_after b d (changes.Renamed prepared.draft prepared.at) adds ∙ after_name alone

  pub named_through : MayAdd b d (changes.Renamed prepared.draft prepared.at) → IsWhole b.disks.now
      → EachImage b (λ left. left ≡ changed t (changes.Written prepared.draft prepared.text))
      → EachImage b (IsInFlight way.project way.surroundings way.old way.new) → Through b d (IsInFlight way.project way.surroundings way.old way.new)
  named_through may whole alone each =
      through_then_change (IsInFlight way.project way.surroundings way.old way.new) b b d (changes.Renamed prepared.draft prepared.at) may refl whole
      (elim (reading_on b d (changes.Renamed prepared.draft prepared.at) may refl) [
        | inl same ↦ subst (IsInFlight way.project way.surroundings way.old way.new) (sym same) (each (reading b.disks.now) (reading_is_image b.disks.now))
        | inr made ↦ subst (IsInFlight way.project way.surroundings way.old way.new) (sym (made ∙ after_name alone)) (placed_on_way way puts prepared t ready).flight
      ])
      (through_from (IsInFlight way.project way.surroundings way.old way.new) b each)
