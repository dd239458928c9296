-- The lock that stands once a command answered its lines: it is read as that of the packages that were chosen, and is met.
use Rattle.std.proofs.Common.{◌≡◌, ℕ, Bool, true, false, List, [], ◌∷◌, ◌++◌, codes, Option, Some, None, Result, Ok, refl, sym, ap, subst, ◌∙◌, inl, inr}
use Rattle.std.specs.Prelude.{not, ◌⊎◌, ◌&&◌, ◌||◌}
use Rattle.std.specs.FinMap as maps
use Rattle.std.specs.List.{AllByRecursion}
use Rattle.path_name.specs.Given.{◌>>=◌}
use Rattle.tree_dev.specs.Projects.{bytes_of, file_at, is_project_part, is_surroundings, is_within, lock_path, vendor_path, work_path}
use Rattle.tree_dev.specs.Trees.{FileTree, IsTree, behind, entry_at, kind_at, read_at, read_of}
use Rattle.tree_dev.specs.declared.entry.Entry.{Entry}
use Rattle.tree_dev.specs.declared.entry.Entry.TheVariants as entries
use Rattle.tree_dev.specs.declared.entry.Kind.{Kind}
use Rattle.tree_dev.specs.declared.entry.Kind.TheVariants as kinds
use Rattle.tree_dev.specs.declared.limits.TheConstants.{ENTRIES, FILE_BYTES}
use Rattle.tree_dev.proofs.ProjectParts.{behind_same_head}
use Rattle.package_moves.proofs.SameEntries.{entry_below}
use Rattle.composer_words.specs.declared.chosen.Ways.{Ways}
use Rattle.lock_file.specs.LockText.{lock_text}
use Rattle.lock_file.specs.declared.types.Lock.{Lock}
use Rattle.manifest_read.specs.declared.types.Manifest.{Manifest}
use Rattle.psr_routes.specs.declared.types.Placed.{Placed}
use Rattle.stage_job.specs.declared.job.Part.{Part}
use Rattle.table_print.specs.TablePrinting.{printed}
use Rattle.table_scan.specs.TableGrammar.{vendor_name}
use Rattle.table_scan.specs.TableNames.{table_name}
use Rattle.table_scan.specs.declared.types.TableTexts.{TableTexts}
use Rattle.run_answers.specs.declared.refusal.Refusal.{Refusal}
use Rattle.project_files.specs.Places.{composer_name, manifest_place}
use Rattle.project_files.specs.ProjectLock.{lock_of_text, lock_text_in, or_no_lock, project_lock_in}
use Rattle.project_files.specs.ProjectManifest.{manifest_of_text, manifest_text_in, or_no_manifest, project_manifest_in}
use Rattle.project_files.specs.Texts.{text_in, text_of}
use Rattle.project_files.specs.declared.manifests.ProjectManifest.{ProjectManifest}
use Rattle.install_sources.specs.Folders.{package_place}
use Rattle.install_choice.specs.Choosing.{IsChosenFor, IsChosenToInstall, IsChosenToUpdate, IsChosenWith, lock_by_kind, lock_read, standing_lock_in}
use Rattle.install_choice.specs.LockLaws.{HasMetLock, HasNewLock, IsMet}
use Rattle.install_choice.specs.Sequences.{Is}
use Rattle.install_choice.specs.declared.chosen.Chosen.{Chosen}
use Rattle.install_choice.proofs.MetLocks.{lock_met}
use Rattle.install_choice.proofs.NewLocksMet.{new_lock_met, new_lock_read}
use Rattle.install_choice.proofs.Steps.{both_ok, both_taken}
use Rattle.install_choice.proofs.Updates.{update_locks, without_lock}
use Rattle.install_commands.specs.Claiming.{with_claim}
use Rattle.table_files.specs.Written.{parts_of, target_of, text_part, written_files}
use Rattle.table_files.specs.declared.written.WrittenFile.{WrittenFile}
use Rattle.install_packages.specs.InstallParts.{copy_parts, install_files}
use Rattle.install_packages.specs.Installations.{AreAboveNone, HasNewProject, IsOffTargets, installed_files, tables_in}
use Rattle.install_packages.proofs.AlwaysCommits.{file_is, is_read, lock_short}
use Rattle.install_packages.proofs.NewProjects.{new_project, others_stay}
use Rattle.install_packages.proofs.ShownPackages.{top_within}
use Rattle.install_packages.proofs.ShownTrees.{claimed_entry, files_stand, itself_within, setting}
use Rattle.install_packages.proofs.StandingFiles.{lock_stands}

-- ---- what is written where no lock is

-- it has no text, or stands beside the lock
abbrev IsBeside : WrittenFile → Type 0
IsBeside file = (file.text ≡ None) ⊎ (behind (target_of file) (codes "composer.lock" ∷ []) ≡ None)

all_beside : (texts : TableTexts) (installed : List ℕ) → AllByRecursion IsBeside (install_files texts installed None)
unfolding written_files composer_name table_name vendor_name
all_beside texts installed = (inr refl, (inr refl, (inr refl, (inr refl, (inr refl, (inr refl, (inr refl, (inl refl, tt))))))))

module _ (at : List (List ℕ)) where
  abbrev AreOff : List Part → Type 0
  AreOff parts = AreAboveNone at parts (lock_path at)

  one_off : (target : List (List ℕ)) (text : Option (List ℕ)) (rest : List Part) → (text ≡ None) ⊎ (behind target (codes "composer.lock" ∷ []) ≡ None) → AreOff rest → AreOff (text_part target text ++ rest)
  one_off target None rest beside more = more
  one_off target (Some text) rest (inl none) more = absurd cc
  one_off target (Some text) rest (inr apart) more = (behind_same_head at target (codes "composer.lock" ∷ []) ∙ apart, more)

  files_off : (files : List WrittenFile) → AllByRecursion IsBeside files → AreOff (parts_of files)
  files_off [] all = tt
  files_off (file ∷ files) all = one_off (target_of file) file.text (parts_of files) all.0 (files_off files all.1)

  copies_off : (members : List Placed) (files : List Part) → AreOff files → AreOff (copy_parts members ++ files)
  copies_off [] files off = off
  copies_off (one ∷ members) files off = (behind_same_head at (package_place [] one.«package».name) (codes "composer.lock" ∷ []), copies_off members files off)

-- ---- texts that are read alike

pub same_lock : (t u : FileTree) (at : List (List ℕ)) → entry_at u (lock_path at) ≡ entry_at t (lock_path at) → project_lock_in u at ≡ project_lock_in t at
unfolding project_lock_in lock_text_in text_in read_at
same_lock t u at same = ap (λ (e : Option Entry). (text_of (lock_path at) (read_of FILE_BYTES e) >>= or_no_lock) >>= lock_of_text) same

pub same_manifest : (t u : FileTree) (at : List (List ℕ)) → entry_at u (manifest_place at) ≡ entry_at t (manifest_place at) → project_manifest_in u at ≡ project_manifest_in t at
unfolding project_manifest_in manifest_text_in text_in read_at
same_manifest t u at same = ap (λ (e : Option Entry). (text_of (manifest_place at) (read_of FILE_BYTES e) >>= or_no_manifest) >>= manifest_of_text) same

-- a lock that is read is a file
is_file : (at : List (List ℕ)) (e : Option Entry) (text : List ℕ) → text_of (lock_path at) (read_of FILE_BYTES e) >>= or_no_lock ≡ Ok text → (bytes : List ℕ) × (e ≡ Some (entries.File bytes))
is_file at None text read = absurd cc
is_file at (Some (entries.File bytes)) text read = (bytes, refl)
is_file at (Some entries.Folder) text read = absurd cc
is_file at (Some entries.Other) text read = absurd cc

pub lock_file_there : (t : FileTree) (at : List (List ℕ)) (lock : Lock) → project_lock_in t at ≡ Ok lock → (bytes : List ℕ) × (entry_at t (lock_path at) ≡ Some (entries.File bytes))
unfolding project_lock_in lock_text_in text_in read_at
lock_file_there t at lock e =
    let text = both_ok (text_of (lock_path at) (read_of FILE_BYTES (entry_at t (lock_path at))) >>= or_no_lock) lock_of_text lock e in
    is_file at (entry_at t (lock_path at)) text.0 text.1

some_lock : (lock other : Lock) → ◌≡◌ {A = Result (Option Lock) Refusal} (Ok (Some lock)) (Ok (Some other)) → lock ≡ other
some_lock lock other e = cc

lock_there : (t : FileTree) (at : List (List ℕ)) (lock : Lock) → lock_read t at ≡ Ok (Some lock) → project_lock_in t at ≡ Ok lock
lock_there t at lock e = let read = both_ok (project_lock_in t at) _ (Some lock) e in read.1 ∙ ap Ok (some_lock read.0 lock read.2)

standing_read : (t : FileTree) (at : List (List ℕ)) (lock : Lock) → standing_lock_in t at ≡ Ok (Some lock) → project_lock_in t at ≡ Ok lock
unfolding standing_lock_in
standing_read t at lock e = by (kind_at t (lock_path at)) e
  where
    by : (kind : Kind) → lock_by_kind t at kind ≡ Ok (Some lock) → project_lock_in t at ≡ Ok lock
    by kinds.Absent f = absurd cc
    by kinds.File f = lock_there t at lock f
    by kinds.Folder f = lock_there t at lock f
    by kinds.Other f = lock_there t at lock f

-- ---- which lock was chosen

-- a new one, or the one that stands
either_lock : (t : FileTree) (at : List (List ℕ)) (choice : Chosen × ℕ) → IsChosenToInstall t at ENTRIES (Ok choice) → HasNewLock t at ENTRIES choice.0 ⊎ ((lock : Lock) × (project_lock_in t at ≡ Ok lock) × HasMetLock t at lock choice.0)
unfolding IsChosenToInstall
either_lock t at choice is =
    let read = both_taken (Is (project_manifest_in t at)) (IsChosenFor t at ENTRIES) choice is in
    let lock = both_taken (Is (standing_lock_in t at)) (IsChosenWith t at ENTRIES read.0) choice read.2 in
    by lock.0 (sym lock.1)
  where
    by : (o : Option Lock) → standing_lock_in t at ≡ Ok o → HasNewLock t at ENTRIES choice.0 ⊎ ((lock : Lock) × (project_lock_in t at ≡ Ok lock) × HasMetLock t at lock choice.0)
    by None none = inl (update_locks t at ENTRIES choice (without_lock t at ENTRIES (Ok choice) none is))
    by (Some lock) stands = inr (lock, standing_read t at lock stands, lock_met t at ENTRIES lock choice stands is)

-- ---- a new project

module _ (at : List (List ℕ)) (ways : Ways) (start u : FileTree) (new : HasNewProject at ways start u) where
  abbrev t : FileTree
  t = with_claim at start

  abbrev chosen : Chosen
  chosen = new.choice.0

  abbrev stand : List (List ℕ) → Option (List ℕ)
  stand = installed_files at t new.made.members new.made.files (file_at t)

  is_part : is_project_part at (lock_path at) ≡ true
  unfolding is_project_part
  is_part = ap (λ (b : Bool). b || is_within (vendor_path at) (lock_path at)) (itself_within (lock_path at))

  lock_file : IsTree t → file_at u (lock_path at) ≡ stand (lock_path at)
  lock_file claimed =
      (files_stand at ways start u new).each (lock_path at) is_part ∙ new_project t at chosen (setting at ways start u new) new.choice.1 new.after new.work new.made (lock_path at) claimed

  new_read : IsTree t → HasNewLock t at ENTRIES chosen → project_lock_in u at ≡ Ok chosen.lock
  new_read claimed is =
      let text = lock_text chosen.lock in
      let there = lock_file claimed ∙ lock_stands t at chosen (setting at ways start u new) new.choice.1 new.after new.work new.made (file_at t) text is.written in
      let short = lock_short t at chosen (setting at ways start u new) new.choice.1 new.after new.work new.made text is.written in
      new_lock_read t u at ENTRIES chosen is (is_read u at (codes "composer.lock") [] text there short)

  off : chosen.text ≡ None → IsOffTargets at new.made.members new.made.files (lock_path at)
  off none =
      let these = ap (install_files (printed at (tables_in new.made)) new.made.are_files.installed) none in
      let beside = all_beside (printed at (tables_in new.made)) new.made.are_files.installed in
      copies_off at new.made.members (parts_of new.made.files) (files_off at new.made.files (subst (AllByRecursion IsBeside) (sym (new.made.are_files.are ∙ these)) beside))

  kept_read : IsTree t → chosen.text ≡ None → (lock : Lock) → project_lock_in t at ≡ Ok lock → project_lock_in u at ≡ Ok lock
  kept_read claimed none lock read =
      let there = lock_file_there t at lock read in
      let before : file_at t (lock_path at) ≡ Some there.0 = ap bytes_of (sym (entry_below t at (codes "composer.lock") []) ∙ there.1) in
      let stays = others_stay t at chosen (setting at ways start u new) new.choice.1 new.after new.work new.made (file_at t) (lock_path at) (off none) (top_within at (codes "vendor") (codes "composer.lock") []) in
      let entry = entry_below u at (codes "composer.lock") [] ∙ file_is (maps.get u (lock_path at)) there.0 (lock_file claimed ∙ stays ∙ before) in
      same_lock t u at (entry ∙ sym there.1) ∙ read

  by_choice : {P : Type 0} → (HasNewLock t at ENTRIES chosen → P) → ((lock : Lock) → project_lock_in t at ≡ Ok lock → HasMetLock t at lock chosen → P) → P
  by_choice {P} anew stood = by new.is_chosen
    where
      either : HasNewLock t at ENTRIES chosen ⊎ ((lock : Lock) × (project_lock_in t at ≡ Ok lock) × HasMetLock t at lock chosen) → P
      either (inl is) = anew is
      either (inr is) = stood is.0 is.1 is.2

      by : IsChosenToInstall t at ENTRIES (Ok new.choice) ⊎ IsChosenToUpdate t at ENTRIES (Ok new.choice) → P
      by (inl install) = either (either_lock t at new.choice install)
      by (inr update) = anew (update_locks t at ENTRIES new.choice update)

  pub lock_is_read : IsTree t → project_lock_in u at ≡ Ok chosen.lock
  lock_is_read claimed = by_choice (new_read claimed) (λ lock read met. kept_read claimed met.unwritten lock read ∙ ap Ok (sym met.same))

  pub lock_is_met : IsMet at chosen.root chosen.lock
  lock_is_met = by_choice (new_lock_met t at ENTRIES chosen)
      (λ lock read met. subst (λ (some : Lock). IsMet at chosen.root some) (sym met.same) (subst (λ (root : Manifest). IsMet at root lock) (sym met.root) met.met))

  -- composer.json, which no command changes
  outside : (is_surroundings at (manifest_place at) ≡ true) × (is_within (work_path at) (manifest_place at) ≡ false)
  unfolding is_surroundings is_project_part
  outside =
      let name = codes "composer.json" in
      let work = top_within at (codes ".install") name [] in (
        by (is_within (lock_path at) (manifest_place at)) (is_within (vendor_path at) (manifest_place at)) (is_within (work_path at) (manifest_place at)) (top_within at (codes "composer.lock") name [])
            (top_within at (codes "vendor") name []) work,
        work,
      )
    where
      by : (lock vendor work : Bool) → lock ≡ false → vendor ≡ false → work ≡ false → not (lock || vendor) && not work ≡ true
      by true vendor work e f g = absurd cc
      by false true work e f g = absurd cc
      by false false true e f g = absurd cc
      by false false false e f g = refl

  pub manifest_kept : project_manifest_in u at ≡ project_manifest_in t at
  manifest_kept =
      let name = codes "composer.json" in
      same_manifest t u at (entry_below u at name [] ∙ new.stands.outside.each (manifest_place at) outside.0 ∙ sym (claimed_entry at start (manifest_place at) outside.1) ∙ sym (entry_below t at name []))

  pub manifest_is_read : (manifest : ProjectManifest) × (project_manifest_in u at ≡ Ok manifest) × (chosen.root ≡ manifest.root)
  manifest_is_read = by_choice (λ is. (is.manifest, manifest_kept ∙ is.offered.read, is.root)) (λ lock read met. (met.manifest, manifest_kept ∙ met.read, met.root))
