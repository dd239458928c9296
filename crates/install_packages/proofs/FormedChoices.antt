-- What a command chooses was read: its lock and its root are as they are read.
use Rattle.std.proofs.Common.{◌≡◌, ℕ, List, [], Option, Some, None, Result, Ok, Err, sym, ap, subst}
use Rattle.path_name.specs.Given.{◌>>=◌}
use Rattle.tree_dev.specs.Projects.{lock_path}
use Rattle.tree_dev.specs.Trees.{FileTree, kind_at}
use Rattle.tree_dev.specs.declared.entry.Kind.{Kind}
use Rattle.tree_dev.specs.declared.entry.Kind.TheVariants as kinds
use Rattle.manifest_read.specs.Values.{object_at}
use Rattle.manifest_read.specs.WellFormed.{IsManifest}
use Rattle.manifest_read.specs.declared.fault.FieldFault.{FieldFault}
use Rattle.manifest_read.specs.declared.types.Role.TheVariants.{Root}
use Rattle.manifest_read.proofs.Formed.{manifests_are_formed}
use Rattle.manifest_read.proofs.Steps.{both}
use Rattle.lock_file.specs.FormedLocks.{IsLock}
use Rattle.lock_file.specs.Locks.{lock_fields_of, lock_from}
use Rattle.lock_file.specs.declared.types.Lock.{Lock}
use Rattle.lock_file.proofs.FormedEntries.{lock_is_formed}
use Rattle.run_answers.specs.declared.refusal.NamedFile.TheVariants as files
use Rattle.run_answers.specs.declared.refusal.Refusal.{Refusal}
use Rattle.project_files.specs.Documents.{document_in, or_bad_fields}
use Rattle.project_files.specs.ProjectLock.{few_packages, fields_in, lock_of_text, lock_text_in, project_lock_in}
use Rattle.project_files.specs.ProjectManifest.{project_manifest_in}
use Rattle.project_files.specs.declared.manifests.ProjectManifest.{ProjectManifest}
use Rattle.install_choice.specs.Choosing.{IsChosenFor, IsChosenToInstall, IsChosenToUpdate, IsChosenWith, lock_by_kind, lock_read, standing_lock_in}
use Rattle.install_choice.specs.LockLaws.{HasMetLock, HasNewLock}
use Rattle.install_choice.specs.Planning.{IsChoice}
use Rattle.install_choice.specs.Sequences.{Is}
use Rattle.install_choice.specs.declared.chosen.Chosen.{Chosen}
use Rattle.install_choice.proofs.Documented.{manifest_documented}
use Rattle.install_choice.proofs.MetLocks.{lock_met}
use Rattle.install_choice.proofs.Steps.{both_ok, both_taken, same_value}
use Rattle.install_choice.proofs.Updates.{update_locks, without_lock}

-- ---- the root

root_formed : (t : FileTree) (at : List (List ℕ)) (manifest : ProjectManifest) → project_manifest_in t at ≡ Ok manifest → IsManifest Root manifest.root
root_formed t at manifest e =
    let is = manifest_documented t at manifest e in
    manifests_are_formed Root is.root.tree manifest.root is.root.read

-- ---- the lock that stands

fields_read : (r : Result Lock FieldFault) (lock : Lock) → or_bad_fields files.Lock r ≡ Ok lock → r ≡ Ok lock
fields_read (Ok found) lock e = ap Ok (same_value found lock e)
fields_read (Err fault) lock e = absurd cc

fields_formed : {V : Type 0} (pairs : Result V FieldFault) (next : V → Result Lock FieldFault) (lock : Lock) → ((x : V) → next x ≡ Ok lock → IsLock lock) → pairs >>= next ≡ Ok lock → IsLock lock
fields_formed pairs next lock formed e = let a = both pairs next lock e in formed a.0 a.2

text_formed : (text : List ℕ) (lock : Lock) → lock_of_text text ≡ Ok lock → IsLock lock
unfolding lock_of_text fields_in lock_fields_of
text_formed text lock e =
    let document = both_ok (document_in files.Lock text) _ lock e in
    let fields = both_ok (fields_in document.0) _ lock document.2 in
    let few = both_ok (few_packages fields.0) _ lock fields.2 in
    let read = fields_read (lock_fields_of document.0) fields.0 fields.1 in
    let formed = fields_formed (object_at [] document.0) (lock_from []) fields.0 (λ pairs made. lock_is_formed [] pairs fields.0 made) read in
    subst IsLock (same_value fields.0 lock few.2) formed

lock_formed : (t : FileTree) (at : List (List ℕ)) (lock : Lock) → project_lock_in t at ≡ Ok lock → IsLock lock
unfolding project_lock_in
lock_formed t at lock e =
    let text = both_ok (lock_text_in t at) lock_of_text lock e in
    text_formed text.0 lock text.2

some_lock : (lock other : Lock) → ◌≡◌ {A = Result (Option Lock) Refusal} (Ok (Some lock)) (Ok (Some other)) → lock ≡ other
some_lock lock other e = cc

read_formed : (t : FileTree) (at : List (List ℕ)) (lock : Lock) → lock_read t at ≡ Ok (Some lock) → IsLock lock
read_formed t at lock e =
    let read = both_ok (project_lock_in t at) _ (Some lock) e in
    subst IsLock (some_lock read.0 lock read.2) (lock_formed t at read.0 read.1)

standing_formed : (t : FileTree) (at : List (List ℕ)) (lock : Lock) → standing_lock_in t at ≡ Ok (Some lock) → IsLock lock
unfolding standing_lock_in
standing_formed t at lock e = by (kind_at t (lock_path at)) e
  where
    by : (kind : Kind) → lock_by_kind t at kind ≡ Ok (Some lock) → IsLock lock
    by kinds.Absent f = absurd cc
    by kinds.File f = read_formed t at lock f
    by kinds.Folder f = read_formed t at lock f
    by kinds.Other f = read_formed t at lock f

met_formed : (t : FileTree) (at : List (List ℕ)) (lock : Lock) (chosen : Chosen) → IsLock lock → HasMetLock t at lock chosen → IsChoice chosen
met_formed t at lock chosen formed met = record {
  lock = subst IsLock (sym met.same) formed;
  root = subst (IsManifest Root) (sym met.root) (root_formed t at met.manifest met.read);
}

-- ---- the lock of a new plan

new_formed : (t : FileTree) (at : List (List ℕ)) (left : ℕ) (chosen : Chosen) → HasNewLock t at left chosen → IsChoice chosen
unfolding lock_fields_of
new_formed t at left chosen new = record {
  lock = fields_formed (object_at [] new.read_back.tree) (lock_from []) chosen.lock (λ pairs made. lock_is_formed [] pairs chosen.lock made) new.read_back.fields;
  root = subst (IsManifest Root) (sym new.root) (root_formed t at new.manifest new.offered.read);
}

-- ---- the choices

pub update_formed : (t : FileTree) (at : List (List ℕ)) (left : ℕ) (made : Chosen × ℕ) → IsChosenToUpdate t at left (Ok made) → IsChoice made.0
update_formed t at left made is = new_formed t at left made.0 (update_locks t at left made is)

pub install_formed : (t : FileTree) (at : List (List ℕ)) (left : ℕ) (made : Chosen × ℕ) → IsChosenToInstall t at left (Ok made) → IsChoice made.0
unfolding IsChosenToInstall
install_formed t at left made is =
    let read = both_taken (Is (project_manifest_in t at)) (IsChosenFor t at left) made is in
    let lock = both_taken (Is (standing_lock_in t at)) (IsChosenWith t at left read.0) made read.2 in
    by lock.0 (sym lock.1)
  where
    by : (o : Option Lock) → standing_lock_in t at ≡ Ok o → IsChoice made.0
    by None none = update_formed t at left made (without_lock t at left (Ok made) none is)
    by (Some lock) stands = met_formed t at lock made.0 (standing_formed t at lock stands) (lock_met t at left lock made stands is)
