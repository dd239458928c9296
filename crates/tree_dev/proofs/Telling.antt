-- What a tree in memory tells after a call that makes a change, and after a barrier.
use Rattle.std.proofs.Common.{◌≡◌, ℕ, ◌≤◌, Bool, true, false, cond, List, Option, Some, None, Result, Ok, Err, IfOk, OnOk, OnErr, is_some, is_none, inl, inr, refl, sym, ap, ◌∙◌}
use Rattle.std.specs.Option.{option_map}
use Rattle.path_name.specs.Paths.{without_last}
use Rattle.tree_dev.specs.Trees.{entry_at, has_folder}
use Rattle.tree_dev.specs.Changes.{changed, did, has_place, made_folder}
use Rattle.tree_dev.specs.Disk.{made, reading, settled, with_change}
use Rattle.tree_dev.specs.Device.{Stays, Adds, MayAdd, Settles}
use Rattle.tree_dev.specs.Memory.{Memory, after_disk_change, files_of, is_sound, told_by}
use Rattle.tree_dev.specs.Told.{TellsBarrier, TellsChange, TellsFolder, both}
use Rattle.tree_dev.specs.declared.change.Change.{Change}
use Rattle.tree_dev.specs.declared.change.Change.TheVariants as changes
use Rattle.tree_dev.specs.declared.did.Did.{Did}
use Rattle.tree_dev.specs.declared.did.Did.TheVariants as dids
use Rattle.tree_dev.specs.declared.did.Made.{Made}
use Rattle.tree_dev.specs.declared.did.Made.TheVariants as mades
use Rattle.tree_dev.specs.declared.entry.Entry.{Entry}
use Rattle.tree_dev.specs.declared.fault.Failed.{Failed}
use Rattle.std.proofs.Common.{is_err, arith}
use Rattle.std.specs.declared.alloc.AllocError.{AllocError}
use Rattle.tree_dev.specs.Device.{next}
use Rattle.tree_dev.proofs.Images.{torn_itself}

-- a sound disk is told
pub told_when_sound : (m : Memory) → is_sound m.disks.now ≡ true → (told_by m).told ≡ Some (files_of m)
told_when_sound m e = rw e refl

module _ (m n : Memory) (sound : is_sound m.disks.now ≡ true) (sound_after : is_sound n.disks.now ≡ true) (le : m.faults ≤ n.faults) where
  stays : n.disks ≡ m.disks → Stays (told_by m) (told_by n)
  stays same = record { told = told_when_sound n sound_after ∙ ap (λ d. Some (reading d.now)) same ∙ sym (told_when_sound m sound); faults = le; disks = same }

  adds : (change : Change) → n.disks ≡ with_change m.disks change → Adds (told_by m) (told_by n) change
  unfolding made
  adds change same = record {
    told = told_when_sound n sound_after ∙ ap (λ d. Some (reading d.now)) same ∙ sym (ap (option_map (λ t. changed t change)) (told_when_sound m sound));
    faults = le;
    disks = same;
  }

  abbrev IsMade : Change → Bool → Type 0
  IsMade change b = n.disks ≡ cond b (with_change m.disks change) m.disks

  moments : (change : Change) (b : Bool) → has_place (files_of m) change ≡ b → IsMade change b → MayAdd (told_by m) (told_by n) change
  moments change true place is = inr (record { had_place = place; torn = change; is_torn = torn_itself change; adds = adds change is })
  moments change false place is = inl (stays is)

  did_case : (change : Change) (b : Bool) (answer : Did) → has_place (files_of m) change ≡ b → IsMade change b → answer ≡ cond b dids.Done dids.Misplaced → TellsChange (told_by m) (told_by n) change (Ok answer)
  did_case change true answer place is e = record {
    done = λ done t told. adds change is;
    misplaced = λ misplaced. absurd (let h : dids.Done ≡ dids.Misplaced = sym e ∙ misplaced in cc);
    moments = moments change true place is;
  }
  did_case change false answer place is e = record {
    done = λ done t told. absurd (let h : dids.Misplaced ≡ dids.Done = sym e ∙ done in cc);
    misplaced = λ misplaced. stays is;
    moments = moments change false place is;
  }

  pub tells_change : (change : Change) (result : Result Did Failed) → IfOk result (λ answer. answer ≡ did (files_of m) change) → OnOk result (n.disks ≡ after_disk_change m.disks change)
      → OnErr result (n.disks ≡ m.disks) → TellsChange (told_by m) (told_by n) change result
  unfolding did
  tells_change change (Ok answer) answered ok err = did_case change (has_place (files_of m) change) answer refl ok answered
  tells_change change (Err fault) answered ok err = record { done = tt; misplaced = tt; moments = inl (stays err) }

  folder_case : (change : Change) (b : Bool) (answer : Made) → has_place (files_of m) change ≡ b → IsMade change b → (answer ≡ mades.New → b ≡ true) → (b ≡ true → answer ≡ mades.New)
      → TellsFolder (told_by m) (told_by n) change (Ok answer)
  folder_case change true answer place is on back = record { done = λ new t told. adds change is; misplaced = λ other. absurd (other (back refl)); moments = moments change true place is }
  folder_case change false answer place is on back =
      record { done = λ new t told. absurd (let h = on new in cc); misplaced = λ other. stays is; moments = moments change false place is }

  free_case : (present : Option Entry) → is_none present ≡ true → is_some present ≡ false
  free_case None e = refl
  free_case (Some x) e = absurd cc

  new_has_place : (b s : Bool) → cond s mades.Exists (cond b mades.New mades.Misplaced) ≡ mades.New → b ≡ true
  new_has_place true s e = refl
  new_has_place false true e = absurd cc
  new_has_place false false e = absurd cc

  free_place : (at : List (List ℕ)) → has_place (files_of m) (changes.FolderMade at) ≡ true → is_some (entry_at (files_of m) at) ≡ false
  unfolding has_place
  free_place at place =
      let parts = both (has_folder (files_of m) (without_last at)) (is_none (entry_at (files_of m) at)) place in
      free_case (entry_at (files_of m) at) parts.1

  pub tells_folder : (at : List (List ℕ)) (result : Result Made Failed) → IfOk result (λ answer. answer ≡ made_folder (files_of m) at) → OnOk result (n.disks ≡ after_disk_change m.disks (changes.FolderMade at))
      → OnErr result (n.disks ≡ m.disks) → TellsFolder (told_by m) (told_by n) (changes.FolderMade at) result
  unfolding made_folder
  tells_folder at (Ok answer) answered ok err =
      folder_case (changes.FolderMade at) (has_place (files_of m) (changes.FolderMade at)) answer refl ok
      (λ new. new_has_place (has_place (files_of m) (changes.FolderMade at)) (is_some (entry_at (files_of m) at)) (sym answered ∙ new))
      (λ place. let free = free_place at place in answered ∙ rw (free, place) refl)
  tells_folder at (Err fault) answered ok err = record { done = tt; misplaced = tt; moments = inl (stays err) }

  pub tells_barrier : (result : Result (Unit {0}) Failed) → OnOk result (n.disks ≡ settled m.disks) → OnErr result (n.disks ≡ m.disks) → TellsBarrier (told_by m) (told_by n) result
  unfolding made
  tells_barrier (Ok x) ok err =
      let settles : Settles (told_by m) (told_by n) =
      record { told = told_when_sound n sound_after ∙ ap (λ d. Some (reading d.now)) ok ∙ sym (told_when_sound m sound); faults = le; disks = ok } in
      record { done = λ t told. settles; failed = tt; moments = inr settles }
  tells_barrier (Err fault) ok err = record { done = tt; failed = stays err; moments = inl (stays err) }

-- a count does not fall
pub grows : (b : Bool) (n : ℕ) → n ≤ cond b (next n) n
grows true n = omega arith
grows false n = omega arith

-- the same of what a call found, or no memory for
module _ (m n : Memory) (sound : is_sound m.disks.now ≡ true) (sound_after : is_sound n.disks.now ≡ true) (le : m.faults ≤ n.faults) where
  pub found_change : (change : Change) (found : Result Did AllocError) (result : Result Did Failed) → IfOk result (λ answer. found ≡ Ok answer) → is_err result ≡ is_err found
      → IfOk found (λ answer. answer ≡ did (files_of m) change) → OnOk found (n.disks ≡ after_disk_change m.disks change) → OnErr found (n.disks ≡ m.disks) → TellsChange (told_by m) (told_by n) change result
  found_change change (Ok a) (Ok b) is kind answer ok err = tells_change m n sound sound_after le change (Ok b) (let same : a ≡ b = cc in sym same ∙ answer) ok tt
  found_change change (Ok a) (Err e) is kind answer ok err = absurd cc
  found_change change (Err e) (Ok b) is kind answer ok err = absurd cc
  found_change change (Err e) (Err fault) is kind answer ok err = tells_change m n sound sound_after le change (Err fault) tt tt err

  pub found_folder : (at : List (List ℕ)) (found : Result Made AllocError) (result : Result Made Failed) → IfOk result (λ answer. found ≡ Ok answer) → is_err result ≡ is_err found
      → IfOk found (λ answer. answer ≡ made_folder (files_of m) at) → OnOk found (n.disks ≡ after_disk_change m.disks (changes.FolderMade at)) → OnErr found (n.disks ≡ m.disks)
      → TellsFolder (told_by m) (told_by n) (changes.FolderMade at) result
  found_folder at (Ok a) (Ok b) is kind answer ok err = tells_folder m n sound sound_after le at (Ok b) (let same : a ≡ b = cc in sym same ∙ answer) ok tt
  found_folder at (Ok a) (Err e) is kind answer ok err = absurd cc
  found_folder at (Err e) (Ok b) is kind answer ok err = absurd cc
  found_folder at (Err e) (Err fault) is kind answer ok err = tells_folder m n sound sound_after le at (Err fault) tt tt err

  pub found_barrier : (found : Result (Unit {0}) AllocError) (result : Result (Unit {0}) Failed) → is_err result ≡ is_err found → OnOk found (n.disks ≡ settled m.disks) → OnErr found (n.disks ≡ m.disks)
      → TellsBarrier (told_by m) (told_by n) result
  found_barrier (Ok a) (Ok b) kind ok err = tells_barrier m n sound sound_after le (Ok b) ok tt
  found_barrier (Ok a) (Err e) kind ok err = absurd cc
  found_barrier (Err e) (Ok b) kind ok err = absurd cc
  found_barrier (Err e) (Err fault) kind ok err = tells_barrier m n sound sound_after le (Err fault) tt err
