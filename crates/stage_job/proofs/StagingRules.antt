-- What goes on staging: calls that only read, changes of one entry at or below `.install`, folders made below `vendor`, and
-- barriers.
use Rattle.std.proofs.Common.{◌≡◌, ◌⊎◌, ℕ, ◌≤◌, Bool, true, false, cond, List, [], ◌∷◌, Option, Some, None, refl, sym, ap, ◌∙◌, subst, inl, inr, arith, append-nil}
use Rattle.std.specs.Prelude.{IsTrue, is_none, is_some}
use Rattle.std.specs.Option.{option_map}
use Rattle.std.specs.FinMap as map
use Rattle.path_name.specs.Paths.{without_last}
use Rattle.tree_dev.specs.Trees.{FileTree, entry_at, has_folder}
use Rattle.tree_dev.specs.Changes.{IsTorn, changed, has_place}
use Rattle.tree_dev.specs.Disk.{IsOnDisk}
use Rattle.tree_dev.specs.Device.{MayAdd, MaySettle, Meaning, OfTold, OnlyRead, Rose}
use Rattle.tree_dev.specs.Projects.{is_within, vendor_path, work_path}
use Rattle.tree_dev.specs.Steady.{IsStaged}
use Rattle.tree_dev.specs.Told.{both}
use Rattle.tree_dev.specs.declared.change.Change.{Change}
use Rattle.tree_dev.specs.declared.change.Change.TheVariants as changes
use Rattle.tree_dev.specs.declared.entry.Entry.{Entry}
use Rattle.tree_dev.specs.declared.entry.Entry.TheVariants as entries
use Rattle.tree_dev.proofs.Changed.{get-changed}
use Rattle.tree_dev.proofs.SamePaths.{is_same, same_path}
use Rattle.tree_dev.proofs.SteadyRules.{IsQuiet, IsQuietHowever, quiet_made, quiet_written, steady_on, steady_same, steady_settled, steady_start, steady_then_make_parent, steady_then_quiet}
use Rattle.stage_job.specs.Staged.{IsFree, IsKept, IsNewFolder, KeepsTelling, Staging}

-- ---- what is kept

no_some : {x : Entry} → ◌≡◌ {A = Option Entry} (Some x) None → ⊥
no_some e = cc

pub kept_itself : (project : List (List ℕ)) (t : FileTree) → IsKept project t t
kept_itself project t = record { each = λ path out. inl refl; claim = λ stands. stands }

pub kept_on : (project : List (List ℕ)) (t u v : FileTree) → IsKept project t u → IsKept project u v → IsKept project t v
kept_on project t u v first second = record { each = λ path out. by path (first.each path out) (second.each path out); claim = λ stands. second.claim (first.claim stands) }
  where
    by : (path : List (List ℕ)) → (map.get u path ≡ map.get t path) ⊎ IsNewFolder project t u path → (map.get v path ≡ map.get u path) ⊎ IsNewFolder project u v path
        → (map.get v path ≡ map.get t path) ⊎ IsNewFolder project t v path
    by path (inl a) (inl b) = inl (b ∙ a)
    by path (inl a) (inr n) = inr (record { vendor = n.vendor; before = sym a ∙ n.before; now = n.now })
    by path (inr n) (inl b) = inr (record { vendor = n.vendor; before = n.before; now = b ∙ n.now })
    by path (inr n) (inr m) = absurd (no_some (sym n.now ∙ m.before))

-- ---- stretches

rose_on : (a b d : ℕ) → a ≤ b → Rose b d → Rose a d
rose_on a b d le rose = omega (arith, rose, le)

no_failure : {P : Type 0} → IsTrue false → P
no_failure f = absurd cc

pub staging_start : {project : List (List ℕ)} {m : Meaning} → Staging project m m false
staging_start {project} {m} = record { steady = steady_start project m; kept = λ t told. (t, told, kept_itself project t); cause = λ f. no_failure f }

-- what was done last, and what was done before
pub staging_on : {project : List (List ℕ)} {a b d : Meaning} {failed : Bool} → Staging project b d failed → Staging project a b false → Staging project a d failed
staging_on {project} {a} {b} {d} more run = record {
  steady = steady_on project a b d run.steady more.steady;
  kept = λ t told.
      let first = run.kept t told in
      let second = more.kept first.0 first.1 in
      (second.0, second.1, kept_on project t first.0 second.0 first.2 second.2);
  cause = λ f. rose_on a.faults b.faults d.faults run.steady.faults (more.cause f);
}

-- ---- one call

-- nothing stood where a folder was made
was_free : (t : FileTree) (at : List (List ℕ)) → has_place t (changes.FolderMade at) ≡ true → map.get t at ≡ None
unfolding has_place
was_free t at place = none_there at (both (has_folder t (without_last at)) (is_none (entry_at t at)) place).1
  where
    none_is : (o : Option Entry) → is_none o ≡ true → o ≡ None
    none_is None e = refl
    none_is (Some x) e = absurd cc

    none_there : (p : List (List ℕ)) → is_none (entry_at t p) ≡ true → map.get t p ≡ None
    none_there [] free = absurd cc
    none_there (segment ∷ rest) free = none_is (map.get t (segment ∷ rest)) free

-- a folder that stands stays one where a folder is made
folder_then_made : (t : FileTree) (at q : List (List ℕ)) → map.get t q ≡ Some entries.Folder → map.get (changed t (changes.FolderMade at)) q ≡ Some entries.Folder
folder_then_made t at q stands = get-changed t (changes.FolderMade at) q ∙ by (is_same q at)
  where
    by : (same : Bool) → cond same (Some entries.Folder) (map.get t q) ≡ Some entries.Folder
    by true = refl
    by false = stands

-- and where a file is made at a path at which nothing is
folder_then_written : (t : FileTree) (at q : List (List ℕ)) (bytes : List ℕ) → map.get t at ≡ None → map.get t q ≡ Some entries.Folder
    → map.get (changed t (changes.Written at bytes)) q ≡ Some entries.Folder
folder_then_written t at q bytes none stands = get-changed t (changes.Written at bytes) q ∙ by (is_same q at) refl
  where
    by : (same : Bool) → is_same q at ≡ same → cond same (Some (entries.File bytes)) (map.get t q) ≡ Some entries.Folder
    by true e = absurd (no_some (sym stands ∙ ap (map.get t) (same_path q at e) ∙ none))
    by false e = stands

-- `.install` stays a folder over a change of the tree that is told, however it is torn
abbrev KeepsClaim : List (List ℕ) → Meaning → Change → Type 0
KeepsClaim project b change = (t : FileTree) (torn : Change) → b.told ≡ Some t → IsTorn change torn → map.get t (work_path project) ≡ Some entries.Folder
    → map.get (changed t torn) (work_path project) ≡ Some entries.Folder

made_keeps_claim : (project : List (List ℕ)) (b : Meaning) (at : List (List ℕ)) → KeepsClaim project b (changes.FolderMade at)
made_keeps_claim project b at = λ t torn tells is stands.
    subst (λ (change : Change). map.get (changed t change) (work_path project) ≡ Some entries.Folder) (sym is) (folder_then_made t at (work_path project) stands)

written_keeps_claim : (project : List (List ℕ)) (b : Meaning) (at : List (List ℕ)) (bytes : List ℕ) → ((t : FileTree) → b.told ≡ Some t → map.get t at ≡ None)
    → KeepsClaim project b (changes.Written at bytes)
written_keeps_claim project b at bytes free = λ t torn tells is stands.
    subst (λ (change : Change). map.get (changed t change) (work_path project) ≡ Some entries.Folder) (sym is.1)
    (folder_then_written t at (work_path project) is.0 (free t tells) stands)

module _ {project : List (List ℕ)} {b d : Meaning} {failed : Bool} (cause : IsTrue failed → Rose b.faults d.faults) where
  staging_same : d.told ≡ b.told → b.faults ≤ d.faults → d.disks ≡ b.disks → Staging project b d failed
  staging_same told faults disks = record {
    steady = steady_same project b d faults disks;
    kept = λ t tells. (t, told ∙ tells, kept_itself project t);
    cause = cause;
  }

  staging_quiet : (change : Change) → IsQuietHowever project change → KeepsClaim project b change → MayAdd b d change → Staging project b d failed
  staging_quiet change quiet claim (inl stays) = staging_same stays.told stays.faults stays.disks
  staging_quiet change quiet claim (inr adds) = record {
    steady = steady_then_quiet project b b d change quiet (inr adds) (steady_start project b);
    kept = λ t tells. (
      changed t adds.torn,
      adds.adds.told ∙ ap (option_map (λ (u : FileTree). changed u adds.torn)) tells,
      record {
        each = λ q out. inl (get-changed t adds.torn q ∙ (quiet adds.torn adds.is_torn).outside t q out);
        claim = claim t adds.torn tells adds.is_torn;
      },
    );
    cause = cause;
  }

  pub staging_write : {at : List (List ℕ)} {bytes : List ℕ} → IsStaged project at → ((t : FileTree) → b.told ≡ Some t → map.get t at ≡ None)
      → MayAdd b d (changes.Written at bytes) → Staging project b d failed
  staging_write {at} {bytes} staged free adds =
      staging_quiet (changes.Written at bytes) (λ torn is. subst (IsQuiet project) (sym is.1) (quiet_written project at staged is.0))
      (written_keeps_claim project b at bytes free) adds

  pub staging_make : {at : List (List ℕ)} → IsStaged project at → MayAdd b d (changes.FolderMade at) → Staging project b d failed
  staging_make {at} staged adds =
      staging_quiet (changes.FolderMade at) (λ torn is. subst (IsQuiet project) (sym is) (quiet_made project at staged)) (made_keeps_claim project b at) adds

  pub staging_barrier : MaySettle b d → Staging project b d failed
  staging_barrier (inl stays) = staging_same stays.told stays.faults stays.disks
  staging_barrier (inr settles) = record {
    steady = steady_settled project b d settles;
    kept = λ t tells. (t, settles.told ∙ tells, kept_itself project t);
    cause = cause;
  }

  pub staging_make_parent : {at : List (List ℕ)} → is_within (vendor_path project) at ≡ true → ((t : FileTree) → b.told ≡ Some t → IsOnDisk b.disks.now t)
      → MayAdd b d (changes.FolderMade at) → Staging project b d failed
  staging_make_parent {at} vendor on_disk (inl stays) = staging_same stays.told stays.faults stays.disks
  staging_make_parent {at} vendor on_disk (inr adds) = record {
    steady = steady_then_make_parent project b b d at (inr adds) vendor (steady_start project b);
    kept = λ t tells. (
      changed t adds.torn,
      adds.adds.told ∙ ap (option_map (λ (u : FileTree). changed u adds.torn)) tells,
      record { each = λ q out. made t tells q (is_same q at) refl; claim = made_keeps_claim project b at t adds.torn tells adds.is_torn },
    );
    cause = cause;
  }
    where
      gets : (t : FileTree) (q : List (List ℕ)) → map.get (changed t adds.torn) q ≡ cond (is_same q at) (Some entries.Folder) (map.get t q)
      gets t q = ap (λ (change : Change). map.get (changed t change) q) adds.is_torn ∙ get-changed t (changes.FolderMade at) q

      free : (t : FileTree) → b.told ≡ Some t → map.get t at ≡ None
      free t tells = was_free t at (subst (λ (u : FileTree). has_place u (changes.FolderMade at) ≡ true) (sym (on_disk t tells).reads) adds.had_place)

      made : (t : FileTree) → b.told ≡ Some t → (q : List (List ℕ)) (same : Bool) → is_same q at ≡ same
          → (map.get (changed t adds.torn) q ≡ map.get t q) ⊎ IsNewFolder project t (changed t adds.torn) q
      made t tells q true e = inr (record {
        vendor = ap (is_within (vendor_path project)) (same_path q at e) ∙ vendor;
        before = ap (map.get t) (same_path q at e) ∙ free t tells;
        now = gets t q ∙ rw e refl;
      })
      made t tells q false e = inl (gets t q ∙ rw e refl)

pub staging_read : {project : List (List ℕ)} {b d : Meaning} {failed : Bool} → OnlyRead b d failed → Staging project b d failed
staging_read read = staging_same read.cause read.told read.faults read.disks

-- nothing is at a path that is free
pub nothing_at : (at : List (List ℕ)) (m : Meaning) → OfTold m (IsFree at) → (t : FileTree) → m.told ≡ Some t → map.get t at ≡ None
nothing_at at m free t told = subst (λ (p : List (List ℕ)). map.get t p ≡ None) (append-nil at) ((free t told).none [])

-- a call that came through
pub fine : {P : Type 0} → IsTrue false → P
fine f = absurd cc

-- ---- whether a tree is told

told_still : (f : FileTree → FileTree) (b : Option FileTree) → is_some (option_map f b) ≡ is_some b
told_still f None = refl
told_still f (Some t) = refl

pub tells_change : {b d : Meaning} {change : Change} → MayAdd b d change → KeepsTelling b d
tells_change (inl stays) = ap is_some stays.told
tells_change {b} (inr adds) = ap is_some adds.adds.told ∙ told_still (λ (t : FileTree). changed t adds.torn) b.told

pub tells_barrier : {b d : Meaning} → MaySettle b d → KeepsTelling b d
tells_barrier (inl stays) = ap is_some stays.told
tells_barrier (inr settles) = ap is_some settles.told

pub told_after : {b : Option FileTree} (d : Option FileTree) → is_some d ≡ is_some b → (t : FileTree) → b ≡ Some t → (u : FileTree) × (d ≡ Some u)
told_after (Some u) same t told = (u, refl)
told_after None same t told = absurd (let e = ap is_some told in cc)

pub told_before : {d : Option FileTree} (b : Option FileTree) → is_some d ≡ is_some b → (u : FileTree) → d ≡ Some u → (t : FileTree) × (b ≡ Some t)
told_before (Some t) same u told = (t, refl)
told_before None same u told = absurd (let e = ap is_some told in cc)
