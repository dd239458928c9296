-- What looking at an entry says of the walk of it.
use Rattle.std.proofs.Common.{◌≡◌, ℕ, ◌<◌, ◌≤◌, Bool, true, false, List, ◌++◌, length, Option, Some, None, is_some, Result, Ok, Err, refl, sym, ap, subst, ◌∙◌, arith, nat_lt, inl, inr}
use Rattle.std.specs.Result.{IsErrAnd}
use Rattle.std.proofs.lemmas.Bool.Decides.{nat_tests}
use Rattle.tree_dev.specs.Trees.{FileTree, entry_at}
use Rattle.tree_dev.specs.Changes.{is_file}
use Rattle.tree_dev.specs.declared.entry.Entry.{Entry}
use Rattle.tree_dev.specs.declared.entry.Entry.TheVariants as entries
use Rattle.tree_dev.specs.declared.limits.LimitKind.{LimitKind}
use Rattle.tree_dev.specs.declared.limits.LimitKind.TheVariants as limits
use Rattle.tree_dev.specs.declared.limits.TheConstants.{FILE_BYTES}
use Rattle.class_walk.specs.Faults.{Refuses, Tells}
use Rattle.class_walk.specs.Walks.{Search, Walked, entry_walked, file_walked, is_deep, is_scanned, kind_walked, with_file}
use Rattle.class_walk.specs.Searches.{Adds, Asks, FileGoes, Looks, Reads, RefusesDeep}
use Rattle.class_walk.specs.declared.fault.WalkFault.{WalkFault}
use Rattle.class_walk.specs.declared.fault.WalkFault.TheVariants as faults
use Rattle.class_walk.specs.declared.job.Scanned.{Scanned}

pub deep_is : (tail : List (List ℕ)) → 64 < length tail → is_deep tail ≡ true
deep_is tail more = grind (arith, nat_tests)

pub not_deep : (tail : List (List ℕ)) → length tail ≤ 64 → is_deep tail ≡ false
not_deep tail few = grind (arith, nat_tests)

module _ (t : FileTree) (search : Search) (tail : List (List ℕ)) where
  abbrev at : List (List ℕ)
  at = search.job.at ++ tail

  entry_is : (e : Option Entry) (walked : Walked) → entry_at t at ≡ e → entry_walked t search tail walked ≡ kind_walked t search tail e walked
  unfolding entry_walked
  entry_is e walked is = ap (λ entry. kind_walked t search tail entry walked) is

  never_none : is_some (entry_at t at) ≡ true → entry_at t at ≡ None → ⊥
  never_none there none = let wrong : false ≡ true = sym (ap is_some none) ∙ there in cc

  -- ---- too deep

  deep_folder : (walked : Walked) → is_deep tail ≡ true → entry_at t at ≡ Some entries.Folder → entry_walked t search tail walked ≡ Err (faults.Limit (limits.Depth at))
  deep_folder walked deep is = entry_is (Some entries.Folder) walked is ∙ rw deep refl

  deep_file : (walked : Walked) (bytes : List ℕ) → is_deep tail ≡ true → entry_at t at ≡ Some (entries.File bytes) → entry_walked t search tail walked ≡ Err (faults.Limit (limits.Depth at))
  deep_file walked bytes deep is = entry_is (Some (entries.File bytes)) walked is ∙ rw deep refl

  other_entry : (walked : Walked) (path : List (List ℕ)) → path ≡ at → entry_at t at ≡ Some entries.Other → entry_walked t search tail walked ≡ Err (faults.OtherEntry path)
  other_entry walked path same is = entry_is (Some entries.Other) walked is ∙ ap (λ (p : List (List ℕ)). refused (faults.OtherEntry p)) (sym same)
    where
      refused : WalkFault → Result Walked WalkFault
      refused fault = Err fault

  module _ (found : List Scanned) (left : ℕ) where
    pub looked_deep : (r : Result Bool WalkFault) → is_deep tail ≡ true → is_some (entry_at t at) ≡ true → RefusesDeep at (entry_at t at) r → Looks t search tail found left found left r
    looked_deep (Ok b) deep there refuses = absurd refuses
    looked_deep (Err (faults.OtherEntry path)) deep there refuses = λ walked. other_entry walked path refuses.0 refuses.1
    looked_deep (Err (faults.Vanished path)) deep there refuses = absurd (never_none there refuses)
    looked_deep (Err (faults.Limit kind)) deep there refuses = λ walked. elim refuses.1 [
      | inl folder ↦ deep_folder walked deep folder ∙ ap (λ (k : LimitKind). limited k) (sym refuses.0)
      | inr file ↦ deep_file walked file.0 deep file.1 ∙ ap (λ (k : LimitKind). limited k) (sym refuses.0)
    ]
      where
        limited : LimitKind → Result Walked WalkFault
        limited k = Err (faults.Limit k)
    looked_deep (Err (faults.ClassmapMissing path)) deep there refuses = absurd refuses
    looked_deep (Err faults.DeviceFault) deep there refuses = λ walked. tt
    looked_deep (Err faults.OutOfMemory) deep there refuses = λ walked. tt

    -- ---- not scanned

    asked_file : (walked : Walked) (bytes : List ℕ) → is_deep tail ≡ false → is_scanned search tail ≡ false → entry_at t at ≡ Some (entries.File bytes) → entry_walked t search tail walked ≡ Ok walked
    asked_file walked bytes deep scanned is = entry_is (Some (entries.File bytes)) walked is ∙ rw (deep, scanned) refl

    pub asked : (r : Result Bool WalkFault) → is_deep tail ≡ false → is_scanned search tail ≡ false → is_some (entry_at t at) ≡ true → Asks at (entry_at t at) r → Looks t search tail found left found left r
    asked (Ok true) deep scanned there asks = record { no_file = record { there = there; no_file = ap is_file asks }; deep = deep; found_is = refl; left_is = refl }
    asked (Ok false) deep scanned there asks = record { bytes = asks.0; file = asks.1; goes = λ walked tells. (walked, asked_file walked asks.0 deep scanned asks.1, tells) }
    asked (Err (faults.OtherEntry path)) deep scanned there asks = λ walked. other_entry walked path asks.0 asks.1
    asked (Err (faults.Vanished path)) deep scanned there asks = absurd (never_none there asks)
    asked (Err (faults.Limit kind)) deep scanned there asks = absurd asks
    asked (Err (faults.ClassmapMissing path)) deep scanned there asks = absurd asks
    asked (Err faults.DeviceFault) deep scanned there asks = λ walked. tt
    asked (Err faults.OutOfMemory) deep scanned there asks = λ walked. tt
    -- ---- read

  pub read_refused : (fault : WalkFault) (walked : Walked) → is_deep tail ≡ false → is_scanned search tail ≡ true → is_some (entry_at t at) ≡ true → Reads t at (Err fault) → Refuses fault (entry_walked t search tail walked)
  read_refused (faults.OtherEntry path) walked deep scanned there reads = absurd reads
  read_refused (faults.Vanished path) walked deep scanned there reads = absurd (never_none there reads)
  read_refused (faults.Limit kind) walked deep scanned there reads =
      entry_is (Some (entries.File reads.1)) walked reads.2 ∙ rw (deep, scanned, reads.3) (ap (λ (k : LimitKind). limited k) (sym reads.0))
    where
      limited : LimitKind → Result Walked WalkFault
      limited k = Err (faults.Limit k)
  read_refused (faults.ClassmapMissing path) walked deep scanned there reads = absurd reads
  read_refused faults.DeviceFault walked deep scanned there reads = tt
  read_refused faults.OutOfMemory walked deep scanned there reads = tt

  read_walked : (walked : Walked) (bytes : List ℕ) → is_deep tail ≡ false → is_scanned search tail ≡ true → entry_at t at ≡ Some (entries.File bytes) → nat_lt FILE_BYTES (length bytes) ≡ false
      → entry_walked t search tail walked ≡ Ok (with_file search tail bytes walked)
  read_walked walked bytes deep scanned is fits = entry_is (Some (entries.File bytes)) walked is ∙ rw (deep, scanned, fits) refl

  pub file_read : (bytes : List ℕ) (found after : List Scanned) (left rest : ℕ) → is_deep tail ≡ false → is_scanned search tail ≡ true → entry_at t at ≡ Some (entries.File bytes) → nat_lt FILE_BYTES (length bytes) ≡ false
      → Adds search tail bytes found after → rest ≡ left → FileGoes t search tail found left after rest
  file_read bytes found after left rest deep scanned is fits adds same = record {
    bytes = bytes;
    file = is;
    goes = λ walked tells. (with_file search tail bytes walked, read_walked walked bytes deep scanned is fits, (adds walked.found tells.0, tells.1 ∙ sym same));
  }

  pub passed_on : (r : Result Bool WalkFault) (fault : WalkFault) (found after : List Scanned) (left rest : ℕ) → IsErrAnd r (λ y. y ≡ fault) → ((walked : Walked) → Refuses fault (entry_walked t search tail walked)) → Looks t search tail found left after rest r
  passed_on (Ok b) fault found after left rest is refuses = absurd is
  passed_on (Err other) fault found after left rest is refuses = λ walked. subst (λ (f : WalkFault). Refuses f (entry_walked t search tail walked)) (sym is) (refuses walked)

same_file : (a b : List ℕ) (e : Option Entry) → e ≡ Some (entries.File a) → e ≡ Some (entries.File b) → a ≡ b
same_file a b e one other = let same : Some (entries.File a) ≡ Some (entries.File b) = sym one ∙ other in cc

scanned_file : (search : Search) (tail : List (List ℕ)) (bytes : List ℕ) (walked : Walked) → is_scanned search tail ≡ true → nat_lt FILE_BYTES (length bytes) ≡ false → file_walked search tail bytes walked ≡ Ok (with_file search tail bytes walked)
scanned_file search tail bytes walked scanned fits = rw (scanned, fits) refl

-- a listed file that was read
pub lone_read : (search : Search) (tail root : List (List ℕ)) (b bytes : List ℕ) (e : Option Entry) (found after : List Scanned) (left rest : ℕ) → tail ≡ root → e ≡ Some (entries.File b) → e ≡ Some (entries.File bytes)
    → is_scanned search tail ≡ true → nat_lt FILE_BYTES (length b) ≡ false → Adds search tail b found after → rest ≡ left
    → (walked : Walked) → Tells walked found left → (next : Walked) × (file_walked search root bytes walked ≡ Ok next) × Tells next after rest
lone_read search tail root b bytes e found after left rest at_root read file scanned fits adds same walked tells = (
  with_file search tail b walked,
  ap (λ (p : List (List ℕ)). file_walked search p bytes walked) (sym at_root) ∙ ap (λ (x : List ℕ). file_walked search tail x walked) (same_file bytes b e file read) ∙ scanned_file search tail b walked scanned fits,
  (adds walked.found tells.0, tells.1 ∙ sym same),
)
