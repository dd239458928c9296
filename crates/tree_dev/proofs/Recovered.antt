-- What a crash leaves at one path, where writes are pending.
use Rattle.std.proofs.Common.{◌≡◌, Bool, true, false, List, [], ◌∷◌, ◌++◌, ℕ, Option, Some, None, cond, refl, sym, ap, ◌∙◌, ◌⊎◌, inl, inr}
use Rattle.std.specs.FinMap as map
use Rattle.tree_dev.specs.Trees.{FileTree, behind}
use Rattle.tree_dev.specs.Changes.{IsTorn, changed, entry_after}
use Rattle.tree_dev.specs.Disk.{IsLeftByAll, made}
use Rattle.tree_dev.specs.declared.change.Change.{Change}
use Rattle.tree_dev.specs.declared.change.Change.TheVariants as changes
use Rattle.tree_dev.specs.declared.entry.Entry.{Entry}
use Rattle.tree_dev.specs.declared.entry.Entry.TheVariants as entries
use Rattle.tree_dev.proofs.Changed.{get-changed}
use Rattle.tree_dev.proofs.Images.{left_whole, torn_itself}
use Rattle.tree_dev.proofs.SamePaths.{is_same}

-- where the entry at a path comes from, after a change that may be torn: it is known, it stood at a path before, or it is a
-- file that was written
abbrev IsKnown : Change → List (List ℕ) → Type 0
IsKnown change q = (entry : Option Entry) × ((t : FileTree) (torn : Change) → IsTorn change torn → map.get (changed t torn) q ≡ entry)

abbrev IsCarried : Change → List (List ℕ) → Type 0
IsCarried change q = (from : List (List ℕ)) × ((t : FileTree) (torn : Change) → IsTorn change torn → map.get (changed t torn) q ≡ map.get t from)

abbrev IsFresh : Change → List (List ℕ) → Type 0
IsFresh change q = (any : List ℕ) → (torn : Change) × IsTorn change torn × ((t : FileTree) → map.get (changed t torn) q ≡ Some (entries.File any))

gets_torn : (t : FileTree) (torn change : Change) (q : List (List ℕ)) → torn ≡ change → map.get (changed t torn) q ≡ entry_after t change q
gets_torn t torn change q is = ap (λ (c : Change). map.get (changed t c) q) is ∙ get-changed t change q

one_entry : (change : Change) (at q : List (List ℕ)) (new : Option Entry) (same : Bool) → is_same q at ≡ same
    → ((t : FileTree) → entry_after t change q ≡ cond (is_same q at) new (map.get t q)) → ((torn : Change) → IsTorn change torn → torn ≡ change)
    → IsKnown change q ⊎ IsCarried change q
one_entry change at q new true e after whole = inl (new, λ t torn is. gets_torn t torn change q (whole torn is) ∙ after t ∙ rw e refl)
one_entry change at q new false e after whole = inr (q, λ t torn is. gets_torn t torn change q (whole torn is) ∙ after t ∙ rw e refl)

written_entry : (at q : List (List ℕ)) (bytes : List ℕ) (same : Bool) → is_same q at ≡ same → IsCarried (changes.Written at bytes) q ⊎ IsFresh (changes.Written at bytes) q
written_entry at q bytes true e = inr (λ any. (changes.Written at any, (any, refl), λ t. get-changed t (changes.Written at any) q ∙ rw e refl))
written_entry at q bytes false e = inl (q, λ t torn is. gets_torn t torn (changes.Written at is.0) q is.1 ∙ rw e refl)

renamed_entry : (from to q : List (List ℕ)) (above left : Option (List (List ℕ))) → behind to q ≡ above → behind from q ≡ left
    → IsKnown (changes.Renamed from to) q ⊎ IsCarried (changes.Renamed from to) q
renamed_entry from to q (Some rest) left e f = inr (from ++ rest, λ t torn is. gets_torn t torn (changes.Renamed from to) q is ∙ rw e refl)
renamed_entry from to q None (Some rest) e f = inl (None, λ t torn is. gets_torn t torn (changes.Renamed from to) q is ∙ rw (e, f) refl)
renamed_entry from to q None None e f = inr (q, λ t torn is. gets_torn t torn (changes.Renamed from to) q is ∙ rw (e, f) refl)

known_or_carried : {A B C : Type 0} → A ⊎ B → A ⊎ (B ⊎ C)
known_or_carried (inl a) = inl a
known_or_carried (inr b) = inr (inl b)

comes_from : (change : Change) (q : List (List ℕ)) → IsKnown change q ⊎ (IsCarried change q ⊎ IsFresh change q)
comes_from (changes.Written at bytes) q = inr (written_entry at q bytes (is_same q at) refl)
comes_from (changes.FolderMade at) q =
    known_or_carried (one_entry (changes.FolderMade at) at q (Some entries.Folder) (is_same q at) refl (λ t. refl) (λ torn is. is))
comes_from (changes.Renamed from to) q = known_or_carried (renamed_entry from to q (behind to q) (behind from q) refl refl)
comes_from (changes.FileRemoved at) q = known_or_carried (one_entry (changes.FileRemoved at) at q None (is_same q at) refl (λ t. refl) (λ torn is. is))
comes_from (changes.FolderRemoved at) q = known_or_carried (one_entry (changes.FolderRemoved at) at q None (is_same q at) refl (λ t. refl) (λ torn is. is))

-- the same entry in all that is left, or a file of any bytes in some
abbrev pub IsSame : FileTree → List Change → List (List ℕ) → Type 0
IsSame base pending q = (left : FileTree) → IsLeftByAll base pending left → map.get left q ≡ map.get (made base pending) q

abbrev pub IsAnyFile : FileTree → List Change → List (List ℕ) → Type 0
IsAnyFile base pending q = (any : List ℕ) → (left : FileTree) × IsLeftByAll base pending left × (map.get left q ≡ Some (entries.File any))

module _ (base : FileTree) (latest : Change) (earlier : List Change) where
  known_after : (q : List (List ℕ)) → IsKnown latest q → IsSame base (latest ∷ earlier) q
  unfolding made IsLeftByAll
  known_after q known left applied =
      let leaves = applied.2 in
      ap (λ (t : FileTree). map.get t q) leaves.after ∙ known.1 applied.0 leaves.torn leaves.is_torn ∙ sym (known.1 (made base earlier) latest (torn_itself latest))

  carried_same : (q : List (List ℕ)) (carried : IsCarried latest q) → IsSame base earlier carried.0 → IsSame base (latest ∷ earlier) q
  unfolding made IsLeftByAll
  carried_same q carried same left applied =
      let leaves = applied.2 in
      ap (λ (t : FileTree). map.get t q) leaves.after ∙ carried.1 applied.0 leaves.torn leaves.is_torn ∙ same applied.0 applied.1
      ∙ sym (carried.1 (made base earlier) latest (torn_itself latest))

  carried_any : (q : List (List ℕ)) (carried : IsCarried latest q) → IsAnyFile base earlier carried.0 → IsAnyFile base (latest ∷ earlier) q
  unfolding IsLeftByAll
  carried_any q carried files any =
      let before = files any in
      (changed before.0 latest, (before.0, before.1, record { torn = latest; is_torn = torn_itself latest; after = refl }), carried.1 before.0 latest (torn_itself latest) ∙ before.2)

  fresh_any : (q : List (List ℕ)) → ((left : FileTree) × IsLeftByAll base earlier left) → IsFresh latest q → IsAnyFile base (latest ∷ earlier) q
  unfolding IsLeftByAll
  fresh_any q before fresh any =
      let how = fresh any in
      (changed before.0 how.0, (before.0, before.1, record { torn = how.0; is_torn = how.1; after = refl }), how.2 before.0)

nothing_pending : (base : FileTree) (q : List (List ℕ)) → IsSame base [] q
unfolding made IsLeftByAll
nothing_pending base q left applied = ap (λ (t : FileTree). map.get t q) applied

pub same_or_any : (base : FileTree) (pending : List Change) (q : List (List ℕ)) → IsSame base pending q ⊎ IsAnyFile base pending q
same_or_any base [] q = inl (nothing_pending base q)
same_or_any base (latest ∷ earlier) q = elim (comes_from latest q) [
  | inl known ↦ inl (known_after base latest earlier q known)
  | inr (inl carried) ↦ by_before carried (same_or_any base earlier carried.0)
  | inr (inr fresh) ↦ inr (fresh_any base latest earlier q (made base earlier, left_whole base earlier) fresh)
]
  where
    by_before : (carried : IsCarried latest q) → IsSame base earlier carried.0 ⊎ IsAnyFile base earlier carried.0 → IsSame base (latest ∷ earlier) q ⊎ IsAnyFile base (latest ∷ earlier) q
    by_before carried (inl same) = inl (carried_same base latest earlier q carried same)
    by_before carried (inr files) = inr (carried_any base latest earlier q carried files)
