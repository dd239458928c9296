-- Moments, and what a crash may have left since one.
use Rattle.std.proofs.Common.{◌≡◌, ℕ, ◌<◌, ◌≤◌, List, [], ◌∷◌, ◌++◌, length, length-append, append_assoc, ◌⊎◌, inl, inr, refl, sym, ap, subst, ◌∙◌, arith}
use Rattle.tree_dev.specs.Trees.{FileTree}
use Rattle.tree_dev.specs.Disk.{Disk, Disks, IsImage, IsLater, LeftSince, WasImage, moment, settled, with_change}
use Rattle.tree_dev.specs.declared.change.Change.{Change}

-- all moments, the latest first
abbrev pub moments : Disks → List Disk
moments disks = disks.now ∷ disks.past

pub later_itself : (disks : Disks) → IsLater disks disks
later_itself disks = record { since = []; after = refl }

pub later_on : (a b d : Disks) → IsLater a b → IsLater b d → IsLater a d
later_on a b d first second = record {
  since = second.since ++ first.since;
  after = second.after ∙ ap (λ (rest : List Disk). second.since ++ rest) first.after ∙ sym (append_assoc second.since first.since (moments a));
}

pub later_same : (before now : Disks) → now ≡ before → IsLater before now
later_same before now same = subst (λ (disks : Disks). IsLater before disks) (sym same) (later_itself before)

pub later_next : (before now : Disks) → now.past ≡ before.now ∷ before.past → IsLater before now
later_next before now past = record { since = now.now ∷ []; after = ap (λ (past : List Disk). now.now ∷ past) past }

pub later_by_change : (disks : Disks) (change : Change) → IsLater disks (with_change disks change)
later_by_change disks change = record { since = (with_change disks change).now ∷ []; after = refl }

pub later_by_barrier : (disks : Disks) → IsLater disks (settled disks)
later_by_barrier disks = record { since = (settled disks).now ∷ []; after = refl }

pub later_moment : (a b : Disks) → IsLater a b → moment a ≤ moment b
later_moment a b later = omega (arith, ap length later.after, length-append later.since (moments a))

-- since a moment means at a moment that was counted by then
pub since_was : (disks : List Disk) (since : ℕ) (left : FileTree) → WasImage disks since left → since < length disks
unfolding WasImage
since_was [] since left was = absurd was
since_was (latest ∷ earlier) since left (inl now) = omega (arith, now.0)
since_was (latest ∷ earlier) since left (inr was) = omega (arith, since_was earlier since left was)

-- what was left at an earlier moment was left
pub was_among : (front back : List Disk) (since : ℕ) (left : FileTree) → WasImage back since left → WasImage (front ++ back) since left
unfolding WasImage
was_among [] back since left was = was
was_among (latest ∷ front) back since left was = inr (was_among front back since left was)

pub was_later : (a b : Disks) (since : ℕ) (left : FileTree) → IsLater a b → LeftSince a since left → LeftSince b since left
was_later a b since left later was =
    subst (λ (disks : List Disk). WasImage disks since left) (sym later.after) (was_among later.since (moments a) since left was)

-- the moment itself counts
pub image_now : (disks : Disks) (since : ℕ) (left : FileTree) → since ≤ moment disks → IsImage disks.now left → LeftSince disks since left
unfolding WasImage
image_now disks since left le image = inl (le, image)

pub image_before : (a b : Disks) (left : FileTree) → IsLater a b → IsImage a.now left → LeftSince b (moment a) left
image_before a b left later image = was_later a b (moment a) left later (image_now a (moment a) left (omega arith) image)

-- since this very moment: now
pub only_now : (disks : Disks) (left : FileTree) → LeftSince disks (moment disks) left → IsImage disks.now left
unfolding WasImage
only_now disks left (inl now) = now.1
only_now disks left (inr was) = absurd (omega (arith, since_was disks.past (moment disks) left was))

parted : (a : Disks) (front : List Disk) (since : ℕ) (left : FileTree) → WasImage (front ++ moments a) since left
    → LeftSince a since left ⊎ WasImage (front ++ moments a) (moment a) left
unfolding WasImage
parted a [] since left was = inl was
parted a (latest ∷ front) since left (inl now) = inr (inl (omega (arith, length-append front (moments a)), now.1))
parted a (latest ∷ front) since left (inr was) = elim (parted a front since left was) [ inl earlier ↦ inl earlier | inr later ↦ inr (inr later) ]

-- a stretch of moments ends at an earlier moment or goes on from there
pub since_parts : (a b : Disks) (since : ℕ) (left : FileTree) → IsLater a b → LeftSince b since left → LeftSince a since left ⊎ LeftSince b (moment a) left
since_parts a b since left later was =
    elim (parted a later.since since left (subst (λ (disks : List Disk). WasImage disks since left) later.after was)) [
      | inl earlier ↦ inl earlier
      | inr here ↦ inr (subst (λ (disks : List Disk). WasImage disks (moment a) left) (sym later.after) here)
    ]
