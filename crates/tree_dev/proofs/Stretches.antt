-- Stretches of moments through which every tree that a crash may leave passes.
use Rattle.std.proofs.Common.{◌≡◌, ◌≤◌, List, ◌∷◌, inl, inr, subst, arith}
use Rattle.tree_dev.specs.Trees.{FileTree}
use Rattle.tree_dev.specs.Disk.{Disk, Disks, IsImage, LeftSince, WasImage, moment}
use Rattle.tree_dev.specs.Device.{Meaning}
use Rattle.tree_dev.specs.Steady.{EachImage, Through}
use Rattle.tree_dev.proofs.Moments.{image_now, later_itself, later_moment, later_next, later_on, later_same, only_now, since_parts}

module _ (P : FileTree → Type 0) where
  pub through_from : (m : Meaning) → EachImage m P → Through m m P
  through_from m each = record { later = later_itself m.disks; each = λ left since. each left (only_now m.disks left since); faults = omega arith }

  -- what a crash may leave at the end of a stretch
  pub through_ends : (a b : Meaning) → Through a b P → EachImage b P
  through_ends a b run left image = run.each left (image_now b.disks (moment a.disks) left (later_moment a.disks b.disks run.later) image)

  pub through_on : (a b d : Meaning) → Through a b P → Through b d P → Through a d P
  through_on a b d first second = record {
    later = later_on a.disks b.disks d.disks first.later second.later;
    each = λ left since. elim (since_parts b.disks d.disks (moment a.disks) left second.later since) [
      | inl before ↦ first.each left before
      | inr after ↦ second.each left after
    ];
    faults = omega (arith, first.faults, second.faults);
  }

  -- calls through which each image passes together, as those of a function
  pub through_then_through : (a b d : Meaning) → (EachImage b P → Through b d P) → Through a b P → Through a d P
  through_then_through a b d more run = through_on a b d run (more (through_ends a b run))

  -- no moment more
  pub same_moment : (b d : Meaning) → b.faults ≤ d.faults → d.disks ≡ b.disks → EachImage b P → Through b d P
  same_moment b d faults same each = record {
    later = later_same b.disks d.disks same;
    each = λ left since. each left (only_now b.disks left (subst (λ (disks : Disks). LeftSince disks (moment b.disks) left) same since));
    faults = faults;
  }

  -- one moment more, whose images pass
  pub one_moment : (b d : Meaning) → b.faults ≤ d.faults → d.disks.past ≡ b.disks.now ∷ b.disks.past → EachImage b P
      → ((left : FileTree) → IsImage d.disks.now left → P left) → Through b d P
  unfolding WasImage
  one_moment b d faults past each passes = record {
    later = later_next b.disks d.disks past;
    each = λ left since. by_moment left (subst (λ (past : List Disk). WasImage (d.disks.now ∷ past) (moment b.disks) left) past since);
    faults = faults;
  }
    where
      by_moment : (left : FileTree) → WasImage (d.disks.now ∷ (b.disks.now ∷ b.disks.past)) (moment b.disks) left → P left
      by_moment left (inl now) = passes left now.1
      by_moment left (inr before) = each left (only_now b.disks left before)
