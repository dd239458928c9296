use Rattle.std.proofs.Common.{is_some, ◌≡◌, ℕ, ◌<◌, ◌≤◌, ◌++◌, List, true, false}
use Rattle.tree_dev.specs.Projects.{file_at}
use Rattle.tree_dev.specs.Trees.{entry_at}
use Rattle.tree_dev.specs.Device.{OfTold}
use Rattle.tree_dev.specs.Disk.{reading}
use Rattle.tree_dev.specs.Steady.{EachImage, IsWhole, Through}
use Rattle.install_world.specs.Blocked.{IsBlocked, NeedsAlike}
use Rattle.install_world.specs.Finishing.{FinishesAlike, Stands}
use Rattle.install_world.specs.InFlight.{IsPart, IsPartDone, old_path, target_path}
use Rattle.install_world.specs.Moving.{IsOnWay, Way}
use Rattle.install_world.specs.Removals.{WritesNone}
use Rattle.install_world.specs.Targets.{AreTargetPaths}
use Rattle.install_world.specs.declared.journal.Journal.{Journal}
use Rattle.install_world.specs.declared.target.Target.{Target}
use Rattle.install_world.proofs.parts.finish_parts.Given as goal

abbrev pub invariant-targets : goal.invariant-targets
invariant-targets g l =
    let before = g.T.Tree.meaning l.fn.tree in
    let now = g.T.Tree.meaning l.tree in
    record {
      writes_none : WritesNone before now false;
      through : OfTold before (λ t. IsWhole before.disks.now → (way : Way) → way.project ≡ l.fn.project → way.journal.targets ≡ l.fn.targets
          → EachImage before (IsOnWay way) → Through before now (IsOnWay way));
      done : OfTold before (λ t. (journal : Journal) → journal.targets ≡ l.fn.targets → Stands l.fn.project journal t
          → (j : ℕ) (other : Target) → j < l.number → IsPart l.fn.targets j other → IsPartDone other.gone l.fn.project j other (reading now.disks.now));
      alike : OfTold before (λ t. (journal : Journal) → journal.targets ≡ l.fn.targets → Stands l.fn.project journal t
          → FinishesAlike l.fn.project journal t (reading now.disks.now));
      old : OfTold before (λ t. AreTargetPaths l.fn.targets → is_some (entry_at t (old_path l.fn.project)) ≡ true
          → is_some (entry_at (reading now.disks.now) (old_path l.fn.project)) ≡ true);
      free : OfTold before (λ t. (journal : Journal) → journal.targets ≡ l.fn.targets → Stands l.fn.project journal t → is_some (entry_at t (old_path l.fn.project)) ≡ true
          → (j : ℕ) (other : Target) → j < l.number → IsPart l.fn.targets j other → (at : List (List ℕ)) → IsBlocked l.fn.project j other t at → ⊥);
      needs : OfTold before (λ t. (journal : Journal) → journal.targets ≡ l.fn.targets → Stands l.fn.project journal t
          → (j : ℕ) (other : Target) → l.number ≤ j → IsPart l.fn.targets j other → NeedsAlike l.fn.project j other t (reading now.disks.now));
      left : OfTold before (λ t. (journal : Journal) → journal.targets ≡ l.fn.targets → Stands l.fn.project journal t
          → (j : ℕ) (other : Target) → l.number ≤ j → IsPart l.fn.targets j other → (below : List (List ℕ))
          → file_at (reading now.disks.now) (target_path l.fn.project other ++ below) ≡ file_at t (target_path l.fn.project other ++ below));
    }
