use Rattle.std.proofs.Common.{◌<◌, false, ℕ}
use Rattle.tree_dev.specs.Device.{OfTold}
use Rattle.tree_dev.specs.Disk.{reading}
use Rattle.tree_dev.specs.Steady.{EachImage, IsWhole, Through}
use Rattle.install_world.specs.InFlight.{IsPart, IsPartDone}
use Rattle.install_world.specs.Moving.{IsOnWay, Way}
use Rattle.install_world.specs.Removals.{WritesNone}
use Rattle.install_world.specs.declared.target.Target.{Target}
use Rattle.vendor_journal.specs.Committing.{HasRoomFrom}
use Rattle.vendor_journal.specs.Prepared.{ArePrepared}
use Rattle.vendor_journal.proofs.commits.move_parts.Given as goal

abbrev pub invariant-parts : goal.invariant-parts
invariant-parts g l =
    let before = g.T.Tree.meaning l.fn.tree in
    let now = g.T.Tree.meaning l.tree in
    record {
      writes_none : WritesNone before now false;
      through : OfTold before (λ t. IsWhole before.disks.now → (way : Way) → ArePrepared way.project way.journal.targets l.fn.parts
          → EachImage before (IsOnWay way) → Through before now (IsOnWay way));
      done : OfTold before (λ t. IsWhole before.disks.now → (way : Way) → ArePrepared way.project way.journal.targets l.fn.parts
          → EachImage before (IsOnWay way) → (j : ℕ) (other : Target) → j < l.number → IsPart way.journal.targets j other
          → IsPartDone other.gone way.project j other (reading now.disks.now));
      room : OfTold before (λ t. IsWhole before.disks.now → (way : Way) → ArePrepared way.project way.journal.targets l.fn.parts
          → EachImage before (IsOnWay way) → HasRoomFrom way.project 0 (reading before.disks.now) → HasRoomFrom way.project l.number (reading now.disks.now));
    }
