use Rattle.std.proofs.Common.{sym, subst}
use Rattle.tree_dev.specs.Disk.{Disks, IsImage, LeftSince}
use Rattle.tree_dev.proofs.disk_laws.reading_keeps_images.Goals as goal

pub returns : goal.returns
returns c = record {
  now = λ a b failed left read. (
    subst (λ (disks : Disks). IsImage disks.now left) read.disks,
    subst (λ (disks : Disks). IsImage disks.now left) (sym read.disks),
  );
  since = λ a b failed since left read. (
    subst (λ (disks : Disks). LeftSince disks since left) read.disks,
    subst (λ (disks : Disks). LeftSince disks since left) (sym read.disks),
  );
}
