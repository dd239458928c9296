use Rattle.std.proofs.Common.{◌≡◌, [], false, take}
use Rattle.tree_dev.specs.Device.{OfTold, OnlyRead}
use Rattle.package_moves.specs.Beside.{AreCounted}
use Rattle.package_moves.specs.Found.{AddsNames}
use Rattle.package_moves.specs.Known.{IsKnown}
use Rattle.package_moves.specs.Wanted.{vendor_name}
use Rattle.package_moves.specs.Needed.{above_counts, needs_in}
use Rattle.package_moves.proofs.unneeded.look_at_names.Given as goal

abbrev pub invariant-loop-name : goal.invariant-loop-name
invariant-loop-name g l =
    let meaning = g.T.Tree.meaning in
    record {
      only : OnlyRead (meaning l.fn.tree) (meaning l.tree) false;
      kept : l.counts.left ≡ l.fn.counts.left;
      vendor : l.found.no_folder ≡ l.fn.found.no_folder;
      counted : OfTold (meaning l.fn.tree) (λ t. AreCounted (above_counts (needs_in l.needed) l.project t l.folder (take l.name-index l.names)) l.fn.counts l.counts);
      known : l.folder ≡ vendor_name → l.fn.found.unneeded.items ≡ [] → l.fn.found.blocked.keys ≡ [] → IsKnown (needs_in l.needed) (take l.name-index l.names) l.found;
      adds : OfTold (meaning l.fn.tree) (λ t. l.counts.passed ≡ false → AddsNames (needs_in l.needed) l.project t l.folder (take l.name-index l.names) l.fn.found l.found);
    }
