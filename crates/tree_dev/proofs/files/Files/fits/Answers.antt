use Rattle.std.proofs.Common.{ap, arith}
use Rattle.std.specs.FinMap.{len}
use Rattle.tree_dev.proofs.FiniteTrees.{len-tree_of}
use Rattle.tree_dev.proofs.files.Files.fits.Goals as goal

pub returns : goal.returns
returns c =
    let le = len-tree_of c.self.inside.entries.entries in
    let same = ap len c.self.view_is in
    omega (arith, le, same, c.self.invariant)
