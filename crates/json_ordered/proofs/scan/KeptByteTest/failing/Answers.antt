use Rattle.std.proofs.Common.{arith}
use Rattle.std.proofs.lemmas.Simd.{zip2_splat}
use Rattle.json_ordered.specs.JsonPrinting.{is_kept}
use Rattle.json_ordered.proofs.Lanes.{equal, below, at_most, from_splat, either, masked}
use Rattle.json_ordered.proofs.scan.KeptByteTest.failing.Goals as goal

pub returns : goal.returns
returns c =
    let v = c.args.bytes in
    let long = c.fits-bytes.0 in
    masked _ is_kept v _ (omega arith) c.fits-bytes.1 (either _ _ v (either _ _ v (either _ _ v (either _ _ v (zip2_splat equal v 16 34 long) (zip2_splat equal v 16 92 long)) (zip2_splat equal v 16 47 long)) (zip2_splat below v 16 32 long)) (from_splat at_most 128 16 v long)) tt
