use Rattle.std.proofs.Common.{arith}
use Rattle.std.proofs.lemmas.Simd.{zip2_splat}
use Rattle.path_name.specs.Bytes.{is_blank}
use Rattle.json_ordered.proofs.Lanes.{unequal, both, masked}
use Rattle.json_ordered.proofs.scan.BlankByteTest.failing.Goals as goal

pub returns : goal.returns
returns c =
    let v = c.args.bytes in
    let long = c.fits-bytes.0 in
    masked _ is_blank v _ (omega arith) c.fits-bytes.1 (both _ _ v (both _ _ v (both _ _ v (zip2_splat unequal v 16 32 long) (zip2_splat unequal v 16 10 long)) (zip2_splat unequal v 16 9 long)) (zip2_splat unequal v 16 13 long)) tt
