use Rattle.std.proofs.Common.{[], map}
use Rattle.json_ordered.specs.Docs.{tree_of, pair_of}
use Rattle.manifest_read.specs.Manifests.{manifest_from}
use Rattle.manifest_read.specs.WellFormed.{IsManifest}
use Rattle.manifest_read.specs.Writable.{IsWritableManifest}
use Rattle.manifest_read.proofs.Formed.{if_given, pairs_are_formed}
use Rattle.manifest_read.proofs.Written.{object_written}
use Rattle.manifest_read.proofs.WrittenManifests.{manifest_written_from}
use Rattle.manifest_read.proofs.document.from_doc.Goals as goal

pub returns-clause-formed : goal.returns-clause-formed
returns-clause-formed c =
    let pairs = map pair_of c.in_ok-pairs.pairs.now in
    if_given (IsManifest c.args.role) (manifest_from c.args.role [] pairs) c.manifest_from.result c.manifest_from.ensures (pairs_are_formed c.args.role [] pairs)

pub returns-clause-writable : goal.returns-clause-writable
returns-clause-writable c w =
    let pairs = map pair_of c.in_ok-pairs.pairs.now in
    if_given IsWritableManifest (manifest_from c.args.role [] pairs) c.manifest_from.result c.manifest_from.ensures
    (λ manifest is. manifest_written_from c.args.role [] pairs manifest (object_written [] (tree_of c.args.doc.now) pairs w c.in_ok-pairs.ensures) is)
