use Rattle.std.proofs.Common.{map}
use Rattle.json_ordered.specs.Docs.{tree_of, pair_of}
use Rattle.manifest_read.specs.Packages.{package_entry_from}
use Rattle.manifest_read.specs.WellFormed.{IsMember}
use Rattle.manifest_read.specs.Writable.{IsWritablePackage}
use Rattle.manifest_read.proofs.Formed.{if_given, entry_package_formed}
use Rattle.manifest_read.proofs.Written.{object_written}
use Rattle.manifest_read.proofs.WrittenManifests.{entry_written_from}
use Rattle.manifest_read.proofs.package.package_from_doc.Goals as goal

pub returns-clause-formed : goal.returns-clause-formed
returns-clause-formed c =
    let pairs = map pair_of c.in_ok-pairs.pairs.now in
    if_given IsMember (package_entry_from c.args.at.now pairs) c.package_entry.result c.package_entry.ensures (entry_package_formed c.args.at.now pairs)

pub returns-clause-writable : goal.returns-clause-writable
returns-clause-writable c w =
    let pairs = map pair_of c.in_ok-pairs.pairs.now in
    if_given IsWritablePackage (package_entry_from c.args.at.now pairs) c.package_entry.result c.package_entry.ensures
    (λ entry is. entry_written_from c.args.at.now pairs entry (object_written c.args.at.now (tree_of c.args.doc.now) pairs w c.in_ok-pairs.ensures) is)
