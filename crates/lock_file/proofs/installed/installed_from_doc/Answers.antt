use Rattle.std.proofs.Common.{[], map}
use Rattle.json_ordered.specs.Docs.{pair_of}
use Rattle.manifest_read.proofs.Formed.{if_given}
use Rattle.lock_file.specs.InstalledPackages.{installed_from}
use Rattle.lock_file.specs.FormedLocks.{IsInstalled}
use Rattle.lock_file.proofs.FormedEntries.{installed_is_formed}
use Rattle.lock_file.proofs.installed.installed_from_doc.Goals as goal

pub returns-clause-formed : goal.returns-clause-formed
returns-clause-formed c =
    let pairs = map pair_of c.in_ok-pairs.pairs.now in
    if_given IsInstalled (installed_from [] pairs) c.installed_from.result c.installed_from.ensures (installed_is_formed [] pairs)
