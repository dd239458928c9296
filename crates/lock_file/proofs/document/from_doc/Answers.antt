use Rattle.std.proofs.Common.{[], map}
use Rattle.json_ordered.specs.Docs.{pair_of, tree_of}
use Rattle.manifest_read.proofs.Formed.{if_given}
use Rattle.lock_file.specs.Locks.{lock_from}
use Rattle.lock_file.specs.FormedLocks.{IsLock}
use Rattle.manifest_read.proofs.Written.{object_written}
use Rattle.lock_file.specs.Rereading.{IsKept}
use Rattle.lock_file.proofs.FormedEntries.{lock_is_formed}
use Rattle.lock_file.proofs.KeptLocks.{kept_from}
use Rattle.lock_file.proofs.document.from_doc.Goals as goal

pub returns-clause-formed : goal.returns-clause-formed
returns-clause-formed c =
    let pairs = map pair_of c.in_ok-pairs.pairs.now in
    if_given IsLock (lock_from [] pairs) c.lock_from.result c.lock_from.ensures (lock_is_formed [] pairs)

pub returns-clause-kept : goal.returns-clause-kept
returns-clause-kept c = λ written.
    let pairs = map pair_of c.in_ok-pairs.pairs.now in
    if_given IsKept (lock_from [] pairs) c.lock_from.result c.lock_from.ensures (λ lock e. kept_from [] pairs lock (object_written [] (tree_of c.args.doc.now) pairs written c.in_ok-pairs.ensures) e)
