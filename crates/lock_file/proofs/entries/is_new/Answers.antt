use Rattle.std.proofs.Common.{subst, true}
use Rattle.std.specs.BTreeSet.{Updates}
use Rattle.path_name.specs.Orders.{byte_cmp}
use Rattle.lock_file.proofs.Behind.{holds_more}
use Rattle.lock_file.proofs.entries.is_new.Goals as goal

pub returns-clause-seen : goal.returns-clause-seen
returns-clause-seen c = λ before holds. holds_more c.args.seen.now c.insert.new.self before c.args.name.now
    (subst (λ key. Updates byte_cmp c.args.seen.now c.insert.new.self key true) c.in_ok-name.ensures c.in_ok-new.ensures.updates) holds
