use Rattle.std.proofs.Common.{sym, subst, true}
use Rattle.std.specs.BTreeSet.{Updates}
use Rattle.path_name.specs.Orders.{path_cmp}
use Rattle.install_world.specs.Reading.{IsRead}
use Rattle.install_world.proofs.ReadTargets.{one_more}
use Rattle.install_world.proofs.reader.Reader.keep.Goals as goal

pub returns-clause-is_read : goal.returns-clause-is_read
returns-clause-is_read c =
    subst (λ targets. IsRead c.args.self.now.version targets c.insert.new.self) (sym c.in_ok-push.ensures.items)
    (one_more c.args.self.now.version c.args.self.now.targets.items c.args.self.now.paths c.insert.new.self c.args.target
    c.requires.is_read c.requires.is_target c.requires.apart
    (subst (λ key. Updates path_cmp c.args.self.now.paths c.insert.new.self key true) c.in_ok-copy.ensures c.in_ok-insert.ensures.updates))
