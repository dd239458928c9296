use Rattle.std.proofs.Common.{ap, ◌∙◌, ◌<◌, ◌^◌, length, arith, rules}
use Rattle.std.specs.FinMap as map
use Rattle.tree_dev.specs.Stored.{entry_of}
use Rattle.tree_dev.proofs.FiniteTrees.{one_put, len-tree_of}
use Rattle.tree_dev.proofs.files.Files.insert.Goals as goal

pub returns-clause-ok : goal.returns-clause-ok
returns-clause-ok c =
    one_put c.self.inside.entries.entries c.insert.new.self.entries c.args.at c.args.entry c.in_ok-insert.ensures.updates.0
    ∙ ap (λ m. map.insert m c.args.at (entry_of c.args.entry)) c.self.view_is

pub returns-clause-few : goal.returns-clause-few
returns-clause-few c =
    let few : length c.insert.new.self.entries < 2 ^ 32 = search rules in
    let le = len-tree_of c.insert.new.self.entries in
    omega (arith, few, le)
