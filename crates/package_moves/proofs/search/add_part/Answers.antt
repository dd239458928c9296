use Rattle.std.proofs.Common.{sym, ◌∙◌}
use Rattle.std.proofs.lemmas.Result.{on_ok_weaker}
use Rattle.std.specs.BTreeSet.{contains}
use Rattle.path_name.specs.Orders.{path_cmp}
use Rattle.package_moves.proofs.Gathering.{own_added}
use Rattle.package_moves.proofs.search.add_part.Goals as goal

pub returns-in-None : goal.returns-in-None
returns-in-None c = λ wanted earlier there untaken. on_ok_weaker c.add_own.result (λ adds.
    own_added (contains path_cmp c.args.blocked.now) wanted earlier c.args.part.now c.args.stands c.args.parts.now.items c.add_own.new.parts.items c.args.folders.now (sym c.in_ok-folder.ensures ∙ c.in-None.is) untaken adds)
    c.add_own.ensures
