use Rattle.std.proofs.Common.{◌≡◌, Some, sym, ◌∙◌}
use Rattle.std.specs.BTreeMap.{get}
use Rattle.path_name.specs.Orders.{byte_cmp}
use Rattle.pkg_pool.specs.Stability.{counting}
use Rattle.pkg_pool.proofs.Flags.{put_there}
use Rattle.pkg_pool.proofs.stability.put_flag.Goals as goal

pub returns-in_ok-_earlier : goal.returns-in_ok-_earlier
returns-in_ok-_earlier c = λ name.
    let link = c.args.link.now in
    let key : c.in_ok-name.name ≡ link.name = c.in_ok-name.ensures in
    let counts : counting c.args.minimum link.wants.flag ≡ Some c.in-Some.grade = rw c.flag.ensures at (sym c.counting.ensures ∙ c.in-Some.is) in
    let found : c.copied-found.result ≡ get byte_cmp c.args.flags.now link.name = rw (← key) (c.copied-found.ensures ∙ c.get.ensures.value) in
    put_there c.args.minimum link.wants.flag c.in-Some.grade c.less_stable_grade.result link.name name (get byte_cmp c.args.flags.now) (get byte_cmp c.insert.new.self name)
    (rw key at (c.in_ok-_earlier.ensures.updates.0 name)) counts (rw found at c.less_stable_grade.ensures)
