use Rattle.std.proofs.Common.{◌≡◌, ◌++◌, ◌∷◌, [], sym, ap, ◌∙◌}
use Rattle.std.specs.BTreeMap.{get}
use Rattle.path_name.specs.Orders.{byte_cmp}
use Rattle.pkg_pool.specs.Gathering.{row_of, rows_in}
use Rattle.pkg_pool.proofs.ByName.{held_more}
use Rattle.pkg_pool.proofs.gather.hold.Goals as goal
use Rattle.pkg_pool.proofs.gather.hold.Goals.{in-None, in-Some}

pub returns : goal.returns
returns c = λ name.
    let k = c.args.candidate.now.«package».name in
    let key : c.in_ok-name.name ≡ k = c.in_ok-name.ensures in
    let before : c.match-remove.rows.items ≡ rows_in c.remove.result =
    elim c.match-remove.branch [
      | in-None w ↦ ap (λ rows. rows.items) w.rows-is ∙ w.new-rows.ensures.items ∙ ap rows_in (sym w.in-None.is)
      | in-Some w ↦ ap (λ rows. rows.items) w.rows-is ∙ ap rows_in (sym w.in-Some.is)
    ] in
    let added : c.push.new.self.items ≡ rows_in c.remove.result ++ row_of c.args.candidate.now ∷ [] = rw (before, c.in_ok-copy.ensures) at c.in_ok-push.ensures.items in
    held_more k name (row_of c.args.candidate.now) (get byte_cmp c.args.held.now) (get byte_cmp c.remove.new.self name) (get byte_cmp c.insert.new.self name) c.remove.result c.push.new.self
    (rw key at (c.in_ok-_earlier.ensures.updates.0 name)) (rw key at (c.remove.ensures.updates.0 name)) (rw key at c.remove.ensures.value) added
