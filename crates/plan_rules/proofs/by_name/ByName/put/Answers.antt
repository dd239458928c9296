use Rattle.std.proofs.Common.{◌≡◌, ◌∙◌, ap, sym, ◌++◌, [], ◌∷◌}
use Rattle.std.specs.BTreeMap.{get}
use Rattle.path_name.specs.Orders.{byte_cmp}
use Rattle.plan_rules.proofs.Rows.{all_of, put_rows}
use Rattle.plan_rules.proofs.by_name.ByName.put.Goals as goal
use Rattle.plan_rules.proofs.by_name.ByName.put.Goals.{in-Some, in-None}

pub returns : goal.returns
returns g c = λ other.
    let old = c.args.self.now.rows in
    let name = c.args.name.now in
    let had : c.match-remove.rows.items ≡ all_of (λ rows. rows.items) (get byte_cmp old name) = elim c.match-remove.branch [
      | in-Some w ↦ ap (λ rows. rows.items) w.rows-is ∙ ap (all_of (λ rows. rows.items)) (sym w.in-Some.is ∙ c.remove.ensures.value)
      | in-None w ↦ ap (λ rows. rows.items) w.rows-is ∙ w.new-rows.ensures.items ∙ ap (all_of (λ rows. rows.items)) (sym w.in-None.is ∙ c.remove.ensures.value)
    ] in
    put_rows (λ rows. rows.items) name c.in_ok-copy.field-0 other c.args.row c.push.new.self (get byte_cmp old name) (get byte_cmp old other) (get byte_cmp c.remove.new.self other) (get byte_cmp c.insert.new.self other)
    c.in_ok-copy.ensures (ap (get byte_cmp old)) (c.in_ok-push.ensures.items ∙ ap (λ rows. rows ++ c.args.row ∷ []) had) (c.remove.ensures.updates.0 other) (c.in_ok-_none.ensures.updates.0 other)
