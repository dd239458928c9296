use Rattle.std.proofs.Common.{◌≡◌, ℕ, suc, ◌+◌, ◌≤◌, ◌++◌, length, map, ap, ◌∙◌, arith}
use Rattle.std.proofs.lemmas.Result.{on_ok_weaker}
use Rattle.class_paths.specs.RowPath.{row_path_of}
use Rattle.class_paths.specs.Candidates.{of_kind, rows_at, rows_upto}
use Rattle.psr_routes.specs.Groups.{group_at, paths_below}
use Rattle.psr_routes.proofs.BegunRows.{group_fits}
use Rattle.psr_routes.proofs.RowGroups.{groups_give}
use Rattle.psr_routes.proofs.lookups.put_kind.Goals as goal
use Rattle.psr_routes.proofs.lookups.put_kind.Goals.{After-as_slice}

each_group : (c : After-as_slice) (len : ℕ) → len ≤ length c.args.name.now → group_at c.as_slice.result.now len ≡ rows_at (of_kind c.args.kind c.args.rows.now) c.args.name.now len
each_group c len within = ap (λ groups. group_at groups len) c.as_slice.ensures.value ∙ c.in_ok-groups.ensures.each len within

pub put_groups-requires-clause-rows : goal.put_groups-requires-clause-rows
put_groups-requires-clause-rows c = λ len within.
    rw (each_group (goal.at.put_groups-requires-clause-rows c).After-as_slice len within) (group_fits c.args.name.now len within c.args.kind c.args.rows.now c.requires.prefixes)

pub returns : goal.returns
returns c =
    let name = c.args.name.now in
    let groups = c.as_slice.result.now in
    let rows = of_kind c.args.kind c.args.rows.now in
    let count : length c.in_ok-groups.groups.items ≡ length name + 1 = c.in_ok-groups.ensures.count in
    let long : length groups ≡ suc (length name) = rw c.as_slice.ensures.value (omega (arith, count)) in
    let whole : paths_below groups name (length groups) ≡ map (λ row. row_path_of row name) (rows_upto rows name (length name)) =
    rw long (groups_give groups rows name (length name) (each_group (goal.at.returns c).After-as_slice)) in
    on_ok_weaker c.put_groups.result (λ put. put ∙ ap (λ back. c.args.paths.now.items ++ back) whole) c.put_groups.ensures
