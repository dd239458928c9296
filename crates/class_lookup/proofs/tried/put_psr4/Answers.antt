use Rattle.std.proofs.Common.{◌≡◌, ℕ, suc, ◌+◌, ◌≤◌, ◌++◌, length, ap, ◌∙◌, arith}
use Rattle.std.proofs.lemmas.Result.{on_ok_weaker}
use Rattle.class_lookup.specs.Groups.{table_rows_at, group_at, in_groups}
use Rattle.class_lookup.specs.Lookup.{psr4_candidates}
use Rattle.class_lookup.proofs.Prefixes.{group_fits}
use Rattle.class_lookup.proofs.TableRoutes.{same_candidates}
use Rattle.class_lookup.proofs.tried.put_psr4.Goals as goal
use Rattle.class_lookup.proofs.tried.put_psr4.Goals.{After-as_slice}

each_group : (c : After-as_slice) (len : ℕ) → len ≤ length c.args.name.now → group_at c.as_slice.result.now len ≡ table_rows_at c.args.rows.now c.args.name.now len
each_group c len within = ap (λ groups. group_at groups len) c.as_slice.ensures.value ∙ c.in_ok-groups.ensures.each len within

pub put_groups-requires-clause-rows : goal.put_groups-requires-clause-rows
put_groups-requires-clause-rows c = λ len within.
    rw (each_group (goal.at.put_groups-requires-clause-rows c).After-as_slice len within)
    (group_fits c.psr4_prefixes.ensures.empty c.psr4_prefixes.ensures.ended c.args.name.now len within c.args.rows.now c.requires.prefixes)

pub returns : goal.returns
returns c =
    let name = c.args.name.now in
    let groups = c.as_slice.result.now in
    let count : length c.in_ok-groups.groups.items ≡ length name + 1 = c.in_ok-groups.ensures.count in
    let long : length groups ≡ suc (length name) = rw c.as_slice.ensures.value (omega (arith, count)) in
    let whole : in_groups groups name (length groups) ≡ psr4_candidates c.args.rows.now name = rw long (same_candidates groups c.args.rows.now name (each_group (goal.at.returns c).After-as_slice)) in
    on_ok_weaker c.put_groups.result (λ put. put ∙ ap (λ back. c.args.paths.now.items ++ back) whole) c.put_groups.ensures
