use Rattle.std.proofs.Common.{◌≡◌, ap, ◌∙◌, Ok, []}
use Rattle.path_name.specs.Given.{◌>>=◌}
use Rattle.std.proofs.lemmas.Result.{err_from_is_err_and}
use Rattle.table_scan.specs.TableTokens.{tokens, left_of}
use Rattle.table_scan.specs.Keys.{allows}
use Rattle.table_scan.specs.TableReading.{front_from, folders_next, At_array, table_next, At_row}
use Rattle.table_scan.specs.TableFaults.{prefix_row}
use Rattle.table_scan.specs.TableSteps.{separator_at, row_at}
use Rattle.table_scan.specs.Separators.{separator_of}
use Rattle.table_scan.proofs.Steps.{fails_along, stops_fails}
use Rattle.table_scan.proofs.RowSteps.{chain_row, chain_item, chain_next, chain_end, behind_row, behind_item}
use Rattle.table_scan.proofs.rows.prefix_rows.Goals as goal
use Rattle.table_scan.proofs.rows.prefix_rows.Goals.{After-prefix_row, After-behind_item}

row_next : (c : After-prefix_row) → front_from (table_next (allows c.args.keys) prefix_row At_array (folders_next c.args.roots.now.project.now)) (At_row []) (tokens c.args.text.now)
    ≡ (row_at (allows c.args.keys) prefix_row (λ r. front_from (folders_next c.args.roots.now.project.now) At_array r) (tokens c.after_gaps-here.result.now) >>= behind_row (allows c.args.keys) prefix_row At_array (folders_next c.args.roots.now.project.now) c.loop-behind.rows.items)
row_next c = chain_row (allows c.args.keys) prefix_row At_array (folders_next c.args.roots.now.project.now) c.loop-behind.rows.items (tokens c.args.text.now) (tokens c.loop-behind.rest.now) (tokens c.after_gaps-here.result.now) (left_of (tokens c.after_gaps-here.result.now)) c.loop-behind.invariant c.after_gaps-here.ensures.same c.in_default.ensures.token

item_next : (c : After-behind_item) → front_from (table_next (allows c.args.keys) prefix_row At_array (folders_next c.args.roots.now.project.now)) (At_row []) (tokens c.args.text.now)
    ≡ (separator_at (tokens c.in_ok-row.after.now) >>= behind_item (allows c.args.keys) prefix_row At_array (folders_next c.args.roots.now.project.now) c.push.new.self.items)
item_next c = chain_item (allows c.args.keys) prefix_row At_array (folders_next c.args.roots.now.project.now) c.loop-behind.rows.items c.push.new.self.items c.in_ok-row.row (tokens c.args.text.now) (tokens c.after_gaps-here.result.now) (tokens c.in_ok-row.after.now) (chain_row (allows c.args.keys) prefix_row At_array (folders_next c.args.roots.now.project.now) c.loop-behind.rows.items (tokens c.args.text.now) (tokens c.loop-behind.rest.now) (tokens c.after_gaps-here.result.now) (left_of (tokens c.after_gaps-here.result.now)) c.loop-behind.invariant c.after_gaps-here.ensures.same c.in_default.ensures.token) c.in_ok-row.ensures.reads c.in_ok-push.ensures.items

pub returns-in_err-row : goal.returns-in_err-row
returns-in_err-row c =
    let p = err_from_is_err_and c.from_residual-in_err-row.result c.from_residual-in_err-row.ensures.1 in
    rw (p.1, p.2) (record { reads = fails_along c.in_err-row.field-0.0 _ _ _ (row_next (goal.at.returns-in_err-row c).After-prefix_row) c.in_err-row.ensures.reads })

pub returns-in_err-next : goal.returns-in_err-next
returns-in_err-next c =
    let p = err_from_is_err_and c.from_residual-in_err-next.result c.from_residual-in_err-next.ensures.1 in
    rw (p.1, p.2) (record { reads = fails_along c.in_err-next.field-0.0 _ _ _ (item_next (goal.at.returns-in_err-next c).After-behind_item) (stops_fails c.in_err-next.field-0.0 _ c.in_err-next.ensures.reads) })

pub loop-behind-preserved : goal.loop-behind-preserved
loop-behind-preserved c = chain_next (allows c.args.keys) prefix_row At_array (folders_next c.args.roots.now.project.now) c.push.new.self.items (tokens c.args.text.now) (tokens c.in_ok-row.after.now) (tokens c.in-Comma.next.now) (item_next (goal.at.loop-behind-preserved c).After-behind_item) (c.in_ok-next.ensures.reads ∙ ap (λ s. Ok (separator_of s)) c.in-Comma.is)

pub returns-in_err-expect-in-Close : goal.returns-in_err-expect-in-Close
returns-in_err-expect-in-Close c =
    let p = err_from_is_err_and c.from_residual-in_err-expect-in-Close.result c.from_residual-in_err-expect-in-Close.ensures.1 in
    rw (p.1, p.2) (record {
      reads = fails_along c.in_err-expect-in-Close.field-0.0 _ _ _ (chain_end (allows c.args.keys) prefix_row At_array (folders_next c.args.roots.now.project.now) c.push.new.self.items (tokens c.args.text.now) (tokens c.in_ok-row.after.now) (tokens c.in-Close.behind.now)
          (item_next (goal.at.returns-in_err-expect-in-Close c).After-behind_item) (c.in_ok-next.ensures.reads ∙ ap (λ s. Ok (separator_of s)) c.in-Close.is)) (stops_fails c.in_err-expect-in-Close.field-0.0 _ c.in_err-expect-in-Close.ensures.token);
    })

pub returns-in-Close : goal.returns-in-Close
returns-in-Close c = record {
  reads =
      chain_end (allows c.args.keys) prefix_row At_array (folders_next c.args.roots.now.project.now) c.push.new.self.items (tokens c.args.text.now) (tokens c.in_ok-row.after.now) (tokens c.in-Close.behind.now)
      (item_next (goal.at.returns-in-Close c).After-behind_item) (c.in_ok-next.ensures.reads ∙ ap (λ s. Ok (separator_of s)) c.in-Close.is)
      ∙ ap (λ o. o >>= λ rest. Ok (c.push.new.self.items, rest)) c.in_ok-expect-in-Close.ensures.token;
}
