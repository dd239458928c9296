use Rattle.std.proofs.Common.{◌≡◌, sym, ap, ◌∙◌, arith, Ok, ◌++◌, ◌∷◌, []}
use Rattle.path_name.specs.Given.{◌>>=◌}
use Rattle.std.proofs.lemmas.Result.{err_from_is_err_and}
use Rattle.table_scan.specs.TableTokens.{tokens, left_of}
use Rattle.table_scan.specs.TableReading.{front_from, path_next, At_root, folders_next, At_folder, After_folder}
use Rattle.table_scan.specs.TableSteps.{separator_at}
use Rattle.table_scan.specs.Separators.{separator_of}
use Rattle.table_scan.proofs.Steps.{fails_along, stops_fails, chain_folder, chain_item, behind_folder_item}
use Rattle.table_scan.proofs.rows.folders_inside.Goals as goal
use Rattle.table_scan.proofs.rows.folders_inside.Goals.{After-path, After-behind_item}

folder_next : (c : After-path) → front_from (folders_next c.args.roots.now.project.now) (At_folder []) (tokens c.args.text.now)
    ≡ (front_from (path_next c.args.roots.now.project.now) At_root (tokens c.after_gaps-here.result.now) >>= λ r. front_from (folders_next c.args.roots.now.project.now) (After_folder (c.loop-behind.folders.items ++ r.0 ∷ [])) r.1)
folder_next c = chain_folder c.args.roots.now.project.now c.loop-behind.folders.items (tokens c.args.text.now) (tokens c.loop-behind.rest.now) (tokens c.after_gaps-here.result.now) (left_of (tokens c.after_gaps-here.result.now)) c.loop-behind.invariant.so_far c.after_gaps-here.ensures.same c.in_default.ensures.token

item_next : (c : After-behind_item) → front_from (folders_next c.args.roots.now.project.now) (At_folder []) (tokens c.args.text.now) ≡ (separator_at (tokens c.in_ok-folder.after.now) >>= behind_folder_item c.args.roots.now.project.now c.push.new.self.items)
item_next c = chain_item c.args.roots.now.project.now c.loop-behind.folders.items c.push.new.self.items c.in_ok-folder.folder (tokens c.args.text.now) (tokens c.after_gaps-here.result.now) (tokens c.in_ok-folder.after.now) (chain_folder c.args.roots.now.project.now c.loop-behind.folders.items (tokens c.args.text.now) (tokens c.loop-behind.rest.now) (tokens c.after_gaps-here.result.now) (left_of (tokens c.after_gaps-here.result.now)) c.loop-behind.invariant.so_far c.after_gaps-here.ensures.same c.in_default.ensures.token) c.in_ok-folder.ensures.path c.in_ok-push.ensures.items

pub returns-in_err-folder-clause-reads : goal.returns-in_err-folder-clause-reads
returns-in_err-folder-clause-reads c =
    let p = err_from_is_err_and c.from_residual.result c.from_residual.ensures.1 in
    rw (p.1, p.2) (fails_along c.in_err-folder.field-0.0 _ _ _ (folder_next (goal.at.returns-in_err-folder-clause-reads c).After-path) c.in_err-folder.ensures.path)

pub returns-in_err-next-clause-reads : goal.returns-in_err-next-clause-reads
returns-in_err-next-clause-reads c =
    let p = err_from_is_err_and c.from_residual-in_err-next.result c.from_residual-in_err-next.ensures.1 in
    rw (p.1, p.2) (fails_along c.in_err-next.field-0.0 _ _ _ (item_next (goal.at.returns-in_err-next-clause-reads c).After-behind_item) (stops_fails c.in_err-next.field-0.0 _ c.in_err-next.ensures.reads))

pub loop-behind-preserved : goal.loop-behind-preserved
loop-behind-preserved c = record {
  so_far = sym (item_next (goal.at.loop-behind-preserved c).After-behind_item ∙ ap (λ o. o >>= behind_folder_item c.args.roots.now.project.now c.push.new.self.items) (c.in_ok-next.ensures.reads ∙ ap (λ s. Ok (separator_of s)) c.in-Comma.is));
  within = let l = rw c.in-Comma.is at c.in_ok-next.ensures.shorter in omega (arith, l, c.in_ok-folder.ensures.shorter, c.after_gaps-here.ensures.within, c.loop-behind.invariant.within);
}

pub returns-in-Close-clause-reads : goal.returns-in-Close-clause-reads
returns-in-Close-clause-reads c = item_next (goal.at.returns-in-Close-clause-reads c).After-behind_item ∙ ap (λ o. o >>= behind_folder_item c.args.roots.now.project.now c.push.new.self.items) (c.in_ok-next.ensures.reads ∙ ap (λ s. Ok (separator_of s)) c.in-Close.is)
