use Rattle.std.proofs.Common.{◌++◌, ◌∷◌, [], List, ℕ, Vec, Global, map, take, ap, sym, ◌∙◌}
use Rattle.std.specs.List.{list_any}
use Rattle.path_name.specs.Orders.{path_cmp, path_equality, path_ties, paths_are_equal}
use Rattle.autoload_build.specs.BuiltTables.{first_of_each}
use Rattle.autoload_build.specs.Steps.{lent}
use Rattle.autoload_build.proofs.KnownKeys.{added_kept, added_known, old_kept, old_known}
use Rattle.autoload_build.proofs.PrefixRows.{one_folder_more}
use Rattle.autoload_build.proofs.prefixes.folders_of.Goals.{then-branch+in_ok-copy-2+in_ok-push, else-branch}
use Rattle.autoload_build.proofs.prefixes.folders_of.Goals as goal

pub loop-route-preserved : goal.loop-route-preserved
loop-route-preserved c =
    let group = c.args.group.now in
    let folder = c.route-item.result.now.folder in
    let before = map (λ row. row.folder) (lent (take c.loop-route.route-index group)) in
    let more = one_folder_more group c.loop-route.route-index c.route-item.result c.loop-route-test.true c.route-item.is in
    elim c.if-branch.branch [
      | then-branch+in_ok-copy-2+in_ok-push w ↦
          let items = ap (λ (folders : Vec (List (List ℕ)) Global). folders.items) w.folders-is ∙ w.in_ok-push.ensures.items ∙ ap (λ one. c.loop-route.folders.items ++ one ∷ []) w.in_ok-copy-2.ensures in
          record {
            folders = items
                ∙ added_kept path_cmp paths_are_equal path_equality path_ties (λ (path : List (List ℕ)). path) c.loop-route.seen c.insert.new.self before c.loop-route.folders.items folder c.in_ok-copy.field-0 c.in_ok-insert.field-0
                c.in_ok-copy.ensures c.in_ok-insert.ensures.added c.in_ok-insert.ensures.updates.0 c.loop-route.invariant.folders c.loop-route.invariant.seen w.if-branch.true
                ∙ ap (first_of_each paths_are_equal) (sym more);
            seen = λ path.
                added_known path_cmp paths_are_equal path_equality path_ties (λ (path : List (List ℕ)). path) c.loop-route.seen c.insert.new.self before c.loop-route.folders.items folder c.in_ok-copy.field-0 c.in_ok-insert.field-0
                c.in_ok-copy.ensures c.in_ok-insert.ensures.added c.in_ok-insert.ensures.updates.0 c.loop-route.invariant.folders c.loop-route.invariant.seen path
                ∙ ap (list_any (paths_are_equal path)) (sym items);
          }
      | else-branch w ↦
          let items = ap (λ (folders : Vec (List (List ℕ)) Global). folders.items) w.folders-is in
          record {
            folders = items
                ∙ old_kept path_cmp paths_are_equal path_equality path_ties (λ (path : List (List ℕ)). path) c.loop-route.seen c.insert.new.self before c.loop-route.folders.items folder c.in_ok-copy.field-0 c.in_ok-insert.field-0
                c.in_ok-copy.ensures c.in_ok-insert.ensures.added c.in_ok-insert.ensures.updates.0 c.loop-route.invariant.folders c.loop-route.invariant.seen w.if-branch.false
                ∙ ap (first_of_each paths_are_equal) (sym more);
            seen = λ path.
                old_known path_cmp paths_are_equal path_equality path_ties (λ (path : List (List ℕ)). path) c.loop-route.seen c.insert.new.self before c.loop-route.folders.items folder c.in_ok-copy.field-0 c.in_ok-insert.field-0
                c.in_ok-copy.ensures c.in_ok-insert.ensures.added c.in_ok-insert.ensures.updates.0 c.loop-route.invariant.folders c.loop-route.invariant.seen w.if-branch.false path
                ∙ ap (list_any (paths_are_equal path)) (sym items);
          }
    ]
