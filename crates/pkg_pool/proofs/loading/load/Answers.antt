use Rattle.std.proofs.Common.{refl, ◌∙◌}
use Rattle.std.proofs.lemmas.Result.{err_from_is_err_and}
use Rattle.pkg_pool.specs.Pools.{nothing_yet, with_repositories, pool_of_tree}
use Rattle.pkg_pool.proofs.Pooled.{pooled}
use Rattle.pkg_pool.proofs.Vanishing.{none_vanished, repositories_remain}
use Rattle.pkg_pool.proofs.loading.load.Goals as goal

pub returns-clause-candidates : goal.returns-clause-candidates
unfolding pool_of_tree
returns-clause-candidates g c = λ t told.
    let all = rw (c.nothing-gathered.ensures.bytes, c.nothing-gathered.ensures.candidates, c.as_slice.ensures) at (c.in_ok-add_repositories.ensures.told t told) in
    c.of.ensures
    ∙ pooled t c.args.project.now c.args.root c.args.left.now.left (record { pool = record { root = c.args.root; candidates = c.add_repositories.new.gathered.candidates.items }; left = c.add_repositories.new.left.left })
    (g.met.T.Tree.tells_trees c.args.tree.now t told) (rw all refl)

pub returns-in_err-add_repositories-clause-vanished : goal.returns-in_err-add_repositories-clause-vanished
returns-in_err-add_repositories-clause-vanished g c = λ t told.
    let p = err_from_is_err_and c.from_residual.result c.from_residual.ensures.1 in
    let project = c.args.project.now in
    let start = nothing_yet c.args.left.now.left in
    let all = rw (c.nothing-gathered.ensures.bytes, c.nothing-gathered.ensures.candidates, c.as_slice.ensures) at (c.in_err-add_repositories.ensures.told t told) in
    rw (p.1, p.2) (none_vanished (with_repositories t project c.args.root.repositories start) c.in_err-add_repositories.field-0.0 (repositories_remain t project c.args.root.repositories start) all)
