use Rattle.std.proofs.Common.{◌≡◌, Ok, refl, ◌∙◌}
use Rattle.path_name.specs.Given.{◌>>=◌}
use Rattle.pkg_pool.specs.Patterns.{Found, url_expanded}
use Rattle.pkg_pool.specs.Pools.{Gathering, Progress, gathering_of, with_folders, with_repository}
use Rattle.pkg_pool.proofs.Turns.{told_on}
use Rattle.pkg_pool.proofs.loading.add_repository.Goals as goal

pub returns-clause-told : goal.returns-clause-told
unfolding with_repository
returns-clause-told g c = λ t told.
    let origin = c.in_ok-origin.origin in
    let repository = c.args.repository.now in
    let left = c.expanded.new.left.left in
    let before = gathering_of c.args.gathered.now in
    let so_far : Progress = record { gathering = before; left = c.args.left.now.left } in
    let found : Found = record { paths = c.in_ok-folders.folders.items; left = left } in
    let start = c.in_ok-origin.ensures.told in
    let folders : url_expanded t origin repository.segments c.args.left.now.left ≡ Ok found = rw c.as_slice.ensures at (c.in_ok-folders.ensures.told t told) in
    let made : Gathering → Progress = λ next. record { gathering = next; left = left } in
    let whole : with_repository t c.args.project.now c.args.number repository so_far ≡ (with_folders t origin c.in_ok-folders.folders.items before >>= λ next. Ok (made next)) = rw (start, folders) refl in
    told_on (λ done. gathering_of c.add_folders.new.gathered) made (with_folders t origin c.in_ok-folders.folders.items before) (with_repository t c.args.project.now c.args.number repository so_far) c.add_folders.result whole
    (rw c.as_slice-2.ensures.value at (c.add_folders.ensures.told t (c.in_ok-folders.ensures.only_read.told ∙ told)))
