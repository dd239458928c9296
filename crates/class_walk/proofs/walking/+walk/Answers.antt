use Rattle.std.proofs.Common.{◌≡◌, ◌++◌, ◌+◌, ◌≤◌, [], ◌∷◌, length, true, is_some, Ok, Err, sym, ap, subst, ◌∙◌, arith, length-append}
use Rattle.tree_dev.specs.Device.{only_read_on}
use Rattle.tree_dev.specs.Trees.{IsListing, entry_at}
use Rattle.class_walk.specs.Faults.{Goes}
use Rattle.class_walk.specs.Searches.{IsListed, IsNoFile, Lists, Looks, child_reached, folder_goes, names_reached, reached_below, search_of}
use Rattle.class_walk.specs.Walks.{each_walked, is_reached, is_skipped}
use Rattle.class_walk.proofs.Steps.{fault_ends}
use Rattle.class_walk.proofs.WalkedNames.{entered_goes, file_goes, hidden, list_refused, listed_goes, name_goes, name_refused, no_names_left, open_goes, passed_goes, reached_name_of, segment, skipped, there_named}
use Rattle.class_walk.proofs.walking.+walk.Goals as goal

-- ---- an entry

pub walk_entry-walk_folder-requires : goal.walk_entry-walk_folder-requires
walk_entry-walk_folder-requires g t c = λ κs le.
    let few : length c.args.tail.now ≤ 64 = c.in_ok-look.ensures.levels in (
      omega (arith, c.decreases, few),
      (
        le,
        (
          c.requires.place,
          (
            c.requires.reached,
            (
              few,
              (λ tree told.
                  let before = sym c.in_ok-look.ensures.only_read.told ∙ told in
                  let opened = subst (λ b. Looks tree (search_of c.args.search.now) c.args.tail.now c.args.walked.now.found.items c.args.walked.now.left c.look.new.walked.found.items c.look.new.walked.left (Ok b)) c.if-branch.true (c.in_ok-look.ensures.answer tree before) in
                  subst (λ p. IsNoFile tree p) (sym c.requires.place) opened.no_file),
            ),
          ),
        ),
      ),
    )

pub walk_entry-returns-then-branch-clause-exact : goal.walk_entry-returns-then-branch-clause-exact
walk_entry-returns-then-branch-clause-exact g t c = λ tree told.
    let later = c.in_ok-look.ensures.only_read.told ∙ told in
    let opened = subst (λ b. Looks tree (search_of c.args.search.now) c.args.tail.now c.args.walked.now.found.items c.args.walked.now.left c.look.new.walked.found.items c.look.new.walked.left (Ok b)) c.if-branch.true (c.in_ok-look.ensures.answer tree told) in
    open_goes tree (search_of c.args.search.now) c.args.tail.now _ c.args.walked.now.found.items c.args.walked.now.left c.look.new.walked.found.items c.walk_folder.new.walked.found.items c.look.new.walked.left c.walk_folder.new.walked.left c.walk_folder.result opened (c.walk_folder.ensures.exact tree later)

pub walk_entry-returns-else-branch-clause-exact : goal.walk_entry-returns-else-branch-clause-exact
walk_entry-returns-else-branch-clause-exact g t c = λ tree told.
    let file = subst (λ b. Looks tree (search_of c.args.search.now) c.args.tail.now c.args.walked.now.found.items c.args.walked.now.left c.look.new.walked.found.items c.look.new.walked.left (Ok b)) c.if-branch.false (c.in_ok-look.ensures.answer tree told) in
    file_goes tree (search_of c.args.search.now) c.args.tail.now c.args.walked.now.found.items c.look.new.walked.found.items c.args.walked.now.left c.look.new.walked.left (g.met.T.Tree.tells_trees c.args.tree.now tree told) file

-- ---- a folder

pub walk_folder-returns-in_err-names-clause-exact : goal.walk_folder-returns-in_err-names-clause-exact
walk_folder-returns-in_err-names-clause-exact g t c = λ tree told walked tells.
    let no_file = subst (λ p. IsNoFile tree p) c.requires.place (c.requires.no_file tree told) in
    let lists = subst (λ p. Lists tree p c.args.walked.now.left c.list_names.new.walked.left (Err c.in_err-names.field-0.0)) c.requires.place (c.in_err-names.ensures.answer tree told) in
    fault_ends _ (folder_goes tree (search_of c.args.search.now) c.args.tail.now walked) c.list_names.new.walked.found.items c.list_names.new.walked.left c.from_residual.result c.in_err-names.field-0.0 c.from_residual.ensures.1
    (list_refused tree (search_of c.args.search.now) c.args.tail.now c.in_err-names.field-0.0 c.args.walked.now.found.items c.args.walked.now.left c.list_names.new.walked.left walked no_file lists tells)

pub walk_folder-walk_names-requires : goal.walk_folder-walk_names-requires
walk_folder-walk_names-requires g t c = λ κs le.
    let few : length c.args.tail.now ≤ 64 = c.requires.levels in
    let listing : IsListing c.in_ok-names.names = c.in_ok-names.ensures.listing in (
      omega (arith, c.decreases, few),
      (
        le,
        (
          c.requires.reached,
          (
            few,
            (
              rw c.as_slice.ensures listing,
              (λ tree told.
                  let before = sym c.in_ok-names.ensures.only_read.told ∙ told in
                  let listed = subst (λ p. IsListed tree p c.in_ok-names.names c.args.walked.now.left c.list_names.new.walked.left) c.requires.place (c.in_ok-names.ensures.answer tree before) in
                  c.as_slice.ensures ∙ listed.names_are),
            ),
          ),
        ),
      ),
    )

pub walk_folder-returns-clause-exact : goal.walk_folder-returns-clause-exact
walk_folder-returns-clause-exact g t c = λ tree told.
    let later = c.in_ok-names.ensures.only_read.told ∙ told in
    let listed = subst (λ p. IsListed tree p c.in_ok-names.names c.args.walked.now.left c.list_names.new.walked.left) c.requires.place (c.in_ok-names.ensures.answer tree told) in
    let named = subst (λ ns. IsListed tree (c.args.search.now.job.now.at ++ c.args.tail.now) ns c.args.walked.now.left c.list_names.new.walked.left) (sym c.as_slice.ensures) listed in
    let goes = subst (λ found. Goes (each_walked tree (search_of c.args.search.now) (names_reached tree c.args.search.now.job.now c.args.tail.now c.as_slice.result.now)) found c.list_names.new.walked.left c.walk_names.new.walked.found.items c.walk_names.new.walked.left c.walk_names.result) c.list_names.ensures.found (c.walk_names.ensures.exact tree later) in
    listed_goes tree (search_of c.args.search.now) c.args.tail.now _ c.as_slice.result.now c.args.walked.now.found.items c.walk_names.new.walked.found.items c.args.walked.now.left c.list_names.new.walked.left c.walk_names.new.walked.left c.walk_names.result (g.met.T.Tree.tells_trees c.args.tree.now tree told) named goes

-- ---- a name

pub walk_name-returns-then-is_hidden-clause-exact : goal.walk_name-returns-then-is_hidden-clause-exact
walk_name-returns-then-is_hidden-clause-exact g t c = λ tree told.
    passed_goes tree (search_of c.args.search.now) c.args.tail.now c.args.name.now c.args.walked.now.found.items c.args.walked.now.left (hidden tree (search_of c.args.search.now) c.args.tail.now c.args.name.now (sym c.is_hidden.ensures ∙ c.if-is_hidden.true))

pub walk_name-returns-then-is_skipped-clause-exact : goal.walk_name-returns-then-is_skipped-clause-exact
walk_name-returns-then-is_skipped-clause-exact g t c = λ tree told.
    let place = c.in_ok-at.ensures ∙ ap (λ p. c.args.search.now.job.now.at ++ p) c.in_ok-tail.ensures in
    let skip = c.is_skipped.ensures ∙ ap (λ s. is_skipped s c.in_ok-at.at) c.as_slice.ensures ∙ ap (λ p. is_skipped c.args.search.now.job.now.skip p) place in
    passed_goes tree (search_of c.args.search.now) c.args.tail.now c.args.name.now c.args.walked.now.found.items c.args.walked.now.left (skipped tree (search_of c.args.search.now) c.args.tail.now c.args.name.now (sym skip ∙ c.if-is_skipped.true))

pub walk_name-walk_entry-requires : goal.walk_name-walk_entry-requires
walk_name-walk_entry-requires g t c = λ κs le.
    let few : length c.args.tail.now ≤ 64 = c.requires.levels in
    let len : length c.in_ok-tail.tail ≡ length c.args.tail.now + 1 = ap length c.in_ok-tail.ensures ∙ length-append c.args.tail.now (c.args.name.now ∷ []) in
    let place = c.in_ok-at.ensures ∙ ap (λ p. c.args.search.now.job.now.at ++ p) c.in_ok-tail.ensures in
    let skip = c.is_skipped.ensures ∙ ap (λ s. is_skipped s c.in_ok-at.at) c.as_slice.ensures ∙ ap (λ p. is_skipped c.args.search.now.job.now.skip p) place in (
      omega (arith, c.decreases, few, len),
      (
        le,
        (
          c.in_ok-at.ensures,
          (
            ap (λ p. is_reached c.args.search.now.job.now p) c.in_ok-tail.ensures ∙ reached_name_of c.args.search.now c.args.tail.now c.args.name.now c.requires.reached (sym c.is_hidden.ensures ∙ c.if-is_hidden.false) (sym skip ∙ c.if-is_skipped.false),
            (λ tree told. subst (λ p. is_some (entry_at tree p) ≡ true) (sym place) (c.requires.there tree told)),
          ),
        ),
      ),
    )

pub walk_name-returns-clause-exact : goal.walk_name-returns-clause-exact
walk_name-returns-clause-exact g t c = λ tree told.
    let place = c.in_ok-at.ensures ∙ ap (λ p. c.args.search.now.job.now.at ++ p) c.in_ok-tail.ensures in
    let skip = c.is_skipped.ensures ∙ ap (λ s. is_skipped s c.in_ok-at.at) c.as_slice.ensures ∙ ap (λ p. is_skipped c.args.search.now.job.now.skip p) place in
    entered_goes tree (search_of c.args.search.now) c.args.tail.now _ c.args.name.now c.args.walked.now.found.items c.walk_entry.new.walked.found.items c.args.walked.now.left c.walk_entry.new.walked.left c.walk_entry.result
    (reached_name_of c.args.search.now c.args.tail.now c.args.name.now c.requires.reached (sym c.is_hidden.ensures ∙ c.if-is_hidden.false) (sym skip ∙ c.if-is_skipped.false))
    (subst (λ p. Goes (each_walked tree (search_of c.args.search.now) (p ∷ reached_below tree c.args.search.now.job.now p)) c.args.walked.now.found.items c.args.walked.now.left c.walk_entry.new.walked.found.items c.walk_entry.new.walked.left c.walk_entry.result) c.in_ok-tail.ensures (c.walk_entry.ensures.exact tree told))

-- ---- the names of a folder

pub walk_names-walk_name-requires : goal.walk_names-walk_name-requires
walk_names-walk_name-requires g t c = λ κs le.
    let few : length c.args.tail.now ≤ 64 = c.requires.levels in
    let lt = c.loop-name-test.true in (
      omega (arith, c.decreases, few),
      (
        le,
        (
          c.requires.reached,
          (
            few,
            (
              rw c.as_slice.ensures (segment c.args.names.now c.loop-name.name-index c.name-item.result c.requires.listing lt c.name-item.is),
              (λ tree told. rw c.as_slice.ensures (there_named tree (search_of c.args.search.now) c.args.tail.now c.args.names.now c.loop-name.name-index c.name-item.result (c.requires.names tree (sym c.loop-name.invariant.only.told ∙ told)) lt c.name-item.is)),
            ),
          ),
        ),
      ),
    )

pub walk_names-returns-in_err-walk_name-clause-exact : goal.walk_names-returns-in_err-walk_name-clause-exact
walk_names-returns-in_err-walk_name-clause-exact g t c = λ tree told.
    let later = c.loop-name.invariant.only.told ∙ told in
    let fault = c.in_err-walk_name.field-0.0 in
    let one = subst (λ n. Goes {X = Unit {0}} (each_walked tree (search_of c.args.search.now) (child_reached tree c.args.search.now.job.now c.args.tail.now n)) c.loop-name.walked.found.items c.loop-name.walked.left c.walk_name.new.walked.found.items c.walk_name.new.walked.left (Err fault)) c.as_slice.ensures (c.in_err-walk_name.ensures.exact tree later) in
    c.loop-name.invariant.goes tree told c.walk_name.new.walked.found.items c.walk_name.new.walked.left c.from_residual.result
    (λ walked tells. fault_ends (Unit {0}) _ c.walk_name.new.walked.found.items c.walk_name.new.walked.left c.from_residual.result fault c.from_residual.ensures.1
    (name_refused tree (search_of c.args.search.now) c.args.tail.now (Unit {0}) fault c.args.names.now c.loop-name.name-index c.name-item.result c.loop-name.walked.found.items c.walk_name.new.walked.found.items c.loop-name.walked.left c.walk_name.new.walked.left c.loop-name-test.true c.name-item.is one walked tells))

pub walk_names-loop-name-preserved : goal.walk_names-loop-name-preserved
walk_names-loop-name-preserved g t c = record {
  only = only_read_on c.loop-name.invariant.only c.in_ok-walk_name.ensures.only_read;
  goes = λ tree told after rest r more.
      let later = c.loop-name.invariant.only.told ∙ told in
      let one = subst (λ n. Goes (each_walked tree (search_of c.args.search.now) (child_reached tree c.args.search.now.job.now c.args.tail.now n)) c.loop-name.walked.found.items c.loop-name.walked.left c.walk_name.new.walked.found.items c.walk_name.new.walked.left (Ok c.in_ok-walk_name.field-0)) c.as_slice.ensures (c.in_ok-walk_name.ensures.exact tree later) in
      c.loop-name.invariant.goes tree told after rest r
      (name_goes tree (search_of c.args.search.now) c.args.tail.now _ _ c.in_ok-walk_name.field-0 c.args.names.now c.loop-name.name-index c.name-item.result c.loop-name.walked.found.items c.walk_name.new.walked.found.items after c.loop-name.walked.left c.walk_name.new.walked.left rest r c.loop-name-test.true c.name-item.is one more);
  entries = omega (arith, c.loop-name.invariant.entries, c.in_ok-walk_name.ensures.entries);
}

pub walk_names-returns-clause-exact : goal.walk_names-returns-clause-exact
walk_names-returns-clause-exact g t c = λ tree told. c.loop-name.invariant.goes tree told c.loop-name.walked.found.items c.loop-name.walked.left (Ok tt)
    (no_names_left tree (search_of c.args.search.now) c.args.tail.now c.args.names.now c.loop-name.name-index c.loop-name.walked.found.items c.loop-name.walked.left (omega (arith, c.loop-name-test.false)))
