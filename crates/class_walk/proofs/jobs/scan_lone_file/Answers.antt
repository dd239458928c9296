use Rattle.std.proofs.Common.{◌≡◌, [], length, false, nat_lt, Some, Ok, sym, ap, subst, ◌∙◌}
use Rattle.tree_dev.specs.Trees.{entry_at}
use Rattle.tree_dev.specs.declared.entry.Entry.TheVariants as entries
use Rattle.tree_dev.specs.declared.limits.TheConstants.{FILE_BYTES}
use Rattle.class_walk.specs.Searches.{Reads, search_of}
use Rattle.class_walk.proofs.Looked.{lone_read}
use Rattle.class_walk.proofs.jobs.scan_lone_file.Goals as goal

pub returns-in-Some-clause-exact : goal.returns-in-Some-clause-exact
returns-in-Some-clause-exact g c = λ t told bytes there.
    let at = c.args.search.now.job.now.at in
    let file = subst (λ o. Reads t at (Ok o)) c.in-Some.is (c.in_ok-bytes.ensures.answer t told) in
    let read = c.as_slice.result.now in
    let is : entry_at t at ≡ Some (entries.File read) = file.0 ∙ ap (λ b. Some (entries.File b)) (sym c.as_slice.ensures) in
    let fits : nat_lt FILE_BYTES (length read) ≡ false = ap (λ b. nat_lt FILE_BYTES (length b)) c.as_slice.ensures ∙ file.1 in
    lone_read (search_of c.args.search.now) _ [] read bytes (entry_at t at) c.args.walked.now.found.items c.add_file.new.walked.found.items c.args.walked.now.left c.add_file.new.walked.left
    c.root-tail.ensures is there (sym c.in_ok-is_scanned.ensures ∙ c.if-not-branch.false) fits c.in_ok-add_file-in-Some.ensures.found c.add_file.ensures.left
