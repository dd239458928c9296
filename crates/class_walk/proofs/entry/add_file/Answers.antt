use Rattle.std.proofs.Common.{refl}
use Rattle.class_walk.specs.Searches.{search_of}
use Rattle.class_walk.proofs.Steps.{scans_append}
use Rattle.class_walk.proofs.entry.add_file.Goals as goal

pub returns-clause-found : goal.returns-clause-found
returns-clause-found c = λ sources are. rw c.in_ok-push.ensures.items (scans_append sources c.args.walked.now.found.items (record { search = search_of c.args.search.now; tail = c.args.tail.now; bytes = c.args.text.now }) _ are
    (record { job = refl; shown = c.in_ok-join.ensures; names = c.in_ok-names.ensures }))
