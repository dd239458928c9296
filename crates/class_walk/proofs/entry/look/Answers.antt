use Rattle.std.proofs.Common.{◌≡◌, ◌<◌, ◌≤◌, ◌++◌, length, true, false, nat_lt, Some, is_some, sym, ap, subst, ◌∙◌, arith, Ok, Err}
use Rattle.tree_dev.specs.Trees.{entry_at}
use Rattle.tree_dev.specs.declared.entry.Entry.TheVariants as entries
use Rattle.tree_dev.specs.declared.limits.TheConstants.{FILE_BYTES}
use Rattle.class_walk.specs.Searches.{Asks, Reads, RefusesDeep, search_of}
use Rattle.class_walk.proofs.Looked.{asked, deep_is, file_read, looked_deep, not_deep, passed_on, read_refused}
use Rattle.class_walk.proofs.entry.look.Goals as goal

pub returns-then-depth-gt-LEVELS-clause-answer : goal.returns-then-depth-gt-LEVELS-clause-answer
returns-then-depth-gt-LEVELS-clause-answer g c = λ t told.
    let deep : 64 < length c.args.tail.now = omega (arith, c.depth.ensures, c.if-depth-gt-LEVELS.true) in
    let there = subst (λ p. is_some (entry_at t p) ≡ true) c.requires.place (c.requires.there t told) in
    let refuses = subst (λ p. RefusesDeep p (entry_at t p) c.refuse_deep.result) c.requires.place (c.refuse_deep.ensures.answer t told) in
    looked_deep t (search_of c.args.search.now) c.args.tail.now c.args.walked.now.found.items c.args.walked.now.left c.refuse_deep.result (deep_is c.args.tail.now deep) there refuses

pub returns-then-not-branch-clause-answer : goal.returns-then-not-branch-clause-answer
returns-then-not-branch-clause-answer g c = λ t told.
    let few : length c.args.tail.now ≤ 64 = omega (arith, c.depth.ensures, c.if-depth-gt-LEVELS.false) in
    let there = subst (λ p. is_some (entry_at t p) ≡ true) c.requires.place (c.requires.there t told) in
    let asks = subst (λ p. Asks p (entry_at t p) c.is_listed.result) c.requires.place (c.is_listed.ensures.answer t told) in
    asked t (search_of c.args.search.now) c.args.tail.now c.args.walked.now.found.items c.args.walked.now.left c.is_listed.result (not_deep c.args.tail.now few) (sym c.in_ok-is_scanned.ensures ∙ c.if-not-branch.true) there asks

pub returns-in_err-bytes-clause-answer : goal.returns-in_err-bytes-clause-answer
returns-in_err-bytes-clause-answer g c = λ t told.
    let few : length c.args.tail.now ≤ 64 = omega (arith, c.depth.ensures, c.if-depth-gt-LEVELS.false) in
    let there = subst (λ p. is_some (entry_at t p) ≡ true) c.requires.place (c.requires.there t told) in
    let reads = subst (λ p. Reads t p (Err c.in_err-bytes.field-0.0)) c.requires.place (c.in_err-bytes.ensures.answer t told) in
    passed_on t (search_of c.args.search.now) c.args.tail.now c.from_residual-in_err-bytes.result c.in_err-bytes.field-0.0 c.args.walked.now.found.items c.args.walked.now.found.items c.args.walked.now.left c.args.walked.now.left c.from_residual-in_err-bytes.ensures.1
    (λ walked. read_refused t (search_of c.args.search.now) c.args.tail.now c.in_err-bytes.field-0.0 walked (not_deep c.args.tail.now few) (sym c.in_ok-is_scanned.ensures ∙ c.if-not-branch.false) there reads)

pub returns-in_ok-add_file-in-Some-clause-answer : goal.returns-in_ok-add_file-in-Some-clause-answer
returns-in_ok-add_file-in-Some-clause-answer g c = λ t told.
    let few : length c.args.tail.now ≤ 64 = omega (arith, c.depth.ensures, c.if-depth-gt-LEVELS.false) in
    let file = subst (λ o. Reads t c.args.at.now (Ok o)) c.in-Some.is (c.in_ok-bytes.ensures.answer t told) in
    let bytes = c.as_slice.result.now in
    let is : entry_at t (c.args.search.now.job.now.at ++ c.args.tail.now) ≡ Some (entries.File bytes) = ap (entry_at t) (sym c.requires.place) ∙ file.0 ∙ ap (λ b. Some (entries.File b)) (sym c.as_slice.ensures) in
    let fits : nat_lt FILE_BYTES (length bytes) ≡ false = ap (λ b. nat_lt FILE_BYTES (length b)) c.as_slice.ensures ∙ file.1 in
    file_read t (search_of c.args.search.now) c.args.tail.now bytes c.args.walked.now.found.items c.add_file.new.walked.found.items c.args.walked.now.left c.add_file.new.walked.left
    (not_deep c.args.tail.now few) (sym c.in_ok-is_scanned.ensures ∙ c.if-not-branch.false) is fits c.in_ok-add_file-in-Some.ensures.found c.add_file.ensures.left
