use Rattle.std.proofs.Common.{ℕ, List, Ok, filter, refl, sym, ap, subst, ◌∙◌}
use Rattle.std.proofs.lemmas.Result.{IfOk-weaker}
use Rattle.std.specs.Prelude.{IfSome}
use Rattle.tree_dev.specs.Trees.{IsListing}
use Rattle.tree_dev.specs.declared.limits.TheConstants.{DEPTH}
use Rattle.stage_job.specs.Checked.{each_checked, entry_checked, folder_checked, package_checked, passes_top, source_kind_checked}
use Rattle.stage_job.specs.Copied.{AreThere, Lists}
use Rattle.stage_job.specs.Faults.{refused}
use Rattle.stage_job.specs.declared.fault.StageFault.TheVariants as faults
use Rattle.stage_job.proofs.CopySteps.{listed_there}
use Rattle.stage_job.proofs.Exits.{answer_same, fault_answer}
use Rattle.stage_job.proofs.MirrorSteps.{listed_source, package_refusal}
use Rattle.stage_job.proofs.NameLoop.{top_listing, top_there}
use Rattle.package_moves.proofs.BesideSteps.{package_walked}
use Rattle.package_moves.proofs.Counting.{counted_left}
use Rattle.package_moves.proofs.beside.walk_package.Goals as goal

pub returns-in_err-list_names-clause-checked : goal.returns-in_err-list_names-clause-checked
unfolding package_checked
returns-in_err-list_names-clause-checked g c = λ t told. fault_answer _ _ c.from_residual.result c.in_err-list_names.field-0.0 c.from_residual.ensures.1
    (package_refusal (entry_checked DEPTH t) t c.args.from.now c.args.counts.now.left.left c.list_names.new.left.left c.in_err-list_names.field-0.0 (c.in_err-list_names.ensures.answer t told))

pub returns-in_ok-copy_of-in-None-clause-checked : goal.returns-in_ok-copy_of-in-None-clause-checked
unfolding package_checked
returns-in_ok-copy_of-in-None-clause-checked g c = λ t told.
    let none = subst (λ o. Lists t c.args.from.now c.args.counts.now.left.left c.list_names.new.left.left (Ok o)) c.in-None.is (c.in_ok-list_names.ensures.answer t told) in
    ap (source_kind_checked (folder_checked (entry_checked DEPTH t) passes_top t c.args.from.now c.args.counts.now.left.left) c.args.from.now) none
    ∙ ap (λ (text : List ℕ). refused (faults.MissingPath text)) (sym (c.in_ok-copy_of-in-None.ensures ∙ c.text.ensures.value))

pub walk_listed-requires-clause-listing : goal.walk_listed-requires-clause-listing
walk_listed-requires-clause-listing g c =
    let listing = subst (λ o. IfSome o IsListing) c.in-Some.is c.in_ok-list_names.ensures.listing in
    rw (c.as_slice-in-Some.ensures.value, c.in_ok-copied-in-Some.ensures, c.as_slice.ensures) (top_listing _ listing)

pub walk_listed-requires-clause-there : goal.walk_listed-requires-clause-there
walk_listed-requires-clause-there g c = λ t told.
    let listed = subst (λ o. Lists t c.args.from.now c.args.counts.now.left.left c.list_names.new.left.left (Ok o)) c.in-Some.is (c.in_ok-list_names.ensures.answer t (sym c.in_ok-list_names.ensures.only_read.told ∙ told)) in
    rw (c.as_slice-in-Some.ensures.value, c.in_ok-copied-in-Some.ensures, c.as_slice.ensures)
    (top_there t c.args.from.now _ (subst (λ (ns : List (List ℕ)). AreThere t c.args.from.now ns) (sym listed.names_are) (listed_there t c.args.from.now)))

pub returns-in_ok-copied-in-Some-clause-checked : goal.returns-in_ok-copied-in-Some-clause-checked
unfolding package_checked
returns-in_ok-copied-in-Some-clause-checked g c = λ t told.
    let listed = subst (λ o. Lists t c.args.from.now c.args.counts.now.left.left c.list_names.new.left.left (Ok o)) c.in-Some.is (c.in_ok-list_names.ensures.answer t told) in
    answer_same _ _ c.walk_listed.new.counts.left.left c.walk_listed.result
    (ap (λ (ns : List (List ℕ)). each_checked (entry_checked DEPTH t) c.args.from.now ns c.list_names.new.left.left) (c.as_slice-in-Some.ensures.value ∙ c.in_ok-copied-in-Some.ensures ∙ ap (filter passes_top) c.as_slice.ensures)
    ∙ sym (listed_source (entry_checked DEPTH t) t c.args.from.now _ c.args.counts.now.left.left c.list_names.new.left.left listed))
    (c.walk_listed.ensures.checked t (c.in_ok-list_names.ensures.only_read.told ∙ told))

pub returns-in_ok-copied-in-Some-clause-walked : goal.returns-in_ok-copied-in-Some-clause-walked
returns-in_ok-copied-in-Some-clause-walked g c = IfOk-weaker c.walk_listed.result _ _ (λ alike walked t told.
    let listed = subst (λ o. Lists t c.args.from.now c.args.counts.now.left.left c.list_names.new.left.left (Ok o)) c.in-Some.is (c.in_ok-list_names.ensures.answer t told) in
    package_walked t c.args.from.now c.args.to.now _ _ _ alike c.args.counts.now _ c.walk_listed.new.counts _ _ (g.met.T.Tree.tells_trees c.args.tree.now t told) listed
    (counted_left c.args.counts.now _ refl refl c.in_ok-list_names.ensures.entries)
    (c.as_slice-in-Some.ensures.value ∙ c.in_ok-copied-in-Some.ensures ∙ ap (filter passes_top) c.as_slice.ensures)
    (walked t (c.in_ok-list_names.ensures.only_read.told ∙ told)))
    c.walk_listed.ensures.walked
