use Rattle.std.proofs.Common.{ℕ, ◌≡◌, ◌++◌, ap, sym, ◌∙◌, Ok}
use Rattle.std.proofs.lemmas.List.{append-nil}
use Rattle.std.specs.Option.{option_to_list}
use Rattle.std.proofs.lemmas.Result.{err_from_is_err_and}
use Rattle.json_ordered.specs.JsonTree.{JsonTree}
use Rattle.json_ordered.specs.Docs.{tree_of}
use Rattle.manifest_read.specs.Pointers.{at_item}
use Rattle.manifest_read.specs.Repositories.{entry_at}
use Rattle.manifest_read.proofs.Gathering.{numbered_there_step, numbered_there_stop, numbered_there_end}
use Rattle.manifest_read.proofs.repositories.listed.Goals as goal
use Rattle.manifest_read.proofs.repositories.listed.Goals.{in-Some+in_ok-push, in_default}

pub returns-in_err-repository : goal.returns-in_err-repository
returns-in_err-repository c =
    let p = err_from_is_err_and c.from_residual-in_err-repository.result c.from_residual-in_err-repository.ensures.1 in
    rw (p.1, p.2) (λ ne. c.loop-i.invariant ∙ numbered_there_stop tree_of c.args.items.now c.loop-i.i c.index-items-i.result c.loop-i-test.true c.index-items-i.is
    (λ (n : ℕ × JsonTree). entry_at (at_item c.args.at.now n.0) n.1) c.loop-i.repositories.items c.in_err-repository.field-0.0 (c.in_err-repository.ensures ne))

pub loop-i-preserved : goal.loop-i-preserved
loop-i-preserved c =
    let added : c.match-branch-3.repositories.items ≡ c.loop-i.repositories.items ++ option_to_list c.in_ok-repository.field-0 = elim c.match-branch-3.branch [
      | in-Some+in_ok-push w ↦ ap (λ v. v.items) w.repositories-is ∙ w.in_ok-push.ensures.items ∙ ap (λ o. c.loop-i.repositories.items ++ option_to_list o) (sym w.in-Some.is)
      | in_default w ↦ ap (λ v. v.items) w.repositories-is ∙ sym (append-nil c.loop-i.repositories.items) ∙ ap (λ o. c.loop-i.repositories.items ++ option_to_list o) (sym w.in_default.is)
    ] in
    c.loop-i.invariant ∙ numbered_there_step tree_of c.args.items.now c.loop-i.i c.index-items-i.result c.loop-i-test.true c.index-items-i.is
    (λ (n : ℕ × JsonTree). entry_at (at_item c.args.at.now n.0) n.1) c.loop-i.repositories.items c.match-branch-3.repositories.items c.in_ok-repository.field-0 c.in_ok-repository.ensures added

pub returns : goal.returns
returns c = c.loop-i.invariant ∙ numbered_there_end tree_of c.args.items.now c.loop-i.i c.loop-i-test.false (λ (n : ℕ × JsonTree). entry_at (at_item c.args.at.now n.0) n.1) c.loop-i.repositories.items
    ∙ ap Ok (sym c.of.ensures)
