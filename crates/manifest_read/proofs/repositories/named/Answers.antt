use Rattle.std.proofs.Common.{◌≡◌, ◌++◌, ap, sym, ◌∙◌, Ok}
use Rattle.std.proofs.lemmas.List.{append-nil}
use Rattle.std.specs.Option.{option_to_list}
use Rattle.std.proofs.lemmas.Result.{err_from_is_err_and}
use Rattle.json_ordered.specs.Docs.{pair_of}
use Rattle.manifest_read.specs.Repositories.{named_entry_at}
use Rattle.manifest_read.proofs.Gathering.{there_step, there_stop, there_end}
use Rattle.manifest_read.proofs.repositories.named.Goals as goal
use Rattle.manifest_read.proofs.repositories.named.Goals.{in-Some+in_ok-push, in_default}

pub returns-in_err-repository : goal.returns-in_err-repository
returns-in_err-repository c =
    let p = err_from_is_err_and c.from_residual-in_err-repository.result c.from_residual-in_err-repository.ensures.1 in
    rw (p.1, p.2) (λ ne. c.loop-pair.invariant ∙ there_stop pair_of c.args.pairs.now c.loop-pair.pair-index c.pair-item.result c.loop-pair-test.true c.pair-item.is
    (named_entry_at c.args.at.now) c.loop-pair.repositories.items c.in_err-repository.field-0.0 (c.in_err-repository.ensures ne))

pub loop-pair-preserved : goal.loop-pair-preserved
loop-pair-preserved c =
    let added : c.match-branch-3.repositories.items ≡ c.loop-pair.repositories.items ++ option_to_list c.in_ok-repository.field-0 = elim c.match-branch-3.branch [
      | in-Some+in_ok-push w ↦ ap (λ v. v.items) w.repositories-is ∙ w.in_ok-push.ensures.items ∙ ap (λ o. c.loop-pair.repositories.items ++ option_to_list o) (sym w.in-Some.is)
      | in_default w ↦ ap (λ v. v.items) w.repositories-is ∙ sym (append-nil c.loop-pair.repositories.items) ∙ ap (λ o. c.loop-pair.repositories.items ++ option_to_list o) (sym w.in_default.is)
    ] in
    c.loop-pair.invariant ∙ there_step pair_of c.args.pairs.now c.loop-pair.pair-index c.pair-item.result c.loop-pair-test.true c.pair-item.is
    (named_entry_at c.args.at.now) c.loop-pair.repositories.items c.match-branch-3.repositories.items c.in_ok-repository.field-0 c.in_ok-repository.ensures added

pub returns : goal.returns
returns c = c.loop-pair.invariant ∙ there_end pair_of c.args.pairs.now c.loop-pair.pair-index c.loop-pair-test.false (named_entry_at c.args.at.now) c.loop-pair.repositories.items
    ∙ ap Ok (sym c.of.ensures)
