use Rattle.std.proofs.Common.{◌≡◌, ◌∙◌, ap}
use Rattle.tree_dev.specs.Moves.{with_all, without_all}
use Rattle.tree_dev.proofs.Given.{on_any_err}
use Rattle.tree_dev.proofs.ManyEntries.{undone_part}
use Rattle.tree_dev.proofs.Carried.{renamed_all, none_at_new, free_below}
use Rattle.tree_dev.proofs.renaming.rename_to_free.Goals as goal

pub returns-in_err-put_all-clause-err : goal.returns-in_err-put_all-clause-err
returns-in_err-put_all-clause-err c =
    let part = rw c.as_slice.ensures.value at c.in_err-put_all.ensures.err in
    let free = free_below c.args.files.now c.args.to.now c.requires.tree c.requires.below c.requires.free in
    let same : c.put_all.new.files ≡ c.args.files.now =
    part.1 ∙ undone_part part.0 c.in_ok-carried.carried.arrived.items c.args.files.now
    (none_at_new c.args.files.now c.args.from.now c.args.to.now c.in_ok-carried.carried.left.items c.in_ok-carried.carried.arrived.items c.in_ok-carried.ensures.carries c.in_ok-carried.ensures.all c.requires.apart c.requires.apart_back free) in
    on_any_err c.from_residual-in_err-put_all.result (c.put_all.new.files ≡ c.args.files.now) same

pub returns-clause-ok : goal.returns-clause-ok
returns-clause-ok c =
    let free = free_below c.args.files.now c.args.to.now c.requires.tree c.requires.below c.requires.free in
    c.remove_all.ensures
    ∙ ap (without_all c.put_all.new.files) c.as_slice-2.ensures.value
    ∙ ap (λ t. without_all t c.in_ok-carried.carried.left.items) (c.in_ok-put_all.ensures.ok ∙ ap (with_all c.args.files.now) c.as_slice.ensures.value)
    ∙ renamed_all c.args.files.now c.args.from.now c.args.to.now c.in_ok-carried.carried.left.items c.in_ok-carried.carried.arrived.items c.in_ok-carried.ensures.carries c.in_ok-carried.ensures.all c.requires.apart c.requires.apart_back free
