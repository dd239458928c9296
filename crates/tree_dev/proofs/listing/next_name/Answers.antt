use Rattle.std.proofs.Common.{◌≡◌, ◌∙◌, sym, subst, true, false}
use Rattle.tree_dev.specs.Listing.{IsFirstFrom, IsNoneFrom, IsNextName}
use Rattle.tree_dev.proofs.NextNames.{none_left, outside, next_there}
use Rattle.tree_dev.proofs.listing.next_name.Goals as goal

pub returns-in_default : goal.returns-in_default
returns-in_default c =
    none_left c.args.files.now c.requires.tree c.args.folder.now c.args.last.now (subst (IsNoneFrom c.args.files.now) c.in_ok-from.ensures c.in_default.ensures)

pub returns-then-not-starts_with : goal.returns-then-not-starts_with
returns-then-not-starts_with c =
    outside c.args.files.now c.requires.tree c.args.folder.now c.args.last.now c.in-Some.first.now
    (subst (λ from. IsFirstFrom c.args.files.now from c.in-Some.first.now) c.in_ok-from.ensures c.in-Some.ensures)
    (λ begins. let yes = c.starts_with.ensures.1 begins in let e : true ≡ false = sym yes ∙ c.if-not-starts_with.true in absurd cc)

pub returns : goal.returns
returns c =
    let next = next_there c.args.files.now c.requires.tree c.args.folder.now c.args.last.now c.in-Some.first.now c.in-Some-last.name.now
    (subst (λ from. IsFirstFrom c.args.files.now from c.in-Some.first.now) c.in_ok-from.ensures c.in-Some.ensures)
    (c.starts_with.ensures.0 c.if-not-starts_with.false) c.in-Some-last.ensures in
    subst (IsNextName c.args.files.now c.args.folder.now c.args.last.now) (sym c.in_ok-copy_of-in-Some-last.ensures) next
