use Rattle.std.proofs.Common.{◌≡◌, ◌∙◌, cond, sym, ap, true, false}
use Rattle.tree_dev.specs.Trees.{entry_at}
use Rattle.tree_dev.specs.Changes.{has_place, is_file, is_free, is_free_for_file}
use Rattle.tree_dev.specs.declared.change.Change.TheVariants as changes
use Rattle.tree_dev.proofs.Given.{if_ok_on}
use Rattle.tree_dev.proofs.Places.{begins_behind, not_behind, target_below, target_fits}
use Rattle.tree_dev.proofs.fitting.can_rename.Goals as goal

pub returns-then-starts_with : goal.returns-then-starts_with
returns-then-starts_with c =
    target_below c.args.files.now c.args.from.now c.args.to.now (begins_behind c.args.from.now c.args.to.now (c.starts_with.ensures.0 c.if-starts_with.true))

pub returns-then-is_file : goal.returns-then-is_file
returns-then-is_file c =
    let apart = not_behind c.args.from.now c.args.to.now (λ begins. let yes = c.starts_with.ensures.1 begins in let e : true ≡ false = sym yes ∙ c.if-starts_with.false in absurd cc) in
    let file : is_file (entry_at c.args.files.now c.args.from.now) ≡ true = sym c.is_file.ensures ∙ c.if-is_file.true in
    if_ok_on c.is_free_for_file.result (λ can. can ≡ is_free_for_file c.args.files.now c.args.to.now) (λ can. can ≡ has_place c.args.files.now (changes.Renamed c.args.from.now c.args.to.now))
    (λ can e. target_fits c.args.files.now c.args.from.now c.args.to.now can (sym c.is_there.ensures ∙ c.if-not-is_there.false) apart
    (e ∙ ap (λ b. cond b (is_free_for_file c.args.files.now c.args.to.now) (is_free c.args.files.now c.args.to.now)) (sym file)))
    c.is_free_for_file.ensures

pub returns-else-is_file : goal.returns-else-is_file
returns-else-is_file c =
    let apart = not_behind c.args.from.now c.args.to.now (λ begins. let yes = c.starts_with.ensures.1 begins in let e : true ≡ false = sym yes ∙ c.if-starts_with.false in absurd cc) in
    let file : is_file (entry_at c.args.files.now c.args.from.now) ≡ false = sym c.is_file.ensures ∙ c.if-is_file.false in
    if_ok_on c.is_free.result (λ can. can ≡ is_free c.args.files.now c.args.to.now) (λ can. can ≡ has_place c.args.files.now (changes.Renamed c.args.from.now c.args.to.now))
    (λ can e. target_fits c.args.files.now c.args.from.now c.args.to.now can (sym c.is_there.ensures ∙ c.if-not-is_there.false) apart
    (e ∙ ap (λ b. cond b (is_free_for_file c.args.files.now c.args.to.now) (is_free c.args.files.now c.args.to.now)) (sym file)))
    c.is_free.ensures
