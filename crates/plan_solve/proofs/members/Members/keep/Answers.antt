use Rattle.std.proofs.Common.{◌≡◌, ◌∙◌, Some, length, refl, sym, ap, subst, arith}
use Rattle.std.specs.List.{slice_get}
use Rattle.std.proofs.lemmas.List.Elements.{All-set}
use Rattle.std.proofs.lemmas.Option.{slice_get_read}
use Rattle.plan_rules.specs.Preference.{AreAlternatives}
use Rattle.plan_solve.specs.declared.members.Need.{Need}
use Rattle.plan_solve.specs.Search.{IsNeed}
use Rattle.plan_solve.proofs.Needs.{links_at, links_set, same_item}
use Rattle.plan_solve.proofs.members.Members.keep.Goals as goal

pub returns-then-place-len : goal.returns-then-place-len
returns-then-place-len c = λ before need known found are.
    let pool = c.args.pool.now in
    let queued = c.args.self.now.queue.items in
    let place = c.args.place in
    let old = c.index_mut.result.now in
    let there : slice_get queued place ≡ Some old = slice_get_read queued (length queued) place old refl (omega (arith, c.if-place-len.true, c.len.ensures, c.args.self.now.queue.ok.0)) c.index_mut.ensures.value in
    let same = same_item need old.link.now (sym found ∙ ap (λ list. slice_get list place) (sym known.queue) ∙ links_at queued place old there) in
    let now : Need = record { link = old.link; sorted = Some c.args.sorted } in
    record {
      marks = known.marks;
      queue = links_set queued place old now there refl ∙ known.queue;
      needs = All-set (IsNeed pool) queued place now (subst (λ link. AreAlternatives pool link c.args.sorted.items) same are) known.needs;
      aside = known.aside;
    }
