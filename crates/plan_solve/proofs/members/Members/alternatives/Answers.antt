use Rattle.std.proofs.Common.{◌≡◌, ◌∙◌, Some, length, refl, sym, ap, subst, arith}
use Rattle.std.specs.Prelude.{IfSome}
use Rattle.std.specs.List.{slice_get}
use Rattle.std.proofs.lemmas.List.Elements.{All-set}
use Rattle.std.proofs.lemmas.Option.{slice_get_read}
use Rattle.plan_rules.specs.Preference.{AreAlternatives}
use Rattle.plan_solve.specs.declared.members.Need.{Need}
use Rattle.plan_solve.specs.Search.{IsNeed}
use Rattle.plan_solve.proofs.Needs.{at_some, all_at, links_at, links_set, same_item}
use Rattle.plan_solve.proofs.members.Members.alternatives.Goals as goal

pub returns-in-Some : goal.returns-in-Some
returns-in-Some c =
    let pool = c.args.context.now.pool.now in
    let queued = c.args.self.now.queue.items in
    let place = c.args.place in
    let old = c.index_mut.result.now in
    let emptied : Need = record { link = old.link; sorted = c.take.new.self } in
    let there : slice_get queued place ≡ Some old = slice_get_read queued (length queued) place old refl (omega (arith, c.requires.within, c.args.self.now.queue.ok.0)) c.index_mut.ensures.value in
    record {
      all = λ before need known found.
          let same = same_item old.link.now need (sym (links_at queued place old there) ∙ ap (λ list. slice_get list place) known.queue ∙ found) in
          subst (λ link. AreAlternatives pool link c.in-Some.sorted.items) same
          (at_some (λ list. AreAlternatives pool old.link.now list.items) old.sorted c.in-Some.sorted (sym c.take.ensures.value ∙ c.in-Some.is) (all_at (IsNeed pool) queued place old there known.needs));
      members = λ before known. record {
        marks = known.marks;
        queue = links_set queued place old emptied there refl ∙ known.queue;
        needs = All-set (IsNeed pool) queued place emptied (subst (λ o. IfSome o (λ list. AreAlternatives pool old.link.now list.items)) (sym c.take.ensures.after) tt) known.needs;
        aside = known.aside;
      };
    }
