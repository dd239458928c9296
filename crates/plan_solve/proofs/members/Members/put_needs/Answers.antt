use Rattle.std.proofs.Common.{◌≡◌, ◌∙◌, ◌++◌, Some, refl, ap, sym, subst}
use Rattle.std.specs.Prelude.{All}
use Rattle.std.specs.BTreeMap.{get}
use Rattle.std.specs.Ordering.{nat_cmp}
use Rattle.std.proofs.lemmas.List.{map-append}
use Rattle.std.proofs.lemmas.List.Elements.{All-append}
use Rattle.std.proofs.lemmas.Result.{on_ok_weaker}
use Rattle.plan_solve.specs.Search.{IsNeed, AreNeeds, links_of}
use Rattle.plan_solve.proofs.Needs.{at_some, grown, aside_less}
use Rattle.plan_solve.proofs.members.Members.put_needs.Goals as goal

pub returns-in-Some : goal.returns-in-Some
returns-in-Some c =
    let pool = c.args.pool.now in
    let old = c.args.self.now.queue.items in
    let needs = c.in-Some.needs in
    let there : get nat_cmp c.args.self.now.aside c.args.number ≡ Some needs = sym c.remove.ensures.value ∙ c.in-Some.is in
    let longer = grown c.append.result c.append.new.self.items old needs.items c.append.ensures.items in
    record {
      links = λ before known. on_ok_weaker c.append.result
          (λ e. ap links_of e ∙ map-append (λ need. need.link.now) old needs.items ∙ ap (λ links. links_of old ++ links) (at_some (AreNeeds pool c.args.number) _ needs there (known.aside c.args.number)).0) longer;
      needs = λ before known. on_ok_weaker c.append.result
          (λ e. subst (All (IsNeed pool)) (sym e) (All-append (IsNeed pool) old needs.items known.needs (at_some (AreNeeds pool c.args.number) _ needs there (known.aside c.args.number)).1)) longer;
      aside = λ before known. aside_less pool c.args.self.now.aside c.remove.new.self c.args.number known.aside c.remove.ensures.updates.0;
      marks = refl;
    }

pub returns-in-None : goal.returns-in-None
returns-in-None c =
    let pool = c.args.pool.now in
    let old = c.args.self.now.queue.items in
    record {
      links = λ before known. on_ok_weaker c.put_links.result (λ e. e ∙ ap (λ links. links_of old ++ links) c.requires_of.ensures) c.put_links.ensures.links;
      needs = λ before known. on_ok_weaker c.put_links.result (λ all. all pool known.needs) c.put_links.ensures.needs;
      aside = λ before known. aside_less pool c.args.self.now.aside c.remove.new.self c.args.number known.aside c.remove.ensures.updates.0;
      marks = refl;
    }
