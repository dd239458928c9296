use Rattle.std.proofs.Common.{◌≡◌, ◌∙◌, ◌+◌, ◌∷◌, ap, sym, subst, map, drop}
use Rattle.std.proofs.lemmas.List.{drop_more}
use Rattle.std.specs.BTreeMap.{insert_entry}
use Rattle.plan_rules.specs.Validity.{by_name}
use Rattle.plan_rules.proofs.Placing.{place_cmp, shown_all, ArePlaced, put_entry, placed_entry}
use Rattle.plan_rules.proofs.members.placed.Goals as goal

pub loop-place-preserved : goal.loop-place-preserved
loop-place-preserved c =
    let list = c.args.list.now in
    let place = c.loop-place.place in
    let member = c.index-list-place.result in
    let old = c.loop-place.placed.entries in
    let entries : c.insert.new.self.entries ≡ insert_entry place_cmp old (member.now.«package».name, place) member
    = c.in_ok-_none.ensures.entries ∙ ap (λ name. insert_entry place_cmp old (name, place) member) c.in_ok-name.ensures in
    record {
      sorted = ap (λ es. by_name (shown_all es) (map (λ it. it.now) (drop (place + 1) list))) entries
          ∙ ap (λ some. by_name some (map (λ it. it.now) (drop (place + 1) list))) (put_entry member place old c.loop-place.invariant.behind)
          ∙ ap (λ items. by_name (shown_all old) (map (λ it. it.now) items)) (sym (drop_more list place member c.loop-place-test.true ∙ ap (λ y. y ∷ drop (place + 1) list) (sym c.index-list-place.is)))
          ∙ c.loop-place.invariant.sorted;
      behind = subst (ArePlaced (place + 1)) (sym entries) (placed_entry member place old c.loop-place.invariant.behind);
    }
