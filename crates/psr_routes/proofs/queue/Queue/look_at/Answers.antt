use Rattle.std.proofs.Common.{◌≡◌, false, sym, ap, ◌∙◌, arith}
use Rattle.std.proofs.lemmas.List.Elements.{Contains-push}
use Rattle.psr_routes.specs.Waiting.{number_at, is_in}
use Rattle.psr_routes.proofs.Queues.{at_zero, gone_waits}
use Rattle.psr_routes.proofs.queue.Queue.look_at.Goals as goal

pub index-number-requires : goal.index-number-requires
index-number-requires c = omega (arith, c.requires.looks c.args.place (Contains-push c.args.self.now.unseen.items c.args.place), c.args.needs.now.numbers.ok.0)

pub put_among-requires-clause-number : goal.put_among-requires-clause-number
put_among-requires-clause-number c =
    at_zero c.args.needs.now.numbers.items c.args.place c.index-number.result.now (c.requires.looks c.args.place (Contains-push c.args.self.now.unseen.items c.args.place)) c.index-number.ensures

pub returns-else-contains-clause-waits : goal.returns-else-contains-clause-waits
returns-else-contains-clause-waits c =
    let needs = c.args.needs.now in
    let queue = c.args.self.now in
    let place = c.args.place in
    let number : c.index-number.result.now ≡ number_at needs place =
    at_zero needs.numbers.items place c.index-number.result.now (c.requires.looks place (Contains-push queue.unseen.items place)) c.index-number.ensures in
    let gone : is_in queue.rest (c.index-number.result.now, place) ≡ false = sym c.contains.ensures ∙ c.if-contains.false in
    gone_waits needs queue queue.unseen.items place c.requires (ap (λ n. is_in queue.rest (n, place)) (sym number) ∙ gone)
