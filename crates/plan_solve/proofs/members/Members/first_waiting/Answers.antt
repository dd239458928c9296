use Rattle.std.proofs.Common.{◌≡◌, ◌∙◌, ap, sym, length, Some, arith}
use Rattle.std.specs.List.{slice_get}
use Rattle.std.specs.Prelude.{option_map}
use Rattle.std.proofs.lemmas.Option.{slice_get_read, slice_get-map}
use Rattle.plan_solve.specs.Search.{waits_by}
use Rattle.plan_solve.proofs.Queue.{listed, place_here, place_later}
use Rattle.plan_solve.proofs.members.Members.first_waiting.Goals as goal

pub returns-then-waits-clause-first : goal.returns-then-waits-clause-first
returns-then-waits-clause-first c =
    let pool = c.args.context.now.pool.now in
    let queued = c.args.self.now.queue.items in
    let place = c.loop-place.place in
    let need = c.index.result.now.link.now in
    let there : slice_get (listed c.args.self.now) place ≡ Some need = slice_get-map (λ need. need.link.now) queued place
    ∙ ap (option_map (λ need. need.link.now)) (slice_get_read queued (length queued) place c.index.result.now (λ i. length queued) (omega (arith, c.loop-place-test.true, c.len-place-end.ensures, c.args.self.now.queue.ok.0)) c.index.ensures) in
    sym (place_here (waits_by pool c.args.self.now.marks.items) (listed c.args.self.now) place need there (ap (λ marks. waits_by pool marks need) (sym c.as_slice.ensures.value) ∙ sym c.waits.ensures ∙ c.if-waits.true))
    ∙ c.loop-place.invariant.rest

pub loop-place-preserved : goal.loop-place-preserved
loop-place-preserved c =
    let pool = c.args.context.now.pool.now in
    let queued = c.args.self.now.queue.items in
    let place = c.loop-place.place in
    let need = c.index.result.now.link.now in
    let there : slice_get (listed c.args.self.now) place ≡ Some need = slice_get-map (λ need. need.link.now) queued place
    ∙ ap (option_map (λ need. need.link.now)) (slice_get_read queued (length queued) place c.index.result.now (λ i. length queued) (omega (arith, c.loop-place-test.true, c.len-place-end.ensures, c.args.self.now.queue.ok.0)) c.index.ensures) in
    record {
      right = c.loop-place.invariant.right;
      rest = sym (place_later (waits_by pool c.args.self.now.marks.items) (listed c.args.self.now) place need there (ap (λ marks. waits_by pool marks need) (sym c.as_slice.ensures.value) ∙ sym c.waits.ensures ∙ c.if-waits.false))
          ∙ c.loop-place.invariant.rest;
    }
