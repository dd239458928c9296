use Rattle.std.proofs.Common.{◌≡◌, drop}
use Rattle.plan_solve.specs.Search.{IsRight, first_place, links_of, waits_by}
use Rattle.plan_solve.proofs.members.Members.first_waiting.Given as goal

abbrev pub invariant-loop-place : goal.invariant-loop-place
invariant-loop-place l = record {
  right : IsRight l.context;
  rest : first_place (waits_by l.context.pool.now l.self.marks.items) l.place (drop l.place (links_of l.self.queue.items))
      ≡ first_place (waits_by l.context.pool.now l.self.marks.items) l.from (drop l.from (links_of l.self.queue.items));
}
