use Rattle.std.proofs.Common.{◌∙◌, sym, arith}
use Rattle.plan_solve.proofs.Choices.{few_alternatives}
use Rattle.plan_solve.proofs.Queue.{nothing_waits, waits_at}
use Rattle.plan_solve.proofs.members.Members.pending.Goals as goal

pub returns-in_default : goal.returns-in_default
returns-in_default c = record {
  next = λ before known none. nothing_waits c.args.context.now.pool.now before c.args.self.now c.args.from known none (sym c.first_waiting.ensures.first ∙ c.in_default.is);
  members = λ before known. known;
}

pub returns : goal.returns
returns c =
    let pool = c.args.context.now.pool.now in
    record {
      next = λ before known none.
          let waiting = waits_at pool before c.args.self.now c.args.from known none c.in-Some.place (sym c.first_waiting.ensures.first ∙ c.in-Some.is) in
          let all = c.in_ok-alternatives.ensures.all before waiting.need known waiting.there in (
            record {
              need = waiting.need;
              unmet = waiting.unmet;
              there = waiting.there;
              earlier = waiting.earlier;
              alternatives = all;
              passed = λ number choice less. absurd (omega (arith, less));
            },
            few_alternatives pool waiting.need c.in_ok-alternatives.alternatives.items all,
          );
      members = c.alternatives.ensures.members;
    }
