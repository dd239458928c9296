use Rattle.std.proofs.Common.{rules}
use Rattle.std.proofs.lemmas.Fn.{always_returns_same}
use Rattle.autoload_build.specs.Jobs.{by_prefix, prefix_of}
use Rattle.autoload_build.proofs.FallingKeys.{greater_first, ranks_falling, sorted_by_falling}
use Rattle.autoload_build.proofs.jobs.sort_by_prefix.Goals as goal

pub returns : goal.returns
unfolding by_prefix
returns c = sorted_by_falling (λ job. prefix_of job.rule) c.args.jobs.now.items c.sort_by.new.self.items
    (c.in_ok-sort_by.ensures.sorted (greater_first (λ job. prefix_of job.rule)) (ranks_falling (λ job. prefix_of job.rule)) (always_returns_same _ _ _ (λ a r f' k. search rules)))
    (c.in_ok-sort_by.ensures.stable (greater_first (λ job. prefix_of job.rule)) (ranks_falling (λ job. prefix_of job.rule)) (always_returns_same _ _ _ (λ a r f' k. search rules)))
