use Rattle.std.proofs.Common.{rules}
use Rattle.std.proofs.lemmas.Fn.{always_returns_same}
use Rattle.autoload_build.specs.Steps.{lent_prefix}
use Rattle.autoload_build.proofs.FallingKeys.{greater_first, ranks_falling, sorted_by_falling}
use Rattle.autoload_build.proofs.prefixes.sort_by_prefix.Goals as goal

pub returns : goal.returns
returns c = sorted_by_falling lent_prefix c.args.rows.now.items c.sort_by.new.self.items
    (c.in_ok-sort_by.ensures.sorted (greater_first lent_prefix) (ranks_falling lent_prefix) (always_returns_same _ _ _ (λ a r f' k. search rules)))
    (c.in_ok-sort_by.ensures.stable (greater_first lent_prefix) (ranks_falling lent_prefix) (always_returns_same _ _ _ (λ a r f' k. search rules)))
