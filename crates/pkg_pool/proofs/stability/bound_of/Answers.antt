use Rattle.std.proofs.Common.{None, ap, sym, ◌∙◌}
use Rattle.std.specs.Option.{unwrap_or}
use Rattle.pkg_pool.specs.Stability.{root_flag}
use Rattle.pkg_pool.proofs.Flags.{from_both}
use Rattle.pkg_pool.proofs.stability.bound_of.Goals as goal

pub returns : goal.returns
unfolding root_flag
returns c =
    let r = c.args.root.now in
    c.unwrap_or.ensures ∙ ap (λ flag. unwrap_or flag r.minimum)
    (rw (c.as_slice-2.ensures, c.flag_from-required.ensures, c.as_slice.ensures) at c.flag_from-flag.ensures ∙ sym (from_both r.minimum c.args.name.now None r.«package».require r.require_dev))
