use Rattle.std.proofs.Common.{◌≡◌, None, refl, ap, sym, ◌∙◌}
use Rattle.std.specs.BTreeMap.{get, is_at}
use Rattle.std.specs.Map.{lookup}
use Rattle.path_name.specs.Orders.{byte_cmp}
use Rattle.pkg_pool.specs.Stability.{flag_from, root_flag}
use Rattle.pkg_pool.proofs.Flags.{from_both}
use Rattle.pkg_pool.proofs.stability.RootFlags.of.Goals as goal

pub returns : goal.returns
unfolding root_flag
returns c =
    let r = c.args.root.now in
    record {
      minimum = refl;
      each = λ name.
          let none : get byte_cmp c.new-flags.result name ≡ None = ap (lookup (is_at (byte_cmp name))) c.new-flags.ensures.empty in
          rw c.as_slice-2.ensures at (c.in_ok-put_flags-2.ensures name)
          ∙ ap (λ found. flag_from r.minimum name found r.require_dev) (rw (c.as_slice.ensures, none) at (c.in_ok-put_flags.ensures name))
          ∙ sym (from_both r.minimum name None r.«package».require r.require_dev);
    }
