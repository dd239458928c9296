use Rattle.std.proofs.Common.{◌≡◌, ◌∙◌, ap, reverse, take}
use Rattle.std.specs.Option.{option_copied}
use Rattle.tree_dev.specs.Disk.{made}
use Rattle.tree_dev.specs.Memory.{crashed, torn_changes}
use Rattle.tree_dev.specs.Remade.{safe_at}
use Rattle.tree_dev.proofs.Remaking.{can_make_first, can_make_none, crashed_kept}
use Rattle.tree_dev.proofs.remade.Remade.crashed.Goals as goal

pub apply_all-requires : goal.apply_all-requires
apply_all-requires c = rw c.deref.ensures.value (can_make_first c.self.inside.base c.self.inside.pending.items c.min-kept.result c.self.invariant)

pub invariant_of-result : goal.invariant_of-result
invariant_of-result c = rw c.new.ensures.items (can_make_none c.apply_all.new.files)

pub returns : goal.returns
returns c =
    let kept : made c.self.inside.base (torn_changes (option_copied c.args.torn) (reverse (take c.min-kept.result c.deref.result.now)))
    ≡ crashed (record { base = c.self.inside.base; pending = reverse c.self.inside.pending.items }) c.args.applied (option_copied c.args.torn) =
    rw (c.min-kept.ensures, c.len.ensures, c.self.inside.pending.ok.0, c.deref.ensures.value) (crashed_kept c.self.inside.base c.self.inside.pending.items c.args.applied (option_copied c.args.torn)) in
    let files : c.apply_all.new.files ≡ crashed c.args.self c.args.applied (option_copied c.args.torn) =
    c.in_ok-apply_all.ensures ∙ kept ∙ ap (λ d. crashed d c.args.applied (option_copied c.args.torn)) c.self.view_is in
    rw c.new.ensures.items (ap safe_at files)
