-- Versions are in a total order of preference.
use Rattle.std.proofs.Common.{◌≡◌, refl, sym, ap, ◌∙◌}
use Rattle.std.specs.Cmp.{IsTotalOrder}
use Rattle.std.specs.Ordering.{ordering_reverse}
use Rattle.std.specs.declared.cmp.Ordering.TheVariants.{Less, Equal}
use Rattle.path_name.specs.Orders.{byte_cmp_total}
use Rattle.version_norm.specs.VersionOrder.{numbered_cmp}
use Rattle.version_norm.proofs.OrderLaws.{numbered_cmp_total}
use Rattle.version_norm.specs.declared.version.Version.{Version}
use Rattle.version_norm.specs.declared.version.Version.TheVariants as versions
use Rattle.version_norm.specs.declared.version.Numbered.{Numbered}
use Rattle.plan_rules.specs.Preference.{version_order}

versions_antisymm : (v w : Version) → version_order v w ≡ ordering_reverse (version_order w v)
versions_antisymm (versions.Numbered v) (versions.Numbered w) = numbered_cmp_total.antisymm w v
versions_antisymm (versions.Numbered v) (versions.Branch b) = refl
versions_antisymm (versions.Branch a) (versions.Numbered w) = refl
versions_antisymm (versions.Branch a) (versions.Branch b) = byte_cmp_total.antisymm a b

versions_trans : (u v w : Version) → version_order u v ≡ Less → version_order v w ≡ Less → version_order u w ≡ Less
versions_trans (versions.Numbered u) (versions.Numbered v) (versions.Numbered w) e f = numbered_cmp_total.trans w v u f e
versions_trans (versions.Numbered u) v (versions.Branch c) e f = refl
versions_trans (versions.Numbered u) (versions.Branch b) (versions.Numbered w) e f = absurd cc
versions_trans (versions.Branch a) (versions.Numbered v) w e f = absurd cc
versions_trans (versions.Branch a) (versions.Branch b) (versions.Numbered w) e f = absurd cc
versions_trans (versions.Branch a) (versions.Branch b) (versions.Branch c) e f = byte_cmp_total.trans a b c e f

numbered_congr : (u v w : Numbered) → numbered_cmp v u ≡ Equal → numbered_cmp w u ≡ numbered_cmp w v
numbered_congr u v w e = numbered_cmp_total.antisymm w u ∙ ap ordering_reverse (sym (numbered_cmp_total.congr v u w e)) ∙ sym (numbered_cmp_total.antisymm w v)

versions_congr : (u v w : Version) → version_order u v ≡ Equal → version_order u w ≡ version_order v w
versions_congr (versions.Numbered u) (versions.Numbered v) (versions.Numbered w) e = numbered_congr u v w e
versions_congr (versions.Numbered u) (versions.Numbered v) (versions.Branch c) e = refl
versions_congr (versions.Numbered u) (versions.Branch b) w e = absurd cc
versions_congr (versions.Branch a) (versions.Numbered v) w e = absurd cc
versions_congr (versions.Branch a) (versions.Branch b) (versions.Numbered w) e = refl
versions_congr (versions.Branch a) (versions.Branch b) (versions.Branch c) e = byte_cmp_total.congr a b c e

pub versions_total : IsTotalOrder version_order
versions_total = record { antisymm = versions_antisymm; trans = versions_trans; congr = versions_congr }
