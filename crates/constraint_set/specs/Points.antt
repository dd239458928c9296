-- Points of the order of versions: the versions, and the gaps between them. That constraints meet is that one point
-- satisfies both (composer/semver, Intervals, where `>1.0` and `<1.1` meet whatever versions there are between).
use Rattle.std.specs.Prelude.{List, Bool, false}
use Rattle.std.specs.List.{list_all, list_any}
use Rattle.std.specs.declared.cmp.Ordering.{Ordering}
use Rattle.std.specs.declared.cmp.Ordering.TheVariants.{Less, Equal, Greater}
use Rattle.version_norm.specs.declared.version.Numbered.{Numbered}
use Rattle.version_norm.specs.declared.version.Version.{Version}
use Rattle.version_norm.specs.declared.version.Version.TheVariants as versions
use Rattle.version_norm.specs.VersionOrder.{numbered_cmp}
use Rattle.constraint_set.specs.declared.constraint.Operator.{Operator}
use Rattle.constraint_set.specs.declared.constraint.Comparison.{Comparison}
use Rattle.constraint_set.specs.declared.constraint.Constraint.{Constraint}
use Rattle.constraint_set.specs.Satisfaction.{admits, admits_unordered, holds_at}

-- A version; the gap above a numbered version and below all later ones; or what is below all numbered versions.
pub data Point : Type 0 where
  on : Version → Point
  behind : Numbered → Point
  before_all : Point

-- how a point that is no version stands to each numbered version: to none as equal
abbrev pub behind_order : Ordering → Ordering
behind_order Less = Less
behind_order Equal = Greater
behind_order Greater = Greater

-- a comparison at such a point; it is no branch
abbrev pub admits_gap : Operator → (Numbered → Ordering) → Version → Bool
admits_gap operator order (versions.Numbered w) = admits operator (order w)
admits_gap operator order (versions.Branch name) = admits_unordered operator false

abbrev pub holds_at_point : Point → Comparison → Bool
holds_at_point (on version) c = holds_at version c
holds_at_point (behind v) c = admits_gap c.operator (λ w. behind_order (numbered_cmp v w)) c.version
holds_at_point before_all c = admits_gap c.operator (λ w. Less) c.version

-- a point satisfies all comparisons of some alternative
abbrev pub all_hold_at_point : Point → List Comparison → Bool
all_hold_at_point point list = list_all (holds_at_point point) list

unfoldable pub satisfies_at : Constraint → Point → Bool
satisfies_at c point = list_any (all_hold_at_point point) c.alternatives
