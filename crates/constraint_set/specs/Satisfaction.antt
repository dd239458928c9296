-- Which versions satisfy a constraint (Composer documentation, "Versions and constraints"; composer/semver,
-- Constraint::versionCompare): a branch is only equal to itself, and is in no order.
use Rattle.std.specs.Prelude.{List, Bool, false, not}
use Rattle.std.specs.List.{list_all, list_any}
use Rattle.std.specs.Ordering.{is_lt, is_le, is_gt, is_ge, is_eq, is_ne}
use Rattle.std.specs.declared.cmp.Ordering.{Ordering}
use Rattle.path_name.specs.Orders.{bytes_are_equal}
use Rattle.version_norm.specs.declared.version.Version.{Version}
use Rattle.version_norm.specs.declared.version.Version.TheVariants as versions
use Rattle.version_norm.specs.VersionOrder.{numbered_cmp}
use Rattle.constraint_set.specs.declared.constraint.Operator.{Operator}
use Rattle.constraint_set.specs.declared.constraint.Operator.TheVariants as operators
use Rattle.constraint_set.specs.declared.constraint.Comparison.{Comparison}
use Rattle.constraint_set.specs.declared.constraint.Constraint.{Constraint}

-- how a version may stand to the one that it is compared with
abbrev pub admits : Operator → Ordering → Bool
admits operators.Less order = is_lt order
admits operators.LessOrEqual order = is_le order
admits operators.Greater order = is_gt order
admits operators.GreaterOrEqual order = is_ge order
admits operators.Equal order = is_eq order
admits operators.NotEqual order = is_ne order

-- the same where they are in no order, but may be the same
abbrev pub admits_unordered : Operator → Bool → Bool
admits_unordered operators.Less same = false
admits_unordered operators.LessOrEqual same = false
admits_unordered operators.Greater same = false
admits_unordered operators.GreaterOrEqual same = false
admits_unordered operators.Equal same = same
admits_unordered operators.NotEqual same = not same

-- the version, against the one that stands in the comparison
abbrev pub is_admitted : Operator → Version → Version → Bool
is_admitted operator (versions.Numbered v) (versions.Numbered w) = admits operator (numbered_cmp v w)
is_admitted operator (versions.Numbered v) (versions.Branch other) = admits_unordered operator false
is_admitted operator (versions.Branch name) (versions.Numbered w) = admits_unordered operator false
is_admitted operator (versions.Branch name) (versions.Branch other) = admits_unordered operator (bytes_are_equal name other)

abbrev pub holds_at : Version → Comparison → Bool
holds_at v c = is_admitted c.operator v c.version

-- all comparisons of a list
abbrev pub all_hold_at : Version → List Comparison → Bool
all_hold_at v list = list_all (holds_at v) list

-- a version satisfies all comparisons of some alternative
unfoldable pub satisfies : Constraint → Version → Bool
satisfies c v = list_any (all_hold_at v) c.alternatives
