-- Which constraints meet: those that have room for a common version (composer/semver, Intervals, where `>1.0` and
-- `<1.1` meet whatever versions there are between).
use Rattle.std.specs.Prelude.{List, [], ◌∷◌, ◌++◌, Bool, true, false, not, ◌&&◌, ◌||◌, None}
use Rattle.std.specs.List.{list_all, list_any}
use Rattle.std.specs.declared.cmp.Ordering.{Ordering}
use Rattle.std.specs.declared.cmp.Ordering.TheVariants.{Less, Equal, Greater}
use Rattle.version_norm.specs.declared.version.Version.{Version}
use Rattle.version_norm.specs.declared.version.Version.TheVariants as versions
use Rattle.version_norm.specs.VersionOrder.{numbered_cmp}
use Rattle.constraint_set.specs.declared.constraint.Operator.{Operator}
use Rattle.constraint_set.specs.declared.constraint.Operator.TheVariants as operators
use Rattle.constraint_set.specs.declared.constraint.Comparison.{Comparison}
use Rattle.constraint_set.specs.declared.constraint.Constraint.{Constraint}
use Rattle.constraint_set.specs.Parts.{is_equal}
use Rattle.constraint_set.specs.Satisfaction.{holds_at}

-- ---- kinds of comparisons

abbrev pub is_branch : Version → Bool
is_branch (versions.Branch name) = true
is_branch (versions.Numbered v) = false

-- `>`, `>=` and `==` leave nothing below the version
abbrev pub is_lower : Operator → Bool
is_lower operators.Less = false
is_lower operators.LessOrEqual = false
is_lower operators.Greater = true
is_lower operators.GreaterOrEqual = true
is_lower operators.Equal = true
is_lower operators.NotEqual = false

-- `<`, `<=` and `==` leave nothing above it
abbrev pub is_upper : Operator → Bool
is_upper operators.Less = true
is_upper operators.LessOrEqual = true
is_upper operators.Greater = false
is_upper operators.GreaterOrEqual = false
is_upper operators.Equal = true
is_upper operators.NotEqual = false

-- `>` and `<` leave out the version itself
abbrev pub is_exclusive : Operator → Bool
is_exclusive operators.Less = true
is_exclusive operators.LessOrEqual = false
is_exclusive operators.Greater = true
is_exclusive operators.GreaterOrEqual = false
is_exclusive operators.Equal = false
is_exclusive operators.NotEqual = false

-- `<`, `<=`, `>` and `>=`
abbrev pub is_ordering : Operator → Bool
is_ordering operators.Less = true
is_ordering operators.LessOrEqual = true
is_ordering operators.Greater = true
is_ordering operators.GreaterOrEqual = true
is_ordering operators.Equal = false
is_ordering operators.NotEqual = false

-- `==` of a branch
abbrev pub names_branch : Comparison → Bool
names_branch c = is_equal c.operator && is_branch c.version

-- `<`, `<=`, `>` or `>=` of a branch
abbrev pub orders_branch : Comparison → Bool
orders_branch c = is_ordering c.operator && is_branch c.version

-- `<`, `<=`, `>`, `>=` or `==` of a numbered version
abbrev pub bounds_numbers : Comparison → Bool
bounds_numbers c = (is_ordering c.operator || is_equal c.operator) && not (is_branch c.version)

abbrev pub is_not_equal : Operator → Bool
is_not_equal operators.Less = false
is_not_equal operators.LessOrEqual = false
is_not_equal operators.Greater = false
is_not_equal operators.GreaterOrEqual = false
is_not_equal operators.Equal = false
is_not_equal operators.NotEqual = true

-- `!=` of that version
abbrev pub excludes : Version → Comparison → Bool
excludes version c = is_not_equal c.operator && not (holds_at version c)

-- ---- numbers: each lower end and each upper end of the list leave room

-- the one is below the other, or they are one version, which both take and no `!=` names
abbrev pub room_by : Ordering → Bool → Bool
room_by Less at = true
room_by Equal at = at
room_by Greater at = false

abbrev pub takes_both : List Comparison → Comparison → Comparison → Bool
takes_both list low high = not (is_exclusive low.operator) && not (is_exclusive high.operator) && not (list_any (excludes low.version) list)

abbrev pub room_between : Version → Version → Bool → Bool
room_between (versions.Numbered low) (versions.Numbered high) at = room_by (numbered_cmp low high) at
room_between (versions.Numbered low) (versions.Branch other) at = true
room_between (versions.Branch name) high at = true

abbrev pub leave_room : List Comparison → Comparison → Comparison → Bool
leave_room list low high = not (is_lower low.operator && is_upper high.operator) || room_between low.version high.version (takes_both list low high)

abbrev pub is_open_interval : List Comparison → Bool
is_open_interval list = not (list_any names_branch list) && list_all (λ low. list_all (leave_room list low) list) list

-- ---- a branch: each `==` of a branch is the same branch as each other one, and another than those under `!=`

abbrev pub agree : Comparison → Comparison → Bool
agree first second = not (names_branch first) || holds_at first.version second

abbrev pub is_open_branch : List Comparison → Bool
is_open_branch list = not (list_any bounds_numbers list) && list_all (λ first. list_all (agree first) list) list

-- ---- lists and constraints

-- some version could satisfy all comparisons of the list
abbrev pub is_open : List Comparison → Bool
is_open list = not (list_any orders_branch list) && (is_open_interval list || is_open_branch list)

-- two constraints meet where the comparisons of some alternative of each, joined, are open
unfoldable pub overlaps : Constraint → Constraint → Bool
overlaps c d = list_any (λ first. list_any (λ second. is_open (first ++ second)) d.alternatives) c.alternatives

-- the constraint `==` of a version
abbrev pub exactly : Version → Constraint
exactly version = record { alternatives = ((record { operator = operators.Equal; version = version }) ∷ []) ∷ []; flag = None }
