-- The order of numbered versions (Composer documentation, "Versions and constraints"; PHP manual, version_compare).
use Rattle.std.specs.Prelude.{ℕ, ◌+◌, List, [], ◌∷◌, ◌++◌, Bool, true, false, map, Option, Some, None}
use Rattle.std.specs.Ordering.{nat_cmp, ordering_then}
use Rattle.std.specs.Cmp.Lexicographic.{slice_cmp}
use Rattle.std.specs.declared.cmp.Ordering.{Ordering}
use Rattle.path_name.specs.Orders.{byte_cmp}
use Rattle.version_norm.specs.declared.order.Rank.{Rank}
use Rattle.version_norm.specs.declared.order.Rank.TheVariants as ranks
use Rattle.version_norm.specs.declared.version.Stage.{Stage}
use Rattle.version_norm.specs.declared.version.Stage.TheVariants as stages
use Rattle.version_norm.specs.declared.version.Modifier.{Modifier}
use Rattle.version_norm.specs.declared.version.Numbers.{Numbers}
use Rattle.version_norm.specs.declared.version.Numbered.{Numbered}
use Rattle.version_norm.specs.declared.version.Version.{Version}
use Rattle.version_norm.specs.declared.version.Version.TheVariants as versions

-- neither is a branch
abbrev pub IsNumbered : Version → Type 0
IsNumbered (versions.Branch name) = ⊥
IsNumbered (versions.Numbered v) = Unit {0}

-- the four numbers
abbrev pub four_numbers : Numbers → List ℕ
four_numbers n = n.major ∷ n.minor ∷ n.release ∷ n.build ∷ []

-- the rank, by the modifier
abbrev pub stage_rank : Stage → Rank
stage_rank stages.Alpha = ranks.Alpha
stage_rank stages.Beta = ranks.Beta
stage_rank stages.Rc = ranks.Rc
stage_rank stages.Patch = ranks.Patch

abbrev pub modifier_rank : Option Modifier → Bool → Rank
modifier_rank None true = ranks.DevAlone
modifier_rank None false = ranks.Unmodified
modifier_rank (Some modifier) dev = stage_rank modifier.stage

-- dev mark without modifier < alpha < beta < RC < none < patch
abbrev pub place_of : Rank → ℕ
place_of ranks.DevAlone = 0
place_of ranks.Alpha = 1
place_of ranks.Beta = 2
place_of ranks.Rc = 3
place_of ranks.Unmodified = 4
place_of ranks.Patch = 5

abbrev pub rank_cmp : Rank → Rank → Ordering
rank_cmp a b = nat_cmp (place_of a) (place_of b)

-- what follows a modifier: its numbers, and a final element that is Dev or End
pub data Element : Type 0 where
  Dev : Element
  End : Element
  Number : ℕ → Element

abbrev pub final_element : Bool → Element
final_element true = Dev
final_element false = End

abbrev pub with_end : List ℕ → Bool → List Element
with_end numbers dev = map Number numbers ++ final_element dev ∷ []

abbrev pub following : Option Modifier → Bool → List Element
following None dev = []
following (Some modifier) dev = with_end modifier.numbers dev

-- Dev < End < every number
abbrev pub element_rank : Element → ℕ
element_rank Dev = 0
element_rank End = 1
element_rank (Number n) = 2 + n

abbrev pub element_cmp : Element → Element → Ordering
element_cmp a b = nat_cmp (element_rank a) (element_rank b)

-- lexicographic: the four numbers, then the rank, then what follows the modifier
abbrev pub numbered_cmp : Numbered → Numbered → Ordering
numbered_cmp a b = ordering_then (byte_cmp (four_numbers a.numbers) (four_numbers b.numbers))
    (ordering_then (rank_cmp (modifier_rank a.modifier a.dev) (modifier_rank b.modifier b.dev))
    (slice_cmp element_cmp (following a.modifier a.dev) (following b.modifier b.dev)))

-- there is no order with a branch
abbrev pub version_cmp : Version → Version → Option Ordering
version_cmp (versions.Numbered a) (versions.Numbered b) = Some (numbered_cmp a b)
version_cmp a b = None
