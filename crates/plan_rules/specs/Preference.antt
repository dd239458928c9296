-- Which of the alternatives of a requirement is preferred (Composer's documentation, "The composer.json schema",
-- "prefer-stable"; "Path").
use Rattle.std.specs.Prelude.{◌≡◌, ℕ, List, [], ◌∷◌, Bool, true, false, ⊤, Option, Some, None, option_map, if◌then◌else◌}
use Rattle.std.specs.List.{slice_get}
use Rattle.std.specs.Option.{option_map_or}
use Rattle.std.specs.Ordering.{nat_cmp, ordering_then, is_lt}
use Rattle.std.specs.declared.cmp.Ordering.{Ordering}
use Rattle.std.specs.declared.cmp.Ordering.TheVariants.{Less, Equal, Greater}
use Rattle.path_name.specs.Orders.{byte_cmp}
use Rattle.version_norm.specs.Stability.{rank_of, stability_of}
use Rattle.version_norm.specs.VersionOrder.{numbered_cmp}
use Rattle.version_norm.specs.declared.version.Version.{Version}
use Rattle.version_norm.specs.declared.version.Version.TheVariants as versions
use Rattle.manifest_read.specs.declared.types.Link.{Link}
use Rattle.manifest_read.specs.declared.types.Package.{Package}
use Rattle.pkg_pool.specs.declared.pool.Pool.{Pool}
use Rattle.plan_rules.specs.Sets.{is_in}
use Rattle.plan_rules.specs.Requirements.{owns, replaces, meets}

-- who owns the name comes before who replaces it, and that before who provides it, whichever of these meets the
-- requirement
abbrev pub way_of : Link → Package → ℕ
way_of link party = if owns link.name party then 0 else if replaces link.name party then 1 else 2

abbrev pub stability_place : Bool → Package → ℕ
stability_place prefer_stable party = if prefer_stable then rank_of (stability_of party.version) else 0

-- numbered versions before branches; the higher version first, and the byte-least branch
abbrev pub version_order : Version → Version → Ordering
version_order (versions.Numbered v) (versions.Numbered w) = numbered_cmp w v
version_order (versions.Numbered v) (versions.Branch other) = Less
version_order (versions.Branch name) (versions.Numbered w) = Greater
version_order (versions.Branch name) (versions.Branch other) = byte_cmp name other

abbrev pub package_order : Bool → Link → Package → Package → Ordering
package_order prefer_stable link one other =
    ordering_then (nat_cmp (way_of link one) (way_of link other))
    (ordering_then (nat_cmp (stability_place prefer_stable one) (stability_place prefer_stable other))
    (ordering_then (version_order one.version other.version) (byte_cmp one.name other.name)))

-- of two packages of the pool, by their places
abbrev pub order_at : Bool → Link → Option Package → Option Package → Ordering
order_at prefer_stable link (Some one) (Some other) = package_order prefer_stable link one other
order_at prefer_stable link (Some one) None = Less
order_at prefer_stable link None (Some other) = Greater
order_at prefer_stable link None None = Equal

abbrev pub package_at : Pool → ℕ → Option Package
package_at pool number = option_map (λ candidate. candidate.«package») (slice_get pool.candidates number)

-- the order of candidates, by their numbers: of equal ones the earlier place of the pool comes first
unfoldable pub preference : Pool → Link → ℕ → ℕ → Ordering
preference pool link one other = ordering_then (order_at pool.root.prefer_stable link (package_at pool one) (package_at pool other)) (nat_cmp one other)

-- a candidate that meets a requirement
unfoldable pub is_alternative : Pool → Link → ℕ → Bool
is_alternative pool link number = option_map_or (meets link) (package_at pool number) false

-- it is preferred to the other one
abbrev pub is_preferred : Pool → Link → ℕ → ℕ → Bool
is_preferred pool link one other = is_lt (preference pool link one other)

-- each of a list is preferred to all behind it
abbrev pub AreSorted : Pool → Link → List ℕ → Type 0
AreSorted pool link [] = ⊤
AreSorted pool link (first ∷ others) = ((other : ℕ) → is_in other others ≡ true → is_preferred pool link first other ≡ true) × AreSorted pool link others

-- all alternatives of a requirement, in order of preference
pub record AreAlternatives (pool : Pool) (link : Link) (list : List ℕ) : Type 0 where
  pub all : (number : ℕ) → is_in number list ≡ is_alternative pool link number
  pub sorted : AreSorted pool link list
