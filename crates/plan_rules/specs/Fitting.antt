-- Which candidates break no rule beside others, told by their own names and links, and by those of one other at a time.
use Rattle.std.specs.Prelude.{◌≡◌, ℕ, List, length, Bool, not, ◌&&◌, ◌||◌, None}
use Rattle.std.specs.List.{list_any}
use Rattle.path_name.specs.Orders.{bytes_are_equal}
use Rattle.manifest_read.specs.declared.types.Manifest.{Manifest}
use Rattle.manifest_read.specs.declared.types.Package.{Package}
use Rattle.manifest_read.specs.declared.types.PlatformRow.{PlatformRow}
use Rattle.pkg_pool.specs.Stability.{is_allowed}
use Rattle.pkg_pool.specs.declared.pool.Pool.{Pool}
use Rattle.pkg_pool.specs.declared.pool.Candidate.{Candidate}
use Rattle.plan_rules.specs.Sets.{set_of}
use Rattle.plan_rules.specs.Requirements.{takes}
use Rattle.plan_rules.specs.Validity.{members, parties, taken_names, is_against, is_listed_as, is_barred, not_allowed, two_owners, conflict, platform}
use Rattle.plan_rules.specs.FirstChoice.{packages_of}

-- The set of a list breaks no rule but that requirements of it may be unmet.
pub record BreaksNone (pool : Pool) (list : List ℕ) : Type 0 where
  pub allowed : not_allowed pool (members pool (set_of (length pool.candidates) list)) ≡ None
  pub owners : two_owners (parties pool (set_of (length pool.candidates) list)) ≡ None
  pub conflict : conflict pool (set_of (length pool.candidates) list) ≡ None
  pub platform : platform pool (set_of (length pool.candidates) list) ≡ None

-- both own or replace one name
abbrev pub share_a_name : Package → Package → Bool
share_a_name party other = list_any (λ name. takes name other) (taken_names party)

-- the one can't be installed beside the other
abbrev pub conflicts_with : Package → Package → Bool
conflicts_with party other = not (bytes_are_equal other.name party.name) && list_any (λ link. is_against link other) party.conflict

abbrev pub are_rivals : Package → Package → Bool
are_rivals party other = share_a_name party other || (conflicts_with party other || conflicts_with other party)

-- neither a conflict nor a requirement of it is at odds with what the root lists of the platform
abbrev pub suits_platform : List PlatformRow → Package → Bool
suits_platform rows party =
    not (list_any (λ link. list_any (is_listed_as link) rows) party.conflict) && not (list_any (λ link. is_barred rows (party.name, link)) party.require)

-- A candidate that breaks no rule beside the root and those of a list.
unfoldable pub fits : Pool → List ℕ → Candidate → Bool
fits pool before one = is_allowed pool.root one && (suits_platform pool.root.platform one.«package» && not (list_any (are_rivals one.«package») (packages_of pool before)))

-- the root alone breaks no rule but that requirements of it may be unmet
abbrev pub root_suits : Manifest → Bool
root_suits root = suits_platform root.platform root.«package» && not (list_any (λ link. is_barred root.platform (root.«package».name, link)) root.require_dev)
