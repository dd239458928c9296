-- What a set keeps of a larger valid one.
use Rattle.std.proofs.Common.{◌≡◌, ℕ, false, not, List, ◌++◌, map, find, Option, Some, None, refl, ap, subst, arith, inl, inr}
use Rattle.std.specs.Prelude.{◌⊎◌, ◌&&◌, option_map}
use Rattle.std.specs.Option.{option_or}
use Rattle.path_name.specs.Orders.{bytes_are_equal}
use Rattle.manifest_read.specs.declared.types.Package.{Package}
use Rattle.manifest_read.specs.declared.types.Link.{Link}
use Rattle.manifest_read.specs.declared.types.PlatformRow.{PlatformRow}
use Rattle.pkg_pool.specs.declared.pool.Pool.{Pool}
use Rattle.pkg_pool.specs.declared.pool.Candidate.{Candidate}
use Rattle.plan_rules.specs.Sets.{Chosen, IsWithin}
use Rattle.plan_rules.specs.Requirements.{takes}
use Rattle.plan_rules.specs.Validity.{members, parties, links_of, requirements, is_unmet, is_against, is_listed_as, against}
use Rattle.plan_rules.proofs.Lists.{Among, among_left, among_right, among_either, among_map, map_among, among_flat_map, flat_map_among, find_none, none_found}
use Rattle.plan_rules.proofs.SetMembers.{among_members, members_among, parties_within, parties_count}
use Rattle.plan_rules.proofs.KeptRules.{Keeps}

pub members_within : (pool : Pool) (small large : Chosen) (one : Candidate) → IsWithin small large → Among one (members pool small) → Among one (members pool large)
members_within pool small large one within found = let at = among_members pool small one found in members_among pool large one (at.0, at.1, within at.0 at.2)

packages_within : (pool : Pool) (small large : Chosen) (party : Package) → IsWithin small large → Among party (map (λ it. it.«package») (members pool small)) → Among party (map (λ it. it.«package») (members pool large))
packages_within pool small large party within found =
    let one = among_map (λ it. it.«package») (members pool small) party found in
    subst (λ other. Among other (map (λ it. it.«package») (members pool large))) one.2 (map_among (λ it. it.«package») (members pool large) one.0 (members_within pool small large one.0 within one.1))

pub links_within : (links : Package → List Link) (small large : List Package) (from : List ℕ × Link) → ((party : Package) → Among party small → Among party large) → Among from (links_of links small) → Among from (links_of links large)
links_within links small large from within found =
    let one = among_flat_map (λ party. map (λ link. (party.name, link)) (links party)) small from found in
    flat_map_among (λ party. map (λ link. (party.name, link)) (links party)) large one.0 from (within one.0 one.1) one.2

pub requirements_within : (pool : Pool) (small large : Chosen) (wanted : List ℕ × Link) → IsWithin small large → Among wanted (requirements pool small) → Among wanted (requirements pool large)
requirements_within pool small large wanted within found = step (among_either wanted (map (λ link. (pool.root.«package».name, link)) (pool.root.«package».require ++ pool.root.require_dev)) (links_of (λ party. party.require) (map (λ it. it.«package») (members pool small))) found)
  where
    step : Among wanted (map (λ link. (pool.root.«package».name, link)) (pool.root.«package».require ++ pool.root.require_dev)) ⊎ Among wanted (links_of (λ party. party.require) (map (λ it. it.«package») (members pool small))) → Among wanted (requirements pool large)
    step (inl there) = among_left wanted (map (λ link. (pool.root.«package».name, link)) (pool.root.«package».require ++ pool.root.require_dev)) (links_of (λ party. party.require) (map (λ it. it.«package») (members pool large))) there
    step (inr there) = among_right wanted (map (λ link. (pool.root.«package».name, link)) (pool.root.«package».require ++ pool.root.require_dev)) (links_of (λ party. party.require) (map (λ it. it.«package») (members pool large)))
        (links_within (λ party. party.require) (map (λ it. it.«package») (members pool small)) (map (λ it. it.«package») (members pool large)) wanted (λ party there_too. packages_within pool small large party within there_too) there)

none_or : {X : Type 0} (first second : Option X) → first ≡ None → second ≡ None → option_or first second ≡ None
none_or first second e f = rw (e, f) refl

left_none : {X : Type 0} (first second : Option X) → option_or first second ≡ None → first ≡ None
left_none None second e = refl
left_none (Some x) second e = absurd cc

right_none : {X : Type 0} (first second : Option X) → option_or first second ≡ None → second ≡ None
right_none None second e = e
right_none (Some x) second e = absurd cc

map_none : {X Y : Type 0} (f : X → Y) (o : Option X) → option_map f o ≡ None → o ≡ None
map_none f None e = refl
map_none f (Some x) e = absurd cc

pub fewer_against : (rows : List PlatformRow) (small large : List Package) (from : List ℕ × Link) → ((party : Package) → Among party small → Among party large) → against rows large from ≡ None → against rows small from ≡ None
fewer_against rows small large from within none =
    let first = find (λ party. not (bytes_are_equal party.name from.0) && is_against from.1 party) large in
    let listed = option_map (λ row. row.name) (find (is_listed_as from.1) rows) in
    none_or (option_map (λ party. party.name) (find (λ party. not (bytes_are_equal party.name from.0) && is_against from.1 party) small)) listed
    (ap (option_map (λ party. party.name)) (none_found (λ party. not (bytes_are_equal party.name from.0) && is_against from.1 party) small
    (λ party there. find_none (λ it. not (bytes_are_equal it.name from.0) && is_against from.1 it) large party (map_none (λ it. it.name) first (left_none (option_map (λ it. it.name) first) listed none)) (within party there))))
    (right_none (option_map (λ it. it.name) first) listed none)

-- what breaks no rule, and has what it requires in packages, keeps all rules if it lies within a set that does
pub smaller : (pool : Pool) (small large : Chosen) → IsWithin small large → Keeps pool large → ((wanted : List ℕ × Link) → Among wanted (requirements pool small) → is_unmet (parties pool small) wanted ≡ false) → Keeps pool small
smaller pool small large within keeps met = record {
  allowed = λ one there. keeps.allowed one (members_within pool small large one within there);
  owners = λ name. omega (arith, keeps.owners name, parties_count (takes name) pool small large within);
  met = met;
  conflicts = λ from there. fewer_against pool.root.platform (parties pool small) (parties pool large) from (λ party found. parties_within pool small large party within found)
      (keeps.conflicts from (links_within (λ party. party.conflict) (parties pool small) (parties pool large) from (λ party found. parties_within pool small large party within found) there));
  platform = λ wanted there. keeps.platform wanted (requirements_within pool small large wanted within there);
}
