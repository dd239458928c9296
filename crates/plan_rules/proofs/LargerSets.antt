-- Rules that a larger set breaks wherever a smaller one does.
use Rattle.std.proofs.Common.{◌≡◌, true, not, find, None, ap, arith}
use Rattle.std.specs.Prelude.{option_map}
use Rattle.pkg_pool.specs.Stability.{is_allowed}
use Rattle.pkg_pool.specs.declared.pool.Pool.{Pool}
use Rattle.plan_rules.specs.declared.rule.Rule.TheVariants as rules
use Rattle.plan_rules.specs.Sets.{Chosen, IsWithin}
use Rattle.plan_rules.specs.Requirements.{takes}
use Rattle.plan_rules.specs.Validity.{members, parties, not_allowed, two_owners, links_of, requirements, is_unmet, unmet, against, conflict_rule, conflict, is_barred, platform, is_valid}
use Rattle.plan_rules.proofs.Lists.{find_none, none_found}
use Rattle.plan_rules.proofs.SetMembers.{parties_within, parties_count}
use Rattle.plan_rules.proofs.KeptRules.{keeps, kept, map_none, owners_kept, owners_keep, first_none, none_first}
use Rattle.plan_rules.proofs.Subsets.{members_within, links_within, requirements_within, fewer_against, smaller}

pub allowed_below : (pool : Pool) (small large : Chosen) → IsWithin small large → not_allowed pool (members pool large) ≡ None → not_allowed pool (members pool small) ≡ None
allowed_below pool small large within none = ap (option_map (λ member. rules.NotAllowed member.«package».name))
    (none_found (λ member. not (is_allowed pool.root member)) (members pool small) (λ one there.
    find_none (λ member. not (is_allowed pool.root member)) (members pool large) one (map_none (λ member. rules.NotAllowed member.«package».name) (find (λ member. not (is_allowed pool.root member)) (members pool large)) none)
    (members_within pool small large one within there)))

pub owners_below : (pool : Pool) (small large : Chosen) → IsWithin small large → two_owners (parties pool large) ≡ None → two_owners (parties pool small) ≡ None
owners_below pool small large within none = owners_keep (parties pool small) (λ name. omega (arith, owners_kept (parties pool large) none name, parties_count (takes name) pool small large within))

pub conflict_below : (pool : Pool) (small large : Chosen) → IsWithin small large → conflict pool large ≡ None → conflict pool small ≡ None
conflict_below pool small large within none = none_first (conflict_rule pool.root.platform (parties pool small)) (links_of (λ party. party.conflict) (parties pool small))
    (λ from there. ap (option_map (λ other. rules.Conflict from.0 from.1.name other))
    (fewer_against pool.root.platform (parties pool small) (parties pool large) from (λ party found. parties_within pool small large party within found)
    (map_none (λ other. rules.Conflict from.0 from.1.name other) (against pool.root.platform (parties pool large) from)
    (first_none (conflict_rule pool.root.platform (parties pool large)) (links_of (λ party. party.conflict) (parties pool large)) from none
    (links_within (λ party. party.conflict) (parties pool small) (parties pool large) from (λ party found. parties_within pool small large party within found) there)))))

pub platform_below : (pool : Pool) (small large : Chosen) → IsWithin small large → platform pool large ≡ None → platform pool small ≡ None
platform_below pool small large within none = ap (option_map (λ wanted. rules.Platform wanted.0 wanted.1.name))
    (none_found (is_barred pool.root.platform) (requirements pool small) (λ wanted there.
    find_none (is_barred pool.root.platform) (requirements pool large) wanted (map_none (λ it. rules.Platform it.0 it.1.name) (find (is_barred pool.root.platform) (requirements pool large)) none)
    (requirements_within pool small large wanted within there)))

pub valid_below : (pool : Pool) (small large : Chosen) → IsWithin small large → is_valid pool large ≡ true → unmet pool small ≡ None → is_valid pool small ≡ true
valid_below pool small large within valid none = kept pool small (smaller pool small large within (keeps pool large valid)
    (λ wanted there. find_none (is_unmet (parties pool small)) (requirements pool small) wanted (map_none (λ it. rules.Unmet it.0 it.1.name) (find (is_unmet (parties pool small)) (requirements pool small)) none) there))
