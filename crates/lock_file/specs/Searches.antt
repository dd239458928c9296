-- A search for what is required at run time: the members that were found so far, in the order in which they were.
use Rattle.std.specs.Prelude.{◌≡◌, ◌+◌, ℕ, suc, Bool, true, false, not, ◌&&◌, List, [], ◌∷◌, ◌++◌, length, map, take, if◌then◌else◌}
use Rattle.std.specs.List.{AllByRecursion}
use Rattle.manifest_read.specs.declared.types.Link.{Link}
use Rattle.manifest_read.specs.declared.types.Package.{Package}
use Rattle.pkg_pool.specs.declared.pool.Pool.{Pool}
use Rattle.plan_rules.specs.Sets.{Chosen, has, set_of}
use Rattle.plan_rules.specs.Offers.{Offered, offers_from, is_met, IsIndexOf}
use Rattle.lock_file.specs.declared.runtime.Plan.{Plan}
use Rattle.lock_file.specs.PlanLocks.{HasMet, IsClosed, requirements_at}

-- ---- one step after another, over the set of the plan's members and the packages of the pool

-- an offer of a member that wasn't found yet meets the requirement
abbrev pub is_new : Chosen → Chosen → Link → Offered → Bool
is_new planned marks need offer = has planned offer.number && (not (has marks offer.number) && is_met need offer)

abbrev pub with_offer : Chosen → Link → List ℕ → Offered → List ℕ
with_offer planned need found offer = if is_new planned (set_of (length planned) found) need offer then found ++ offer.number ∷ [] else found

abbrev pub with_offers : Chosen → Link → List ℕ → List Offered → List ℕ
with_offers planned need found [] = found
with_offers planned need found (offer ∷ offers) = with_offers planned need (with_offer planned need found offer) offers

abbrev pub with_link : Chosen → List Package → List ℕ → Link → List ℕ
with_link planned list found need = with_offers planned need found (offers_from need.name 0 list)

abbrev pub with_links : Chosen → List Package → List ℕ → List Link → List ℕ
with_links planned list found [] = found
with_links planned list found (need ∷ needs) = with_links planned list (with_link planned list found need) needs

-- ---- what holds meanwhile

-- how many numbers don't belong to the set
abbrev pub unmarked : Chosen → ℕ
unmarked [] = 0
unmarked (true ∷ marks) = unmarked marks
unmarked (false ∷ marks) = suc (unmarked marks)

-- it belongs to each closed set
abbrev pub IsDue : Pool → List ℕ → ℕ → Type 0
IsDue pool plan number = (set : Chosen) → IsClosed pool plan set → has set number ≡ true

-- What was found is required at run time, and so are the members that meet what the root requires, or one of the first so
-- many of what was found: these were found too.
pub record IsSearch (pool : Pool) (plan : List ℕ) (looked : ℕ) (found : List ℕ) : Type 0 where
  pub room : unmarked (set_of (length pool.candidates) found) + length found ≡ length pool.candidates
  pub due : AllByRecursion (IsDue pool plan) found
  pub root : AllByRecursion (HasMet pool plan (set_of (length pool.candidates) found)) pool.root.«package».require
  pub members : AllByRecursion (λ number. AllByRecursion (HasMet pool plan (set_of (length pool.candidates) found)) (requirements_at pool number)) (take looked found)

-- what is looked up is that of the plan and its pool
pub record IsRight (plan : Plan) : Type 0 where
  pub marks : plan.marks.items ≡ set_of (length plan.pool.now.candidates) plan.members.now
  pub index : IsIndexOf plan.index (map (λ candidate. candidate.«package») plan.pool.now.candidates)
