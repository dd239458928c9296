-- What a search for the plan has found out on its way: the choices that it made, one requirement after the other, and the
-- alternatives that no valid set has beside the choices before them.
use Rattle.std.specs.Prelude.{◌≡◌, ℕ, zero, suc, ◌+◌, ◌-◌, ◌*◌, ◌<◌, List, [], ◌∷◌, ◌++◌, length, map, All, IfSome, Bool, false, not, ◌&&◌, ◌||◌, Option, Some, None, ⊤, if◌then◌else◌}
use Rattle.std.specs.Global.{Vec}
use Rattle.std.specs.BTreeMap.{BTreeMap, get}
use Rattle.std.specs.Ordering.{nat_cmp}
use Rattle.std.specs.List.{slice_get}
use Rattle.std.specs.Option.{option_map_or}
use Rattle.manifest_read.specs.declared.types.Link.{Link}
use Rattle.pkg_pool.specs.declared.pool.Pool.{Pool}
use Rattle.plan_rules.specs.Sets.{Chosen, is_in, set_of}
use Rattle.plan_rules.specs.Requirements.{meets, is_on_package}
use Rattle.plan_rules.specs.Preference.{AreAlternatives, package_at}
use Rattle.plan_rules.specs.FirstChoice.{Extends, first_unmet, packages_of, queue, waits}
use Rattle.plan_rules.specs.Fitting.{BreaksNone}
use Rattle.plan_rules.specs.Offers.{Offered, is_met, IsIndexOf}
use Rattle.plan_rules.specs.Rivals.{is_marked, any_marked, AreRivalsOf}
use Rattle.plan_solve.specs.declared.context.Context.{Context}
use Rattle.plan_solve.specs.declared.members.Members.{Members}
use Rattle.plan_solve.specs.declared.members.Need.{Need}
use Rattle.plan_solve.specs.declared.search.Pending.{Pending}
use Rattle.plan_solve.specs.declared.search.Choice.{Choice}
use Rattle.plan_solve.specs.declared.search.Search.{Search}

-- ---- what is known of a pool

-- at each name what stands for it, and what tells which candidates can stand beside others
pub record IsRight (context : Context) : Type 0 where
  pub root : IsIndexOf context.root (context.pool.now.root.«package» ∷ [])
  pub index : IsIndexOf context.index (map (λ candidate. candidate.«package») context.pool.now.candidates)
  pub rivals : AreRivalsOf context.rivals context.pool.now

-- a candidate of the pool that isn't among some which break no rule
pub record CanJoin (pool : Pool) (before : List ℕ) (number : ℕ) : Type 0 where
  pub within : number < length pool.candidates
  pub new : is_in number before ≡ false
  pub sound : BreaksNone pool before

-- a package that is marked meets a requirement on a name for which it stands
abbrev pub meets_among : Chosen → Link → Offered → Bool
meets_among marks need offer = is_marked marks offer.number && is_met need offer

-- the root or a candidate that is marked meets a requirement
abbrev pub met_by : Pool → Chosen → Link → Bool
met_by pool marks need = meets need pool.root.«package» || any_marked (meets need) marks 0 (map (λ candidate. candidate.«package») pool.candidates)

abbrev pub waits_by : Pool → Chosen → Link → Bool
waits_by pool marks need = is_on_package need && not (met_by pool marks need)

-- ---- the queue

-- what the candidate of a number requires
abbrev pub requires_of : Pool → ℕ → List Link
requires_of pool number = option_map_or (λ party. party.require) (package_at pool number) []

-- what is required
abbrev pub links_of : List Need → List Link
links_of needs = map (λ need. need.link.now) needs

-- what was put in order for a requirement are its alternatives
abbrev pub IsNeed : Pool → Need → Type 0
IsNeed pool need = IfSome need.sorted (λ list. AreAlternatives pool need.link.now list.items)

-- what the candidate of a number requires
abbrev pub AreNeeds : Pool → ℕ → Vec Need → Type 0
AreNeeds pool number needs = (links_of needs.items ≡ requires_of pool number) × All (IsNeed pool) needs.items

-- for each number what its candidate requires, where anything was set aside for it
abbrev pub AreAside : Pool → BTreeMap ℕ (Vec Need) → Type 0
AreAside pool aside = (number : ℕ) → IfSome (get nat_cmp aside number) (AreNeeds pool number)

-- of each candidate whether it is in a list, and what is required with the list
pub record AreMembers (pool : Pool) (before : List ℕ) (members : Members) : Type 0 where
  pub marks : members.marks.items ≡ set_of (length pool.candidates) before
  pub queue : links_of members.queue.items ≡ queue pool before
  pub needs : All (IsNeed pool) members.queue.items
  pub aside : AreAside pool members.aside

-- the place of the first that passes, of those that are numbered from a number on
abbrev pub first_place : {X : Type 0} → (X → Bool) → ℕ → List X → Option ℕ
first_place passes at [] = None
first_place passes at (x ∷ xs) = if passes x then Some at else first_place passes (suc at) xs

-- none of so many requirements at the head of the queue waits
abbrev pub NoneWaits : Pool → List ℕ → ℕ → Type 0
NoneWaits pool before count = (place : ℕ) (link : Link) → place < count → slice_get (queue pool before) place ≡ Some link → waits (packages_of pool before) link ≡ false

-- ---- choices

-- The first requirement that is unmet behind a list, with its place in the queue and its alternatives in order. Those that
-- were passed extend the list to no valid set.
pub record IsPending (pool : Pool) (before : List ℕ) (pending : Pending) : Type 0 where
  pub need : Link
  pub unmet : first_unmet pool before ≡ Some need
  pub there : slice_get (queue pool before) pending.place ≡ Some need
  pub earlier : NoneWaits pool before pending.place
  pub alternatives : AreAlternatives pool need pending.alternatives.items
  pub passed : (number choice : ℕ) → number < pending.passed → slice_get pending.alternatives.items number ≡ Some choice → Extends pool before choice → ⊥

-- the members that were chosen
abbrev pub chosen : List Choice → List ℕ
chosen choices = map (λ choice. choice.member) choices

-- each choice is the alternative behind those that were passed, of the first requirement that was unmet behind the choices
-- before it
abbrev pub AreChosen : Pool → List ℕ → List Choice → Type 0
AreChosen pool before [] = ⊤
AreChosen pool before (choice ∷ choices) =
    IsPending pool before choice.of × (slice_get choice.of.alternatives.items choice.of.passed ≡ Some choice.member) × AreChosen pool (before ++ choice.member ∷ []) choices

-- Where a search stands: the choices, and what is unmet behind them.
pub record IsSearched (pool : Pool) (choices : List Choice) (pending : Pending) : Type 0 where
  pub made : AreChosen pool [] choices
  pub next : IsPending pool (chosen choices) pending
  pub sound : BreaksNone pool (chosen choices)

pub record IsSearch (pool : Pool) (search : Search) : Type 0 where
  pub searched : IsSearched pool search.choices.items search.pending
  pub members : AreMembers pool (chosen search.choices.items) search.members

-- ---- the work that remains

-- what remains of a requirement's alternatives, and of the requirement itself
abbrev pub rest_of : Pending → ℕ
rest_of pending = suc (2 * (length pending.alternatives.items - pending.passed))

-- the same of one behind whose choice the search goes on
abbrev pub rest_behind : Choice → ℕ
rest_behind choice = suc (2 * (length choice.of.alternatives.items - suc choice.of.passed))

-- no requirement has more
abbrev pub base_of : Pool → ℕ
base_of pool = suc (suc (2 * length pool.candidates))

abbrev pub power : ℕ → ℕ → ℕ
power base zero = 1
power base (suc room) = base * power base room

-- a number whose digits are what remains of each requirement, the first one's first, of so many digits behind the first
abbrev pub work_from : ℕ → ℕ → List Choice → Pending → ℕ
work_from base room [] pending = rest_of pending * power base room
work_from base zero (choice ∷ choices) pending = rest_behind choice + work_from base zero choices pending
work_from base (suc room) (choice ∷ choices) pending = rest_behind choice * power base (suc room) + work_from base room choices pending

abbrev pub work : Pool → List Choice → Pending → ℕ
work pool choices pending = work_from (base_of pool) (length pool.candidates) choices pending
