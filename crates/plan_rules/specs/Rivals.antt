-- What is looked at to tell which candidates can't be installed beside others: for the names that one takes and those of
-- its conflicts the packages that stand for them, and for the names that it takes the conflicts that others have there.
use Rattle.std.specs.Prelude.{◌≡◌, ℕ, suc, List, [], ◌∷◌, ◌++◌, map, filter, Bool, true, false, not, ◌&&◌, ◌||◌}
use Rattle.std.specs.List.{list_any, slice_get}
use Rattle.std.specs.Option.{unwrap_or}
use Rattle.path_name.specs.Orders.{bytes_are_equal}
use Rattle.constraint_set.specs.Satisfaction.{satisfies}
use Rattle.constraint_set.specs.Overlap.{overlaps}
use Rattle.manifest_read.specs.declared.types.Link.{Link}
use Rattle.manifest_read.specs.declared.types.Manifest.{Manifest}
use Rattle.manifest_read.specs.declared.types.Package.{Package}
use Rattle.pkg_pool.specs.Stability.{is_allowed}
use Rattle.pkg_pool.specs.declared.pool.Pool.{Pool}
use Rattle.pkg_pool.specs.declared.pool.Candidate.{Candidate}
use Rattle.plan_rules.specs.declared.rivals.Opponent.{Opponent}
use Rattle.plan_rules.specs.declared.rivals.Side.{Side}
use Rattle.plan_rules.specs.declared.rivals.Rivals.{Rivals}
use Rattle.plan_rules.specs.Fitting.{suits_platform, root_suits}
use Rattle.plan_rules.specs.Sets.{Chosen}
use Rattle.plan_rules.specs.Requirements.{names}
use Rattle.plan_rules.specs.Offers.{Offered, rows_at, shown, is_taking, is_other_taker, IsIndexOf}

-- whether a number is marked
abbrev pub is_marked : Chosen → ℕ → Bool
is_marked marks number = unwrap_or (slice_get marks number) false

-- one of the packages that are marked passes, of those that are numbered from a number on
abbrev pub any_marked : (Package → Bool) → Chosen → ℕ → List Package → Bool
any_marked passes marks number [] = false
any_marked passes marks number (party ∷ parties) = (is_marked marks number && passes party) || any_marked passes marks (suc number) parties

-- ---- conflicts by name

-- a conflict of a package of a number
pub record Opposed : Type 0 where
  pub number : ℕ
  pub party : Package
  pub link : Link

abbrev pub opposed : Opponent → Opposed
opposed opponent = record { number = opponent.number; party = opponent.party.now; link = opponent.link.now }

abbrev pub conflicts_along : List ℕ → ℕ → Package → List Link → List Opposed
conflicts_along name number party links = map (λ link. record { number = number; party = party; link = link }) (filter (names name) links)

abbrev pub conflicts_by : List ℕ → ℕ → Package → List Opposed
conflicts_by name number party = conflicts_along name number party party.conflict

-- those of the packages of a list, which are numbered from a number on
abbrev pub conflicts_from : List ℕ → ℕ → List Package → List Opposed
conflicts_from name number [] = []
conflicts_from name number (party ∷ parties) = conflicts_by name number party ++ conflicts_from name (suc number) parties

-- at each name what stands for it and the conflicts of that name
pub record IsSideOf (side : Side) (list : List Package) : Type 0 where
  pub index : IsIndexOf side.index list
  pub opponents : (name : List ℕ) → map opposed (rows_at side.opponents name) ≡ conflicts_from name 0 list

-- ---- of the marked ones

abbrev pub is_taking_among : Chosen → Offered → Bool
is_taking_among marks offer = is_marked marks offer.number && is_taking offer

abbrev pub is_hit_among : Chosen → List ℕ → Link → Offered → Bool
is_hit_among marks from link offer = is_marked marks offer.number && is_other_taker from link offer

abbrev pub opposes_owner : Chosen → Package → Opposed → Bool
opposes_owner marks one opponent = is_marked marks opponent.number && (not (bytes_are_equal one.name opponent.party.name) && satisfies opponent.link.wants one.version)

abbrev pub opposes_replacer : Chosen → Package → Link → Opposed → Bool
opposes_replacer marks one link opponent = is_marked marks opponent.number && (not (bytes_are_equal one.name opponent.party.name) && overlaps opponent.link.wants link.wants)

abbrev pub taking_at : Side → Chosen → List ℕ → Bool
taking_at side marks name = list_any (λ offer. is_taking_among marks (shown offer)) (rows_at side.index.offers name)

abbrev pub hit_at : Side → Chosen → List ℕ → Link → Bool
hit_at side marks from link = list_any (λ offer. is_hit_among marks from link (shown offer)) (rows_at side.index.offers link.name)

abbrev pub owner_opposed : Side → Chosen → Package → Bool
owner_opposed side marks one = list_any (λ opponent. opposes_owner marks one (opposed opponent)) (rows_at side.opponents one.name)

abbrev pub replacer_opposed : Side → Chosen → Package → Link → Bool
replacer_opposed side marks one link = list_any (λ opponent. opposes_replacer marks one link (opposed opponent)) (rows_at side.opponents link.name)

abbrev pub shares_in : Side → Chosen → Package → Bool
shares_in side marks one = taking_at side marks one.name || list_any (λ link. taking_at side marks link.name) one.replace

abbrev pub conflicts_in : Side → Chosen → Package → Bool
conflicts_in side marks one = list_any (hit_at side marks one.name) one.conflict

abbrev pub opposed_in : Side → Chosen → Package → Bool
opposed_in side marks one = owner_opposed side marks one || list_any (replacer_opposed side marks one) one.replace

abbrev pub rivals_in : Side → Chosen → Package → Bool
rivals_in side marks one = shares_in side marks one || (conflicts_in side marks one || opposed_in side marks one)

-- ---- beside the root and candidates

-- it is allowed, and suits the platform
abbrev pub fits_alone : Manifest → Candidate → Bool
fits_alone root one = is_allowed root one && suits_platform root.platform one.«package»

-- what tells it of a pool
pub record AreRivalsOf (rivals : Rivals) (pool : Pool) : Type 0 where
  pub candidates : rivals.candidates.now ≡ pool.candidates
  pub alone : rivals.alone.items ≡ map (fits_alone pool.root) pool.candidates
  pub root_alone : rivals.root_alone ≡ root_suits pool.root
  pub root : IsSideOf rivals.root (pool.root.«package» ∷ [])
  pub side : IsSideOf rivals.side (map (λ candidate. candidate.«package») pool.candidates)

abbrev pub has_rival : Rivals → Chosen → Package → Bool
has_rival rivals marks one = rivals_in rivals.root (true ∷ []) one || rivals_in rivals.side marks one

abbrev pub fits_in : Rivals → Chosen → ℕ → Candidate → Bool
fits_in rivals marks number one = is_marked rivals.alone.items number && not (has_rival rivals marks one.«package»)
