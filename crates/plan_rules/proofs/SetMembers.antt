-- The members of a set, in byte order of name.
use Rattle.std.proofs.Common.{◌≡◌, ℕ, zero, suc, ◌+◌, ◌≤◌, Bool, true, false, cond, List, [], ◌∷◌, map, Option, Some, None, refl, ap, subst, ◌∙◌, arith, inl, inr}
use Rattle.std.specs.Prelude.{◌⊎◌, option_map}
use Rattle.std.specs.List.{slice_get}
use Rattle.std.specs.Ordering.{is_lt}
use Rattle.std.proofs.lemmas.Bool.{false≢true}
use Rattle.path_name.specs.Orders.{byte_cmp}
use Rattle.manifest_read.specs.declared.types.Package.{Package}
use Rattle.pkg_pool.specs.declared.pool.Pool.{Pool}
use Rattle.pkg_pool.specs.declared.pool.Candidate.{Candidate}
use Rattle.plan_rules.specs.Sets.{Chosen, has, IsWithin}
use Rattle.plan_rules.specs.Validity.{chosen, put, by_name, members, parties}
use Rattle.plan_rules.specs.Preference.{package_at}
use Rattle.plan_rules.proofs.Lists.{Among, map_among, among_map, count, count_map}

-- ---- the candidates of a set

abbrev pub IsAt : Candidate → Chosen → List Candidate → Type 0
IsAt one set candidates = (number : ℕ) × (slice_get candidates number ≡ Some one) × (has set number ≡ true)

chosen_step : (t : Bool) (one first : Candidate) (set : Chosen) (rest candidates : List Candidate) → Among one (cond t (first ∷ rest) rest) → (Among one rest → IsAt one set candidates) → IsAt one (t ∷ set) (first ∷ candidates)
chosen_step true one first set rest candidates (inl e) later = (0, ap Some e, refl)
chosen_step true one first set rest candidates (inr there) later = let at = later there in (suc at.0, at.1, at.2)
chosen_step false one first set rest candidates there later = let at = later there in (suc at.0, at.1, at.2)

pub among_chosen : (one : Candidate) (set : Chosen) (candidates : List Candidate) → Among one (chosen set candidates) → IsAt one set candidates
among_chosen one set [] found = absurd found
among_chosen one [] (first ∷ candidates) found = absurd found
among_chosen one (t ∷ set) (first ∷ candidates) found = chosen_step t one first set (chosen set candidates) candidates found (λ there. among_chosen one set candidates there)

same_one : (first one : Candidate) → Some first ≡ Some one → first ≡ one
same_one first one e = cc

kept_step : (t : Bool) (one first : Candidate) (rest : List Candidate) → Among one rest → Among one (cond t (first ∷ rest) rest)
kept_step true one first rest there = inr there
kept_step false one first rest there = there

pub chosen_among : (one : Candidate) (set : Chosen) (candidates : List Candidate) (number : ℕ) → slice_get candidates number ≡ Some one → has set number ≡ true → Among one (chosen set candidates)
chosen_among one set [] number e f = absurd cc
chosen_among one [] (first ∷ candidates) number e f = absurd (false≢true f)
chosen_among one (t ∷ set) (first ∷ candidates) zero e f = rw f (inl (same_one first one e))
chosen_among one (t ∷ set) (first ∷ candidates) (suc number) e f = kept_step t one first (chosen set candidates) (chosen_among one set candidates number e f)

chosen_count_step : (p : Candidate → Bool) (s t : Bool) (first : Candidate) (small large : List Candidate) → (s ≡ true → t ≡ true) → count p small ≤ count p large → count p (cond s (first ∷ small) small) ≤ count p (cond t (first ∷ large) large)
chosen_count_step p true t first small large within le = rw (within refl) (omega (arith, le))
chosen_count_step p false true first small large within le = omega (arith, le)
chosen_count_step p false false first small large within le = le

none_counted : (p : Candidate → Bool) (set : Chosen) (candidates : List Candidate) → ((number : ℕ) → has set number ≡ true → ⊥) → count p (chosen set candidates) ≡ 0
none_counted p set [] none = refl
none_counted p [] (first ∷ candidates) none = refl
none_counted p (true ∷ set) (first ∷ candidates) none = absurd (none 0 refl)
none_counted p (false ∷ set) (first ∷ candidates) none = none_counted p set candidates (λ number e. none (suc number) e)

pub chosen_count : (p : Candidate → Bool) (small large : Chosen) (candidates : List Candidate) → IsWithin small large → count p (chosen small candidates) ≤ count p (chosen large candidates)
chosen_count p small large [] within = omega arith
chosen_count p [] large (first ∷ candidates) within = omega arith
chosen_count p (s ∷ small) [] (first ∷ candidates) within = omega (arith, none_counted p (s ∷ small) (first ∷ candidates) (λ number e. false≢true (within number e)))
chosen_count p (s ∷ small) (t ∷ large) (first ∷ candidates) within = chosen_count_step p s t first (chosen small candidates) (chosen large candidates) (λ e. within 0 e) (chosen_count p small large candidates (λ number e. within (suc number) e))

-- ---- in byte order

put_step : (t : Bool) (x first : Candidate) (others rest : List Candidate) (one : Candidate) → (Among one rest → (x ≡ one) ⊎ Among one others) → Among one (cond t (x ∷ first ∷ others) (first ∷ rest)) → (x ≡ one) ⊎ Among one (first ∷ others)
put_step true x first others rest one later found = found
put_step false x first others rest one later (inl e) = inr (inl e)
put_step false x first others rest one later (inr there) = swap (later there)
  where
    swap : (x ≡ one) ⊎ Among one others → (x ≡ one) ⊎ Among one (first ∷ others)
    swap (inl e) = inl e
    swap (inr other) = inr (inr other)

pub among_put : (x : Candidate) (others : List Candidate) (one : Candidate) → Among one (put x others) → (x ≡ one) ⊎ Among one others
among_put x [] one found = found
among_put x (first ∷ others) one found = put_step (is_lt (byte_cmp x.«package».name first.«package».name)) x first others (put x others) one (λ there. among_put x others one there) found

put_back : (t : Bool) (x first : Candidate) (others rest : List Candidate) (one : Candidate) → ((x ≡ one) ⊎ Among one others → Among one rest) → (x ≡ one) ⊎ Among one (first ∷ others) → Among one (cond t (x ∷ first ∷ others) (first ∷ rest))
put_back true x first others rest one later found = found
put_back false x first others rest one later (inl e) = inr (later (inl e))
put_back false x first others rest one later (inr (inl e)) = inl e
put_back false x first others rest one later (inr (inr there)) = inr (later (inr there))

pub put_among : (x : Candidate) (others : List Candidate) (one : Candidate) → (x ≡ one) ⊎ Among one others → Among one (put x others)
put_among x [] one found = found
put_among x (first ∷ others) one found = put_back (is_lt (byte_cmp x.«package».name first.«package».name)) x first others (put x others) one (λ there. put_among x others one there) found

put_count_step : (p : Candidate → Bool) (t : Bool) (x first : Candidate) (others rest : List Candidate) → count p rest ≡ cond (p x) 1 0 + count p others → count p (cond t (x ∷ first ∷ others) (first ∷ rest)) ≡ cond (p x) 1 0 + count p (first ∷ others)
put_count_step p true x first others rest e = refl
put_count_step p false x first others rest e = omega (arith, e)

pub put_count : (p : Candidate → Bool) (x : Candidate) (others : List Candidate) → count p (put x others) ≡ cond (p x) 1 0 + count p others
put_count p x [] = refl
put_count p x (first ∷ others) = put_count_step p (is_lt (byte_cmp x.«package».name first.«package».name)) x first others (put x others) (put_count p x others)

pub among_by_name : (sorted others : List Candidate) (one : Candidate) → Among one (by_name sorted others) → Among one sorted ⊎ Among one others
among_by_name sorted [] one found = inl found
among_by_name sorted (first ∷ others) one found = step (among_by_name (put first sorted) others one found)
  where
    deeper : (first ≡ one) ⊎ Among one sorted → Among one sorted ⊎ Among one (first ∷ others)
    deeper (inl e) = inr (inl e)
    deeper (inr there) = inl there

    step : Among one (put first sorted) ⊎ Among one others → Among one sorted ⊎ Among one (first ∷ others)
    step (inl there) = deeper (among_put first sorted one there)
    step (inr there) = inr (inr there)

pub by_name_among : (sorted others : List Candidate) (one : Candidate) → Among one sorted ⊎ Among one others → Among one (by_name sorted others)
by_name_among sorted [] one (inl found) = found
by_name_among sorted [] one (inr found) = absurd found
by_name_among sorted (first ∷ others) one (inl found) = by_name_among (put first sorted) others one (inl (put_among first sorted one (inr found)))
by_name_among sorted (first ∷ others) one (inr (inl e)) = by_name_among (put first sorted) others one (inl (put_among first sorted one (inl e)))
by_name_among sorted (first ∷ others) one (inr (inr found)) = by_name_among (put first sorted) others one (inr found)

pub by_name_count : (p : Candidate → Bool) (sorted others : List Candidate) → count p (by_name sorted others) ≡ count p sorted + count p others
by_name_count p sorted [] = omega arith
by_name_count p sorted (first ∷ others) = omega (arith, by_name_count p (put first sorted) others, put_count p first sorted)

-- ---- members and parties

-- a package of the pool that belongs to the set
abbrev pub IsMember : Pool → Chosen → Package → Type 0
IsMember pool set party = (number : ℕ) × (package_at pool number ≡ Some party) × (has set number ≡ true)

pub among_members : (pool : Pool) (set : Chosen) (one : Candidate) → Among one (members pool set) → IsAt one set pool.candidates
unfolding members
among_members pool set one found = step (among_by_name [] (chosen set pool.candidates) one found)
  where
    step : Among one [] ⊎ Among one (chosen set pool.candidates) → IsAt one set pool.candidates
    step (inl none) = absurd none
    step (inr there) = among_chosen one set pool.candidates there

pub members_among : (pool : Pool) (set : Chosen) (one : Candidate) → IsAt one set pool.candidates → Among one (members pool set)
unfolding members
members_among pool set one at = by_name_among [] (chosen set pool.candidates) one (inr (chosen_among one set pool.candidates at.0 at.1 at.2))

pub members_count : (p : Candidate → Bool) (pool : Pool) (small large : Chosen) → IsWithin small large → count p (members pool small) ≤ count p (members pool large)
unfolding members
members_count p pool small large within = omega (arith, by_name_count p [] (chosen small pool.candidates), by_name_count p [] (chosen large pool.candidates), chosen_count p small large pool.candidates within)

pub member_of : (pool : Pool) (set : Chosen) (party : Package) → Among party (map (λ member. member.«package») (members pool set)) → IsMember pool set party
member_of pool set party there =
    let one = among_map (λ member. member.«package») (members pool set) party there in
    let at = among_members pool set one.0 one.1 in
    (at.0, ap (option_map (λ member. member.«package»)) at.1 ∙ ap Some one.2, at.2)

named : (party : Package) (found : Option Candidate) → option_map (λ member. member.«package») found ≡ Some party → (one : Candidate) × (found ≡ Some one) × (one.«package» ≡ party)
named party None e = absurd cc
named party (Some one) e = (one, refl, cc)

pub member_package : (pool : Pool) (set : Chosen) (party : Package) → IsMember pool set party → Among party (map (λ member. member.«package») (members pool set))
member_package pool set party member =
    let one = named party (slice_get pool.candidates member.0) member.1 in
    subst (λ other. Among other (map (λ it. it.«package») (members pool set))) one.2 (map_among (λ it. it.«package») (members pool set) one.0 (members_among pool set one.0 (member.0, one.1, member.2)))

pub among_parties : (pool : Pool) (set : Chosen) (party : Package) → Among party (parties pool set) → (pool.root.«package» ≡ party) ⊎ IsMember pool set party
among_parties pool set party (inl e) = inl e
among_parties pool set party (inr there) = inr (member_of pool set party there)

pub parties_among : (pool : Pool) (set : Chosen) (party : Package) → (pool.root.«package» ≡ party) ⊎ IsMember pool set party → Among party (parties pool set)
parties_among pool set party (inl e) = inl e
parties_among pool set party (inr member) = inr (member_package pool set party member)

pub parties_within : (pool : Pool) (small large : Chosen) (party : Package) → IsWithin small large → Among party (parties pool small) → Among party (parties pool large)
parties_within pool small large party within found = parties_among pool large party (step (among_parties pool small party found))
  where
    step : (pool.root.«package» ≡ party) ⊎ IsMember pool small party → (pool.root.«package» ≡ party) ⊎ IsMember pool large party
    step (inl e) = inl e
    step (inr member) = inr (member.0, member.1, within member.0 member.2)

pub parties_count : (p : Package → Bool) (pool : Pool) (small large : Chosen) → IsWithin small large → count p (parties pool small) ≤ count p (parties pool large)
parties_count p pool small large within =
    omega (arith, count_map p (λ it. it.«package») (members pool small), count_map p (λ it. it.«package») (members pool large), members_count (λ it. p it.«package») pool small large within)
