-- What is left out among the candidates that are kept is so among all that came.
use Rattle.std.proofs.Common.{◌≡◌, ℕ, ◌≤◌, Bool, true, false, cond, ◌||◌, List, [], ◌∷◌, ◌++◌, map, length, Result, Ok, Err, inl, inr, refl, sym, ap, ◌∙◌, append_assoc, append-nil, arith}
use Rattle.std.specs.Prelude.{not, ◌&&◌, ◌==◌, nat_le}
use Rattle.std.specs.List.{filter, list_any, AllByRecursion}
use Rattle.std.proofs.lemmas.List.Folds.{list_any-append}
use Rattle.std.proofs.lemmas.Bool.{eqb-true, eq-eqb}
use Rattle.path_name.specs.Orders.{bytes_are_equal}
use Rattle.tree_dev.specs.Told.{both, one_of, equal_of}
use Rattle.tree_dev.proofs.Behind.{same_bytes}
use Rattle.version_norm.specs.declared.version.Version.{Version}
use Rattle.version_norm.specs.declared.version.Version.TheVariants as versions
use Rattle.version_norm.specs.VersionOrder.{numbered_cmp}
use Rattle.version_norm.proofs.OrderLaws.{numbered_cmp_exact}
use Rattle.pkg_pool.specs.declared.fault.PoolFault.{PoolFault}
use Rattle.pkg_pool.specs.declared.pool.Candidate.{Candidate}
use Rattle.pkg_pool.specs.Outcomes.{each_in_turn}
use Rattle.pkg_pool.specs.Gathering.{row_of, rows_of, is_in_way, is_same_version, is_left_out, with_candidate}
use Rattle.pkg_pool.specs.Offered.{leaves_out, counted_behind}
use Rattle.pkg_pool.proofs.Levels.{or_true, all_joined, all_mapped}
use Rattle.pkg_pool.proofs.Reached.{all_went_on, none_went_on}

-- ---- by name, or one by one

left_out_is : (c : Candidate) (candidates : List Candidate) → is_left_out candidates c ≡ list_any (leaves_out c) candidates
left_out_is c [] = refl
left_out_is c (k ∷ candidates) = by_case (bytes_are_equal k.«package».name c.«package».name) (left_out_is c candidates)
  where
    way : Bool
    way = is_in_way c.repository c.«package».version (row_of k)

    rest : List Candidate
    rest = filter (λ x. bytes_are_equal x.«package».name c.«package».name) candidates

    by_case : (b : Bool) → is_left_out candidates c ≡ list_any (leaves_out c) candidates
        → list_any (is_in_way c.repository c.«package».version) (map row_of (cond b (k ∷ rest) rest)) ≡ ((b && way) || list_any (leaves_out c) candidates)
    by_case true more = ap (λ b. way || b) more
    by_case false more = more

-- ---- one that is left out leaves out no more than what leaves it out

same_version : (v w : Version) → is_same_version v w ≡ true → v ≡ w
same_version (versions.Numbered v) (versions.Numbered w) e = ap versions.Numbered (numbered_cmp_exact v w (equal_of (numbered_cmp v w) e))
same_version (versions.Numbered v) (versions.Branch name) e = absurd cc
same_version (versions.Branch name) (versions.Numbered w) e = absurd cc
same_version (versions.Branch name) (versions.Branch other) e = ap versions.Branch (same_bytes name other e)

-- numbers of repositories: k is no later than d, and d than c
other_number : (k d c : ℕ) → k ≤ d → d ≤ c → (d == c) ≡ false → (k == c) ≡ false
other_number k d c first second apart = by_case (k == c) refl
  where
    by_case : (b : Bool) → (k == c) ≡ b → b ≡ false
    by_case true e = let same : k ≡ c = eqb-true k c e in let h : d ≡ c = omega arith in absurd (let g = eq-eqb d c h in cc)
    by_case false e = refl

pass_on : (k d c : Candidate) → k.repository ≤ d.repository → d.repository ≤ c.repository → leaves_out d k ≡ true → leaves_out c d ≡ true → leaves_out c k ≡ true
pass_on k d c early late first second =
    let one = both (bytes_are_equal k.«package».name d.«package».name) (is_in_way d.repository d.«package».version (row_of k)) first in
    let two = both (bytes_are_equal d.«package».name c.«package».name) (is_in_way c.repository c.«package».version (row_of d)) second in
    let name : bytes_are_equal k.«package».name c.«package».name ≡ true = rw (same_bytes k.«package».name d.«package».name one.0) two.0 in
    rw name (by_case (k.repository == d.repository) (d.repository == c.repository) refl refl one.1 two.1)
  where
    by_case : (b s : Bool) → (k.repository == d.repository) ≡ b → (d.repository == c.repository) ≡ s → (not b || is_same_version k.«package».version d.«package».version) ≡ true
        → (not s || is_same_version d.«package».version c.«package».version) ≡ true → (not (k.repository == c.repository) || is_same_version k.«package».version c.«package».version) ≡ true
    by_case b false e h first second = let apart = other_number k.repository d.repository c.repository early late h in rw apart refl
    by_case false true e h first second =
        let same : d.repository ≡ c.repository = eqb-true d.repository c.repository h in
        let apart : (k.repository == c.repository) ≡ false = rw (← same) e in
        rw apart refl
    by_case true true e h first second =
        let same : is_same_version k.«package».version c.«package».version ≡ true = rw (same_version k.«package».version d.«package».version first) second in
        rw same (or_true (not (k.repository == c.repository)))

-- What leaves out a later candidate among those that are kept does so among all that came before.
pub record Covers (last : ℕ) (kept before : List Candidate) : Type 0 where
  pub way : (c : Candidate) → last ≤ c.repository → list_any (leaves_out c) kept ≡ list_any (leaves_out c) before
  pub early : AllByRecursion (λ k. k.repository ≤ last) kept

passed_on : (d c : Candidate) (kept : List Candidate) → AllByRecursion (λ k. k.repository ≤ d.repository) kept → d.repository ≤ c.repository → leaves_out c d ≡ true → list_any (leaves_out d) kept ≡ true
    → list_any (leaves_out c) kept ≡ true
passed_on d c [] early late way among = absurd cc
passed_on d c (k ∷ kept) early late way among =
    elim (one_of (leaves_out d k) (list_any (leaves_out d) kept) among) [
      | inl here ↦ let h = pass_on k d c early.0 late here way in rw h refl
      | inr rest ↦ let h = passed_on d c kept early.1 late way rest in rw h (or_true (leaves_out c k))
    ]

-- one that is kept, and one that is left out
covers_kept : (last : ℕ) (kept before : List Candidate) (d : Candidate) → d.repository ≡ last → Covers last kept before → Covers last (kept ++ d ∷ []) (before ++ d ∷ [])
covers_kept last kept before d number covers = record {
  way = λ c late. list_any-append (leaves_out c) kept (d ∷ []) ∙ ap (λ b. b || list_any (leaves_out c) (d ∷ [])) (covers.way c late) ∙ sym (list_any-append (leaves_out c) before (d ∷ []));
  early = all_joined (λ k. k.repository ≤ last) kept (d ∷ []) covers.early (omega arith, tt);
}

covers_left_out : (last : ℕ) (kept before : List Candidate) (d : Candidate) → d.repository ≡ last → Covers last kept before → list_any (leaves_out d) kept ≡ true → Covers last kept (before ++ d ∷ [])
covers_left_out last kept before d number covers out = record {
  way = λ c late. by_case c late (leaves_out c d) refl ∙ sym (list_any-append (leaves_out c) before (d ∷ []));
  early = covers.early;
}
  where
    or_false : (b : Bool) → (b || false) ≡ b
    or_false true = refl
    or_false false = refl

    by_case : (c : Candidate) → last ≤ c.repository → (b : Bool) → leaves_out c d ≡ b → list_any (leaves_out c) kept ≡ (list_any (leaves_out c) before || (leaves_out c d || false))
    by_case c late true e =
        let h = passed_on d c kept (all_mapped (λ (k : Candidate). k.repository ≤ last) (λ k. k.repository ≤ d.repository) kept (λ k le. omega arith) covers.early) (omega arith) e out in
        rw e (h ∙ sym (or_true (list_any (leaves_out c) before)))
    by_case c late false e = rw e (covers.way c late ∙ sym (or_false (list_any (leaves_out c) before)))

-- ---- all of a repository

abbrev pub add : Candidate → List Candidate → Result (List Candidate) PoolFault
add c candidates = with_candidate candidates c

-- what an addition does that went well
added : (c : Candidate) (kept next : List Candidate) → add c kept ≡ Ok next → next ≡ cond (list_any (leaves_out c) kept) kept (kept ++ c ∷ [])
unfolding with_candidate
added c kept next e = rw (← left_out_is c kept) (by_case (is_left_out kept c) (nat_le 4096 (length kept)) (nat_le 512 (length (rows_of kept c.«package».name))) _ _ e)
  where
    by_case : (out many named : Bool) (first second : PoolFault) → cond out (Ok kept) (cond many (Err first) (cond named (Err second) (Ok (kept ++ c ∷ [])))) ≡ Ok next → next ≡ cond out kept (kept ++ c ∷ [])
    by_case true many named first second e = cc
    by_case false true named first second e = absurd cc
    by_case false false true first second e = absurd cc
    by_case false false false first second e = cc

-- what was kept, and what counts of what was added
pub record Counts (last : ℕ) (kept before cs end : List Candidate) : Type 0 where
  pub is : end ≡ kept ++ counted_behind before cs
  pub covers : Covers last end (before ++ cs)

module _ (last : ℕ) (c : Candidate) (cs kept before end : List Candidate) (number : c.repository ≡ last) (covers : Covers last kept before)
    (more : (others all : List Candidate) → Covers last others all → each_in_turn add cs others ≡ Ok end → Counts last others all cs end) where
  one_more : (b : Bool) → list_any (leaves_out c) before ≡ b → (next : List Candidate) → next ≡ cond b kept (kept ++ c ∷ []) → each_in_turn add cs next ≡ Ok end → Counts last kept before (c ∷ cs) end
  one_more true out next is e =
      let late : last ≤ c.repository = omega (arith, number) in
      let rest = more kept (before ++ c ∷ []) (covers_left_out last kept before c number covers (covers.way c late ∙ out)) (rw is at e) in
      record { is = rw out rest.is; covers = rw (append_assoc before (c ∷ []) cs) at rest.covers }
  one_more false out next is e =
      let rest = more (kept ++ c ∷ []) (before ++ c ∷ []) (covers_kept last kept before c number covers) (rw is at e) in
      record { is = rw out (rest.is ∙ append_assoc kept (c ∷ []) (counted_behind (before ++ c ∷ []) cs)); covers = rw (append_assoc before (c ∷ []) cs) at rest.covers }

pub counts : (last : ℕ) (cs kept before end : List Candidate) → AllByRecursion (λ c. c.repository ≡ last) cs → Covers last kept before → each_in_turn add cs kept ≡ Ok end → Counts last kept before cs end
counts last [] kept before end numbers covers e =
    let same : end ≡ kept = none_went_on add kept end e in
    rw same (record { is = sym (append-nil kept); covers = rw (append-nil before) covers })
counts last (c ∷ cs) kept before end numbers covers e =
    let w = all_went_on add c cs kept end e in
    let late : last ≤ c.repository = omega (arith, numbers.0) in
    one_more last c cs kept before end numbers.0 covers (λ others all covers' e'. counts last cs others all end numbers.1 covers' e') (list_any (leaves_out c) before) refl w.0
    (added c kept w.0 w.1 ∙ ap (λ b. cond b kept (kept ++ c ∷ [])) (covers.way c late)) w.2

pub counted-append : (before xs ys : List Candidate) → counted_behind before (xs ++ ys) ≡ counted_behind before xs ++ counted_behind (before ++ xs) ys
counted-append before [] ys = rw (append-nil before) refl
counted-append before (c ∷ xs) ys = by_case (list_any (leaves_out c) before) (counted-append (before ++ c ∷ []) xs ys ∙ ap (λ b. counted_behind (before ++ c ∷ []) xs ++ counted_behind b ys) (append_assoc before (c ∷ []) xs))
  where
    by_case : (b : Bool) → counted_behind (before ++ c ∷ []) (xs ++ ys) ≡ counted_behind (before ++ c ∷ []) xs ++ counted_behind (before ++ c ∷ xs) ys
        → cond b (counted_behind (before ++ c ∷ []) (xs ++ ys)) (c ∷ counted_behind (before ++ c ∷ []) (xs ++ ys))
        ≡ cond b (counted_behind (before ++ c ∷ []) xs) (c ∷ counted_behind (before ++ c ∷ []) xs) ++ counted_behind (before ++ c ∷ xs) ys
    by_case true more = more
    by_case false more = ap (λ r. c ∷ r) more
