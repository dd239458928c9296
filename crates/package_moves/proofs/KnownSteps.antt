-- What is known of found entries, name by name.
use Rattle.std.proofs.Common.{◌≡◌, ◌⊎◌, ℕ, ◌+◌, ◌<◌, ◌≤◌, Bool, true, false, ◌||◌, cond, List, [], ◌∷◌, ◌++◌, length, take, get_or, refl, sym, ap, subst, ◌∙◌, inl, inr, append-nil}
use Rattle.std.proofs.lemmas.List.{take_all, take_more}
use Rattle.std.specs.BTreeSet.{contains}
use Rattle.std.specs.List.Sorted.{IsStrictlySortedBy}
use Rattle.std.specs.Ordering.{eq_by_cmp, is_eq}
use Rattle.path_name.specs.Orders.{byte_cmp, path_cmp}
use Rattle.tree_dev.specs.Told.{equal_paths}
use Rattle.tree_dev.specs.Trees.{IsListing}
use Rattle.tree_dev.proofs.ProjectParts.{behind_same_head}
use Rattle.stage_job.specs.Copied.{is_among}
use Rattle.stage_job.specs.Jobs.{AreApart}
use Rattle.stage_job.proofs.Below.{itself_named, same_name}
use Rattle.stage_job.proofs.NameLoop.{fresh}
use Rattle.stage_job.proofs.SortedNames.{not_before}
use Rattle.package_moves.specs.Known.{AddsKnown, AreAllApart, AreKnown, ArePathsApart, IsAlone, IsBesideTargets, IsKnown}
use Rattle.package_moves.specs.Needed.{AreSameNeeds, Needs, if_other, others_in}
use Rattle.package_moves.specs.Wanted.{vendor_name}
use Rattle.package_moves.specs.declared.unneeded.Found.{Found}
use Rattle.package_moves.proofs.UnneededPaths.{all_append, first_differs, in_vendor_apart, turned}

-- ---- names

pub other_name : (n x : List ℕ) (r s : List (List ℕ)) → (n ≡ x → ⊥) → AreApart (vendor_name ++ n ∷ r) (vendor_name ++ x ∷ s)
other_name n x r s never = in_vendor_apart (n ∷ r) (x ∷ s) (first_differs n x r s never) (first_differs x n s r (turned never))

pub not_same_name : (n x : List ℕ) (xs : List (List ℕ)) → is_among n (x ∷ xs) ≡ false → n ≡ x → ⊥
not_same_name n x xs none e = absurd (let first : is_among n (x ∷ xs) ≡ true = ap (λ (y : List ℕ). is_among n (y ∷ xs)) (sym e) ∙ rw (itself_named n) refl in cc)

pub rest_none : (n x : List ℕ) (xs : List (List ℕ)) → is_among n (x ∷ xs) ≡ false → is_among n xs ≡ false
rest_none n x xs none = by (eq_by_cmp byte_cmp n x) none
  where
    by : (b : Bool) → (b || is_among n xs) ≡ false → is_among n xs ≡ false
    by true e = absurd cc
    by false e = e

same_last : (n x : List ℕ) → vendor_name ++ n ∷ [] ≡ vendor_name ++ x ∷ [] → n ≡ x
same_last n x e = cc

among_one : (n x : List ℕ) → is_among n (x ∷ []) ≡ true → n ≡ x
among_one n x e = by (eq_by_cmp byte_cmp n x) refl e
  where
    by : (b : Bool) → eq_by_cmp byte_cmp n x ≡ b → (b || false) ≡ true → n ≡ x
    by true s f = same_name n x s
    by false s f = absurd cc

among_more : (n x : List ℕ) (names : List (List ℕ)) → is_among n names ≡ true → is_among n (names ++ x ∷ []) ≡ true
among_more n x [] e = absurd cc
among_more n x (y ∷ ys) e = by (eq_by_cmp byte_cmp n y) refl e (among_more n x ys)
  where
    by : (b : Bool) → eq_by_cmp byte_cmp n y ≡ b → (b || is_among n ys) ≡ true → (is_among n ys ≡ true → is_among n (ys ++ x ∷ []) ≡ true) → (eq_by_cmp byte_cmp n y || is_among n (ys ++ x ∷ [])) ≡ true
    by true s there more = rw s refl
    by false s there more = rw s (more there)

among_last : (x : List ℕ) (names : List (List ℕ)) → is_among x (names ++ x ∷ []) ≡ true
among_last x [] = rw (itself_named x) refl
among_last x (y ∷ ys) = or_true (eq_by_cmp byte_cmp x y) (among_last x ys)
  where
    or_true : (a : Bool) {b : Bool} → b ≡ true → (a || b) ≡ true
    or_true true e = refl
    or_true false e = e

never_both : (n x : List ℕ) (names : List (List ℕ)) → is_among n names ≡ true → is_among x names ≡ false → n ≡ x → ⊥
never_both n x names there none e = absurd (let here : is_among x names ≡ true = ap (λ (y : List ℕ). is_among y names) (sym e) ∙ there in cc)

-- ---- entries of one name

module _ (needs : Needs) (n : List ℕ) where
  -- the entries of these names in the folder are apart from another's
  others_other : (m : List ℕ) (names : List (List ℕ)) → is_among m names ≡ false → AreAllApart (others_in needs (vendor_name ++ n ∷ []) names) ((vendor_name ++ n ∷ []) ++ m ∷ [])
  others_other m [] none = tt
  others_other m (x ∷ xs) none = by (needs.is_target ((vendor_name ++ n ∷ []) ++ x ∷ [])) (others_other m xs (rest_none m x xs none))
    where
      never : x ≡ m → ⊥
      never = turned (not_same_name m x xs none)

      by : (b : Bool) → AreAllApart (others_in needs (vendor_name ++ n ∷ []) xs) ((vendor_name ++ n ∷ []) ++ m ∷ [])
          → AreAllApart (if_other b ((vendor_name ++ n ∷ []) ++ x ∷ []) ++ others_in needs (vendor_name ++ n ∷ []) xs) ((vendor_name ++ n ∷ []) ++ m ∷ [])
      by true more = more
      by false more = (
        (
          behind_same_head (vendor_name ++ n ∷ []) (x ∷ []) (m ∷ []) ∙ first_differs x m [] [] never,
          behind_same_head (vendor_name ++ n ∷ []) (m ∷ []) (x ∷ []) ∙ first_differs m x [] [] (turned never),
        ),
        more,
      )

  others_apart : (names : List (List ℕ)) → IsStrictlySortedBy byte_cmp names → ArePathsApart (others_in needs (vendor_name ++ n ∷ []) names)
  unfolding IsStrictlySortedBy
  others_apart [] sorted = tt
  others_apart (m ∷ ms) sorted = by (needs.is_target ((vendor_name ++ n ∷ []) ++ m ∷ [])) (not_before m ms sorted.0) (others_apart ms sorted.1)
    where
      by : (b : Bool) → is_among m ms ≡ false → ArePathsApart (others_in needs (vendor_name ++ n ∷ []) ms) → ArePathsApart (if_other b ((vendor_name ++ n ∷ []) ++ m ∷ []) ++ others_in needs (vendor_name ++ n ∷ []) ms)
      by true none more = more
      by false none more = (others_other m ms none, more)

  others_known : (blocked : List (List ℕ) → Bool) (names : List (List ℕ)) → needs.is_above (vendor_name ++ n ∷ []) ≡ true → blocked (vendor_name ++ n ∷ []) ≡ false → AreKnown needs blocked (n ∷ []) (others_in needs (vendor_name ++ n ∷ []) names)
  others_known blocked [] above free = tt
  others_known blocked (m ∷ ms) above free = by (needs.is_target ((vendor_name ++ n ∷ []) ++ m ∷ [])) refl (others_known blocked ms above free)
    where
      by : (b : Bool) → needs.is_target ((vendor_name ++ n ∷ []) ++ m ∷ []) ≡ b → AreKnown needs blocked (n ∷ []) (others_in needs (vendor_name ++ n ∷ []) ms)
          → AreKnown needs blocked (n ∷ []) (if_other b ((vendor_name ++ n ∷ []) ++ m ∷ []) ++ others_in needs (vendor_name ++ n ∷ []) ms)
      by true e more = more
      by false e more = (inr (record { name = n; last = m; is = refl; among = rw (itself_named n) refl; above = above; target = e; free = free }), more)

  kept_ways : (before after : Found) → after.blocked ≡ before.blocked → (path : List (List ℕ)) → contains path_cmp after.blocked path ≡ true → (contains path_cmp before.blocked path ≡ true) ⊎ (path ≡ vendor_name ++ n ∷ [])
  kept_ways before after kept path is = inl (ap (λ s. contains path_cmp s path) (sym kept) ∙ is)

  module _ (path : List (List ℕ)) (path_is : path ≡ vendor_name ++ n ∷ []) where
    pub adds_others : (names : List (List ℕ)) (before after : Found) → IsListing names → needs.is_above path ≡ true → after.unneeded.items ≡ before.unneeded.items ++ others_in needs path names → after.blocked ≡ before.blocked → AddsKnown needs n before after
    adds_others names before after listing above items kept = record {
      added = others_in needs (vendor_name ++ n ∷ []) names;
      items = items ∙ ap (λ (p : List (List ℕ)). before.unneeded.items ++ others_in needs p names) path_is;
      known = λ free. others_known (contains path_cmp after.blocked) names (ap needs.is_above (sym path_is) ∙ above) (ap (λ s. contains path_cmp s (vendor_name ++ n ∷ [])) kept ∙ free);
      apart = others_apart names listing.ascending;
      ways = kept_ways before after kept;
      others = λ other never. ap (λ s. contains path_cmp s other) kept;
    }

    pub adds_none : (found : Found) → AddsKnown needs n found found
    adds_none found = record {
      added = [];
      items = sym (append-nil found.unneeded.items);
      known = λ free. tt;
      apart = tt;
      ways = λ other is. inl is;
      others = λ other never. refl;
    }

    pub adds_way : (before after : Found) → after.unneeded.items ≡ before.unneeded.items → ((other : List (List ℕ)) → contains path_cmp after.blocked other ≡ cond (is_eq (path_cmp path other)) true (contains path_cmp before.blocked other)) → AddsKnown needs n before after
    adds_way before after items adds = record {
      added = [];
      items = items ∙ sym (append-nil before.unneeded.items);
      known = λ free. tt;
      apart = tt;
      ways = λ other is. way other (is_eq (path_cmp path other)) refl (sym (adds other) ∙ is);
      others = λ other never. same other never (is_eq (path_cmp path other)) refl;
    }
      where
        way : (other : List (List ℕ)) (b : Bool) → is_eq (path_cmp path other) ≡ b → cond b true (contains path_cmp before.blocked other) ≡ true → (contains path_cmp before.blocked other ≡ true) ⊎ (other ≡ vendor_name ++ n ∷ [])
        way other true e is = inr (sym (equal_paths path other e) ∙ path_is)
        way other false e is = inl is

        same : (other : List (List ℕ)) → (other ≡ vendor_name ++ n ∷ [] → ⊥) → (b : Bool) → is_eq (path_cmp path other) ≡ b → contains path_cmp after.blocked other ≡ contains path_cmp before.blocked other
        same other never true e = absurd (never (sym (equal_paths path other e) ∙ path_is))
        same other never false e = adds other ∙ ap (λ (b : Bool). cond b true (contains path_cmp before.blocked other)) e

    pub adds_one : (before after : Found) → needs.is_above path ≡ false → after.unneeded.items ≡ before.unneeded.items ++ if_other (needs.is_target path) path → after.blocked ≡ before.blocked → AddsKnown needs n before after
    adds_one before after above items kept = record {
      added = if_other (needs.is_target path) path;
      items = items;
      known = λ free. known (needs.is_target path) refl;
      apart = apart (needs.is_target path);
      ways = kept_ways before after kept;
      others = λ other never. ap (λ s. contains path_cmp s other) kept;
    }
      where
        known : (b : Bool) → needs.is_target path ≡ b → AreKnown needs (contains path_cmp after.blocked) (n ∷ []) (if_other b path)
        known true e = tt
        known false e = (inl (record { name = n; is = path_is; among = rw (itself_named n) refl; above = above; target = e }), tt)

        apart : (b : Bool) → ArePathsApart (if_other b path)
        apart true = tt
        apart false = (tt, tt)

-- ---- one name more

module _ (needs : Needs) (names : List (List ℕ)) (x : List ℕ) (none : is_among x names ≡ false) (before after : Found) (so_far : IsKnown needs names before) (adds : AddsKnown needs x before after) where
  free_by : (b : Bool) → contains path_cmp before.blocked (vendor_name ++ x ∷ []) ≡ b → contains path_cmp before.blocked (vendor_name ++ x ∷ []) ≡ false
  free_by true e = absurd (let way = so_far.ways (vendor_name ++ x ∷ []) e in never_both way.0 x names way.1.1 none (sym (same_last x way.0 way.1.0)))
  free_by false e = e

  still : (name : List ℕ) → is_among name names ≡ true → contains path_cmp before.blocked (vendor_name ++ name ∷ []) ≡ false → contains path_cmp after.blocked (vendor_name ++ name ∷ []) ≡ false
  still name among free = adds.others (vendor_name ++ name ∷ []) (λ e. never_both name x names among none (same_last name x e)) ∙ free

  old_known : (paths : List (List (List ℕ))) → AreKnown needs (contains path_cmp before.blocked) names paths → AreKnown needs (contains path_cmp after.blocked) (names ++ x ∷ []) paths
  old_known [] all = tt
  old_known (p ∷ ps) all = (by all.0, old_known ps all.1)
    where
      by : IsAlone needs names p ⊎ IsBesideTargets needs (contains path_cmp before.blocked) names p → IsAlone needs (names ++ x ∷ []) p ⊎ IsBesideTargets needs (contains path_cmp after.blocked) (names ++ x ∷ []) p
      by (inl one) = inl (record { name = one.name; is = one.is; among = among_more one.name x names one.among; above = one.above; target = one.target })
      by (inr two) = inr (record { name = two.name; last = two.last; is = two.is; among = among_more two.name x names two.among; above = two.above; target = two.target; free = still two.name two.among two.free })

  new_known : (paths : List (List (List ℕ))) → AreKnown needs (contains path_cmp after.blocked) (x ∷ []) paths → AreKnown needs (contains path_cmp after.blocked) (names ++ x ∷ []) paths
  new_known [] all = tt
  new_known (p ∷ ps) all = (by all.0, new_known ps all.1)
    where
      last : (name : List ℕ) → is_among name (x ∷ []) ≡ true → is_among name (names ++ x ∷ []) ≡ true
      last name among = ap (λ (y : List ℕ). is_among y (names ++ x ∷ [])) (among_one name x among) ∙ among_last x names

      by : IsAlone needs (x ∷ []) p ⊎ IsBesideTargets needs (contains path_cmp after.blocked) (x ∷ []) p → IsAlone needs (names ++ x ∷ []) p ⊎ IsBesideTargets needs (contains path_cmp after.blocked) (names ++ x ∷ []) p
      by (inl one) = inl (record { name = one.name; is = one.is; among = last one.name one.among; above = one.above; target = one.target })
      by (inr two) = inr (record { name = two.name; last = two.last; is = two.is; among = last two.name two.among; above = two.above; target = two.target; free = two.free })

  known_append : (xs ys : List (List (List ℕ))) → AreKnown needs (contains path_cmp after.blocked) (names ++ x ∷ []) xs → AreKnown needs (contains path_cmp after.blocked) (names ++ x ∷ []) ys → AreKnown needs (contains path_cmp after.blocked) (names ++ x ∷ []) (xs ++ ys)
  known_append [] ys a b = b
  known_append (z ∷ zs) ys a b = (a.0, known_append zs ys a.1 b)

  -- a path at a name of before is apart from those of the new one
  cross : (blocked : List (List ℕ) → Bool) (p : List (List ℕ)) → IsAlone needs names p ⊎ IsBesideTargets needs (contains path_cmp before.blocked) names p → (paths : List (List (List ℕ))) → AreKnown needs blocked (x ∷ []) paths → AreAllApart paths p
  cross blocked p kind [] all = tt
  cross blocked p kind (q ∷ qs) all = (by kind all.0, cross blocked p kind qs all.1)
    where
      apart_by : (n m : List ℕ) (r s : List (List ℕ)) → is_among n (x ∷ []) ≡ true → is_among m names ≡ true → q ≡ vendor_name ++ n ∷ r → p ≡ vendor_name ++ m ∷ s → AreApart q p
      apart_by n m r s a b q_is p_is =
          subst (λ (y : List (List ℕ)). AreApart y p) (sym q_is) (subst (λ (y : List (List ℕ)). AreApart (vendor_name ++ n ∷ r) y) (sym p_is)
          (other_name n m r s (λ e. never_both m x names b none (sym e ∙ among_one n x a))))

      by : IsAlone needs names p ⊎ IsBesideTargets needs (contains path_cmp before.blocked) names p → IsAlone needs (x ∷ []) q ⊎ IsBesideTargets needs blocked (x ∷ []) q → AreApart q p
      by (inl a) (inl b) = apart_by b.name a.name [] [] b.among a.among b.is a.is
      by (inl a) (inr b) = apart_by b.name a.name (b.last ∷ []) [] b.among a.among b.is a.is
      by (inr a) (inl b) = apart_by b.name a.name [] (a.last ∷ []) b.among a.among b.is a.is
      by (inr a) (inr b) = apart_by b.name a.name (b.last ∷ []) (a.last ∷ []) b.among a.among b.is a.is

  apart_append : (xs ys : List (List (List ℕ))) → AreKnown needs (contains path_cmp before.blocked) names xs → AreKnown needs (contains path_cmp after.blocked) (x ∷ []) ys → ArePathsApart xs → ArePathsApart ys → ArePathsApart (xs ++ ys)
  apart_append [] ys a b c d = d
  apart_append (p ∷ ps) ys a b c d = (all_append ps ys p c.0 (cross (contains path_cmp after.blocked) p a.0 ys b), apart_append ps ys a.1 b c.1 d)

  pub known_more : IsKnown needs (names ++ x ∷ []) after
  known_more =
      let known = adds.known (free_by (contains path_cmp before.blocked (vendor_name ++ x ∷ [])) refl) in
      record {
        known = subst (AreKnown needs (contains path_cmp after.blocked) (names ++ x ∷ [])) (sym adds.items)
            (known_append before.unneeded.items adds.added (old_known before.unneeded.items so_far.known) (new_known adds.added known));
        apart = subst ArePathsApart (sym adds.items) (apart_append before.unneeded.items adds.added so_far.known known so_far.apart adds.apart);
        ways = λ path is. way path (adds.ways path is);
      }
    where
      way : (path : List (List ℕ)) → (contains path_cmp before.blocked path ≡ true) ⊎ (path ≡ vendor_name ++ x ∷ []) → (name : List ℕ) × ((path ≡ vendor_name ++ name ∷ []) × (is_among name (names ++ x ∷ []) ≡ true))
      way path (inl is) = let old = so_far.ways path is in (old.0, (old.1.0, among_more old.0 x names old.1.1))
      way path (inr is) = (x, (is, among_last x names))

pub known_next : (needs : Needs) (names : List (List ℕ)) (i : ℕ) (x : List ℕ) (before after : Found) → IsListing names → i < length names → x ≡ get_or names i x → IsKnown needs (take i names) before → AddsKnown needs x before after → IsKnown needs (take (i + 1) names) after
known_next needs names i x before after listing lt is so_far adds =
    subst (λ (ns : List (List ℕ)). IsKnown needs ns after) (sym (take_more names i x lt ∙ ap (λ (y : List ℕ). take i names ++ y ∷ []) (sym is)))
    (known_more needs (take i names) x (fresh names i x listing lt is) before after so_far adds)

pub known_all : (needs : Needs) (names : List (List ℕ)) (i : ℕ) (found : Found) → length names ≤ i → IsKnown needs (take i names) found → IsKnown needs names found
known_all needs names i found le known = subst (λ (ns : List (List ℕ)). IsKnown needs ns found) (take_all i names le) known

pub known_none : (needs : Needs) (found : Found) → found.unneeded.items ≡ [] → found.blocked.keys ≡ [] → IsKnown needs [] found
known_none needs found none empty = record {
  known = subst (AreKnown needs (contains path_cmp found.blocked) []) (sym none) tt;
  apart = subst ArePathsApart (sym none) tt;
  ways = λ path is. absurd (let no_path : contains path_cmp found.blocked path ≡ false = rw empty refl in cc);
}

-- ---- needs that say the same

module _ (one other : Needs) (same : AreSameNeeds one other) (blocked : List (List ℕ) → Bool) (names : List (List ℕ)) where
  paths_same : (paths : List (List (List ℕ))) → AreKnown one blocked names paths → AreKnown other blocked names paths
  paths_same [] all = tt
  paths_same (p ∷ ps) all = (by all.0, paths_same ps all.1)
    where
      by : IsAlone one names p ⊎ IsBesideTargets one blocked names p → IsAlone other names p ⊎ IsBesideTargets other blocked names p
      by (inl a) = inl (record { name = a.name; is = a.is; among = a.among; above = sym (same.above p) ∙ a.above; target = sym (same.targets p) ∙ a.target })
      by (inr b) = inr (record { name = b.name; last = b.last; is = b.is; among = b.among; above = sym (same.above (vendor_name ++ b.name ∷ [])) ∙ b.above; target = sym (same.targets p) ∙ b.target; free = b.free })

pub known_same : (one other : Needs) → AreSameNeeds one other → (names : List (List ℕ)) (found : Found) → IsKnown one names found → IsKnown other names found
known_same one other same names found is = record { known = paths_same one other same (contains path_cmp found.blocked) names found.unneeded.items is.known; apart = is.apart; ways = is.ways }
