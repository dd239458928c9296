-- The first name of an index that two packages take is the byte-least one.
use Rattle.std.proofs.Common.{◌≡◌, ℕ, Bool, true, false, cond, List, [], ◌∷◌, filter, Option, Some, None, refl, sym, ap, ◌∙◌, arith, inl, inr}
use Rattle.std.specs.Prelude.{◌&&◌, is_some, option_map}
use Rattle.std.specs.List.{list_all, flat_map, AllByRecursion}
use Rattle.std.specs.List.Sorted.{IsStrictlySortedBy}
use Rattle.std.specs.Map.{keys_of, lookup}
use Rattle.std.specs.Option.{option_or, option_and_then, unwrap_or}
use Rattle.std.specs.Ordering.{is_le, is_eq, ordering_reverse}
use Rattle.std.specs.BTreeMap.{is_at}
use Rattle.std.specs.declared.cmp.Ordering.{Ordering}
use Rattle.std.specs.declared.cmp.Ordering.TheVariants.{Less, Equal, Greater}
use Rattle.std.proofs.lemmas.Bool.{false≢true}
use Rattle.path_name.specs.Orders.{byte_cmp, byte_cmp_total, byte_cmp_exact}
use Rattle.manifest_read.specs.declared.types.Package.{Package}
use Rattle.plan_rules.specs.declared.rule.Rule.{Rule}
use Rattle.plan_rules.specs.Requirements.{takes}
use Rattle.plan_rules.specs.Validity.{first_rule, taken_names, takers, least, rule_of_takers, has_two, two_owners}
use Rattle.plan_rules.specs.Offers.{Offered, offers_from, rule_of_offers}
use Rattle.plan_rules.proofs.Lists.{Among, find_none, filter_among, among_filter, length_filter}
use Rattle.plan_rules.proofs.KeptRules.{first_none, find_some, owners_keep, few_takers, taken_by, two_takers, is_least}
use Rattle.plan_rules.proofs.Offering.{rule_taken}

-- ---- keys in order

equal_by : (k : List ℕ) (o : Ordering) → byte_cmp k k ≡ o → o ≡ ordering_reverse o → is_eq o ≡ true
equal_by k Equal e same = refl
equal_by k Less e same = absurd cc
equal_by k Greater e same = absurd cc

equal_itself : (k : List ℕ) → is_at (byte_cmp k) k ≡ true
equal_itself k = equal_by k (byte_cmp k k) refl (byte_cmp_total.antisymm k k)

not_at : (k q : List ℕ) → byte_cmp q k ≡ Less → is_at (byte_cmp k) q ≡ false
not_at k q e = ap is_eq (byte_cmp_total.antisymm k q ∙ ap ordering_reverse e)

at_exact_by : (k q : List ℕ) (o : Ordering) → byte_cmp k q ≡ o → is_eq o ≡ true → k ≡ q
at_exact_by k q Equal e is = byte_cmp_exact k q e
at_exact_by k q Less e is = absurd (false≢true is)
at_exact_by k q Greater e is = absurd (false≢true is)

at_exact : (k q : List ℕ) → is_at (byte_cmp k) q ≡ true → k ≡ q
at_exact k q is = at_exact_by k q (byte_cmp k q) refl is

above_all : (k q : List ℕ) (keys : List (List ℕ)) → AllByRecursion (λ y. byte_cmp k y ≡ Less) keys → Among q keys → byte_cmp k q ≡ Less
above_all k q [] all found = absurd found
above_all k q (x ∷ keys) all (inl e) = ap (byte_cmp k) (sym e) ∙ all.0
above_all k q (x ∷ keys) all (inr there) = above_all k q keys all.1 there

module _ {V : Type 0} where
  key_among : (entry : List ℕ × V) (entries : List (List ℕ × V)) → Among entry entries → Among entry.0 (keys_of entries)
  key_among entry [] found = absurd found
  key_among entry (x ∷ entries) (inl e) = inl (ap (λ it. it.0) e)
  key_among entry (x ∷ entries) (inr there) = inr (key_among entry entries there)

  -- each entry is what its key leads to
  lookup_there : (entry : List ℕ × V) (entries : List (List ℕ × V)) → IsStrictlySortedBy byte_cmp (keys_of entries) → Among entry entries → lookup (is_at (byte_cmp entry.0)) entries ≡ Some entry.1
  unfolding IsStrictlySortedBy
  lookup_there entry [] sorted found = absurd found
  lookup_there entry (x ∷ entries) sorted (inl e) = rw (ap (is_at (byte_cmp entry.0)) (ap (λ it. it.0) e) ∙ equal_itself entry.0) (ap (λ it. Some it.1) e)
  lookup_there entry (x ∷ entries) sorted (inr there) =
      rw (not_at entry.0 x.0 (above_all x.0 entry.0 (keys_of entries) sorted.0 (key_among entry entries there))) (lookup_there entry entries sorted.1 there)

  abbrev pair : List ℕ → V → List ℕ × V
  pair key value = (key, value)

  -- and what a key leads to is an entry
  among_step : (t : Bool) (name : List ℕ) (value : V) (x : List ℕ × V) (entries : List (List ℕ × V)) → is_at (byte_cmp name) x.0 ≡ t → cond t (Some x.1) (lookup (is_at (byte_cmp name)) entries) ≡ Some value
      → (lookup (is_at (byte_cmp name)) entries ≡ Some value → Among (name, value) entries) → Among (name, value) (x ∷ entries)
  among_step true name value x entries e is rest = let key = at_exact name x.0 e in let same : x.1 ≡ value = cc in inl (ap (λ k. pair k x.1) (sym key) ∙ ap (pair name) same)
  among_step false name value x entries e is rest = inr (rest is)

  lookup_among : (name : List ℕ) (value : V) (entries : List (List ℕ × V)) → lookup (is_at (byte_cmp name)) entries ≡ Some value → Among (name, value) entries
  lookup_among name value [] e = absurd cc
  lookup_among name value (x ∷ entries) e = among_step (is_at (byte_cmp name) x.0) name value x entries refl e (λ rest. lookup_among name value entries rest)

  -- ---- the first entry that makes a rule

  module _ (made : List ℕ × V → Option Rule) where
    -- an entry that makes the rule, and each other one that makes a rule stands behind it
    abbrev IsFirstMade : Rule → List (List ℕ × V) → Type 0
    IsFirstMade rule entries = (entry : List ℕ × V) × Among entry entries × (made entry ≡ Some rule) × ((other : List ℕ × V) → Among other entries → is_some (made other) ≡ true → is_le (byte_cmp entry.0 other.0) ≡ true)

    made_step : (found : Option Rule) (rule : Rule) (x : List ℕ × V) (entries : List (List ℕ × V)) → AllByRecursion (λ y. byte_cmp x.0 y ≡ Less) (keys_of entries) → made x ≡ found
        → option_or found (first_rule made entries) ≡ Some rule → (first_rule made entries ≡ Some rule → IsFirstMade rule entries) → IsFirstMade rule (x ∷ entries)
    made_step (Some one) rule x entries above e is rest = (x, inl refl, e ∙ is, least_of)
      where
        least_of : (other : List ℕ × V) → Among other (x ∷ entries) → is_some (made other) ≡ true → is_le (byte_cmp x.0 other.0) ≡ true
        least_of other (inl same) makes = ap (λ it. is_le (byte_cmp x.0 it.0)) (sym same) ∙ le_equal (byte_cmp x.0 x.0) (equal_itself x.0)
          where
            le_equal : (o : Ordering) → is_eq o ≡ true → is_le o ≡ true
            le_equal Equal e = refl
            le_equal Less e = refl
            le_equal Greater e = absurd (false≢true e)
        least_of other (inr there) makes = ap is_le (above_all x.0 other.0 (keys_of entries) above (key_among other entries there))
    made_step None rule x entries above e is rest =
        let later = rest is in (later.0, inr later.1, later.2, λ other there makes. behind later.0 later.3 other there makes)
      where
        behind : (entry : List ℕ × V) → ((other : List ℕ × V) → Among other entries → is_some (made other) ≡ true → is_le (byte_cmp entry.0 other.0) ≡ true)
            → (other : List ℕ × V) → Among other (x ∷ entries) → is_some (made other) ≡ true → is_le (byte_cmp entry.0 other.0) ≡ true
        behind entry least_of other (inl same) makes = absurd (false≢true (ap is_some (sym e ∙ ap made same) ∙ makes))
        behind entry least_of other (inr there) makes = least_of other there makes

    first_made : (rule : Rule) (entries : List (List ℕ × V)) → IsStrictlySortedBy byte_cmp (keys_of entries) → first_rule made entries ≡ Some rule → IsFirstMade rule entries
    unfolding IsStrictlySortedBy
    first_made rule [] sorted e = absurd cc
    first_made rule (x ∷ entries) sorted e = made_step (made x) rule x entries sorted.0 refl e (λ rest. first_made rule entries sorted.1 rest)

-- ---- the byte-least name

all_least : (name : List ℕ) (some : List (List ℕ)) → ((other : List ℕ) → Among other some → is_le (byte_cmp name other) ≡ true) → list_all (λ other. is_le (byte_cmp name other)) some ≡ true
all_least name [] all = refl
all_least name (x ∷ some) all = rw (all x (inl refl)) (all_least name some (λ other there. all other (inr there)))

least_among : (name other : List ℕ) (some : List (List ℕ)) → list_all (λ it. is_le (byte_cmp name it)) some ≡ true → Among other some → is_le (byte_cmp name other) ≡ true
least_among name other [] all found = absurd found
least_among name other (x ∷ some) all (inl e) = ap (λ it. is_le (byte_cmp name it)) (sym e) ∙ left (is_le (byte_cmp name x)) (list_all (λ it. is_le (byte_cmp name it)) some) all
  where
    left : (s t : Bool) → (s && t) ≡ true → s ≡ true
    left true t e = refl
    left false t e = e
least_among name other (x ∷ some) all (inr there) = least_among name other some (right (is_le (byte_cmp name x)) (list_all (λ it. is_le (byte_cmp name it)) some) all) there
  where
    right : (s t : Bool) → (s && t) ≡ true → t ≡ true
    right true t e = e
    right false t e = absurd (false≢true e)

le_both : (a b : List ℕ) (o : Ordering) → byte_cmp a b ≡ o → is_le o ≡ true → is_le (ordering_reverse o) ≡ true → a ≡ b
le_both a b Equal e below above = byte_cmp_exact a b e
le_both a b Less e below above = absurd (false≢true above)
le_both a b Greater e below above = absurd (false≢true below)

least_by : (found : Option (List ℕ)) (name : List ℕ) (some : List (List ℕ)) → least some ≡ found → Among name some → is_least some name ≡ true → found ≡ Some name
least_by None name some e there all = absurd (false≢true (sym (find_none (is_least some) some name e there) ∙ all))
least_by (Some other) name some e there all =
    let both = find_some (is_least some) some other e in
    ap Some (le_both other name (byte_cmp other name) refl (least_among other name some both.1 there) (ap is_le (sym (byte_cmp_total.antisymm name other)) ∙ least_among name other some all both.0))

least_is : (name : List ℕ) (some : List (List ℕ)) → Among name some → is_least some name ≡ true → least some ≡ Some name
least_is name some there all = least_by (least some) name some refl there all

-- ---- two owners

module _ {V : Type 0} (items : V → List Offered) (entries : List (List ℕ × V)) (list : List Package) (sorted : IsStrictlySortedBy byte_cmp (keys_of entries))
    (known : (name : List ℕ) → unwrap_or (option_map items (lookup (is_at (byte_cmp name)) entries)) [] ≡ offers_from name 0 list) where
  abbrev made : List ℕ × V → Option Rule
  made entry = rule_of_offers entry.0 (items entry.1)

  -- what an entry makes is what its name does
  made_is : (entry : List ℕ × V) → Among entry entries → made entry ≡ rule_of_takers entry.0 (takers entry.0 list)
  made_is entry there = ap (rule_of_offers entry.0) (sym (ap (λ o. unwrap_or (option_map items o) []) (lookup_there entry entries sorted there)) ∙ known entry.0) ∙ rule_taken entry.0 0 list

  -- a name that makes a rule has an entry
  entry_by : (found : Option V) (name : List ℕ) → lookup (is_at (byte_cmp name)) entries ≡ found → has_two list name ≡ true → (value : V) × Among (name, value) entries
  entry_by None name e two = absurd (false≢true (ap is_some (ap (rule_of_offers name) (ap (λ o. unwrap_or (option_map items o) []) (sym e) ∙ known name) ∙ rule_taken name 0 list) ∙ two))
  entry_by (Some value) name e two = (value, lookup_among name value entries e)

  entry_of : (name : List ℕ) → has_two list name ≡ true → (value : V) × Among (name, value) entries
  entry_of name two = entry_by (lookup (is_at (byte_cmp name)) entries) name refl two

  none_two : (t : Bool) (name : List ℕ) → has_two list name ≡ t → first_rule made entries ≡ None → has_two list name ≡ false
  none_two false name e none = e
  none_two true name e none =
      let entry = entry_of name e in
      absurd (false≢true (ap is_some (sym (first_none made entries (name, entry.0) none entry.1) ∙ made_is (name, entry.0) entry.1) ∙ e))

  name_among : (name : List ℕ) → has_two list name ≡ true → Among name (filter (has_two list) (flat_map taken_names list))
  name_among name two = filter_among (has_two list) (flat_map taken_names list) name
      (taken_by name list (omega (arith, length_filter (takes name) list, two_takers name (takers name list) two))) two

  by_rule : (found : Option Rule) → first_rule made entries ≡ found → found ≡ two_owners list
  by_rule None e = sym (owners_keep list (λ name. few_takers list name (none_two (has_two list name) name refl e)))
  by_rule (Some rule) e =
      let first = first_made made rule entries sorted e in
      let makes : rule_of_takers first.0.0 (takers first.0.0 list) ≡ Some rule = sym (made_is first.0 first.1) ∙ first.2 in
      sym makes ∙ ap (option_and_then (λ name. rule_of_takers name (takers name list)))
      (sym (least_is first.0.0 (filter (has_two list) (flat_map taken_names list)) (name_among first.0.0 (ap is_some makes))
      (all_least first.0.0 (filter (has_two list) (flat_map taken_names list)) (λ other there.
      let two = (among_filter (has_two list) (flat_map taken_names list) other there).1 in
      let entry = entry_of other two in
      first.3 (other, entry.0) entry.1 (ap is_some (made_is (other, entry.0) entry.1) ∙ two)))))

  pub owners_found : first_rule made entries ≡ two_owners list
  owners_found = by_rule (first_rule made entries) refl
