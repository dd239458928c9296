-- Where the root alone breaks no rule but that its requirements may be unmet.
use Rattle.std.proofs.Common.{◌≡◌, ℕ, suc, ◌+◌, ◌≤◌, Bool, true, false, cond, not, List, [], ◌∷◌, ◌++◌, length, map, find, Option, Some, None, refl, sym, ap, ◌∙◌, arith}
use Rattle.std.specs.Prelude.{◌&&◌, ◌||◌, option_map, is_some}
use Rattle.std.specs.List.{list_any}
use Rattle.std.specs.Option.{option_or}
use Rattle.std.proofs.lemmas.Bool.{false≢true}
use Rattle.std.proofs.lemmas.List.{append-nil}
use Rattle.std.proofs.lemmas.List.Folds.{list_any-append}
use Rattle.std.proofs.lemmas.Slice.Eq.{bytes_eq-Decides}
use Rattle.path_name.specs.Orders.{bytes_are_equal}
use Rattle.manifest_read.specs.declared.types.Link.{Link}
use Rattle.manifest_read.specs.declared.types.Package.{Package}
use Rattle.manifest_read.specs.declared.types.PlatformRow.{PlatformRow}
use Rattle.pkg_pool.specs.declared.pool.Pool.{Pool}
use Rattle.pkg_pool.specs.declared.pool.Candidate.{Candidate}
use Rattle.plan_rules.specs.declared.rule.Rule.TheVariants as rules
use Rattle.plan_rules.specs.Sets.{Chosen, set_from, set_of}
use Rattle.plan_rules.specs.Requirements.{takes}
use Rattle.plan_rules.specs.Validity.{chosen, by_name, members, parties, first_rule, links_of, requirements, is_against, is_listed_as, against, conflict_rule, is_barred, not_allowed, two_owners, conflict, platform}
use Rattle.plan_rules.specs.Fitting.{BreaksNone, root_suits}
use Rattle.plan_rules.proofs.KeptRules.{owners_keep}
use Rattle.plan_rules.proofs.Offering.{any_map}
use Rattle.plan_rules.proofs.MarkedRivals.{any_found, some_shown}

some_or : {X : Type 0} (a b : Option X) → is_some (option_or a b) ≡ (is_some a || is_some b)
some_or None b = refl
some_or (Some x) b = refl

none_some : {X : Type 0} (o : Option X) → not (is_some o) ≡ true → o ≡ None
none_some None e = refl
none_some (Some x) e = absurd (false≢true e)

left_true : (s t : Bool) → (s && t) ≡ true → s ≡ true
left_true true t e = refl
left_true false t e = e

right_true : (s t : Bool) → (s && t) ≡ true → t ≡ true
right_true true t e = e
right_true false t e = absurd (false≢true e)

neither : (a b d : Bool) → ((a && not b) && not d) ≡ (a && not (b || d))
neither true true d = refl
neither true false d = refl
neither false b d = refl

one_at_most : (t : Bool) → cond t 1 0 + 0 ≤ 1
one_at_most true = omega arith
one_at_most false = omega arith

none_chosen : (at : ℕ) (candidates : List Candidate) → chosen (set_from (length candidates) at []) candidates ≡ []
none_chosen at [] = refl
none_chosen at (candidate ∷ candidates) = none_chosen (suc at) candidates

-- a conflict of the root is with a listed platform package alone
module _ (rows : List PlatformRow) (root : Package) where
  itself : bytes_are_equal root.name root.name ≡ true
  itself = (bytes_eq-Decides root.name root.name).1 refl

  some_link : (link : Link) → is_some (conflict_rule rows (root ∷ []) (root.name, link)) ≡ list_any (is_listed_as link) rows
  some_link link = some_shown (λ other. rules.Conflict root.name link.name other) (against rows (root ∷ []) (root.name, link))
      ∙ ap (λ t. is_some (option_or (option_map (λ party. party.name) (cond (not t && is_against link root) (Some root) None)) (option_map (λ row. row.name) (find (is_listed_as link) rows)))) itself
      ∙ some_shown (λ row. row.name) (find (is_listed_as link) rows) ∙ sym (any_found (is_listed_as link) rows)

  some_rule : (links : List Link) → is_some (first_rule (conflict_rule rows (root ∷ [])) (map (λ link. (root.name, link)) links)) ≡ list_any (λ link. list_any (is_listed_as link) rows) links
  some_rule [] = refl
  some_rule (link ∷ links) = some_or (conflict_rule rows (root ∷ []) (root.name, link)) (first_rule (conflict_rule rows (root ∷ [])) (map (λ it. (root.name, it)) links))
      ∙ rw (some_link link, some_rule links) refl

module _ (pool : Pool) where
  abbrev none : Chosen
  none = set_of (length pool.candidates) []

  abbrev root : Package
  root = pool.root.«package»

  abbrev rows : List PlatformRow
  rows = pool.root.platform

  no_members : members pool none ≡ []
  unfolding members
  no_members = ap (by_name []) (none_chosen 0 pool.candidates)

  root_parties : parties pool none ≡ root ∷ []
  root_parties = ap (λ list. root ∷ map (λ member. member.«package») list) no_members

  root_requirements : requirements pool none ≡ map (λ link. (root.name, link)) (root.require ++ pool.root.require_dev)
  root_requirements = ap (λ list. map (λ link. (root.name, link)) (root.require ++ pool.root.require_dev) ++ links_of (λ party. party.require) (map (λ member. member.«package») list)) no_members
      ∙ append-nil (map (λ link. (root.name, link)) (root.require ++ pool.root.require_dev))

  some_conflict : is_some (conflict pool none) ≡ list_any (λ link. list_any (is_listed_as link) rows) root.conflict
  some_conflict = ap (λ list. is_some (first_rule (conflict_rule rows list) (links_of (λ party. party.conflict) list))) root_parties
      ∙ ap (λ links. is_some (first_rule (conflict_rule rows (root ∷ [])) links)) (append-nil (map (λ link. (root.name, link)) root.conflict)) ∙ some_rule rows root root.conflict

  some_platform : is_some (platform pool none) ≡ (list_any (λ link. is_barred rows (root.name, link)) root.require || list_any (λ link. is_barred rows (root.name, link)) pool.root.require_dev)
  some_platform = some_shown (λ wanted. rules.Platform wanted.0 wanted.1.name) (find (is_barred rows) (requirements pool none))
      ∙ ap (λ wanted. is_some (find (is_barred rows) wanted)) root_requirements ∙ sym (any_found (is_barred rows) (map (λ link. (root.name, link)) (root.require ++ pool.root.require_dev)))
      ∙ sym (any_map (is_barred rows) (λ link. (root.name, link)) (root.require ++ pool.root.require_dev)) ∙ list_any-append (λ link. is_barred rows (root.name, link)) root.require pool.root.require_dev

  suits_are : root_suits pool.root ≡ (not (is_some (conflict pool none)) && not (is_some (platform pool none)))
  suits_are = neither (not (list_any (λ link. list_any (is_listed_as link) rows) root.conflict)) (list_any (λ link. is_barred rows (root.name, link)) root.require) (list_any (λ link. is_barred rows (root.name, link)) pool.root.require_dev)
      ∙ ap (λ t. not t && not (list_any (λ link. is_barred rows (root.name, link)) root.require || list_any (λ link. is_barred rows (root.name, link)) pool.root.require_dev)) (sym some_conflict)
      ∙ ap (λ t. not (is_some (conflict pool none)) && not t) (sym some_platform)

  pub root_fits : root_suits pool.root ≡ true → BreaksNone pool []
  root_fits e =
      let both = sym suits_are ∙ e in
      record {
        allowed = ap (not_allowed pool) no_members;
        owners = ap two_owners root_parties ∙ owners_keep (root ∷ []) (λ name. one_at_most (takes name root));
        conflict = none_some (conflict pool none) (left_true (not (is_some (conflict pool none))) (not (is_some (platform pool none))) both);
        platform = none_some (platform pool none) (right_true (not (is_some (conflict pool none))) (not (is_some (platform pool none))) both);
      }

  pub root_breaks : root_suits pool.root ≡ false → BreaksNone pool [] → ⊥
  root_breaks e breaks_none = false≢true (sym e ∙ suits_are ∙ ap (λ o. not (is_some o) && not (is_some (platform pool none))) breaks_none.conflict ∙ ap (λ o. not (is_some o)) breaks_none.platform)
