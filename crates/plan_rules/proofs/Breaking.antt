-- The rules in their order, found link by link, are the first broken one of a set.
use Rattle.std.proofs.Common.{◌≡◌, ℕ, Bool, true, false, cond, List, [], ◌∷◌, ◌++◌, map, find, Option, Some, None, refl, sym, ap, ◌∙◌}
use Rattle.std.specs.Prelude.{option_map}
use Rattle.std.specs.Option.{option_or}
use Rattle.manifest_read.specs.declared.types.Link.{Link}
use Rattle.manifest_read.specs.declared.types.Package.{Package}
use Rattle.pkg_pool.specs.declared.pool.Pool.{Pool}
use Rattle.plan_rules.specs.declared.facts.Kind.TheVariants.{Unmet, Platform}
use Rattle.plan_rules.specs.declared.rule.Rule.{Rule}
use Rattle.plan_rules.specs.declared.rule.Rule.TheVariants as rules
use Rattle.plan_rules.specs.Sets.{Chosen}
use Rattle.plan_rules.specs.Validity.{members, parties, first_rule, two_owners, links_of, requirements, is_unmet, unmet, conflict_rule, conflict, is_barred, platform, first_broken}
use Rattle.plan_rules.specs.Breaking.{required_rule, conflicting_rule, packages_rule, allowed_rule}

or_assoc : {X : Type 0} (a b c : Option X) → option_or a (option_or b c) ≡ option_or (option_or a b) c
or_assoc None b c = refl
or_assoc (Some x) b c = refl

module _ {X : Type 0} where
  -- the first that passes makes the rule
  first_step : (p : X → Bool) (r : X → Rule) (t : Bool) (x : X) (xs : List X) → option_map r (find p xs) ≡ first_rule (λ y. cond (p y) (Some (r y)) None) xs
      → option_map r (cond t (Some x) (find p xs)) ≡ option_or (cond t (Some (r x)) None) (first_rule (λ y. cond (p y) (Some (r y)) None) xs)
  first_step p r true x xs rest = refl
  first_step p r false x xs rest = rest

  first_found : (p : X → Bool) (r : X → Rule) (xs : List X) → option_map r (find p xs) ≡ first_rule (λ y. cond (p y) (Some (r y)) None) xs
  first_found p r [] = refl
  first_found p r (x ∷ xs) = first_step p r (p x) x xs (first_found p r xs)

  module _ (f : X → Option Rule) where
    first_append : (xs ys : List X) → first_rule f (xs ++ ys) ≡ option_or (first_rule f xs) (first_rule f ys)
    first_append [] ys = refl
    first_append (x ∷ xs) ys = ap (option_or (f x)) (first_append xs ys) ∙ or_assoc (f x) (first_rule f xs) (first_rule f ys)

first_map : {X Y : Type 0} (f : Y → Option Rule) (g : X → Y) (xs : List X) → first_rule f (map g xs) ≡ first_rule (λ x. f (g x)) xs
first_map f g [] = refl
first_map f g (x ∷ xs) = ap (option_or (f (g x))) (first_map f g xs)

-- package by package
first_links : (f : List ℕ × Link → Option Rule) (links : Package → List Link) (list : List Package) → first_rule f (links_of links list) ≡ first_rule (λ party. first_rule (λ link. f (party.name, link)) (links party)) list
first_links f links [] = refl
first_links f links (party ∷ parties) = first_append f (map (λ link. (party.name, link)) (links party)) (links_of links parties)
    ∙ ap (λ rule. option_or rule (first_rule f (links_of links parties))) (first_map f (λ link. (party.name, link)) (links party))
    ∙ ap (option_or (first_rule (λ link. f (party.name, link)) (links party))) (first_links f links parties)

module _ (pool : Pool) (set : Chosen) where
  abbrev packages : List Package
  packages = map (λ member. member.«package») (members pool set)

  -- of the root, of its requirements for development, and of the members
  first_required : (f : List ℕ × Link → Option Rule) → first_rule f (requirements pool set)
      ≡ option_or (first_rule (λ link. f (pool.root.«package».name, link)) pool.root.«package».require)
      (option_or (first_rule (λ link. f (pool.root.«package».name, link)) pool.root.require_dev) (first_rule (λ party. first_rule (λ link. f (party.name, link)) party.require) packages))
  first_required f =
      first_append f (map (λ link. (pool.root.«package».name, link)) (pool.root.«package».require ++ pool.root.require_dev)) (links_of (λ party. party.require) packages)
      ∙ ap (λ rule. option_or rule (first_rule f (links_of (λ party. party.require) packages)))
      (first_map f (λ link. (pool.root.«package».name, link)) (pool.root.«package».require ++ pool.root.require_dev)
      ∙ first_append (λ link. f (pool.root.«package».name, link)) pool.root.«package».require pool.root.require_dev)
      ∙ ap (option_or (option_or (first_rule (λ link. f (pool.root.«package».name, link)) pool.root.«package».require) (first_rule (λ link. f (pool.root.«package».name, link)) pool.root.require_dev)))
      (first_links f (λ party. party.require) packages)
      ∙ sym (or_assoc (first_rule (λ link. f (pool.root.«package».name, link)) pool.root.«package».require) (first_rule (λ link. f (pool.root.«package».name, link)) pool.root.require_dev)
      (first_rule (λ party. first_rule (λ link. f (party.name, link)) party.require) packages))

  unmet_is : unmet pool set ≡ required_rule Unmet (parties pool set) pool.root packages
  unmet_is = first_found (is_unmet (parties pool set)) (λ wanted. rules.Unmet wanted.0 wanted.1.name) (requirements pool set)
      ∙ first_required (λ wanted. cond (is_unmet (parties pool set) wanted) (Some (rules.Unmet wanted.0 wanted.1.name)) None)

  platform_is : platform pool set ≡ required_rule Platform (parties pool set) pool.root packages
  platform_is = first_found (is_barred pool.root.platform) (λ wanted. rules.Platform wanted.0 wanted.1.name) (requirements pool set)
      ∙ first_required (λ wanted. cond (is_barred pool.root.platform wanted) (Some (rules.Platform wanted.0 wanted.1.name)) None)

  conflict_is : conflict pool set ≡ conflicting_rule (parties pool set) pool.root packages
  conflict_is = first_links (conflict_rule pool.root.platform (parties pool set)) (λ party. party.conflict) (parties pool set)

  pub first_broken_is : option_or (allowed_rule pool.root (members pool set)) (packages_rule pool.root packages) ≡ first_broken pool set
  unfolding first_broken
  first_broken_is = ap (option_or (allowed_rule pool.root (members pool set))) (ap (option_or (two_owners (parties pool set)))
      (ap (λ rule. option_or rule (option_or (conflicting_rule (parties pool set) pool.root packages) (required_rule Platform (parties pool set) pool.root packages))) (sym unmet_is)
      ∙ ap (option_or (unmet pool set)) (ap (λ rule. option_or rule (required_rule Platform (parties pool set) pool.root packages)) (sym conflict_is) ∙ ap (option_or (conflict pool set)) (sym platform_is))))
