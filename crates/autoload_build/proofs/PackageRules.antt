-- Rules of packages in the order of packages.
use Rattle.std.proofs.Common.{◌≡◌, ℕ, zero, suc, ◌+◌, ◌<◌, ◌≤◌, Bool, List, [], ◌∷◌, ◌++◌, length, get_or, take, map, Some, refl, sym, ap, ◌∙◌, add-one, arith}
use Rattle.std.specs.Prelude.{reverse}
use Rattle.std.specs.List.{slice_get}
use Rattle.std.proofs.lemmas.List.{map-append, reverse-append, length-map, take_all}
use Rattle.manifest_read.specs.declared.types.Manifest.{Manifest}
use Rattle.psr_routes.specs.declared.types.Placed.{Placed}
use Rattle.psr_routes.specs.PackageOrder.{Numbered, ordered, package_order_of}
use Rattle.psr_routes.specs.Routes.{Source, root_sources, package_sources, sources_of, loading_sources_of}
use Rattle.psr_routes.proofs.SourceRules.{in_order}
use Rattle.autoload_build.specs.declared.sources.Source as lent_rules
use Rattle.autoload_build.specs.Steps.{package_source, seen, source_of}

more_taken : {X : Type 0} (xs : List X) (k : ℕ) (x : X) → slice_get xs k ≡ Some x → take (suc k) xs ≡ take k xs ++ x ∷ []
more_taken [] k x e = absurd cc
more_taken (y ∷ xs) zero x e =
    let same : y ≡ x = cc in
    ap (λ z. z ∷ []) same
more_taken (y ∷ xs) (suc k) x e = ap (λ list. y ∷ list) (more_taken xs k x e)

placed_at : (list : List Placed) (k : ℕ) (one d : Placed) → slice_get list k ≡ Some one → get_or list k d ≡ one
placed_at [] k one d e = absurd cc
placed_at (x ∷ list) zero one d e =
    let same : x ≡ one = cc in
    same
placed_at (x ∷ list) (suc k) one d e = placed_at list k one d e

-- the rules of one package more
pub one_more : (members : List Placed) (order : List ℕ) (k : ℕ) (member : Placed) (before new : List Source) → order ≡ package_order_of members → k < length order → member ≡ get_or members (get_or order k 0) member
    → new ≡ before ++ package_source member ∷ [] → before ≡ map (λ one. package_source one.1) (take k (ordered members)) → new ≡ map (λ one. package_source one.1) (take (k + 1) (ordered members))
one_more members order k member before new is within here more so_far =
    let found = in_order members order k is within in
    let same : found.one ≡ member = sym (placed_at members (get_or order k 0) found.one member found.member) ∙ sym here in
    more ∙ ap (λ list. list ++ package_source member ∷ []) so_far
    ∙ ap (λ one. map (λ one. package_source one.1) (take k (ordered members)) ++ package_source one ∷ []) (sym same)
    ∙ sym (map-append (λ (one : Numbered). package_source one.1) (take k (ordered members)) ((get_or order k 0, found.one) ∷ []))
    ∙ ap (map (λ one. package_source one.1)) (sym (more_taken (ordered members) k (get_or order k 0, found.one) found.at))
    ∙ ap (λ n. map (λ one. package_source one.1) (take n (ordered members))) (sym (add-one k))

pub all_taken : (members : List Placed) (order : List ℕ) (k : ℕ) (some : List Source) → order ≡ package_order_of members → length order ≤ k → some ≡ map (λ one. package_source one.1) (take k (ordered members)) → some ≡ package_sources members
all_taken members order k some is all e =
    let long : length order ≡ length (ordered members) = ap length is ∙ length-map (ordered members) (λ x. x.0) in
    e ∙ ap (map (λ one. package_source one.1)) (take_all k (ordered members) (omega (arith, long)))

reverse_seen : (sources : List lent_rules.Source) → seen (reverse sources) ≡ reverse (seen sources)
reverse_seen [] = refl
reverse_seen (source ∷ sources) =
    ap seen (reverse-append (source ∷ []) sources) ∙ map-append source_of (reverse sources) (source ∷ []) ∙ ap (λ list. list ++ source_of source ∷ []) (reverse_seen sources)
    ∙ sym (reverse-append (source_of source ∷ []) (seen sources))

module _ (project : List (List ℕ)) (root : Manifest) (members : List Placed) (dev : Bool) where
  -- the root, and then the packages in reverse
  pub searched_are : (packages own all : List lent_rules.Source) → seen packages ≡ package_sources members → seen own ≡ root_sources project root dev → all ≡ own ++ reverse packages → seen all ≡ sources_of project root members dev
  unfolding sources_of
  searched_are packages own all order first is =
      ap seen is ∙ map-append source_of own (reverse packages) ∙ ap (λ list. list ++ seen (reverse packages)) first
      ∙ ap (λ list. root_sources project root dev ++ list) (reverse_seen packages ∙ ap reverse order)

  -- the packages, and then the root
  pub loaded_are : (packages all : List lent_rules.Source) → seen packages ≡ package_sources members → seen all ≡ seen packages ++ root_sources project root dev → seen all ≡ loading_sources_of project root members dev
  unfolding loading_sources_of
  loaded_are packages all order is = is ∙ ap (λ list. list ++ root_sources project root dev) order
