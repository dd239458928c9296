-- Rules of packages in the order of packages.
use Rattle.std.proofs.Common.{◌≡◌, ℕ, zero, suc, ◌+◌, ◌-◌, ◌<◌, ◌≤◌, Bool, List, [], ◌∷◌, ◌++◌, length, get_or, take, map, Some, refl, sym, ap, subst, ◌∙◌, append_assoc, add-one, arith}
use Rattle.std.specs.Prelude.{reverse}
use Rattle.std.specs.List.{slice_get}
use Rattle.std.proofs.lemmas.List.{map-append, reverse-append, length-map, take_all}
use Rattle.manifest_read.specs.declared.types.Manifest.{Manifest}
use Rattle.psr_routes.specs.declared.types.Placed.{Placed}
use Rattle.psr_routes.specs.PackageOrder.{Numbered, ordered, package_order_of}
use Rattle.class_paths.specs.declared.types.RouteKind.{RouteKind}
use Rattle.psr_routes.specs.Routes.{Source, root_sources, package_sources, sources_of, rows_of_kind}
use Rattle.psr_routes.specs.Sources.{Rules, rules_of, member_rules, rules_below, rows_by, rows_by_rules}
use Rattle.psr_routes.proofs.NextPackage.{within_members}
use Rattle.psr_routes.proofs.PackageLaws.{taken_at}

reverse_map : {X Y : Type 0} (f : X → Y) (xs : List X) → map f (reverse xs) ≡ reverse (map f xs)
reverse_map f [] = refl
reverse_map f (x ∷ xs) =
    ap (map f) (reverse-append (x ∷ []) xs) ∙ map-append f (reverse xs) (x ∷ []) ∙ ap (λ list. list ++ f x ∷ []) (reverse_map f xs) ∙ sym (reverse-append (f x ∷ []) (map f xs))

map_twice : (xs : List Numbered) (f : Numbered → Source) (g : Source → Rules) → map g (map f xs) ≡ map (λ x. g (f x)) xs
map_twice [] f g = refl
map_twice (x ∷ xs) f g = ap (λ list. g (f x) ∷ list) (map_twice xs f g)

-- all rules: the root's, and then those of the packages
pub all_rules : (project : List (List ℕ)) (root : Manifest) (members : List Placed) (dev : Bool) (order : List ℕ) → order ≡ package_order_of members
    → rules_of (sources_of project root members dev) ≡ rules_of (root_sources project root dev) ++ rules_below (ordered members) (length order)
unfolding sources_of
all_rules project root members dev order is =
    let long : length order ≡ length (ordered members) = ap length is ∙ length-map (ordered members) (λ x. x.0) in
    map-append (λ (source : Source). (source.folder, source.rules)) (root_sources project root dev) (reverse (package_sources members))
    ∙ ap (λ list. rules_of (root_sources project root dev) ++ list)
    (reverse_map (λ (source : Source). (source.folder, source.rules)) (package_sources members)
    ∙ ap reverse (map_twice (ordered members) (λ one. record { owner = Some one.1; folder = one.1.shown; rules = one.1.package.autoload }) (λ source. (source.folder, source.rules)))
    ∙ sym (reverse_map member_rules (ordered members))
    ∙ ap (λ list. map member_rules (reverse list)) (sym (take_all (length order) (ordered members) (omega (arith, long)))))

more_taken : (xs : List Numbered) (k : ℕ) (one : Numbered) → slice_get xs k ≡ Some one → take (suc k) xs ≡ take k xs ++ one ∷ []
more_taken [] k one e = absurd cc
more_taken (x ∷ xs) zero one e = ap (λ z. z ∷ []) (same_one x one e)
  where
    same_one : (a b : Numbered) → Some a ≡ Some b → a ≡ b
    same_one a b f = cc
more_taken (x ∷ xs) (suc k) one e = ap (λ list. x ∷ list) (more_taken xs k one e)

-- one package more
pub below_more : (xs : List Numbered) (k : ℕ) (one : Numbered) → slice_get xs k ≡ Some one → rules_below xs (k + 1) ≡ member_rules one ∷ rules_below xs k
below_more xs k one e =
    ap (λ n. rules_below xs n) (add-one k) ∙ ap (λ list. map member_rules (reverse list)) (more_taken xs k one e) ∙ ap (map member_rules) (reverse-append (take k xs) (one ∷ []))

-- the package whose place stands at a place of the order
pub record InOrder (members : List Placed) (k place : ℕ) : Type 0 where
  pub one : Placed
  pub at : slice_get (ordered members) k ≡ Some (place, one)
  pub member : slice_get members place ≡ Some one
  pub within : place < length members

numbered_within : (xs : List Numbered) (k : ℕ) → k < length xs → (x : Numbered) × (slice_get xs k ≡ Some x)
numbered_within [] k less = absurd (omega (arith, less))
numbered_within (x ∷ xs) zero less = (x, refl)
numbered_within (x ∷ xs) (suc k) less = numbered_within xs k (omega (arith, less))

place_at : (xs : List Numbered) (k : ℕ) (one : Numbered) → slice_get xs k ≡ Some one → get_or (map (λ x. x.0) xs) k 0 ≡ one.0
place_at [] k one e = absurd cc
place_at (x ∷ xs) zero one e = ap (λ (z : Numbered). z.0) (same_one x one e)
  where
    same_one : (a b : Numbered) → Some a ≡ Some b → a ≡ b
    same_one a b f = cc
place_at (x ∷ xs) (suc k) one e = place_at xs k one e

pub in_order : (members : List Placed) (order : List ℕ) (k : ℕ) → order ≡ package_order_of members → k < length order → InOrder members k (get_or order k 0)
in_order members order k is within =
    let long : length order ≡ length (ordered members) = ap length is ∙ length-map (ordered members) (λ x. x.0) in
    let found = numbered_within (ordered members) k (omega (arith, within, long)) in
    let member = taken_at members k found.0 found.1 in
    let place : get_or order k 0 ≡ found.0.0 = ap (λ list. get_or list k 0) is ∙ place_at (ordered members) k found.0 found.1 in
    subst (InOrder members k) (sym place) (record { one = found.0.1; at = found.1; member = member; within = within_members members found.0.0 found.0.1 member })

placed_at : (list : List Placed) (k : ℕ) (one d : Placed) → slice_get list k ≡ Some one → get_or list k d ≡ one
placed_at [] k one d e = absurd cc
placed_at (x ∷ list) zero one d e = same_one x one e
  where
    same_one : (a b : Placed) → Some a ≡ Some b → a ≡ b
    same_one a b f = cc
placed_at (x ∷ list) (suc k) one d e = placed_at list k one d e

-- the rules of one package more are put
pub put_step : (members : List Placed) (order : List ℕ) (at : ℕ) (before new all : List Rules) (member : Placed) → order ≡ package_order_of members → 0 < at → at ≤ length order
    → member ≡ get_or members (get_or order (at - 1) 0) member → new ≡ before ++ (member.shown, member.package.autoload) ∷ []
    → before ++ rules_below (ordered members) at ≡ all → new ++ rules_below (ordered members) (at - 1) ≡ all
put_step members order at before new all member is some within here more so_far =
    let found = in_order members order (at - 1) is (omega arith) in
    let same : found.one ≡ member = sym (placed_at members (get_or order (at - 1) 0) found.one member found.member) ∙ sym here in
    let rest = rules_below (ordered members) (at - 1) in
    let one_on : at ≡ at - 1 + 1 = omega arith in
    let next : rules_below (ordered members) at ≡ (member.shown, member.package.autoload) ∷ rest =
    ap (λ n. rules_below (ordered members) n) one_on ∙ below_more (ordered members) (at - 1) (get_or order (at - 1) 0, found.one) found.at ∙ ap (λ (m : Placed). (m.shown, m.package.autoload) ∷ rest) same in
    ap (λ front. front ++ rest) more ∙ append_assoc before ((member.shown, member.package.autoload) ∷ []) rest ∙ ap (λ back. before ++ back) (sym next) ∙ so_far

-- the rows that the rules of sources give are those of the sources
rows_of_rules : (kind : RouteKind) (sources : List Source) → rows_by kind (rules_of sources) ≡ rows_of_kind kind sources
rows_of_rules kind [] = refl
rows_of_rules kind (source ∷ sources) = ap (λ rows. rows_by_rules kind (source.folder, source.rules) ++ rows) (rows_of_rules kind sources)

pub rows_by_sources : (kind : RouteKind) (sources : List Source) (rules : List Rules) → rules ≡ rules_of sources → rows_by kind rules ≡ rows_of_kind kind sources
rows_by_sources kind sources rules is = ap (rows_by kind) is ∙ rows_of_rules kind sources
