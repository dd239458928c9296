-- Rows of manifests that were read have prefixes of their kind.
use Rattle.std.proofs.Common.{◌≡◌, ℕ, zero, suc, Bool, true, false, List, [], ◌∷◌, ◌++◌, map, Some, IsTrue, refl, sym, subst}
use Rattle.std.specs.Prelude.{reverse}
use Rattle.std.specs.List.{All, AllByRecursion, flat_map, slice_get}
use Rattle.std.proofs.lemmas.List.{reverse-append}
use Rattle.std.proofs.lemmas.List.Elements.{All-from_recursion}
use Rattle.manifest_read.specs.declared.types.Role.{Role}
use Rattle.manifest_read.specs.declared.types.Role.TheVariants.{Root, Member}
use Rattle.manifest_read.specs.declared.types.PathText.{PathText}
use Rattle.manifest_read.specs.declared.types.PrefixDirs.{PrefixDirs}
use Rattle.manifest_read.specs.declared.types.Autoload.{Autoload}
use Rattle.manifest_read.specs.declared.types.Manifest.{Manifest}
use Rattle.manifest_read.specs.Autoloads as autoloads
use Rattle.manifest_read.specs.WellFormed.{IsAutoload, IsPackage, IsManifest}
use Rattle.class_paths.specs.declared.types.RouteKind.{RouteKind}
use Rattle.class_paths.specs.declared.types.RouteKind.TheVariants.{Psr4, Psr0}
use Rattle.class_paths.specs.declared.types.Route.{Route}
use Rattle.class_paths.specs.Prefixes as prefixes
use Rattle.class_paths.specs.RowPath.{is_route_prefix}
use Rattle.psr_routes.specs.declared.types.Placed.{Placed}
use Rattle.psr_routes.specs.PackageOrder.{Numbered, ordered}
use Rattle.psr_routes.specs.Routes.{Source, root_sources, package_sources, sources_of, rows_of_prefix, rows_of_source, rows_of_kind, rows_of}
use Rattle.psr_routes.proofs.PackageLaws.{taken_at}

module _ {X : Type 0} (P : X → Type 0) where
  all_append : (xs ys : List X) → AllByRecursion P xs → AllByRecursion P ys → AllByRecursion P (xs ++ ys)
  all_append [] ys first second = second
  all_append (x ∷ xs) ys first second = (first.0, all_append xs ys first.1 second)

  all_reverse : (xs : List X) → AllByRecursion P xs → AllByRecursion P (reverse xs)
  all_reverse [] all = tt
  all_reverse (x ∷ xs) all = subst (AllByRecursion P) (sym (reverse-append (x ∷ []) xs)) (all_append (reverse xs) (x ∷ []) (all_reverse xs all.1) (all.0, tt))

  all_at : (xs : List X) (k : ℕ) (x : X) → AllByRecursion P xs → slice_get xs k ≡ Some x → P x
  all_at [] k x all e = absurd cc
  all_at (y ∷ xs) zero x all e = subst P (same_one y x e) all.0
    where
      same_one : (a b : X) → Some a ≡ Some b → a ≡ b
      same_one a b f = cc
  all_at (y ∷ xs) (suc k) x all e = all_at xs k x all.1 e

  all_from_each : (xs : List X) → ((k : ℕ) (x : X) → slice_get xs k ≡ Some x → P x) → AllByRecursion P xs
  all_from_each [] each = tt
  all_from_each (x ∷ xs) each = (each 0 x refl, all_from_each xs (λ k y e. each (suc k) y e))

all_map : {X Y : Type 0} (P : Y → Type 0) (f : X → Y) (xs : List X) → AllByRecursion (λ x. P (f x)) xs → AllByRecursion P (map f xs)
all_map P f [] all = tt
all_map P f (x ∷ xs) all = (all.0, all_map P f xs all.1)

all_flat : {X Y : Type 0} (P : Y → Type 0) (Q : X → Type 0) (f : X → List Y) → ((x : X) → Q x → AllByRecursion P (f x)) → (xs : List X) → AllByRecursion Q xs → AllByRecursion P (flat_map f xs)
all_flat P Q f each [] all = tt
all_flat P Q f each (x ∷ xs) all = all_append P (f x) (flat_map f xs) (each x all.0) (all_flat P Q f each xs all.1)

-- a row's prefix is one of its kind
abbrev HasPrefix : Route → Type 0
HasPrefix row = IsTrue (is_route_prefix row.kind row.prefix)

rows_have : (kind : RouteKind) (folder : List (List ℕ)) (dirs : PrefixDirs) → IsTrue (is_route_prefix kind dirs.prefix) → AllByRecursion HasPrefix (rows_of_prefix kind folder dirs)
rows_have kind folder dirs is = all_map HasPrefix (λ p. record { kind = kind; prefix = dirs.prefix; folder = folder ++ p.path }) dirs.folders (each dirs.folders)
  where
    each : (folders : List PathText) → AllByRecursion (λ p. IsTrue (is_route_prefix kind dirs.prefix)) folders
    each [] = tt
    each (p ∷ folders) = (is, each folders)

-- a prefix of PSR-4 is one
abbrev IsPrefix : PrefixDirs → Type 0
IsPrefix dirs = IsTrue (is_route_prefix Psr4 dirs.prefix)

abbrev AreRules : Source → Type 0
AreRules source = AllByRecursion IsPrefix source.rules.psr4

all_weaker : (P Q : PrefixDirs → Type 0) (list : List PrefixDirs) → AllByRecursion P list → ((d : PrefixDirs) → P d → Q d) → AllByRecursion Q list
all_weaker P Q [] all so = tt
all_weaker P Q (d ∷ list) all so = (so d all.0, all_weaker P Q list all.1 so)

-- so are those of rules that were read: what manifests call a prefix of PSR-4 is the same
rules_read : (role : Role) (rules : Autoload) → IsAutoload role rules → AllByRecursion IsPrefix rules.psr4
unfolding autoloads.is_prefix autoloads.is_psr4_prefix prefixes.is_psr4_prefix
rules_read role rules read = all_weaker _ IsPrefix rules.psr4 read.psr4 (λ d is. is.prefix)

no_condition : (list : List PrefixDirs) → AllByRecursion (λ (dirs : PrefixDirs). IsTrue (is_route_prefix Psr0 dirs.prefix)) list
no_condition [] = tt
no_condition (d ∷ list) = (refl, no_condition list)

source_rows : (kind : RouteKind) (source : Source) → AreRules source → AllByRecursion HasPrefix (rows_of_source kind source)
source_rows Psr4 source are = all_flat HasPrefix IsPrefix (rows_of_prefix Psr4 source.folder) (λ dirs is. rows_have Psr4 source.folder dirs is) source.rules.psr4 are
source_rows Psr0 source are = all_flat HasPrefix (λ (dirs : PrefixDirs). IsTrue (is_route_prefix Psr0 dirs.prefix)) (rows_of_prefix Psr0 source.folder) (λ dirs is. rows_have Psr0 source.folder dirs is) source.rules.psr0 (no_condition source.rules.psr0)

module _ (project : List (List ℕ)) (root : Manifest) (members : List Placed) (read : IsManifest Root root) (each : AllByRecursion (λ (one : Placed). IsPackage Member one.package) members) where
  root_rules : (dev : Bool) → AllByRecursion AreRules (root_sources project root dev)
  root_rules true = (rules_read Root root.package.autoload read.parts.autoload, (rules_read Root root.autoload_dev read.autoload_dev, tt))
  root_rules false = (rules_read Root root.package.autoload read.parts.autoload, tt)

  package_rules : AllByRecursion AreRules (package_sources members)
  package_rules = all_map AreRules (λ one. record { owner = Some one.1; folder = one.1.shown; rules = one.1.package.autoload }) (ordered members)
      (all_from_each (λ (one : Numbered). AreRules (record { owner = Some one.1; folder = one.1.shown; rules = one.1.package.autoload })) (ordered members) (λ k one e.
      rules_read Member one.1.package.autoload (all_at (λ (p : Placed). IsPackage Member p.package) members one.0 one.1 each (taken_at members k one e)).autoload))

  all_sources : (dev : Bool) → AllByRecursion AreRules (sources_of project root members dev)
  unfolding sources_of
  all_sources dev = all_append AreRules (root_sources project root dev) (reverse (package_sources members)) (root_rules dev) (all_reverse AreRules (package_sources members) package_rules)

  kind_rows : (kind : RouteKind) (dev : Bool) → AllByRecursion HasPrefix (rows_of_kind kind (sources_of project root members dev))
  kind_rows kind dev = all_flat HasPrefix AreRules (rows_of_source kind) (λ source are. source_rows kind source are) (sources_of project root members dev) (all_sources dev)

  pub all_rows : (dev : Bool) → All HasPrefix (rows_of project root members dev)
  unfolding rows_of
  all_rows dev = All-from_recursion HasPrefix (rows_of project root members dev) (all_append HasPrefix (rows_of_kind Psr4 (sources_of project root members dev)) (rows_of_kind Psr0 (sources_of project root members dev)) (kind_rows Psr4 dev) (kind_rows Psr0 dev))
