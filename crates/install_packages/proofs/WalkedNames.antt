-- A name that is no class's is found by no walk of the folder of a row.
use Rattle.std.proofs.Common.{◌≡◌, ℕ, Bool, true, false, List, ◌++◌, Option, Some, None, Ok, refl, sym, ap, subst, ◌∙◌}
use Rattle.std.specs.Prelude.{◌&&◌, Result}
use Rattle.std.proofs.lemmas.Bool.{false≢true}
use Rattle.path_name.specs.Orders.{paths_are_equal}
use Rattle.tree_dev.specs.Trees.{FileTree}
use Rattle.class_paths.specs.ClassNames.{is_class_name}
use Rattle.class_paths.specs.RowPath.{begins, is_route_prefix, path_below}
use Rattle.class_paths.specs.Search.{listed_file}
use Rattle.class_paths.specs.declared.types.RouteKind.{RouteKind}
use Rattle.class_paths.specs.declared.types.RouteKind.TheVariants.{Psr4, Psr0}
use Rattle.class_walk.specs.Walks.{AreScansOf, Walked, class_scan, counts}
use Rattle.class_walk.specs.declared.fault.WalkFault.{WalkFault}
use Rattle.class_walk.specs.declared.job.Scanned.{Scanned}
use Rattle.autoload_build.specs.Answers.{AreFound}
use Rattle.autoload_build.specs.BuiltTables.{classes_of}
use Rattle.autoload_build.specs.ClassAgreement.{IsShown}
use Rattle.autoload_build.specs.Jobs.{Project, listed_jobs, patterns_of, row_jobs, rule_of}
use Rattle.autoload_build.proofs.FoundNames.{found_name}
use Rattle.autoload_build.proofs.LookedUp.{listed_in_front}
use Rattle.autoload_build.proofs.RowWalks.{IsRowWalk, row_walks}
use Rattle.autoload_build.proofs.WalkedParts.{IsFoundBy, Parts, later_scans, scan_parts}

-- whether a name is a class's
pub either_name : {P : Type 0} (name : List ℕ) → (is_class_name name ≡ true → P) → (is_class_name name ≡ false → P) → P
either_name {P} name named other = by (is_class_name name) refl
  where
    by : (b : Bool) → is_class_name name ≡ b → P
    by true e = named e
    by false e = other e

same_walked : (one other : Walked) (r : Result Walked WalkFault) → r ≡ Ok one → r ≡ Ok other → one ≡ other
same_walked one other r e f = cc

first_of_four : (a b d e : Bool) → a && b && d && e ≡ true → a ≡ true
first_of_four true b d e all = refl
first_of_four false b d e all = absurd cc

counted_named : (kind : RouteKind) (prefix : List ℕ) (tail : List (List ℕ)) (name : List ℕ) → counts (rule_of kind prefix) tail name ≡ true → is_class_name name ≡ true
counted_named Psr4 prefix tail name e = first_of_four (is_class_name name) (is_route_prefix Psr4 prefix) (begins prefix name) (paths_are_equal (path_below Psr4 prefix name) tail) e
counted_named Psr0 prefix tail name e = first_of_four (is_class_name name) (is_route_prefix Psr0 prefix) (begins prefix name) (paths_are_equal (path_below Psr0 prefix name) tail) e

module _ (p : Project) (read shown : FileTree) (left : ℕ) (listed walked : List Scanned) (name : List ℕ) (found : AreFound read p left listed walked) (is : IsShown p read shown) where
  parts : Parts read (IsRowWalk p read shown) (listed_jobs p) (row_jobs p) (patterns_of p) left found.all
  parts = scan_parts read (IsRowWalk p read shown) (listed_jobs p) (row_jobs p) (patterns_of p) left found.all (row_walks p read shown is) found.walks

  scans : AreScansOf parts.more walked
  scans =
      let same = same_walked parts.front found.first (class_scan read (listed_jobs p) (patterns_of p) left) parts.is found.lists in
      later_scans parts.front.found parts.more listed walked (subst (λ (w : Walked). AreScansOf w.found listed) (sym same) found.listed_files) (subst (λ sources. AreScansOf sources (listed ++ walked)) parts.found found.files)

  walked_named : (path : List (List ℕ)) → listed_file (classes_of walked) name ≡ Some path → is_class_name name ≡ true
  unfolding classes_of
  walked_named path e =
      let one = found_name (IsFoundBy read (IsRowWalk p read shown)) name path parts.more walked parts.each scans (λ first later. listed_in_front first later name) e in
      let walk = one.is.0 in
      counted_named walk.row.kind walk.row.prefix one.source.tail name (ap (λ rule. counts rule one.source.tail name) (sym walk.rule) ∙ one.counted)

  pub none_walked : is_class_name name ≡ false → listed_file (classes_of walked) name ≡ None
  none_walked other = by (listed_file (classes_of walked) name) refl
    where
      by : (file : Option (List (List ℕ))) → listed_file (classes_of walked) name ≡ file → listed_file (classes_of walked) name ≡ None
      by None e = e
      by (Some path) e = absurd (false≢true (sym other ∙ walked_named path e))
