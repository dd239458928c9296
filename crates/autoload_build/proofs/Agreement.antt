-- Optimised tables open the same file as plain ones for each unambiguous class.
use Rattle.std.proofs.Common.{◌≡◌, ℕ, true, List, ◌++◌, Option, Some, None, Ok, inl, refl, sym, ◌∙◌, subst}
use Rattle.std.specs.Prelude.{Result}
use Rattle.std.specs.Option.{option_or}
use Rattle.tree_dev.specs.Trees.{FileTree}
use Rattle.class_paths.specs.Candidates.{candidates_of}
use Rattle.class_paths.specs.Search.{found_file, listed_file, search_file}
use Rattle.class_paths.proofs.Members.{Member}
use Rattle.class_lookup.specs.Lookup.{has_file, lookup_in}
use Rattle.class_walk.specs.Walks.{AreScansOf, Walked, class_scan}
use Rattle.class_walk.specs.declared.fault.WalkFault.{WalkFault}
use Rattle.class_walk.specs.declared.job.Scanned.{Scanned}
use Rattle.table_scan.specs.declared.types.Mode.TheVariants.{Optimised}
use Rattle.autoload_build.specs.Answers.{AreFound}
use Rattle.autoload_build.specs.BuiltTables.{classes_of, tables_of}
use Rattle.autoload_build.specs.ClassAgreement.{IsCandidateFile, IsDeclaredIn, IsShown, IsUnambiguous, file_in}
use Rattle.autoload_build.specs.Jobs.{Project, listed_jobs, patterns_of, row_jobs, rows}
use Rattle.autoload_build.proofs.FoundNames.{IsShownCandidate, contained, each_member, file_of_has, find_one, found_is_candidate, found_name, has_file_in}
use Rattle.autoload_build.proofs.LookedUp.{both_parts, listed_in_front}
use Rattle.autoload_build.proofs.RowWalks.{IsRowWalk, row_walks}
use Rattle.autoload_build.proofs.WalkedParts.{IsFoundBy, Parts, later_scans, scan_parts}

same_walked : (a b : Walked) (r : Result Walked WalkFault) → r ≡ Ok a → r ≡ Ok b → a ≡ b
same_walked a b r e f = cc

module _ (p : Project) (generation left : ℕ) (read shown : FileTree) (listed walked : List Scanned) (name : List ℕ) (found : AreFound read p left listed walked) (is : IsShown p read shown)
    (clear : IsUnambiguous shown (rows p) (classes_of listed) name) where
  abbrev paths : List (List (List ℕ))
  paths = candidates_of (rows p) name

  parts : Parts read (IsRowWalk p read shown) (listed_jobs p) (row_jobs p) (patterns_of p) left found.all
  parts = scan_parts read (IsRowWalk p read shown) (listed_jobs p) (row_jobs p) (patterns_of p) left found.all (row_walks p read shown is) found.walks

  scans : AreScansOf parts.more walked
  scans =
      let same = same_walked parts.front found.first (class_scan read (listed_jobs p) (patterns_of p) left) parts.is found.lists in
      later_scans parts.front.found parts.more listed walked (subst (λ (w : Walked). AreScansOf w.found listed) (sym same) found.listed_files) (subst (λ sources. AreScansOf sources (listed ++ walked)) parts.found found.files)

  candidate : (path : List (List ℕ)) → listed_file (classes_of walked) name ≡ Some path → IsShownCandidate (rows p) shown name path
  unfolding classes_of
  candidate path e = found_is_candidate p read shown name path
      (found_name (IsFoundBy read (IsRowWalk p read shown)) name path parts.more walked parts.each scans (λ first later. listed_in_front first later name) e)

  declared : (path : List (List ℕ)) → Member path paths → (bytes : List ℕ) → file_in shown path ≡ Some bytes → IsDeclaredIn shown (rows p) (classes_of listed) name path
  declared path there bytes has =
      let file : IsCandidateFile shown (rows p) name path bytes = record { candidate = contained paths path there; is_there = has } in
      inl (bytes, file, clear.declares path bytes file)

  -- the file that is walked is the one at which the class is looked for
  pub found_same : (path : List (List ℕ)) → listed_file (classes_of walked) name ≡ Some path → found_file (has_file shown) (rows p) name ≡ Some path
  found_same path e =
      let one = candidate path e in
      find_one (has_file shown) path paths (has_file_in shown path one.bytes one.there)
      (each_member (λ other. has_file shown other ≡ true → other ≡ path) paths (λ other there passes.
      let file = file_of_has shown other passes in
      clear.one other path (declared other there file.0 file.1) (declared path one.candidate one.bytes one.there)))
      one.candidate

  pub unambiguous : lookup_in (tables_of p Optimised generation (listed ++ walked)) (has_file shown) name ≡ search_file (has_file shown) (rows p) (classes_of listed) name
  unfolding search_file
  unambiguous = both_parts p generation listed walked (has_file shown) name ∙ by (listed_file (classes_of listed) name) (listed_file (classes_of walked) name) refl
    where
      by : (first second : Option (List (List ℕ))) → listed_file (classes_of walked) name ≡ second → option_or (option_or first second) (found_file (has_file shown) (rows p) name) ≡ option_or first (found_file (has_file shown) (rows p) name)
      by (Some path) second e = refl
      by None None e = refl
      by None (Some path) e = sym (found_same path e)
