-- Authoritative tables open the same file as plain ones for each unambiguous class in reach of the scan.
use Rattle.std.proofs.Common.{◌≡◌, ℕ, Bool, true, false, cond, List, [], ◌∷◌, ◌++◌, filter, Option, Some, None, inl, inr, refl, sym, ap, ◌∙◌, subst}
use Rattle.std.specs.Prelude.{codes, find, IsTrue, ◌&&◌}
use Rattle.std.specs.List.{Contains, flat_map, list_any}
use Rattle.std.specs.Option.{option_map, option_or}
use Rattle.std.proofs.lemmas.List.Sorted.{Contains-permutation, IsPermutation-sym}
use Rattle.std.proofs.lemmas.List.Elements.{recursion_from_All}
use Rattle.path_name.specs.Orders.{byte_equality, bytes_are_equal, path_equality, paths_are_equal}
use Rattle.php_decl.specs.Declarations.{names_of}
use Rattle.tree_dev.specs.Projects.{bytes_of, is_within, vendor_path}
use Rattle.tree_dev.specs.Trees.{FileTree, IsTree, entry_at}
use Rattle.tree_dev.specs.declared.entry.Entry.{Entry}
use Rattle.tree_dev.specs.declared.entry.Entry.TheVariants as entries
use Rattle.class_paths.specs.Candidates.{candidates_of, rows_for, tried_rows}
use Rattle.class_paths.specs.ClassNames.{IsClassName, is_class_name}
use Rattle.class_paths.specs.RowPath.{begins, is_route_prefix, path_below, php_ending, row_path_of}
use Rattle.class_paths.specs.Search.{Listed, found_file, listed_file, search_file}
use Rattle.class_paths.specs.declared.types.Route.{Route}
use Rattle.class_paths.specs.declared.types.RouteKind.{RouteKind}
use Rattle.class_paths.specs.declared.types.RouteKind.TheVariants.{Psr4, Psr0}
use Rattle.class_paths.proofs.Members.{Member, all_member, filter_member, member_any, member_filter}
use Rattle.class_paths.proofs.TriedRows.{tried_are_begun}
use Rattle.psr_routes.proofs.RowPrefixes.{all_rows}
use Rattle.class_lookup.specs.Lookup.{has_file, lookup_in}
use Rattle.class_walk.specs.Patterns.{is_excluded}
use Rattle.class_walk.specs.Walks.{AreScansOf, IsScanOf, Source, class_scan, counts, ends_in, has_ending, is_row_file, is_scanned, is_skipped, last_of}
use Rattle.class_walk.specs.declared.job.Scanned.{Scanned}
use Rattle.table_scan.specs.declared.types.Mode.TheVariants.{Authoritative}
use Rattle.autoload_build.specs.Answers.{AreFound}
use Rattle.autoload_build.specs.BuiltTables.{classes_in, classes_of, tables_of}
use Rattle.autoload_build.specs.ClassAgreement.{Declares, IsCandidateFile, IsInScanReach, IsShown, IsUnambiguous, file_in, root_rows}
use Rattle.autoload_build.specs.Jobs.{HasReadManifests, Project, listed_jobs, patterns_of, row_jobs, rows, rule_of}
use Rattle.autoload_build.proofs.Agreement.{found_same}
use Rattle.autoload_build.proofs.FoundNames.{contained, file_of_has, member, row_leads}
use Rattle.autoload_build.proofs.FullWalks.{IsIn, IsScannedFile, both_hold, jobs_have, source_at}
use Rattle.autoload_build.proofs.LookedUp.{authoritative, classes_in_front, listed_in_front}
use Rattle.autoload_build.proofs.ListMembers.{any_passes, flat_member, mapped_member, member_behind, unmapped}
use Rattle.autoload_build.proofs.ReadRows.{IsReadRow, row_read}
use Rattle.autoload_build.proofs.RowTails.{EndsInPhp, last_is, row_tail, tail_ends, tail_shown}
use Rattle.autoload_build.proofs.SomeCut.{never_uncut}

-- ---- each candidate is that of a row

pub record IsLedBy (routes : List Route) (name : List ℕ) (path : List (List ℕ)) : Type 0 where
  pub row : Route
  pub is_row : Member row routes
  pub begun : begins row.prefix name ≡ true
  pub led : row_path_of row name ≡ path

pub candidate_row : (routes : List Route) (name : List ℕ) (path : List (List ℕ)) → Member path (candidates_of routes name) → IsLedBy routes name path
unfolding candidates_of
candidate_row routes name path there =
    let one = unmapped (λ row. row_path_of row name) (tried_rows routes name) path there in
    let tried = contained (tried_rows routes name) one.one one.is_one in
    let begun = Contains-permutation (tried_rows routes name) (rows_for routes name) one.one (IsPermutation-sym (rows_for routes name) (tried_rows routes name) (tried_are_begun routes name)) tried in
    let both = member_filter (λ (row : Route). begins row.prefix name) routes one.one (member (rows_for routes name) one.one begun) in
    record { row = one.one; is_row = both.0; begun = both.1; led = one.made }

-- ---- a name that counts and is declared is found

declared_found : (source : Source) (scanned : Scanned) (name : List ℕ) → IsScanOf source scanned → Declares source.bytes name → counts source.search.job.rule source.tail name ≡ true
    → list_any (λ n. bytes_are_equal n name) scanned.names ≡ true
declared_found source scanned name is declares counted = by (list_any (λ n. bytes_are_equal n name) scanned.names) refl
  where
    by : (b : Bool) → list_any (λ n. bytes_are_equal n name) scanned.names ≡ b → b ≡ true
    by true e = refl
    by false e = absurd (never_uncut source.bytes (λ lexemes cut.
        let kept = filter_member (counts source.search.job.rule source.tail) (names_of lexemes) name (member (names_of lexemes) name (declares lexemes cut)) counted in
        let some = member_any (λ n. bytes_are_equal n name) (filter (counts source.search.job.rule source.tail) (names_of lexemes)) name kept (byte_equality.refl name) in
        let both : true ≡ false = sym some ∙ ap (list_any (λ n. bytes_are_equal n name)) (sym (is.names lexemes cut)) ∙ e in
        cc))

-- what was found in a file
pub record IsScannedFrom (source : Source) (found : List Scanned) : Type 0 where
  pub scanned : Scanned
  pub within : Member scanned found
  pub is : IsScanOf source scanned

scan_of : (source : Source) (sources : List Source) (found : List Scanned) → AreScansOf sources found → Member source sources → IsScannedFrom source found
scan_of source [] found scans there = absurd there
scan_of source (first ∷ sources) [] scans there = absurd scans
scan_of source (first ∷ sources) (scanned ∷ found) scans (inl same) = record { scanned = scanned; within = inl refl; is = subst (λ s. IsScanOf s scanned) same scans.0 }
scan_of source (first ∷ sources) (scanned ∷ found) scans (inr there) = let rest = scan_of source sources found scans.1 there in record { scanned = rest.scanned; within = inr rest.within; is = rest.is }

-- a list with an item that passes has a first one
not_none : {X : Type 0} (test : X → Bool) (x : X) (xs : List X) → Member x xs → test x ≡ true → find test xs ≡ None → ⊥
not_none test x [] there passes e = there
not_none test x (y ∷ xs) there passes e = by (test y) refl there e (λ later none. not_none test x xs later passes none)
  where
    by : (b : Bool) → test y ≡ b → Member x (y ∷ xs) → cond b (Some y) (find test xs) ≡ None → (Member x xs → find test xs ≡ None → ⊥) → ⊥
    by true f found none rest = cc
    by false f (inl same) none rest = let both : true ≡ false = sym passes ∙ ap test (sym same) ∙ f in cc
    by false f (inr later) none rest = rest later none

no_item : {X Y : Type 0} (f : X → Y) (item : Option X) → option_map f item ≡ None → item ≡ None
no_item f None e = refl
no_item f (Some x) e = absurd cc

-- a class that is among those that were found
found_class : (name : List ℕ) (scanned : Scanned) (found : List Scanned) → Member scanned found → list_any (λ n. bytes_are_equal n name) scanned.names ≡ true → listed_file (classes_of found) name ≡ None → ⊥
unfolding classes_of
found_class name scanned found there some none =
    let one = any_passes (λ n. bytes_are_equal n name) scanned.names some in
    let class = λ (n : List ℕ). let pair : Listed = (n, scanned.shown) in pair in
    let within = flat_member classes_in found scanned (class one.one) there (mapped_member class scanned.names one.one one.within) in
    not_none (λ (entry : Listed). bytes_are_equal entry.0 name) (class one.one) (flat_map classes_in found) within one.passes
    (no_item (λ (entry : Listed). entry.1) (find (λ (entry : Listed). bytes_are_equal entry.0 name) (flat_map classes_in found)) none)

none_found : {X : Type 0} (test : X → Bool) (xs : List X) → ((x : X) → Member x xs → test x ≡ true → ⊥) → find test xs ≡ None
none_found test [] never = refl
none_found test (x ∷ xs) never = by (test x) refl (none_found test xs (λ y there. never y (inr there)))
  where
    by : (b : Bool) → test x ≡ b → find test xs ≡ None → cond b (Some x) (find test xs) ≡ None
    by true e rest = absurd (never x (inl refl) e)
    by false e rest = rest

-- ---- a file at which a class is looked for is scanned

file_there : (entry : Option Entry) (bytes : List ℕ) → bytes_of entry ≡ Some bytes → entry ≡ Some (entries.File bytes)
file_there None bytes e = absurd cc
file_there (Some (entries.File some)) bytes e = let same : some ≡ bytes = cc in ap (λ one. Some (entries.File one)) same
file_there (Some entries.Folder) bytes e = absurd cc
file_there (Some entries.Other) bytes e = absurd cc

no_ending : (front : List (List ℕ)) (last : List ℕ) → [] ≡ front ++ last ∷ [] → ⊥
no_ending [] last e = cc
no_ending (first ∷ front) last e = cc

below_it : (tail : List (List ℕ)) → EndsInPhp tail → (first : List ℕ) × (rest : List (List ℕ)) × (tail ≡ first ∷ rest)
below_it [] ends = absurd (no_ending ends.front (ends.part ++ php_ending) ends.is)
below_it (first ∷ rest) ends = (first, rest, refl)

rule_ending : (kind : RouteKind) (prefix name : List ℕ) → ends_in (codes ".php") name ≡ true → has_ending (rule_of kind prefix) name ≡ true
rule_ending Psr4 prefix name e = e
rule_ending Psr0 prefix name e = e

rule_counts : (kind : RouteKind) (prefix : List ℕ) (tail : List (List ℕ)) (name : List ℕ) → is_row_file kind prefix tail name ≡ true → counts (rule_of kind prefix) tail name ≡ true
rule_counts Psr4 prefix tail name e = e
rule_counts Psr0 prefix tail name e = e

four_hold : (a b c d : Bool) → a ≡ true → b ≡ true → c ≡ true → d ≡ true → (a && b && c && d) ≡ true
four_hold a b c d e f g h = rw (e, f, g, h) refl

module _ (p : Project) (generation left : ℕ) (read shown : FileTree) (listed walked : List Scanned) (name : List ℕ) (tree : IsTree read) (manifests : HasReadManifests p) (found : AreFound read p left listed walked)
    (is : IsShown p read shown) (is_name : IsClassName name) (clear : IsUnambiguous shown (rows p) (classes_of listed) name) (reach : IsInScanReach shown p name) where
  abbrev paths : List (List (List ℕ))
  paths = candidates_of (rows p) name

  abbrev below : Route → List (List ℕ)
  below row = path_below row.kind row.prefix name

  module _ (path : List (List ℕ)) (bytes : List ℕ) (file : IsCandidateFile shown (rows p) name path bytes) where
    led : IsLedBy (rows p) name path
    led = candidate_row (rows p) name path (member paths path file.candidate)

    here : path ≡ led.row.folder ++ below led.row
    unfolding row_path_of
    here = sym led.led

    ends : EndsInPhp (below led.row)
    ends = row_tail led.row.kind led.row.prefix name

    one : IsReadRow p read shown led.row
    one = row_read p read shown is led.row led.is_row

    of_root : Member led.row (root_rows p) → is_within (vendor_path p.at) (led.row.folder ++ below led.row) ≡ false
    of_root there =
        let candidate = contained (candidates_of (root_rows p) name) (row_path_of led.row name) (row_leads (root_rows p) name led.row there led.begun) in
        ap (is_within (vendor_path p.at)) (sym here) ∙ reach.own path bytes (record { candidate = subst (Contains (candidates_of (root_rows p) name)) led.led candidate; is_there = file.is_there })

    reads : (is_skipped one.job.skip (one.job.at ++ below led.row) ≡ false) × (file_in read (one.job.at ++ below led.row) ≡ Some bytes)
    reads = one.reads (below led.row) bytes (ap (file_in shown) (sym here) ∙ file.is_there) (tail_ends led.row.folder (below led.row) ends) of_root

    last_same : last_of path ≡ last_of (below led.row)
    last_same = ap last_of here ∙ last_is led.row.folder (below led.row) ends ∙ sym (last_is [] (below led.row) ends)

    passes : (number : ℕ) → is_scanned (record { number = number; job = one.job; exclude = patterns_of p }) (below led.row) ≡ true
    unfolding is_scanned
    passes number = both_hold (has_ending one.job.rule (last_of (one.job.at ++ below led.row))) (is_excluded (patterns_of p) (one.job.shown ++ below led.row))
        (ap (λ rule. has_ending rule (last_of (one.job.at ++ below led.row))) one.rule ∙ rule_ending led.row.kind led.row.prefix (last_of (one.job.at ++ below led.row)) (tail_ends one.job.at (below led.row) ends))
        (ap (λ folder. is_excluded (patterns_of p) (folder ++ below led.row)) one.folder ∙ ap (is_excluded (patterns_of p)) (sym here) ∙ reach.kept path bytes file)

    scanned : IsScannedFile read (patterns_of p) one.job (below led.row) bytes
    scanned =
        let tail = below_it (below led.row) ends in
        record {
          first = tail.0;
          rest = tail.1;
          below = tail.2;
          there = file_there (entry_at read (one.job.at ++ below led.row)) bytes reads.1;
          kept = reads.0;
          shown = tail_shown led.row.kind led.row.prefix name is_name (λ e. reach.named path bytes file (last_same ∙ e));
          scanned = passes;
        }

    counted : counts one.job.rule (below led.row) name ≡ true
    counted = ap (λ rule. counts rule (below led.row) name) one.rule ∙ rule_counts led.row.kind led.row.prefix (below led.row) name
        (four_hold (is_class_name name) (is_route_prefix led.row.kind led.row.prefix) (begins led.row.prefix name) (paths_are_equal (below led.row) (below led.row)) is_name
        (all_member (λ (row : Route). IsTrue (is_route_prefix row.kind row.prefix)) (rows p) led.row (recursion_from_All (λ (row : Route). IsTrue (is_route_prefix row.kind row.prefix)) (rows p) (all_rows p.at p.root p.members manifests.root manifests.members p.dev)) led.is_row)
        led.begun (path_equality.refl (below led.row)))

    found_somewhere : (number : ℕ) × Member (source_at read tree (patterns_of p) one.job (below led.row) bytes scanned number) found.all.found
    unfolding class_scan
    found_somewhere = subst (IsIn read tree (patterns_of p) one.job (below led.row) bytes scanned) found.walks
        (jobs_have read tree (patterns_of p) one.job (below led.row) bytes scanned 0 (listed_jobs p ++ row_jobs p) (record { found = []; left = left }) (member_behind one.job (listed_jobs p) (row_jobs p) one.is_job))

    in_map : listed_file (classes_of (listed ++ walked)) name ≡ None → ⊥
    in_map none =
        let source = source_at read tree (patterns_of p) one.job (below led.row) bytes scanned found_somewhere.0 in
        let got = scan_of source found.all.found (listed ++ walked) found.files found_somewhere.1 in
        found_class name got.scanned (listed ++ walked) got.within (declared_found source got.scanned name got.is (clear.declares path bytes file) counted) none

  parts : listed_file (classes_of (listed ++ walked)) name ≡ option_or (listed_file (classes_of listed) name) (listed_file (classes_of walked) name)
  parts = ap (λ all. listed_file all name) (classes_in_front listed walked) ∙ listed_in_front (classes_of listed) (classes_of walked) name

  none_there : listed_file (classes_of listed) name ≡ None → listed_file (classes_of walked) name ≡ None → found_file (has_file shown) (rows p) name ≡ None
  none_there e f = none_found (has_file shown) paths (λ path there passes.
      let file = file_of_has shown path passes in
      in_map path file.0 (record { candidate = contained paths path there; is_there = file.1 }) (parts ∙ ap (λ first. option_or first (listed_file (classes_of walked) name)) e ∙ f))

  pub in_reach : lookup_in (tables_of p Authoritative generation (listed ++ walked)) (has_file shown) name ≡ search_file (has_file shown) (rows p) (classes_of listed) name
  unfolding search_file
  in_reach = authoritative p generation (listed ++ walked) (has_file shown) name ∙ parts ∙ by (listed_file (classes_of listed) name) (listed_file (classes_of walked) name) refl refl
    where
      by : (first second : Option (List (List ℕ))) → listed_file (classes_of listed) name ≡ first → listed_file (classes_of walked) name ≡ second → option_or first second ≡ option_or first (found_file (has_file shown) (rows p) name)
      by (Some path) second e f = refl
      by None None e f = sym (none_there e f)
      by None (Some path) e f = sym (found_same p generation left read shown listed walked name found is clear path f)
