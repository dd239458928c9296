-- The names that walks of rows find, and the files at which their classes are looked for.
use Rattle.std.proofs.Common.{◌≡◌, ℕ, zero, suc, ◌<◌, Bool, true, false, cond, ◌&&◌, ◌||◌, List, [], ◌∷◌, ◌++◌, length, map, filter, Option, Some, None, inl, inr, refl, sym, ap, ◌∙◌, subst, arith}
use Rattle.std.specs.Prelude.{codes, find, not}
use Rattle.std.specs.List.{AllByRecursion, Contains, flat_map, list_any, slice_index_or}
use Rattle.std.specs.Option.{option_map, option_or}
use Rattle.std.proofs.lemmas.List.Elements.{Contains-append_left, Contains-append_right, Contains-push}
use Rattle.std.proofs.lemmas.List.Sorted.{Contains-permutation}
use Rattle.path_name.specs.Orders.{bytes_are_equal, paths_are_equal}
use Rattle.php_decl.specs.Declarations.{names_of}
use Rattle.tree_dev.specs.Trees.{FileTree, entry_at, kind_at, kind_of}
use Rattle.tree_dev.specs.Projects.{bytes_of}
use Rattle.tree_dev.specs.declared.entry.Entry.{Entry}
use Rattle.tree_dev.specs.declared.entry.Entry.TheVariants as entries
use Rattle.class_paths.specs.Candidates.{candidates_of, rows_for, tried_rows}
use Rattle.class_paths.specs.ClassNames.{is_class_name}
use Rattle.class_paths.specs.RowPath.{begins, is_route_prefix, path_below, row_path_of}
use Rattle.class_paths.specs.Search.{Listed, listed_file}
use Rattle.class_paths.specs.declared.types.Route.{Route}
use Rattle.class_paths.specs.declared.types.RouteKind.{RouteKind}
use Rattle.class_paths.specs.declared.types.RouteKind.TheVariants.{Psr4, Psr0}
use Rattle.class_paths.proofs.Members.{Member, filter_member}
use Rattle.class_paths.proofs.TriedRows.{tried_are_begun}
use Rattle.class_lookup.specs.Lookup.{has_file, is_file_kind}
use Rattle.class_walk.specs.Patterns.{is_excluded}
use Rattle.class_walk.specs.Walks.{AreScansOf, IsScanOf, Source, counts, ends_in, has_ending, is_row_file, is_scanned, last_of}
use Rattle.class_walk.specs.declared.job.Scanned.{Scanned}
use Rattle.autoload_build.specs.BuiltTables.{classes_in}
use Rattle.autoload_build.specs.ClassAgreement.{file_in}
use Rattle.autoload_build.specs.Jobs.{Project, rows, rule_of}
use Rattle.autoload_build.proofs.KeyGroups.{equal_bytes}
use Rattle.autoload_build.proofs.ListMembers.{mapped_member}
use Rattle.autoload_build.proofs.RowWalks.{IsRowWalk}
use Rattle.autoload_build.proofs.SomeCut.{never_uncut}
use Rattle.autoload_build.proofs.WalkedParts.{IsFoundBy}

-- ---- what stands in a list

module _ {X : Type 0} where
  pub contained : (xs : List X) (x : X) → Member x xs → Contains xs x
  contained [] x there = absurd there
  contained (y ∷ xs) x (inl e) = subst (λ z. Contains (y ∷ xs) z) e (Contains-append_left (y ∷ []) xs y (Contains-push [] y))
  contained (y ∷ xs) x (inr there) = Contains-append_right (y ∷ []) xs x (contained xs x there)

  member_at : (xs : List X) (x : X) (k : ℕ) → k < length xs → slice_index_or xs k x ≡ x → Member x xs
  member_at [] x k lt e = absurd (omega (arith, lt))
  member_at (y ∷ xs) x zero lt e = inl e
  member_at (y ∷ xs) x (suc k) lt e = inr (member_at xs x k (omega (arith, lt)) e)

  pub member : (xs : List X) (x : X) → Contains xs x → Member x xs
  member xs x found = member_at xs x found.0 found.1 found.2

  pub each_member : (P : X → Type 0) (xs : List X) → ((x : X) → Member x xs → P x) → AllByRecursion P xs
  each_member P [] each = tt
  each_member P (x ∷ xs) each = (each x (inl refl), each_member P xs (λ y there. each y (inr there)))

  -- the first that passes, where only one item can
  pub find_one : (test : X → Bool) (x : X) (xs : List X) → test x ≡ true → AllByRecursion (λ y. test y ≡ true → y ≡ x) xs → Member x xs → find test xs ≡ Some x
  find_one test x [] passes one there = absurd there
  find_one test x (y ∷ xs) passes one there = by (test y) refl there (λ later. find_one test x xs passes one.1 later)
    where
      apart : (b : Bool) → test y ≡ b → b ≡ false → y ≡ x → ⊥
      apart b e f same = let both : true ≡ false = sym passes ∙ ap test (sym same) ∙ e ∙ f in cc

      by : (b : Bool) → test y ≡ b → Member x (y ∷ xs) → (Member x xs → find test xs ≡ Some x) → cond b (Some y) (find test xs) ≡ Some x
      by true e found rest = ap Some (one.0 e)
      by false e (inl same) rest = absurd (apart false e refl same)
      by false e (inr later) rest = rest later

-- ---- a row whose prefix begins a name leads it to a candidate

pub row_leads : (routes : List Route) (name : List ℕ) (row : Route) → Member row routes → begins row.prefix name ≡ true → Member (row_path_of row name) (candidates_of routes name)
unfolding candidates_of
row_leads routes name row there e =
    let begun = contained (rows_for routes name) row (filter_member (λ (r : Route). begins r.prefix name) routes row there e) in
    let tried = Contains-permutation (rows_for routes name) (tried_rows routes name) row (tried_are_begun routes name) begun in
    mapped_member (λ r. row_path_of r name) (tried_rows routes name) row (member (tried_rows routes name) row tried)

-- ---- names that count

kept_passes : (test : List ℕ → Bool) (names : List (List ℕ)) (name : List ℕ) → test name ≡ false → list_any (λ n. bytes_are_equal n name) (filter test names) ≡ false
kept_passes test [] name e = refl
kept_passes test (n ∷ names) name e = by (test n) refl (kept_passes test names name e)
  where
    differ : (b : Bool) → bytes_are_equal n name ≡ b → test n ≡ true → b ≡ false
    differ true same passes = let both : true ≡ false = sym passes ∙ ap test (equal_bytes n name same) ∙ e in absurd cc
    differ false same passes = refl

    by : (b : Bool) → test n ≡ b → list_any (λ m. bytes_are_equal m name) (filter test names) ≡ false → list_any (λ m. bytes_are_equal m name) (cond b (n ∷ filter test names) (filter test names)) ≡ false
    by true passes rest = rw (differ (bytes_are_equal n name) refl passes) rest
    by false passes rest = rest

-- a name that was found in a file counts there
pub found_counts : (source : Source) (scanned : Scanned) (name : List ℕ) → IsScanOf source scanned → list_any (λ n. bytes_are_equal n name) scanned.names ≡ true → counts source.search.job.rule source.tail name ≡ true
found_counts source scanned name is found = by (counts source.search.job.rule source.tail name) refl
  where
    by : (b : Bool) → counts source.search.job.rule source.tail name ≡ b → b ≡ true
    by true e = refl
    by false e = absurd (never_uncut source.bytes (λ lexemes cut.
        let none = ap (list_any (λ n. bytes_are_equal n name)) (is.names lexemes cut) ∙ kept_passes (counts source.search.job.rule source.tail) (names_of lexemes) name e in
        let both : true ≡ false = sym found ∙ none in
        cc))

-- ---- what is found of a name

pub record IsFoundName (P : Source → Type 0) (name : List ℕ) (path : List (List ℕ)) : Type 0 where
  pub source : Source
  pub is : P source
  pub counted : counts source.search.job.rule source.tail name ≡ true
  pub shown : path ≡ source.search.job.shown ++ source.tail

in_file : (shown : List (List ℕ)) (names : List (List ℕ)) (name : List ℕ) (path : List (List ℕ)) → listed_file (map (λ n. (n, shown)) names) name ≡ Some path → (list_any (λ n. bytes_are_equal n name) names ≡ true) × (path ≡ shown)
in_file shown [] name path e = absurd cc
in_file shown (n ∷ names) name path e = by (bytes_are_equal n name) (λ f. in_file shown names name path f) e
  where
    by : (b : Bool) → (listed_file (map (λ m. (m, shown)) names) name ≡ Some path → (list_any (λ m. bytes_are_equal m name) names ≡ true) × (path ≡ shown))
        → option_map (λ (entry : Listed). entry.1) (cond b (Some (n, shown)) (find (λ entry. bytes_are_equal entry.0 name) (map (λ m. (m, shown)) names))) ≡ Some path → ((b || list_any (λ m. bytes_are_equal m name) names) ≡ true) × (path ≡ shown)
    by true rest f = let same : shown ≡ path = cc in (refl, sym same)
    by false rest f = rest f

pub found_name : (P : Source → Type 0) (name : List ℕ) (path : List (List ℕ)) (sources : List Source) (found : List Scanned) → AllByRecursion P sources → AreScansOf sources found
    → ((first later : List Listed) → listed_file (first ++ later) name ≡ option_or (listed_file first name) (listed_file later name)) → listed_file (flat_map classes_in found) name ≡ Some path → IsFoundName P name path
found_name P name path [] [] all scans parts e = absurd cc
found_name P name path [] (scanned ∷ found) all scans parts e = absurd scans
found_name P name path (source ∷ sources) [] all scans parts e = absurd scans
found_name P name path (source ∷ sources) (scanned ∷ found) all scans parts e =
    by (listed_file (classes_in scanned) name) refl (sym (parts (classes_in scanned) (flat_map classes_in found)) ∙ e) (λ f. found_name P name path sources found all.1 scans.1 parts f)
  where
    by : (first : Option (List (List ℕ))) → listed_file (classes_in scanned) name ≡ first → option_or first (listed_file (flat_map classes_in found) name) ≡ Some path
        → (listed_file (flat_map classes_in found) name ≡ Some path → IsFoundName P name path) → IsFoundName P name path
    by None f g rest = rest g
    by (Some at) f g rest =
        let here = in_file scanned.shown scanned.names name path (f ∙ g) in
        record { source = source; is = all.0; counted = found_counts source scanned name scans.0 here.0; shown = here.1 ∙ scans.0.shown }

-- ---- files that are there

pub has_file_in : (t : FileTree) (path : List (List ℕ)) (bytes : List ℕ) → file_in t path ≡ Some bytes → has_file t path ≡ true
unfolding kind_at
has_file_in t path bytes e = by (entry_at t path) refl e
  where
    by : (entry : Option Entry) → entry_at t path ≡ entry → bytes_of entry ≡ Some bytes → has_file t path ≡ true
    by None is f = absurd cc
    by (Some (entries.File some)) is f = ap (λ one. is_file_kind (kind_of one)) is
    by (Some entries.Folder) is f = absurd cc
    by (Some entries.Other) is f = absurd cc

pub file_of_has : (t : FileTree) (path : List (List ℕ)) → has_file t path ≡ true → (bytes : List ℕ) × (file_in t path ≡ Some bytes)
unfolding kind_at
file_of_has t path e = by (entry_at t path) refl
  where
    apart : (b : Bool) → has_file t path ≡ b → b ≡ false → ⊥
    apart b f g = let both : true ≡ false = sym e ∙ f ∙ g in cc

    by : (entry : Option Entry) → entry_at t path ≡ entry → (bytes : List ℕ) × (bytes_of entry ≡ Some bytes)
    by None is = absurd (apart false (ap (λ one. is_file_kind (kind_of one)) is) refl)
    by (Some (entries.File some)) is = (some, refl)
    by (Some entries.Folder) is = absurd (apart false (ap (λ one. is_file_kind (kind_of one)) is) refl)
    by (Some entries.Other) is = absurd (apart false (ap (λ one. is_file_kind (kind_of one)) is) refl)

-- ---- a name that a walk of a row finds

both_so : (a b : Bool) → (a && b) ≡ true → (a ≡ true) × (b ≡ true)
both_so true b e = (refl, e)
both_so false b e = absurd cc

pub equal_paths : (a b : List (List ℕ)) → paths_are_equal a b ≡ true → a ≡ b
equal_paths [] [] e = refl
equal_paths [] (y ∷ b) e = absurd cc
equal_paths (x ∷ a) [] e = absurd cc
equal_paths (x ∷ a) (y ∷ b) e =
    let both = both_so (bytes_are_equal x y) (paths_are_equal a b) e in
    rw (equal_bytes x y both.0, equal_paths a b both.1) refl

row_file : (kind : RouteKind) (prefix : List ℕ) (tail : List (List ℕ)) (name : List ℕ) → counts (rule_of kind prefix) tail name ≡ true → is_row_file kind prefix tail name ≡ true
row_file Psr4 prefix tail name e = e
row_file Psr0 prefix tail name e = e

php_file : (kind : RouteKind) (prefix name : List ℕ) → has_ending (rule_of kind prefix) name ≡ true → ends_in (codes ".php") name ≡ true
php_file Psr4 prefix name e = e
php_file Psr0 prefix name e = e

-- the row leads the name to the file, which is there in the tree that is shown
pub record IsShownCandidate (routes : List Route) (shown : FileTree) (name : List ℕ) (path : List (List ℕ)) : Type 0 where
  pub candidate : Member path (candidates_of routes name)
  pub bytes : List ℕ
  pub there : file_in shown path ≡ Some bytes

pub found_is_candidate : (p : Project) (read shown : FileTree) (name : List ℕ) (path : List (List ℕ)) → IsFoundName (IsFoundBy read (IsRowWalk p read shown)) name path → IsShownCandidate (rows p) shown name path
unfolding is_scanned row_path_of
found_is_candidate p read shown name path found =
    let source = found.source in
    let job = source.search.job in
    let walk = found.is.0 in
    let file = found.is.1 in
    let row = walk.row in
    let counted = row_file row.kind row.prefix source.tail name (ap (λ rule. counts rule source.tail name) (sym walk.rule) ∙ found.counted) in
    let led_there = paths_are_equal (path_below row.kind row.prefix name) source.tail in
    let begun = begins row.prefix name in
    let own = is_route_prefix row.kind row.prefix in
    let named = is_class_name name && own in
    let led_to = both_so (named && begun) led_there counted in
    let last : (begun ≡ true) × (led_there ≡ true) = ((both_so named begun led_to.0).1, led_to.1) in
    let tail : path_below row.kind row.prefix name ≡ source.tail = equal_paths (path_below row.kind row.prefix name) source.tail last.1 in
    let led : row_path_of row name ≡ path = ap (λ below. row.folder ++ below) tail ∙ ap (λ folder. folder ++ source.tail) (sym walk.folder) ∙ sym found.shown in
    let ending = php_file row.kind row.prefix (last_of (job.at ++ source.tail)) (ap (λ rule. has_ending rule (last_of (job.at ++ source.tail))) (sym walk.rule) ∙ (both_so (has_ending job.rule (last_of (job.at ++ source.tail))) (not (is_excluded source.search.exclude (job.shown ++ source.tail))) file.scanned).0) in
    record {
      candidate = subst (λ at. Member at (candidates_of (rows p) name)) led (row_leads (rows p) name row walk.is_row last.0);
      bytes = source.bytes;
      there = ap (file_in shown) found.shown ∙ walk.same source.tail file.kept ending ∙ ap bytes_of file.there;
    }
