-- Steps of the walk of a source beside its target.
use Rattle.std.proofs.Common.{◌≡◌, ℕ, zero, suc, ◌+◌, ◌<◌, ◌≤◌, Bool, true, false, cond, List, [], ◌∷◌, ◌++◌, length, take, drop, get_or, filter, Option, Some, Result, Ok, Err, refl, sym, ap, subst, ◌∙◌, add-one, append-nil}
use Rattle.std.proofs.lemmas.List.{at_drop_more, take_all, take_more}
use Rattle.std.specs.Bool.{Decides}
use Rattle.std.specs.Result.{IfErr}
use Rattle.path_name.specs.Given.{◌>>=◌}
use Rattle.tree_dev.specs.Trees.{FileTree, IsListing, IsTree, entry_at, is_folder, names_in}
use Rattle.tree_dev.specs.Changes.{is_leaf}
use Rattle.tree_dev.specs.declared.entry.Entry.{Entry}
use Rattle.tree_dev.specs.declared.entry.Entry.TheVariants as entries
use Rattle.tree_dev.specs.declared.limits.TheConstants.{DEPTH}
use Rattle.stage_job.specs.Checked.{each_checked, entry_checked, passes_top}
use Rattle.stage_job.specs.Copied.{AreThere, IsListed}
use Rattle.stage_job.specs.Faults.{Answers}
use Rattle.stage_job.specs.Jobs.{file_alone}
use Rattle.stage_job.specs.declared.fault.StageFault.{StageFault}
use Rattle.stage_job.specs.declared.job.Part.{Part}
use Rattle.stage_job.specs.declared.job.Source.{Source}
use Rattle.stage_job.specs.declared.job.Source.TheVariants as sources
use Rattle.package_moves.specs.Beside.{AreAlike, AreCounted, HasCopy, HasEntries, IsAlikeAt, IsFound, IsListedBeside, IsWalked, MayCome}
use Rattle.package_moves.specs.Counted.{beside_count, each_count, names_count, package_count, target_count}
use Rattle.package_moves.specs.Wanted.{Stands, copied_entry, wanted_entry}
use Rattle.package_moves.specs.declared.counts.Counts.{Counts}
use Rattle.package_moves.specs.declared.listing.Listed.{Listed}
use Rattle.package_moves.specs.declared.listing.Listed.TheVariants as listings
use Rattle.package_moves.proofs.SameEntries.{alike_file, alike_from, alike_less, alike_more, copy_from, count_more, entries_from, entries_of_copy, file_alike, file_there, folder_of, has_entries}
use Rattle.package_moves.proofs.Walking.{walked_after, walked_on, walked_one, walked_same}

-- where nothing is refused, only what may come at any place is
pub free_answer : {X : Type 0} (wanted : Result ℕ StageFault) (left : ℕ) (r : Result X StageFault) → wanted ≡ Ok left → IfErr r MayCome → Answers wanted left r
free_answer wanted left (Ok x) is cause = is
free_answer wanted left (Err fault) is cause = cause wanted

-- ---- how many names are listed

folder_by : (count : ℕ) (o : Option Entry) → o ≡ Some entries.Folder → cond (is_folder o) count 0 ≡ count
folder_by count o is = ap (λ (e : Option Entry). cond (is_folder e) count 0) is

pub folder_count : (levels : ℕ) (t : FileTree) (from to : List (List ℕ)) → entry_at t from ≡ Some entries.Folder
    → beside_count (levels + 1) t from to ≡ names_count t to + each_count (beside_count levels t) from to (names_in t from)
unfolding beside_count
folder_count levels t from to folder =
    rw add-one (folder_by (names_count t to + each_count (beside_count levels t) from to (names_in t from)) (entry_at t from) folder)

file_by : (count : ℕ) (bytes : List ℕ) (o : Option Entry) → o ≡ Some (entries.File bytes) → cond (is_folder o) count 0 ≡ 0
file_by count bytes o is = ap (λ (e : Option Entry). cond (is_folder e) count 0) is

pub file_count : (levels : ℕ) (t : FileTree) (from to : List (List ℕ)) (bytes : List ℕ) → entry_at t from ≡ Some (entries.File bytes) → beside_count levels t from to ≡ 0
unfolding beside_count
file_count zero t from to bytes file = refl
file_count (suc levels) t from to bytes file = file_by (names_count t to + each_count (beside_count levels t) from to (names_in t from)) bytes (entry_at t from) file

pub copy_count : (t : FileTree) (from to : List (List ℕ)) → entry_at t from ≡ Some entries.Folder
    → package_count t from to ≡ names_count t to + each_count (beside_count DEPTH t) from to (filter passes_top (names_in t from))
unfolding package_count
copy_count t from to folder = folder_by (names_count t to + each_count (beside_count DEPTH t) from to (filter passes_top (names_in t from))) (entry_at t from) folder

-- ---- walked

pub file_walked : (levels : ℕ) (t : FileTree) (from to : List (List ℕ)) (bytes : List ℕ) (same alike : Bool) (a : Counts) → IsTree t → entry_at t from ≡ Some (entries.File bytes)
    → Decides alike ((same ≡ true) × (entry_at t to ≡ Some (entries.File bytes))) → IsWalked (beside_count levels t from to) (IsAlikeAt t from to) same a a alike
file_walked levels t from to bytes same alike a tree file decides =
    walked_same 0 (beside_count levels t from to) (entry_at t to ≡ Some (entries.File bytes)) (IsAlikeAt t from to) same a a alike (sym (file_count levels t from to bytes file))
    (λ there. file_alike t from to bytes tree file there) (λ both. alike_file t from to bytes file both)
    (walked_one (entry_at t to ≡ Some (entries.File bytes)) same a alike decides)

module _ (t : FileTree) (from to names ns : List (List ℕ)) (same alike : Bool) (a b d : Counts) (before after : ℕ) (tree : IsTree t) (listed : IsListed t from names before after) (earlier : AreCounted 0 a b) where
  pub folder_walked : (levels : ℕ) → ns ≡ names → IsWalked (names_count t to + each_count (beside_count levels t) from to ns) (HasEntries t from to ns) same b d alike
      → IsWalked (beside_count (levels + 1) t from to) (IsAlikeAt t from to) same a d alike
  folder_walked levels is walked =
      let all : ns ≡ names_in t from = is ∙ listed.names_are in
      let here = subst (λ (xs : List (List ℕ)). IsWalked (names_count t to + each_count (beside_count levels t) from to xs) (HasEntries t from to xs) same b d alike) all walked in
      walked_after (beside_count (levels + 1) t from to) (IsAlikeAt t from to) same a b d alike earlier
      (walked_same (names_count t to + each_count (beside_count levels t) from to (names_in t from)) (beside_count (levels + 1) t from to) (HasEntries t from to (names_in t from)) (IsAlikeAt t from to) same b d alike
      (sym (folder_count levels t from to listed.folder)) (alike_from t from to tree listed.folder) (entries_from t from to tree listed.folder) here)

  pub package_walked : ns ≡ filter passes_top names → IsWalked (names_count t to + each_count (beside_count DEPTH t) from to ns) (HasEntries t from to ns) same b d alike
      → IsWalked (package_count t from to) (HasCopy t from to) same a d alike
  package_walked is walked =
      let all : ns ≡ filter passes_top (names_in t from) = is ∙ ap (filter passes_top) listed.names_are in
      let here = subst (λ (xs : List (List ℕ)). IsWalked (names_count t to + each_count (beside_count DEPTH t) from to xs) (HasEntries t from to xs) same b d alike) all walked in
      walked_after (package_count t from to) (HasCopy t from to) same a b d alike earlier
      (walked_same (names_count t to + each_count (beside_count DEPTH t) from to (filter passes_top (names_in t from))) (package_count t from to) (HasEntries t from to (filter passes_top (names_in t from))) (HasCopy t from to) same b d alike
      (sym (copy_count t from to listed.folder)) (copy_from t from to tree listed.folder) (entries_of_copy t from to tree listed.folder) here)

-- ---- what is listed beside

-- a folder of these names
abbrev IsFolderOf : FileTree → List (List ℕ) → List (List ℕ) → Type 0
IsFolderOf t to names = (entry_at t to ≡ Some entries.Folder) × (names_in t to ≡ names)

found_alike : (t : FileTree) (to names : List (List ℕ)) (passed : Bool) (found : Listed) → IsFound t to passed found → found ≡ listings.Names names → IsFolderOf t to names
found_alike t to names passed (listings.Names ns) is same = (is.0, sym is.1 ∙ cc)
found_alike t to names passed listings.Nothing is same = absurd cc
found_alike t to names passed listings.Other is same = absurd cc

found_differs : (t : FileTree) (to names : List (List ℕ)) (passed : Bool) (found : Listed) → IsFound t to passed found → passed ≡ false → IsFolderOf t to names → found ≡ listings.Names names
found_differs t to names passed (listings.Names ns) is none folder = ap (λ (xs : List (List ℕ)). listings.Names xs) (is.1 ∙ folder.1)
found_differs t to names passed listings.Nothing is none folder = absurd (let absent = is none in let there = folder.0 in cc)
found_differs t to names passed listings.Other is none folder = absurd (let leaf : is_leaf (Some entries.Folder) ≡ true = ap is_leaf (sym folder.0) ∙ is in cc)

beside_walked : (t : FileTree) (to names : List (List ℕ)) (same between : Bool) (a b : Counts) (found : Listed) → IsListedBeside t to a b found → Decides between ((same ≡ true) × (found ≡ listings.Names names))
    → IsWalked (names_count t to) (IsFolderOf t to names) same a b between
beside_walked t to names same between a b found listed decides = record {
  counted = listed.counted;
  alike = λ is. let both = decides.0 is in (both.0, found_alike t to names b.passed found listed.is_found both.1);
  differs = λ other none before folder. let is = decides.1 (before, found_differs t to names b.passed found listed.is_found none folder) in absurd cc;
}

pub listed_walked : (count : ℕ) (t : FileTree) (from to names : List (List ℕ)) (same between alike : Bool) (a b d : Counts) (found : Listed) → IsTree t → IsListing names → AreThere t from names
    → IsListedBeside t to a b found → Decides between ((same ≡ true) × (found ≡ listings.Names names)) → IsWalked count (AreAlike t from to names) between b d alike
    → IsWalked (names_count t to + count) (HasEntries t from to names) same a d alike
listed_walked count t from to names same between alike a b d found tree listing there listed decides walked =
    walked_same (names_count t to + count) (names_count t to + count) (IsFolderOf t to names × AreAlike t from to names) (HasEntries t from to names) same a d alike refl
    (has_entries t from to names tree) (folder_of t from to names listing there)
    (walked_on (names_count t to) count (IsFolderOf t to names) (AreAlike t from to names) same between alike a b d (beside_walked t to names same between a b found listed decides) walked)

-- ---- name by name

pub names_more : (levels : ℕ) (t : FileTree) (from to names : List (List ℕ)) (i : ℕ) (x : List ℕ) (same between alike : Bool) (a b d : Counts) → i < length names → x ≡ get_or names i x
    → IsWalked (each_count (beside_count levels t) from to (take i names)) (AreAlike t from to (take i names)) same a b between
    → IsWalked (beside_count levels t (from ++ x ∷ []) (to ++ x ∷ [])) (IsAlikeAt t (from ++ x ∷ []) (to ++ x ∷ [])) between b d alike
    → IsWalked (each_count (beside_count levels t) from to (take (i + 1) names)) (AreAlike t from to (take (i + 1) names)) same a d alike
names_more levels t from to names i x same between alike a b d lt is first second =
    let count = beside_count levels t in
    let done = take i names in
    let more : take (i + 1) names ≡ done ++ x ∷ [] = take_more names i x lt ∙ ap (λ (n : List ℕ). take i names ++ n ∷ []) (sym is) in
    subst (λ (ns : List (List ℕ)). IsWalked (each_count (beside_count levels t) from to ns) (AreAlike t from to ns) same a d alike) (sym more)
    (walked_same (each_count count from to done + count (from ++ x ∷ []) (to ++ x ∷ [])) (each_count count from to (done ++ x ∷ [])) (AreAlike t from to done × IsAlikeAt t (from ++ x ∷ []) (to ++ x ∷ [])) (AreAlike t from to (done ++ x ∷ [])) same a d alike
    (sym (count_more count from to done x)) (λ both. alike_more t from to done x both.0 both.1) (λ all. alike_less t from to done x all)
    (walked_on (each_count count from to done) (count (from ++ x ∷ []) (to ++ x ∷ [])) (AreAlike t from to done) (IsAlikeAt t (from ++ x ∷ []) (to ++ x ∷ [])) same between alike a b d first second))

pub names_all : (levels : ℕ) (t : FileTree) (from to names : List (List ℕ)) (i : ℕ) (same alike : Bool) (a b : Counts) → length names ≤ i
    → IsWalked (each_count (beside_count levels t) from to (take i names)) (AreAlike t from to (take i names)) same a b alike
    → IsWalked (each_count (beside_count levels t) from to names) (AreAlike t from to names) same a b alike
names_all levels t from to names i same alike a b le walked = subst (λ (ns : List (List ℕ)). IsWalked (each_count (beside_count levels t) from to ns) (AreAlike t from to ns) same a b alike) (take_all i names le) walked

pub checked_more : (levels : ℕ) (t : FileTree) (from names : List (List ℕ)) (i : ℕ) (x : List ℕ) (before after : ℕ) (wanted : Result ℕ StageFault) → i < length names → x ≡ get_or names i x
    → each_checked (entry_checked levels t) from (drop i names) before ≡ wanted → entry_checked levels t (from ++ x ∷ []) before ≡ Ok after
    → each_checked (entry_checked levels t) from (drop (i + 1) names) after ≡ wanted
checked_more levels t from names i x before after wanted lt is so_far here =
    sym (ap (λ (r : Result ℕ StageFault). r >>= λ rest. each_checked (entry_checked levels t) from (drop (i + 1) names) rest) here)
    ∙ ap (λ (n : List ℕ). each_checked (entry_checked levels t) from (n ∷ drop (i + 1) names) before) is
    ∙ sym (at_drop_more (λ (xs : List (List ℕ)). each_checked (entry_checked levels t) from xs before) names i x lt) ∙ so_far

-- ---- the target of a part

module _ (project : List (List ℕ)) (t : FileTree) (part : Part) (to : List (List ℕ)) (to_is : to ≡ project ++ part.target) where
  at_target : (what : List (List ℕ) → Option Entry) → ((below : List (List ℕ)) → entry_at t (to ++ below) ≡ what below) → (below : List (List ℕ)) → entry_at t ((project ++ part.target) ++ below) ≡ what below
  at_target what each below = ap (λ (p : List (List ℕ)). entry_at t (p ++ below)) (sym to_is) ∙ each below

  from_target : (what : List (List ℕ) → Option Entry) → ((below : List (List ℕ)) → entry_at t ((project ++ part.target) ++ below) ≡ what below) → (below : List (List ℕ)) → entry_at t (to ++ below) ≡ what below
  from_target what each below = ap (λ (p : List (List ℕ)). entry_at t (p ++ below)) to_is ∙ each below

  pub copy_stands : (source : List (List ℕ)) (same alike : Bool) (a b : Counts) → part.from ≡ sources.Copy source → IsWalked (package_count t source to) (HasCopy t source to) same a b alike
      → IsWalked (target_count t (project ++ part.target) part.from) (Stands project t part) same a b alike
  copy_stands source same alike a b is walked =
      walked_same (package_count t source to) (target_count t (project ++ part.target) part.from) (HasCopy t source to) (Stands project t part) same a b alike
      (ap (package_count t source) to_is ∙ ap (target_count t (project ++ part.target)) (sym is))
      (λ copy. record { each = λ below. at_target (copied_entry t source) copy.each below ∙ ap (λ (s : Source). wanted_entry t s below) (sym is) })
      (λ stands. record { each = from_target (copied_entry t source) (λ below. stands.each below ∙ ap (λ (s : Source). wanted_entry t s below) is) })
      walked

  pub bytes_stand : (bytes : List ℕ) (alike : Bool) (a : Counts) → IsTree t → part.from ≡ sources.Bytes bytes → Decides alike (entry_at t to ≡ Some (entries.File bytes))
      → IsWalked (target_count t (project ++ part.target) part.from) (Stands project t part) true a a alike
  bytes_stand bytes alike a tree is decides =
      walked_same 0 (target_count t (project ++ part.target) part.from) (entry_at t to ≡ Some (entries.File bytes)) (Stands project t part) true a a alike
      (ap (target_count t (project ++ part.target)) (sym is))
      (λ there. record { each = λ below. at_target (file_alone bytes) (file_there t to bytes tree there) below ∙ ap (λ (s : Source). wanted_entry t s below) (sym is) })
      (λ stands. ap (entry_at t) (sym (append-nil to)) ∙ from_target (file_alone bytes) (λ below. stands.each below ∙ ap (λ (s : Source). wanted_entry t s below) is) [])
      (walked_one (entry_at t to ≡ Some (entries.File bytes)) true a alike ((λ e. (refl, decides.0 e)), (λ both. decides.1 both.1)))
