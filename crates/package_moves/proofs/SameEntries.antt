-- Folders whose entries are alike, by their names and what stands at each of them.
use Rattle.std.proofs.Common.{◌≡◌, ℕ, ◌+◌, Bool, true, false, ◌||◌, cond, List, [], ◌∷◌, ◌++◌, Option, Some, None, is_some, filter, refl, sym, ap, ◌∙◌, append-nil, arith}
use Rattle.std.specs.FinMap as map
use Rattle.std.specs.Ordering.{eq_by_cmp}
use Rattle.path_name.specs.Orders.{byte_cmp}
use Rattle.tree_dev.specs.Trees.{FileTree, IsListing, IsTree, entry_at, names_in}
use Rattle.tree_dev.specs.Changes.{is_root}
use Rattle.tree_dev.specs.declared.entry.Entry.{Entry}
use Rattle.tree_dev.specs.declared.entry.Entry.TheVariants as entries
use Rattle.tree_dev.proofs.Carried.{free_below}
use Rattle.tree_dev.proofs.NamesIn.{names_ascend, names_exactly}
use Rattle.stage_job.specs.Checked.{passes_top}
use Rattle.stage_job.specs.Copied.{AreThere, is_among, names_entry}
use Rattle.stage_job.specs.Jobs.{file_alone}
use Rattle.stage_job.specs.Mirrored.{is_left_out}
use Rattle.stage_job.proofs.Below.{child_path, itself_named, same_name}
use Rattle.stage_job.proofs.ReadAnswers.{below_file}
use Rattle.stage_job.proofs.SortedNames.{sorted_same}
use Rattle.package_moves.specs.Beside.{AreAlike, HasCopy, HasEntries, IsAlikeAt}
use Rattle.package_moves.specs.Counted.{Count, each_count}
use Rattle.package_moves.specs.Wanted.{copied_entry}

none_from : (o : Option Entry) → is_some o ≡ false → o ≡ None
none_from None e = refl
none_from (Some x) e = absurd cc

child_no_root : (at : List (List ℕ)) (n : List ℕ) → is_root (at ++ n ∷ []) ≡ false
child_no_root [] n = refl
child_no_root (first ∷ rest) n = refl

-- below a folder's path the root's own case is gone
pub entry_below : (t : FileTree) (at : List (List ℕ)) (n : List ℕ) (rest : List (List ℕ)) → entry_at t (at ++ n ∷ rest) ≡ map.get t (at ++ n ∷ rest)
entry_below t [] n rest = refl
entry_below t (first ∷ front) n rest = refl

-- what stands below a child
pub child_below : (t : FileTree) (at : List (List ℕ)) (n : List ℕ) (rest : List (List ℕ)) → entry_at t ((at ++ n ∷ []) ++ rest) ≡ entry_at t (at ++ n ∷ rest)
child_below t at n rest = ap (entry_at t) (child_path at n rest)

-- a name is listed where an entry of it stands
pub is_there : (t : FileTree) (at : List (List ℕ)) (n : List ℕ) → is_among n (names_in t at) ≡ is_some (entry_at t (at ++ n ∷ []))
is_there t at n = names_exactly t at n ∙ ap is_some (sym (entry_below t at n []))

-- at and below a name that is not listed stands nothing
pub nothing_below : (t : FileTree) (at : List (List ℕ)) (n : List ℕ) (rest : List (List ℕ)) → IsTree t → is_among n (names_in t at) ≡ false → entry_at t (at ++ n ∷ rest) ≡ None
nothing_below t at n rest tree none =
    sym (child_below t at n rest) ∙ entry_deep (at ++ n ∷ []) rest (child_no_root at n)
    ∙ free_below t (at ++ n ∷ []) tree (child_no_root at n) (none_from (map.get t (at ++ n ∷ [])) (sym (names_exactly t at n) ∙ none)) rest
  where
    entry_deep : (front more : List (List ℕ)) → is_root front ≡ false → entry_at t (front ++ more) ≡ map.get t (front ++ more)
    entry_deep [] more e = absurd cc
    entry_deep (first ∷ others) more e = refl

-- ---- alike entries of names

alike_by : (t : FileTree) (from to : List (List ℕ)) (n y : List ℕ) (ys : List (List ℕ)) (same : Bool) → eq_by_cmp byte_cmp n y ≡ same → IsAlikeAt t (from ++ y ∷ []) (to ++ y ∷ [])
    → (is_among n ys ≡ true → IsAlikeAt t (from ++ n ∷ []) (to ++ n ∷ [])) → (same || is_among n ys) ≡ true → IsAlikeAt t (from ++ n ∷ []) (to ++ n ∷ [])
alike_by t from to n y ys true e one more among = rw (same_name n y e) one
alike_by t from to n y ys false e one more among = more among

pub alike_of : (t : FileTree) (from to : List (List ℕ)) (n : List ℕ) (names : List (List ℕ)) → AreAlike t from to names → is_among n names ≡ true → IsAlikeAt t (from ++ n ∷ []) (to ++ n ∷ [])
alike_of t from to n [] all among = absurd cc
alike_of t from to n (y ∷ ys) all among = alike_by t from to n y ys (eq_by_cmp byte_cmp n y) refl all.0 (alike_of t from to n ys all.1) among

pub alike_all : (t : FileTree) (from to : List (List ℕ)) (names : List (List ℕ)) → ((n : List ℕ) → is_among n names ≡ true → IsAlikeAt t (from ++ n ∷ []) (to ++ n ∷ [])) → AreAlike t from to names
alike_all t from to [] each = tt
alike_all t from to (y ∷ ys) each = (each y (rw (itself_named y) refl), alike_all t from to ys (λ n among. each n (or_true (eq_by_cmp byte_cmp n y) among)))
  where
    or_true : (a : Bool) {b : Bool} → b ≡ true → (a || b) ≡ true
    or_true true e = refl
    or_true false e = e

pub alike_more : (t : FileTree) (from to names : List (List ℕ)) (x : List ℕ) → AreAlike t from to names → IsAlikeAt t (from ++ x ∷ []) (to ++ x ∷ []) → AreAlike t from to (names ++ x ∷ [])
alike_more t from to [] x all one = (one, tt)
alike_more t from to (y ∷ ys) x all one = (all.0, alike_more t from to ys x all.1 one)

pub alike_less : (t : FileTree) (from to names : List (List ℕ)) (x : List ℕ) → AreAlike t from to (names ++ x ∷ []) → AreAlike t from to names × IsAlikeAt t (from ++ x ∷ []) (to ++ x ∷ [])
alike_less t from to [] x all = (tt, all.0)
alike_less t from to (y ∷ ys) x all = let more = alike_less t from to ys x all.1 in ((all.0, more.0), more.1)

pub count_more : (count : Count) (from to names : List (List ℕ)) (x : List ℕ) → each_count count from to (names ++ x ∷ []) ≡ each_count count from to names + count (from ++ x ∷ []) (to ++ x ∷ [])
count_more count from to [] x = omega arith
count_more count from to (y ∷ ys) x = let more = count_more count from to ys x in omega (arith, more)

-- ---- a folder with these names

-- the folder, its names, and what stands at each of them
abbrev pub IsFolderOf : FileTree → List (List ℕ) → List (List ℕ) → List (List ℕ) → Type 0
IsFolderOf t from to names = ((entry_at t to ≡ Some entries.Folder) × (names_in t to ≡ names)) × AreAlike t from to names

module _ (t : FileTree) (from to names : List (List ℕ)) where
  pub has_entries : IsTree t → IsFolderOf t from to names → HasEntries t from to names
  has_entries tree folder = record { each = λ below. by below }
    where
      named : (n : List ℕ) (rest : List (List ℕ)) (among : Bool) → is_among n names ≡ among → entry_at t (to ++ n ∷ rest) ≡ cond among (map.get t (from ++ n ∷ rest)) None
      named n rest true e =
          let alike = alike_of t from to n names folder.1 e in
          sym (child_below t to n rest) ∙ alike.each rest ∙ child_below t from n rest ∙ entry_below t from n rest
      named n rest false e = nothing_below t to n rest tree (ap (is_among n) folder.0.1 ∙ e)

      by : (below : List (List ℕ)) → entry_at t (to ++ below) ≡ names_entry t from names below
      by [] = ap (entry_at t) (append-nil to) ∙ folder.0.0
      by (n ∷ rest) = named n rest (is_among n names) refl

  pub folder_of : IsListing names → AreThere t from names → HasEntries t from to names → IsFolderOf t from to names
  folder_of listing there has = ((ap (entry_at t) (sym (append-nil to)) ∙ has.each [], sorted_same (names_in t to) names (names_ascend t to) listing.ascending same), alike_all t from to names alike)
    where
      same_by : (n : List ℕ) (among : Bool) → is_among n names ≡ among → is_some (cond among (map.get t (from ++ n ∷ [])) None) ≡ among
      same_by n true e = ap is_some (sym (entry_below t from n [])) ∙ there n e
      same_by n false e = refl

      same : (n : List ℕ) → is_among n (names_in t to) ≡ is_among n names
      same n = is_there t to n ∙ ap is_some (has.each (n ∷ [])) ∙ same_by n (is_among n names) refl

      alike : (n : List ℕ) → is_among n names ≡ true → IsAlikeAt t (from ++ n ∷ []) (to ++ n ∷ [])
      alike n among = record {
        each = λ rest.
            child_below t to n rest ∙ has.each (n ∷ rest) ∙ ap (λ (b : Bool). cond b (map.get t (from ++ n ∷ rest)) None) among
            ∙ sym (entry_below t from n rest) ∙ sym (child_below t from n rest);
      }

-- ---- whole folders, and packages

filter_among : (p : List ℕ → Bool) (n : List ℕ) (names : List (List ℕ)) (keeps : Bool) → p n ≡ keeps → is_among n (filter p names) ≡ cond keeps (is_among n names) false
filter_among p n [] true e = refl
filter_among p n [] false e = refl
filter_among p n (y ∷ ys) keeps e = by (p y) refl (eq_by_cmp byte_cmp n y) refl (filter_among p n ys keeps e)
  where
    by : (py : Bool) → p y ≡ py → (same : Bool) → eq_by_cmp byte_cmp n y ≡ same → is_among n (filter p ys) ≡ cond keeps (is_among n ys) false
        → is_among n (cond py (y ∷ filter p ys) (filter p ys)) ≡ cond keeps (same || is_among n ys) false
    by true h true s more = rw s (let k : keeps ≡ true = sym e ∙ ap p (same_name n y s) ∙ h in sym (rw k refl))
    by true h false s more = rw s more
    by false h true s more = (let k : keeps ≡ false = sym e ∙ ap p (same_name n y s) ∙ h in more ∙ rw k refl)
    by false h false s more = more

module _ (t : FileTree) (from : List (List ℕ)) (tree : IsTree t) (folder : entry_at t from ≡ Some entries.Folder) where
  listed_by : (n : List ℕ) (rest : List (List ℕ)) (among : Bool) → is_among n (names_in t from) ≡ among → cond among (map.get t (from ++ n ∷ rest)) None ≡ entry_at t (from ++ n ∷ rest)
  listed_by n rest true e = sym (entry_below t from n rest)
  listed_by n rest false e = sym (nothing_below t from n rest tree e)

  pub all_entries : (below : List (List ℕ)) → names_entry t from (names_in t from) below ≡ entry_at t (from ++ below)
  all_entries [] = sym (ap (entry_at t) (append-nil from) ∙ folder)
  all_entries (n ∷ rest) = listed_by n rest (is_among n (names_in t from)) refl

  top_by : (n : List ℕ) (rest : List (List ℕ)) (out : Bool) → is_left_out n ≡ out → names_entry t from (filter passes_top (names_in t from)) (n ∷ rest) ≡ copied_entry t from (n ∷ rest)
  top_by n rest true e =
      let none = filter_among passes_top n (names_in t from) false (rw e refl) in
      rw (none, e) refl
  top_by n rest false e =
      let same = filter_among passes_top n (names_in t from) true (rw e refl) in
      ap (λ (b : Bool). cond b (map.get t (from ++ n ∷ rest)) None) same ∙ listed_by n rest (is_among n (names_in t from)) refl ∙ sym (rw e refl)

  pub copied_entries : (below : List (List ℕ)) → names_entry t from (filter passes_top (names_in t from)) below ≡ copied_entry t from below
  copied_entries [] = sym (ap (entry_at t) (append-nil from) ∙ folder)
  copied_entries (n ∷ rest) = top_by n rest (is_left_out n) refl

module _ (t : FileTree) (from to : List (List ℕ)) (tree : IsTree t) (folder : entry_at t from ≡ Some entries.Folder) where
  pub alike_from : HasEntries t from to (names_in t from) → IsAlikeAt t from to
  alike_from has = record { each = λ below. has.each below ∙ all_entries t from tree folder below }

  pub entries_from : IsAlikeAt t from to → HasEntries t from to (names_in t from)
  entries_from alike = record { each = λ below. alike.each below ∙ sym (all_entries t from tree folder below) }

  pub copy_from : HasEntries t from to (filter passes_top (names_in t from)) → HasCopy t from to
  copy_from has = record { each = λ below. has.each below ∙ copied_entries t from tree folder below }

  pub entries_of_copy : HasCopy t from to → HasEntries t from to (filter passes_top (names_in t from))
  entries_of_copy copy = record { each = λ below. copy.each below ∙ sym (copied_entries t from tree folder below) }

-- ---- files

no_root_of : (t : FileTree) (at : List (List ℕ)) (bytes : List ℕ) → entry_at t at ≡ Some (entries.File bytes) → is_root at ≡ false
no_root_of t [] bytes e = absurd cc
no_root_of t (first ∷ rest) bytes e = refl

pub file_there : (t : FileTree) (at : List (List ℕ)) (bytes : List ℕ) → IsTree t → entry_at t at ≡ Some (entries.File bytes) → (below : List (List ℕ)) → entry_at t (at ++ below) ≡ file_alone bytes below
file_there t at bytes tree file [] = ap (entry_at t) (append-nil at) ∙ file
file_there t at bytes tree file (n ∷ rest) = entry_below t at n rest ∙ below_file t at bytes tree (no_root_of t at bytes file) file n rest

pub file_alike : (t : FileTree) (from to : List (List ℕ)) (bytes : List ℕ) → IsTree t → entry_at t from ≡ Some (entries.File bytes) → entry_at t to ≡ Some (entries.File bytes) → IsAlikeAt t from to
file_alike t from to bytes tree here there = record { each = λ below. file_there t to bytes tree there below ∙ sym (file_there t from bytes tree here below) }

pub alike_file : (t : FileTree) (from to : List (List ℕ)) (bytes : List ℕ) → entry_at t from ≡ Some (entries.File bytes) → IsAlikeAt t from to → entry_at t to ≡ Some (entries.File bytes)
alike_file t from to bytes here alike = ap (entry_at t) (sym (append-nil to)) ∙ alike.each [] ∙ ap (entry_at t) (append-nil from) ∙ here
