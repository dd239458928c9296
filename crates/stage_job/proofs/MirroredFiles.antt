-- The files that are counted of a package are files of the tree that are mirrored, each once.
use Rattle.std.proofs.Common.{◌≡◌, ℕ, zero, suc, ◌+◌, ◌≤◌, Bool, true, false, ◌&&◌, ◌||◌, ◌⊎◌, cond, List, [], ◌∷◌, ◌++◌, length, filter, Option, Some, None, is_some, refl, sym, ap, ◌∙◌, inl, inr, append-nil, arith}
use Rattle.std.proofs.lemmas.List.Kept.{IsStrictlySortedBy-filter}
use Rattle.std.proofs.lemmas.List.Sums.{sum_by-cons}
use Rattle.std.specs.FinMap as map
use Rattle.std.specs.List.{list_any}
use Rattle.std.specs.List.Sorted.{IsStrictlySortedBy}
use Rattle.std.specs.Ordering.{eq_by_cmp}
use Rattle.std.specs.Prelude.{sum_by}
use Rattle.path_name.specs.Orders.{byte_cmp, path_cmp}
use Rattle.tree_dev.specs.Told.{both, equal_paths, one_of}
use Rattle.tree_dev.specs.Trees.{FileTree, behind, entry_at, names_in}
use Rattle.tree_dev.specs.Changes.{is_file}
use Rattle.tree_dev.specs.declared.entry.Entry.{Entry}
use Rattle.tree_dev.specs.declared.limits.TheConstants.{DEPTH}
use Rattle.tree_dev.proofs.Behind.{behind_head, head_behind}
use Rattle.tree_dev.proofs.NamesIn.{names_ascend}
use Rattle.stage_job.specs.Checked.{passes_top}
use Rattle.stage_job.specs.Copied.{is_among}
use Rattle.stage_job.specs.Written.{entry_files, files_of_names, is_mirrored_behind, is_mirrored_file, mirrored_files, package_files}
use Rattle.stage_job.proofs.Below.{child_path, itself_named, same_name}
use Rattle.stage_job.proofs.SortedNames.{not_before}

abbrev Path : Type 0
Path = List (List ℕ)

-- ---- counts of a list

module _ {X : Type 0} where
  count_le : (p r : X → Bool) (xs : List X) → ((x : X) → p x ≡ true → r x ≡ true) → length (filter p xs) ≤ length (filter r xs)
  count_le p r [] on = omega arith
  count_le p r (x ∷ xs) on = by (p x) (r x) (on x) (count_le p r xs on)
    where
      by : (a b : Bool) → (a ≡ true → b ≡ true) → length (filter p xs) ≤ length (filter r xs) → length (cond a (x ∷ filter p xs) (filter p xs)) ≤ length (cond b (x ∷ filter r xs) (filter r xs))
      by true true on more = omega arith
      by true false on more = absurd (let e = on refl in cc)
      by false true on more = omega arith
      by false false on more = more

  -- of two tests that no item passes both, and that lead to a third
  count_either : (p q r : X → Bool) (xs : List X) → ((x : X) → p x ≡ true → r x ≡ true) → ((x : X) → q x ≡ true → r x ≡ true) → ((x : X) → p x ≡ true → q x ≡ true → ⊥)
      → length (filter p xs) + length (filter q xs) ≤ length (filter r xs)
  count_either p q r [] one other never = omega arith
  count_either p q r (x ∷ xs) one other never = by (p x) (q x) (r x) (one x) (other x) (never x) (count_either p q r xs one other never)
    where
      by : (a b d : Bool) → (a ≡ true → d ≡ true) → (b ≡ true → d ≡ true) → (a ≡ true → b ≡ true → ⊥) → length (filter p xs) + length (filter q xs) ≤ length (filter r xs)
          → length (cond a (x ∷ filter p xs) (filter p xs)) + length (cond b (x ∷ filter q xs) (filter q xs)) ≤ length (cond d (x ∷ filter r xs) (filter r xs))
      by true true d one other never more = absurd (never refl refl)
      by true false true one other never more = omega arith
      by true false false one other never more = absurd (let e = one refl in cc)
      by false true true one other never more = omega arith
      by false true false one other never more = absurd (let e = other refl in cc)
      by false false true one other never more = omega arith
      by false false false one other never more = more

count_some : (p : Path → Bool) (at : Path) (xs : List Path) → p at ≡ true → list_any (eq_by_cmp path_cmp at) xs ≡ true → 1 ≤ length (filter p xs)
count_some p at [] here among = absurd cc
count_some p at (x ∷ xs) here among = by (one_of (eq_by_cmp path_cmp at x) (list_any (eq_by_cmp path_cmp at) xs) among) (count_some p at xs here)
  where
    add : (b : Bool) → 1 ≤ length (filter p xs) → 1 ≤ length (cond b (x ∷ filter p xs) (filter p xs))
    add true more = omega arith
    add false more = more

    by : (eq_by_cmp path_cmp at x ≡ true) ⊎ (list_any (eq_by_cmp path_cmp at) xs ≡ true) → (list_any (eq_by_cmp path_cmp at) xs ≡ true → 1 ≤ length (filter p xs)) → 1 ≤ length (cond (p x) (x ∷ filter p xs) (filter p xs))
    by (inl same) more =
        let is : p x ≡ true = ap p (sym (equal_paths at x same)) ∙ here in
        rw is (omega arith)
    by (inr later) more = add (p x) (more later)

-- ---- files at and below paths

-- a file at or below a path
abbrev is_file_within : FileTree → Path → Path → Bool
is_file_within t at path = is_file (entry_at t path) && is_some (behind at path)

abbrev first_among : List (List ℕ) → Option Path → Bool
first_among names None = false
first_among names (Some []) = false
first_among names (Some (name ∷ rest)) = is_among name names

-- a file at or below the entry of one of these names in a folder
abbrev is_file_of : FileTree → Path → List (List ℕ) → Path → Bool
is_file_of t at names path = is_file (entry_at t path) && first_among names (behind at path)

and_on : (a b d : Bool) → (b ≡ true → d ≡ true) → (a && b) ≡ true → (a && d) ≡ true
and_on true b d on e = on e
and_on false b d on e = absurd cc

is_some_of : (o : Option Path) → is_some o ≡ true → (rest : Path) × (o ≡ Some rest)
is_some_of None e = absurd cc
is_some_of (Some rest) e = (rest, refl)

or_first : (a b : Bool) → a ≡ true → (a || b) ≡ true
or_first true b e = refl
or_first false b e = absurd cc

or_last : (a b : Bool) → b ≡ true → (a || b) ≡ true
or_last true b e = refl
or_last false b e = e

-- a path behind the entry of a name lies behind the folder, by that name
behind_child : (at path : Path) (x : List ℕ) → is_some (behind (at ++ x ∷ []) path) ≡ true → (rest : Path) × (behind at path ≡ Some (x ∷ rest))
behind_child at path x e =
    let rest = is_some_of (behind (at ++ x ∷ []) path) e in
    (rest.0, ap (behind at) (head_behind (at ++ x ∷ []) path rest.0 rest.1 ∙ child_path at x rest.0) ∙ behind_head at (x ∷ rest.0))

first_more : (x : List ℕ) (names : List (List ℕ)) (o : Option Path) → first_among names o ≡ true → first_among (x ∷ names) o ≡ true
first_more x names None e = absurd cc
first_more x names (Some []) e = absurd cc
first_more x names (Some (n ∷ rest)) e = or_last (eq_by_cmp byte_cmp n x) (is_among n names) e

first_itself : (x : List ℕ) (names : List (List ℕ)) → is_among x (x ∷ names) ≡ true
first_itself x names = or_first (eq_by_cmp byte_cmp x x) (is_among x names) (itself_named x)

head_fresh : (x : List ℕ) (names : List (List ℕ)) → IsStrictlySortedBy byte_cmp (x ∷ names) → is_among x names ≡ false
unfolding IsStrictlySortedBy
head_fresh x names sorted = not_before x names sorted.0

tail_sorted : (x : List ℕ) (names : List (List ℕ)) → IsStrictlySortedBy byte_cmp (x ∷ names) → IsStrictlySortedBy byte_cmp names
unfolding IsStrictlySortedBy
tail_sorted x names sorted = sorted.1

-- what the names of a folder count, each at most the files at and below its entry
names_count : (t : FileTree) (at : Path) (count : List ℕ → ℕ) (names : List (List ℕ)) → IsStrictlySortedBy byte_cmp names
    → ((name : List ℕ) → count name ≤ length (filter (is_file_within t (at ++ name ∷ [])) (map.keys t)))
    → sum_by count names ≤ length (filter (is_file_of t at names) (map.keys t))
names_count t at count [] sorted few = omega arith
names_count t at count (x ∷ xs) sorted few =
    let more = names_count t at count xs (tail_sorted x xs sorted) few in
    let sum = sum_by-cons count x xs in
    let here = few x in
    let either = count_either (is_file_within t (at ++ x ∷ [])) (is_file_of t at xs) (is_file_of t at (x ∷ xs)) (map.keys t) one other never in
    omega (arith, more, sum, here, either)
  where
    one : (path : Path) → is_file_within t (at ++ x ∷ []) path ≡ true → is_file_of t at (x ∷ xs) path ≡ true
    one path is = and_on (is_file (entry_at t path)) (is_some (behind (at ++ x ∷ []) path)) (first_among (x ∷ xs) (behind at path))
        (λ within. ap (first_among (x ∷ xs)) (behind_child at path x within).1 ∙ first_itself x xs) is

    other : (path : Path) → is_file_of t at xs path ≡ true → is_file_of t at (x ∷ xs) path ≡ true
    other path is = and_on (is_file (entry_at t path)) (first_among xs (behind at path)) (first_among (x ∷ xs) (behind at path)) (first_more x xs (behind at path)) is

    never : (path : Path) → is_file_within t (at ++ x ∷ []) path ≡ true → is_file_of t at xs path ≡ true → ⊥
    never path within of =
        let child = behind_child at path x (both (is_file (entry_at t path)) (is_some (behind (at ++ x ∷ []) path)) within).1 in
        let among : is_among x xs ≡ true = sym (ap (first_among xs) child.1) ∙ (both (is_file (entry_at t path)) (first_among xs (behind at path)) of).1 in
        let fresh = head_fresh x xs sorted in
        cc

first_within : (names : List (List ℕ)) (o : Option Path) → first_among names o ≡ true → is_some o ≡ true
first_within names None e = absurd cc
first_within names (Some rest) e = refl

behind_itself : (at : Path) → behind at at ≡ Some []
behind_itself at = ap (behind at) (sym (append-nil at)) ∙ behind_head at []

-- a file is one of the tree's entries
file_is_key : (t : FileTree) (at : Path) → is_file (entry_at t at) ≡ true → list_any (eq_by_cmp path_cmp at) (map.keys t) ≡ true
file_is_key t [] file = absurd cc
file_is_key t (x ∷ rest) file = sym (map.contains_key-keys t (x ∷ rest)) ∙ there (map.get t (x ∷ rest)) file
  where
    there : (e : Option Entry) → is_file e ≡ true → is_some e ≡ true
    there None file = absurd cc
    there (Some e) file = refl

files_within : (levels : ℕ) (t : FileTree) (at : Path) → entry_files levels t at ≤ length (filter (is_file_within t at) (map.keys t))
unfolding entry_files
files_within zero t at = omega arith
files_within (suc levels) t at = by (is_file (entry_at t at)) refl (λ name. files_within levels t (at ++ name ∷ []))
  where
    by : (b : Bool) → is_file (entry_at t at) ≡ b → ((name : List ℕ) → entry_files levels t (at ++ name ∷ []) ≤ length (filter (is_file_within t (at ++ name ∷ [])) (map.keys t)))
        → cond b 1 (files_of_names levels t at (names_in t at)) ≤ length (filter (is_file_within t at) (map.keys t))
    by true file each = count_some (is_file_within t at) at (map.keys t) (rw (file, behind_itself at) refl) (file_is_key t at file)
    by false none each =
        let names = names_count t at (λ name. entry_files levels t (at ++ name ∷ [])) (names_in t at) (names_ascend t at) each in
        let within = count_le (is_file_of t at (names_in t at)) (is_file_within t at) (map.keys t) (λ path is. and_on (is_file (entry_at t path)) (first_among (names_in t at) (behind at path)) (is_some (behind at path)) (first_within (names_in t at) (behind at path)) is) in
        omega (arith, names, within)

-- a name among those that pass passes
passes_among : (n : List ℕ) (names : List (List ℕ)) → is_among n (filter passes_top names) ≡ true → passes_top n ≡ true
passes_among n [] among = absurd cc
passes_among n (x ∷ xs) among = by (passes_top x) refl (eq_by_cmp byte_cmp n x) refl among (passes_among n xs)
  where
    by : (p : Bool) → passes_top x ≡ p → (same : Bool) → eq_by_cmp byte_cmp n x ≡ same → is_among n (cond p (x ∷ filter passes_top xs) (filter passes_top xs)) ≡ true
        → (is_among n (filter passes_top xs) ≡ true → passes_top n ≡ true) → passes_top n ≡ true
    by true e true s among more = ap passes_top (same_name n x s) ∙ e
    by true e false s among more = more (rw s at among)
    by false e same s among more = more among

first_mirrored : (names : List (List ℕ)) (o : Option Path) → first_among (filter passes_top names) o ≡ true → is_mirrored_behind o ≡ true
first_mirrored names None e = absurd cc
first_mirrored names (Some []) e = absurd cc
first_mirrored names (Some (n ∷ rest)) e = passes_among n names e

pub counted_mirrored : (t : FileTree) (source : Path) → package_files t source ≤ length (mirrored_files t source)
unfolding package_files mirrored_files
counted_mirrored t source =
    let tops = filter passes_top (names_in t source) in
    let names = names_count t source (λ name. entry_files DEPTH t (source ++ name ∷ [])) tops (IsStrictlySortedBy-filter byte_cmp passes_top (names_in t source) (names_ascend t source)) (λ name. files_within DEPTH t (source ++ name ∷ [])) in
    let within = count_le (is_file_of t source tops) (is_mirrored_file t source) (map.keys t) (λ path is. and_on (is_file (entry_at t path)) (first_among tops (behind source path)) (is_mirrored_behind (behind source path)) (first_mirrored (names_in t source) (behind source path)) is) in
    omega (arith, names, within)
