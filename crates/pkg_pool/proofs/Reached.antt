-- What the segments of a url name, as lists of folders.
use Rattle.std.proofs.Common.{◌≡◌, ℕ, ◌-◌, Bool, true, false, cond, List, [], ◌∷◌, ◌++◌, map, length, Option, Some, None, Result, Ok, Err, refl, sym, ap, ◌∙◌, append_assoc, append-nil}
use Rattle.std.specs.Prelude.{nat_lt}
use Rattle.std.specs.List.{flat_map}
use Rattle.path_name.specs.Given.{◌>>=◌}
use Rattle.tree_dev.specs.Trees.{FileTree, entry_at, is_folder, list_at, list_of, names_in}
use Rattle.tree_dev.specs.declared.entry.Entry.{Entry}
use Rattle.tree_dev.specs.declared.entry.Entry.TheVariants as entries
use Rattle.tree_dev.specs.declared.entry.ListAnswer.TheVariants as listings
use Rattle.pkg_pool.specs.declared.fault.PoolFault.{PoolFault}
use Rattle.pkg_pool.specs.declared.origin.Origin.{Origin}
use Rattle.pkg_pool.specs.Outcomes.{each_in_turn}
use Rattle.pkg_pool.specs.Patterns.{Found, is_wild, is_installed, seen_from, names_told, names_listed, shown_in, folder_expanded, then_expanded, segment_expanded, pattern_expanded}

-- a step that went well, and the one after it
pub went_on : {X Y : Type 0} (r : Result X PoolFault) (next : X → Result Y PoolFault) (y : Y) → (r >>= next) ≡ Ok y → (x : X) × (r ≡ Ok x) × (next x ≡ Ok y)
went_on (Ok x) next y e = (x, refl, e)
went_on (Err fault) next y e = absurd cc

pub all_went_on : {X S : Type 0} (step : X → S → Result S PoolFault) (x : X) (xs : List X) (s end : S) → each_in_turn step (x ∷ xs) s ≡ Ok end
    → (next : S) × (step x s ≡ Ok next) × (each_in_turn step xs next ≡ Ok end)
unfolding each_in_turn
all_went_on step x xs s end e = went_on (step x s) (λ next. each_in_turn step xs next) end e

pub none_went_on : {X S : Type 0} (step : X → S → Result S PoolFault) (s end : S) → each_in_turn step [] s ≡ Ok end → end ≡ s
unfolding each_in_turn
none_went_on step s end e = cc

-- ---- one `*`

-- the names that a `*` stands for, hidden ones among them
abbrev pub listed : FileTree → List (List ℕ) → List (List ℕ)
listed t folder = cond (is_folder (entry_at t folder)) (names_in t folder) []

few_names : (over : Bool) (left : ℕ) (found names : List (List ℕ)) → nat_lt left (length found) ≡ over → names_told left (cond over listings.TooMany (listings.Names found)) ≡ Ok names → names ≡ found
few_names true left found names is e = absurd cc
few_names false left found names is e = let told = rw is at e in cc

names_by : (t : FileTree) (folder : List (List ℕ)) (left : ℕ) (names : List (List ℕ)) (e : Option Entry) → names_told left (list_of t folder left e) ≡ Ok names → names ≡ cond (is_folder e) (names_in t folder) []
names_by t folder left names None e = cc
names_by t folder left names (Some (entries.File bytes)) e = cc
names_by t folder left names (Some entries.Folder) e = few_names (nat_lt left (length (names_in t folder))) left (names_in t folder) names refl e
names_by t folder left names (Some entries.Other) e = cc

names_are : (t : FileTree) (folder : List (List ℕ)) (left : ℕ) (names : List (List ℕ)) → names_listed t folder left ≡ Ok names → names ≡ listed t folder
unfolding names_listed list_at
names_are t folder left names e = names_by t folder left names (entry_at t folder) e

-- what a `*` names in a folder
abbrev pub children : FileTree → Origin → List (List ℕ) → List (List (List ℕ))
children t origin folder = cond (is_installed origin.project (seen_from origin folder)) [] (shown_in folder (listed t (seen_from origin folder)))

folder_is : (t : FileTree) (origin : Origin) (folder : List (List ℕ)) (left : ℕ) (found : Found) → folder_expanded t origin folder left ≡ Ok found → found.paths ≡ children t origin folder
unfolding folder_expanded
folder_is t origin folder left found e = by_case (is_installed origin.project (seen_from origin folder)) e
  where
    by_case : (b : Bool) → cond b (Ok (record { paths = []; left = left })) (names_listed t (seen_from origin folder) left >>= (λ names. Ok (record { paths = shown_in folder names; left = left - length names }))) ≡ Ok found
        → found.paths ≡ cond b [] (shown_in folder (listed t (seen_from origin folder)))
    by_case true e = let same : found ≡ record { paths = []; left = left } = cc in ap (λ f. f.paths) same
    by_case false e =
        let w = went_on (names_listed t (seen_from origin folder) left) (λ names. Ok (record { paths = shown_in folder names; left = left - length names })) found e in
        let same : found ≡ record { paths = shown_in folder w.0; left = left - length w.0 } = let h = w.2 in cc in
        ap (λ f. f.paths) same ∙ ap (shown_in folder) (names_are t (seen_from origin folder) left w.0 w.1)

folders_are : (t : FileTree) (origin : Origin) (folders : List (List (List ℕ))) (found end : Found) → each_in_turn (then_expanded t origin) folders found ≡ Ok end
    → end.paths ≡ found.paths ++ flat_map (children t origin) folders
folders_are t origin [] found end e = ap (λ f. f.paths) (none_went_on (then_expanded t origin) found end e) ∙ sym (append-nil found.paths)
folders_are t origin (folder ∷ folders) found end e =
    let w = all_went_on (then_expanded t origin) folder folders found end e in
    let v = went_on (folder_expanded t origin folder found.left) (λ more. Ok (record { paths = found.paths ++ more.paths; left = more.left })) w.0 w.1 in
    let same : w.0 ≡ record { paths = found.paths ++ v.0.paths; left = v.0.left } = let h = v.2 in cc in
    folders_are t origin folders w.0 end w.2 ∙ ap (λ f. f.paths ++ flat_map (children t origin) folders) same
    ∙ append_assoc found.paths v.0.paths (flat_map (children t origin) folders)
    ∙ ap (λ paths. found.paths ++ (paths ++ flat_map (children t origin) folders)) (folder_is t origin folder found.left v.0 v.1)

-- ---- segments

-- what a segment names in a folder
abbrev pub below : FileTree → Origin → List ℕ → List (List ℕ) → List (List (List ℕ))
below t origin segment folder = cond (is_wild segment) (children t origin folder) ((folder ++ segment ∷ []) ∷ [])

-- in folders
abbrev pub named : FileTree → Origin → List ℕ → List (List (List ℕ)) → List (List (List ℕ))
named t origin segment folders = flat_map (below t origin segment) folders

one_behind_each : (segment : List ℕ) (folders : List (List (List ℕ))) → map (λ folder. folder ++ segment ∷ []) folders ≡ flat_map (λ folder. (folder ++ segment ∷ []) ∷ []) folders
one_behind_each segment [] = refl
one_behind_each segment (folder ∷ folders) = ap (λ more. (folder ++ segment ∷ []) ∷ more) (one_behind_each segment folders)

pub segment_is : (t : FileTree) (origin : Origin) (segment : List ℕ) (found end : Found) → segment_expanded t origin segment found ≡ Ok end → end.paths ≡ named t origin segment found.paths
unfolding segment_expanded
segment_is t origin segment found end e = by_case (is_wild segment) e
  where
    by_case : (b : Bool) → cond b (each_in_turn (then_expanded t origin) found.paths (record { paths = []; left = found.left })) (Ok (record { paths = map (λ folder. folder ++ segment ∷ []) found.paths; left = found.left })) ≡ Ok end
        → end.paths ≡ flat_map (λ folder. cond b (children t origin folder) ((folder ++ segment ∷ []) ∷ [])) found.paths
    by_case true e = folders_are t origin found.paths (record { paths = []; left = found.left }) end e
    by_case false e = let same : end ≡ record { paths = map (λ folder. folder ++ segment ∷ []) found.paths; left = found.left } = cc in ap (λ f. f.paths) same ∙ one_behind_each segment found.paths

-- what segments name in folders, one after the other
abbrev pub reached : FileTree → Origin → List (List ℕ) → List (List (List ℕ)) → List (List (List ℕ))
reached t origin [] folders = folders
reached t origin (segment ∷ segments) folders = reached t origin segments (named t origin segment folders)

pub pattern_is : (t : FileTree) (origin : Origin) (pattern : List (List ℕ)) (found end : Found) → pattern_expanded t origin pattern found ≡ Ok end → end.paths ≡ reached t origin pattern found.paths
pattern_is t origin [] found end e = ap (λ f. f.paths) (none_went_on (segment_expanded t origin) found end e)
pattern_is t origin (segment ∷ segments) found end e =
    let w = all_went_on (segment_expanded t origin) segment segments found end e in
    pattern_is t origin segments w.0 end w.2 ∙ ap (reached t origin segments) (segment_is t origin segment found w.0 w.1)

pub reached-append : (t : FileTree) (origin : Origin) (first second : List (List ℕ)) (folders : List (List (List ℕ))) → reached t origin (first ++ second) folders ≡ reached t origin second (reached t origin first folders)
reached-append t origin [] second folders = refl
reached-append t origin (segment ∷ first) second folders = reached-append t origin first second (named t origin segment folders)
