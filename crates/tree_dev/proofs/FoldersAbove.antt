-- Folders that are missing above a path.
use Rattle.std.proofs.Common.{◌≡◌, ℕ, suc, ◌+◌, ◌-◌, ◌≤◌, Bool, true, false, cond, ◌||◌, ◌&&◌, List, [], ◌∷◌, ◌++◌, length, take, Option, Some, None, is_none, is_some, refl, sym, ap, ◌∙◌, arith}
use Rattle.std.proofs.lemmas.List.{length-take-le}
use Rattle.std.proofs.Math.Seq.{take-length}
use Rattle.std.specs.FinMap.{get, same_map}
use Rattle.path_name.specs.Orders.{path_cmp_total, path_cmp_exact}
use Rattle.path_name.specs.Paths.{without_last}
use Rattle.tree_dev.specs.Trees.{FileTree}
use Rattle.tree_dev.specs.Memory.{prefixes, above, filled, with_folders}
use Rattle.tree_dev.specs.Moves.{with_all, paths_of, is_among}
use Rattle.tree_dev.specs.Placing.{AreFolders}
use Rattle.tree_dev.specs.declared.moves.Placed.{Placed}
use Rattle.tree_dev.specs.declared.entry.Entry.{Entry}
use Rattle.tree_dev.proofs.Ancestors.{climbed_above}
use Rattle.tree_dev.proofs.Lookups.{get-with_folders}
use Rattle.std.specs.List.{list_any}
use Rattle.tree_dev.proofs.ManyEntries.{get-with_all_other, get-with_folders_all, among-snoc}
use Rattle.tree_dev.proofs.SamePaths.{is_same, same_path}

-- one step up from a path of two segments or more
pub record GoesUp (path up : List (List ℕ)) : Type 0 where
  pub folders : above path ≡ up ∷ above up
  pub len : length path ≡ length up + 1

up_len : (path up : List (List ℕ)) → Some up ≡ without_last path → length path ≡ length up + 1
up_len [] up e = absurd cc
up_len (x ∷ xs) up e =
    let is : up ≡ take (length xs) (x ∷ xs) = cc in
    let n : length (take (length xs) (x ∷ xs)) ≡ length xs = length-take-le (length xs) (x ∷ xs) (omega arith) in
    rw (is, n) (omega arith)

all_above : (up : List (List ℕ)) → 1 ≤ length up → prefixes (length up) up ≡ up ∷ above up
all_above [] le = absurd (omega arith)
all_above (x ∷ xs) le =
    let one : suc (length xs) - 1 ≡ length xs = omega arith in
    rw one (ap (λ p. p ∷ prefixes (length xs) (x ∷ xs)) (take-length (x ∷ xs)))

pub goes_up : (path up : List (List ℕ)) (b : Bool) → without_last path ≡ cond b (Some up) None → 2 ≤ length path → GoesUp path up
goes_up [] up b e le = absurd (omega arith)
goes_up (x ∷ xs) up false e le = absurd cc
goes_up (x ∷ xs) up true e le =
    let n = up_len (x ∷ xs) up (sym e) in
    record { folders = climbed_above (x ∷ xs) up (sym e) ∙ all_above up (omega arith); len = n }

-- the folders that are missing, one at a time: put so far, here, and above
pub here_kept : (put here more none : Bool) → (here ≡ true → none ≡ false) → (put || (more && none)) ≡ (put || ((here || more) && none))
here_kept true here more none seen = refl
here_kept false true more true seen = absurd (let e = seen refl in cc)
here_kept false true true false seen = refl
here_kept false true false false seen = refl
here_kept false false more none seen = refl

pub here_made : (put here more none : Bool) → (here ≡ true → none ≡ true) → (put || here || (more && none)) ≡ (put || ((here || more) && none))
here_made true here more none seen = refl
here_made false true more true seen = refl
here_made false true more false seen = absurd (let e = seen refl in cc)
here_made false false more none seen = refl

-- they are the folders of a put
filled_or : (t : FileTree) (q : List (List ℕ)) (ps : List Placed) (here : Option Entry) (a b : Bool) → get t q ≡ here → is_among q (paths_of ps) ≡ b → AreFolders ps
    → b ≡ (a && is_none here) → get (with_all t ps) q ≡ filled here a
filled_or t q ps (Some x) a true e h all is = absurd (none_of a is)
  where
    none_of : (a : Bool) → true ≡ (a && false) → ⊥
    none_of true is = cc
    none_of false is = cc
filled_or t q ps (Some x) a false e h all is = get-with_all_other ps t q h ∙ e
filled_or t q ps None true true e h all is = get-with_folders_all ps t q all h
filled_or t q ps None true false e h all is = absurd cc
filled_or t q ps None false true e h all is = absurd cc
filled_or t q ps None false false e h all is = get-with_all_other ps t q h ∙ e

pub same_folders : (t : FileTree) (at : List (List ℕ)) (ps : List Placed) → AreFolders ps → ((q : List (List ℕ)) → is_among q (paths_of ps) ≡ (is_among q (above at) && is_none (get t q)))
    → with_all t ps ≡ with_folders t (above at)
same_folders t at ps all are = same_map path_cmp_total path_cmp_exact _ _ (λ q.
    filled_or t q ps (get t q) (is_among q (above at)) (is_among q (paths_of ps)) refl refl all (are q) ∙ sym (get-with_folders (above at) t q))

none_case : (a : Bool) (x : Option Entry) → (a && is_none x) ≡ true → x ≡ None
none_case true None e = refl
none_case true (Some x) e = absurd cc
none_case false x e = absurd cc

pub absent_before : (t : FileTree) (at : List (List ℕ)) (ps : List Placed) → ((q : List (List ℕ)) → is_among q (paths_of ps) ≡ (is_among q (above at) && is_none (get t q)))
    → (q : List (List ℕ)) → is_among q (paths_of ps) ≡ true → get t q ≡ None
absent_before t at ps are q e = none_case (is_among q (above at)) (get t q) (sym (are q) ∙ e)

-- what blocks a path: the folder above it, or one above that
pub blocked_here : (p : List (List ℕ) → Bool) (path up : List (List ℕ)) → GoesUp path up → p up ≡ true → list_any p (above path) ≡ true
blocked_here p path up goes e = ap (list_any p) goes.folders ∙ rw e refl

pub blocked_above : (p : List (List ℕ) → Bool) (path up : List (List ℕ)) → GoesUp path up → p up ≡ false → list_any p (above up) ≡ list_any p (above path)
blocked_above p path up goes e = sym (ap (list_any p) goes.folders ∙ rw e refl)

-- one more look for a missing folder
abbrev pub AreMissing : FileTree → List (List ℕ) → List Placed → List (List ℕ) → Type 0
AreMissing t at ps folder = (q : List (List ℕ)) → (is_among q (paths_of ps) || (is_among q (above folder) && is_none (get t q))) ≡ (is_among q (above at) && is_none (get t q))

present_there : (t : FileTree) (up q : List (List ℕ)) → is_some (get t up) ≡ true → is_same q up ≡ true → is_none (get t q) ≡ false
present_there t up q has same = let here : get t q ≡ get t up = ap (get t) (same_path q up same) in some_is_not_none (get t q) (ap is_some here ∙ has)
  where
    some_is_not_none : (x : Option Entry) → is_some x ≡ true → is_none x ≡ false
    some_is_not_none None e = absurd cc
    some_is_not_none (Some x) e = refl

absent_there : (t : FileTree) (up q : List (List ℕ)) → is_some (get t up) ≡ false → is_same q up ≡ true → is_none (get t q) ≡ true
absent_there t up q has same = let here : get t q ≡ get t up = ap (get t) (same_path q up same) in none_is_none (get t q) (ap is_some here ∙ has)
  where
    none_is_none : (x : Option Entry) → is_some x ≡ false → is_none x ≡ true
    none_is_none None e = refl
    none_is_none (Some x) e = absurd cc

pub missing_kept : (t : FileTree) (at folder up : List (List ℕ)) (ps : List Placed) → GoesUp folder up → is_some (get t up) ≡ true → AreMissing t at ps folder → AreMissing t at ps up
missing_kept t at folder up ps goes has are q =
    here_kept (is_among q (paths_of ps)) (is_same q up) (is_among q (above up)) (is_none (get t q)) (present_there t up q has)
    ∙ ap (λ paths. is_among q (paths_of ps) || (is_among q paths && is_none (get t q))) (sym goes.folders) ∙ are q

pub missing_made : (t : FileTree) (at folder : List (List ℕ)) (ps : List Placed) (p : Placed) → GoesUp folder p.at → is_some (get t p.at) ≡ false → AreMissing t at ps folder
    → AreMissing t at (ps ++ p ∷ []) p.at
missing_made t at folder ps p goes has are q =
    ap (λ b. b || (is_among q (above p.at) && is_none (get t q))) (among-snoc ps p q)
    ∙ here_made (is_among q (paths_of ps)) (is_same q p.at) (is_among q (above p.at)) (is_none (get t q)) (absent_there t p.at q has)
    ∙ ap (λ paths. is_among q (paths_of ps) || (is_among q paths && is_none (get t q))) (sym goes.folders) ∙ are q
