-- Which parts a job has.
use Rattle.std.proofs.Common.{◌≡◌, ◌≢◌, ◌⊎◌, ℕ, Bool, true, false, ◌||◌, ◌&&◌, cond, List, [], ◌∷◌, ◌++◌, map, Option, Some, None, is_some, refl, sym, ap, subst, ◌∙◌, inl, inr, append-nil, append_assoc}
use Rattle.std.specs.Bool.{Decides}
use Rattle.std.specs.FinMap as maps
use Rattle.std.specs.Ordering.{eq_by_cmp, is_eq}
use Rattle.path_name.specs.Orders.{byte_cmp, path_cmp}
use Rattle.path_name.specs.Paths.{without_last}
use Rattle.tree_dev.specs.Told.{both, equal_paths, one_of}
use Rattle.tree_dev.specs.Trees.{FileTree, IsTree, behind, entry_at, has_folder, is_folder, names_in}
use Rattle.tree_dev.specs.Changes.{is_leaf}
use Rattle.tree_dev.specs.Projects.{vendor_path}
use Rattle.tree_dev.specs.declared.entry.Entry.{Entry}
use Rattle.tree_dev.specs.declared.entry.Entry.TheVariants as entries
use Rattle.tree_dev.proofs.Behind.{head_behind}
use Rattle.tree_dev.proofs.NamesIn.{names_exactly}
use Rattle.tree_dev.proofs.Snoc.{parent_of, without_last-snoc}
use Rattle.stage_job.specs.Copied.{is_among}
use Rattle.stage_job.specs.Jobs.{is_gone}
use Rattle.stage_job.specs.declared.job.Part.{Part}
use Rattle.stage_job.specs.declared.job.Source.{Source}
use Rattle.stage_job.specs.declared.job.Source.TheVariants as sources
use Rattle.package_moves.specs.Found.{AreStanding}
use Rattle.package_moves.specs.Joined.{if_blocked, if_left, if_outside, left_after, left_outside, left_parts, own_parts}
use Rattle.package_moves.specs.Moves.{HasFolders, IsAmong, IsJobFor, is_in_way}
use Rattle.package_moves.specs.Needed.{Needs, gone_part, gone_parts, is_blocked, is_blocked_of, names_of, needs_of, unneeded}
use Rattle.package_moves.specs.Wanted.{AreWanted, IsWantedTarget, Stands, is_short, vendor_name, wanted_entry}
use Rattle.stage_job.proofs.Below.{same_name}
use Rattle.package_moves.proofs.SameEntries.{nothing_below}
use Rattle.package_moves.proofs.PathsBehind.{itself}

-- ---- among

pub among_first : (xs ys : List Part) (part : Part) → IsAmong xs part → IsAmong (xs ++ ys) part
among_first [] ys part among = absurd among
among_first (x ∷ xs) ys part (inl e) = inl e
among_first (x ∷ xs) ys part (inr more) = inr (among_first xs ys part more)

pub among_last : (xs ys : List Part) (part : Part) → IsAmong ys part → IsAmong (xs ++ ys) part
among_last [] ys part among = among
among_last (x ∷ xs) ys part among = inr (among_last xs ys part among)

pub among_either : (xs ys : List Part) (part : Part) → IsAmong (xs ++ ys) part → IsAmong xs part ⊎ IsAmong ys part
among_either [] ys part among = inr among
among_either (x ∷ xs) ys part (inl e) = inl (inl e)
among_either (x ∷ xs) ys part (inr more) = by (among_either xs ys part more)
  where
    by : IsAmong xs part ⊎ IsAmong ys part → (IsAmong (x ∷ xs) part) ⊎ IsAmong ys part
    by (inl a) = inl (inr a)
    by (inr b) = inr b

all_gone : (paths : List (List (List ℕ))) (part : Part) → IsAmong (map gone_part paths) part → is_gone part.from ≡ true
all_gone [] part among = absurd among
all_gone (path ∷ paths) part (inl e) = ap (λ (p : Part). is_gone p.from) (sym e)
all_gone (path ∷ paths) part (inr more) = all_gone paths part more

-- ---- what is left, where nothing is in the way

pub own_left : (project : List (List ℕ)) (t : FileTree) (x : Part) (flag : Bool) (part : Part) → Decides flag (Stands project t x) → IsAmong (if_left flag x) part → (x ≡ part) × (Stands project t part → ⊥)
own_left project t x true part decides among = absurd among
own_left project t x false part decides (inl e) = (e, (λ stands. absurd (let is = decides.1 (subst (λ (p : Part). Stands project t p) (sym e) stands) in cc)))
own_left project t x false part decides (inr more) = absurd more

module _ (project : List (List ℕ)) (t : FileTree) (wanted : List Part) (blocked : List (List ℕ) → Bool) (part : Part) where
  none_blocked : ((path : List (List ℕ)) → blocked path ≡ false) → (o : Option (List (List ℕ))) → if_blocked blocked o ≡ None
  none_blocked clear None = refl
  none_blocked clear (Some folder) = ap (λ (b : Bool). cond b (Some folder) None) (clear folder)

  left_is : ((path : List (List ℕ)) → blocked path ≡ false) → (earlier parts : List Part) (flags : List Bool) → AreStanding project t parts flags → IsAmong (left_after blocked wanted earlier parts flags) part
      → IsAmong parts part × (Stands project t part → ⊥)
  left_is clear earlier [] flags standing among = absurd among
  left_is clear earlier (x ∷ xs) [] standing among = absurd among
  left_is clear earlier (x ∷ xs) (flag ∷ flags) standing among =
      by (among_either (if_left flag x) (left_after blocked wanted (earlier ++ x ∷ []) xs flags) part
      (subst (λ (o : Option (List (List ℕ))). IsAmong (own_parts wanted earlier x flag o ++ left_after blocked wanted (earlier ++ x ∷ []) xs flags) part) (none_blocked clear (without_last x.target)) among))
      (left_is clear (earlier ++ x ∷ []) xs flags standing.1)
    where
      by : IsAmong (if_left flag x) part ⊎ IsAmong (left_after blocked wanted (earlier ++ x ∷ []) xs flags) part
          → (IsAmong (left_after blocked wanted (earlier ++ x ∷ []) xs flags) part → IsAmong xs part × (Stands project t part → ⊥)) → (IsAmong (x ∷ xs) part) × (Stands project t part → ⊥)
      by (inl own) more = let is = own_left project t x flag part standing.0 own in (inl is.0, is.1)
      by (inr rest) more = let is = more rest in (inr is.0, is.1)

  -- a part that does not stand is left, where nothing is in its way
  own_among : (flag : Bool) → Decides flag (Stands project t part) → (Stands project t part → ⊥) → IsAmong (if_left flag part) part
  own_among true decides never = absurd (never (decides.0 refl))
  own_among false decides never = inl refl

  pub left_has : (earlier parts : List Part) (flags : List Bool) → AreStanding project t parts flags → IsAmong parts part → (Stands project t part → ⊥)
      → if_blocked blocked (without_last part.target) ≡ None → IsAmong (left_after blocked wanted earlier parts flags) part
  left_has earlier [] flags standing among never free = absurd among
  left_has earlier (x ∷ xs) [] standing among never free = absurd standing
  left_has earlier (x ∷ xs) (flag ∷ flags) standing (inl e) never free =
      among_first (own_parts wanted earlier x flag (if_blocked blocked (without_last x.target))) (left_after blocked wanted (earlier ++ x ∷ []) xs flags) part
      (subst (λ (p : Part). IsAmong (own_parts wanted earlier p flag (if_blocked blocked (without_last p.target))) part) (sym e)
      (subst (λ (o : Option (List (List ℕ))). IsAmong (own_parts wanted earlier part flag o) part) (sym free)
      (own_among flag (subst (λ (p : Part). Decides flag (Stands project t p)) e standing.0) never)))
  left_has earlier (x ∷ xs) (flag ∷ flags) standing (inr more) never free =
      among_last (own_parts wanted earlier x flag (if_blocked blocked (without_last x.target))) (left_after blocked wanted (earlier ++ x ∷ []) xs flags) part
      (left_has (earlier ++ x ∷ []) xs flags standing.1 more never free)

  pub outside_has : (parts : List Part) (flags : List Bool) → AreStanding project t parts flags → IsAmong parts part → (Stands project t part → ⊥)
      → behind vendor_name part.target ≡ None → IsAmong (left_outside parts flags) part
  outside_has [] flags standing among never free = absurd among
  outside_has (x ∷ xs) [] standing among never free = absurd standing
  outside_has (x ∷ xs) (flag ∷ flags) standing (inl e) never free =
      among_first (if_outside (behind vendor_name x.target) flag x) (left_outside xs flags) part
      (subst (λ (p : Part). IsAmong (if_outside (behind vendor_name p.target) flag p) part) (sym e)
      (subst (λ (o : Option (List (List ℕ))). IsAmong (if_outside o flag part) part) (sym free)
      (own_among flag (subst (λ (p : Part). Decides flag (Stands project t p)) e standing.0) never)))
  outside_has (x ∷ xs) (flag ∷ flags) standing (inr more) never free =
      among_last (if_outside (behind vendor_name x.target) flag x) (left_outside xs flags) part (outside_has xs flags standing.1 more never free)

pub parts_wanted : (project : List (List ℕ)) (t : FileTree) (wanted parts : List Part) (part : Part) → HasFolders project t wanted → IsJobFor project t wanted parts → IsAmong parts part → is_gone part.from ≡ false
    → IsAmong wanted part × (Stands project t part → ⊥)
parts_wanted project t wanted parts part folders (inl makes) among there = absurd (let a = makes.no_folder in let b = folders.vendor in cc)
parts_wanted project t wanted parts part folders (inr makes) among there =
    by (among_either (left_parts (is_in_way project t wanted) wanted makes.flags) (gone_parts project t wanted) part (subst (λ (ps : List Part). IsAmong ps part) makes.parts_are among))
  where
    by : IsAmong (left_parts (is_in_way project t wanted) wanted makes.flags) part ⊎ IsAmong (gone_parts project t wanted) part → IsAmong wanted part × (Stands project t part → ⊥)
    by (inl left) = left_is project t wanted (is_in_way project t wanted) part folders.names [] wanted makes.flags makes.are_standing left
    by (inr gone) = absurd (let is = all_gone (unneeded (needs_of wanted) project t) part gone in cc)

-- ---- files

files_same : (a b : List ℕ) → ◌≡◌ {A = Option Entry} (Some (entries.File a)) (Some (entries.File b)) → a ≡ b
files_same a b e = cc

-- the folder above a path below a project
above_join : (project target folder : List (List ℕ)) → without_last target ≡ Some folder → without_last (project ++ target) ≡ Some (project ++ folder)
above_join project target folder is =
    let parent = parent_of target folder is in
    ap (λ (q : List (List ℕ)). without_last (project ++ q)) parent.1 ∙ ap without_last (sym (append_assoc project folder (parent.0 ∷ []))) ∙ without_last-snoc (project ++ folder) parent.0

has_entry : (t : FileTree) (path : List (List ℕ)) (bytes : List ℕ) → entry_at t path ≡ Some (entries.File bytes) → is_some (maps.get t path) ≡ true
has_entry t [] bytes is = absurd cc
has_entry t (x ∷ xs) bytes is = ap is_some is

pub leaf_and_folder : (e : Option Entry) → is_leaf e ≡ true → is_folder e ≡ true → ⊥
leaf_and_folder None leaf folder = cc
leaf_and_folder (Some (entries.File bytes)) leaf folder = cc
leaf_and_folder (Some entries.Folder) leaf folder = cc
leaf_and_folder (Some entries.Other) leaf folder = cc

module _ (needs : Needs) (project : List (List ℕ)) (t : FileTree) where
  blocked_leaf_by : (folder names path : List (List ℕ)) → is_blocked_of needs project t folder names path ≡ true → is_leaf (entry_at t (project ++ path)) ≡ true
  blocked_leaf_by folder [] path is = absurd cc
  blocked_leaf_by folder (n ∷ ns) path is =
      by (one_of (is_eq (path_cmp (folder ++ n ∷ []) path) && is_blocked needs project t (folder ++ n ∷ [])) (is_blocked_of needs project t folder ns path) is) (blocked_leaf_by folder ns path)
    where
      by : ((is_eq (path_cmp (folder ++ n ∷ []) path) && is_blocked needs project t (folder ++ n ∷ [])) ≡ true) ⊎ (is_blocked_of needs project t folder ns path ≡ true)
          → (is_blocked_of needs project t folder ns path ≡ true → is_leaf (entry_at t (project ++ path)) ≡ true) → is_leaf (entry_at t (project ++ path)) ≡ true
      by (inl here) more =
          let parts = both (is_eq (path_cmp (folder ++ n ∷ []) path)) (is_blocked needs project t (folder ++ n ∷ [])) here in
          ap (λ (q : List (List ℕ)). is_leaf (entry_at t (project ++ q))) (sym (equal_paths (folder ++ n ∷ []) path parts.0))
          ∙ (both (needs.is_above (folder ++ n ∷ [])) (is_leaf (entry_at t (project ++ (folder ++ n ∷ [])))) parts.1).1
      by (inr later) more = more later

-- something that is no folder is in the way
pub in_way_is_leaf : (project : List (List ℕ)) (t : FileTree) (wanted : List Part) (path : List (List ℕ)) → is_in_way project t wanted path ≡ true → is_leaf (entry_at t (project ++ path)) ≡ true
in_way_is_leaf project t wanted path is = blocked_leaf_by (needs_of wanted) project t vendor_name (names_of t (vendor_path project)) path is

-- something is in the way at a name that is listed
pub blocked_listed : (needs : Needs) (project : List (List ℕ)) (t : FileTree) (names : List (List ℕ)) (n : List ℕ) → is_among n names ≡ true → is_blocked needs project t (vendor_name ++ n ∷ []) ≡ true → is_blocked_of needs project t vendor_name names (vendor_name ++ n ∷ []) ≡ true
blocked_listed needs project t [] n among blocked = absurd cc
blocked_listed needs project t (x ∷ xs) n among blocked = by (eq_by_cmp byte_cmp n x) refl among (λ more. blocked_listed needs project t xs n more blocked)
  where
    or_first : (a b : Bool) → a ≡ true → (a || b) ≡ true
    or_first true b e = refl
    or_first false b e = absurd cc

    or_last : (a b : Bool) → b ≡ true → (a || b) ≡ true
    or_last true b e = refl
    or_last false b e = e

    both_true : (a b : Bool) → a ≡ true → b ≡ true → (a && b) ≡ true
    both_true true b e f = f
    both_true false b e f = absurd cc

    by : (b : Bool) → eq_by_cmp byte_cmp n x ≡ b → (b || is_among n xs) ≡ true → (is_among n xs ≡ true → is_blocked_of needs project t vendor_name xs (vendor_name ++ n ∷ []) ≡ true)
        → ((is_eq (path_cmp (vendor_name ++ x ∷ []) (vendor_name ++ n ∷ [])) && is_blocked needs project t (vendor_name ++ x ∷ [])) || is_blocked_of needs project t vendor_name xs (vendor_name ++ n ∷ [])) ≡ true
    by true e there more =
        or_first (is_eq (path_cmp (vendor_name ++ x ∷ []) (vendor_name ++ n ∷ [])) && is_blocked needs project t (vendor_name ++ x ∷ [])) (is_blocked_of needs project t vendor_name xs (vendor_name ++ n ∷ []))
        (subst (λ (y : List ℕ). (is_eq (path_cmp (vendor_name ++ y ∷ []) (vendor_name ++ n ∷ [])) && is_blocked needs project t (vendor_name ++ y ∷ [])) ≡ true) (same_name n x e)
        (both_true (is_eq (path_cmp (vendor_name ++ n ∷ []) (vendor_name ++ n ∷ []))) (is_blocked needs project t (vendor_name ++ n ∷ [])) (itself (vendor_name ++ n ∷ [])) blocked))
    by false e there more =
        or_last (is_eq (path_cmp (vendor_name ++ x ∷ []) (vendor_name ++ n ∷ [])) && is_blocked needs project t (vendor_name ++ x ∷ [])) (is_blocked_of needs project t vendor_name xs (vendor_name ++ n ∷ [])) (more there)

-- what is in the way stands at a name of `vendor`
pub in_way_is_name : (project : List (List ℕ)) (t : FileTree) (wanted : List Part) (path : List (List ℕ)) → is_in_way project t wanted path ≡ true → (n : List ℕ) × (path ≡ vendor_name ++ n ∷ [])
in_way_is_name project t wanted path is = at (names_of t (vendor_path project)) is
  where
    by : (x : List ℕ) (xs : List (List ℕ)) → ((is_eq (path_cmp (vendor_name ++ x ∷ []) path) && is_blocked (needs_of wanted) project t (vendor_name ++ x ∷ [])) ≡ true) ⊎ (is_blocked_of (needs_of wanted) project t vendor_name xs path ≡ true)
        → (is_blocked_of (needs_of wanted) project t vendor_name xs path ≡ true → (n : List ℕ) × (path ≡ vendor_name ++ n ∷ [])) → (n : List ℕ) × (path ≡ vendor_name ++ n ∷ [])
    by x xs (inl here) more = (x, sym (equal_paths (vendor_name ++ x ∷ []) path (both (is_eq (path_cmp (vendor_name ++ x ∷ []) path)) (is_blocked (needs_of wanted) project t (vendor_name ++ x ∷ [])) here).0))
    by x xs (inr later) more = more later

    at : (names : List (List ℕ)) → is_blocked_of (needs_of wanted) project t vendor_name names path ≡ true → (n : List ℕ) × (path ≡ vendor_name ++ n ∷ [])
    at [] e = absurd cc
    at (x ∷ xs) e = by x xs (one_of (is_eq (path_cmp (vendor_name ++ x ∷ []) path) && is_blocked (needs_of wanted) project t (vendor_name ++ x ∷ [])) (is_blocked_of (needs_of wanted) project t vendor_name xs path) e) (at xs)

-- below what is no folder stands nothing
pub nothing_below_leaf : (t : FileTree) (at : List (List ℕ)) (n : List ℕ) (rest : List (List ℕ)) → IsTree t → is_leaf (entry_at t at) ≡ true → entry_at t (at ++ n ∷ rest) ≡ None
nothing_below_leaf t at n rest tree leaf = nothing_below t at n rest tree (by (is_among n (names_in t at)) refl)
  where
    by : (b : Bool) → is_among n (names_in t at) ≡ b → is_among n (names_in t at) ≡ false
    by true e = absurd (leaf_and_folder (entry_at t at) leaf
        (ap (has_folder t) (sym (without_last-snoc at n)) ∙ tree.below_folders (at ++ n ∷ []) (sym (names_exactly t at n) ∙ e)))
    by false e = e

pub wanted_target : (wanted : List Part) (part : Part) → AreWanted wanted → IsAmong wanted part → IsWantedTarget part.target
wanted_target [] part are among = absurd among
wanted_target (x ∷ xs) part are (inl e) = subst (λ (p : Part). IsWantedTarget p.target) e are.0
wanted_target (x ∷ xs) part are (inr more) = wanted_target xs part are.3 more

-- a target in `vendor` lies below it
in_vendor : (target below : List (List ℕ)) → IsWantedTarget target → behind vendor_name target ≡ Some below → (n : List ℕ) × ((rest : List (List ℕ)) × (target ≡ vendor_name ++ n ∷ rest))
in_vendor target below (inl e) is = absurd (let none : behind vendor_name target ≡ None = ap (behind vendor_name) e ∙ refl in cc)
in_vendor target [] (inr short) is = absurd (let never : is_short (behind vendor_name target) ≡ false = ap is_short is in cc)
in_vendor target (n ∷ rest) (inr short) is = (n, (rest, head_behind vendor_name target (n ∷ rest) is))

module _ (project : List (List ℕ)) (t : FileTree) (wanted : List Part) (part : Part) (bytes found : List ℕ) (tree : IsTree t) (from : part.from ≡ sources.Bytes bytes)
    (there : entry_at t (project ++ part.target) ≡ Some (entries.File found)) (other : found ≢ bytes) where
  never_stands : Stands project t part → ⊥
  never_stands stands =
      let same : Some (entries.File found) ≡ Some (entries.File bytes) =
      sym there ∙ ap (entry_at t) (sym (append-nil (project ++ part.target))) ∙ stands.each [] ∙ ap (λ (s : Source). wanted_entry t s []) from in
      other (files_same found bytes same)

  free_by : (o : Option (List (List ℕ))) → without_last part.target ≡ o → if_blocked (is_in_way project t wanted) o ≡ None
  free_by None is = refl
  free_by (Some folder) is = by (is_in_way project t wanted folder) refl
    where
      by : (b : Bool) → is_in_way project t wanted folder ≡ b → cond b (Some folder) None ≡ None
      by true e = absurd (leaf_and_folder (entry_at t (project ++ folder)) (in_way_is_leaf project t wanted folder e)
          (ap (has_folder t) (sym (above_join project part.target folder is)) ∙ tree.below_folders (project ++ part.target) (has_entry t (project ++ part.target) found there)))
      by false e = refl

  outside_by : IsWantedTarget part.target → is_leaf (entry_at t (vendor_path project)) ≡ true → (o : Option (List (List ℕ))) → behind vendor_name part.target ≡ o → o ≡ None
  outside_by target leaf None is = refl
  outside_by target leaf (Some below) is = absurd (
      let at = in_vendor part.target below target is in
      let none = nothing_below_leaf t (vendor_path project) at.0 at.1.0 tree leaf in
      let path : project ++ part.target ≡ vendor_path project ++ at.0 ∷ at.1.0 = ap (λ (q : List (List ℕ)). project ++ q) at.1.1 ∙ sym (append_assoc project vendor_name (at.0 ∷ at.1.0)) in
      let some : entry_at t (vendor_path project ++ at.0 ∷ at.1.0) ≡ Some (entries.File found) = ap (entry_at t) (sym path) ∙ there in cc)

  pub stands_alone : (parts : List Part) → AreWanted wanted → IsJobFor project t wanted parts → IsAmong wanted part → IsAmong parts part
  stands_alone parts are (inl makes) among =
      subst (λ (ps : List Part). IsAmong ps part) (sym makes.parts_are)
      (inr (outside_has project t wanted (is_in_way project t wanted) part wanted makes.flags makes.are_standing among never_stands
      (outside_by (wanted_target wanted part are among) makes.no_folder (behind vendor_name part.target) refl)))
  stands_alone parts are (inr makes) among =
      subst (λ (ps : List Part). IsAmong ps part) (sym makes.parts_are)
      (among_first (left_parts (is_in_way project t wanted) wanted makes.flags) (gone_parts project t wanted) part
      (left_has project t wanted (is_in_way project t wanted) part [] wanted makes.flags makes.are_standing among never_stands (free_by (without_last part.target) refl)))
