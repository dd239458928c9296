-- Jobs can be staged: what their parts put, and that their targets are apart.
use Rattle.std.proofs.Common.{◌≡◌, ◌⊎◌, ℕ, Bool, true, false, ◌||◌, cond, List, [], ◌∷◌, ◌++◌, map, Option, Some, None, filter_map, refl, sym, ap, subst, ◌∙◌, inl, inr}
use Rattle.std.specs.BTreeSet.{contains}
use Rattle.path_name.specs.Orders.{path_cmp}
use Rattle.path_name.specs.Paths.{without_last}
use Rattle.tree_dev.specs.Told.{equal_paths}
use Rattle.tree_dev.specs.Trees.{behind}
use Rattle.tree_dev.proofs.Behind.{behind_head, head_behind}
use Rattle.tree_dev.proofs.ProjectParts.{behind_same_head}
use Rattle.tree_dev.proofs.Snoc.{parent_of, without_last-snoc}
use Rattle.stage_job.specs.Jobs.{AreApart, AreInner, AreParts, CanPut, IsInnerApart, IsTarget, IsTargetApart}
use Rattle.stage_job.specs.declared.job.Inner.{Inner}
use Rattle.stage_job.specs.declared.job.Leaf.{Leaf}
use Rattle.stage_job.specs.declared.job.Leaf.TheVariants as leaves
use Rattle.stage_job.specs.declared.job.Part.{Part}
use Rattle.stage_job.specs.declared.job.Source.{Source}
use Rattle.stage_job.specs.declared.job.Source.TheVariants as sources
use Rattle.package_moves.specs.Gathered.{inner_list}
use Rattle.package_moves.specs.Joined.{folder_part, if_blocked, if_left, if_outside, inner_at, inner_below, inner_in, is_in, left_after, left_outside, left_parts, own_parts, vendor_part}
use Rattle.package_moves.specs.Known.{AreAllApart, AreKnown, ArePathsApart, IsAlone, IsBesideTargets, IsKnown}
use Rattle.package_moves.specs.Moves.{IsAmong}
use Rattle.package_moves.specs.Needed.{Needs, gone_part, is_folder_at, needs_of}
use Rattle.package_moves.specs.Wanted.{AreWanted, vendor_name}
use Rattle.package_moves.specs.declared.unneeded.Found.{Found}
use Rattle.package_moves.proofs.JobLaws.{wanted_target}
use Rattle.package_moves.proofs.KnownSteps.{other_name}
use Rattle.package_moves.proofs.PathsBehind.{itself}
use Rattle.package_moves.proofs.UnneededPaths.{Shape, is_above_of, lock_apart, not_both, one_by, shape_of, two_by}

-- ---- lists of parts

apart_append : (target : List (List ℕ)) (xs ys : List Part) → IsTargetApart target xs → IsTargetApart target ys → IsTargetApart target (xs ++ ys)
apart_append target [] ys a b = b
apart_append target (x ∷ xs) ys a b = (a.0, apart_append target xs ys a.1 b)

-- the target of each of these is apart from those of others
abbrev AllApartFrom : List Part → List Part → Type 0
AllApartFrom [] ys = Unit {0}
AllApartFrom (x ∷ xs) ys = IsTargetApart x.target ys × AllApartFrom xs ys

parts_append : (project : List (List ℕ)) (xs ys : List Part) → AreParts project xs → AreParts project ys → AllApartFrom xs ys → AreParts project (xs ++ ys)
parts_append project [] ys a b apart = b
parts_append project (x ∷ xs) ys a b apart = (a.0, a.1, apart_append x.target xs ys a.2 apart.0, parts_append project xs ys a.3 b apart.1)

back : (a b : List (List ℕ)) → AreApart a b → AreApart b a
back a b apart = (apart.1, apart.0)

-- ---- what is to go

gone_apart_from : (target : List (List ℕ)) (paths : List (List (List ℕ))) → AreAllApart paths target → IsTargetApart target (map gone_part paths)
gone_apart_from target [] all = tt
gone_apart_from target (p ∷ ps) all = (back p target all.0, gone_apart_from target ps all.1)

module _ (needs : Needs) (blocked : List (List ℕ) → Bool) (names : List (List ℕ)) where
  gone_target : (path : List (List ℕ)) → IsAlone needs names path ⊎ IsBesideTargets needs blocked names path → IsTarget path
  gone_target path (inl one) = subst IsTarget (sym one.is) (inr refl)
  gone_target path (inr two) = subst IsTarget (sym two.is) (inr refl)

  gone_are_parts : (project : List (List ℕ)) (paths : List (List (List ℕ))) → AreKnown needs blocked names paths → ArePathsApart paths → AreParts project (map gone_part paths)
  gone_are_parts project [] known apart = tt
  gone_are_parts project (p ∷ ps) known apart = (gone_target p known.0, tt, gone_apart_from p ps apart.0, gone_are_parts project ps known.1 apart.1)

  -- what is to go is apart from a folder that is in the way
  gone_from_way : (n : List ℕ) → needs.is_above (vendor_name ++ n ∷ []) ≡ true → blocked (vendor_name ++ n ∷ []) ≡ true → (paths : List (List (List ℕ))) → AreKnown needs blocked names paths → AreAllApart paths (vendor_name ++ n ∷ [])
  gone_from_way n above way [] known = tt
  gone_from_way n above way (p ∷ ps) known = (by known.0, gone_from_way n above way ps known.1)
    where
      by : IsAlone needs names p ⊎ IsBesideTargets needs blocked names p → AreApart p (vendor_name ++ n ∷ [])
      by (inl one) = subst (λ (q : List (List ℕ)). AreApart q (vendor_name ++ n ∷ [])) (sym one.is)
          (other_name one.name n [] [] (λ e. absurd (let other : needs.is_above (vendor_name ++ n ∷ []) ≡ false = ap (λ (x : List ℕ). needs.is_above (vendor_name ++ x ∷ [])) (sym e) ∙ ap needs.is_above (sym one.is) ∙ one.above in cc)))
      by (inr two) = subst (λ (q : List (List ℕ)). AreApart q (vendor_name ++ n ∷ [])) (sym two.is)
          (other_name two.name n (two.last ∷ []) [] (λ e. absurd (let other : blocked (vendor_name ++ n ∷ []) ≡ false = ap (λ (x : List ℕ). blocked (vendor_name ++ x ∷ [])) (sym e) ∙ two.free in cc)))

-- what is to go is apart from each target
gone_from_target : (wanted : List Part) → AreWanted wanted → (part : Part) → IsAmong wanted part → (blocked : List (List ℕ) → Bool) (names : List (List ℕ)) (paths : List (List (List ℕ))) → AreKnown (needs_of wanted) blocked names paths
    → AreAllApart paths part.target
gone_from_target wanted are part among blocked names [] known = tt
gone_from_target wanted are part among blocked names (p ∷ ps) known = (by known.0, gone_from_target wanted are part among blocked names ps known.1)
  where
    by : IsAlone (needs_of wanted) names p ⊎ IsBesideTargets (needs_of wanted) blocked names p → AreApart p part.target
    by (inl one) = subst (λ (q : List (List ℕ)). AreApart q part.target) (sym one.is)
        (one_by wanted are part among one.name (ap (needs_of wanted).is_above (sym one.is) ∙ one.above) (ap (needs_of wanted).is_target (sym one.is) ∙ one.target) (shape_of part.target (wanted_target wanted part are among)))
    by (inr two) = subst (λ (q : List (List ℕ)). AreApart q part.target) (sym two.is)
        (two_by wanted are part among two.name two.last two.above (ap (needs_of wanted).is_target (sym two.is) ∙ two.target) (shape_of part.target (wanted_target wanted part are among)))

-- ---- parts of a folder

abbrev is_some_below : Option (List (List ℕ)) → Bool
is_some_below None = false
is_some_below (Some []) = false
is_some_below (Some (name ∷ rest)) = true

-- a part of a folder that stands apart from another part stands apart from its place
inner_apart_by : (folder below : List (List ℕ)) (part other : Part) (from : Leaf) (o : Option (List (List ℕ))) → part.target ≡ folder ++ below → behind folder other.target ≡ o → AreApart part.target other.target
    → (rest : List Inner) → IsInnerApart (record { below = below; from = from }) rest → IsInnerApart (record { below = below; from = from }) (inner_list (inner_at other.from o) ++ rest)
inner_apart_by folder below part other from None is e apart rest more = more
inner_apart_by folder below part other from (Some place) is e apart rest more = by other.from
  where
    both : AreApart below place
    both = (
      sym (behind_same_head folder below place) ∙ ap (behind (folder ++ below)) (sym (head_behind folder other.target place e)) ∙ ap (λ (p : List (List ℕ)). behind p other.target) (sym is) ∙ apart.0,
      sym (behind_same_head folder place below) ∙ ap (behind (folder ++ place)) (sym is) ∙ ap (λ (p : List (List ℕ)). behind p part.target) (sym (head_behind folder other.target place e)) ∙ apart.1,
    )

    by : (s : Source) → IsInnerApart (record { below = below; from = from }) (inner_list (inner_at s (Some place)) ++ rest)
    by (sources.Copy source) = (both, more)
    by (sources.Bytes bytes) = (both, more)
    by (sources.Folder inner) = more
    by sources.Gone = more

-- a function that gives parts of a folder as they stand below it, or nothing
abbrev pub GivesBelow : List (List ℕ) → (Part → Option Inner) → Type 0
GivesBelow folder f = (part : Part) → (f part ≡ None) ⊎ (f part ≡ inner_below folder part)

module _ (project folder : List (List ℕ)) (f : Part → Option Inner) (gives : GivesBelow folder f) where
  pub map_one : (x : Part) (xs : List Part) → filter_map f (x ∷ xs) ≡ inner_list (f x) ++ filter_map f xs
  map_one x xs = by (f x) refl
    where
      by : (o : Option Inner) → f x ≡ o → filter_map f (x ∷ xs) ≡ inner_list o ++ filter_map f xs
      by None e = rw e refl
      by (Some inner) e = rw e refl

  rest_apart : (below : List (List ℕ)) (part : Part) (from : Leaf) (parts : List Part) → part.target ≡ folder ++ below → IsTargetApart part.target parts → IsInnerApart (record { below = below; from = from }) (filter_map f parts)
  rest_apart below part from [] is apart = tt
  rest_apart below part from (x ∷ xs) is apart =
      subst (λ (inner : List Inner). IsInnerApart (record { below = below; from = from }) inner) (sym (map_one x xs)) (by (gives x) (rest_apart below part from xs is apart.1))
    where
      by : (f x ≡ None) ⊎ (f x ≡ inner_below folder x) → IsInnerApart (record { below = below; from = from }) (filter_map f xs) → IsInnerApart (record { below = below; from = from }) (inner_list (f x) ++ filter_map f xs)
      by (inl e) more = subst (λ (o : Option Inner). IsInnerApart (record { below = below; from = from }) (inner_list o ++ filter_map f xs)) (sym e) more
      by (inr e) more = subst (λ (o : Option Inner). IsInnerApart (record { below = below; from = from }) (inner_list o ++ filter_map f xs)) (sym e)
          (inner_apart_by folder below part x from (behind folder x.target) is refl apart.0 (filter_map f xs) more)

  -- the parts that are given lie below the folder itself
  abbrev AreBelow : List Part → Type 0
  AreBelow [] = Unit {0}
  AreBelow (x ∷ xs) = ((f x ≡ None) ⊎ (is_some_below (behind folder x.target) ≡ true)) × AreBelow xs

  pub are_inner : (parts : List Part) → AreParts project parts → AreBelow parts → AreInner project (filter_map f parts)
  are_inner [] all below = tt
  are_inner (x ∷ xs) all below = subst (AreInner project) (sym (map_one x xs)) (by (gives x) (are_inner xs all.3 below.1))
    where
      place : (o : Option (List (List ℕ))) → behind folder x.target ≡ o → is_some_below o ≡ true → (s : Source) → x.from ≡ s → CanPut project s → AreInner project (filter_map f xs) → AreInner project (inner_list (inner_at s o) ++ filter_map f xs)
      place None e is s from can more = more
      place (Some []) e is s from can more = absurd cc
      place (Some (n ∷ rest)) e is (sources.Copy source) from can more = (can, refl, rest_apart (n ∷ rest) x (leaves.Copy source) xs (head_behind folder x.target (n ∷ rest) e) all.2, more)
      place (Some (n ∷ rest)) e is (sources.Bytes bytes) from can more = (tt, refl, rest_apart (n ∷ rest) x (leaves.Bytes bytes) xs (head_behind folder x.target (n ∷ rest) e) all.2, more)
      place (Some (n ∷ rest)) e is (sources.Folder inner) from can more = more
      place (Some (n ∷ rest)) e is sources.Gone from can more = more

      here : (f x ≡ None) ⊎ (is_some_below (behind folder x.target) ≡ true) → f x ≡ inner_below folder x → AreInner project (filter_map f xs) → AreInner project (inner_list (f x) ++ filter_map f xs)
      here (inl none) e more = subst (λ (o : Option Inner). AreInner project (inner_list o ++ filter_map f xs)) (sym none) more
      here (inr some) e more = subst (λ (o : Option Inner). AreInner project (inner_list o ++ filter_map f xs)) (sym e) (place (behind folder x.target) refl some x.from refl all.1 more)

      by : (f x ≡ None) ⊎ (f x ≡ inner_below folder x) → AreInner project (filter_map f xs) → AreInner project (inner_list (f x) ++ filter_map f xs)
      by (inl e) more = subst (λ (o : Option Inner). AreInner project (inner_list o ++ filter_map f xs)) (sym e) more
      by (inr e) more = here below.0 e more

pub in_gives : (folder : List (List ℕ)) → GivesBelow folder (inner_in folder)
in_gives folder part = by (is_folder_at (without_last part.target) folder) refl
  where
    by : (b : Bool) → is_folder_at (without_last part.target) folder ≡ b → (cond b (inner_below folder part) None ≡ None) ⊎ (cond b (inner_below folder part) None ≡ inner_below folder part)
    by true e = inr refl
    by false e = inl refl

pub folder_of_at : (o : Option (List (List ℕ))) (folder : List (List ℕ)) → is_folder_at o folder ≡ true → o ≡ Some folder
folder_of_at None folder is = absurd cc
folder_of_at (Some other) folder is = ap (λ (p : List (List ℕ)). Some p) (equal_paths other folder is)

in_below : (project folder : List (List ℕ)) (parts : List Part) → AreBelow project folder (inner_in folder) (in_gives folder) parts
in_below project folder [] = tt
in_below project folder (x ∷ xs) = (by (is_folder_at (without_last x.target) folder) refl, in_below project folder xs)
  where
    by : (b : Bool) → is_folder_at (without_last x.target) folder ≡ b → (cond b (inner_below folder x) None ≡ None) ⊎ (is_some_below (behind folder x.target) ≡ true)
    by true e =
        let parent = parent_of x.target folder (folder_of_at (without_last x.target) folder e) in
        inr (ap is_some_below (ap (behind folder) parent.1 ∙ behind_head folder (parent.0 ∷ [])))
    by false e = inl refl

pub below_gives : (folder : List (List ℕ)) → GivesBelow folder (inner_below folder)
below_gives folder part = inr refl

vendor_below : (project : List (List ℕ)) (parts : List Part) → AreWanted parts → AreBelow project vendor_name (inner_below vendor_name) (below_gives vendor_name) parts
vendor_below project [] are = tt
vendor_below project (x ∷ xs) are = (by (shape_of x.target are.0), vendor_below project xs are.3)
  where
    by : Shape x.target → (inner_below vendor_name x ≡ None) ⊎ (is_some_below (behind vendor_name x.target) ≡ true)
    by (inl is) = inl (ap (λ (p : List (List ℕ)). inner_at x.from (behind vendor_name p)) is ∙ refl)
    by (inr (inl (a, is))) = inr (ap is_some_below (ap (behind vendor_name) is ∙ behind_head vendor_name (a ∷ [])))
    by (inr (inr (a, (b, is)))) = inr (ap is_some_below (ap (behind vendor_name) is ∙ behind_head vendor_name (a ∷ b ∷ [])))

-- ---- what is left

module _ (project : List (List ℕ)) (wanted : List Part) (are : AreWanted wanted) (all : AreParts project wanted) (blocked : List (List ℕ) → Bool)
    (way_name : (folder : List (List ℕ)) → blocked folder ≡ true → (n : List ℕ) × (folder ≡ vendor_name ++ n ∷ [])) where
  -- a folder that is in the way of parts is apart from the target of a part that is in none
  pub folder_apart : (n : List ℕ) (first part : Part) → IsAmong wanted first → without_last first.target ≡ Some (vendor_name ++ n ∷ []) → blocked (vendor_name ++ n ∷ []) ≡ true → IsAmong wanted part
      → if_blocked blocked (without_last part.target) ≡ None → Shape part.target → AreApart (vendor_name ++ n ∷ []) part.target
  folder_apart n first part a parent way b free (inl is) = subst (λ (p : List (List ℕ)). AreApart (vendor_name ++ n ∷ []) p) (sym is) (lock_apart (n ∷ []))
  folder_apart n first part a parent way b free (inr (inl (c, is))) =
      let never = λ (e : n ≡ c). not_both wanted part first (vendor_name ++ n ∷ []) are b a (is ∙ ap (λ (x : List ℕ). vendor_name ++ x ∷ []) (sym e)) parent in
      subst (λ (p : List (List ℕ)). AreApart (vendor_name ++ n ∷ []) p) (sym is) (other_name n c [] [] never)
  folder_apart n first part a parent way b free (inr (inr (c, (d, is)))) =
      let never = λ (e : n ≡ c). absurd (
      let above : without_last part.target ≡ Some (vendor_name ++ n ∷ []) = ap without_last is ∙ without_last-snoc (vendor_name ++ c ∷ []) d ∙ ap (λ (x : List ℕ). Some (vendor_name ++ x ∷ [])) (sym e) in
      let some : if_blocked blocked (without_last part.target) ≡ Some (vendor_name ++ n ∷ []) =
      ap (if_blocked blocked) above ∙ ap (λ (x : Bool). cond x (Some (vendor_name ++ n ∷ [])) None) way in cc) in
      subst (λ (p : List (List ℕ)). AreApart (vendor_name ++ n ∷ []) p) (sym is) (other_name n c [] (d ∷ []) never)

  own_apart : (part : Part) → IsAmong wanted part → if_blocked blocked (without_last part.target) ≡ None → (earlier parts : List Part) (flags : List Bool) → IsTargetApart part.target parts
      → ((p : Part) → IsAmong parts p → IsAmong wanted p) → IsTargetApart part.target (left_after blocked wanted earlier parts flags)
  own_apart part among free earlier [] flags apart sub = tt
  own_apart part among free earlier (q ∷ qs) [] apart sub = tt
  own_apart part among free earlier (q ∷ qs) (f ∷ fs) apart sub =
      apart_append part.target (own_parts wanted earlier q f (if_blocked blocked (without_last q.target))) (left_after blocked wanted (earlier ++ q ∷ []) qs fs)
      (by (without_last q.target) refl) (own_apart part among free (earlier ++ q ∷ []) qs fs apart.1 (λ p is. sub p (inr is)))
    where
      own : (b : Bool) (target : List (List ℕ)) (from : Source) → AreApart part.target target → IsTargetApart part.target (if_left b (record { target = target; from = from }))
      own true target from here = tt
      own false target from here = (here, tt)

      in_folder : (folder : List (List ℕ)) (b : Bool) → blocked folder ≡ b → without_last q.target ≡ Some folder → IsTargetApart part.target (own_parts wanted earlier q f (cond b (Some folder) None))
      in_folder folder true e parent =
          let name = way_name folder e in
          own (is_in folder earlier) folder (folder_part folder wanted).from
          (back folder part.target (subst (λ (p : List (List ℕ)). AreApart p part.target) (sym name.1)
          (folder_apart name.0 q part (sub q (inl refl)) (parent ∙ ap (λ (p : List (List ℕ)). Some p) name.1) (ap blocked (sym name.1) ∙ e) among free (shape_of part.target (wanted_target wanted part are among)))))
      in_folder folder false e parent = own f q.target q.from apart.0

      by : (o : Option (List (List ℕ))) → without_last q.target ≡ o → IsTargetApart part.target (own_parts wanted earlier q f (if_blocked blocked o))
      by None e = own f q.target q.from apart.0
      by (Some folder) e = in_folder folder (blocked folder) refl e

  in_more : (folder : List (List ℕ)) (earlier : List Part) (q : Part) → is_in folder earlier ≡ true → is_in folder (earlier ++ q ∷ []) ≡ true
  in_more folder [] q e = absurd cc
  in_more folder (x ∷ xs) q e = by (is_folder_at (without_last x.target) folder) refl e (in_more folder xs q)
    where
      by : (b : Bool) → is_folder_at (without_last x.target) folder ≡ b → (b || is_in folder xs) ≡ true → (is_in folder xs ≡ true → is_in folder (xs ++ q ∷ []) ≡ true) → (is_folder_at (without_last x.target) folder || is_in folder (xs ++ q ∷ [])) ≡ true
      by true s there more = rw s refl
      by false s there more = rw s (more there)

  in_last : (folder : List (List ℕ)) (earlier : List Part) (q : Part) → without_last q.target ≡ Some folder → is_in folder (earlier ++ q ∷ []) ≡ true
  in_last folder [] q is = ap (λ (o : Option (List (List ℕ))). is_folder_at o folder || false) is ∙ rw (itself folder) refl
  in_last folder (x ∷ xs) q is = or_last (is_folder_at (without_last x.target) folder) (in_last folder xs q is)
    where
      or_last : (a : Bool) {b : Bool} → b ≡ true → (a || b) ≡ true
      or_last true e = refl
      or_last false e = e

  -- a folder's part is apart from those that follow
  made_apart : (n : List ℕ) (first : Part) → IsAmong wanted first → without_last first.target ≡ Some (vendor_name ++ n ∷ []) → blocked (vendor_name ++ n ∷ []) ≡ true → (earlier parts : List Part) (flags : List Bool)
      → is_in (vendor_name ++ n ∷ []) earlier ≡ true → ((p : Part) → IsAmong parts p → IsAmong wanted p) → IsTargetApart (vendor_name ++ n ∷ []) (left_after blocked wanted earlier parts flags)
  made_apart n first among parent way earlier [] flags before sub = tt
  made_apart n first among parent way earlier (q ∷ qs) [] before sub = tt
  made_apart n first among parent way earlier (q ∷ qs) (f ∷ fs) before sub =
      apart_append (vendor_name ++ n ∷ []) (own_parts wanted earlier q f (if_blocked blocked (without_last q.target))) (left_after blocked wanted (earlier ++ q ∷ []) qs fs)
      (by (without_last q.target) refl) (made_apart n first among parent way (earlier ++ q ∷ []) qs fs (in_more (vendor_name ++ n ∷ []) earlier q before) (λ p is. sub p (inr is)))
    where
      own : (b : Bool) → AreApart (vendor_name ++ n ∷ []) q.target → IsTargetApart (vendor_name ++ n ∷ []) (if_left b q)
      own true here = tt
      own false here = (here, tt)

      free_own : if_blocked blocked (without_last q.target) ≡ None → IsTargetApart (vendor_name ++ n ∷ []) (if_left f q)
      free_own free = own f (folder_apart n first q among parent way (sub q (inl refl)) free (shape_of q.target (wanted_target wanted q are (sub q (inl refl)))))

      other_folder : (folder : List (List ℕ)) (b : Bool) → is_in folder earlier ≡ b → blocked folder ≡ true → IsTargetApart (vendor_name ++ n ∷ []) (if_left b (folder_part folder wanted))
      other_folder folder true e w = tt
      other_folder folder false e w =
          let name = way_name folder w in
          let never = λ (s : n ≡ name.0). absurd (
          let there : is_in folder earlier ≡ true = ap (λ (p : List (List ℕ)). is_in p earlier) (name.1 ∙ ap (λ (x : List ℕ). vendor_name ++ x ∷ []) (sym s)) ∙ before in cc) in
          (subst (λ (p : List (List ℕ)). AreApart (vendor_name ++ n ∷ []) p) (sym name.1) (other_name n name.0 [] [] never), tt)

      in_folder : (folder : List (List ℕ)) (b : Bool) → blocked folder ≡ b → without_last q.target ≡ Some folder → IsTargetApart (vendor_name ++ n ∷ []) (own_parts wanted earlier q f (cond b (Some folder) None))
      in_folder folder true e above = other_folder folder (is_in folder earlier) refl e
      in_folder folder false e above = free_own (ap (if_blocked blocked) above ∙ ap (λ (x : Bool). cond x (Some folder) None) e)

      by : (o : Option (List (List ℕ))) → without_last q.target ≡ o → IsTargetApart (vendor_name ++ n ∷ []) (own_parts wanted earlier q f (if_blocked blocked o))
      by None e = free_own (ap (if_blocked blocked) e)
      by (Some folder) e = in_folder folder (blocked folder) refl e

  left_are_parts : (earlier parts : List Part) (flags : List Bool) → AreParts project parts → ((p : Part) → IsAmong parts p → IsAmong wanted p) → AreParts project (left_after blocked wanted earlier parts flags)
  left_are_parts earlier [] flags some sub = tt
  left_are_parts earlier (q ∷ qs) [] some sub = tt
  left_are_parts earlier (q ∷ qs) (f ∷ fs) some sub = by (without_last q.target) refl (left_are_parts (earlier ++ q ∷ []) qs fs some.3 (λ p is. sub p (inr is)))
    where
      own : (b : Bool) → if_blocked blocked (without_last q.target) ≡ None → AreParts project (left_after blocked wanted (earlier ++ q ∷ []) qs fs)
          → AreParts project (if_left b q ++ left_after blocked wanted (earlier ++ q ∷ []) qs fs)
      own true free more = more
      own false free more = (some.0, some.1, own_apart q (sub q (inl refl)) free (earlier ++ q ∷ []) qs fs some.2 (λ p is. sub p (inr is)), more)

      made : (folder : List (List ℕ)) (b : Bool) → blocked folder ≡ true → without_last q.target ≡ Some folder → AreParts project (left_after blocked wanted (earlier ++ q ∷ []) qs fs)
          → AreParts project (if_left b (folder_part folder wanted) ++ left_after blocked wanted (earlier ++ q ∷ []) qs fs)
      made folder true w parent more = more
      made folder false w parent more =
          let name = way_name folder w in (
            subst IsTarget (sym name.1) (inr refl),
            are_inner project folder (inner_in folder) (in_gives folder) wanted all (in_below project folder wanted),
            subst (λ (p : List (List ℕ)). IsTargetApart p (left_after blocked wanted (earlier ++ q ∷ []) qs fs)) (sym name.1)
                (made_apart name.0 q (sub q (inl refl)) (parent ∙ ap (λ (p : List (List ℕ)). Some p) name.1) (ap blocked (sym name.1) ∙ w) (earlier ++ q ∷ []) qs fs
                (in_last (vendor_name ++ name.0 ∷ []) earlier q (parent ∙ ap (λ (p : List (List ℕ)). Some p) name.1)) (λ p is. sub p (inr is))),
            more,
          )

      in_folder : (folder : List (List ℕ)) (b : Bool) → blocked folder ≡ b → without_last q.target ≡ Some folder → AreParts project (left_after blocked wanted (earlier ++ q ∷ []) qs fs)
          → AreParts project (own_parts wanted earlier q f (cond b (Some folder) None) ++ left_after blocked wanted (earlier ++ q ∷ []) qs fs)
      in_folder folder true e above more = made folder (is_in folder earlier) e above more
      in_folder folder false e above more = own f (ap (if_blocked blocked) above ∙ ap (λ (x : Bool). cond x (Some folder) None) e) more

      by : (o : Option (List (List ℕ))) → without_last q.target ≡ o → AreParts project (left_after blocked wanted (earlier ++ q ∷ []) qs fs)
          → AreParts project (own_parts wanted earlier q f (if_blocked blocked o) ++ left_after blocked wanted (earlier ++ q ∷ []) qs fs)
      by None e more = own f (ap (if_blocked blocked) e) more
      by (Some folder) e more = in_folder folder (blocked folder) refl e more

  -- ---- what is left beside what is to go

  module _ (gone : List (List (List ℕ))) (names : List (List ℕ)) (known : AreKnown (needs_of wanted) blocked names gone) where
    left_gone : (earlier parts : List Part) (flags : List Bool) → ((p : Part) → IsAmong parts p → IsAmong wanted p) → AllApartFrom (left_after blocked wanted earlier parts flags) (map gone_part gone)
    left_gone earlier [] flags sub = tt
    left_gone earlier (q ∷ qs) [] sub = tt
    left_gone earlier (q ∷ qs) (f ∷ fs) sub = by (without_last q.target) refl (left_gone (earlier ++ q ∷ []) qs fs (λ p is. sub p (inr is)))
      where
        own : (b : Bool) → AllApartFrom (left_after blocked wanted (earlier ++ q ∷ []) qs fs) (map gone_part gone)
            → AllApartFrom (if_left b q ++ left_after blocked wanted (earlier ++ q ∷ []) qs fs) (map gone_part gone)
        own true more = more
        own false more = (gone_apart_from q.target gone (gone_from_target wanted are q (sub q (inl refl)) blocked names gone known), more)

        made : (folder : List (List ℕ)) (b : Bool) → blocked folder ≡ true → without_last q.target ≡ Some folder → AllApartFrom (left_after blocked wanted (earlier ++ q ∷ []) qs fs) (map gone_part gone)
            → AllApartFrom (if_left b (folder_part folder wanted) ++ left_after blocked wanted (earlier ++ q ∷ []) qs fs) (map gone_part gone)
        made folder true w parent more = more
        made folder false w parent more =
            let name = way_name folder w in (
              subst (λ (p : List (List ℕ)). IsTargetApart p (map gone_part gone)) (sym name.1)
                  (gone_apart_from (vendor_name ++ name.0 ∷ []) gone
                  (gone_from_way (needs_of wanted) blocked names name.0 (is_above_of wanted q (vendor_name ++ name.0 ∷ []) (sub q (inl refl)) (parent ∙ ap (λ (p : List (List ℕ)). Some p) name.1)) (ap blocked (sym name.1) ∙ w) gone known)),
              more,
            )

        in_folder : (folder : List (List ℕ)) (b : Bool) → blocked folder ≡ b → without_last q.target ≡ Some folder → AllApartFrom (left_after blocked wanted (earlier ++ q ∷ []) qs fs) (map gone_part gone)
            → AllApartFrom (own_parts wanted earlier q f (cond b (Some folder) None) ++ left_after blocked wanted (earlier ++ q ∷ []) qs fs) (map gone_part gone)
        in_folder folder true e above more = made folder (is_in folder earlier) e above more
        in_folder folder false e above more = own f more

        by : (o : Option (List (List ℕ))) → without_last q.target ≡ o → AllApartFrom (left_after blocked wanted (earlier ++ q ∷ []) qs fs) (map gone_part gone)
            → AllApartFrom (own_parts wanted earlier q f (if_blocked blocked o) ++ left_after blocked wanted (earlier ++ q ∷ []) qs fs) (map gone_part gone)
        by None e more = own f more
        by (Some folder) e more = in_folder folder (blocked folder) refl e more

-- ---- `vendor` made whole

outside_apart : (target : List (List ℕ)) (parts : List Part) (flags : List Bool) → IsTargetApart target parts → IsTargetApart target (left_outside parts flags)
outside_apart target [] flags apart = tt
outside_apart target (x ∷ xs) [] apart = tt
outside_apart target (x ∷ xs) (f ∷ fs) apart = by (behind vendor_name x.target) f (outside_apart target xs fs apart.1)
  where
    by : (o : Option (List (List ℕ))) (b : Bool) → IsTargetApart target (left_outside xs fs) → IsTargetApart target (if_outside o b x ++ left_outside xs fs)
    by None true more = more
    by None false more = (apart.0, more)
    by (Some below) b more = more

vendor_apart : (parts : List Part) (flags : List Bool) → AreWanted parts → IsTargetApart vendor_name (left_outside parts flags)
vendor_apart [] flags are = tt
vendor_apart (x ∷ xs) [] are = tt
vendor_apart (x ∷ xs) (f ∷ fs) are = by (behind vendor_name x.target) refl f (vendor_apart xs fs are.3)
  where
    lock : behind vendor_name x.target ≡ None → Shape x.target → AreApart vendor_name x.target
    lock none (inl is) = subst (λ (p : List (List ℕ)). AreApart vendor_name p) (sym is) (lock_apart [])
    lock none (inr (inl (a, is))) = absurd (let some = ap (behind vendor_name) is ∙ behind_head vendor_name (a ∷ []) in cc)
    lock none (inr (inr (a, (b, is)))) = absurd (let some = ap (behind vendor_name) is ∙ behind_head vendor_name (a ∷ b ∷ []) in cc)

    by : (o : Option (List (List ℕ))) → behind vendor_name x.target ≡ o → (b : Bool) → IsTargetApart vendor_name (left_outside xs fs) → IsTargetApart vendor_name (if_outside o b x ++ left_outside xs fs)
    by None e true more = more
    by None e false more = (lock e (shape_of x.target are.0), more)
    by (Some below) e b more = more

outside_are_parts : (project : List (List ℕ)) (parts : List Part) (flags : List Bool) → AreParts project parts → AreParts project (left_outside parts flags)
outside_are_parts project [] flags all = tt
outside_are_parts project (x ∷ xs) [] all = tt
outside_are_parts project (x ∷ xs) (f ∷ fs) all = by (behind vendor_name x.target) f (outside_are_parts project xs fs all.3)
  where
    by : (o : Option (List (List ℕ))) (b : Bool) → AreParts project (left_outside xs fs) → AreParts project (if_outside o b x ++ left_outside xs fs)
    by None true more = more
    by None false more = (all.0, all.1, outside_apart x.target xs fs all.2, more)
    by (Some below) b more = more

pub whole_are_parts : (project : List (List ℕ)) (wanted : List Part) (flags : List Bool) → AreWanted wanted → AreParts project wanted → AreParts project (vendor_part wanted ∷ left_outside wanted flags)
whole_are_parts project wanted flags are all = (
  inr refl,
  are_inner project vendor_name (inner_below vendor_name) (below_gives vendor_name) wanted all (vendor_below project wanted are),
  vendor_apart wanted flags are,
  outside_are_parts project wanted flags all,
)

-- ---- the job

pub job_are_parts : (project : List (List ℕ)) (wanted parts : List Part) (flags : List Bool) (names : List (List ℕ)) (found : Found) → AreWanted wanted → AreParts project wanted → IsKnown (needs_of wanted) names found
    → parts ≡ cond found.no_folder (vendor_part wanted ∷ left_outside wanted flags) (left_parts (contains path_cmp found.blocked) wanted flags ++ map gone_part found.unneeded.items) → AreParts project parts
job_are_parts project wanted parts flags names found are all is parts_are = subst (AreParts project) (sym parts_are) (by found.no_folder)
  where
    by : (b : Bool) → AreParts project (cond b (vendor_part wanted ∷ left_outside wanted flags) (left_parts (contains path_cmp found.blocked) wanted flags ++ map gone_part found.unneeded.items))
    by true = whole_are_parts project wanted flags are all
    by false =
        parts_append project (left_parts (contains path_cmp found.blocked) wanted flags) (map gone_part found.unneeded.items)
        (left_are_parts project wanted are all (contains path_cmp found.blocked) (λ folder way. let name = is.ways folder way in (name.0, name.1.0)) [] wanted flags all (λ p among. among))
        (gone_are_parts (needs_of wanted) (contains path_cmp found.blocked) names project found.unneeded.items is.known is.apart)
        (left_gone project wanted are all (contains path_cmp found.blocked) (λ folder way. let name = is.ways folder way in (name.0, name.1.0)) found.unneeded.items names is.known [] wanted flags (λ p among. among))
