-- What is to go are the topmost entries that no target needs.
use Rattle.std.proofs.Common.{◌≡◌, ◌⊎◌, ℕ, Bool, true, false, ◌||◌, cond, List, [], ◌∷◌, ◌++◌, map, Option, Some, None, is_some, refl, sym, ap, subst, ◌∙◌, inl, inr, append_assoc, append-nil, codes}
use Rattle.std.specs.Ordering.{eq_by_cmp}
use Rattle.path_name.specs.Orders.{byte_cmp}
use Rattle.path_name.specs.Paths.{without_last}
use Rattle.tree_dev.specs.Trees.{FileTree, IsTree, behind, entry_at, has_folder, is_folder, names_in}
use Rattle.tree_dev.specs.Projects.{is_within, vendor_path}
use Rattle.tree_dev.specs.declared.entry.Entry.{Entry}
use Rattle.tree_dev.proofs.Behind.{behind_head}
use Rattle.tree_dev.proofs.NamesIn.{names_exactly}
use Rattle.tree_dev.proofs.Snoc.{parent_of, without_last-snoc}
use Rattle.stage_job.specs.Copied.{is_among}
use Rattle.stage_job.specs.Jobs.{AreApart}
use Rattle.stage_job.specs.declared.job.Part.{Part}
use Rattle.stage_job.proofs.Below.{itself_named, same_name}
use Rattle.package_moves.specs.Known.{AreAllApart}
use Rattle.package_moves.specs.Moves.{IsAmong, IsTopmost}
use Rattle.package_moves.specs.Needed.{gone_part, gone_parts, if_other, names_of, needs_of, others_in, unneeded, unneeded_at, unneeded_of}
use Rattle.package_moves.specs.Wanted.{AreWanted, vendor_name}
use Rattle.package_moves.proofs.JobLaws.{wanted_target}
use Rattle.package_moves.proofs.SameEntries.{is_there, nothing_below}
use Rattle.package_moves.proofs.UnneededPaths.{Shape, above_found, gone_apart, shape_of, target_found}

-- ---- among paths

-- a path is one of these
abbrev IsOf : List (List (List ℕ)) → List (List ℕ) → Type 0
IsOf paths path = IsAmong (map gone_part paths) (gone_part path)

of_either : (xs ys : List (List (List ℕ))) (path : List (List ℕ)) → IsOf (xs ++ ys) path → IsOf xs path ⊎ IsOf ys path
of_either [] ys path is = inr is
of_either (x ∷ xs) ys path (inl e) = inl (inl e)
of_either (x ∷ xs) ys path (inr more) = by (of_either xs ys path more)
  where
    by : IsOf xs path ⊎ IsOf ys path → IsOf (x ∷ xs) path ⊎ IsOf ys path
    by (inl a) = inl (inr a)
    by (inr b) = inr b

of_first : (xs ys : List (List (List ℕ))) (path : List (List ℕ)) → IsOf xs path → IsOf (xs ++ ys) path
of_first [] ys path is = absurd is
of_first (x ∷ xs) ys path (inl e) = inl e
of_first (x ∷ xs) ys path (inr more) = inr (of_first xs ys path more)

of_last : (xs ys : List (List (List ℕ))) (path : List (List ℕ)) → IsOf ys path → IsOf (xs ++ ys) path
of_last [] ys path is = is
of_last (x ∷ xs) ys path is = inr (of_last xs ys path is)

apart_of : (paths : List (List (List ℕ))) (target path : List (List ℕ)) → AreAllApart paths target → IsOf paths path → AreApart path target
apart_of [] target path all is = absurd is
apart_of (x ∷ xs) target path all (inl e) = subst (λ (p : Part). AreApart p.target target) e all.0
apart_of (x ∷ xs) target path all (inr more) = apart_of xs target path all.1 more

-- ---- names

among_names : (names : List (List ℕ)) (e : Bool) (n : List ℕ) → is_among n (cond e names []) ≡ true → is_among n names ≡ true
among_names names true n is = is
among_names names false n is = absurd cc

module _ (project : List (List ℕ)) (t : FileTree) (tree : IsTree t) where
  -- a name of a folder has an entry
  entry_of : (at : List (List ℕ)) (n : List ℕ) → is_among n (names_of t at) ≡ true → is_some (entry_at t (at ++ n ∷ [])) ≡ true
  entry_of at n among = sym (is_there t at n) ∙ among_names (names_in t at) (is_folder (entry_at t at)) n among

  -- an entry in a folder has a name there
  name_of : (at : List (List ℕ)) (n : List ℕ) (rest : List (List ℕ)) → is_some (entry_at t (at ++ n ∷ rest)) ≡ true → is_among n (names_of t at) ≡ true
  name_of at n rest there =
      let listed = by (is_among n (names_in t at)) refl in
      let folder : is_folder (entry_at t at) ≡ true = ap (has_folder t) (sym (without_last-snoc at n)) ∙ tree.below_folders (at ++ n ∷ []) (sym (names_exactly t at n) ∙ listed) in
      ap (λ (b : Bool). is_among n (cond b (names_in t at) [])) folder ∙ listed
    where
      by : (b : Bool) → is_among n (names_in t at) ≡ b → is_among n (names_in t at) ≡ true
      by true e = e
      by false e = absurd (let none = ap is_some (nothing_below t at n rest tree e) in cc)

  module _ (wanted : List Part) (are : AreWanted wanted) (path : List (List ℕ)) where
    -- where a path that is to go stands
    record HasPlace : Type 0 where
      there : is_some (entry_at t (project ++ path)) ≡ true
      folder : List (List ℕ)
      above : without_last path ≡ Some folder
      needed : (folder ≡ vendor_name) ⊎ ((is_within vendor_name folder ≡ true) × ((needs_of wanted).is_above folder ≡ true))

    others_place : (n : List ℕ) (names : List (List ℕ)) → (needs_of wanted).is_above (vendor_name ++ n ∷ []) ≡ true → ((m : List ℕ) → is_among m names ≡ true → is_among m (names_of t (project ++ (vendor_name ++ n ∷ []))) ≡ true)
        → IsOf (others_in (needs_of wanted) (vendor_name ++ n ∷ []) names) path → HasPlace
    others_place n [] above sub is = absurd is
    others_place n (m ∷ ms) above sub is =
        by ((needs_of wanted).is_target ((vendor_name ++ n ∷ []) ++ m ∷ []))
        (of_either (if_other ((needs_of wanted).is_target ((vendor_name ++ n ∷ []) ++ m ∷ [])) ((vendor_name ++ n ∷ []) ++ m ∷ [])) (others_in (needs_of wanted) (vendor_name ++ n ∷ []) ms) path is)
        (others_place n ms above (λ x among. sub x (or_last (eq_by_cmp byte_cmp x m) among)))
      where
        or_last : (a : Bool) {b : Bool} → b ≡ true → (a || b) ≡ true
        or_last true e = refl
        or_last false e = e

        here : (vendor_name ++ n ∷ []) ++ m ∷ [] ≡ path → HasPlace
        here e = record {
          there =
              ap (λ (p : List (List ℕ)). is_some (entry_at t (project ++ p))) (sym e) ∙ ap (λ (p : List (List ℕ)). is_some (entry_at t p)) (sym (append_assoc project (vendor_name ++ n ∷ []) (m ∷ [])))
              ∙ entry_of (project ++ (vendor_name ++ n ∷ [])) m (sub m (rw (itself_named m) refl));
          folder = vendor_name ++ n ∷ [];
          above = ap without_last (sym e) ∙ without_last-snoc (vendor_name ++ n ∷ []) m;
          needed = inr (ap is_some (behind_head vendor_name (n ∷ [])), above);
        }

        by : (b : Bool) → IsOf (if_other b ((vendor_name ++ n ∷ []) ++ m ∷ [])) path ⊎ IsOf (others_in (needs_of wanted) (vendor_name ++ n ∷ []) ms) path → (IsOf (others_in (needs_of wanted) (vendor_name ++ n ∷ []) ms) path → HasPlace) → HasPlace
        by true (inl e) more = absurd e
        by false (inl (inl e)) more = here (ap (λ (p : Part). p.target) e)
        by false (inl (inr e)) more = absurd e
        by b (inr later) more = more later

    at_place : (n : List ℕ) → is_among n (names_of t (vendor_path project)) ≡ true → IsOf (unneeded_at (needs_of wanted) project t (vendor_name ++ n ∷ [])) path → HasPlace
    at_place n among is = by ((needs_of wanted).is_above (vendor_name ++ n ∷ [])) refl is
      where
        here : vendor_name ++ n ∷ [] ≡ path → HasPlace
        here e = record {
          there =
              ap (λ (p : List (List ℕ)). is_some (entry_at t (project ++ p))) (sym e) ∙ ap (λ (p : List (List ℕ)). is_some (entry_at t p)) (sym (append_assoc project vendor_name (n ∷ [])))
              ∙ entry_of (vendor_path project) n among;
          folder = vendor_name;
          above = ap without_last (sym e) ∙ without_last-snoc vendor_name n;
          needed = inl refl;
        }

        other : (b : Bool) → IsOf (if_other b (vendor_name ++ n ∷ [])) path → HasPlace
        other true e = absurd e
        other false (inl e) = here (ap (λ (p : Part). p.target) e)
        other false (inr e) = absurd e

        by : (b : Bool) → (needs_of wanted).is_above (vendor_name ++ n ∷ []) ≡ b
            → IsOf (cond b (others_in (needs_of wanted) (vendor_name ++ n ∷ []) (names_of t (project ++ (vendor_name ++ n ∷ [])))) (if_other ((needs_of wanted).is_target (vendor_name ++ n ∷ [])) (vendor_name ++ n ∷ []))) path → HasPlace
        by true e there = others_place n (names_of t (project ++ (vendor_name ++ n ∷ []))) e (λ m listed. listed) there
        by false e there = other ((needs_of wanted).is_target (vendor_name ++ n ∷ [])) there

    of_place : (names : List (List ℕ)) → ((n : List ℕ) → is_among n names ≡ true → is_among n (names_of t (vendor_path project)) ≡ true) → IsOf (unneeded_of (needs_of wanted) project t vendor_name names) path → HasPlace
    of_place [] sub is = absurd is
    of_place (n ∷ ns) sub is =
        by (of_either (unneeded_at (needs_of wanted) project t (vendor_name ++ n ∷ [])) (unneeded_of (needs_of wanted) project t vendor_name ns) path is)
        (of_place ns (λ x among. sub x (or_last (eq_by_cmp byte_cmp x n) among)))
      where
        or_last : (a : Bool) {b : Bool} → b ≡ true → (a || b) ≡ true
        or_last true e = refl
        or_last false e = e

        by : IsOf (unneeded_at (needs_of wanted) project t (vendor_name ++ n ∷ [])) path ⊎ IsOf (unneeded_of (needs_of wanted) project t vendor_name ns) path → (IsOf (unneeded_of (needs_of wanted) project t vendor_name ns) path → HasPlace) → HasPlace
        by (inl here) more = at_place n (sub n (rw (itself_named n) refl)) here
        by (inr later) more = more later

    pub gone_is_topmost : IsAmong (gone_parts project t wanted) (gone_part path) → IsTopmost project t wanted path
    unfolding unneeded
    gone_is_topmost is =
        let place = of_place (names_of t (vendor_path project)) (λ n among. among) is in
        record {
          there = place.there;
          apart = λ part among. apart_of (unneeded (needs_of wanted) project t) part.target path (gone_apart wanted are part among (shape_of part.target (wanted_target wanted part are among)) project t) is;
          folder = place.folder;
          above = place.above;
          needed = place.needed;
        }

    -- ---- the other way

    others_have : (n m : List ℕ) (names : List (List ℕ)) → is_among m names ≡ true → (needs_of wanted).is_target ((vendor_name ++ n ∷ []) ++ m ∷ []) ≡ false → (vendor_name ++ n ∷ []) ++ m ∷ [] ≡ path → IsOf (others_in (needs_of wanted) (vendor_name ++ n ∷ []) names) path
    others_have n m [] among target is = absurd cc
    others_have n m (x ∷ xs) among target is = by (eq_by_cmp byte_cmp m x) refl among (λ later. others_have n m xs later target is)
      where
        here : m ≡ x → IsOf (if_other ((needs_of wanted).is_target ((vendor_name ++ n ∷ []) ++ x ∷ [])) ((vendor_name ++ n ∷ []) ++ x ∷ [])) path
        here e = subst (λ (y : List ℕ). IsOf (if_other ((needs_of wanted).is_target ((vendor_name ++ n ∷ []) ++ y ∷ [])) ((vendor_name ++ n ∷ []) ++ y ∷ [])) path) e
            (subst (λ (b : Bool). IsOf (if_other b ((vendor_name ++ n ∷ []) ++ m ∷ [])) path) (sym target) (inl (ap gone_part is)))

        by : (b : Bool) → eq_by_cmp byte_cmp m x ≡ b → (b || is_among m xs) ≡ true → (is_among m xs ≡ true → IsOf (others_in (needs_of wanted) (vendor_name ++ n ∷ []) xs) path)
            → IsOf (if_other ((needs_of wanted).is_target ((vendor_name ++ n ∷ []) ++ x ∷ [])) ((vendor_name ++ n ∷ []) ++ x ∷ []) ++ others_in (needs_of wanted) (vendor_name ++ n ∷ []) xs) path
        by true e there more = of_first (if_other ((needs_of wanted).is_target ((vendor_name ++ n ∷ []) ++ x ∷ [])) ((vendor_name ++ n ∷ []) ++ x ∷ [])) (others_in (needs_of wanted) (vendor_name ++ n ∷ []) xs) path (here (same_name m x e))
        by false e there more = of_last (if_other ((needs_of wanted).is_target ((vendor_name ++ n ∷ []) ++ x ∷ [])) ((vendor_name ++ n ∷ []) ++ x ∷ [])) (others_in (needs_of wanted) (vendor_name ++ n ∷ []) xs) path (more there)

    of_have : (n : List ℕ) (names : List (List ℕ)) → is_among n names ≡ true → IsOf (unneeded_at (needs_of wanted) project t (vendor_name ++ n ∷ [])) path → IsOf (unneeded_of (needs_of wanted) project t vendor_name names) path
    of_have n [] among here = absurd cc
    of_have n (x ∷ xs) among here = by (eq_by_cmp byte_cmp n x) refl among (λ later. of_have n xs later here)
      where
        by : (b : Bool) → eq_by_cmp byte_cmp n x ≡ b → (b || is_among n xs) ≡ true → (is_among n xs ≡ true → IsOf (unneeded_of (needs_of wanted) project t vendor_name xs) path)
            → IsOf (unneeded_at (needs_of wanted) project t (vendor_name ++ x ∷ []) ++ unneeded_of (needs_of wanted) project t vendor_name xs) path
        by true e there more = of_first (unneeded_at (needs_of wanted) project t (vendor_name ++ x ∷ [])) (unneeded_of (needs_of wanted) project t vendor_name xs) path
            (subst (λ (y : List ℕ). IsOf (unneeded_at (needs_of wanted) project t (vendor_name ++ y ∷ [])) path) (same_name n x e) here)
        by false e there more = of_last (unneeded_at (needs_of wanted) project t (vendor_name ++ x ∷ [])) (unneeded_of (needs_of wanted) project t vendor_name xs) path (more there)

    module _ (top : IsTopmost project t wanted path) where
      no_target : (b : Bool) → (needs_of wanted).is_target path ≡ b → (needs_of wanted).is_target path ≡ false
      no_target true e = absurd (
          let found = target_found wanted path e in
          let none : behind path path ≡ None = ap (behind path) (sym found.1.1) ∙ (top.apart found.0 found.1.0).0 in
          let some = ap (behind path) (sym (append-nil path)) ∙ behind_head path [] in cc)
      no_target false e = e

      no_above : (b : Bool) → (needs_of wanted).is_above path ≡ b → (needs_of wanted).is_above path ≡ false
      no_above true e = absurd (
          let found = above_found wanted path e in
          let parent = parent_of found.0.target path found.1.1 in
          let none = (top.apart found.0 found.1.0).0 in
          let some = ap (behind path) parent.1 ∙ behind_head path (parent.0 ∷ []) in cc)
      no_above false e = e

      -- an entry of `vendor` itself
      in_vendor : (n : List ℕ) → path ≡ vendor_name ++ n ∷ [] → IsOf (unneeded_of (needs_of wanted) project t vendor_name (names_of t (vendor_path project))) path
      in_vendor n is =
          let there : is_some (entry_at t (vendor_path project ++ n ∷ [])) ≡ true =
          ap (λ (p : List (List ℕ)). is_some (entry_at t p)) (append_assoc project vendor_name (n ∷ [])) ∙ ap (λ (p : List (List ℕ)). is_some (entry_at t (project ++ p))) (sym is) ∙ top.there in
          let above : (needs_of wanted).is_above (vendor_name ++ n ∷ []) ≡ false = ap (needs_of wanted).is_above (sym is) ∙ no_above ((needs_of wanted).is_above path) refl in
          let target : (needs_of wanted).is_target (vendor_name ++ n ∷ []) ≡ false = ap (needs_of wanted).is_target (sym is) ∙ no_target ((needs_of wanted).is_target path) refl in
          of_have n (names_of t (vendor_path project)) (name_of (vendor_path project) n [] there)
          (subst (λ (b : Bool). IsOf (cond b (others_in (needs_of wanted) (vendor_name ++ n ∷ []) (names_of t (project ++ (vendor_name ++ n ∷ [])))) (if_other ((needs_of wanted).is_target (vendor_name ++ n ∷ [])) (vendor_name ++ n ∷ []))) path) (sym above)
          (subst (λ (b : Bool). IsOf (if_other b (vendor_name ++ n ∷ [])) path) (sym target) (inl (ap gone_part (sym is)))))

      -- an entry of a folder in which targets stand
      in_folder : (n m : List ℕ) → (needs_of wanted).is_above (vendor_name ++ n ∷ []) ≡ true → path ≡ (vendor_name ++ n ∷ []) ++ m ∷ [] → IsOf (unneeded_of (needs_of wanted) project t vendor_name (names_of t (vendor_path project))) path
      in_folder n m above is =
          let inside : is_some (entry_at t (project ++ (vendor_name ++ n ∷ m ∷ []))) ≡ true = ap (λ (p : List (List ℕ)). is_some (entry_at t (project ++ p))) (sym is) ∙ top.there in
          let there : is_some (entry_at t (vendor_path project ++ n ∷ m ∷ [])) ≡ true = ap (λ (p : List (List ℕ)). is_some (entry_at t p)) (append_assoc project vendor_name (n ∷ m ∷ [])) ∙ inside in
          let deeper : is_some (entry_at t ((project ++ (vendor_name ++ n ∷ [])) ++ m ∷ [])) ≡ true = ap (λ (p : List (List ℕ)). is_some (entry_at t p)) (append_assoc project (vendor_name ++ n ∷ []) (m ∷ [])) ∙ inside in
          let target : (needs_of wanted).is_target ((vendor_name ++ n ∷ []) ++ m ∷ []) ≡ false = ap (needs_of wanted).is_target (sym is) ∙ no_target ((needs_of wanted).is_target path) refl in
          of_have n (names_of t (vendor_path project)) (name_of (vendor_path project) n (m ∷ []) there)
          (subst (λ (b : Bool). IsOf (cond b (others_in (needs_of wanted) (vendor_name ++ n ∷ []) (names_of t (project ++ (vendor_name ++ n ∷ [])))) (if_other ((needs_of wanted).is_target (vendor_name ++ n ∷ [])) (vendor_name ++ n ∷ []))) path) (sym above)
          (others_have n m (names_of t (project ++ (vendor_name ++ n ∷ []))) (name_of (project ++ (vendor_name ++ n ∷ [])) m [] deeper) target (sym is)))

      by_shape : (first : Part) (l : List ℕ) → first.target ≡ top.folder ++ l ∷ [] → Shape first.target → is_within vendor_name top.folder ≡ true → (needs_of wanted).is_above top.folder ≡ true → (last : List ℕ) → path ≡ top.folder ++ last ∷ []
          → IsOf (unneeded_of (needs_of wanted) project t vendor_name (names_of t (vendor_path project))) path
      by_shape first l first_is (inl lock) within above last is = absurd (
          let root : top.folder ≡ [] = some_same (sym (without_last-snoc top.folder l) ∙ ap without_last (sym first_is ∙ lock) ∙ without_last-snoc [] (codes "composer.lock")) in
          let out : is_within vendor_name top.folder ≡ false = ap (is_within vendor_name) root in cc)
        where
          some_same : {a b : List (List ℕ)} → ◌≡◌ {A = Option (List (List ℕ))} (Some a) (Some b) → a ≡ b
          some_same e = cc
      by_shape first l first_is (inr (inl (a, shape))) within above last is =
          let folder : top.folder ≡ vendor_name = some_same (sym (without_last-snoc top.folder l) ∙ ap without_last (sym first_is ∙ shape) ∙ without_last-snoc vendor_name a) in
          in_vendor last (is ∙ ap (λ (f : List (List ℕ)). f ++ last ∷ []) folder)
        where
          some_same : {a b : List (List ℕ)} → ◌≡◌ {A = Option (List (List ℕ))} (Some a) (Some b) → a ≡ b
          some_same e = cc
      by_shape first l first_is (inr (inr (a, (b, shape)))) within above last is =
          let folder : top.folder ≡ vendor_name ++ a ∷ [] = some_same (sym (without_last-snoc top.folder l) ∙ ap without_last (sym first_is ∙ shape) ∙ without_last-snoc (vendor_name ++ a ∷ []) b) in
          in_folder a last (ap (needs_of wanted).is_above (sym folder) ∙ above) (is ∙ ap (λ (f : List (List ℕ)). f ++ last ∷ []) folder)
        where
          some_same : {a b : List (List ℕ)} → ◌≡◌ {A = Option (List (List ℕ))} (Some a) (Some b) → a ≡ b
          some_same e = cc

      pub topmost_is_gone : IsAmong (gone_parts project t wanted) (gone_part path)
      unfolding unneeded
      topmost_is_gone = by top.needed
        where
          by : (top.folder ≡ vendor_name) ⊎ ((is_within vendor_name top.folder ≡ true) × ((needs_of wanted).is_above top.folder ≡ true)) → IsOf (unneeded_of (needs_of wanted) project t vendor_name (names_of t (vendor_path project))) path
          by (inl e) = let parent = parent_of path top.folder top.above in in_vendor parent.0 (parent.1 ∙ ap (λ (f : List (List ℕ)). f ++ parent.0 ∷ []) e)
          by (inr needed) =
              let parent = parent_of path top.folder top.above in
              let found = above_found wanted top.folder needed.1 in
              let first = parent_of found.0.target top.folder found.1.1 in
              by_shape found.0 first.0 first.1 (shape_of found.0.target (wanted_target wanted found.0 are found.1.0)) needed.0 needed.1 parent.0 parent.1
