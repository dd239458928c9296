-- What stands above the targets of a job.
use Rattle.std.proofs.Common.{◌≡◌, ◌⊎◌, ℕ, Bool, true, false, ◌&&◌, cond, List, [], ◌∷◌, ◌++◌, map, Option, Some, None, is_some, refl, sym, ap, subst, ◌∙◌, inl, inr, append_assoc, codes}
use Rattle.std.specs.FinMap as maps
use Rattle.std.specs.List.{list_any}
use Rattle.path_name.specs.Orders.{bytes_are_equal}
use Rattle.path_name.specs.Paths.{without_last}
use Rattle.tree_dev.specs.Told.{one_of}
use Rattle.tree_dev.specs.Trees.{FileTree, IsTree, behind, entry_at, has_folder, is_folder, names_in}
use Rattle.tree_dev.specs.Changes.{is_leaf}
use Rattle.tree_dev.specs.Projects.{is_within, vendor_path}
use Rattle.tree_dev.specs.declared.entry.Entry.{Entry}
use Rattle.tree_dev.specs.declared.entry.Entry.TheVariants as entries
use Rattle.tree_dev.proofs.Behind.{behind_head, head_behind, same_bytes}
use Rattle.tree_dev.proofs.NamesIn.{names_exactly}
use Rattle.tree_dev.proofs.Snoc.{without_last-snoc}
use Rattle.stage_job.specs.Above.{begins_names, front_of, front_or_none, is_front}
use Rattle.stage_job.specs.Copied.{is_among}
use Rattle.stage_job.specs.Staging.{HasParents, is_parent}
use Rattle.stage_job.specs.declared.job.Part.{Part}
use Rattle.package_moves.specs.Joined.{folder_part, if_blocked, if_left, if_outside, left_after, left_outside, left_parts, own_parts}
use Rattle.package_moves.specs.Moves.{IsAmong, IsJobFor, is_in_way}
use Rattle.package_moves.specs.Needed.{Needs, gone_part, gone_parts, if_other, is_blocked, is_folder_at, names_of, needs_of, others_in, unneeded, unneeded_at, unneeded_of}
use Rattle.package_moves.specs.Wanted.{AreWanted, vendor_name}
use Rattle.package_moves.proofs.JobLaws.{blocked_listed, in_way_is_name, wanted_target}
use Rattle.package_moves.proofs.SameEntries.{is_there}
use Rattle.package_moves.proofs.UnneededPaths.{Shape, is_above_of, shape_of}

-- ---- what lies above a target

within_nothing : (f : List ℕ) (fs : List (List ℕ)) → is_within (f ∷ fs) [] ≡ true → ⊥
within_nothing f fs e = cc

first_same : (f v : List ℕ) (fs vs : List (List ℕ)) → is_within (f ∷ fs) (v ∷ vs) ≡ true → (f ≡ v) × (is_within fs vs ≡ true)
first_same f v fs vs e = by (bytes_are_equal f v) refl e
  where
    by : (b : Bool) → bytes_are_equal f v ≡ b → is_some (cond b (behind fs vs) None) ≡ true → (f ≡ v) × (is_within fs vs ≡ true)
    by true s more = (same_bytes f v s, more)
    by false s more = absurd cc

only_first : (f v : List ℕ) (fs : List (List ℕ)) → is_within (f ∷ fs) (v ∷ []) ≡ true → f ∷ fs ≡ v ∷ []
only_first f v [] e = ap (λ (x : List ℕ). x ∷ []) (first_same f v [] [] e).0
only_first f v (g ∷ gs) e = absurd (within_nothing g gs (first_same f v (g ∷ gs) [] e).1)

first_or_both : (f v a : List ℕ) (fs : List (List ℕ)) → is_within (f ∷ fs) (v ∷ a ∷ []) ≡ true → (f ∷ fs ≡ v ∷ []) ⊎ (f ∷ fs ≡ v ∷ a ∷ [])
first_or_both f v a [] e = inl (ap (λ (x : List ℕ). x ∷ []) (first_same f v [] (a ∷ []) e).0)
first_or_both f v a (g ∷ gs) e =
    let parts = first_same f v (g ∷ gs) (a ∷ []) e in
    inr (ap (λ (x : List ℕ). x ∷ g ∷ gs) parts.0 ∙ ap (λ (xs : List (List ℕ)). v ∷ xs) (only_first g a gs parts.1))

none_or_folder : (e : Option Entry) → is_leaf e ≡ false → (e ≡ None) ⊎ (e ≡ Some entries.Folder)
none_or_folder None leaf = inl refl
none_or_folder (Some (entries.File bytes)) leaf = absurd cc
none_or_folder (Some entries.Folder) leaf = inr refl
none_or_folder (Some entries.Other) leaf = absurd cc

below_project : (t : FileTree) (project : List (List ℕ)) (f : List ℕ) (fs : List (List ℕ)) → entry_at t (project ++ f ∷ fs) ≡ maps.get t (project ++ f ∷ fs)
below_project t [] f fs = refl
below_project t (p ∷ ps) f fs = refl

module _ (project : List (List ℕ)) (t : FileTree) where
  -- nothing stands above a target but folders
  pub record IsClear (target : List (List ℕ)) : Type 0 where
    pub each : (f : List ℕ) (fs : List (List ℕ)) → is_within (f ∷ fs) (front_of target) ≡ true → is_leaf (entry_at t (project ++ f ∷ fs)) ≡ false

  abbrev pub AreClear : List Part → Type 0
  AreClear [] = Unit {0}
  AreClear (part ∷ parts) = IsClear part.target × AreClear parts

  clear_append : (xs ys : List Part) → AreClear xs → AreClear ys → AreClear (xs ++ ys)
  clear_append [] ys a b = b
  clear_append (x ∷ xs) ys a b = (a.0, clear_append xs ys a.1 b)

  front_by : (target : List (List ℕ)) (path : List (List ℕ)) (o : Option (List (List ℕ))) → behind project path ≡ o → IsClear target → begins_names o (front_of target) ≡ true
      → (maps.get t path ≡ None) ⊎ (maps.get t path ≡ Some entries.Folder)
  front_by target path None e clear begins = absurd cc
  front_by target path (Some []) e clear begins = absurd cc
  front_by target path (Some (f ∷ fs)) e clear begins =
      subst (λ (p : List (List ℕ)). (maps.get t p ≡ None) ⊎ (maps.get t p ≡ Some entries.Folder)) (sym (head_behind project path (f ∷ fs) e))
      (subst (λ (x : Option Entry). (x ≡ None) ⊎ (x ≡ Some entries.Folder)) (below_project t project f fs) (none_or_folder (entry_at t (project ++ f ∷ fs)) (clear.each f fs begins)))

  parents_by : (parts : List Part) → AreClear parts → (path : List (List ℕ)) → is_parent project parts path ≡ true → (maps.get t path ≡ None) ⊎ (maps.get t path ≡ Some entries.Folder)
  parents_by [] clear path is = absurd cc
  parents_by (x ∷ xs) clear path is = by (one_of (is_front project (front_of x.target) path) (is_parent project xs path) is) (parents_by xs clear.1 path)
    where
      by : (is_front project (front_of x.target) path ≡ true) ⊎ (is_parent project xs path ≡ true) → (is_parent project xs path ≡ true → (maps.get t path ≡ None) ⊎ (maps.get t path ≡ Some entries.Folder))
          → (maps.get t path ≡ None) ⊎ (maps.get t path ≡ Some entries.Folder)
      by (inl here) more = front_by x.target path (behind project path) refl clear.0 here
      by (inr later) more = more later

  pub has_parents : (parts : List Part) → AreClear parts → HasParents project parts t
  has_parents parts clear = record { each = parents_by parts clear }

  -- ---- by the shape of the target

  front_is : (target front : List (List ℕ)) → without_last target ≡ Some front → front_of target ≡ front
  front_is target front is = ap front_or_none is

  clear_nothing : (target : List (List ℕ)) → without_last target ≡ Some [] → IsClear target
  clear_nothing target is = record { each = λ f fs within. absurd (within_nothing f fs (ap (is_within (f ∷ fs)) (sym (front_is target [] is)) ∙ within)) }

  module _ (folder : is_leaf (entry_at t (vendor_path project)) ≡ false) where
    clear_one : (target : List (List ℕ)) → without_last target ≡ Some vendor_name → IsClear target
    clear_one target is = record {
      each = λ f fs within.
          let first = only_first f (codes "vendor") fs (ap (is_within (f ∷ fs)) (sym (front_is target vendor_name is)) ∙ within) in
          ap (λ (p : List (List ℕ)). is_leaf (entry_at t (project ++ p))) first ∙ folder;
    }

    clear_two : (target : List (List ℕ)) (a : List ℕ) → without_last target ≡ Some (vendor_name ++ a ∷ []) → is_leaf (entry_at t (project ++ (vendor_name ++ a ∷ []))) ≡ false → IsClear target
    clear_two target a is leaf = record {
      each = λ f fs within.
          by f fs (first_or_both f (codes "vendor") a fs (ap (is_within (f ∷ fs)) (sym (front_is target (vendor_name ++ a ∷ []) is)) ∙ within));
    }
      where
        by : (f : List ℕ) (fs : List (List ℕ)) → (f ∷ fs ≡ vendor_name) ⊎ (f ∷ fs ≡ vendor_name ++ a ∷ []) → is_leaf (entry_at t (project ++ f ∷ fs)) ≡ false
        by f fs (inl e) = ap (λ (p : List (List ℕ)). is_leaf (entry_at t (project ++ p))) e ∙ folder
        by f fs (inr e) = ap (λ (p : List (List ℕ)). is_leaf (entry_at t (project ++ p))) e ∙ leaf

    -- ---- what is to go

    folder_no_leaf : (e : Option Entry) → is_folder e ≡ true → is_leaf e ≡ false
    folder_no_leaf None is = refl
    folder_no_leaf (Some (entries.File bytes)) is = absurd cc
    folder_no_leaf (Some entries.Folder) is = refl
    folder_no_leaf (Some entries.Other) is = absurd cc

    module _ (needs : Needs) where
      others_clear : (n : List ℕ) (names : List (List ℕ)) → is_leaf (entry_at t (project ++ (vendor_name ++ n ∷ []))) ≡ false → AreClear (map gone_part (others_in needs (vendor_name ++ n ∷ []) names))
      others_clear n [] leaf = tt
      others_clear n (m ∷ ms) leaf = by (needs.is_target ((vendor_name ++ n ∷ []) ++ m ∷ [])) (others_clear n ms leaf)
        where
          by : (b : Bool) → AreClear (map gone_part (others_in needs (vendor_name ++ n ∷ []) ms)) → AreClear (map gone_part (if_other b ((vendor_name ++ n ∷ []) ++ m ∷ []) ++ others_in needs (vendor_name ++ n ∷ []) ms))
          by true more = more
          by false more = (clear_two ((vendor_name ++ n ∷ []) ++ m ∷ []) n (without_last-snoc (vendor_name ++ n ∷ []) m) leaf, more)

      at_clear : (n : List ℕ) (more : List (List (List ℕ))) → AreClear (map gone_part more) → AreClear (map gone_part (unneeded_at needs project t (vendor_name ++ n ∷ []) ++ more))
      at_clear n more clear = by (needs.is_above (vendor_name ++ n ∷ []))
        where
          append_clear : (xs : List (List (List ℕ))) → AreClear (map gone_part xs) → AreClear (map gone_part (xs ++ more))
          append_clear [] all = clear
          append_clear (x ∷ xs) all = (all.0, append_clear xs all.1)

          other : (b : Bool) → AreClear (map gone_part (if_other b (vendor_name ++ n ∷ [])))
          other true = tt
          other false = (clear_one (vendor_name ++ n ∷ []) (without_last-snoc vendor_name n), tt)

          names : (b : Bool) → is_folder (entry_at t (project ++ (vendor_name ++ n ∷ []))) ≡ b → AreClear (map gone_part (others_in needs (vendor_name ++ n ∷ []) (cond b (names_in t (project ++ (vendor_name ++ n ∷ []))) [])))
          names true e = others_clear n (names_in t (project ++ (vendor_name ++ n ∷ []))) (folder_no_leaf (entry_at t (project ++ (vendor_name ++ n ∷ []))) e)
          names false e = tt

          by : (b : Bool) → AreClear (map gone_part (cond b (others_in needs (vendor_name ++ n ∷ []) (names_of t (project ++ (vendor_name ++ n ∷ [])))) (if_other (needs.is_target (vendor_name ++ n ∷ [])) (vendor_name ++ n ∷ [])) ++ more))
          by true = append_clear (others_in needs (vendor_name ++ n ∷ []) (names_of t (project ++ (vendor_name ++ n ∷ [])))) (names (is_folder (entry_at t (project ++ (vendor_name ++ n ∷ [])))) refl)
          by false = append_clear (if_other (needs.is_target (vendor_name ++ n ∷ [])) (vendor_name ++ n ∷ [])) (other (needs.is_target (vendor_name ++ n ∷ [])))

      of_clear : (names : List (List ℕ)) → AreClear (map gone_part (unneeded_of needs project t vendor_name names))
      of_clear [] = tt
      of_clear (n ∷ ns) = at_clear n (unneeded_of needs project t vendor_name ns) (of_clear ns)

      gone_clear : AreClear (map gone_part (unneeded needs project t))
      unfolding unneeded
      gone_clear = of_clear (names_of t (vendor_path project))

    -- ---- what is left

    module _ (wanted : List Part) (are : AreWanted wanted) (tree : IsTree t) where
      leaf_there : (e : Option Entry) → is_leaf e ≡ true → is_some e ≡ true
      leaf_there None leaf = absurd cc
      leaf_there (Some x) leaf = refl

      -- where targets stand in a folder, and nothing is in the way
      no_leaf : (part : Part) (a b : List ℕ) → IsAmong wanted part → without_last part.target ≡ Some (vendor_name ++ a ∷ []) → is_in_way project t wanted (vendor_name ++ a ∷ []) ≡ false → (leaf : Bool)
          → is_leaf (entry_at t (project ++ (vendor_name ++ a ∷ []))) ≡ leaf → is_leaf (entry_at t (project ++ (vendor_name ++ a ∷ []))) ≡ false
      no_leaf part a b among parent clear false e = e
      no_leaf part a b among parent clear true e = absurd (
          let there : is_some (entry_at t (vendor_path project ++ a ∷ [])) ≡ true =
          ap (λ (p : List (List ℕ)). is_some (entry_at t p)) (append_assoc project vendor_name (a ∷ [])) ∙ leaf_there (entry_at t (project ++ (vendor_name ++ a ∷ []))) e in
          let listed : is_among a (names_in t (vendor_path project)) ≡ true = is_there t (vendor_path project) a ∙ there in
          let is_vendor : is_folder (entry_at t (vendor_path project)) ≡ true =
          ap (has_folder t) (sym (without_last-snoc (vendor_path project) a)) ∙ tree.below_folders (vendor_path project ++ a ∷ []) (sym (names_exactly t (vendor_path project) a) ∙ listed) in
          let named : is_among a (names_of t (vendor_path project)) ≡ true = ap (λ (c : Bool). is_among a (cond c (names_in t (vendor_path project)) [])) is_vendor ∙ listed in
          let above : (needs_of wanted).is_above (vendor_name ++ a ∷ []) ≡ true = is_above_of wanted part (vendor_name ++ a ∷ []) among parent in
          let blocked : is_blocked (needs_of wanted) project t (vendor_name ++ a ∷ []) ≡ true = ap (λ (c : Bool). c && is_leaf (entry_at t (project ++ (vendor_name ++ a ∷ [])))) above ∙ e in
          let some : is_in_way project t wanted (vendor_name ++ a ∷ []) ≡ true = blocked_listed (needs_of wanted) project t (names_of t (vendor_path project)) a named blocked in cc)

      not_in_way : (folder : List (List ℕ)) (b : Bool) → is_in_way project t wanted folder ≡ b → cond b (Some folder) None ≡ None → is_in_way project t wanted folder ≡ false
      not_in_way folder true e none = absurd cc
      not_in_way folder false e none = e

      own_clear : (part : Part) → IsAmong wanted part → Shape part.target → if_blocked (is_in_way project t wanted) (without_last part.target) ≡ None → IsClear part.target
      own_clear part among (inl is) none = clear_nothing part.target (ap without_last is ∙ without_last-snoc [] (codes "composer.lock"))
      own_clear part among (inr (inl (a, is))) none = clear_one part.target (ap without_last is ∙ without_last-snoc vendor_name a)
      own_clear part among (inr (inr (a, (b, is)))) none =
          let parent = ap without_last is ∙ without_last-snoc (vendor_name ++ a ∷ []) b in
          let free = not_in_way (vendor_name ++ a ∷ []) (is_in_way project t wanted (vendor_name ++ a ∷ [])) refl (ap (if_blocked (is_in_way project t wanted)) (sym parent) ∙ none) in
          clear_two part.target a parent (no_leaf part a b among parent free (is_leaf (entry_at t (project ++ (vendor_name ++ a ∷ [])))) refl)

      folder_clear : (folder : List (List ℕ)) → is_in_way project t wanted folder ≡ true → IsClear folder
      folder_clear folder is = let name = in_way_is_name project t wanted folder is in clear_one folder (ap without_last name.1 ∙ without_last-snoc vendor_name name.0)

      left_clear : (earlier parts : List Part) (flags : List Bool) → ((part : Part) → IsAmong parts part → IsAmong wanted part) → AreClear (left_after (is_in_way project t wanted) wanted earlier parts flags)
      left_clear earlier [] flags among = tt
      left_clear earlier (p ∷ ps) [] among = tt
      left_clear earlier (p ∷ ps) (f ∷ fs) among =
          clear_append (own_parts wanted earlier p f (if_blocked (is_in_way project t wanted) (without_last p.target))) (left_after (is_in_way project t wanted) wanted (earlier ++ p ∷ []) ps fs)
          (by (without_last p.target) refl) (left_clear (earlier ++ p ∷ []) ps fs (λ part is. among part (inr is)))
        where
          own : (b : Bool) → IsClear p.target → AreClear (if_left b p)
          own true clear = tt
          own false clear = (clear, tt)

          one : (b : Bool) (folder : List (List ℕ)) → IsClear folder → AreClear (if_left b (folder_part folder wanted))
          one true folder clear = tt
          one false folder clear = (clear, tt)

          in_folder : (folder : List (List ℕ)) (b : Bool) → is_in_way project t wanted folder ≡ b → without_last p.target ≡ Some folder → AreClear (own_parts wanted earlier p f (cond b (Some folder) None))
          in_folder folder true e parent = one (list_any (λ part. is_folder_at (without_last part.target) folder) earlier) folder (folder_clear folder e)
          in_folder folder false e parent =
              own f (own_clear p (among p (inl refl)) (shape_of p.target (wanted_target wanted p are (among p (inl refl))))
              (ap (if_blocked (is_in_way project t wanted)) parent ∙ ap (λ (c : Bool). cond c (Some folder) None) e))

          by : (o : Option (List (List ℕ))) → without_last p.target ≡ o → AreClear (own_parts wanted earlier p f (if_blocked (is_in_way project t wanted) o))
          by None e = own f (own_clear p (among p (inl refl)) (shape_of p.target (wanted_target wanted p are (among p (inl refl)))) (ap (if_blocked (is_in_way project t wanted)) e))
          by (Some folder) e = in_folder folder (is_in_way project t wanted folder) refl e

  -- ---- `vendor` made whole

  outside_clear : (parts : List Part) (flags : List Bool) → AreWanted parts → AreClear (left_outside parts flags)
  outside_clear [] flags are = tt
  outside_clear (p ∷ ps) [] are = tt
  outside_clear (p ∷ ps) (f ∷ fs) are = clear_append (if_outside (behind vendor_name p.target) f p) (left_outside ps fs) (by (behind vendor_name p.target) refl) (outside_clear ps fs are.3)
    where
      own : (b : Bool) → IsClear p.target → AreClear (if_left b p)
      own true clear = tt
      own false clear = (clear, tt)

      lock : behind vendor_name p.target ≡ None → Shape p.target → IsClear p.target
      lock none (inl is) = clear_nothing p.target (ap without_last is ∙ without_last-snoc [] (codes "composer.lock"))
      lock none (inr (inl (a, is))) = absurd (let some = ap (behind vendor_name) is ∙ behind_head vendor_name (a ∷ []) in cc)
      lock none (inr (inr (a, (b, is)))) = absurd (let some = ap (behind vendor_name) is ∙ behind_head vendor_name (a ∷ b ∷ []) in cc)

      by : (o : Option (List (List ℕ))) → behind vendor_name p.target ≡ o → AreClear (if_outside o f p)
      by None e = own f (lock e (shape_of p.target are.0))
      by (Some below) e = tt

  pub job_parents : (wanted parts : List Part) → IsTree t → AreWanted wanted → IsJobFor project t wanted parts → HasParents project parts t
  job_parents wanted parts tree are (inl makes) =
      has_parents parts (subst AreClear (sym makes.parts_are) (clear_nothing vendor_name (without_last-snoc [] (codes "vendor")), outside_clear wanted makes.flags are))
  job_parents wanted parts tree are (inr makes) =
      has_parents parts (subst AreClear (sym makes.parts_are)
      (clear_append (left_parts (is_in_way project t wanted) wanted makes.flags) (gone_parts project t wanted)
      (left_clear makes.folder wanted are tree [] wanted makes.flags (λ part among. among)) (gone_clear makes.folder (needs_of wanted))))
