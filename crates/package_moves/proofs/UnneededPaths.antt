-- Which paths of `vendor` are to go, beside those of targets.
use Rattle.std.proofs.Common.{◌≡◌, ◌⊎◌, ℕ, Bool, true, false, ◌||◌, cond, List, [], ◌∷◌, ◌++◌, length, Option, Some, None, refl, sym, ap, subst, ◌∙◌, inl, inr, length-append, codes, arith}
use Rattle.std.specs.List.{list_any}
use Rattle.std.specs.Ordering.{is_eq}
use Rattle.path_name.specs.Orders.{bytes_are_equal, path_cmp}
use Rattle.path_name.specs.Paths.{without_last}
use Rattle.tree_dev.specs.Told.{equal_paths, one_of}
use Rattle.tree_dev.specs.Trees.{FileTree, behind}
use Rattle.tree_dev.specs.Projects.{vendor_path}
use Rattle.tree_dev.proofs.Behind.{behind_head, head_behind, same_bytes}
use Rattle.tree_dev.proofs.ProjectParts.{behind_same_head}
use Rattle.tree_dev.proofs.Snoc.{parent_of, without_last-snoc}
use Rattle.stage_job.specs.Jobs.{AreApart, IsTargetApart}
use Rattle.stage_job.specs.declared.job.Part.{Part}
use Rattle.package_moves.proofs.PathsBehind.{itself}
use Rattle.package_moves.specs.Known.{AreAllApart}
use Rattle.package_moves.specs.Moves.{IsAmong}
use Rattle.package_moves.specs.Needed.{if_other, is_folder_at, names_of, needs_of, others_in, unneeded, unneeded_at, unneeded_of}
use Rattle.package_moves.specs.Wanted.{AreWanted, IsWantedTarget, is_short, vendor_name}

or_true : (a : Bool) {b : Bool} → b ≡ true → (a || b) ≡ true
or_true true e = refl
or_true false e = e

-- ---- targets

-- a target has one of three shapes
abbrev pub Shape : List (List ℕ) → Type 0
Shape target = (target ≡ codes "composer.lock" ∷ []) ⊎ (((a : List ℕ) × (target ≡ vendor_name ++ a ∷ [])) ⊎ ((a : List ℕ) × ((b : List ℕ) × (target ≡ vendor_name ++ a ∷ b ∷ []))))

shape_by : (target : List (List ℕ)) (o : Option (List (List ℕ))) → behind vendor_name target ≡ o → is_short o ≡ true → Shape target
shape_by target None is short = absurd cc
shape_by target (Some []) is short = absurd cc
shape_by target (Some (a ∷ [])) is short = inr (inl (a, head_behind vendor_name target (a ∷ []) is))
shape_by target (Some (a ∷ b ∷ [])) is short = inr (inr (a, (b, head_behind vendor_name target (a ∷ b ∷ []) is)))
shape_by target (Some (a ∷ b ∷ more ∷ rest)) is short = absurd cc

pub shape_of : (target : List (List ℕ)) → IsWantedTarget target → Shape target
shape_of target (inl is) = inl is
shape_of target (inr short) = shape_by target (behind vendor_name target) refl short

pub is_target_of : (wanted : List Part) (part : Part) → IsAmong wanted part → list_any (λ p. is_eq (path_cmp p.target part.target)) wanted ≡ true
is_target_of [] part among = absurd among
is_target_of (x ∷ xs) part (inl e) = ap (λ (p : Part). is_eq (path_cmp p.target part.target) || list_any (λ q. is_eq (path_cmp q.target part.target)) xs) e ∙ rw (itself part.target) refl
is_target_of (x ∷ xs) part (inr more) = or_true (is_eq (path_cmp x.target part.target)) (is_target_of xs part more)

pub is_above_of : (wanted : List Part) (part : Part) (folder : List (List ℕ)) → IsAmong wanted part → without_last part.target ≡ Some folder → list_any (λ p. is_folder_at (without_last p.target) folder) wanted ≡ true
is_above_of [] part folder among is = absurd among
is_above_of (x ∷ xs) part folder (inl e) is =
    ap (λ (p : Part). is_folder_at (without_last p.target) folder || list_any (λ q. is_folder_at (without_last q.target) folder) xs) e
    ∙ ap (λ (o : Option (List (List ℕ))). is_folder_at o folder || list_any (λ q. is_folder_at (without_last q.target) folder) xs) is ∙ rw (itself folder) refl
is_above_of (x ∷ xs) part folder (inr more) is = or_true (is_folder_at (without_last x.target) folder) (is_above_of xs part folder more is)

-- a part that is at a path
pub target_found : (wanted : List Part) (path : List (List ℕ)) → list_any (λ p. is_eq (path_cmp p.target path)) wanted ≡ true → (part : Part) × (IsAmong wanted part × (part.target ≡ path))
target_found [] path is = absurd cc
target_found (x ∷ xs) path is = by (one_of (is_eq (path_cmp x.target path)) (list_any (λ p. is_eq (path_cmp p.target path)) xs) is) (target_found xs path)
  where
    by : (is_eq (path_cmp x.target path) ≡ true) ⊎ (list_any (λ p. is_eq (path_cmp p.target path)) xs ≡ true)
        → (list_any (λ p. is_eq (path_cmp p.target path)) xs ≡ true → (part : Part) × (IsAmong xs part × (part.target ≡ path)))
        → (part : Part) × (IsAmong (x ∷ xs) part × (part.target ≡ path))
    by (inl here) more = (x, (inl refl, equal_paths x.target path here))
    by (inr later) more = let found = more later in (found.0, (inr found.1.0, found.1.1))

folder_is : (o : Option (List (List ℕ))) (folder : List (List ℕ)) → is_folder_at o folder ≡ true → o ≡ Some folder
folder_is None folder is = absurd cc
folder_is (Some other) folder is = ap (λ (p : List (List ℕ)). Some p) (equal_paths other folder is)

pub above_found : (wanted : List Part) (folder : List (List ℕ)) → list_any (λ p. is_folder_at (without_last p.target) folder) wanted ≡ true → (part : Part) × (IsAmong wanted part × (without_last part.target ≡ Some folder))
above_found [] folder is = absurd cc
above_found (x ∷ xs) folder is = by (one_of (is_folder_at (without_last x.target) folder) (list_any (λ p. is_folder_at (without_last p.target) folder) xs) is) (above_found xs folder)
  where
    by : (is_folder_at (without_last x.target) folder ≡ true) ⊎ (list_any (λ p. is_folder_at (without_last p.target) folder) xs ≡ true)
        → (list_any (λ p. is_folder_at (without_last p.target) folder) xs ≡ true → (part : Part) × (IsAmong xs part × (without_last part.target ≡ Some folder)))
        → (part : Part) × (IsAmong (x ∷ xs) part × (without_last part.target ≡ Some folder))
    by (inl here) more = (x, (inl refl, folder_is (without_last x.target) folder here))
    by (inr later) more = let found = more later in (found.0, (inr found.1.0, found.1.1))

-- ---- apart

apart_among : (target : List (List ℕ)) (parts : List Part) (part : Part) → IsTargetApart target parts → IsAmong parts part → AreApart target part.target
apart_among target [] part all among = absurd among
apart_among target (x ∷ xs) part all (inl e) = subst (λ (p : Part). AreApart target p.target) e all.0
apart_among target (x ∷ xs) part all (inr more) = apart_among target xs part all.1 more

no_own : (folder : List (List ℕ)) (last : List ℕ) → folder ≡ folder ++ last ∷ [] → ⊥
no_own folder last is = let n = ap length is in let m = length-append folder (last ∷ []) in omega (arith, n ∙ m)

-- no target has another in it
pub not_both : (wanted : List Part) (one other : Part) (folder : List (List ℕ)) → AreWanted wanted → IsAmong wanted one → IsAmong wanted other → one.target ≡ folder → without_last other.target ≡ Some folder → ⊥
not_both wanted one other folder are a b is above = at wanted are a b
  where
    last : List ℕ
    last = (parent_of other.target folder above).0

    longer : other.target ≡ one.target ++ (parent_of other.target folder above).0 ∷ []
    longer = (parent_of other.target folder above).1 ∙ ap (λ (f : List (List ℕ)). f ++ (parent_of other.target folder above).0 ∷ []) (sym is)

    behind_is : behind one.target other.target ≡ Some ((parent_of other.target folder above).0 ∷ [])
    behind_is = ap (behind one.target) longer ∙ behind_head one.target ((parent_of other.target folder above).0 ∷ [])

    never : behind one.target other.target ≡ None → ⊥
    never none = let some = behind_is in cc

    same : one ≡ other → ⊥
    same e = no_own one.target (parent_of other.target folder above).0 (ap (λ (p : Part). p.target) e ∙ longer)

    at : (parts : List Part) → AreWanted parts → IsAmong parts one → IsAmong parts other → ⊥
    at [] all a b = a
    at (x ∷ xs) all (inl e) (inl f) = same (sym e ∙ f)
    at (x ∷ xs) all (inl e) (inr b) = never ((subst (λ (p : Part). AreApart p.target other.target) e (apart_among x.target xs other all.2 b)).0)
    at (x ∷ xs) all (inr a) (inl f) = never ((subst (λ (p : Part). AreApart p.target one.target) f (apart_among x.target xs one all.2 a)).1)
    at (x ∷ xs) all (inr a) (inr b) = at xs all.3 a b

pub all_append : (xs ys : List (List (List ℕ))) (target : List (List ℕ)) → AreAllApart xs target → AreAllApart ys target → AreAllApart (xs ++ ys) target
all_append [] ys target a b = b
all_append (x ∷ xs) ys target a b = (a.0, all_append xs ys target a.1 b)

names_differ : (a n : List ℕ) → (a ≡ n → ⊥) → bytes_are_equal a n ≡ false
names_differ a n never = by (bytes_are_equal a n) refl
  where
    by : (b : Bool) → bytes_are_equal a n ≡ b → bytes_are_equal a n ≡ false
    by true e = absurd (never (same_bytes a n e))
    by false e = e

pub first_differs : (a n : List ℕ) (x y : List (List ℕ)) → (a ≡ n → ⊥) → behind (a ∷ x) (n ∷ y) ≡ None
first_differs a n x y never = ap (λ (b : Bool). cond b (behind x y) None) (names_differ a n never)

pub turned : {a n : List ℕ} → (a ≡ n → ⊥) → n ≡ a → ⊥
turned never e = never (sym e)

pub in_vendor_apart : (x y : List (List ℕ)) → behind x y ≡ None → behind y x ≡ None → AreApart (vendor_name ++ x) (vendor_name ++ y)
in_vendor_apart x y a b = (behind_same_head vendor_name x y ∙ a, behind_same_head vendor_name y x ∙ b)

pub lock_apart : (x : List (List ℕ)) → AreApart (vendor_name ++ x) (codes "composer.lock" ∷ [])
lock_apart x = (refl, refl)

apart_for : (path target other : List (List ℕ)) → target ≡ other → AreApart path other → AreApart path target
apart_for path target other is apart = subst (λ (p : List (List ℕ)). AreApart path p) (sym is) apart

module _ (wanted : List Part) (are : AreWanted wanted) (part : Part) (among : IsAmong wanted part) where
  target_here : (path : List (List ℕ)) → part.target ≡ path → (needs_of wanted).is_target path ≡ true
  target_here path is = ap (λ (p : List (List ℕ)). list_any (λ q. is_eq (path_cmp q.target p)) wanted) (sym is) ∙ is_target_of wanted part among

  -- an entry of `vendor` that is no target, and has none in it
  pub one_by : (n : List ℕ) → (needs_of wanted).is_above (vendor_name ++ n ∷ []) ≡ false → (needs_of wanted).is_target (vendor_name ++ n ∷ []) ≡ false → Shape part.target → AreApart (vendor_name ++ n ∷ []) part.target
  one_by n above target (inl is) = apart_for (vendor_name ++ n ∷ []) part.target (codes "composer.lock" ∷ []) is (lock_apart (n ∷ []))
  one_by n above target (inr (inl (a, is))) =
      let never = λ (e : n ≡ a). absurd (let yes_target : (needs_of wanted).is_target (vendor_name ++ n ∷ []) ≡ true = target_here (vendor_name ++ n ∷ []) (is ∙ ap (λ (x : List ℕ). vendor_name ++ x ∷ []) (sym e)) in cc) in
      apart_for (vendor_name ++ n ∷ []) part.target (vendor_name ++ a ∷ []) is (in_vendor_apart (n ∷ []) (a ∷ []) (first_differs n a [] [] never) (first_differs a n [] [] (turned never)))
  one_by n above target (inr (inr (a, (b, is)))) =
      let never = λ (e : n ≡ a). absurd (
      let parent : without_last part.target ≡ Some (vendor_name ++ n ∷ []) =
      ap without_last is ∙ without_last-snoc (vendor_name ++ a ∷ []) b ∙ ap (λ (x : List ℕ). Some (vendor_name ++ x ∷ [])) (sym e) in
      let is_above : (needs_of wanted).is_above (vendor_name ++ n ∷ []) ≡ true = is_above_of wanted part (vendor_name ++ n ∷ []) among parent in cc) in
      apart_for (vendor_name ++ n ∷ []) part.target (vendor_name ++ a ∷ b ∷ []) is (in_vendor_apart (n ∷ []) (a ∷ b ∷ []) (first_differs n a [] (b ∷ []) never) (first_differs a n (b ∷ []) [] (turned never)))

  -- an entry that is no target, in a folder that has some
  pub two_by : (n m : List ℕ) → (needs_of wanted).is_above (vendor_name ++ n ∷ []) ≡ true → (needs_of wanted).is_target ((vendor_name ++ n ∷ []) ++ m ∷ []) ≡ false → Shape part.target
      → AreApart ((vendor_name ++ n ∷ []) ++ m ∷ []) part.target
  two_by n m above target (inl is) = apart_for ((vendor_name ++ n ∷ []) ++ m ∷ []) part.target (codes "composer.lock" ∷ []) is (lock_apart (n ∷ m ∷ []))
  two_by n m above target (inr (inl (a, is))) =
      let never = λ (e : n ≡ a).
      let found = above_found wanted (vendor_name ++ n ∷ []) above in
      not_both wanted part found.0 (vendor_name ++ n ∷ []) are among found.1.0 (is ∙ ap (λ (x : List ℕ). vendor_name ++ x ∷ []) (sym e)) found.1.1 in
      apart_for ((vendor_name ++ n ∷ []) ++ m ∷ []) part.target (vendor_name ++ a ∷ []) is
      (in_vendor_apart (n ∷ m ∷ []) (a ∷ []) (first_differs n a (m ∷ []) [] never) (first_differs a n [] (m ∷ []) (turned never)))
  two_by n m above target (inr (inr (a, (b, is)))) =
      apart_for ((vendor_name ++ n ∷ []) ++ m ∷ []) part.target (vendor_name ++ a ∷ b ∷ []) is (in_vendor_apart (n ∷ m ∷ []) (a ∷ b ∷ []) (by (bytes_are_equal n a) refl) (back (bytes_are_equal a n) refl))
    where
      never : n ≡ a → m ≡ b → ⊥
      never e f =
          let here : (needs_of wanted).is_target ((vendor_name ++ n ∷ []) ++ m ∷ []) ≡ true =
          target_here ((vendor_name ++ n ∷ []) ++ m ∷ []) (is ∙ ap (λ (x : List ℕ). vendor_name ++ x ∷ b ∷ []) (sym e) ∙ ap (λ (y : List ℕ). vendor_name ++ n ∷ y ∷ []) (sym f)) in cc

      by : (same : Bool) → bytes_are_equal n a ≡ same → behind (n ∷ m ∷ []) (a ∷ b ∷ []) ≡ None
      by true e = ap (λ (c : Bool). cond c (behind (m ∷ []) (b ∷ [])) None) e ∙ first_differs m b [] [] (λ f. never (same_bytes n a e) f)
      by false e = ap (λ (c : Bool). cond c (behind (m ∷ []) (b ∷ [])) None) e

      back : (same : Bool) → bytes_are_equal a n ≡ same → behind (a ∷ b ∷ []) (n ∷ m ∷ []) ≡ None
      back true e = ap (λ (c : Bool). cond c (behind (b ∷ []) (m ∷ [])) None) e ∙ first_differs b m [] [] (λ f. never (sym (same_bytes a n e)) (sym f))
      back false e = ap (λ (c : Bool). cond c (behind (b ∷ []) (m ∷ [])) None) e

  module _ (shape : Shape part.target) (project : List (List ℕ)) (t : FileTree) where
    others_apart : (n : List ℕ) → (needs_of wanted).is_above (vendor_name ++ n ∷ []) ≡ true → (names : List (List ℕ)) → AreAllApart (others_in (needs_of wanted) (vendor_name ++ n ∷ []) names) part.target
    others_apart n above [] = tt
    others_apart n above (m ∷ ms) = all_append (if_other ((needs_of wanted).is_target ((vendor_name ++ n ∷ []) ++ m ∷ [])) ((vendor_name ++ n ∷ []) ++ m ∷ [])) (others_in (needs_of wanted) (vendor_name ++ n ∷ []) ms) part.target
        (by ((needs_of wanted).is_target ((vendor_name ++ n ∷ []) ++ m ∷ [])) refl) (others_apart n above ms)
      where
        by : (b : Bool) → (needs_of wanted).is_target ((vendor_name ++ n ∷ []) ++ m ∷ []) ≡ b → AreAllApart (if_other b ((vendor_name ++ n ∷ []) ++ m ∷ [])) part.target
        by true e = tt
        by false e = (two_by n m above e shape, tt)

    at_apart : (n : List ℕ) → AreAllApart (unneeded_at (needs_of wanted) project t (vendor_name ++ n ∷ [])) part.target
    at_apart n = by ((needs_of wanted).is_above (vendor_name ++ n ∷ [])) refl
      where
        other : (needs_of wanted).is_above (vendor_name ++ n ∷ []) ≡ false → (b : Bool) → (needs_of wanted).is_target (vendor_name ++ n ∷ []) ≡ b → AreAllApart (if_other b (vendor_name ++ n ∷ [])) part.target
        other e true f = tt
        other e false f = (one_by n e f shape, tt)

        by : (b : Bool) → (needs_of wanted).is_above (vendor_name ++ n ∷ []) ≡ b
            → AreAllApart (cond b (others_in (needs_of wanted) (vendor_name ++ n ∷ []) (names_of t (project ++ (vendor_name ++ n ∷ [])))) (if_other ((needs_of wanted).is_target (vendor_name ++ n ∷ [])) (vendor_name ++ n ∷ []))) part.target
        by true e = others_apart n e (names_of t (project ++ (vendor_name ++ n ∷ [])))
        by false e = other e ((needs_of wanted).is_target (vendor_name ++ n ∷ [])) refl

    of_apart : (names : List (List ℕ)) → AreAllApart (unneeded_of (needs_of wanted) project t vendor_name names) part.target
    of_apart [] = tt
    of_apart (n ∷ ns) = all_append (unneeded_at (needs_of wanted) project t (vendor_name ++ n ∷ [])) (unneeded_of (needs_of wanted) project t vendor_name ns) part.target (at_apart n) (of_apart ns)

    -- what is to go is apart from each target
    pub gone_apart : AreAllApart (unneeded (needs_of wanted) project t) part.target
    unfolding unneeded
    gone_apart = of_apart (names_of t (vendor_path project))
