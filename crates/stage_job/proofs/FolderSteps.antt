-- The parts of a folder, one by one.
use Rattle.std.proofs.Common.{◌≡◌, ◌⊎◌, ℕ, zero, suc, ◌<◌, Bool, true, false, ◌||◌, cond, List, [], ◌∷◌, ◌++◌, length, take, get_or, Option, Some, None, is_some, refl, sym, ap, ◌∙◌, inl, inr, append_assoc, append-nil, arith}
use Rattle.std.proofs.lemmas.List.Folds.{list_any-append}
use Rattle.std.specs.FinMap as map
use Rattle.tree_dev.specs.Trees.{FileTree, behind}
use Rattle.tree_dev.specs.Projects.{is_within}
use Rattle.tree_dev.specs.declared.entry.Entry.{Entry}
use Rattle.tree_dev.specs.declared.entry.Entry.TheVariants as entries
use Rattle.tree_dev.proofs.Behind.{behind_head, head_behind}
use Rattle.tree_dev.proofs.ProjectParts.{behind_same_head}
use Rattle.tree_dev.proofs.Snoc.{IsSnoc, not_behind_front, not_root_behind, snoc_of, without_last-snoc}
use Rattle.stage_job.specs.Above.{HasWay, begins_names, front_of, is_front}
use Rattle.stage_job.specs.Checked.{leaf_checked}
use Rattle.stage_job.specs.Copied.{folder_alone}
use Rattle.stage_job.specs.Jobs.{AreApart, IsInnerApart, folder_entry, folder_if, inner_entry, inner_or, is_above_inner, is_itself, leaf_entry}
use Rattle.stage_job.specs.Mirrored.{is_mirrored}
use Rattle.stage_job.specs.Parts.{AreInnerFor, IsLeafApart, PutsInner}
use Rattle.stage_job.specs.Staged.{Puts}
use Rattle.stage_job.specs.declared.job.Inner.{Inner}
use Rattle.stage_job.specs.declared.job.Leaf.{Leaf}
use Rattle.stage_job.specs.declared.job.Leaf.TheVariants as leaves
use Rattle.stage_job.proofs.Alike.{package_alike}
use Rattle.stage_job.proofs.Below.{folder_above_child, not_below, not_longer}
use Rattle.stage_job.proofs.Fronts.{is_within_path, within_is}
use Rattle.std.proofs.Math.Bool.{or-true}

-- each of these parts is apart from one
abbrev pub AreApartFrom : List Inner → Inner → Type 0
AreApartFrom [] part = Unit {0}
AreApartFrom (other ∷ done) part = AreApart other.below part.below × AreApartFrom done part

apart_at : (part : Inner) (inner : List Inner) (j : ℕ) (d : Inner) → IsInnerApart part inner → j < length inner → AreApart part.below (get_or inner j d).below
apart_at part [] j d all lt = absurd (omega arith)
apart_at part (other ∷ inner) zero d all lt = all.0
apart_at part (other ∷ inner) (suc j) d all lt = apart_at part inner j d all.1 (omega arith)

pub earlier_apart : (inner : List Inner) (to : List (List ℕ)) (i : ℕ) (d : Inner) → AreInnerFor inner to → i < length inner → AreApartFrom (take i inner) (get_or inner i d)
earlier_apart [] to i d all lt = absurd (omega arith)
earlier_apart (part ∷ inner) to zero d all lt = tt
earlier_apart (part ∷ inner) to (suc j) d all lt = (apart_at part inner j d all.2 (omega arith), earlier_apart inner to j d all.3 (omega arith))

pub leaf_at : (inner : List Inner) (to : List (List ℕ)) (i : ℕ) (d : Inner) → AreInnerFor inner to → i < length inner → IsLeafApart (get_or inner i d).from to
leaf_at [] to i d all lt = absurd (omega arith)
leaf_at (part ∷ inner) to zero d all lt = all.0
leaf_at (part ∷ inner) to (suc j) d all lt = leaf_at inner to j d all.3 (omega arith)

pub below_at : (inner : List Inner) (to : List (List ℕ)) (i : ℕ) (d : Inner) → AreInnerFor inner to → i < length inner → is_itself (get_or inner i d).below ≡ false
below_at [] to i d all lt = absurd (omega arith)
below_at (part ∷ inner) to zero d all lt = all.1
below_at (part ∷ inner) to (suc j) d all lt = below_at inner to j d all.3 (omega arith)

-- ---- what the parts so far have at, below and above the place of the next one

module _ (t : FileTree) (part : Inner) where
  pub none_below : (done : List Inner) (r : List (List ℕ)) (others : Option Entry) → AreApartFrom done part → inner_entry t done (part.below ++ r) others ≡ others
  none_below [] r others apart = refl
  none_below (other ∷ done) r others apart =
      ap (λ (o : Option (List (List ℕ))). inner_or t other.from o (inner_entry t done (part.below ++ r) others)) (not_below other.below part.below r apart.0)
      ∙ none_below done r others apart.1

  pub none_above : (done : List Inner) (below s : List (List ℕ)) (others : Option Entry) → part.below ≡ below ++ s → AreApartFrom done part → inner_entry t done below others ≡ others
  none_above [] below s others is apart = refl
  none_above (other ∷ done) below s others is apart =
      ap (λ (o : Option (List (List ℕ))). inner_or t other.from o (inner_entry t done below others)) (not_behind_front other.below below s (ap (behind other.below) (sym is) ∙ apart.0.0))
      ∙ none_above done below s others is apart.1

  pub one_inner_more : (done : List Inner) (below : List (List ℕ)) (others : Option Entry) → inner_entry t (done ++ part ∷ []) below others ≡ inner_entry t done below (inner_or t part.from (behind part.below below) others)
  one_inner_more [] below others = refl
  one_inner_more (other ∷ done) below others = ap (inner_or t other.from (behind other.below below)) (one_inner_more done below others)

  is_none_by : (o : Option (List (List ℕ))) → o ≡ None → is_some o ≡ false
  is_none_by None e = refl
  is_none_by (Some x) e = absurd cc

  pub none_holds : (done : List Inner) (r : List (List ℕ)) → AreApartFrom done part → is_above_inner done (part.below ++ r) ≡ false
  none_holds [] r apart = refl
  none_holds (other ∷ done) r apart = rw (is_none_by (behind (part.below ++ r) other.below) (not_longer part.below r other.below apart.0.1)) (none_holds done r apart.1)

not_itself : (p r : List (List ℕ)) → is_itself p ≡ false → is_itself (p ++ r) ≡ false
not_itself [] r e = absurd cc
not_itself (x ∷ p) r e = refl

or_false : (a : Bool) → (a || (false || false)) ≡ a
or_false true = refl
or_false false = refl

above_more : (done : List Inner) (part : Inner) (below : List (List ℕ)) → is_above_inner (done ++ part ∷ []) below ≡ (is_above_inner done below || (is_within below part.below || false))
above_more done part below = list_any-append (λ (p : Inner). is_within below p.below) done (part ∷ [])

leaf_alike : (leaf : Leaf) (to : List (List ℕ)) (t m : FileTree) → IsLeafApart leaf to → ((source below : List (List ℕ)) → AreApart source to → map.get m (source ++ below) ≡ map.get t (source ++ below))
    → (r : List (List ℕ)) → leaf_entry m leaf r ≡ leaf_entry t leaf r
leaf_alike (leaves.Copy source) to t m apart alike r = ap (λ (e : Option Entry). cond (is_mirrored r) e None) (alike source r apart)
leaf_alike (leaves.Bytes bytes) to t m apart alike r = refl

folder_or_none : (b : Bool) → (folder_if b ≡ None) ⊎ (folder_if b ≡ Some entries.Folder)
folder_or_none true = inr refl
folder_or_none false = inl refl

pub front_is : (p f : List (List ℕ)) (x : List ℕ) → p ≡ f ++ x ∷ [] → front_of p ≡ f
front_is p f x is = ap front_of is ∙ rw (without_last-snoc f x) refl

pub snoc_below : (p : List (List ℕ)) → is_itself p ≡ false → IsSnoc p
snoc_below [] e = absurd cc
snoc_below (x ∷ rest) e = snoc_of (x ∷ rest) refl

-- what begins the folder above a part begins the part
front_within : (p below : List (List ℕ)) → is_itself p ≡ false → is_within below (front_of p) ≡ true → is_within below p ≡ true
front_within p below proper e =
    let s = snoc_below p proper in
    let r = is_within_path below (front_of p) e in
    within_is below p (r.0 ++ s.last ∷ []) (s.is ∙ ap (λ (q : List (List ℕ)). q ++ s.last ∷ []) (sym (front_is p s.front s.last s.is) ∙ r.1) ∙ append_assoc below r.0 (s.last ∷ []))

-- what begins a part, and is not all of it, begins the folder above it
within_front : (p below s : List (List ℕ)) (x : List ℕ) → p ≡ below ++ x ∷ s → is_within below (front_of p) ≡ true
within_front p below s x is =
    let last : IsSnoc (x ∷ s) = snoc_of (x ∷ s) refl in
    let whole : p ≡ (below ++ last.front) ++ last.last ∷ [] = is ∙ ap (λ (q : List (List ℕ)). below ++ q) last.is ∙ sym (append_assoc below last.front (last.last ∷ [])) in
    within_is below (front_of p) last.front (front_is p (below ++ last.front) last.last whole)

pub begins_of : (o : Option (List (List ℕ))) (names : List (List ℕ)) → begins_names o names ≡ true → (f : List (List ℕ)) × ((o ≡ Some f) × (is_within f names ≡ true))
begins_of None names e = absurd cc
begins_of (Some []) names e = absurd cc
begins_of (Some (first ∷ front)) names e = (first ∷ front, (refl, e))

-- ---- one part more

module _ (to : List (List ℕ)) (done : List Inner) (part : Inner) (t m : FileTree) (so_far : Puts to (folder_entry t done) t m) (proper : is_itself part.below ≡ false) (apart : AreApartFrom done part) where
  top_folder : map.get m to ≡ Some entries.Folder
  top_folder = ap (map.get m) (sym (append-nil to)) ∙ so_far.put [] ∙ none_above t part done [] part.below (Some entries.Folder) refl apart

  pub part_free : (rest : List (List ℕ)) → map.get m ((to ++ part.below) ++ rest) ≡ None
  part_free rest =
      ap (map.get m) (append_assoc to part.below rest) ∙ so_far.put (part.below ++ rest)
      ∙ none_below t part done rest (folder_if (is_itself (part.below ++ rest) || is_above_inner done (part.below ++ rest))) apart
      ∙ ap (λ (b : Bool). folder_if (b || is_above_inner done (part.below ++ rest))) (not_itself part.below rest proper)
      ∙ ap folder_if (none_holds t part done rest apart)

  pub part_way : HasWay to (front_of part.below) m
  part_way = record {
    base_folder = λ name. folder_above_child m to name top_folder;
    each = λ path e. on_way path e;
  }
    where
      on_way : (path : List (List ℕ)) → is_front to (front_of part.below) path ≡ true → (map.get m path ≡ None) ⊎ (map.get m path ≡ Some entries.Folder)
      on_way path e =
          let f = begins_of (behind to path) (front_of part.below) e in
          let within = front_within part.below f.0 proper f.1.1 in
          let s = is_within_path f.0 part.below within in
          let here : map.get m path ≡ folder_if (is_itself f.0 || is_above_inner done f.0) =
          ap (map.get m) (head_behind to path f.0 f.1.0) ∙ so_far.put f.0 ∙ none_above t part done f.0 s.0 (folder_if (is_itself f.0 || is_above_inner done f.0)) s.1 apart in
          elim (folder_or_none (is_itself f.0 || is_above_inner done f.0)) [ inl none ↦ inl (here ∙ none) | inr folder ↦ inr (here ∙ folder) ]

  module _ (u : FileTree) (leaf : IsLeafApart part.from to) (puts : PutsInner to part m u) where
    alike : (source below : List (List ℕ)) → AreApart source to → map.get m (source ++ below) ≡ map.get t (source ++ below)
    alike source below other = so_far.elsewhere (source ++ below) (not_below to source below (other.1, other.0))

    abbrev goal_of : List (List ℕ) → Option Entry
    goal_of below = folder_entry t (done ++ part ∷ []) below

    at_part : (below r : List (List ℕ)) → behind part.below below ≡ Some r → leaf_entry m part.from r ≡ goal_of below
    at_part below r e =
        leaf_alike part.from to t m leaf alike r
        ∙ sym (one_inner_more t part done below (folder_if (is_itself below || is_above_inner (done ++ part ∷ []) below))
        ∙ ap (λ (o : Option (List (List ℕ))). inner_entry t done below (inner_or t part.from o (folder_if (is_itself below || is_above_inner (done ++ part ∷ []) below)))) e
        ∙ ap (λ (p : List (List ℕ)). inner_entry t done p (leaf_entry t part.from r)) (head_behind part.below below r e)
        ∙ none_below t part done r (leaf_entry t part.from r) apart)

    beside : (below : List (List ℕ)) → behind part.below below ≡ None → goal_of below ≡ inner_entry t done below (folder_if (is_itself below || (is_above_inner done below || (is_within below part.below || false))))
    beside below e =
        one_inner_more t part done below (folder_if (is_itself below || is_above_inner (done ++ part ∷ []) below))
        ∙ ap (λ (o : Option (List (List ℕ))). inner_entry t done below (inner_or t part.from o (folder_if (is_itself below || is_above_inner (done ++ part ∷ []) below)))) e
        ∙ ap (λ (b : Bool). inner_entry t done below (folder_if (is_itself below || b))) (above_more done part below)

    above_case : (below s : List (List ℕ)) → part.below ≡ below ++ s → behind part.below below ≡ None
        → cond (begins_names (Some below) (front_of part.below)) (Some entries.Folder) (folder_entry t done below) ≡ goal_of below
    above_case below [] is e = absurd (let same : behind part.below below ≡ Some [] = ap (λ (p : List (List ℕ)). behind p below) (is ∙ append-nil below) ∙ ap (behind below) (sym (append-nil below)) ∙ behind_head below [] in cc)
    above_case [] (x ∷ s) is e = none_above t part done [] part.below (Some entries.Folder) refl apart ∙ sym (beside [] e ∙ none_above t part done [] part.below (Some entries.Folder) refl apart)
    above_case (b ∷ bs) (x ∷ s) is e =
        rw (within_front part.below (b ∷ bs) s x is)
        (sym (beside (b ∷ bs) e ∙ none_above t part done (b ∷ bs) (x ∷ s) _ is apart
        ∙ ap (λ (w : Bool). folder_if (is_above_inner done (b ∷ bs) || (w || false))) (within_is (b ∷ bs) part.below (x ∷ s) is)
        ∙ ap folder_if (or-true (is_above_inner done (b ∷ bs)))))

    other_case : (below : List (List ℕ)) → is_within below part.below ≡ false → behind part.below below ≡ None
        → cond (begins_names (Some below) (front_of part.below)) (Some entries.Folder) (folder_entry t done below) ≡ goal_of below
    other_case [] w e = absurd cc
    other_case (b ∷ bs) w e = by (is_within (b ∷ bs) (front_of part.below)) refl
      where
        by : (f : Bool) → is_within (b ∷ bs) (front_of part.below) ≡ f → cond f (Some entries.Folder) (folder_entry t done (b ∷ bs)) ≡ goal_of (b ∷ bs)
        by true h = absurd (let in_part = front_within part.below (b ∷ bs) proper h in cc)
        by false h = sym (beside (b ∷ bs) e ∙ ap (λ (w : Bool). inner_entry t done (b ∷ bs) (folder_if (is_above_inner done (b ∷ bs) || (w || false)))) w
            ∙ ap (λ (a : Bool). inner_entry t done (b ∷ bs) (folder_if a)) (or_false (is_above_inner done (b ∷ bs))))

    by_place : (below : List (List ℕ)) (o : Option (List (List ℕ))) → behind part.below below ≡ o
        → inner_or m part.from o (cond (begins_names (Some below) (front_of part.below)) (Some entries.Folder) (folder_entry t done below)) ≡ goal_of below
    by_place below (Some r) e = at_part below r e
    by_place below None e = by (is_within below part.below) refl
      where
        by : (w : Bool) → is_within below part.below ≡ w → cond (begins_names (Some below) (front_of part.below)) (Some entries.Folder) (folder_entry t done below) ≡ goal_of below
        by true w = let s = is_within_path below part.below w in above_case below s.0 s.1 e
        by false w = other_case below w e

    pub part_put : Puts to (folder_entry t (done ++ part ∷ [])) t u
    part_put = record {
      put = λ below.
          puts.each (to ++ below)
          ∙ ap (λ (o : Option (List (List ℕ))). inner_or m part.from o (cond (is_front to (front_of part.below) (to ++ below)) (Some entries.Folder) (map.get m (to ++ below)))) (behind_same_head to part.below below)
          ∙ ap (λ (o : Option (List (List ℕ))). inner_or m part.from (behind part.below below) (cond (begins_names o (front_of part.below)) (Some entries.Folder) (map.get m (to ++ below)))) (behind_head to below)
          ∙ ap (λ (e : Option Entry). inner_or m part.from (behind part.below below) (cond (begins_names (Some below) (front_of part.below)) (Some entries.Folder) e)) (so_far.put below)
          ∙ by_place below (behind part.below below) refl;
      elsewhere = λ path out.
          puts.each path
          ∙ ap (λ (o : Option (List (List ℕ))). inner_or m part.from o (cond (is_front to (front_of part.below) path) (Some entries.Folder) (map.get m path))) (not_longer to part.below path out)
          ∙ ap (λ (o : Option (List (List ℕ))). cond (begins_names o (front_of part.below)) (Some entries.Folder) (map.get m path)) out
          ∙ so_far.elsewhere path out;
    }

-- before the first part: the folder alone
pub no_parts : (to : List (List ℕ)) (t m : FileTree) → Puts to folder_alone t m → Puts to (folder_entry t []) t m
no_parts to t m puts = record { put = λ below. puts.put below ∙ by below; elsewhere = puts.elsewhere }
  where
    by : (below : List (List ℕ)) → folder_alone below ≡ folder_entry t [] below
    by [] = refl
    by (x ∷ rest) = refl

-- a part is checked as over the tree before
pub leaf_kept : (leaf : Leaf) (to at : List (List ℕ)) (t m : FileTree) (left : ℕ) {what : List (List ℕ) → Option Entry} → IsLeafApart leaf to → Puts to what t m → leaf_checked m at leaf left ≡ leaf_checked t at leaf left
leaf_kept (leaves.Copy source) to at t m left {what} apart puts = package_alike source t m left (not_root_behind source to apart.0) (record { each = λ below. puts.elsewhere (source ++ below) (not_below to source below (apart.1, apart.0)) })
leaf_kept (leaves.Bytes bytes) to at t m left {what} apart puts = refl
