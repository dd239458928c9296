-- What a job makes of a project, whatever stands there.
use Rattle.std.proofs.Common.{◌≡◌, ◌⊎◌, ℕ, Bool, true, false, ◌||◌, cond, List, [], ◌∷◌, ◌++◌, map, Option, Some, None, is_some, filter, filter_map, refl, sym, ap, subst, ◌∙◌, inl, inr, append-nil, append_assoc}
use Rattle.std.proofs.lemmas.List.Folds.{list_any-append}
use Rattle.std.specs.Bool.{Decides}
use Rattle.path_name.specs.Paths.{without_last}
use Rattle.tree_dev.specs.Trees.{FileTree, IsTree, behind, entry_at}
use Rattle.tree_dev.specs.Projects.{bytes_of, file_at, is_within, vendor_path}
use Rattle.tree_dev.specs.declared.entry.Entry.{Entry}
use Rattle.tree_dev.proofs.Behind.{behind_head, head_behind}
use Rattle.tree_dev.proofs.ProjectParts.{behind_same_head}
use Rattle.tree_dev.proofs.Snoc.{parent_of}
use Rattle.stage_job.specs.Jobs.{AreApart, AreParts, Files, IsTargetApart, folder_if, inner_entry, inner_or, is_above_inner, is_itself, job_result, leaf_entry, part_entry, put_or}
use Rattle.stage_job.specs.declared.job.Inner.{Inner}
use Rattle.stage_job.specs.declared.job.Leaf.TheVariants as leaves
use Rattle.stage_job.specs.declared.job.Part.{Part}
use Rattle.stage_job.specs.declared.job.Source.{Source}
use Rattle.stage_job.specs.declared.job.Source.TheVariants as sources
use Rattle.stage_job.proofs.Below.{not_below}
use Rattle.stage_job.proofs.JobResults.{targets_apart}
use Rattle.package_moves.specs.Found.{AreStanding}
use Rattle.package_moves.specs.Gathered.{inner_list}
use Rattle.package_moves.specs.Joined.{folder_part, if_blocked, if_left, if_outside, inner_at, inner_below, inner_in, is_in, left_after, left_outside, left_parts, own_parts, vendor_part}
use Rattle.package_moves.specs.Known.{AreAllApart}
use Rattle.package_moves.specs.Moves.{IsAmong, IsJobFor, MakesParts, MakesVendor, is_in_way}
use Rattle.package_moves.specs.Needed.{gone_part, gone_parts, is_folder_at, names_of, needs_of, unneeded}
use Rattle.package_moves.specs.Wanted.{AreWanted, Stands, is_leaf_source, vendor_name, without_vendor}
use Rattle.package_moves.proofs.JobLaws.{among_either, among_first, among_last, in_way_is_name, left_has, outside_has, own_left, wanted_target}
use Rattle.package_moves.proofs.JobParts.{GivesBelow, below_gives, folder_apart, folder_of_at, in_gives, map_one}
use Rattle.package_moves.proofs.PathsBehind.{itself}
use Rattle.package_moves.proofs.Results.{AllInVendor, AreOff, IsCovered, bytes_at, file_gone_by, is_gone_at, no_bytes, of_in_vendor, result_off, stands_there}
use Rattle.package_moves.proofs.UnneededPaths.{Shape, above_found, gone_apart, lock_apart, shape_of}

-- ---- one part at a path

-- the targets of these are apart
abbrev pub AreTargetsApart : List Part → Type 0
AreTargetsApart [] = Unit {0}
AreTargetsApart (part ∷ parts) = IsTargetApart part.target parts × AreTargetsApart parts

pub parts_apart : (project : List (List ℕ)) (parts : List Part) → AreParts project parts → AreTargetsApart parts
parts_apart project [] all = tt
parts_apart project (x ∷ xs) all = (all.2, parts_apart project xs all.3)

apart_among : (target : List (List ℕ)) (parts : List Part) (part : Part) → IsTargetApart target parts → IsAmong parts part → AreApart target part.target
apart_among target [] part all among = absurd among
apart_among target (x ∷ xs) part all (inl e) = subst (λ (p : Part). AreApart target p.target) e all.0
apart_among target (x ∷ xs) part all (inr more) = apart_among target xs part all.1 more

module _ (project : List (List ℕ)) (t : FileTree) (path : List (List ℕ)) where
  -- the part at or above a path says what is there
  pub result_of : (parts : List Part) (part : Part) (below : List (List ℕ)) (old : Files) → AreTargetsApart parts → IsAmong parts part → behind (project ++ part.target) path ≡ Some below → job_result project t parts old path ≡ bytes_of (part_entry t part.from below)
  unfolding job_result
  result_of [] part below old apart among is = absurd among
  result_of (x ∷ xs) part below old apart (inl e) is =
      ap (λ (p : Part). put_or t p.from (behind (project ++ p.target) path) (job_result project t xs old path)) e
      ∙ ap (λ (o : Option (List (List ℕ))). put_or t part.from o (job_result project t xs old path)) is
  result_of (x ∷ xs) part below old apart (inr more) is =
      ap (λ (o : Option (List (List ℕ))). put_or t x.from o (job_result project t xs old path))
      (ap (behind (project ++ x.target)) (head_behind (project ++ part.target) path below is)
      ∙ not_below (project ++ x.target) (project ++ part.target) below (targets_apart project x.target part.target (apart_among x.target xs part apart.0 more)))
      ∙ result_of xs part below old apart.1 more is

  -- either no part is at or above a path, or some is
  pub covers : (parts : List Part) → AreOff project t path parts ⊎ IsCovered project t path parts
  covers [] = inl tt
  covers (x ∷ xs) = by (behind (project ++ x.target) path) refl (covers xs)
    where
      by : (o : Option (List (List ℕ))) → behind (project ++ x.target) path ≡ o → AreOff project t path xs ⊎ IsCovered project t path xs → AreOff project t path (x ∷ xs) ⊎ IsCovered project t path (x ∷ xs)
      by (Some below) e more = inr (x, (inl refl, (below, e)))
      by None e (inl off) = inl (e, off)
      by None e (inr covered) = inr (covered.0, (inr covered.1.0, covered.1.1))

-- ---- a folder of parts

-- the parts that are given
abbrev pub kept : (Part → Option Inner) → List Part → List Part
kept f parts = filter (λ part. is_some (f part)) parts

kept_target : (f : Part → Option Inner) (target : List (List ℕ)) (parts : List Part) → IsTargetApart target parts → IsTargetApart target (kept f parts)
kept_target f target [] apart = tt
kept_target f target (x ∷ xs) apart = by (is_some (f x)) (kept_target f target xs apart.1)
  where
    by : (b : Bool) → IsTargetApart target (kept f xs) → IsTargetApart target (cond b (x ∷ kept f xs) (kept f xs))
    by true more = (apart.0, more)
    by false more = more

pub kept_apart : (f : Part → Option Inner) (parts : List Part) → AreTargetsApart parts → AreTargetsApart (kept f parts)
kept_apart f [] apart = tt
kept_apart f (x ∷ xs) apart = by (is_some (f x)) (kept_target f x.target xs apart.0) (kept_apart f xs apart.1)
  where
    by : (b : Bool) → IsTargetApart x.target (kept f xs) → AreTargetsApart (kept f xs) → AreTargetsApart (cond b (x ∷ kept f xs) (kept f xs))
    by true here more = (here, more)
    by false here more = more

pub kept_among : (f : Part → Option Inner) (parts : List Part) (part : Part) → IsAmong parts part → is_some (f part) ≡ true → IsAmong (kept f parts) part
kept_among f [] part among is = absurd among
kept_among f (x ∷ xs) part (inl e) is =
    subst (λ (b : Bool). IsAmong (cond b (x ∷ kept f xs) (kept f xs)) part) (sym (ap (λ (p : Part). is_some (f p)) e ∙ is)) (inl e)
kept_among f (x ∷ xs) part (inr more) is = by (is_some (f x)) (kept_among f xs part more is)
  where
    by : (b : Bool) → IsAmong (kept f xs) part → IsAmong (cond b (x ∷ kept f xs) (kept f xs)) part
    by true here = inr here
    by false here = here

pub kept_off : (project : List (List ℕ)) (t : FileTree) (path : List (List ℕ)) (f : Part → Option Inner) (parts : List Part) → AreOff project t path parts → AreOff project t path (kept f parts)
kept_off project t path f [] off = tt
kept_off project t path f (x ∷ xs) off = by (is_some (f x)) (kept_off project t path f xs off.1)
  where
    by : (b : Bool) → AreOff project t path (kept f xs) → AreOff project t path (cond b (x ∷ kept f xs) (kept f xs))
    by true more = (off.0, more)
    by false more = more

inner_same : (a b : Inner) → ◌≡◌ {A = Option Inner} (Some a) (Some b) → a ≡ b
inner_same a b e = cc

-- a part of a folder has what the part has that it was made of
leaf_bytes : (t : FileTree) (from : Source) (place : List (List ℕ)) (inner : Inner) → inner_at from (Some place) ≡ Some inner → (o : Option (List (List ℕ))) (rest : Option Entry) (old : Option (List ℕ)) → bytes_of rest ≡ old
    → bytes_of (inner_or t inner.from o rest) ≡ put_or t from o old
unfolding part_entry
leaf_bytes t (sources.Copy source) place inner at None rest old is = is
leaf_bytes t (sources.Copy source) place inner at (Some r) rest old is = ap (λ (i : Inner). bytes_of (leaf_entry t i.from r)) (sym (inner_same (record { below = place; from = leaves.Copy source }) inner at))
leaf_bytes t (sources.Bytes bytes) place inner at None rest old is = is
leaf_bytes t (sources.Bytes bytes) place inner at (Some r) rest old is = ap (λ (i : Inner). bytes_of (leaf_entry t i.from r)) (sym (inner_same (record { below = place; from = leaves.Bytes bytes }) inner at))
leaf_bytes t (sources.Folder parts) place inner at o rest old is = absurd cc
leaf_bytes t sources.Gone place inner at o rest old is = absurd cc

place_is : (from : Source) (place : List (List ℕ)) (inner : Inner) → inner_at from (Some place) ≡ Some inner → inner.below ≡ place
place_is (sources.Copy source) place inner at = ap (λ (i : Inner). i.below) (sym (inner_same (record { below = place; from = leaves.Copy source }) inner at))
place_is (sources.Bytes bytes) place inner at = ap (λ (i : Inner). i.below) (sym (inner_same (record { below = place; from = leaves.Bytes bytes }) inner at))
place_is (sources.Folder parts) place inner at = absurd cc
place_is sources.Gone place inner at = absurd cc

module _ (project : List (List ℕ)) (t : FileTree) (folder below : List (List ℕ)) (f : Part → Option Inner) (gives : GivesBelow folder f) where
  target_at : (x : Part) (place : List (List ℕ)) → x.target ≡ folder ++ place → behind (project ++ x.target) ((project ++ folder) ++ below) ≡ behind place below
  target_at x place is =
      ap (λ (p : List (List ℕ)). behind (project ++ p) ((project ++ folder) ++ below)) is
      ∙ ap (λ (p : List (List ℕ)). behind p ((project ++ folder) ++ below)) (sym (append_assoc project folder place)) ∙ behind_same_head (project ++ folder) place below

  -- what a folder of parts has below it is what its parts make
  pub folder_bytes : (parts : List Part) (others : Option Entry) → bytes_of (inner_entry t (filter_map f parts) below others) ≡ job_result project t (kept f parts) (λ _. bytes_of others) ((project ++ folder) ++ below)
  unfolding job_result
  folder_bytes [] others = refl
  folder_bytes (x ∷ xs) others =
      ap (λ (inner : List Inner). bytes_of (inner_entry t inner below others)) (map_one project folder f gives x xs) ∙ by (f x) refl (gives x) (folder_bytes xs others)
    where
      put : (inner : Inner) (o : Option (List (List ℕ))) → behind folder x.target ≡ o → inner_at x.from o ≡ Some inner
          → bytes_of (inner_entry t (filter_map f xs) below others) ≡ job_result project t (kept f xs) (λ _. bytes_of others) ((project ++ folder) ++ below)
          → bytes_of (inner_or t inner.from (behind inner.below below) (inner_entry t (filter_map f xs) below others))
          ≡ put_or t x.from (behind (project ++ x.target) ((project ++ folder) ++ below)) (job_result project t (kept f xs) (λ _. bytes_of others) ((project ++ folder) ++ below))
      put inner None e at more = absurd cc
      put inner (Some place) e at more =
          leaf_bytes t x.from place inner at (behind inner.below below) (inner_entry t (filter_map f xs) below others) (job_result project t (kept f xs) (λ _. bytes_of others) ((project ++ folder) ++ below)) more
          ∙ ap (λ (o : Option (List (List ℕ))). put_or t x.from o (job_result project t (kept f xs) (λ _. bytes_of others) ((project ++ folder) ++ below)))
          (ap (λ (p : List (List ℕ)). behind p below) (place_is x.from place inner at) ∙ sym (target_at x place (head_behind folder x.target place e)))

      by : (o : Option Inner) → f x ≡ o → (f x ≡ None) ⊎ (f x ≡ inner_below folder x)
          → bytes_of (inner_entry t (filter_map f xs) below others) ≡ job_result project t (kept f xs) (λ _. bytes_of others) ((project ++ folder) ++ below)
          → bytes_of (inner_entry t (inner_list (f x) ++ filter_map f xs) below others) ≡ job_result project t (kept f (x ∷ xs)) (λ _. bytes_of others) ((project ++ folder) ++ below)
      by None e given more =
          ap (λ (o : Option Inner). bytes_of (inner_entry t (inner_list o ++ filter_map f xs) below others)) e ∙ more
          ∙ sym (ap (λ (o : Option Inner). job_result project t (cond (is_some o) (x ∷ kept f xs) (kept f xs)) (λ _. bytes_of others) ((project ++ folder) ++ below)) e)
      by (Some inner) e (inl none) more = absurd cc
      by (Some inner) e (inr is) more =
          ap (λ (o : Option Inner). bytes_of (inner_entry t (inner_list o ++ filter_map f xs) below others)) e
          ∙ put inner (behind folder x.target) refl (sym is ∙ e) more
          ∙ sym (ap (λ (o : Option Inner). job_result project t (cond (is_some o) (x ∷ kept f xs) (kept f xs)) (λ _. bytes_of others) ((project ++ folder) ++ below)) e)

  no_files : (b : Bool) → bytes_of (folder_if b) ≡ None
  no_files true = refl
  no_files false = refl

  -- a part of the folder at or above a path says what the folder's part has there
  pub folder_covered : (parts : List Part) (part : Part) (rest : List (List ℕ)) → AreTargetsApart parts → IsAmong parts part → is_some (f part) ≡ true → behind (project ++ part.target) ((project ++ folder) ++ below) ≡ Some rest
      → bytes_of (part_entry t (sources.Folder (filter_map f parts)) below) ≡ bytes_of (part_entry t part.from rest)
  unfolding part_entry
  folder_covered parts part rest apart among given is =
      let others = folder_if (is_itself below || is_above_inner (filter_map f parts) below) in
      folder_bytes parts others
      ∙ result_of project t ((project ++ folder) ++ below) (kept f parts) part rest (λ _. bytes_of others) (kept_apart f parts apart) (kept_among f parts part among given) is

  -- and where no part is there, it has no file
  pub folder_off : (parts : List Part) → AreOff project t ((project ++ folder) ++ below) parts → bytes_of (part_entry t (sources.Folder (filter_map f parts)) below) ≡ None
  unfolding part_entry
  folder_off parts off =
      let others = folder_if (is_itself below || is_above_inner (filter_map f parts) below) in
      folder_bytes parts others
      ∙ result_off project t ((project ++ folder) ++ below) (kept f parts) (λ _. bytes_of others) (kept_off project t ((project ++ folder) ++ below) f parts off)
      ∙ no_files (is_itself below || is_above_inner (filter_map f parts) below)

-- ---- which parts a job has

module _ (project : List (List ℕ)) (t : FileTree) (wanted : List Part) where
  -- a part of what is left: one that is wanted and does not stand, or that of a folder
  abbrev IsLeft : Part → Type 0
  IsLeft part = (IsAmong wanted part × (Stands project t part → ⊥))
      ⊎ ((folder : List (List ℕ)) × ((first : Part) × ((part ≡ folder_part folder wanted) × (is_in_way project t wanted folder ≡ true) × IsAmong wanted first × (without_last first.target ≡ Some folder))))

  left_kind : (earlier parts : List Part) (flags : List Bool) (part : Part) → AreStanding project t parts flags → ((p : Part) → IsAmong parts p → IsAmong wanted p)
      → IsAmong (left_after (is_in_way project t wanted) wanted earlier parts flags) part → IsLeft part
  left_kind earlier [] flags part standing sub among = absurd among
  left_kind earlier (x ∷ xs) [] part standing sub among = absurd among
  left_kind earlier (x ∷ xs) (f ∷ fs) part standing sub among =
      by (among_either (own_parts wanted earlier x f (if_blocked (is_in_way project t wanted) (without_last x.target))) (left_after (is_in_way project t wanted) wanted (earlier ++ x ∷ []) xs fs) part among)
      (left_kind (earlier ++ x ∷ []) xs fs part standing.1 (λ p is. sub p (inr is)))
    where
      own : IsAmong (if_left f x) part → IsLeft part
      own is = let kind = own_left project t x f part standing.0 is in inl (subst (IsAmong wanted) kind.0 (sub x (inl refl)), kind.1)

      made : (folder : List (List ℕ)) (b : Bool) → is_in_way project t wanted folder ≡ true → without_last x.target ≡ Some folder → IsAmong (if_left b (folder_part folder wanted)) part → IsLeft part
      made folder true way above is = absurd is
      made folder false way above (inl e) = inr (folder, (x, (sym e, way, sub x (inl refl), above)))
      made folder false way above (inr more) = absurd more

      in_folder : (folder : List (List ℕ)) (b : Bool) → is_in_way project t wanted folder ≡ b → without_last x.target ≡ Some folder → IsAmong (own_parts wanted earlier x f (cond b (Some folder) None)) part → IsLeft part
      in_folder folder true way above is = made folder (is_in folder earlier) way above is
      in_folder folder false way above is = own is

      at : (o : Option (List (List ℕ))) → without_last x.target ≡ o → IsAmong (own_parts wanted earlier x f (if_blocked (is_in_way project t wanted) o)) part → IsLeft part
      at None e is = own is
      at (Some folder) e is = in_folder folder (is_in_way project t wanted folder) refl e is

      by : IsAmong (own_parts wanted earlier x f (if_blocked (is_in_way project t wanted) (without_last x.target))) part ⊎ IsAmong (left_after (is_in_way project t wanted) wanted (earlier ++ x ∷ []) xs fs) part
          → (IsAmong (left_after (is_in_way project t wanted) wanted (earlier ++ x ∷ []) xs fs) part → IsLeft part) → IsLeft part
      by (inl is) more = at (without_last x.target) refl is
      by (inr is) more = more is

  -- the folder's part is there
  left_folder : (folder : List (List ℕ)) (first : Part) → is_in_way project t wanted folder ≡ true → without_last first.target ≡ Some folder → (earlier parts : List Part) (flags : List Bool) → AreStanding project t parts flags
      → is_in folder earlier ≡ false → IsAmong parts first → IsAmong (left_after (is_in_way project t wanted) wanted earlier parts flags) (folder_part folder wanted)
  left_folder folder first way above earlier [] flags standing none among = absurd among
  left_folder folder first way above earlier (x ∷ xs) [] standing none among = absurd standing
  left_folder folder first way above earlier (x ∷ xs) (f ∷ fs) standing none among =
      by (is_folder_at (without_last x.target) folder) refl among (λ still later. left_folder folder first way above (earlier ++ x ∷ []) xs fs standing.1 still later)
    where
      here : is_folder_at (without_last x.target) folder ≡ true → IsAmong (own_parts wanted earlier x f (if_blocked (is_in_way project t wanted) (without_last x.target))) (folder_part folder wanted)
      here e =
          subst (λ (o : Option (List (List ℕ))). IsAmong (own_parts wanted earlier x f (if_blocked (is_in_way project t wanted) o)) (folder_part folder wanted)) (sym (folder_of_at (without_last x.target) folder e))
          (subst (λ (b : Bool). IsAmong (own_parts wanted earlier x f (cond b (Some folder) None)) (folder_part folder wanted)) (sym way)
          (subst (λ (b : Bool). IsAmong (if_left b (folder_part folder wanted)) (folder_part folder wanted)) (sym none) (inl refl)))

      not_in : is_folder_at (without_last x.target) folder ≡ false → is_in folder (earlier ++ x ∷ []) ≡ false
      not_in e =
          list_any-append (λ (p : Part). is_folder_at (without_last p.target) folder) earlier (x ∷ []) ∙ ap (λ (b : Bool). is_in folder earlier || (b || false)) e ∙ ap (λ (b : Bool). b || (false || false)) none

      by : (b : Bool) → is_folder_at (without_last x.target) folder ≡ b → IsAmong (x ∷ xs) first
          → (is_in folder (earlier ++ x ∷ []) ≡ false → IsAmong xs first → IsAmong (left_after (is_in_way project t wanted) wanted (earlier ++ x ∷ []) xs fs) (folder_part folder wanted))
          → IsAmong (own_parts wanted earlier x f (if_blocked (is_in_way project t wanted) (without_last x.target)) ++ left_after (is_in_way project t wanted) wanted (earlier ++ x ∷ []) xs fs) (folder_part folder wanted)
      by true e there more =
          among_first (own_parts wanted earlier x f (if_blocked (is_in_way project t wanted) (without_last x.target))) (left_after (is_in_way project t wanted) wanted (earlier ++ x ∷ []) xs fs) (folder_part folder wanted) (here e)
      by false e (inl is) more = absurd (let other : is_folder_at (without_last x.target) folder ≡ true =
          ap (λ (p : Part). is_folder_at (without_last p.target) folder) is ∙ ap (λ (o : Option (List (List ℕ))). is_folder_at o folder) above ∙ itself folder in cc)
      by false e (inr later) more =
          among_last (own_parts wanted earlier x f (if_blocked (is_in_way project t wanted) (without_last x.target))) (left_after (is_in_way project t wanted) wanted (earlier ++ x ∷ []) xs fs) (folder_part folder wanted) (more (not_in e) later)

  outside_kind : (parts : List Part) (flags : List Bool) (part : Part) → AreStanding project t parts flags → IsAmong (left_outside parts flags) part → IsAmong parts part × (Stands project t part → ⊥)
  outside_kind [] flags part standing among = absurd among
  outside_kind (x ∷ xs) [] part standing among = absurd among
  outside_kind (x ∷ xs) (f ∷ fs) part standing among =
      by (behind vendor_name x.target) (among_either (if_outside (behind vendor_name x.target) f x) (left_outside xs fs) part among) (outside_kind xs fs part standing.1)
    where
      by : (o : Option (List (List ℕ))) → IsAmong (if_outside o f x) part ⊎ IsAmong (left_outside xs fs) part → (IsAmong (left_outside xs fs) part → IsAmong xs part × (Stands project t part → ⊥)) → IsAmong (x ∷ xs) part × (Stands project t part → ⊥)
      by None (inl is) more = let kind = own_left project t x f part standing.0 is in (inl kind.0, kind.1)
      by (Some below) (inl is) more = absurd is
      by o (inr is) more = let kind = more is in (inr kind.0, kind.1)

  standing_of : (parts : List Part) (flags : List Bool) (part : Part) → AreStanding project t parts flags → IsAmong parts part → Stands project t part ⊎ (Stands project t part → ⊥)
  standing_of [] flags part standing among = absurd among
  standing_of (x ∷ xs) [] part standing among = absurd standing
  standing_of (x ∷ xs) (f ∷ fs) part standing (inl e) = by f (subst (λ (p : Part). Decides f (Stands project t p)) e standing.0)
    where
      by : (b : Bool) → Decides b (Stands project t part) → Stands project t part ⊎ (Stands project t part → ⊥)
      by true decides = inl (decides.0 refl)
      by false decides = inr (λ stands. absurd (let is = decides.1 stands in cc))
  standing_of (x ∷ xs) (f ∷ fs) part standing (inr more) = standing_of xs fs part standing.1 more

wanted_apart : (parts : List Part) → AreWanted parts → AreTargetsApart parts
wanted_apart [] are = tt
wanted_apart (x ∷ xs) are = (are.2, wanted_apart xs are.3)

wanted_leaf : (parts : List Part) (part : Part) → AreWanted parts → IsAmong parts part → is_leaf_source part.from ≡ true
wanted_leaf [] part are among = absurd among
wanted_leaf (x ∷ xs) part are (inl e) = subst (λ (p : Part). is_leaf_source p.from ≡ true) e are.1
wanted_leaf (x ∷ xs) part are (inr more) = wanted_leaf xs part are.3 more

same_or_apart : (parts : List Part) (one other : Part) → AreTargetsApart parts → IsAmong parts one → IsAmong parts other → (one ≡ other) ⊎ AreApart one.target other.target
same_or_apart [] one other apart a b = absurd a
same_or_apart (x ∷ xs) one other apart (inl e) (inl f) = inl (sym e ∙ f)
same_or_apart (x ∷ xs) one other apart (inl e) (inr b) = inr (subst (λ (p : Part). AreApart p.target other.target) e (apart_among x.target xs other apart.0 b))
same_or_apart (x ∷ xs) one other apart (inr a) (inl f) =
    let there = subst (λ (p : Part). AreApart p.target one.target) f (apart_among x.target xs one apart.0 a) in inr (there.1, there.0)
same_or_apart (x ∷ xs) one other apart (inr a) (inr b) = same_or_apart xs one other apart.1 a b

inner_given : (from : Source) (place : List (List ℕ)) → is_leaf_source from ≡ true → is_some (inner_at from (Some place)) ≡ true
inner_given (sources.Copy source) place leaf = refl
inner_given (sources.Bytes bytes) place leaf = refl
inner_given (sources.Folder inner) place leaf = absurd cc
inner_given sources.Gone place leaf = absurd cc

off_of : (project : List (List ℕ)) (t : FileTree) (path : List (List ℕ)) (parts : List Part) (part : Part) → AreOff project t path parts → IsAmong parts part → behind (project ++ part.target) path ≡ None
off_of project t path [] part off among = absurd among
off_of project t path (x ∷ xs) part off (inl e) = subst (λ (p : Part). behind (project ++ p.target) path ≡ None) e off.0
off_of project t path (x ∷ xs) part off (inr more) = off_of project t path xs part off.1 more

gone_off : (project : List (List ℕ)) (t : FileTree) (path : List (List ℕ)) (paths : List (List (List ℕ))) → ((part : Part) → IsAmong (map gone_part paths) part → behind (project ++ part.target) path ≡ None) → is_gone_at project t path paths ≡ false
gone_off project t path [] off = refl
gone_off project t path (p ∷ ps) off = ap (λ (o : Option (List (List ℕ))). is_some o || is_gone_at project t path ps) (off (gone_part p) (inl refl)) ∙ gone_off project t path ps (λ part is. off part (inr is))

all_apart_of : (paths : List (List (List ℕ))) (target : List (List ℕ)) (part : Part) → AreAllApart paths target → IsAmong (map gone_part paths) part → AreApart part.target target
all_apart_of [] target part all among = absurd among
all_apart_of (p ∷ ps) target part all (inl e) = subst (λ (q : Part). AreApart q.target target) e all.0
all_apart_of (p ∷ ps) target part all (inr more) = all_apart_of ps target part all.1 more

gone_inside : (project : List (List ℕ)) (t : FileTree) (path : List (List ℕ)) (paths : List (List (List ℕ))) (part : Part) → AllInVendor project t path paths → IsAmong (map gone_part paths) part → is_within (project ++ part.target) path ≡ true → is_within (vendor_path project) path ≡ true
gone_inside project t path [] part all among within = absurd among
gone_inside project t path (p ∷ ps) part all (inl e) within = all.0 (ap (λ (q : Part). is_within (project ++ q.target) path) e ∙ within)
gone_inside project t path (p ∷ ps) part all (inr more) within = gone_inside project t path ps part all.1 more within

is_gone_part : (paths : List (List (List ℕ))) (part : Part) → IsAmong (map gone_part paths) part → part.from ≡ sources.Gone
is_gone_part [] part among = absurd among
is_gone_part (p ∷ ps) part (inl e) = ap (λ (q : Part). q.from) (sym e)
is_gone_part (p ∷ ps) part (inr more) = is_gone_part ps part more

-- ---- the law

module _ (project : List (List ℕ)) (t : FileTree) (wanted : List Part) (path : List (List ℕ)) (tree : IsTree t) (are : AreWanted wanted) (all : AreParts project wanted) where
  way_name : (folder : List (List ℕ)) → is_in_way project t wanted folder ≡ true → (n : List ℕ) × (folder ≡ vendor_name ++ n ∷ [])
  way_name folder way = in_way_is_name project t wanted folder way

  -- two targets that are apart are not both at or above a path
  never_both : (one other : List (List ℕ)) (r s : List (List ℕ)) → AreApart one other → behind (project ++ one) path ≡ Some r → behind (project ++ other) path ≡ Some s → ⊥
  never_both one other r s apart a b =
      let none = ap (behind (project ++ one)) (head_behind (project ++ other) path s b) ∙ not_below (project ++ one) (project ++ other) s (targets_apart project one other apart) in cc

  inside_vendor : (x below : List (List ℕ)) → behind (project ++ (vendor_name ++ x)) path ≡ Some below → is_within (vendor_path project) path ≡ true
  inside_vendor x below e =
      ap is_some (ap (behind (vendor_path project)) (head_behind (project ++ (vendor_name ++ x)) path below e ∙ ap (λ (p : List (List ℕ)). p ++ below) (sym (append_assoc project vendor_name x)) ∙ append_assoc (vendor_path project) x below)
      ∙ behind_head (vendor_path project) (x ++ below))

  none_in_vendor : is_within (vendor_path project) path ≡ true → None ≡ without_vendor project (file_at t) path
  none_in_vendor within = sym (ap (λ (b : Bool). cond b None (file_at t path)) within)

  -- what the part of a folder has at a path, where a part in it has it
  folder_at : (folder below : List (List ℕ)) (f : Part → Option Inner) (gives : GivesBelow folder f) (part : Part) (rest : List (List ℕ)) → IsAmong wanted part → is_some (f part) ≡ true → behind (project ++ folder) path ≡ Some below
      → behind (project ++ part.target) path ≡ Some rest → bytes_of (part_entry t (sources.Folder (filter_map f wanted)) below) ≡ bytes_of (part_entry t part.from rest)
  folder_at folder below f gives part rest among given e is =
      folder_covered project t folder below f gives wanted part rest (wanted_apart wanted are) among given
      (ap (behind (project ++ part.target)) (sym (head_behind (project ++ folder) path below e)) ∙ is)

  folder_none : (folder below : List (List ℕ)) (f : Part → Option Inner) (gives : GivesBelow folder f) → AreOff project t path wanted → behind (project ++ folder) path ≡ Some below → bytes_of (part_entry t (sources.Folder (filter_map f wanted)) below) ≡ None
  folder_none folder below f gives off e =
      folder_off project t folder below f gives wanted (subst (λ (q : List (List ℕ)). AreOff project t q wanted) (head_behind (project ++ folder) path below e) off)

  -- ---- a path of a wanted part

  module _ (parts : List Part) (apart : AreTargetsApart parts) (part : Part) (rest : List (List ℕ)) (among : IsAmong wanted part) (is : behind (project ++ part.target) path ≡ Some rest) where
    -- a folder's part above it
    by_folder : (folder below : List (List ℕ)) (f : Part → Option Inner) (gives : GivesBelow folder f) → is_some (f part) ≡ true → IsAmong parts (record { target = folder; from = sources.Folder (filter_map f wanted) }) → behind (project ++ folder) path ≡ Some below
        → job_result project t parts (file_at t) path ≡ bytes_of (part_entry t part.from rest)
    by_folder folder below f gives given there e =
        result_of project t path parts (record { target = folder; from = sources.Folder (filter_map f wanted) }) below (file_at t) apart there e ∙ folder_at folder below f gives part rest among given e is

    -- it stands, and no part of the job is there
    by_standing : Stands project t part → AreOff project t path parts → job_result project t parts (file_at t) path ≡ bytes_of (part_entry t part.from rest)
    by_standing stands off = result_off project t path parts (file_at t) off ∙ stands_there project t path tree part rest (wanted_leaf wanted part are among) stands is

    -- another wanted part that does not stand is not there
    not_other : Stands project t part → (other : Part) (r : List (List ℕ)) → IsAmong wanted other → (Stands project t other → ⊥) → behind (project ++ other.target) path ≡ Some r → ⊥
    not_other stands other r there never e = by (same_or_apart wanted part other (wanted_apart wanted are) among there)
      where
        by : (part ≡ other) ⊎ AreApart part.target other.target → ⊥
        by (inl same) = never (subst (λ (p : Part). Stands project t p) same stands)
        by (inr far) = never_both part.target other.target rest r far is e

  covered_parts : (parts : List Part) (makes : MakesParts project t wanted parts) → AreTargetsApart parts → (part : Part) (rest : List (List ℕ)) → IsAmong wanted part → behind (project ++ part.target) path ≡ Some rest
      → job_result project t parts (file_at t) path ≡ bytes_of (part_entry t part.from rest)
  covered_parts parts makes apart part rest among is = by (without_last part.target) refl
    where
      in_parts : (q : Part) → IsAmong (left_parts (is_in_way project t wanted) wanted makes.flags) q → IsAmong parts q
      in_parts q there = subst (λ (ps : List Part). IsAmong ps q) (sym makes.parts_are) (among_first (left_parts (is_in_way project t wanted) wanted makes.flags) (gone_parts project t wanted) q there)

      free_case : if_blocked (is_in_way project t wanted) (without_last part.target) ≡ None → Stands project t part ⊎ (Stands project t part → ⊥) → job_result project t parts (file_at t) path ≡ bytes_of (part_entry t part.from rest)
      free_case free (inr never) = result_of project t path parts part rest (file_at t) apart
          (in_parts part (left_has project t wanted (is_in_way project t wanted) part [] wanted makes.flags makes.are_standing among never free)) is
      free_case free (inl stands) = by_standing parts apart part rest among is stands (off (covers project t path parts))
        where
          no_left : (q : Part) (r : List (List ℕ)) → behind (project ++ q.target) path ≡ Some r → IsLeft project t wanted q → ⊥
          no_left q r e (inl own) = not_other parts apart part rest among is stands q r own.0 own.1 e
          no_left q r e (inr made) =
              let folder = made.0 in
              let first = made.1.0 in
              let name = in_way_is_name project t wanted folder made.1.1.1 in
              never_both folder part.target r rest
              (subst (λ (p : List (List ℕ)). AreApart p part.target) (sym name.1)
              (folder_apart project wanted are all (is_in_way project t wanted) way_name name.0 first part made.1.1.2 (made.1.1.3 ∙ ap (λ (p : List (List ℕ)). Some p) name.1) (ap (is_in_way project t wanted) (sym name.1) ∙ made.1.1.1) among free
              (shape_of part.target (wanted_target wanted part are among))))
              (ap (λ (p : Part). behind (project ++ p.target) path) (sym made.1.1.0) ∙ e) is

          no_part : (q : Part) (r : List (List ℕ)) → behind (project ++ q.target) path ≡ Some r → IsAmong (left_parts (is_in_way project t wanted) wanted makes.flags) q ⊎ IsAmong (gone_parts project t wanted) q → ⊥
          no_part q r e (inl left) = no_left q r e (left_kind project t wanted [] wanted makes.flags q makes.are_standing (λ p there. there) left)
          no_part q r e (inr gone) =
              never_both q.target part.target r rest (all_apart_of (unneeded (needs_of wanted) project t) part.target q (gone_apart wanted are part among (shape_of part.target (wanted_target wanted part are among)) project t) gone) e is

          off : AreOff project t path parts ⊎ IsCovered project t path parts → AreOff project t path parts
          off (inl none) = none
          off (inr covered) = absurd (no_part covered.0 covered.1.1.0 covered.1.1.1
              (among_either (left_parts (is_in_way project t wanted) wanted makes.flags) (gone_parts project t wanted) covered.0 (subst (λ (ps : List Part). IsAmong ps covered.0) makes.parts_are covered.1.0)))

      in_folder : (folder : List (List ℕ)) (b : Bool) → is_in_way project t wanted folder ≡ b → without_last part.target ≡ Some folder → job_result project t parts (file_at t) path ≡ bytes_of (part_entry t part.from rest)
      in_folder folder true way above =
          let parent = parent_of part.target folder above in
          let deeper : behind (project ++ folder) path ≡ Some (parent.0 ∷ rest) =
          ap (behind (project ++ folder)) (head_behind (project ++ part.target) path rest is ∙ ap (λ (p : List (List ℕ)). (project ++ p) ++ rest) parent.1
          ∙ ap (λ (p : List (List ℕ)). p ++ rest) (sym (append_assoc project folder (parent.0 ∷ []))) ∙ append_assoc (project ++ folder) (parent.0 ∷ []) rest)
          ∙ behind_head (project ++ folder) (parent.0 ∷ rest) in
          let given : is_some (inner_in folder part) ≡ true =
          ap (λ (o : Option (List (List ℕ))). is_some (cond (is_folder_at o folder) (inner_below folder part) None)) above
          ∙ ap (λ (b : Bool). is_some (cond b (inner_below folder part) None)) (itself folder)
          ∙ ap (λ (o : Option (List (List ℕ))). is_some (inner_at part.from o)) (ap (behind folder) parent.1 ∙ behind_head folder (parent.0 ∷ []))
          ∙ inner_given part.from (parent.0 ∷ []) (wanted_leaf wanted part are among) in
          by_folder parts apart part rest among is folder (parent.0 ∷ rest) (inner_in folder) (in_gives folder) given
          (in_parts (folder_part folder wanted) (left_folder project t wanted folder part way above [] wanted makes.flags makes.are_standing refl among)) deeper
      in_folder folder false way above =
          free_case (ap (if_blocked (is_in_way project t wanted)) above ∙ ap (λ (b : Bool). cond b (Some folder) None) way) (standing_of project t wanted wanted makes.flags part makes.are_standing among)

      by : (o : Option (List (List ℕ))) → without_last part.target ≡ o → job_result project t parts (file_at t) path ≡ bytes_of (part_entry t part.from rest)
      by None e = free_case (ap (if_blocked (is_in_way project t wanted)) e) (standing_of project t wanted wanted makes.flags part makes.are_standing among)
      by (Some folder) e = in_folder folder (is_in_way project t wanted folder) refl e

  covered_vendor : (parts : List Part) (makes : MakesVendor project t wanted parts) → AreTargetsApart parts → (part : Part) (rest : List (List ℕ)) → IsAmong wanted part → behind (project ++ part.target) path ≡ Some rest
      → job_result project t parts (file_at t) path ≡ bytes_of (part_entry t part.from rest)
  covered_vendor parts makes apart part rest among is = by (behind vendor_name part.target) refl
    where
      first : IsAmong parts (vendor_part wanted)
      first = subst (λ (ps : List Part). IsAmong ps (vendor_part wanted)) (sym makes.parts_are) (inl refl)

      outside : behind vendor_name part.target ≡ None → Stands project t part ⊎ (Stands project t part → ⊥) → job_result project t parts (file_at t) path ≡ bytes_of (part_entry t part.from rest)
      outside none (inr never) = result_of project t path parts part rest (file_at t) apart
          (subst (λ (ps : List Part). IsAmong ps part) (sym makes.parts_are) (inr (outside_has project t wanted (is_in_way project t wanted) part wanted makes.flags makes.are_standing among never none))) is
      outside none (inl stands) = by_standing parts apart part rest among is stands (off (covers project t path parts))
        where
          lock : Shape part.target → AreApart vendor_name part.target
          lock (inl e) = subst (λ (p : List (List ℕ)). AreApart vendor_name p) (sym e) (lock_apart [])
          lock (inr (inl (a, e))) = absurd (let some = ap (behind vendor_name) e ∙ behind_head vendor_name (a ∷ []) in cc)
          lock (inr (inr (a, (b, e)))) = absurd (let some = ap (behind vendor_name) e ∙ behind_head vendor_name (a ∷ b ∷ []) in cc)

          no_part : (q : Part) (r : List (List ℕ)) → behind (project ++ q.target) path ≡ Some r → IsAmong (vendor_part wanted ∷ left_outside wanted makes.flags) q → ⊥
          no_part q r e (inl same) = never_both vendor_name part.target r rest (lock (shape_of part.target (wanted_target wanted part are among))) (ap (λ (p : Part). behind (project ++ p.target) path) same ∙ e) is
          no_part q r e (inr more) = let kind = outside_kind project t wanted wanted makes.flags q makes.are_standing more in not_other parts apart part rest among is stands q r kind.0 kind.1 e

          off : AreOff project t path parts ⊎ IsCovered project t path parts → AreOff project t path parts
          off (inl no_one) = no_one
          off (inr covered) = absurd (no_part covered.0 covered.1.1.0 covered.1.1.1 (subst (λ (ps : List Part). IsAmong ps covered.0) makes.parts_are covered.1.0))

      by : (o : Option (List (List ℕ))) → behind vendor_name part.target ≡ o → job_result project t parts (file_at t) path ≡ bytes_of (part_entry t part.from rest)
      by None e = outside e (standing_of project t wanted wanted makes.flags part makes.are_standing among)
      by (Some below) e =
          let deeper : behind (project ++ vendor_name) path ≡ Some (below ++ rest) =
          ap (behind (project ++ vendor_name)) (head_behind (project ++ part.target) path rest is ∙ ap (λ (p : List (List ℕ)). (project ++ p) ++ rest) (head_behind vendor_name part.target below e)
          ∙ ap (λ (p : List (List ℕ)). p ++ rest) (sym (append_assoc project vendor_name below)) ∙ append_assoc (project ++ vendor_name) below rest)
          ∙ behind_head (project ++ vendor_name) (below ++ rest) in
          let given : is_some (inner_below vendor_name part) ≡ true = ap (λ (o : Option (List (List ℕ))). is_some (inner_at part.from o)) e ∙ inner_given part.from below (wanted_leaf wanted part are among) in
          by_folder parts apart part rest among is vendor_name (below ++ rest) (inner_below vendor_name) (below_gives vendor_name) given first deeper

  -- ---- a path of no wanted part

  kept_file : (parts : List Part) → AreOff project t path parts → (is_within (vendor_path project) path ≡ true → file_at t path ≡ None) → job_result project t parts (file_at t) path ≡ without_vendor project (file_at t) path
  kept_file parts off none = result_off project t path parts (file_at t) off ∙ by (is_within (vendor_path project) path) refl
    where
      by : (b : Bool) → is_within (vendor_path project) path ≡ b → file_at t path ≡ without_vendor project (file_at t) path
      by true e = none e ∙ none_in_vendor e
      by false e = sym (ap (λ (b : Bool). cond b None (file_at t path)) e)

  off_vendor : (parts : List Part) (makes : MakesVendor project t wanted parts) → AreTargetsApart parts → AreOff project t path wanted → job_result project t parts (file_at t) path ≡ without_vendor project (file_at t) path
  off_vendor parts makes apart off = by (covers project t path parts)
    where
      among_of : (q : Part) → IsAmong parts q → IsAmong (vendor_part wanted ∷ left_outside wanted makes.flags) q
      among_of q there = subst (λ (ps : List Part). IsAmong ps q) makes.parts_are there

      here : (q : Part) (r : List (List ℕ)) → behind (project ++ q.target) path ≡ Some r → IsAmong (vendor_part wanted ∷ left_outside wanted makes.flags) q → bytes_of (part_entry t q.from r) ≡ without_vendor project (file_at t) path
      here q r e (inl same) =
          ap (λ (p : Part). bytes_of (part_entry t p.from r)) (sym same)
          ∙ folder_none vendor_name r (inner_below vendor_name) (below_gives vendor_name) off (ap (λ (p : Part). behind (project ++ p.target) path) same ∙ e)
          ∙ none_in_vendor (inside_vendor [] r (ap (λ (p : Part). behind (project ++ p.target) path) same ∙ e))
      here q r e (inr more) = absurd (let none = off_of project t path wanted q off (outside_kind project t wanted wanted makes.flags q makes.are_standing more).0 in cc)

      by : AreOff project t path parts ⊎ IsCovered project t path parts → job_result project t parts (file_at t) path ≡ without_vendor project (file_at t) path
      by (inl none) = kept_file parts none (λ within. absurd (
          let gone = off_of project t path parts (vendor_part wanted) none (subst (λ (ps : List Part). IsAmong ps (vendor_part wanted)) (sym makes.parts_are) (inl refl)) in
          let out : is_within (vendor_path project) path ≡ false = ap is_some gone in cc))
      by (inr covered) = result_of project t path parts covered.0 covered.1.1.0 (file_at t) apart covered.1.0 covered.1.1.1 ∙ here covered.0 covered.1.1.0 covered.1.1.1 (among_of covered.0 covered.1.0)

  off_parts : (parts : List Part) (makes : MakesParts project t wanted parts) → AreTargetsApart parts → AreOff project t path wanted → job_result project t parts (file_at t) path ≡ without_vendor project (file_at t) path
  unfolding part_entry unneeded
  off_parts parts makes apart off = by (covers project t path parts)
    where
      all_inside : AllInVendor project t path (unneeded (needs_of wanted) project t)
      all_inside = of_in_vendor project t path (needs_of wanted) (names_of t (vendor_path project))

      made_here : (q : Part) (r folder : List (List ℕ)) → behind (project ++ q.target) path ≡ Some r → q ≡ folder_part folder wanted → is_in_way project t wanted folder ≡ true → bytes_of (part_entry t q.from r) ≡ without_vendor project (file_at t) path
      made_here q r folder e same way =
          let name = in_way_is_name project t wanted folder way in
          let at : behind (project ++ folder) path ≡ Some r = ap (λ (p : Part). behind (project ++ p.target) path) (sym same) ∙ e in
          ap (λ (p : Part). bytes_of (part_entry t p.from r)) same ∙ folder_none folder r (inner_in folder) (in_gives folder) off at
          ∙ none_in_vendor (inside_vendor (name.0 ∷ []) r (ap (λ (p : List (List ℕ)). behind (project ++ p) path) (sym name.1) ∙ at))

      left_here : (q : Part) (r : List (List ℕ)) → behind (project ++ q.target) path ≡ Some r → IsLeft project t wanted q → bytes_of (part_entry t q.from r) ≡ without_vendor project (file_at t) path
      left_here q r e (inl own) = absurd (let none = off_of project t path wanted q off own.0 in cc)
      left_here q r e (inr made) = made_here q r made.0 e made.1.1.0 made.1.1.1

      here : (q : Part) (r : List (List ℕ)) → behind (project ++ q.target) path ≡ Some r → IsAmong (left_parts (is_in_way project t wanted) wanted makes.flags) q ⊎ IsAmong (gone_parts project t wanted) q
          → bytes_of (part_entry t q.from r) ≡ without_vendor project (file_at t) path
      here q r e (inl left) = left_here q r e (left_kind project t wanted [] wanted makes.flags q makes.are_standing (λ p there. there) left)
      here q r e (inr gone) =
          ap (λ (s : Source). bytes_of (part_entry t s r)) (is_gone_part (unneeded (needs_of wanted) project t) q gone)
          ∙ none_in_vendor (gone_inside project t path (unneeded (needs_of wanted) project t) q all_inside gone (ap is_some e))

      no_file : AreOff project t path parts → is_within (vendor_path project) path ≡ true → file_at t path ≡ None
      no_file none within = inside (behind (vendor_path project) path) refl within
        where
          gone_none : is_gone_at project t path (unneeded (needs_of wanted) project t) ≡ false
          gone_none = gone_off project t path (unneeded (needs_of wanted) project t) (λ part there.
              off_of project t path parts part none
              (subst (λ (ps : List Part). IsAmong ps part) (sym makes.parts_are) (among_last (left_parts (is_in_way project t wanted) wanted makes.flags) (gone_parts project t wanted) part there)))

          clear : (n : List ℕ) → (needs_of wanted).is_above (vendor_name ++ n ∷ []) ≡ true → is_in_way project t wanted (vendor_name ++ n ∷ []) ≡ true → path ≡ project ++ (vendor_name ++ n ∷ []) → ⊥
          clear n above way here =
              let first = above_found wanted (vendor_name ++ n ∷ []) above in
              let there = left_folder project t wanted (vendor_name ++ n ∷ []) first.0 way first.1.1 [] wanted makes.flags makes.are_standing refl first.1.0 in
              let out = off_of project t path parts (folder_part (vendor_name ++ n ∷ []) wanted) none
              (subst (λ (ps : List Part). IsAmong ps (folder_part (vendor_name ++ n ∷ []) wanted)) (sym makes.parts_are)
              (among_first (left_parts (is_in_way project t wanted) wanted makes.flags) (gone_parts project t wanted) (folder_part (vendor_name ++ n ∷ []) wanted) there)) in
              let some : behind (project ++ (vendor_name ++ n ∷ [])) path ≡ Some [] =
              ap (behind (project ++ (vendor_name ++ n ∷ []))) (here ∙ sym (append-nil (project ++ (vendor_name ++ n ∷ [])))) ∙ behind_head (project ++ (vendor_name ++ n ∷ [])) [] in cc

          inside : (o : Option (List (List ℕ))) → behind (vendor_path project) path ≡ o → is_some o ≡ true → file_at t path ≡ None
          inside None e is = absurd cc
          inside (Some rest) e is =
              sym (bytes_at t path tree) ∙ no_bytes project t wanted path tree makes.folder clear off (entry_at t path) (λ bytes there.
              let some = file_gone_by project t wanted path tree makes.folder clear off rest bytes (head_behind (vendor_path project) path rest e) there in
              let none_gone = gone_none in cc)

      by : AreOff project t path parts ⊎ IsCovered project t path parts → job_result project t parts (file_at t) path ≡ without_vendor project (file_at t) path
      by (inl none) = kept_file parts none (no_file none)
      by (inr covered) =
          result_of project t path parts covered.0 covered.1.1.0 (file_at t) apart covered.1.0 covered.1.1.1
          ∙ here covered.0 covered.1.1.0 covered.1.1.1 (among_either (left_parts (is_in_way project t wanted) wanted makes.flags) (gone_parts project t wanted) covered.0 (subst (λ (ps : List Part). IsAmong ps covered.0) makes.parts_are covered.1.0))

  -- what a job makes of a project is what the wanted parts make, nothing else being left in `vendor`
  pub makes_wanted : (parts : List Part) → AreParts project parts → IsJobFor project t wanted parts → job_result project t parts (file_at t) path ≡ job_result project t wanted (without_vendor project (file_at t)) path
  makes_wanted parts can job = by (covers project t path wanted) job
    where
      apart : AreTargetsApart parts
      apart = parts_apart project parts can

      by : AreOff project t path wanted ⊎ IsCovered project t path wanted → IsJobFor project t wanted parts → job_result project t parts (file_at t) path ≡ job_result project t wanted (without_vendor project (file_at t)) path
      by (inl off) (inl makes) = off_vendor parts makes apart off ∙ sym (result_off project t path wanted (without_vendor project (file_at t)) off)
      by (inl off) (inr makes) = off_parts parts makes apart off ∙ sym (result_off project t path wanted (without_vendor project (file_at t)) off)
      by (inr covered) (inl makes) =
          covered_vendor parts makes apart covered.0 covered.1.1.0 covered.1.0 covered.1.1.1
          ∙ sym (result_of project t path wanted covered.0 covered.1.1.0 (without_vendor project (file_at t)) (wanted_apart wanted are) covered.1.0 covered.1.1.1)
      by (inr covered) (inr makes) =
          covered_parts parts makes apart covered.0 covered.1.1.0 covered.1.0 covered.1.1.1
          ∙ sym (result_of project t path wanted covered.0 covered.1.1.0 (without_vendor project (file_at t)) (wanted_apart wanted are) covered.1.0 covered.1.1.1)
