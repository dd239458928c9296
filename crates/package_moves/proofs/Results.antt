-- What a job makes of a project.
use Rattle.std.proofs.Common.{◌≡◌, ℕ, Bool, true, false, ◌||◌, ◌&&◌, cond, List, [], ◌∷◌, ◌++◌, Option, Some, None, is_some, refl, sym, ap, subst, ◌∙◌, inl, inr, append-nil, append_assoc}
use Rattle.std.specs.FinMap as maps
use Rattle.std.specs.List.{list_any}
use Rattle.std.specs.Ordering.{eq_by_cmp}
use Rattle.path_name.specs.Orders.{byte_cmp}
use Rattle.path_name.specs.Paths.{without_last}
use Rattle.tree_dev.specs.Trees.{FileTree, IsTree, behind, entry_at, has_folder, is_folder, names_in}
use Rattle.tree_dev.specs.Changes.{is_leaf}
use Rattle.tree_dev.specs.Projects.{bytes_of, file_at, is_within, vendor_path}
use Rattle.tree_dev.specs.declared.entry.Entry.{Entry}
use Rattle.tree_dev.specs.declared.entry.Entry.TheVariants as entries
use Rattle.tree_dev.proofs.Behind.{behind_head, head_behind}
use Rattle.tree_dev.proofs.NamesIn.{names_exactly}
use Rattle.tree_dev.proofs.ProjectParts.{behind_same_head}
use Rattle.tree_dev.proofs.Snoc.{without_last-snoc}
use Rattle.stage_job.specs.Copied.{is_among}
use Rattle.stage_job.specs.Jobs.{Files, job_result, part_entry, put_or}
use Rattle.stage_job.specs.Mirrored.{is_mirrored}
use Rattle.stage_job.specs.declared.job.Part.{Part}
use Rattle.stage_job.specs.declared.job.Source.{Source}
use Rattle.stage_job.specs.declared.job.Source.TheVariants as sources
use Rattle.stage_job.proofs.Below.{same_name}
use Rattle.package_moves.specs.Moves.{IsAmong, is_in_way}
use Rattle.package_moves.specs.Needed.{Needs, if_other, is_blocked, names_of, needs_of, others_in, unneeded, unneeded_at, unneeded_of}
use Rattle.package_moves.specs.Wanted.{Stands, is_leaf_source, vendor_name, wanted_entry}
use Rattle.package_moves.proofs.SameEntries.{nothing_below}
use Rattle.package_moves.proofs.UnneededPaths.{target_found}
use Rattle.package_moves.proofs.JobLaws.{blocked_listed}

-- ---- bytes at paths

no_entry : (o : Option Entry) → (is_some o ≡ true → ⊥) → o ≡ None
no_entry None never = refl
no_entry (Some e) never = absurd (never refl)

pub bytes_at : (t : FileTree) (path : List (List ℕ)) → IsTree t → bytes_of (entry_at t path) ≡ file_at t path
bytes_at t [] tree = sym (ap bytes_of (no_entry (maps.get t []) (λ there. let above : has_folder t (without_last []) ≡ true = tree.below_folders [] there in cc)))
bytes_at t (x ∷ xs) tree = refl

mirrored_bytes : (t : FileTree) (source below : List (List ℕ)) (b : Bool) → IsTree t → bytes_of (cond b (entry_at t (source ++ below)) None) ≡ bytes_of (cond b (maps.get t (source ++ below)) None)
mirrored_bytes t source below true tree = bytes_at t (source ++ below) tree
mirrored_bytes t source below false tree = refl

wanted_bytes : (t : FileTree) (from : Source) (below : List (List ℕ)) → IsTree t → is_leaf_source from ≡ true → bytes_of (wanted_entry t from below) ≡ bytes_of (part_entry t from below)
unfolding part_entry
wanted_bytes t (sources.Copy source) below tree leaf = mirrored_bytes t source below (is_mirrored below) tree
wanted_bytes t (sources.Bytes bytes) below tree leaf = refl
wanted_bytes t (sources.Folder inner) below tree leaf = absurd cc
wanted_bytes t sources.Gone below tree leaf = absurd cc

-- ---- results at a path

module _ (project : List (List ℕ)) (t : FileTree) (path : List (List ℕ)) where
  -- no part of these is at or above the path
  abbrev pub AreOff : List Part → Type 0
  AreOff [] = Unit {0}
  AreOff (part ∷ parts) = (behind (project ++ part.target) path ≡ None) × AreOff parts

  -- some part of these is
  abbrev pub IsCovered : List Part → Type 0
  IsCovered parts = (part : Part) × (IsAmong parts part × ((below : List (List ℕ)) × (behind (project ++ part.target) path ≡ Some below)))

  pub result_off : (parts : List Part) (old : Files) → AreOff parts → job_result project t parts old path ≡ old path
  unfolding job_result
  result_off [] old off = refl
  result_off (p ∷ ps) old off = ap (λ (o : Option (List (List ℕ))). put_or t p.from o (job_result project t ps old path)) off.0 ∙ result_off ps old off.1

  module _ (tree : IsTree t) where
    -- a part that stands is there already
    pub stands_there : (part : Part) (below : List (List ℕ)) → is_leaf_source part.from ≡ true → Stands project t part → behind (project ++ part.target) path ≡ Some below → file_at t path ≡ bytes_of (part_entry t part.from below)
    stands_there part below leaf stands is =
        sym (bytes_at t path tree) ∙ ap (λ (p : List (List ℕ)). bytes_of (entry_at t p)) (head_behind (project ++ part.target) path below is) ∙ ap bytes_of (stands.each below)
        ∙ wanted_bytes t part.from below tree leaf

  -- ---- what is gone

  abbrev pub is_gone_at : List (List (List ℕ)) → Bool
  is_gone_at paths = list_any (λ gone. is_within (project ++ gone) path) paths

  -- what lies below the path of one of these is gone
  gone_append : (xs ys : List (List (List ℕ))) → is_gone_at ys ≡ true → is_gone_at (xs ++ ys) ≡ true
  gone_append [] ys e = e
  gone_append (x ∷ xs) ys e = or_true (is_within (project ++ x) path) (gone_append xs ys e)
    where
      or_true : (a : Bool) {b : Bool} → b ≡ true → (a || b) ≡ true
      or_true true e = refl
      or_true false e = e

  gone_front : (xs ys : List (List (List ℕ))) → is_gone_at xs ≡ true → is_gone_at (xs ++ ys) ≡ true
  gone_front [] ys e = absurd cc
  gone_front (x ∷ xs) ys e = by (is_within (project ++ x) path) refl e (gone_front xs ys)
    where
      by : (b : Bool) → is_within (project ++ x) path ≡ b → (b || is_gone_at xs) ≡ true → (is_gone_at xs ≡ true → is_gone_at (xs ++ ys) ≡ true) → (is_within (project ++ x) path || is_gone_at (xs ++ ys)) ≡ true
      by true f e more = rw f refl
      by false f e more = rw f (more e)

  -- nothing that is to go lies outside of `vendor`
  abbrev pub AllInVendor : List (List (List ℕ)) → Type 0
  AllInVendor [] = Unit {0}
  AllInVendor (gone ∷ paths) = (is_within (project ++ gone) path ≡ true → is_within (vendor_path project) path ≡ true) × AllInVendor paths

  in_append : (xs ys : List (List (List ℕ))) → AllInVendor xs → AllInVendor ys → AllInVendor (xs ++ ys)
  in_append [] ys a b = b
  in_append (x ∷ xs) ys a b = (a.0, in_append xs ys a.1 b)

  pub none_outside : (paths : List (List (List ℕ))) → AllInVendor paths → is_within (vendor_path project) path ≡ false → is_gone_at paths ≡ false
  none_outside [] all out = refl
  none_outside (gone ∷ paths) all out = by (is_within (project ++ gone) path) refl (none_outside paths all.1 out)
    where
      by : (b : Bool) → is_within (project ++ gone) path ≡ b → is_gone_at paths ≡ false → (b || is_gone_at paths) ≡ false
      by true e more = absurd (let inside = all.0 e in cc)
      by false e more = more

  below_vendor : (x : List (List ℕ)) → is_within (project ++ (vendor_name ++ x)) path ≡ true → is_within (vendor_path project) path ≡ true
  below_vendor x within = by (behind (project ++ (vendor_name ++ x)) path) refl within
    where
      by : (o : Option (List (List ℕ))) → behind (project ++ (vendor_name ++ x)) path ≡ o → is_some o ≡ true → is_within (vendor_path project) path ≡ true
      by None e is = absurd cc
      by (Some rest) e is =
          ap is_some (ap (behind (vendor_path project)) (head_behind (project ++ (vendor_name ++ x)) path rest e ∙ ap (λ (p : List (List ℕ)). p ++ rest) (sym (append_assoc project vendor_name x)) ∙ append_assoc (vendor_path project) x rest)
          ∙ behind_head (vendor_path project) (x ++ rest))

  module _ (needs : Needs) where
    others_in_vendor : (n : List ℕ) (names : List (List ℕ)) → AllInVendor (others_in needs (vendor_name ++ n ∷ []) names)
    others_in_vendor n [] = tt
    others_in_vendor n (m ∷ ms) = in_append (if_other (needs.is_target ((vendor_name ++ n ∷ []) ++ m ∷ [])) ((vendor_name ++ n ∷ []) ++ m ∷ [])) (others_in needs (vendor_name ++ n ∷ []) ms)
        (by (needs.is_target ((vendor_name ++ n ∷ []) ++ m ∷ []))) (others_in_vendor n ms)
      where
        by : (b : Bool) → AllInVendor (if_other b ((vendor_name ++ n ∷ []) ++ m ∷ []))
        by true = tt
        by false = (below_vendor (n ∷ m ∷ []), tt)

    at_in_vendor : (n : List ℕ) → AllInVendor (unneeded_at needs project t (vendor_name ++ n ∷ []))
    at_in_vendor n = by (needs.is_above (vendor_name ++ n ∷ []))
      where
        other : (b : Bool) → AllInVendor (if_other b (vendor_name ++ n ∷ []))
        other true = tt
        other false = (below_vendor (n ∷ []), tt)

        by : (b : Bool) → AllInVendor (cond b (others_in needs (vendor_name ++ n ∷ []) (names_of t (project ++ (vendor_name ++ n ∷ [])))) (if_other (needs.is_target (vendor_name ++ n ∷ [])) (vendor_name ++ n ∷ [])))
        by true = others_in_vendor n (names_of t (project ++ (vendor_name ++ n ∷ [])))
        by false = other (needs.is_target (vendor_name ++ n ∷ []))

    pub of_in_vendor : (names : List (List ℕ)) → AllInVendor (unneeded_of needs project t vendor_name names)
    of_in_vendor [] = tt
    of_in_vendor (n ∷ ns) = in_append (unneeded_at needs project t (vendor_name ++ n ∷ [])) (unneeded_of needs project t vendor_name ns) (at_in_vendor n) (of_in_vendor ns)

    -- ---- an entry whose name is listed, and what is gone with it

    others_gone : (n : List ℕ) (names : List (List ℕ)) (m : List ℕ) → is_among m names ≡ true → needs.is_target ((vendor_name ++ n ∷ []) ++ m ∷ []) ≡ false → is_within (project ++ ((vendor_name ++ n ∷ []) ++ m ∷ [])) path ≡ true
        → is_gone_at (others_in needs (vendor_name ++ n ∷ []) names) ≡ true
    others_gone n [] m among target within = absurd cc
    others_gone n (x ∷ xs) m among target within = by (eq_by_cmp byte_cmp m x) refl among (λ more. others_gone n xs m more target within)
      where
        own : List (List (List ℕ))
        own = if_other (needs.is_target ((vendor_name ++ n ∷ []) ++ x ∷ [])) ((vendor_name ++ n ∷ []) ++ x ∷ [])

        here : m ≡ x → is_gone_at (if_other (needs.is_target ((vendor_name ++ n ∷ []) ++ x ∷ [])) ((vendor_name ++ n ∷ []) ++ x ∷ [])) ≡ true
        here e = subst (λ (y : List ℕ). is_gone_at (if_other (needs.is_target ((vendor_name ++ n ∷ []) ++ y ∷ [])) ((vendor_name ++ n ∷ []) ++ y ∷ [])) ≡ true) e
            (ap (λ (b : Bool). is_gone_at (if_other b ((vendor_name ++ n ∷ []) ++ m ∷ []))) target ∙ ap (λ (b : Bool). b || false) within)

        by : (b : Bool) → eq_by_cmp byte_cmp m x ≡ b → (b || is_among m xs) ≡ true → (is_among m xs ≡ true → is_gone_at (others_in needs (vendor_name ++ n ∷ []) xs) ≡ true)
            → is_gone_at (if_other (needs.is_target ((vendor_name ++ n ∷ []) ++ x ∷ [])) ((vendor_name ++ n ∷ []) ++ x ∷ []) ++ others_in needs (vendor_name ++ n ∷ []) xs) ≡ true
        by true e there more = gone_front (if_other (needs.is_target ((vendor_name ++ n ∷ []) ++ x ∷ [])) ((vendor_name ++ n ∷ []) ++ x ∷ [])) (others_in needs (vendor_name ++ n ∷ []) xs) (here (same_name m x e))
        by false e there more = gone_append (if_other (needs.is_target ((vendor_name ++ n ∷ []) ++ x ∷ [])) ((vendor_name ++ n ∷ []) ++ x ∷ [])) (others_in needs (vendor_name ++ n ∷ []) xs) (more there)

    of_gone : (names : List (List ℕ)) (n : List ℕ) → is_among n names ≡ true → is_gone_at (unneeded_at needs project t (vendor_name ++ n ∷ [])) ≡ true → is_gone_at (unneeded_of needs project t vendor_name names) ≡ true
    of_gone [] n among gone = absurd cc
    of_gone (x ∷ xs) n among gone = by (eq_by_cmp byte_cmp n x) refl among (λ more. of_gone xs n more gone)
      where
        by : (b : Bool) → eq_by_cmp byte_cmp n x ≡ b → (b || is_among n xs) ≡ true → (is_among n xs ≡ true → is_gone_at (unneeded_of needs project t vendor_name xs) ≡ true)
            → is_gone_at (unneeded_at needs project t (vendor_name ++ x ∷ []) ++ unneeded_of needs project t vendor_name xs) ≡ true
        by true e there more = gone_front (unneeded_at needs project t (vendor_name ++ x ∷ [])) (unneeded_of needs project t vendor_name xs)
            (subst (λ (y : List ℕ). is_gone_at (unneeded_at needs project t (vendor_name ++ y ∷ [])) ≡ true) (same_name n x e) gone)
        by false e there more = gone_append (unneeded_at needs project t (vendor_name ++ x ∷ [])) (unneeded_of needs project t vendor_name xs) (more there)

-- ---- files of `vendor` that are no part's

module _ (project : List (List ℕ)) (t : FileTree) (wanted : List Part) (path : List (List ℕ)) (tree : IsTree t) (is_vendor : is_leaf (entry_at t (vendor_path project)) ≡ false)
    (clear : (n : List ℕ) → (needs_of wanted).is_above (vendor_name ++ n ∷ []) ≡ true → is_in_way project t wanted (vendor_name ++ n ∷ []) ≡ true → path ≡ project ++ (vendor_name ++ n ∷ []) → ⊥) (off : AreOff project t path wanted) where
  off_at : (parts : List Part) (part : Part) → AreOff project t path parts → IsAmong parts part → behind (project ++ part.target) path ≡ None
  off_at [] part all among = absurd among
  off_at (x ∷ xs) part all (inl e) = subst (λ (p : Part). behind (project ++ p.target) path ≡ None) e all.0
  off_at (x ∷ xs) part all (inr more) = off_at xs part all.1 more

  no_target : (q : List (List ℕ)) → is_within (project ++ q) path ≡ true → (b : Bool) → (needs_of wanted).is_target q ≡ b → (needs_of wanted).is_target q ≡ false
  no_target q within true e = absurd (
      let found = target_found wanted q e in
      let none : is_within (project ++ q) path ≡ false = ap (λ (p : List (List ℕ)). is_within (project ++ p) path) (sym found.1.1) ∙ ap is_some (off_at wanted found.0 off found.1.0) in cc)
  no_target q within false e = e

  listed_by : (at : List (List ℕ)) (n : List ℕ) (rest : List (List ℕ)) (bytes : List ℕ) → entry_at t (at ++ n ∷ rest) ≡ Some (entries.File bytes) → (b : Bool) → is_among n (names_in t at) ≡ b → is_among n (names_in t at) ≡ true
  listed_by at n rest bytes there true e = e
  listed_by at n rest bytes there false e = absurd (let none = nothing_below t at n rest tree e in cc)

  -- a name of which something stands in a folder is one of its names
  name_of : (at : List (List ℕ)) (n : List ℕ) (rest : List (List ℕ)) (bytes : List ℕ) → entry_at t (at ++ n ∷ rest) ≡ Some (entries.File bytes) → is_among n (names_of t at) ≡ true
  name_of at n rest bytes there =
      let listed = listed_by at n rest bytes there (is_among n (names_in t at)) refl in
      let folder : is_folder (entry_at t at) ≡ true = ap (has_folder t) (sym (without_last-snoc at n)) ∙ tree.below_folders (at ++ n ∷ []) (sym (names_exactly t at n) ∙ listed) in
      ap (λ (b : Bool). is_among n (cond b (names_in t at) [])) folder ∙ listed

  -- a file in an entry of `vendor` is gone with what is to go
  file_gone_at : (n : List ℕ) (rest : List (List ℕ)) (bytes : List ℕ) → path ≡ vendor_path project ++ n ∷ rest → entry_at t path ≡ Some (entries.File bytes) → (above target : Bool)
      → (needs_of wanted).is_above (vendor_name ++ n ∷ []) ≡ above → (needs_of wanted).is_target (vendor_name ++ n ∷ []) ≡ target → is_gone_at project t path (unneeded_at (needs_of wanted) project t (vendor_name ++ n ∷ [])) ≡ true
  file_gone_at n rest bytes is there above target a b = by above a rest is
    where
      own : (more : List (List ℕ)) → path ≡ vendor_path project ++ n ∷ more → is_within (project ++ (vendor_name ++ n ∷ [])) path ≡ true
      own more e =
          ap (is_within (project ++ (vendor_name ++ n ∷ []))) (e ∙ append_assoc project vendor_name (n ∷ more))
          ∙ ap is_some (behind_same_head project (vendor_name ++ n ∷ []) (vendor_name ++ n ∷ more) ∙ behind_head (vendor_name ++ n ∷ []) more)

      deeper : (m : List ℕ) (more : List (List ℕ)) → path ≡ vendor_path project ++ n ∷ m ∷ more → path ≡ (project ++ (vendor_name ++ n ∷ [])) ++ m ∷ more
      deeper m more e = e ∙ append_assoc project vendor_name (n ∷ m ∷ more) ∙ sym (append_assoc project (vendor_name ++ n ∷ []) (m ∷ more))

      within_two : (m : List ℕ) (more : List (List ℕ)) → path ≡ vendor_path project ++ n ∷ m ∷ more → is_within (project ++ ((vendor_name ++ n ∷ []) ++ m ∷ [])) path ≡ true
      within_two m more e =
          ap (is_within (project ++ ((vendor_name ++ n ∷ []) ++ m ∷ []))) (e ∙ append_assoc project vendor_name (n ∷ m ∷ more))
          ∙ ap is_some (behind_same_head project ((vendor_name ++ n ∷ []) ++ m ∷ []) (vendor_name ++ n ∷ m ∷ more) ∙ behind_head ((vendor_name ++ n ∷ []) ++ m ∷ []) more)

      leaf_file : (e : Option Entry) → e ≡ Some (entries.File bytes) → is_leaf e ≡ true
      leaf_file e f = ap is_leaf f

      by : (c : Bool) → (needs_of wanted).is_above (vendor_name ++ n ∷ []) ≡ c → (more : List (List ℕ)) → path ≡ vendor_path project ++ n ∷ more → is_gone_at project t path (unneeded_at (needs_of wanted) project t (vendor_name ++ n ∷ [])) ≡ true
      by false e more f =
          ap (λ (c : Bool). is_gone_at project t path (cond c (others_in (needs_of wanted) (vendor_name ++ n ∷ []) (names_of t (project ++ (vendor_name ++ n ∷ [])))) (if_other ((needs_of wanted).is_target (vendor_name ++ n ∷ [])) (vendor_name ++ n ∷ [])))) e
          ∙ ap (λ (c : Bool). is_gone_at project t path (if_other c (vendor_name ++ n ∷ []))) (no_target (vendor_name ++ n ∷ []) (own more f) target b)
          ∙ ap (λ (c : Bool). c || false) (own more f)
      by true e [] f = absurd (
          let here : path ≡ project ++ (vendor_name ++ n ∷ []) = f ∙ append_assoc project vendor_name (n ∷ []) in
          let leaf : is_leaf (entry_at t (project ++ (vendor_name ++ n ∷ []))) ≡ true = ap (λ (p : List (List ℕ)). is_leaf (entry_at t p)) (sym here) ∙ leaf_file (entry_at t path) there in
          let blocked : is_blocked (needs_of wanted) project t (vendor_name ++ n ∷ []) ≡ true = ap (λ (c : Bool). c && is_leaf (entry_at t (project ++ (vendor_name ++ n ∷ [])))) e ∙ leaf in
          let some : is_in_way project t wanted (vendor_name ++ n ∷ []) ≡ true = blocked_listed (needs_of wanted) project t (names_of t (vendor_path project)) n (name_of (vendor_path project) n [] bytes (ap (entry_at t) (sym f) ∙ there)) blocked in
          clear n e some here)
      by true e (m ∷ more) f =
          let at = project ++ (vendor_name ++ n ∷ []) in
          let within = within_two m more f in
          ap (λ (c : Bool). is_gone_at project t path (cond c (others_in (needs_of wanted) (vendor_name ++ n ∷ []) (names_of t at)) (if_other ((needs_of wanted).is_target (vendor_name ++ n ∷ [])) (vendor_name ++ n ∷ [])))) e
          ∙ others_gone project t path (needs_of wanted) n (names_of t at) m (name_of at m more bytes (ap (entry_at t) (sym (deeper m more f)) ∙ there))
          (no_target ((vendor_name ++ n ∷ []) ++ m ∷ []) within ((needs_of wanted).is_target ((vendor_name ++ n ∷ []) ++ m ∷ [])) refl) within

  pub file_gone_by : (rest : List (List ℕ)) (bytes : List ℕ) → path ≡ vendor_path project ++ rest → entry_at t path ≡ Some (entries.File bytes) → is_gone_at project t path (unneeded (needs_of wanted) project t) ≡ true
  unfolding unneeded
  file_gone_by [] bytes is there = absurd (
      let leaf : is_leaf (entry_at t (vendor_path project)) ≡ true = ap (λ (p : List (List ℕ)). is_leaf (entry_at t p)) (sym (is ∙ append-nil (vendor_path project))) ∙ ap is_leaf there in
      let none = is_vendor in cc)
  file_gone_by (n ∷ rest) bytes is there =
      of_gone project t path (needs_of wanted) (names_of t (vendor_path project)) n (name_of (vendor_path project) n rest bytes (ap (entry_at t) (sym is) ∙ there))
      (file_gone_at n rest bytes is there ((needs_of wanted).is_above (vendor_name ++ n ∷ [])) ((needs_of wanted).is_target (vendor_name ++ n ∷ [])) refl refl)

  pub no_bytes : (e : Option Entry) → ((bytes : List ℕ) → e ≡ Some (entries.File bytes) → ⊥) → bytes_of e ≡ None
  no_bytes None never = refl
  no_bytes (Some (entries.File bytes)) never = absurd (never bytes refl)
  no_bytes (Some entries.Folder) never = refl
  no_bytes (Some entries.Other) never = refl
