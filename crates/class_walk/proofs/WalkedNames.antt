-- What walking an entry, a folder and its names gives.
use Rattle.std.proofs.Common.{◌≡◌, ℕ, zero, suc, ◌+◌, ◌-◌, ◌<◌, ◌≤◌, Bool, true, false, not, List, [], ◌∷◌, ◌++◌, length, drop, get_or, Option, Some, None, is_some, Result, Ok, Err, refl, sym, ap, subst, ◌∙◌, arith, nat_lt, append_assoc}
use Rattle.std.specs.Prelude.{◌&&◌, ◌||◌}
use Rattle.std.specs.FinMap.{get}
use Rattle.std.specs.List.{list_all}
use Rattle.std.proofs.lemmas.List.{drop_more, drop_all}
use Rattle.std.proofs.lemmas.List.Folds.{list_all-append}
use Rattle.path_name.specs.Given.{◌>>=◌}
use Rattle.path_name.specs.Paths.{is_segment}
use Rattle.path_name.proofs.Joining.{both_true}
use Rattle.tree_dev.specs.Changes.{is_file, is_leaf}
use Rattle.tree_dev.specs.Trees.{FileTree, IsListing, IsTree, entry_at, names_in}
use Rattle.tree_dev.specs.declared.entry.Entry.{Entry}
use Rattle.tree_dev.specs.declared.entry.Entry.TheVariants as entries
use Rattle.tree_dev.specs.declared.limits.LimitKind.{LimitKind}
use Rattle.tree_dev.specs.declared.limits.LimitKind.TheVariants as limits
use Rattle.tree_dev.proofs.NamesIn.{is_name_of, name_itself, names_exactly}
use Rattle.class_walk.specs.Faults.{Refuses, Tells, Ends, Goes}
use Rattle.class_walk.specs.Walks.{Search, Walked, each_walked, entry_walked, folder_listed, is_deep, is_hidden, is_reached, is_skipped}
use Rattle.class_walk.specs.Searches.{FileGoes, IsListed, IsNoFile, IsOpen, Lists, child_reached, folder_goes, names_reached, reached_below}
use Rattle.class_walk.specs.declared.fault.WalkFault.{WalkFault}
use Rattle.class_walk.specs.declared.fault.WalkFault.TheVariants as faults
use Rattle.class_walk.specs.declared.job.Scanned.{Scanned}
use Rattle.class_walk.specs.declared.search.Search as lent
use Rattle.class_walk.proofs.ReachedPaths.{none_below_file, reached_by_names}
use Rattle.class_walk.proofs.Steps.{each_append, goes_same, refuses_on}

module _ (t : FileTree) (search : Search) (tail : List (List ℕ)) where
  abbrev at : List (List ℕ)
  at = search.job.at ++ tail

  abbrev below : Walked → Result Walked WalkFault
  below walked = each_walked t search (reached_below t search.job tail) walked

  -- ---- an entry

  pub file_goes : (found after : List Scanned) (left rest : ℕ) → IsTree t → FileGoes t search tail found left after rest
      → (walked : Walked) → Tells walked found left → (next : Walked) × (each_walked t search (tail ∷ reached_below t search.job tail) walked ≡ Ok next) × Tells next after rest
  file_goes found after left rest tree file walked tells =
      let goes = file.goes walked tells in
      (goes.0, rw (none_below_file t search.job tail file.bytes tree file.file, goes.1) refl, goes.2)

  open_by : (e : Option Entry) (walked : Walked) → entry_at t at ≡ e → is_deep tail ≡ false → is_some e ≡ true → is_file e ≡ false → folder_goes t search tail walked ≡ each_walked t search (tail ∷ reached_below t search.job tail) walked
  unfolding folder_goes entry_walked
  open_by None walked is deep some no_file = absurd cc
  open_by (Some (entries.File bytes)) walked is deep some no_file = absurd cc
  open_by (Some entries.Folder) walked is deep some no_file = rw (is, deep) refl
  open_by (Some entries.Other) walked is deep some no_file = rw is refl

  pub open_goes : (X : Type 0) (before : List Scanned) (count : ℕ) (found after : List Scanned) (left rest : ℕ) (r : Result X WalkFault) → IsOpen t search tail before count found left
      → Goes (folder_goes t search tail) found left after rest r → Goes (each_walked t search (tail ∷ reached_below t search.job tail)) before count after rest r
  open_goes X before count found after left rest r opened goes =
      let same : (walked : Walked) → folder_goes t search tail walked ≡ each_walked t search (tail ∷ reached_below t search.job tail) walked =
      λ walked. open_by (entry_at t at) walked refl opened.deep opened.no_file.there opened.no_file.no_file in
      subst (λ (n : ℕ). Goes (each_walked t search (tail ∷ reached_below t search.job tail)) before n after rest r) opened.left_is
      (subst (λ (fs : List Scanned). Goes (each_walked t search (tail ∷ reached_below t search.job tail)) fs left after rest r) opened.found_is
      (goes_same X (folder_goes t search tail) (each_walked t search (tail ∷ reached_below t search.job tail)) found after left rest r same goes))

  pub refused_entry : (fault : WalkFault) (walked : Walked) → Refuses fault (entry_walked t search tail walked) → Refuses fault (each_walked t search (tail ∷ reached_below t search.job tail) walked)
  refused_entry fault walked refuses = refuses_on fault (entry_walked t search tail walked) below refuses

  -- ---- a folder

  folder_is : (walked : Walked) → entry_at t at ≡ Some entries.Folder → nat_lt walked.left (length (names_in t at)) ≡ false
      → folder_goes t search tail walked ≡ below (record { found = walked.found; left = walked.left - length (names_in t at) })
  unfolding folder_goes folder_listed
  folder_is walked is few = rw (is, few) refl

  pub listed_goes : (X : Type 0) (names : List (List ℕ)) (found after : List Scanned) (left mid rest : ℕ) (r : Result X WalkFault) → IsTree t → IsListed t at names left mid
      → Goes (each_walked t search (names_reached t search.job tail names)) found mid after rest r → Goes (folder_goes t search tail) found left after rest r
  listed_goes X names found after left mid rest r tree listed goes walked tells =
      let few : nat_lt walked.left (length (names_in t at)) ≡ false = ap (λ (n : ℕ). nat_lt n (length (names_in t at))) tells.1 ∙ listed.few in
      let next : Walked = record { found = walked.found; left = walked.left - length (names_in t at) } in
      let count : walked.left - length (names_in t at) ≡ mid = ap (λ (n : ℕ). n - length (names_in t at)) tells.1 ∙ sym listed.counted in
      let paths : names_reached t search.job tail names ≡ reached_below t search.job tail = ap (names_reached t search.job tail) listed.names_are ∙ sym (reached_by_names t search.job tail tree) in
      subst (λ (wanted : Result Walked WalkFault). Ends wanted after rest r) (sym (folder_is walked listed.folder few))
      (subst (λ (tails : List (List (List ℕ))). Ends (each_walked t search tails next) after rest r) paths (goes next (tells.0, count)))

  large : (walked : Walked) → entry_at t at ≡ Some entries.Folder → nat_lt walked.left (length (names_in t at)) ≡ true → folder_goes t search tail walked ≡ Err (faults.Limit limits.Entries)
  unfolding folder_goes folder_listed
  large walked is many = rw (is, many) refl

  other_of : (e : Option Entry) → is_leaf e ≡ true → is_file e ≡ false → e ≡ Some entries.Other
  other_of None leaf no_file = absurd cc
  other_of (Some (entries.File bytes)) leaf no_file = absurd cc
  other_of (Some entries.Folder) leaf no_file = absurd cc
  other_of (Some entries.Other) leaf no_file = refl

  other : (walked : Walked) → entry_at t at ≡ Some entries.Other → folder_goes t search tail walked ≡ Err (faults.OtherEntry at)
  unfolding folder_goes
  other walked is = rw is refl

  pub list_refused : (fault : WalkFault) (found : List Scanned) (left after : ℕ) (walked : Walked) → IsNoFile t at → Lists t at left after (Err fault) → Tells walked found left → Refuses fault (folder_goes t search tail walked)
  list_refused faults.DeviceFault found left after walked no_file lists tells = tt
  list_refused faults.OutOfMemory found left after walked no_file lists tells = tt
  list_refused (faults.ClassmapMissing path) found left after walked no_file lists tells = absurd lists
  list_refused (faults.Vanished path) found left after walked no_file lists tells =
      let wrong : false ≡ true = sym (ap is_some lists) ∙ no_file.there in absurd cc
  list_refused (faults.OtherEntry path) found left after walked no_file lists tells =
      other walked (other_of (entry_at t at) lists.1 no_file.no_file) ∙ ap (λ (p : List (List ℕ)). wrong_kind p) (sym lists.0)
    where
      wrong_kind : List (List ℕ) → Result Walked WalkFault
      wrong_kind p = Err (faults.OtherEntry p)
  list_refused (faults.Limit kind) found left after walked no_file lists tells =
      large walked lists.1.folder (ap (λ (n : ℕ). nat_lt n (length (names_in t at))) tells.1 ∙ lists.1.many) ∙ ap (λ (k : LimitKind). limited k) (sym lists.0)
    where
      limited : LimitKind → Result Walked WalkFault
      limited k = Err (faults.Limit k)

  -- ---- the names of a folder

  left_names : (names : List (List ℕ)) (i : ℕ) (x : List ℕ) → i < length names → x ≡ get_or names i x → names_reached t search.job tail (drop i names) ≡ child_reached t search.job tail x ++ names_reached t search.job tail (drop (i + 1) names)
  left_names names i x lt is = ap (names_reached t search.job tail) (drop_more names i x lt ∙ ap (λ (n : List ℕ). n ∷ drop (i + 1) names) (sym is))

  left_walked : (names : List (List ℕ)) (i : ℕ) (x : List ℕ) (walked : Walked) → i < length names → x ≡ get_or names i x
      → (each_walked t search (child_reached t search.job tail x) walked >>= λ next. each_walked t search (names_reached t search.job tail (drop (i + 1) names)) next) ≡ each_walked t search (names_reached t search.job tail (drop i names)) walked
  left_walked names i x walked lt is =
      sym (ap (λ (tails : List (List (List ℕ))). each_walked t search tails walked) (left_names names i x lt is)
      ∙ each_append t search (child_reached t search.job tail x) (names_reached t search.job tail (drop (i + 1) names)) walked)

  pub name_goes : (X Y : Type 0) (u : X) (names : List (List ℕ)) (i : ℕ) (x : List ℕ) (found mid after : List Scanned) (left count rest : ℕ) (r : Result Y WalkFault) → i < length names → x ≡ get_or names i x
      → Goes (each_walked t search (child_reached t search.job tail x)) found left mid count (Ok u)
      → Goes (each_walked t search (names_reached t search.job tail (drop (i + 1) names))) mid count after rest r
      → Goes (each_walked t search (names_reached t search.job tail (drop i names))) found left after rest r
  name_goes X Y u names i x found mid after left count rest r lt is one more walked tells =
      let step = one walked tells in
      subst (λ (wanted : Result Walked WalkFault). Ends wanted after rest r) (left_walked names i x walked lt is) (rw step.1 (more step.0 step.2))

  pub name_refused : (X : Type 0) (fault : WalkFault) (names : List (List ℕ)) (i : ℕ) (x : List ℕ) (found mid : List Scanned) (left count : ℕ) → i < length names → x ≡ get_or names i x
      → Goes {X = X} (each_walked t search (child_reached t search.job tail x)) found left mid count (Err fault)
      → (walked : Walked) → Tells walked found left → Refuses fault (each_walked t search (names_reached t search.job tail (drop i names)) walked)
  name_refused X fault names i x found mid left count lt is one walked tells =
      subst (λ (wanted : Result Walked WalkFault). Refuses fault wanted) (left_walked names i x walked lt is)
      (refuses_on fault (each_walked t search (child_reached t search.job tail x) walked) (λ next. each_walked t search (names_reached t search.job tail (drop (i + 1) names)) next) (one walked tells))

  pub no_names_left : (names : List (List ℕ)) (i : ℕ) (found : List Scanned) (left : ℕ) → length names ≤ i → (walked : Walked) → Tells walked found left
      → (next : Walked) × (each_walked t search (names_reached t search.job tail (drop i names)) walked ≡ Ok next) × Tells next found left
  no_names_left names i found left le walked tells = (walked, rw (drop_all i names le) refl, tells)

  -- ---- one name

  passed_over : (name : List ℕ) → is_reached search.job (tail ++ name ∷ []) ≡ false → child_reached t search.job tail name ≡ []
  unfolding child_reached
  passed_over name e = rw e refl

  pub passed_goes : (name : List ℕ) (found : List Scanned) (left : ℕ) → is_reached search.job (tail ++ name ∷ []) ≡ false → (walked : Walked) → Tells walked found left
      → (next : Walked) × (each_walked t search (child_reached t search.job tail name) walked ≡ Ok next) × Tells next found left
  passed_goes name found left e walked tells = (walked, rw (passed_over name e) refl, tells)

  entered : (name : List ℕ) → is_reached search.job (tail ++ name ∷ []) ≡ true → child_reached t search.job tail name ≡ (tail ++ name ∷ []) ∷ reached_below t search.job (tail ++ name ∷ [])
  unfolding child_reached
  entered name e = rw e refl

  pub entered_goes : (X : Type 0) (name : List ℕ) (found after : List Scanned) (left rest : ℕ) (r : Result X WalkFault) → is_reached search.job (tail ++ name ∷ []) ≡ true
      → Goes (each_walked t search ((tail ++ name ∷ []) ∷ reached_below t search.job (tail ++ name ∷ []))) found left after rest r → Goes (each_walked t search (child_reached t search.job tail name)) found left after rest r
  entered_goes X name found after left rest r e goes = subst (λ (tails : List (List (List ℕ))). Goes (each_walked t search tails) found left after rest r) (sym (entered name e)) goes

  hidden_by : (a b d skipped hidden : Bool) → hidden ≡ true → ((a && (not hidden && true)) && not skipped) ≡ false
  hidden_by true b d skipped hidden e = rw e refl
  hidden_by false b d skipped hidden e = refl

  seen : (name : List ℕ) → list_all (λ n. not (is_hidden n)) (tail ++ name ∷ []) ≡ (list_all (λ n. not (is_hidden n)) tail && (not (is_hidden name) && true))
  seen name = list_all-append (λ n. not (is_hidden n)) tail (name ∷ [])

  pub hidden : (name : List ℕ) → is_hidden name ≡ true → is_reached search.job (tail ++ name ∷ []) ≡ false
  unfolding is_reached
  hidden name e = rw (seen name) (hidden_by (list_all (λ n. not (is_hidden n)) tail) true true (is_skipped search.job.skip (search.job.at ++ (tail ++ name ∷ []))) (is_hidden name) e)

  skipped_by : (a skip : Bool) → skip ≡ true → (a && not skip) ≡ false
  skipped_by true skip e = rw e refl
  skipped_by false skip e = refl

  pub skipped : (name : List ℕ) → is_skipped search.job.skip (search.job.at ++ (tail ++ name ∷ [])) ≡ true → is_reached search.job (tail ++ name ∷ []) ≡ false
  unfolding is_reached
  skipped name e = skipped_by (list_all (λ n. not (is_hidden n)) (tail ++ name ∷ [])) (is_skipped search.job.skip (search.job.at ++ (tail ++ name ∷ []))) e

  -- ---- names that are listed are there

  named_at : (names : List (List ℕ)) (i : ℕ) (d : List ℕ) → i < length names → is_name_of (get_or names i d) names ≡ true
  named_at [] i d lt = absurd (omega (arith, lt))
  named_at (y ∷ ys) zero d lt = rw (name_itself y) refl
  named_at (y ∷ ys) (suc j) d lt = rw (named_at ys j d (omega (arith, lt))) (or_true _)
    where
      or_true : (a : Bool) → (a || true) ≡ true
      or_true true = refl
      or_true false = refl

  entry_of : (path : List (List ℕ)) (x : List ℕ) → entry_at t (path ++ x ∷ []) ≡ get t (path ++ x ∷ [])
  entry_of [] x = refl
  entry_of (first ∷ path) x = refl

  pub there_named : (names : List (List ℕ)) (i : ℕ) (x : List ℕ) → names ≡ names_in t at → i < length names → x ≡ get_or names i x → is_some (entry_at t (search.job.at ++ (tail ++ x ∷ []))) ≡ true
  there_named names i x are lt is =
      let among : is_name_of x (names_in t at) ≡ true = ap (λ (ns : List (List ℕ)). is_name_of x ns) (sym are) ∙ (ap (λ (n : List ℕ). is_name_of n names) is ∙ named_at names i x lt) in
      ap (λ (path : List (List ℕ)). is_some (entry_at t path)) (sym (append_assoc search.job.at tail (x ∷ [])))
      ∙ ap is_some (entry_of at x) ∙ sym (names_exactly t at x) ∙ among

-- ---- names of a listing

segment_at : (names : List (List ℕ)) (i : ℕ) (d : List ℕ) → list_all is_segment names ≡ true → i < length names → is_segment (get_or names i d) ≡ true
segment_at [] i d all lt = absurd (omega (arith, lt))
segment_at (y ∷ ys) zero d all lt = (both_true (is_segment y) (list_all is_segment ys) all).0
segment_at (y ∷ ys) (suc j) d all lt = segment_at ys j d (both_true (is_segment y) (list_all is_segment ys) all).1 (omega (arith, lt))

pub segment : (names : List (List ℕ)) (i : ℕ) (x : List ℕ) → IsListing names → i < length names → x ≡ get_or names i x → is_segment x ≡ true
segment names i x listing lt is = ap is_segment is ∙ segment_at names i x listing.segments lt

-- ---- one name more

pub reached_name_of : (search : lent.Search) (tail : List (List ℕ)) (name : List ℕ) → is_reached search.job.now tail ≡ true → is_hidden name ≡ false → is_skipped search.job.now.skip (search.job.now.at ++ (tail ++ name ∷ [])) ≡ false
    → is_reached search.job.now (tail ++ name ∷ []) ≡ true
unfolding is_reached
reached_name_of search tail name e shown kept =
    let two = both_true (list_all (λ n. not (is_hidden n)) tail) (not (is_skipped search.job.now.skip (search.job.now.at ++ tail))) e in
    let seen : list_all (λ n. not (is_hidden n)) (tail ++ name ∷ []) ≡ (list_all (λ n. not (is_hidden n)) tail && (not (is_hidden name) && true)) = list_all-append (λ n. not (is_hidden n)) tail (name ∷ []) in
    rw (seen, two.0, shown, kept) refl
