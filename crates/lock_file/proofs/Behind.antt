-- Entries behind others: what is read so far, and the names that were seen.
use Rattle.std.proofs.Common.{◌≡◌, ℕ, ◌+◌, ◌<◌, ◌≤◌, Bool, true, false, cond, ◌||◌, List, [], ◌∷◌, ◌++◌, length, map, get_or, Result, Ok, Err, refl, sym, ap, ◌∙◌, append_assoc}
use Rattle.std.proofs.lemmas.List.{append-nil, drop_all, map-append}
use Rattle.std.proofs.lemmas.List.Folds.{list_any-append}
use Rattle.std.specs.List.{list_any, enumerate_from}
use Rattle.std.specs.BTreeMap.{is_at}
use Rattle.std.specs.BTreeSet.{BTreeSet, contains, Updates, IsEmpty}
use Rattle.path_name.specs.Given.{◌>>=◌}
use Rattle.path_name.specs.Orders.{byte_cmp, bytes_are_equal, byte_equality, byte_ties}
use Rattle.json_ordered.specs.JsonTree.{JsonTree}
use Rattle.manifest_read.specs.declared.fault.FieldFault.{FieldFault}
use Rattle.manifest_read.specs.Pointers.{at_item}
use Rattle.manifest_read.proofs.Gathering.{behind, left_at, numbered_rest}
use Rattle.lock_file.specs.Entries.{is_among, entry_behind, entries_behind, Holds}

-- ---- the names that were seen

pub at_key : (k q : List ℕ) → is_at (byte_cmp k) q ≡ bytes_are_equal q k
at_key k q = sym (byte_ties k q) ∙ byte_equality.symm k q

either : (b c : Bool) → cond b true c ≡ c || (b || false)
either true true = refl
either true false = refl
either false true = refl
either false false = refl

pub holds_none : (seen : BTreeSet (List ℕ)) → IsEmpty seen → Holds seen []
holds_none seen none q = ap (list_any (is_at (byte_cmp q))) none

pub holds_more : (old now : BTreeSet (List ℕ)) (before : List (List ℕ)) (name : List ℕ) → Updates byte_cmp old now name true → Holds old before → Holds now (before ++ name ∷ [])
holds_more old now before name updates holds q =
    updates.0 q ∙ ap (λ b. cond b true (contains byte_cmp old q)) (at_key name q) ∙ ap (cond (bytes_are_equal q name) true) (holds q)
    ∙ either (bytes_are_equal q name) (is_among q before) ∙ sym (list_any-append (bytes_are_equal q) before (name ∷ []))

-- ---- the entries that were read

behind_none : {Y : Type 0} (r : Result (List Y) FieldFault) → r ≡ behind [] r
behind_none (Ok ys) = refl
behind_none (Err fault) = refl

behind_more : {Y : Type 0} (done front : List Y) (r : Result (List Y) FieldFault) → behind done (r >>= λ ys. Ok (front ++ ys)) ≡ behind (done ++ front) r
behind_more done front (Ok ys) = ap Ok (sym (append_assoc done front ys))
behind_more done front (Err fault) = refl

module _ {Y : Type 0} (read : List ℕ → JsonTree → Result Y FieldFault) (name : Y → List ℕ) (at : List ℕ) (before : List (List ℕ)) where
  -- what the entries of the rest give, behind those that are read already
  abbrev pub gathered : List Y → List (ℕ × JsonTree) → Result (List Y) FieldFault
  gathered done rest = behind done (entries_behind read name (before ++ map name done) at rest)

  pub at_first : (ns : List (ℕ × JsonTree)) → entries_behind read name before at ns ≡ gathered [] ns
  at_first ns = ap (λ names. entries_behind read name names at ns) (sym (append-nil before)) ∙ behind_none (entries_behind read name (before ++ []) at ns)

  names_more : (done : List Y) (y : Y) → (before ++ map name done) ++ name y ∷ [] ≡ before ++ map name (done ++ y ∷ [])
  names_more done y = append_assoc before (map name done) (name y ∷ []) ∙ ap (λ names. before ++ names) (sym (map-append name done (y ∷ [])))

  one_more : (done : List Y) (n : ℕ × JsonTree) (y : Y) (ns : List (ℕ × JsonTree)) → entry_behind read name (before ++ map name done) (at_item at n.0) n.1 ≡ Ok y → gathered done (n ∷ ns) ≡ gathered (done ++ y ∷ []) ns
  unfolding entries_behind
  one_more done n y ns e =
      ap (λ r. behind done (r >>= λ v. entries_behind read name ((before ++ map name done) ++ name v ∷ []) at ns >>= λ vs. Ok (v ∷ vs))) e
      ∙ behind_more done (y ∷ []) (entries_behind read name ((before ++ map name done) ++ name y ∷ []) at ns)
      ∙ ap (λ names. behind (done ++ y ∷ []) (entries_behind read name names at ns)) (names_more done y)

  refused : (done : List Y) (n : ℕ × JsonTree) (fault : FieldFault) (ns : List (ℕ × JsonTree)) → entry_behind read name (before ++ map name done) (at_item at n.0) n.1 ≡ Err fault → gathered done (n ∷ ns) ≡ Err fault
  unfolding entries_behind
  refused done n fault ns e = ap (λ r. behind done (r >>= λ v. entries_behind read name ((before ++ map name done) ++ name v ∷ []) at ns >>= λ vs. Ok (v ∷ vs))) e

  at_last : (done : List Y) → gathered done [] ≡ Ok done
  unfolding entries_behind
  at_last done = ap Ok (append-nil done)

  -- the steps of a loop over items that are seen by a view
  module _ {X : Type 0} (view : X → JsonTree) (xs : List X) (i : ℕ) where
    pub step : (x : X) → i < length xs → x ≡ get_or xs i x → (done now : List Y) (y : Y) → entry_behind read name (before ++ map name done) (at_item at i) (view x) ≡ Ok y → now ≡ done ++ y ∷ []
        → gathered done (numbered_rest view xs i) ≡ gathered now (numbered_rest view xs (i + 1))
    step x within is done now y e more = ap (λ zs. gathered done (enumerate_from i (map view zs))) (left_at xs i x within is) ∙ one_more done (i, view x) y (numbered_rest view xs (i + 1)) e
        ∙ ap (λ ys. gathered ys (numbered_rest view xs (i + 1))) (sym more)

    pub stop : (x : X) → i < length xs → x ≡ get_or xs i x → (done : List Y) (fault : FieldFault) → entry_behind read name (before ++ map name done) (at_item at i) (view x) ≡ Err fault
        → gathered done (numbered_rest view xs i) ≡ Err fault
    stop x within is done fault e = ap (λ zs. gathered done (enumerate_from i (map view zs))) (left_at xs i x within is) ∙ refused done (i, view x) fault (numbered_rest view xs (i + 1)) e

    pub end : length xs ≤ i → (done : List Y) → gathered done (numbered_rest view xs i) ≡ Ok done
    end all done = ap (λ zs. gathered done (enumerate_from i (map view zs))) (drop_all i xs all) ∙ at_last done

  pub seen_more : (seen : BTreeSet (List ℕ)) (done now : List Y) (y : Y) → Holds seen ((before ++ map name done) ++ name y ∷ []) → now ≡ done ++ y ∷ [] → Holds seen (before ++ map name now)
  seen_more seen done now y holds more q = holds q ∙ ap (is_among q) (names_more done y ∙ ap (λ ys. before ++ map name ys) (sym more))

  pub init : (seen : BTreeSet (List ℕ)) (done : List Y) (ns : List (ℕ × JsonTree)) → done ≡ [] → Holds seen before
      → (entries_behind read name before at ns ≡ gathered done ns) × Holds seen (before ++ map name done)
  init seen done ns none holds = (at_first ns ∙ ap (λ ys. gathered ys ns) (sym none), λ q. holds q ∙ ap (is_among q) (sym (append-nil before) ∙ ap (λ ys. before ++ map name ys) (sym none)))
