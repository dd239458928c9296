-- What a queue keeps as packages come and go.
use Rattle.std.proofs.Common.{◌≡◌, ◌≢◌, ℕ, zero, suc, ◌+◌, ◌-◌, ◌<◌, ◌≤◌, Bool, true, false, cond, List, [], ◌∷◌, ◌++◌, length, get_or, set, map, Vec, Global, refl, sym, ap, subst, ◌∙◌, arith, inl, inr}
use Rattle.std.proofs.Common.{Option, Some, None, not}
use Rattle.std.specs.Prelude.{◌⊎◌, ◌==◌, ◌||◌, ◌&&◌, nat_lt}
use Rattle.std.specs.Borrow.{Bor}
use Rattle.std.specs.Option.{IfSome, option_copied}
use Rattle.std.specs.List.{Contains}
use Rattle.std.specs.List.Sorted.{IsStrictlySortedBy}
use Rattle.std.specs.Ordering.{is_eq, is_gt}
use Rattle.std.specs.BTreeMap.{is_at}
use Rattle.std.specs.BTreeSet.{BTreeSet, insert_key, IsOrdered}
use Rattle.std.specs.Set.{remove_key}
use Rattle.std.specs.declared.cmp.Ordering.{Ordering}
use Rattle.std.specs.declared.cmp.Ordering.TheVariants.{Less, Equal, Greater}
use Rattle.std.proofs.lemmas.Bool.{false≢true}
use Rattle.std.proofs.lemmas.Bool.Decides.{nat_tests, eqb_tells}
use Rattle.std.proofs.lemmas.List.{get_or-set_same, get_or-set_other, get_or-map, map-set, length-map, length-set}
use Rattle.std.proofs.lemmas.List.Elements.{Contains-push, Contains-push_cases, Contains-append_left}
use Rattle.psr_routes.specs.declared.needs.Needs.{Needs}
use Rattle.psr_routes.specs.declared.queue.Queue.{Queue}
use Rattle.psr_routes.specs.Numbers.{list_at}
use Rattle.psr_routes.specs.Waiting.{Key, key_cmp, is_in, count_of, number_at, required_at, key_of, Fits, is_awaited, awaits, passed_at, IsParked, Keeps, Passes, Waits, IsBlank, Holds, IsNext}
use Rattle.psr_routes.proofs.Keys.{key_exact, itself, has, count, count_cons, one_borne, eq_of, eq_true}

-- ---- counts of a name after a key comes or goes

split_or : (a b : Bool) → (a || b) ≡ false → (a ≡ false) × (b ≡ false)
split_or true b e = absurd (false≢true (sym e))
split_or false b e = (refl, e)

inserted_step : (o : Ordering) (x : Key) (keys : List Key) (key : Key) (name : ℕ) → key_cmp key x ≡ o → is_eq (key_cmp key x) ≡ false
    → count name (insert_key key_cmp keys key) ≡ cond (key.0 == name) 1 0 + count name keys
    → count name (insert_key key_cmp (x ∷ keys) key) ≡ cond (key.0 == name) 1 0 + count name (x ∷ keys)
inserted_step Less x keys key name e apart rest = rw e (count_cons name key (x ∷ keys))
inserted_step Equal x keys key name e apart rest = absurd (false≢true (sym apart ∙ ap is_eq e))
inserted_step Greater x keys key name e apart rest = rw e (omega (arith, rest, count_cons name x (insert_key key_cmp keys key), count_cons name x keys))

pub count_inserted : (keys : List Key) (key : Key) (name : ℕ) → has keys key ≡ false → count name (insert_key key_cmp keys key) ≡ cond (key.0 == name) 1 0 + count name keys
count_inserted [] key name none = count_cons name key []
count_inserted (x ∷ keys) key name none =
    let apart = split_or (is_eq (key_cmp key x)) (has keys key) none in
    inserted_step (key_cmp key x) x keys key name refl apart.0 (count_inserted keys key name apart.1)

removed_step : (t : Bool) (x : Key) (keys : List Key) (key : Key) (name : ℕ) → is_eq (key_cmp key x) ≡ t → (t || has keys key) ≡ true
    → (has keys key ≡ true → count name keys ≡ cond (key.0 == name) 1 0 + count name (remove_key (is_at (key_cmp key)) keys))
    → count name (x ∷ keys) ≡ cond (key.0 == name) 1 0 + count name (remove_key (is_at (key_cmp key)) (x ∷ keys))
removed_step true x keys key name e h rest = rw (e, (key_exact key x e).0) (count_cons name x keys)
removed_step false x keys key name e h rest = rw e (omega (arith, rest h, count_cons name x (remove_key (is_at (key_cmp key)) keys), count_cons name x keys))

pub count_removed : (keys : List Key) (key : Key) (name : ℕ) → has keys key ≡ true → count name keys ≡ cond (key.0 == name) 1 0 + count name (remove_key (is_at (key_cmp key)) keys)
count_removed [] key name h = absurd (false≢true h)
count_removed (x ∷ keys) key name h = removed_step (is_eq (key_cmp key x)) x keys key name refl h (λ there. count_removed keys key name there)

pub either_true : (t : Bool) → cond t true true ≡ true
either_true true = refl
either_true false = refl

pub below_or_not : (a b : ℕ) → (a < b) ⊎ (b ≤ a)
below_or_not a b = elim (eqb_tells (b - a) 0) [ inl e ↦ inr (omega (arith, e.1)) | inr e ↦ inl (omega (arith, e.1)) ]

-- ---- lists at places

pub at_set : (lists : List (Vec ℕ Global)) (at : ℕ) (new : Vec ℕ Global) → at < length lists → list_at (set lists at new) at ≡ new.items
at_set lists at new below =
    let long : at < length (map (λ list. list.items) lists) = rw length-map below in
    rw map-set (get_or-set_same (map (λ list. list.items) lists) at new.items [] long)

pub at_other : (lists : List (Vec ℕ Global)) (at other : ℕ) (new : Vec ℕ Global) → other ≢ at → list_at (set lists at new) other ≡ list_at lists other
at_other lists at other new apart = rw map-set (get_or-set_other (map (λ list. list.items) lists) at other new.items [] apart)

-- two numbers are the same or not
pub same_or_not : (a b : ℕ) → (a ≡ b) ⊎ (a ≢ b)
same_or_not a b = elim (eqb_tells a b) [ inl e ↦ inl e.1 | inr e ↦ inr e.1 ]

pub unlike : (a b : ℕ) → a ≢ b → (a == b) ≡ false
unlike a b apart = elim (eqb_tells a b) [ inl e ↦ absurd (apart e.1) | inr e ↦ e.0 ]

-- ---- a new queue

no_items : (place : ℕ) → Contains [] place → ⊥
no_items place found = omega (arith, found.1)

pub blank_holds : (needs : Needs) (queue : Queue) → IsBlank (count_of needs) queue → Holds needs queue 0
unfolding IsStrictlySortedBy
blank_holds needs queue blank = record {
  long = blank.long;
  sorted = subst (IsStrictlySortedBy key_cmp) (sym blank.rest) tt;
  members = λ key h. absurd (false≢true (sym (ap (λ keys. has keys key) blank.rest) ∙ h));
  all = λ place below. absurd (omega (arith, below));
  looks = λ place found. absurd (no_items place (subst (λ list. Contains list place) blank.unseen found));
  counted = λ name below. blank.bearers name ∙ sym (ap (count name) blank.rest);
  few = λ name. omega (arith, blank.bearers name);
  ready = blank.ready;
  passed = blank.passed;
  parked = blank.parked;
}

module _ (needs : Needs) (queue : Queue) (place : ℕ) (rest : BTreeSet Key) (bearers unseen : Vec ℕ Global) where
  -- the queue with one package more
  abbrev pub put : Queue
  put = record queue { rest = rest; bearers = bearers; unseen = unseen }

  pub put_holds : Fits needs → Holds needs queue place → place < count_of needs
      → ((key : Key) → is_in rest key ≡ cond (is_eq (key_cmp (key_of needs place) key)) true (is_in queue.rest key))
      → IsOrdered key_cmp rest → rest.keys ≡ insert_key key_cmp queue.rest.keys (key_of needs place)
      → bearers.items ≡ set queue.bearers.items (number_at needs place) (get_or queue.bearers.items (number_at needs place) 0 + 1)
      → unseen.items ≡ queue.unseen.items ++ place ∷ []
      → Holds needs put (place + 1)
  put_holds fits holds below updates sorted inserted raised pushed = record {
    long = record { bearers = ap length raised ∙ rw length-set holds.long.bearers; passed = holds.long.passed; parked = holds.long.parked };
    sorted = sorted;
    members = λ key h. member key (is_eq (key_cmp (key_of needs place) key)) refl (sym (updates key) ∙ h);
    all = λ other less. each other less (same_or_not other place);
    looks = λ other found. looked other (subst (λ list. Contains list other) pushed found);
    counted = λ name within. counts name within (same_or_not name number);
    few = λ name. raises name (same_or_not name number);
    ready = holds.ready;
    passed = holds.passed;
    parked = holds.parked;
  }
    where
      number : ℕ
      number = number_at needs place

      long : number < length queue.bearers.items
      long = omega (arith, fits.numbers place below, holds.long.bearers)

      member : (key : Key) (t : Bool) → is_eq (key_cmp (key_of needs place) key) ≡ t → cond t true (is_in queue.rest key) ≡ true → (key.1 < place + 1) × (key.0 ≡ number_at needs key.1)
      member key true e h =
          let same = key_exact (key_of needs place) key e in
          (omega (arith, same.1), sym same.0 ∙ ap (number_at needs) same.1)
      member key false e h = let old = holds.members key h in (omega (arith, old.0), old.1)

      each : (other : ℕ) → other < place + 1 → (other ≡ place) ⊎ (other ≢ place) → (is_in rest (key_of needs other) ≡ true) × Contains unseen.items other
      each other less (inl e) = (
        updates (key_of needs other) ∙ ap (λ t. cond t true (is_in queue.rest (key_of needs other))) (ap (λ p. is_eq (key_cmp (key_of needs place) (key_of needs p))) e ∙ itself (key_of needs place)),
        subst (λ list. Contains list other) (sym pushed) (subst (λ p. Contains (queue.unseen.items ++ place ∷ []) p) (sym e) (Contains-push queue.unseen.items place)),
      )
      each other less (inr apart) =
          let old = holds.all other (omega (arith, less, apart)) in (
            updates (key_of needs other) ∙ ap (λ h. cond (is_eq (key_cmp (key_of needs place) (key_of needs other))) true h) old.0 ∙ either_true (is_eq (key_cmp (key_of needs place) (key_of needs other))),
            subst (λ list. Contains list other) (sym pushed) (Contains-append_left queue.unseen.items (place ∷ []) other old.1),
          )

      looked : (other : ℕ) → Contains (queue.unseen.items ++ place ∷ []) other → other < place + 1
      looked other found = elim (Contains-push_cases queue.unseen.items place other found) [
        | inl old ↦ omega (arith, holds.looks other old)
        | inr e ↦ omega (arith, e)
      ]

      absent : has queue.rest.keys (key_of needs place) ≡ false
      absent = by (has queue.rest.keys (key_of needs place)) refl
        where
          by : (t : Bool) → has queue.rest.keys (key_of needs place) ≡ t → t ≡ false
          by true e = absurd (omega (arith, (holds.members (key_of needs place) e).0))
          by false e = refl

      added : (name : ℕ) → count name rest.keys ≡ cond (number == name) 1 0 + count name queue.rest.keys
      added name = ap (count name) inserted ∙ count_inserted queue.rest.keys (key_of needs place) name absent

      counts : (name : ℕ) → name < count_of needs → (name ≡ number) ⊎ (name ≢ number) → get_or bearers.items name 0 ≡ count name rest.keys
      counts name within (inl e) =
          let here : get_or bearers.items number 0 ≡ get_or queue.bearers.items number 0 + 1 = ap (λ list. get_or list number 0) raised ∙ get_or-set_same queue.bearers.items number (get_or queue.bearers.items number 0 + 1) 0 long in
          let now : count number rest.keys ≡ 1 + count number queue.rest.keys = added number ∙ ap (λ t. cond t 1 0 + count number queue.rest.keys) (eq_true number number refl) in
          let was : get_or queue.bearers.items number 0 ≡ count number queue.rest.keys = holds.counted number (fits.numbers place below) in
          let at : get_or bearers.items number 0 ≡ count number rest.keys = omega (arith, here, now, was) in
          subst (λ n. get_or bearers.items n 0 ≡ count n rest.keys) (sym e) at
      counts name within (inr apart) =
          let here : get_or bearers.items name 0 ≡ get_or queue.bearers.items name 0 = ap (λ list. get_or list name 0) raised ∙ get_or-set_other queue.bearers.items number name (get_or queue.bearers.items number 0 + 1) 0 apart in
          let now : count name rest.keys ≡ count name queue.rest.keys = omega (arith, added name ∙ ap (λ t. cond t 1 0 + count name queue.rest.keys) (unlike number name (λ e. apart (sym e)))) in
          here ∙ holds.counted name within ∙ sym now

      raises : (name : ℕ) → (name ≡ number) ⊎ (name ≢ number) → get_or bearers.items name 0 ≤ place + 1
      raises name (inl e) =
          let here : get_or bearers.items number 0 ≡ get_or queue.bearers.items number 0 + 1 = ap (λ list. get_or list number 0) raised ∙ get_or-set_same queue.bearers.items number (get_or queue.bearers.items number 0 + 1) 0 long in
          subst (λ n. get_or bearers.items n 0 ≤ place + 1) (sym e) (omega (arith, here, holds.few number))
      raises name (inr apart) =
          let here : get_or bearers.items name 0 ≡ get_or queue.bearers.items name 0 = ap (λ list. get_or list name 0) raised ∙ get_or-set_other queue.bearers.items number name (get_or queue.bearers.items number 0 + 1) 0 apart in
          omega (arith, here, holds.few name)

  pub put_at : (number : ℕ) → number ≡ number_at needs place → Fits needs → Holds needs queue place → place < count_of needs
      → ((key : Key) → is_in rest key ≡ cond (is_eq (key_cmp (number, place) key)) true (is_in queue.rest key))
      → IsOrdered key_cmp rest → rest.keys ≡ insert_key key_cmp queue.rest.keys (number, place)
      → bearers.items ≡ set queue.bearers.items number (get_or queue.bearers.items number 0 + 1)
      → unseen.items ≡ queue.unseen.items ++ place ∷ []
      → Holds needs put (place + 1)
  put_at number e fits holds below updates sorted inserted raised pushed =
      put_holds fits holds below
      (subst (λ n. (key : Key) → is_in rest key ≡ cond (is_eq (key_cmp (n, place) key)) true (is_in queue.rest key)) e updates)
      sorted
      (subst (λ n. rest.keys ≡ insert_key key_cmp queue.rest.keys (n, place)) e inserted)
      (subst (λ n. bearers.items ≡ set queue.bearers.items n (get_or queue.bearers.items n 0 + 1)) e raised)
      pushed

-- an item that is its own default, with another default
pub at_zero : (xs : List ℕ) (i x : ℕ) → i < length xs → x ≡ get_or xs i x → x ≡ get_or xs i 0
at_zero [] i x within e = absurd (omega (arith, within))
at_zero (y ∷ xs) zero x within e = e
at_zero (y ∷ xs) (suc i) x within e = at_zero xs i x (omega (arith, within)) e

pub item_at : (lists : List (Vec ℕ Global)) (i : ℕ) (x : Vec ℕ Global) → i < length lists → x ≡ get_or lists i x → list_at lists i ≡ x.items
item_at lists i x within e = get_or-map (λ list. list.items) lists i x [] within ∙ ap (λ list. list.items) (sym e)

-- a new queue waits for all to be looked at
pub holds_waits : (needs : Needs) (queue : Queue) → Fits needs → Holds needs queue (count_of needs) → Waits needs queue queue.unseen.items
holds_waits needs queue fits holds = record {
  fits = fits;
  keeps = record {
    long = holds.long;
    sorted = holds.sorted;
    members = holds.members;
    counted = holds.counted;
    passed = λ place at within less. absurd (omega (arith, less, holds.passed place));
    ready = λ key h. absurd (false≢true (sym (ap (λ keys. has keys key) holds.ready) ∙ h));
    parked = λ name place found. absurd (no_items place (subst (λ list. Contains list place) (holds.parked name) found));
  };
  looks = holds.looks;
  waits = λ place within h. inr (inr (holds.all place within).1);
}

-- the same key is in a set
pub same_key_in : (set : BTreeSet Key) (key other : Key) → key.0 ≡ other.0 → key.1 ≡ other.1 → is_in set key ≡ true → is_in set other ≡ true
same_key_in set key other first second h = subst (λ k. is_in set (other.0, k) ≡ true) second (subst (λ n. is_in set (n, key.1) ≡ true) first h)

-- ---- a package is looked at

-- one that doesn't remain needs no look
pub gone_waits : (needs : Needs) (queue : Queue) (unseen : List ℕ) (place : ℕ) → Waits needs queue (unseen ++ place ∷ []) → is_in queue.rest (key_of needs place) ≡ false → Waits needs queue unseen
gone_waits needs queue unseen place waits gone = record {
  fits = waits.fits;
  keeps = waits.keeps;
  looks = λ other found. waits.looks other (Contains-append_left unseen (place ∷ []) other found);
  waits = λ other within h. elim (waits.waits other within h) [
    | inl ready ↦ inl ready
    | inr (inl parked) ↦ inr (inl parked)
    | inr (inr found) ↦ elim (Contains-push_cases unseen place other found) [
      | inl old ↦ inr (inr old)
      | inr e ↦ absurd (false≢true (sym gone ∙ ap (λ p. is_in queue.rest (key_of needs p)) e ∙ h))
    ]
  ];
}

module _ (needs : Needs) (queue : Queue) (place at : ℕ) (readied : BTreeSet Key) (passes_now : Vec ℕ Global) (parks_now : Vec (Vec ℕ Global) Global) where
  -- the queue after the look
  abbrev pub looked : Queue
  looked = record queue { ready = readied; passed = passes_now; parked = parks_now }

  -- what a look changes
  pub record Looks : Type 0 where
    pub long : length parks_now.items ≡ count_of needs
    pub moved : passes_now.items ≡ set queue.passed.items place at
    pub stays_ready : (key : Key) → is_in queue.ready key ≡ true → is_in readied key ≡ true
    pub made_ready : (key : Key) → is_in readied key ≡ true → (is_in queue.ready key ≡ true) ⊎ ((key.1 ≡ place) × (at ≡ length (required_at needs place)) × (is_in queue.rest key ≡ true))
    pub stays_parked : (name other : ℕ) → Contains (list_at queue.parked.items name) other → Contains (list_at parks_now.items name) other
    pub made_parked : (name other : ℕ) → Contains (list_at parks_now.items name) other → Contains (list_at queue.parked.items name) other ⊎ (other ≡ place)
    pub here : (is_in readied (key_of needs place) ≡ true) ⊎ IsParked needs looked place

  pub looked_waits : (unseen : List ℕ) → Waits needs queue (unseen ++ place ∷ []) → Passes needs queue place at → Looks → Waits needs looked unseen
  looked_waits unseen waits passes looks = record {
    fits = waits.fits;
    keeps = record {
      long = record { bearers = keeps.long.bearers; passed = ap length looks.moved ∙ rw length-set keeps.long.passed; parked = looks.long };
      sorted = keeps.sorted;
      members = keeps.members;
      counted = keeps.counted;
      passed = λ other k within less. passes_on other k within less (same_or_not other place);
      ready = λ key h. readies key (looks.made_ready key h);
      parked = λ name other found. elim (looks.made_parked name other found) [ inl old ↦ keeps.parked name other old | inr e ↦ subst (λ p. p < count_of needs) (sym e) passes.within ];
    };
    looks = λ other found. waits.looks other (Contains-append_left unseen (place ∷ []) other found);
    waits = λ other within h. status other within h (same_or_not other place);
  }
    where
      keeps : Keeps needs queue
      keeps = waits.keeps

      now_here : passed_at looked place ≡ at
      now_here = ap (λ list. get_or list place 0) looks.moved ∙ get_or-set_same queue.passed.items place at 0 (omega (arith, passes.within, keeps.long.passed))

      now_there : (other : ℕ) → other ≢ place → passed_at looked other ≡ passed_at queue other
      now_there other apart = ap (λ list. get_or list other 0) looks.moved ∙ get_or-set_other queue.passed.items place other at 0 apart

      at_place : (k : ℕ) → k < at → (k < passed_at queue place) ⊎ (passed_at queue place ≤ k) → (k < length (required_at needs place)) × (awaits needs queue place k ≡ false)
      at_place k less (inl old) = keeps.passed place k passes.within old
      at_place k less (inr new) = (omega (arith, less, passes.upto), passes.not_awaited k new less)

      passes_on : (other k : ℕ) → other < count_of needs → k < passed_at looked other → (other ≡ place) ⊎ (other ≢ place) → (k < length (required_at needs other)) × (awaits needs looked other k ≡ false)
      passes_on other k within less (inl e) =
          subst (λ p. (k < length (required_at needs p)) × (awaits needs looked p k ≡ false)) (sym e)
          (at_place k (omega (arith, subst (λ p. k < passed_at looked p) e less, now_here)) (below_or_not k (passed_at queue place)))
      passes_on other k within less (inr apart) = keeps.passed other k within (omega (arith, less, now_there other apart))

      full : (key : Key) → is_in queue.ready key ≡ true → (key.1 ≡ place) ⊎ (key.1 ≢ place) → passed_at looked key.1 ≡ length (required_at needs key.1)
      full key h (inl e) =
          let old = (keeps.ready key h).1 in
          let was : passed_at queue place ≡ length (required_at needs place) = subst (λ p. passed_at queue p ≡ length (required_at needs p)) e old in
          subst (λ p. passed_at looked p ≡ length (required_at needs p)) (sym e) (omega (arith, now_here, was, passes.from, passes.upto))
      full key h (inr apart) = now_there key.1 apart ∙ (keeps.ready key h).1

      readies : (key : Key) → (is_in queue.ready key ≡ true) ⊎ ((key.1 ≡ place) × (at ≡ length (required_at needs place)) × (is_in queue.rest key ≡ true)) → (is_in queue.rest key ≡ true) × (passed_at looked key.1 ≡ length (required_at needs key.1))
      readies key (inl old) = ((keeps.ready key old).0, full key old (same_or_not key.1 place))
      readies key (inr new) = (new.2, subst (λ p. passed_at looked p ≡ length (required_at needs p)) (sym new.0) (now_here ∙ new.1))

      still : (other : ℕ) → other ≢ place → IsParked needs queue other → IsParked needs looked other
      still other apart old =
          let same = now_there other apart in record {
            within = subst (λ k. k < length (required_at needs other)) (sym same) old.within;
            awaits = subst (λ k. awaits needs queue other k ≡ true) (sym same) old.awaits;
            there = subst (λ k. Contains (list_at parks_now.items (get_or (required_at needs other) k 0)) other) (sym same) (looks.stays_parked (get_or (required_at needs other) (passed_at queue other) 0) other old.there);
          }

      status : (other : ℕ) → other < count_of needs → is_in queue.rest (key_of needs other) ≡ true → (other ≡ place) ⊎ (other ≢ place) → (is_in readied (key_of needs other) ≡ true) ⊎ IsParked needs looked other ⊎ Contains unseen other
      status other within h (inl e) = elim looks.here [
        | inl now ↦ inl (subst (λ p. is_in readied (key_of needs p) ≡ true) (sym e) now)
        | inr now ↦ inr (inl (subst (IsParked needs looked) (sym e) now))
      ]
      status other within h (inr apart) = elim (waits.waits other within h) [
        | inl now ↦ inl (looks.stays_ready (key_of needs other) now)
        | inr (inl old) ↦ inr (inl (still other apart old))
        | inr (inr found) ↦ elim (Contains-push_cases unseen place other found) [ inl old ↦ inr (inr old) | inr e ↦ absurd (apart (sym e)) ]
      ]

-- a package is parked at a name that it waits for
pub parks : (needs : Needs) (queue : Queue) (place at : ℕ) (passed : Vec ℕ Global) (parked : Vec (Vec ℕ Global) Global) (new : Vec ℕ Global)
    → Keeps needs queue → Fits needs → Passes needs queue place at
    → passed.items ≡ set queue.passed.items place at → at < length (required_at needs place) → awaits needs queue place at ≡ true
    → parked.items ≡ set queue.parked.items (get_or (required_at needs place) at 0) new
    → new.items ≡ list_at queue.parked.items (get_or (required_at needs place) at 0) ++ place ∷ []
    → Looks needs queue place at queue.ready passed parked
parks needs queue place at passed parked new keeps fits passes is within awaited set_there pushed = record {
  long = ap length set_there ∙ rw length-set keeps.long.parked;
  moved = is;
  stays_ready = λ key h. h;
  made_ready = λ key h. inl h;
  stays_parked = λ n other found. stays n other found (same_or_not n name);
  made_parked = λ n other found. made n other found (same_or_not n name);
  here = inr (record {
    within = subst (λ k. k < length (required_at needs place)) (sym now) within;
    awaits = subst (λ k. awaits needs queue place k ≡ true) (sym now) awaited;
    there = subst (λ k. Contains (list_at parked.items (get_or (required_at needs place) k 0)) place) (sym now) (subst (λ list. Contains list place) (sym there) (Contains-push (list_at queue.parked.items name) place));
  });
}
  where
    name : ℕ
    name = get_or (required_at needs place) at 0

    now : get_or passed.items place 0 ≡ at
    now = ap (λ list. get_or list place 0) is ∙ get_or-set_same queue.passed.items place at 0 (omega (arith, passes.within, keeps.long.passed))

    long : name < length queue.parked.items
    long = omega (arith, fits.required place at passes.within within, keeps.long.parked)

    there : list_at parked.items name ≡ list_at queue.parked.items name ++ place ∷ []
    there = ap (λ lists. list_at lists name) set_there ∙ at_set queue.parked.items name new long ∙ pushed

    elsewhere : (n : ℕ) → n ≢ name → list_at parked.items n ≡ list_at queue.parked.items n
    elsewhere n apart = ap (λ lists. list_at lists n) set_there ∙ at_other queue.parked.items name n new apart

    stays : (n other : ℕ) → Contains (list_at queue.parked.items n) other → (n ≡ name) ⊎ (n ≢ name) → Contains (list_at parked.items n) other
    stays n other found (inl e) = subst (λ m. Contains (list_at parked.items m) other) (sym e) (subst (λ list. Contains list other) (sym there) (Contains-append_left (list_at queue.parked.items name) (place ∷ []) other (subst (λ m. Contains (list_at queue.parked.items m) other) e found)))
    stays n other found (inr apart) = subst (λ list. Contains list other) (sym (elsewhere n apart)) found

    made : (n other : ℕ) → Contains (list_at parked.items n) other → (n ≡ name) ⊎ (n ≢ name) → Contains (list_at queue.parked.items n) other ⊎ (other ≡ place)
    made n other found (inl e) = elim (Contains-push_cases (list_at queue.parked.items name) place other (subst (λ list. Contains list other) there (subst (λ m. Contains (list_at parked.items m) other) e found))) [
      | inl old ↦ inl (subst (λ m. Contains (list_at queue.parked.items m) other) (sym e) old)
      | inr same ↦ inr (sym same)
    ]
    made n other found (inr apart) = inl (subst (λ list. Contains list other) (elsewhere n apart) found)

-- a package is ready
pub readies : (needs : Needs) (queue : Queue) (place at : ℕ) (ready : BTreeSet Key) (passed : Vec ℕ Global)
    → Keeps needs queue → is_in queue.rest (key_of needs place) ≡ true
    → passed.items ≡ set queue.passed.items place at → at ≡ length (required_at needs place)
    → ((key : Key) → is_in ready key ≡ cond (is_eq (key_cmp (key_of needs place) key)) true (is_in queue.ready key))
    → Looks needs queue place at ready passed queue.parked
readies needs queue place at ready passed keeps rest is all updates = record {
  long = keeps.long.parked;
  moved = is;
  stays_ready = λ key h. updates key ∙ ap (λ t. cond (is_eq (key_cmp (key_of needs place) key)) true t) h ∙ either_true (is_eq (key_cmp (key_of needs place) key));
  made_ready = λ key h. made key (is_eq (key_cmp (key_of needs place) key)) refl (sym (updates key) ∙ h);
  stays_parked = λ n other found. found;
  made_parked = λ n other found. inl found;
  here = inl (updates (key_of needs place) ∙ ap (λ t. cond t true (is_in queue.ready (key_of needs place))) (itself (key_of needs place)));
}
  where
    made : (key : Key) (t : Bool) → is_eq (key_cmp (key_of needs place) key) ≡ t → cond t true (is_in queue.ready key) ≡ true → (is_in queue.ready key ≡ true) ⊎ ((key.1 ≡ place) × (at ≡ length (required_at needs place)) × (is_in queue.rest key ≡ true))
    made key true e h =
        let same = key_exact (key_of needs place) key e in
        inr (sym same.1, all, same_key_in queue.rest (key_of needs place) key same.0 same.1 rest)
    made key false e h = inl h

-- ---- the next package is no longer ready

-- where none is ready, one may be looked at
pub more_unseen : (needs : Needs) (queue : Queue) (place : ℕ) → place < count_of needs → Waits needs queue [] → Waits needs queue (place ∷ [])
more_unseen needs queue place within waits = record {
  fits = waits.fits;
  keeps = waits.keeps;
  looks = λ other found. alone other found;
  waits = λ other below h. elim (waits.waits other below h) [ inl ready ↦ inl ready | inr (inl parked) ↦ inr (inl parked) | inr (inr found) ↦ absurd (no_items other found) ];
}
  where
    alone : (other : ℕ) → Contains (place ∷ []) other → other < count_of needs
    alone other found = elim (Contains-push_cases [] place other found) [ inl old ↦ absurd (no_items other old) | inr e ↦ omega (arith, e, within) ]

module _ (needs : Needs) (queue : Queue) (key : Key) (ready : BTreeSet Key) where
  -- the queue without a ready one
  abbrev pub popped : Queue
  popped = record queue { ready = ready }

  pub popped_waits : Waits needs queue [] → is_in queue.ready key ≡ true
      → ((other : Key) → is_in ready other ≡ cond (is_eq (key_cmp key other)) false (is_in queue.ready other))
      → Waits needs popped (key.1 ∷ [])
  popped_waits waits was updates = record {
    fits = more.fits;
    keeps = record {
      long = record { bearers = more.keeps.long.bearers; passed = more.keeps.long.passed; parked = more.keeps.long.parked };
      sorted = more.keeps.sorted;
      members = more.keeps.members;
      counted = more.keeps.counted;
      passed = more.keeps.passed;
      ready = λ other h. more.keeps.ready other (old_one other (is_eq (key_cmp key other)) (sym (updates other) ∙ h));
      parked = more.keeps.parked;
    };
    looks = more.looks;
    waits = λ other below h. elim (more.waits other below h) [
      | inl old ↦ stays other (is_eq (key_cmp key (key_of needs other))) refl old
      | inr (inl parked) ↦ inr (inl (record { within = parked.within; awaits = parked.awaits; there = parked.there }))
      | inr (inr found) ↦ inr (inr found)
    ];
  }
    where
      within : key.1 < count_of needs
      within = (waits.keeps.members key (waits.keeps.ready key was).0).0

      more : Waits needs queue (key.1 ∷ [])
      more = more_unseen needs queue key.1 within waits

      old_one : (other : Key) (t : Bool) → cond t false (is_in queue.ready other) ≡ true → is_in queue.ready other ≡ true
      old_one other true h = absurd (false≢true h)
      old_one other false h = h

      stays : (other : ℕ) (t : Bool) → is_eq (key_cmp key (key_of needs other)) ≡ t → is_in queue.ready (key_of needs other) ≡ true → (is_in ready (key_of needs other) ≡ true) ⊎ IsParked needs popped other ⊎ Contains (key.1 ∷ []) other
      stays other true e old = inr (inr (subst (Contains (key.1 ∷ [])) (key_exact key (key_of needs other) e).1 (Contains-push [] key.1)))
      stays other false e old = inl (updates (key_of needs other) ∙ ap (λ t. cond t false (is_in queue.ready (key_of needs other))) e ∙ old)

-- ---- a package is taken

lower : (own few many : ℕ) → few ≤ many → nat_lt own many ≡ false → nat_lt own few ≡ false
lower own few many h e = grind (arith, nat_tests)

own_one : (t : Bool) (many : ℕ) → 2 ≤ many → nat_lt (cond t 1 0) many ≡ true
own_one true many h = grind (arith, nat_tests)
own_one false many h = grind (arith, nat_tests)

-- the queue afterwards
abbrev pub taken : Queue → BTreeSet Key → Vec ℕ Global → Vec (Vec ℕ Global) Global → Vec ℕ Global → Queue
taken queue rest bearers parked unseen = record queue { rest = rest; bearers = bearers; parked = parked; unseen = unseen }

module _ (needs : Needs) (queue : Queue) (place : ℕ) (rest : BTreeSet Key) (bearers : Vec ℕ Global) where
  -- what is taken
  pub record Takes : Type 0 where
    pub waits : Waits needs queue (place ∷ [])
    pub within : is_in queue.rest (key_of needs place) ≡ true
    pub apart : is_in queue.ready (key_of needs place) ≡ false
    pub updates : (key : Key) → is_in rest key ≡ cond (is_eq (key_cmp (key_of needs place) key)) false (is_in queue.rest key)
    pub sorted : IsOrdered key_cmp rest
    pub removed : rest.keys ≡ remove_key (is_at (key_cmp (key_of needs place))) queue.rest.keys
    pub lowered : bearers.items ≡ set queue.bearers.items (number_at needs place) (get_or queue.bearers.items (number_at needs place) 0 - 1)

  module _ (takes : Takes) where
    below : place < count_of needs
    below = (takes.waits.keeps.members (key_of needs place) takes.within).0

    long : number_at needs place < length queue.bearers.items
    long = omega (arith, takes.waits.fits.numbers place below, takes.waits.keeps.long.bearers)

    -- how many bear the name is one less
    pub now_here : get_or bearers.items (number_at needs place) 0 ≡ get_or queue.bearers.items (number_at needs place) 0 - 1
    now_here = ap (λ list. get_or list (number_at needs place) 0) takes.lowered ∙ get_or-set_same queue.bearers.items (number_at needs place) (get_or queue.bearers.items (number_at needs place) 0 - 1) 0 long

    now_there : (name : ℕ) → name ≢ number_at needs place → get_or bearers.items name 0 ≡ get_or queue.bearers.items name 0
    now_there name apart = ap (λ list. get_or list name 0) takes.lowered ∙ get_or-set_other queue.bearers.items (number_at needs place) name (get_or queue.bearers.items (number_at needs place) 0 - 1) 0 apart

    no_more : (name : ℕ) → (name ≡ number_at needs place) ⊎ (name ≢ number_at needs place) → get_or bearers.items name 0 ≤ get_or queue.bearers.items name 0
    no_more name (inl e) = subst (λ n. get_or bearers.items n 0 ≤ get_or queue.bearers.items n 0) (sym e) (omega (arith, now_here))
    no_more name (inr apart) = omega (arith, now_there name apart)

    -- what remains did so before, and is another one
    remained : (key : Key) → is_in rest key ≡ true → (is_in queue.rest key ≡ true) × (is_eq (key_cmp (key_of needs place) key) ≡ false)
    remained key h = by (is_eq (key_cmp (key_of needs place) key)) refl (sym (takes.updates key) ∙ h)
      where
        by : (t : Bool) → is_eq (key_cmp (key_of needs place) key) ≡ t → cond t false (is_in queue.rest key) ≡ true → (is_in queue.rest key ≡ true) × (is_eq (key_cmp (key_of needs place) key) ≡ false)
        by true e g = absurd (false≢true g)
        by false e g = (g, e)

    remains : (key : Key) → is_in queue.rest key ≡ true → is_in queue.ready key ≡ true → is_in rest key ≡ true
    remains key h ready = by (is_eq (key_cmp (key_of needs place) key)) refl
      where
        by : (t : Bool) → is_eq (key_cmp (key_of needs place) key) ≡ t → is_in rest key ≡ true
        by true e =
            let same = key_exact (key_of needs place) key e in
            absurd (false≢true (sym takes.apart ∙ same_key_in queue.ready key (key_of needs place) (sym same.0) (sym same.1) ready))
        by false e = takes.updates key ∙ ap (λ t. cond t false (is_in queue.rest key)) e ∙ h

    counts : (name : ℕ) → name < count_of needs → (name ≡ number_at needs place) ⊎ (name ≢ number_at needs place) → get_or bearers.items name 0 ≡ count name rest.keys
    counts name within (inl e) =
        let number = number_at needs place in
        let was : get_or queue.bearers.items number 0 ≡ count number queue.rest.keys = takes.waits.keeps.counted number (takes.waits.fits.numbers place below) in
        let split : count number queue.rest.keys ≡ 1 + count number rest.keys =
        count_removed queue.rest.keys (key_of needs place) number takes.within ∙ ap (λ t. cond t 1 0 + count number (remove_key (is_at (key_cmp (key_of needs place))) queue.rest.keys)) (eq_true number number refl) ∙ ap (λ keys. 1 + count number keys) (sym takes.removed) in
        let at : get_or bearers.items number 0 ≡ count number rest.keys = omega (arith, now_here, was, split) in
        subst (λ n. get_or bearers.items n 0 ≡ count n rest.keys) (sym e) at
    counts name within (inr apart) =
        let number = number_at needs place in
        let split : count name queue.rest.keys ≡ count name rest.keys = omega (
          arith,
          count_removed queue.rest.keys (key_of needs place) name takes.within ∙ ap (λ t. cond t 1 0 + count name (remove_key (is_at (key_cmp (key_of needs place))) queue.rest.keys)) (unlike number name (λ e. apart (sym e))),
          ap (count name) takes.removed,
        ) in
        now_there name apart ∙ takes.waits.keeps.counted name within ∙ split

    module _ (parked : Vec (Vec ℕ Global) Global) (unseen : Vec ℕ Global) where
      pub taken_keeps : length parked.items ≡ count_of needs → ((name other : ℕ) → Contains (list_at parked.items name) other → other < count_of needs) → Keeps needs (taken queue rest bearers parked unseen)
      taken_keeps lists there = record {
        long = record { bearers = ap length takes.lowered ∙ rw length-set takes.waits.keeps.long.bearers; passed = takes.waits.keeps.long.passed; parked = lists };
        sorted = takes.sorted;
        members = λ key h. takes.waits.keeps.members key (remained key h).0;
        counted = λ name within. counts name within (same_or_not name (number_at needs place));
        passed = λ other at within less. passes other at (takes.waits.keeps.passed other at within less);
        ready = λ key h. let old = takes.waits.keeps.ready key h in (remains key old.0 h, old.1);
        parked = there;
      }
        where
          passes : (other at : ℕ) → (at < length (required_at needs other)) × (awaits needs queue other at ≡ false) → (at < length (required_at needs other)) × (awaits needs (taken queue rest bearers parked unseen) other at ≡ false)
          passes other at old =
              let name = get_or (required_at needs other) at 0 in
              (old.0, lower (cond (number_at needs other == name) 1 0) (get_or bearers.items name 0) (get_or queue.bearers.items name 0) (no_more name (same_or_not name (number_at needs place))) old.1)

      -- those that remain are ready, or parked at another name, or were parked at this one
      pub record StillWaits (other : ℕ) : Type 0 where
        pub status : (is_in queue.ready (key_of needs other) ≡ true) ⊎ IsParked needs queue other

      pub still_waits : (other : ℕ) → other < count_of needs → is_in rest (key_of needs other) ≡ true → StillWaits other
      still_waits other within h = elim (takes.waits.waits other within (remained (key_of needs other) h).0) [
        | inl ready ↦ record { status = inl ready }
        | inr (inl old) ↦ record { status = inr old }
        | inr (inr found) ↦ elim (Contains-push_cases [] place other found) [
          | inl old ↦ absurd (no_items other old)
          | inr e ↦ absurd (false≢true (sym (remained (key_of needs other) h).1 ∙ ap (λ p. is_eq (key_cmp (key_of needs place) (key_of needs p))) (sym e) ∙ itself (key_of needs place)))
        ]
      ]

-- more than one bears the name: nothing else changes
pub taken_few : (needs : Needs) (queue : Queue) (place : ℕ) (rest : BTreeSet Key) (bearers : Vec ℕ Global) (takes : Takes needs queue place rest bearers)
    → 2 ≤ get_or bearers.items (number_at needs place) 0
    → Waits needs (taken queue rest bearers queue.parked queue.unseen) []
taken_few needs queue place rest bearers takes many = record {
  fits = takes.waits.fits;
  keeps = taken_keeps needs queue place rest bearers takes queue.parked queue.unseen takes.waits.keeps.long.parked takes.waits.keeps.parked;
  looks = λ other found. absurd (no_items other found);
  waits = λ other within h. elim (still_waits needs queue place rest bearers takes queue.parked queue.unseen other within h).status [
    | inl ready ↦ inl ready
    | inr old ↦ inr (inl (record { within = old.within; awaits = still other old (same_or_not (get_or (required_at needs other) (passed_at queue other) 0) (number_at needs place)); there = old.there }))
  ];
}
  where
    still : (other : ℕ) → IsParked needs queue other → (get_or (required_at needs other) (passed_at queue other) 0 ≡ number_at needs place) ⊎ (get_or (required_at needs other) (passed_at queue other) 0 ≢ number_at needs place)
        → is_awaited bearers.items (number_at needs other) (get_or (required_at needs other) (passed_at queue other) 0) ≡ true
    still other old (inl e) = subst (λ n. is_awaited bearers.items (number_at needs other) n ≡ true) (sym e) (own_one (number_at needs other == number_at needs place) (get_or bearers.items (number_at needs place) 0) many)
    still other old (inr apart) =
        let name = get_or (required_at needs other) (passed_at queue other) 0 in
        subst (λ n. nat_lt (cond (number_at needs other == name) 1 0) n ≡ true) (sym (now_there needs queue place rest bearers takes name apart)) old.awaits

-- at most one bears the name: those that were parked at it are to be looked at
pub taken_last : (needs : Needs) (queue : Queue) (place : ℕ) (rest : BTreeSet Key) (bearers : Vec ℕ Global) (takes : Takes needs queue place rest bearers)
    → (parked : Vec (Vec ℕ Global) Global) (unseen new : Vec ℕ Global)
    → parked.items ≡ set queue.parked.items (number_at needs place) new → new.items ≡ [] → unseen.items ≡ list_at queue.parked.items (number_at needs place)
    → Waits needs (taken queue rest bearers parked unseen) unseen.items
taken_last needs queue place rest bearers takes parked unseen new is none was = record {
  fits = takes.waits.fits;
  keeps = taken_keeps needs queue place rest bearers takes parked unseen (ap length is ∙ rw length-set takes.waits.keeps.long.parked) (λ name other found. there name other found (same_or_not name number));
  looks = λ other found. takes.waits.keeps.parked number other (subst (λ list. Contains list other) was found);
  waits = λ other within h. elim (still_waits needs queue place rest bearers takes parked unseen other within h).status [
    | inl ready ↦ inl ready
    | inr old ↦ inr (still other old (same_or_not (get_or (required_at needs other) (passed_at queue other) 0) number))
  ];
}
  where
    number : ℕ
    number = number_at needs place

    long_enough : number < length queue.parked.items
    long_enough = omega (arith, takes.waits.fits.numbers place (below needs queue place rest bearers takes), takes.waits.keeps.long.parked)

    elsewhere : (name : ℕ) → name ≢ number → list_at parked.items name ≡ list_at queue.parked.items name
    elsewhere name apart = ap (λ lists. list_at lists name) is ∙ at_other queue.parked.items number name new apart

    there : (name other : ℕ) → Contains (list_at parked.items name) other → (name ≡ number) ⊎ (name ≢ number) → other < count_of needs
    there name other found (inl e) =
        let empty : list_at parked.items name ≡ [] = ap (list_at parked.items) e ∙ ap (λ lists. list_at lists number) is ∙ at_set queue.parked.items number new long_enough ∙ none in
        absurd (no_items other (subst (λ list. Contains list other) empty found))
    there name other found (inr apart) = takes.waits.keeps.parked name other (subst (λ list. Contains list other) (elsewhere name apart) found)

    still : (other : ℕ) → IsParked needs queue other → (get_or (required_at needs other) (passed_at queue other) 0 ≡ number) ⊎ (get_or (required_at needs other) (passed_at queue other) 0 ≢ number)
        → IsParked needs (taken queue rest bearers parked unseen) other ⊎ Contains unseen.items other
    still other old (inl e) = inr (subst (λ list. Contains list other) (sym was) (subst (λ n. Contains (list_at queue.parked.items n) other) e old.there))
    still other old (inr apart) =
        let name = get_or (required_at needs other) (passed_at queue other) 0 in
        inl (record {
          within = old.within;
          awaits = subst (λ n. nat_lt (cond (number_at needs other == name) 1 0) n ≡ true) (sym (now_there needs queue place rest bearers takes name apart)) old.awaits;
          there = subst (λ list. Contains list other) (sym (elsewhere name apart)) old.there;
        })

-- ---- what is still to be looked at is told apart

pub other_unseen : (needs : Needs) (queue : Queue) (list : List ℕ) (unseen : Vec ℕ Global) → Waits needs queue list → Waits needs (record queue { unseen = unseen }) list
other_unseen needs queue list unseen waits = record {
  fits = waits.fits;
  keeps = record {
    long = record { bearers = waits.keeps.long.bearers; passed = waits.keeps.long.passed; parked = waits.keeps.long.parked };
    sorted = waits.keeps.sorted;
    members = waits.keeps.members;
    counted = waits.keeps.counted;
    passed = waits.keeps.passed;
    ready = waits.keeps.ready;
    parked = waits.keeps.parked;
  };
  looks = waits.looks;
  waits = λ place within h. elim (waits.waits place within h) [
    | inl ready ↦ inl ready
    | inr (inl old) ↦ inr (inl (record { within = old.within; awaits = old.awaits; there = old.there }))
    | inr (inr found) ↦ inr (inr found)
  ];
}

pub same_unseen : (needs : Needs) (queue : Queue) (list other : List ℕ) → list ≡ other → Waits needs queue list → Waits needs queue other
same_unseen needs queue list other e waits = subst (Waits needs queue) e waits

-- ---- the calls' facts

pub same_ready : (needs : Needs) (queue : Queue) (list : List ℕ) (ready : BTreeSet Key) → ready.keys ≡ queue.ready.keys → Waits needs queue list → Waits needs (record queue { ready = ready }) list
same_ready needs queue list ready e waits = record {
  fits = waits.fits;
  keeps = record {
    long = record { bearers = waits.keeps.long.bearers; passed = waits.keeps.long.passed; parked = waits.keeps.long.parked };
    sorted = waits.keeps.sorted;
    members = waits.keeps.members;
    counted = waits.keeps.counted;
    passed = waits.keeps.passed;
    ready = λ key h. waits.keeps.ready key (sym (ap (λ keys. has keys key) e) ∙ h);
    parked = waits.keeps.parked;
  };
  looks = waits.looks;
  waits = λ place within h. elim (waits.waits place within h) [
    | inl now ↦ inl (ap (λ keys. has keys (key_of needs place)) e ∙ now)
    | inr (inl old) ↦ inr (inl (record { within = old.within; awaits = old.awaits; there = old.there }))
    | inr (inr found) ↦ inr (inr found)
  ];
}

pub no_keys : (keys : List Key) → (0 < length keys → false ≡ true) → keys ≡ []
no_keys [] some = refl
no_keys (key ∷ keys) some = absurd (false≢true (some (omega arith)))

pub first_is_next : (queue : Queue) (found : Option (Bor Key)) (result : Option Key) → result ≡ option_copied found → IfSome found (λ key. is_in queue.rest key.now ≡ true)
    → IfSome found (λ key. (other : Key) → is_in queue.rest other ≡ true → is_gt (key_cmp key.now other) ≡ false) → queue.ready.keys ≡ [] → IfSome result (IsNext queue)
first_is_next queue None result e within least none = subst (λ r. IfSome r (IsNext queue)) (sym e) tt
first_is_next queue (Some key) result e within least none = subst (λ r. IfSome r (IsNext queue)) (sym e) (inr (none, record { within = within; least = least }))

pub first_waits : (needs : Needs) (queue : Queue) (ready : BTreeSet Key) (found : Option (Bor Key)) (result : Option Key) → Waits needs queue [] → ready.keys ≡ queue.ready.keys → result ≡ option_copied found → IfSome found (λ key. is_in queue.rest key.now ≡ true)
    → IfSome result (λ key. Waits needs (record queue { ready = ready }) (key.1 ∷ []))
first_waits needs queue ready None result waits same e within = subst (λ r. IfSome r (λ key. Waits needs (record queue { ready = ready }) (key.1 ∷ []))) (sym e) tt
first_waits needs queue ready (Some key) result waits same e within =
    subst (λ r. IfSome r (λ k. Waits needs (record queue { ready = ready }) (k.1 ∷ []))) (sym e)
    (same_ready needs queue (key.now.1 ∷ []) ready same (more_unseen needs queue key.now.1 (waits.keeps.members key.now within).0 waits))

module _ (needs : Needs) (queue : Queue) (number place : ℕ) (list : List ℕ) (waits : Waits needs queue list) (within : is_in queue.rest (number, place) ≡ true) where
  pub number_is : number ≡ number_at needs place
  number_is = (waits.keeps.members (number, place) within).1

  pub place_below : place < count_of needs
  place_below = (waits.keeps.members (number, place) within).0

  pub number_long : number < length queue.bearers.items
  number_long = omega (arith, number_is, waits.fits.numbers place place_below, waits.keeps.long.bearers)

  pub list_long : number < length queue.parked.items
  list_long = omega (arith, number_is, waits.fits.numbers place place_below, waits.keeps.long.parked)

  pub borne_here : 1 ≤ get_or queue.bearers.items number 0
  borne_here =
      let counted : get_or queue.bearers.items number 0 ≡ count number queue.rest.keys = waits.keeps.counted number (omega (arith, number_is, waits.fits.numbers place place_below)) in
      omega (arith, counted, one_borne queue.rest.keys (number, place) number refl within)

  pub takes_it : list ≡ place ∷ [] → (rest : BTreeSet Key) (bearers : Vec ℕ Global)
      → is_in queue.ready (number, place) ≡ false
      → ((key : Key) → is_in rest key ≡ cond (is_eq (key_cmp (number, place) key)) false (is_in queue.rest key))
      → IsOrdered key_cmp rest → rest.keys ≡ remove_key (is_at (key_cmp (number, place))) queue.rest.keys
      → bearers.items ≡ set queue.bearers.items number (get_or queue.bearers.items number 0 - 1)
      → Takes needs queue place rest bearers
  takes_it alone rest bearers apart updates sorted removed lowered = record {
    waits = subst (Waits needs queue) alone waits;
    within = subst (λ n. is_in queue.rest (n, place) ≡ true) number_is within;
    apart = subst (λ n. is_in queue.ready (n, place) ≡ false) number_is apart;
    updates = subst (λ n. (key : Key) → is_in rest key ≡ cond (is_eq (key_cmp (n, place) key)) false (is_in queue.rest key)) number_is updates;
    sorted = sorted;
    removed = subst (λ n. rest.keys ≡ remove_key (is_at (key_cmp (n, place))) queue.rest.keys) number_is removed;
    lowered = subst (λ n. bearers.items ≡ set queue.bearers.items n (get_or queue.bearers.items n 0 - 1)) number_is lowered;
  }

  neither : (t : Bool) → cond t false false ≡ false
  neither true = refl
  neither false = refl

  left_step : (key : Key) (t u : Bool) → is_in queue.rest key ≡ t → (key.1 == place) ≡ u → cond (is_eq (key_cmp (number, place) key)) false t ≡ (t && not u)
  left_step key false u e f = neither (is_eq (key_cmp (number, place) key))
  left_step key true true e f =
      let at : key.1 ≡ place = eq_of key.1 place f in
      let named : key.0 ≡ number = (waits.keeps.members key e).1 ∙ ap (number_at needs) at ∙ sym number_is in
      let equal : is_eq (key_cmp (number, place) key) ≡ true = subst (λ k. is_eq (key_cmp (number, place) (key.0, k)) ≡ true) (sym at) (subst (λ n. is_eq (key_cmp (number, place) (n, place)) ≡ true) (sym named) (itself (number, place))) in
      ap (λ t. cond t false true) equal
  left_step key true false e f = other_key (is_eq (key_cmp (number, place) key)) refl
    where
      other_key : (t : Bool) → is_eq (key_cmp (number, place) key) ≡ t → cond t false true ≡ true
      other_key true g = absurd (false≢true (sym f ∙ eq_true key.1 place (sym (key_exact (number, place) key g).1)))
      other_key false g = refl

  pub removed_is : (rest : BTreeSet Key) → ((key : Key) → is_in rest key ≡ cond (is_eq (key_cmp (number, place) key)) false (is_in queue.rest key))
      → (key : Key) → is_in rest key ≡ (is_in queue.rest key && not (key.1 == place))
  removed_is rest updates key = updates key ∙ left_step key (is_in queue.rest key) (key.1 == place) refl refl

-- no more is passed than there is
pub passed_within : (needs : Needs) (queue : Queue) (place : ℕ) → Keeps needs queue → place < count_of needs → passed_at queue place ≤ length (required_at needs place)
passed_within needs queue place keeps within = elim (below_or_not (length (required_at needs place)) (passed_at queue place)) [
  | inl more ↦ absurd (omega (arith, (keeps.passed place (length (required_at needs place)) within more).0))
  | inr few ↦ few
]

-- the next one remains
pub next_within : (needs : Needs) (queue : Queue) (list : List ℕ) (key : Key) → Waits needs queue list → IsNext queue key → is_in queue.rest key ≡ true
next_within needs queue list key waits (inl first) = (waits.keeps.ready key first.within).0
next_within needs queue list key waits (inr both) = both.1.within
