-- All tokens at once: what they are read as from a place on, and what a fault says of them.
use Rattle.std.proofs.Common.{◌≡◌, ℕ, List, [], ◌∷◌, ◌++◌, Ok, Err, refl, sym, ap}
use Rattle.path_name.specs.Given.{◌>>=◌}
use Rattle.table_scan.specs.TableTokens.{Token, Placed, left_of}
use Rattle.table_scan.specs.TableFaults.{token_list}
use Rattle.table_scan.specs.TableReading.{Outcome, Next, Done, Wrong, goes_on, front_from, read_from, ended}

abbrev pub all_of : {W V : Type 0} → Outcome W V → List Token → (W → Outcome W V) → Outcome W V
all_of (Next place) ks read = read place
all_of (Done value) [] read = Done value
all_of (Done value) (k ∷ ks) read = Wrong
all_of Wrong ks read = Wrong

abbrev pub walk : {W V : Type 0} → (W → Token → Outcome W V) → W → List Token → Outcome W V
walk next place [] = Next place
walk next place (k ∷ ks) = all_of (next place k) ks (λ p. walk next p ks)

-- each place leads to a whole value
abbrev pub Completes : {W V : Type 0} → (W → Token → Outcome W V) → W → Type 0
Completes {W} {V} next place = (more : List Token) × (value : V) × (walk next place more ≡ Done value)

module _ {W V : Type 0} (next : W → Token → Outcome W V) where
  done_walk : (v value : V) (ts : List Placed) (read : W → Outcome W V) → ended (v, ts) ≡ Ok value → all_of (Done v) (token_list ts) read ≡ Done value
  done_walk v value [] read e = let same : v ≡ value = cc in ap Done same
  done_walk v value (t ∷ ts) read e = absurd cc

  pub read_is_walk : (place : W) (ts : List Placed) (value : V) → read_from next place ts ≡ Ok value → walk next place (token_list ts) ≡ Done value
  read_is_walk place [] value e = absurd cc
  read_is_walk place (t ∷ ts) value e = by (next place t.token) (λ p f. read_is_walk p ts value f) e
    where
      by : (o : Outcome W V) → ((p : W) → read_from next p ts ≡ Ok value → walk next p (token_list ts) ≡ Done value) → (goes_on o t ts (λ p. front_from next p ts) >>= ended) ≡ Ok value → all_of o (token_list ts) (λ p. walk next p (token_list ts)) ≡ Done value
      by (Next p) on f = on p f
      by (Done v) on f = done_walk v value ts (λ p. walk next p (token_list ts)) f
      by Wrong on f = absurd cc

  walk_done : (v value : V) (ts : List Placed) (read : W → Outcome W V) → all_of (Done v) (token_list ts) read ≡ Done value → ended (v, ts) ≡ Ok value
  walk_done v value [] read e = let same : v ≡ value = cc in ap (λ x. Ok x) same
  walk_done v value (t ∷ ts) read e = absurd cc

  pub walk_is_read : (place : W) (ts : List Placed) (value : V) → walk next place (token_list ts) ≡ Done value → read_from next place ts ≡ Ok value
  walk_is_read place [] value e = absurd cc
  walk_is_read place (t ∷ ts) value e = by (next place t.token) (λ p f. walk_is_read p ts value f) e
    where
      by : (o : Outcome W V) → ((p : W) → walk next p (token_list ts) ≡ Done value → read_from next p ts ≡ Ok value) → all_of o (token_list ts) (λ p. walk next p (token_list ts)) ≡ Done value → (goes_on o t ts (λ p. front_from next p ts) >>= ended) ≡ Ok value
      by (Next p) on f = on p f
      by (Done v) on f = walk_done v value ts (λ p. walk next p (token_list ts)) f
      by Wrong on f = absurd cc

  -- no tokens go on so
  abbrev pub StopsWalk : W → List Token → List Placed → Type 0
  StopsWalk place before [] = (value : V) → walk next place before ≡ Done value → ⊥
  StopsWalk place before (t ∷ ts) = (more : List Token) (value : V) → walk next place (before ++ t.token ∷ more) ≡ Done value → ⊥

  pub record Stuck (place : W) (ts : List Placed) (left : ℕ) : Type 0 where
    pub before : List Placed
    pub others : List Placed
    pub more : List Token
    pub value : V
    pub parts : ts ≡ before ++ others
    pub at : left ≡ left_of others
    pub begins : walk next place (token_list before ++ more) ≡ Done value
    pub stops : StopsWalk place (token_list before) others

  stops_next : (place p : W) (k : Token) (before : List Token) (others : List Placed) → next place k ≡ Next p → StopsWalk p before others → StopsWalk place (k ∷ before) others
  stops_next place p k before [] e h = λ value w. h value (rw e at w)
  stops_next place p k before (t ∷ ts) e h = λ more value w. h more value (rw e at w)

  stuck_next : (place p : W) (t : Placed) (ts : List Placed) (left : ℕ) → next place t.token ≡ Next p → Stuck p ts left → Stuck place (t ∷ ts) left
  stuck_next place p t ts left e h = record {
    before = t ∷ h.before;
    others = h.others;
    more = h.more;
    value = h.value;
    parts = ap (λ us. t ∷ us) h.parts;
    at = h.at;
    begins = rw e h.begins;
    stops = stops_next place p t.token (token_list h.before) h.others e h.stops;
  }

  stuck_done : (place : W) (t : Placed) (v : V) (ts : List Placed) (left : ℕ) → next place t.token ≡ Done v → ended (v, ts) ≡ Err left → Stuck place (t ∷ ts) left
  stuck_done place t v [] left e f = absurd cc
  stuck_done place t v (u ∷ us) left e f = record {
    before = t ∷ [];
    others = u ∷ us;
    more = [];
    value = v;
    parts = refl;
    at = let same : u.left ≡ left = cc in sym same;
    begins = rw e refl;
    stops = λ more value w. let no : ◌≡◌ {A = Outcome W V} Wrong (Done value) = rw e at w in absurd cc;
  }

  stuck_wrong : (place : W) (t : Placed) (ts : List Placed) (left : ℕ) → Completes next place → next place t.token ≡ Wrong → t.left ≡ left → Stuck place (t ∷ ts) left
  stuck_wrong place t ts left c e f = record {
    before = [];
    others = t ∷ ts;
    more = c.0;
    value = c.1;
    parts = refl;
    at = sym f;
    begins = c.2;
    stops = λ more value w. let no : ◌≡◌ {A = Outcome W V} Wrong (Done value) = rw e at w in absurd cc;
  }

  pub stuck : ((place : W) → Completes next place) → (place : W) (ts : List Placed) (left : ℕ) → read_from next place ts ≡ Err left → Stuck place ts left
  stuck completes place [] left e = let c = completes place in record {
    before = [];
    others = [];
    more = c.0;
    value = c.1;
    parts = refl;
    at = let same : 0 ≡ left = cc in sym same;
    begins = c.2;
    stops = λ value w. absurd cc;
  }
  stuck completes place (t ∷ ts) left e = by (next place t.token) refl (λ p f. stuck completes p ts left f) e
    where
      by : (o : Outcome W V) → next place t.token ≡ o → ((p : W) → read_from next p ts ≡ Err left → Stuck p ts left) → (goes_on o t ts (λ p. front_from next p ts) >>= ended) ≡ Err left → Stuck place (t ∷ ts) left
      by (Next p) is on f = stuck_next place p t ts left is (on p f)
      by (Done v) is on f = stuck_done place t v ts left is f
      by Wrong is on f = stuck_wrong place t ts left (completes place) is (let same : t.left ≡ left = cc in same)

-- ---- a value in the middle of other tokens

-- a front that is one value leaves the rest to what comes behind it
pub walk_inside : {W V X Y : Type 0} (next : W → Token → Outcome W V) (outer : X → Token → Outcome X Y) (inside : W → X) (behind : V → X) (of_outcome : Outcome W V → Outcome X Y)
    → ((p : W) → of_outcome (Next p) ≡ Next (inside p)) → ((v : V) → of_outcome (Done v) ≡ Next (behind v)) → ((p : W) (k : Token) → outer (inside p) k ≡ of_outcome (next p k))
    → (place : W) (ks rest : List Token) (value : V) → walk next place ks ≡ Done value → walk outer (inside place) (ks ++ rest) ≡ walk outer (behind value) rest
walk_inside next outer inside behind of_outcome on_next on_done step place [] rest value e = absurd cc
walk_inside {W} {V} {X} {Y} next outer inside behind of_outcome on_next on_done step place (k ∷ ks) rest value e =
    rw (step place k) (by (next place k) (λ p f. walk_inside next outer inside behind of_outcome on_next on_done step p ks rest value f) e)
  where
    done : (v : V) (us : List Token) → all_of (Done v) us (λ p. walk next p us) ≡ Done value → all_of (of_outcome (Done v)) (us ++ rest) (λ p. walk outer p (us ++ rest)) ≡ walk outer (behind value) rest
    done v [] f = let same : v ≡ value = cc in rw (on_done v, same) refl
    done v (u ∷ us) f = absurd cc

    by : (o : Outcome W V) → ((p : W) → walk next p ks ≡ Done value → walk outer (inside p) (ks ++ rest) ≡ walk outer (behind value) rest) → all_of o ks (λ p. walk next p ks) ≡ Done value
        → all_of (of_outcome o) (ks ++ rest) (λ p. walk outer p (ks ++ rest)) ≡ walk outer (behind value) rest
    by (Next p) on f = rw (on_next p) (on p f)
    by (Done v) on f = done v ks f
    by Wrong on f = absurd cc
