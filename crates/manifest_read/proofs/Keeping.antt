-- Names in small letters that repeat: the last pair of a name, in the place of the first.
use Rattle.std.proofs.Common.{◌≡◌, ℕ, ◌+◌, ◌<◌, ◌≤◌, Bool, true, false, cond, ◌||◌, List, [], ◌∷◌, ◌++◌, length, map, take, drop, get_or, Option, Some, None, refl, sym, ap, ◌∙◌, append_assoc}
use Rattle.std.proofs.lemmas.List.{append-nil, drop_all, map_more, take-append-drop, map-append}
use Rattle.std.specs.Option.{option_map}
use Rattle.std.specs.List.{list_any}
use Rattle.std.specs.Option.{option_to_list}
use Rattle.std.specs.BTreeMap.{is_at}
use Rattle.std.specs.Cmp.Lexicographic.{bytes_decides}
use Rattle.std.proofs.lemmas.List.Folds.{list_any-append}
use Rattle.path_name.specs.Bytes.{lowered}
use Rattle.path_name.specs.Orders.{byte_cmp, bytes_are_equal, byte_equality, byte_ties}
use Rattle.json_ordered.specs.JsonTree.{JsonTree}
use Rattle.manifest_read.specs.Keys.{Pairs}
use Rattle.manifest_read.specs.Links.{is_same_name, last_of, last_named, kept_behind, kept}
use Rattle.manifest_read.proofs.Gathering.{left_at}

abbrev Pair : Type 0
Pair = List ℕ × JsonTree

-- a key is found where it is equal
at_key : (k q : List ℕ) → is_at (byte_cmp k) q ≡ bytes_are_equal q k
at_key k q = sym (byte_ties k q) ∙ byte_equality.symm k q

-- ---- the last pair of each name

pub last_step : (q k : List ℕ) (p : Pair) (found now : Option Pair) (ps : Pairs) → k ≡ lowered p.0 → now ≡ cond (is_at (byte_cmp k) q) (Some p) found → last_named now q ps ≡ last_named found q (p ∷ ps)
last_step q k p found now ps e h =
    ap (λ o. last_named o q ps) (h ∙ ap (λ b. cond b (Some p) found) (at_key k q ∙ ap (bytes_are_equal q) e))

last_behind : (b : Bool) (found : Option Pair) (k : List ℕ) (p : Pair) (seen more : Pairs) → bytes_are_equal k (lowered p.0) ≡ b → b || list_any (λ x. bytes_are_equal k (lowered x.0)) seen ≡ false
    → (list_any (λ x. bytes_are_equal k (lowered x.0)) seen ≡ false → last_named found k (seen ++ more) ≡ last_named found k more)
    → last_named (cond b (Some p) found) k (seen ++ more) ≡ last_named found k more
last_behind true found k p seen more e none further = absurd cc
last_behind false found k p seen more e none further = further none

-- pairs of other names don't count
last_after : (found : Option Pair) (k : List ℕ) (seen more : Pairs) → list_any (λ x. bytes_are_equal k (lowered x.0)) seen ≡ false → last_named found k (seen ++ more) ≡ last_named found k more
last_after found k [] more none = refl
last_after found k (p ∷ seen) more none = last_behind (bytes_are_equal k (lowered p.0)) found k p seen more refl none (last_after found k seen more)

last_of_two : (b : Bool) (k : List ℕ) (p n : Pair) (ns : Pairs) → bytes_are_equal k (lowered n.0) ≡ b → k ≡ lowered p.0 → (k ≡ lowered n.0 → last_named (Some n) k ns ≡ Some (last_of n ns))
    → last_named (Some p) k ns ≡ Some (last_of p ns) → last_named (cond b (Some n) (Some p)) k ns ≡ Some (last_of (cond (is_same_name p n) n p) ns)
last_of_two true k p n ns is e next this =
    next ((bytes_decides k (lowered n.0)).0 is) ∙ ap (λ b. Some (last_of (cond b n p) ns)) (sym (ap (λ name. bytes_are_equal name (lowered n.0)) (sym e) ∙ is))
last_of_two false k p n ns is e next this = this ∙ ap (λ b. Some (last_of (cond b n p) ns)) (sym (ap (λ name. bytes_are_equal name (lowered n.0)) (sym e) ∙ is))

last_among : (k : List ℕ) (p : Pair) (ps : Pairs) → k ≡ lowered p.0 → last_named (Some p) k ps ≡ Some (last_of p ps)
last_among k p [] e = refl
last_among k p (n ∷ ns) e = last_of_two (bytes_are_equal k (lowered n.0)) k p n ns refl e (λ same. last_among k n ns same) (last_among k p ns e)

last_here : (p : Pair) (seen ps : Pairs) → list_any (is_same_name p) seen ≡ false → last_named None (lowered p.0) (seen ++ p ∷ ps) ≡ Some (last_of p ps)
last_here p seen ps none = last_after None (lowered p.0) seen (p ∷ ps) none
    ∙ ap (λ b. last_named (cond b (Some p) None) (lowered p.0) ps) ((bytes_decides (lowered p.0) (lowered p.0)).1 refl) ∙ last_among (lowered p.0) p ps refl

-- ---- what is kept

pub kept_step : (seen : Pairs) (p : Pair) (ps : Pairs) (found : Option Pair) → found ≡ cond (list_any (is_same_name p) seen) None (last_named None (lowered p.0) (seen ++ p ∷ ps))
    → kept_behind seen (p ∷ ps) ≡ option_to_list found ++ kept_behind (seen ++ p ∷ []) ps
unfolding kept_behind
kept_step seen p ps found is = by (list_any (is_same_name p) seen) refl
  where
    by : (b : Bool) → list_any (is_same_name p) seen ≡ b
        → cond (list_any (is_same_name p) seen) (kept_behind (seen ++ p ∷ []) ps) (last_of p ps ∷ kept_behind (seen ++ p ∷ []) ps) ≡ option_to_list found ++ kept_behind (seen ++ p ∷ []) ps
    by true e = ap (λ b. cond b (kept_behind (seen ++ p ∷ []) ps) (last_of p ps ∷ kept_behind (seen ++ p ∷ []) ps)) e
        ∙ ap (λ o. option_to_list o ++ kept_behind (seen ++ p ∷ []) ps) (sym (is ∙ ap (λ b. cond b None (last_named None (lowered p.0) (seen ++ p ∷ ps))) e))
    by false e = ap (λ b. cond b (kept_behind (seen ++ p ∷ []) ps) (last_of p ps ∷ kept_behind (seen ++ p ∷ []) ps)) e
        ∙ ap (λ o. option_to_list o ++ kept_behind (seen ++ p ∷ []) ps) (sym (is ∙ ap (λ b. cond b None (last_named None (lowered p.0) (seen ++ p ∷ ps))) e ∙ last_here p seen ps e))

-- what is left of the last pairs, when that of one more name is taken
pub taken_step : (q k : List ℕ) (p : Pair) (seen : Pairs) (before now wanted : Option Pair) → k ≡ lowered p.0
    → before ≡ cond (list_any (λ x. bytes_are_equal q (lowered x.0)) seen) None wanted → now ≡ cond (is_at (byte_cmp k) q) None before
    → now ≡ cond (list_any (λ x. bytes_are_equal q (lowered x.0)) (seen ++ p ∷ [])) None wanted
taken_step q k p seen before now wanted e was is =
    is ∙ ap (λ b. cond b None before) (at_key k q ∙ ap (bytes_are_equal q) e) ∙ ap (cond (bytes_are_equal q (lowered p.0)) None) was
    ∙ both (bytes_are_equal q (lowered p.0)) (list_any (λ x. bytes_are_equal q (lowered x.0)) seen)
    ∙ ap (λ b. cond b None wanted) (sym (list_any-append (λ (x : Pair). bytes_are_equal q (lowered x.0)) seen (p ∷ [])))
  where
    both : (b c : Bool) → cond b None (cond c None wanted) ≡ cond (c || (b || false)) None wanted
    both true true = refl
    both true false = refl
    both false true = refl
    both false false = refl

-- ---- the steps of the loops

map_cond : {V W : Type 0} (f : V → W) (b : Bool) (v : V) (o : Option V) → option_map f (cond b (Some v) o) ≡ cond b (Some (f v)) (option_map f o)
map_cond f true v o = refl
map_cond f false v o = refl

map_taken : {V W : Type 0} (f : V → W) (b : Bool) (o : Option V) → option_map f (cond b None o) ≡ cond b None (option_map f o)
map_taken f true o = refl
map_taken f false o = refl

module _ {V : Type 0} (view : V → Pair) where
  pub inserted : (q k : List ℕ) (v : V) (p : Pair) (before now : Option V) (ps : Pairs) → k ≡ lowered p.0 → view v ≡ p → now ≡ cond (is_at (byte_cmp k) q) (Some v) before
      → last_named (option_map view now) q ps ≡ last_named (option_map view before) q (p ∷ ps)
  inserted q k v p before now ps e same is =
      last_step q k p (option_map view before) (option_map view now) ps e
      (ap (option_map view) is ∙ map_cond view (is_at (byte_cmp k) q) v before ∙ ap (λ w. cond (is_at (byte_cmp k) q) (Some w) (option_map view before)) same)

  module _ {X : Type 0} (pair : X → Pair) (xs : List X) (i : ℕ) (x : X) (within : i < length xs) (is : x ≡ get_or xs i x) where
    seen : map pair (take (i + 1) xs) ≡ map pair (take i xs) ++ pair x ∷ []
    seen = map_more pair xs i x within ∙ ap (λ y. map pair (take i xs) ++ pair y ∷ []) (sym is)

    whole : map pair xs ≡ map pair (take i xs) ++ pair x ∷ map pair (drop (i + 1) xs)
    whole = ap (map pair) (sym (take-append-drop i xs)) ∙ map-append pair (take i xs) (drop i xs) ∙ ap (λ ys. map pair (take i xs) ++ map pair ys) (left_at xs i x within is)

    pub kept_more : (k : List ℕ) (old now : List V) (found : Option V) → k ≡ lowered (pair x).0 → map view now ≡ map view old ++ option_to_list (option_map view found)
        → option_map view found ≡ cond (list_any (λ p. bytes_are_equal k (lowered p.0)) (map pair (take i xs))) None (last_named None k (map pair xs))
        → map view old ++ kept_behind (map pair (take i xs)) (map pair (drop i xs)) ≡ kept (map pair xs)
        → map view now ++ kept_behind (map pair (take (i + 1) xs)) (map pair (drop (i + 1) xs)) ≡ kept (map pair xs)
    kept_more k old now found e added is_found so_far =
        ap (λ front. map view now ++ kept_behind front (map pair (drop (i + 1) xs))) seen
        ∙ ap (λ all. all ++ kept_behind (map pair (take i xs) ++ pair x ∷ []) (map pair (drop (i + 1) xs))) added
        ∙ append_assoc (map view old) (option_to_list (option_map view found)) (kept_behind (map pair (take i xs) ++ pair x ∷ []) (map pair (drop (i + 1) xs)))
        ∙ ap (λ back. map view old ++ back) (sym (kept_step (map pair (take i xs)) (pair x) (map pair (drop (i + 1) xs)) (option_map view found) at_name))
        ∙ ap (λ ys. map view old ++ kept_behind (map pair (take i xs)) (map pair ys)) (sym (left_at xs i x within is)) ∙ so_far
      where
        at_name : option_map view found ≡ cond (list_any (is_same_name (pair x)) (map pair (take i xs))) None (last_named None (lowered (pair x).0) (map pair (take i xs) ++ pair x ∷ map pair (drop (i + 1) xs)))
        at_name = is_found ∙ ap (λ name. cond (list_any (λ p. bytes_are_equal name (lowered p.0)) (map pair (take i xs))) None (last_named None name (map pair xs))) e
            ∙ ap (λ all. cond (list_any (is_same_name (pair x)) (map pair (take i xs))) None (last_named None (lowered (pair x).0) all)) whole

    pub left_more : (q k : List ℕ) (before now : Option V) (wanted : Option Pair) → k ≡ lowered (pair x).0
        → option_map view before ≡ cond (list_any (λ p. bytes_are_equal q (lowered p.0)) (map pair (take i xs))) None wanted → now ≡ cond (is_at (byte_cmp k) q) None before
        → option_map view now ≡ cond (list_any (λ p. bytes_are_equal q (lowered p.0)) (map pair (take (i + 1) xs))) None wanted
    left_more q k before now wanted e was is_now =
        taken_step q k (pair x) (map pair (take i xs)) (option_map view before) (option_map view now) wanted e was (ap (option_map view) is_now ∙ map_taken view (is_at (byte_cmp k) q) before)
        ∙ ap (λ ps. cond (list_any (λ p. bytes_are_equal q (lowered p.0)) ps) None wanted) (sym seen)

  pub kept_end : {X : Type 0} (pair : X → Pair) (xs : List X) (i : ℕ) (old : List V) → length xs ≤ i
      → map view old ++ kept_behind (map pair (take i xs)) (map pair (drop i xs)) ≡ kept (map pair xs) → map view old ≡ kept (map pair xs)
  unfolding kept_behind
  kept_end pair xs i old all so_far =
      sym (append-nil (map view old)) ∙ sym (ap (λ ys. map view old ++ kept_behind (map pair (take i xs)) (map pair ys)) (drop_all i xs all)) ∙ so_far
