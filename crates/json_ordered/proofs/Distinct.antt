-- The names of an object that is read are distinct.
use Rattle.std.proofs.Common.{◌≡◌, ℕ, Bool, true, false, cond, List, [], ◌∷◌, refl, ◌∙◌}
use Rattle.path_name.specs.Orders.{bytes_are_equal, byte_equality}
use Rattle.json_ordered.specs.JsonTree.{JsonTree, items_of, members_of, put, put_all, IsNewName, HasDistinctNames, EachHasDistinctNames, AreDistinctNames}
use Rattle.json_ordered.specs.Json.{IsValue, null, true_word, false_word, number, string, empty_array, array, empty_object, object, IsMoreItems, last_item, next_item, IsMember, named, IsMoreMembers, last_member, next_member}

-- another name stays new
new_by : (b : Bool) (other : List ℕ) (m : List ℕ × JsonTree) (v : JsonTree) (ms more : List (List ℕ × JsonTree)) → IsNewName other (members_of (m ∷ ms)) → IsNewName other (members_of more) → IsNewName other (members_of (cond b ((m.0, v) ∷ ms) (m ∷ more)))
new_by true other m v ms more h k = h
new_by false other m v ms more h k = (h.0, k)

still_new : (other : List ℕ) (ms : List (List ℕ × JsonTree)) (name : List ℕ) (v : JsonTree) → bytes_are_equal other name ≡ false → IsNewName other (members_of ms) → IsNewName other (members_of (put ms name v))
still_new other [] name v e h = (e, tt)
still_new other (m ∷ ms) name v e h = new_by (bytes_are_equal name m.0) other m v ms (put ms name v) h (still_new other ms name v e h.1)

put_by : (b : Bool) (name : List ℕ) (m : List ℕ × JsonTree) (v : JsonTree) (ms : List (List ℕ × JsonTree)) → bytes_are_equal name m.0 ≡ b → HasDistinctNames v → AreDistinctNames (members_of (m ∷ ms)) → AreDistinctNames (members_of (put ms name v))
    → AreDistinctNames (members_of (cond b ((m.0, v) ∷ ms) (m ∷ put ms name v)))
put_by true name m v ms e hv h k = (h.0, hv, h.2)
put_by false name m v ms e hv h k = (still_new m.0 ms name v (byte_equality.symm m.0 name ∙ e) h.0, h.1, k)

put_distinct : (ms : List (List ℕ × JsonTree)) (name : List ℕ) (v : JsonTree) → HasDistinctNames v → AreDistinctNames (members_of ms) → AreDistinctNames (members_of (put ms name v))
put_distinct [] name v hv h = (tt, hv, tt)
put_distinct (m ∷ ms) name v hv h = put_by (bytes_are_equal name m.0) name m v ms refl hv h (put_distinct ms name v hv h.2)

-- each value of the members has distinct names
abbrev Each : List (List ℕ × JsonTree) → Type 0
Each [] = Unit {0}
Each (m ∷ ms) = HasDistinctNames m.1 × Each ms

all_distinct : (done ms : List (List ℕ × JsonTree)) → AreDistinctNames (members_of done) → Each ms → AreDistinctNames (members_of (put_all done ms))
all_distinct done [] h e = h
all_distinct done (m ∷ ms) h e = all_distinct (put done m.0 m.1) ms (put_distinct done m.0 m.1 e.0 h) e.1

mutual
  pub distinct_names : {levels : ℕ} {a : List ℕ} {v : JsonTree} → IsValue levels a v → HasDistinctNames v
  distinct_names null = tt
  distinct_names true_word = tt
  distinct_names false_word = tt
  distinct_names (number {levels} {text} n) = tt
  distinct_names (string text c) = tt
  distinct_names (empty_array blanks h) = tt
  distinct_names (array blanks text more h i m) = (distinct_names i, distinct_items m)
  distinct_names (empty_object blanks h) = tt
  distinct_names (object blanks text more {m} {ms} h i mm) = all_distinct [] (m ∷ ms) tt (distinct_member i, distinct_members mm)

  distinct_items : {levels : ℕ} {a : List ℕ} {vs : List JsonTree} → IsMoreItems levels a vs → EachHasDistinctNames (items_of vs)
  distinct_items (last_item blanks h) = tt
  distinct_items (next_item before after text more h i v m) = (distinct_names v, distinct_items m)

  distinct_member : {levels : ℕ} {a : List ℕ} {m : List ℕ × JsonTree} → IsMember levels a m → HasDistinctNames m.1
  distinct_member (named text before after value c h i v) = distinct_names v

  distinct_members : {levels : ℕ} {a : List ℕ} {ms : List (List ℕ × JsonTree)} → IsMoreMembers levels a ms → Each ms
  distinct_members (last_member blanks h) = tt
  distinct_members (next_member before after text more h i m mm) = (distinct_member m, distinct_members mm)
