-- The values that texts have: numbers are spelled as such, and there are no more levels than may be open.
use Rattle.std.proofs.Common.{ℕ, ◌≤◌, Bool, true, false, cond, List, [], ◌∷◌, arith}
use Rattle.path_name.specs.Orders.{bytes_are_equal}
use Rattle.json_ordered.specs.JsonTree.{JsonTree, items_of, members_of, put, put_all}
use Rattle.json_ordered.specs.Json.{IsValue, null, true_word, false_word, number, string, empty_array, array, empty_object, object, IsMoreItems, last_item, next_item, IsMember, named, IsMoreMembers, last_member, next_member, IsJsonOf}
use Rattle.json_ordered.specs.JsonDocuments.{depth_of, items_depth, members_depth, HasNumbers, EachHasNumbers, MembersHaveNumbers, IsDocument}
use Rattle.json_ordered.proofs.Distinct.{distinct_names}
use Rattle.json_ordered.proofs.Texts.{json_utf8_texts}

record IsSound (levels : ℕ) (v : JsonTree) : Type 0 where
  numbers : HasNumbers v
  depth : depth_of v ≤ levels

abbrev Each : ℕ → List (List ℕ × JsonTree) → Type 0
Each levels [] = Unit {0}
Each levels (m ∷ ms) = IsSound levels m.1 × Each levels ms

put_by : (levels : ℕ) (b : Bool) (m : List ℕ × JsonTree) (v : JsonTree) (ms more : List (List ℕ × JsonTree)) → IsSound levels v → Each levels (m ∷ ms) → Each levels more → Each levels (cond b ((m.0, v) ∷ ms) (m ∷ more))
put_by levels true m v ms more h e k = (h, e.1)
put_by levels false m v ms more h e k = (e.0, k)

put_sound : (levels : ℕ) (ms : List (List ℕ × JsonTree)) (name : List ℕ) (v : JsonTree) → IsSound levels v → Each levels ms → Each levels (put ms name v)
put_sound levels [] name v h e = (h, tt)
put_sound levels (m ∷ ms) name v h e = put_by levels (bytes_are_equal name m.0) m v ms (put ms name v) h e (put_sound levels ms name v h e.1)

all_sound : (levels : ℕ) (done ms : List (List ℕ × JsonTree)) → Each levels done → Each levels ms → Each levels (put_all done ms)
all_sound levels done [] h e = h
all_sound levels done (m ∷ ms) h e = all_sound levels (put done m.0 m.1) ms (put_sound levels done m.0 m.1 e.0 h) e.1

members_numbers : (levels : ℕ) (ms : List (List ℕ × JsonTree)) → Each levels ms → MembersHaveNumbers (members_of ms)
members_numbers levels [] e = tt
members_numbers levels (m ∷ ms) e = (e.0.numbers, members_numbers levels ms e.1)

members_shallow : (levels : ℕ) (ms : List (List ℕ × JsonTree)) → Each levels ms → members_depth (members_of ms) ≤ levels
members_shallow levels [] e = omega arith
members_shallow levels (m ∷ ms) e = omega (arith, e.0.depth, members_shallow levels ms e.1)

record AreSound (levels : ℕ) (vs : List JsonTree) : Type 0 where
  numbers : EachHasNumbers (items_of vs)
  depth : items_depth (items_of vs) ≤ levels

mutual
  sound : {levels : ℕ} {a : List ℕ} {v : JsonTree} → IsValue levels a v → IsSound levels v
  sound null = record { numbers = tt; depth = omega arith }
  sound true_word = record { numbers = tt; depth = omega arith }
  sound false_word = record { numbers = tt; depth = omega arith }
  sound (number n) = record { numbers = n; depth = omega arith }
  sound (string text c) = record { numbers = tt; depth = omega arith }
  sound (empty_array blanks h) = record { numbers = tt; depth = omega arith }
  sound (array blanks text more h i m) = let one = sound i in let rest = sound_items m in record { numbers = (one.numbers, rest.numbers); depth = omega (arith, one.depth, rest.depth) }
  sound (empty_object blanks h) = record { numbers = tt; depth = omega arith }
  sound (object {levels} blanks text more {m} {ms} h i mm) =
      let all = all_sound levels [] (m ∷ ms) tt (sound_member i, sound_members mm) in
      record { numbers = members_numbers levels (put_all [] (m ∷ ms)) all; depth = omega (arith, members_shallow levels (put_all [] (m ∷ ms)) all) }

  sound_items : {levels : ℕ} {a : List ℕ} {vs : List JsonTree} → IsMoreItems levels a vs → AreSound levels vs
  sound_items (last_item blanks h) = record { numbers = tt; depth = omega arith }
  sound_items (next_item before after text more h i v m) = let one = sound v in let rest = sound_items m in record { numbers = (one.numbers, rest.numbers); depth = omega (arith, one.depth, rest.depth) }

  sound_member : {levels : ℕ} {a : List ℕ} {m : List ℕ × JsonTree} → IsMember levels a m → IsSound levels m.1
  sound_member (named text before after value c h i v) = sound v

  sound_members : {levels : ℕ} {a : List ℕ} {ms : List (List ℕ × JsonTree)} → IsMoreMembers levels a ms → Each levels ms
  sound_members (last_member blanks h) = tt
  sound_members (next_member before after text more h i m mm) = (sound_member m, sound_members mm)

pub document_of : (levels : ℕ) (text : List ℕ) (tree : JsonTree) → IsJsonOf levels text tree → IsDocument levels tree
document_of levels text tree json =
    let s = sound json.is_value in
    record { distinct = distinct_names json.is_value; texts = json_utf8_texts levels text tree json; numbers = s.numbers; depth = s.depth }
