-- Members that are put one after the other keep first places and take last values.
use Rattle.std.proofs.Common.{◌≡◌, ℕ, Bool, true, false, cond, ◌||◌, List, [], ◌∷◌, ◌++◌, Option, Some, None, refl, sym, ap, ◌∙◌}
use Rattle.std.specs.List.{list_any}
use Rattle.path_name.specs.Orders.{bytes_are_equal, byte_equality}
use Rattle.json_ordered.specs.JsonTree.{JsonTree, put, put_all}
use Rattle.json_ordered.specs.JsonNames.{value_of, or_else, last_value, names_of, first_names}

or_else_more : (a b c : Option JsonTree) → or_else (or_else a b) c ≡ or_else a (or_else b c)
or_else_more (Some v) b c = refl
or_else_more None b c = refl

-- ---- values

-- where name is m's name, q finds m exactly where it finds name
value_by : (b c : Bool) (q name : List ℕ) (m : List ℕ × JsonTree) (v : JsonTree) (ms : List (List ℕ × JsonTree)) → bytes_are_equal name m.0 ≡ b → bytes_are_equal q name ≡ c
    → value_of (put ms name v) q ≡ or_else (cond c (Some v) None) (value_of ms q)
    → value_of (cond b ((m.0, v) ∷ ms) (m ∷ put ms name v)) q ≡ or_else (cond c (Some v) None) (value_of (m ∷ ms) q)
value_by true true q name m v ms e f h =
    let same : bytes_are_equal q m.0 ≡ true = byte_equality.symm q m.0 ∙ sym (byte_equality.congr name m.0 q e) ∙ byte_equality.symm name q ∙ f in
    rw same refl
value_by true false q name m v ms e f h =
    let same : bytes_are_equal q m.0 ≡ false = byte_equality.symm q m.0 ∙ sym (byte_equality.congr name m.0 q e) ∙ byte_equality.symm name q ∙ f in
    rw same refl
value_by false true q name m v ms e f h =
    let same : bytes_are_equal q m.0 ≡ false = byte_equality.congr q name m.0 f ∙ e in
    rw same h
value_by false false q name m v ms e f h = ap (cond (bytes_are_equal q m.0) (Some m.1)) h

value_put : (ms : List (List ℕ × JsonTree)) (name q : List ℕ) (v : JsonTree) → value_of (put ms name v) q ≡ or_else (cond (bytes_are_equal q name) (Some v) None) (value_of ms q)
value_put [] name q v = nothing (cond (bytes_are_equal q name) (Some v) None)
  where
    nothing : (o : Option JsonTree) → o ≡ or_else o None
    nothing (Some w) = refl
    nothing None = refl
value_put (m ∷ ms) name q v = value_by (bytes_are_equal name m.0) (bytes_are_equal q name) q name m v ms refl refl (value_put ms name q v)

value_all : (done ms : List (List ℕ × JsonTree)) (q : List ℕ) → value_of (put_all done ms) q ≡ or_else (last_value ms q) (value_of done q)
value_all done [] q = refl
value_all done (m ∷ ms) q =
    value_all (put done m.0 m.1) ms q ∙ ap (or_else (last_value ms q)) (value_put done m.0 q m.1)
    ∙ sym (or_else_more (last_value ms q) (cond (bytes_are_equal q m.0) (Some m.1) None) (value_of done q))

pub last_values : (ms : List (List ℕ × JsonTree)) (name : List ℕ) → value_of (put_all [] ms) name ≡ last_value ms name
last_values ms name = value_all [] ms name ∙ nothing (last_value ms name)
  where
    nothing : (o : Option JsonTree) → or_else o None ≡ o
    nothing (Some w) = refl
    nothing None = refl

-- ---- places

names_by : (b : Bool) (name : List ℕ) (m : List ℕ × JsonTree) (v : JsonTree) (ms : List (List ℕ × JsonTree)) → names_of (put ms name v) ≡ cond (list_any (bytes_are_equal name) (names_of ms)) (names_of ms) (names_of ms ++ name ∷ [])
    → names_of (cond b ((m.0, v) ∷ ms) (m ∷ put ms name v)) ≡ cond (b || list_any (bytes_are_equal name) (names_of ms)) (m.0 ∷ names_of ms) (m.0 ∷ (names_of ms ++ name ∷ []))
names_by true name m v ms h = refl
names_by false name m v ms h = ap (λ (ns : List (List ℕ)). m.0 ∷ ns) h ∙ inside (list_any (bytes_are_equal name) (names_of ms))
  where
    inside : (c : Bool) → m.0 ∷ cond c (names_of ms) (names_of ms ++ name ∷ []) ≡ cond c (m.0 ∷ names_of ms) (m.0 ∷ (names_of ms ++ name ∷ []))
    inside true = refl
    inside false = refl

names_put : (ms : List (List ℕ × JsonTree)) (name : List ℕ) (v : JsonTree) → names_of (put ms name v) ≡ cond (list_any (bytes_are_equal name) (names_of ms)) (names_of ms) (names_of ms ++ name ∷ [])
names_put [] name v = refl
names_put (m ∷ ms) name v = names_by (bytes_are_equal name m.0) name m v ms (names_put ms name v)

names_all : (done ms : List (List ℕ × JsonTree)) → names_of (put_all done ms) ≡ first_names (names_of done) ms
names_all done [] = refl
names_all done (m ∷ ms) = names_all (put done m.0 m.1) ms ∙ ap (λ (seen : List (List ℕ)). first_names seen ms) (names_put done m.0 m.1)

pub first_places : (ms : List (List ℕ × JsonTree)) → names_of (put_all [] ms) ≡ first_names [] ms
first_places ms = names_all [] ms
