-- Names that differ, and members that are put one after the other.
use Rattle.std.proofs.Common.{◌≡◌, ℕ, ◌+◌, ◌<◌, ◌≤◌, Bool, true, false, ◌||◌, List, [], ◌∷◌, ◌++◌, length, map, take, get_or, refl, sym, ap, ◌∙◌}
use Rattle.std.specs.List.{list_any, concat}
use Rattle.std.proofs.lemmas.List.Folds.{concat-append}
use Rattle.std.proofs.lemmas.List.{append-nil, map_push, take_more, take_all}
use Rattle.path_name.specs.Orders.{bytes_are_equal}
use Rattle.json_ordered.specs.declared.doc.Doc.{Doc}
use Rattle.json_ordered.specs.JsonTree.{JsonTree, put, put_all}
use Rattle.json_ordered.specs.JsonNames.{names_of}
use Rattle.json_ordered.specs.Docs.{tree_of, pair_of}

pub put_last : (done ms : List (List ℕ × JsonTree)) (m : List ℕ × JsonTree) → put_all done (ms ++ m ∷ []) ≡ put (put_all done ms) m.0 m.1
put_last done [] m = refl
put_last done (n ∷ ms) m = put_last (put done n.0 n.1) ms m

-- a member of an object that is open
pub put_pushed : (old new : List (List ℕ × Doc)) (name : List ℕ) (doc : Doc) → new ≡ old ++ (name, doc) ∷ [] → put_all [] (map pair_of new) ≡ put (put_all [] (map pair_of old)) name (tree_of doc)
put_pushed old new name doc is = ap (λ (ms : List (List ℕ × Doc)). put_all [] (map pair_of ms)) is ∙ ap (put_all []) (map_push pair_of old (name, doc)) ∙ put_last [] (map pair_of old) (name, tree_of doc)

neither : (b c : Bool) → b || c ≡ false → (b ≡ false) × (c ≡ false)
neither true c h = absurd cc
neither false c h = (refl, h)

pub put_new : (done : List (List ℕ × JsonTree)) (name : List ℕ) (v : JsonTree) → list_any (bytes_are_equal name) (names_of done) ≡ false → put done name v ≡ done ++ (name, v) ∷ []
put_new [] name v h = refl
put_new (m ∷ done) name v h =
    let both = neither (bytes_are_equal name m.0) (list_any (bytes_are_equal name) (names_of done)) h in
    rw both.0 (ap (λ (ms : List (List ℕ × JsonTree)). m ∷ ms) (put_new done name v both.1))

differ_more : (done : List (List ℕ × JsonTree)) (m : List ℕ × JsonTree) → put_all [] done ≡ done → list_any (bytes_are_equal m.0) (names_of done) ≡ false → put_all [] (done ++ m ∷ []) ≡ done ++ m ∷ []
differ_more done m so_far new = put_last [] done m ∙ ap (λ (ms : List (List ℕ × JsonTree)). put ms m.0 m.1) so_far ∙ put_new done m.0 m.1 new

one_more : (members : List (List ℕ × Doc)) (i : ℕ) (x : List ℕ × Doc) → i < length members → x ≡ get_or members i x → map pair_of (take (i + 1) members) ≡ map pair_of (take i members) ++ pair_of x ∷ []
one_more members i x within is = ap (map pair_of) (take_more members i x within ∙ ap (λ (y : List ℕ × Doc). take i members ++ y ∷ []) (sym is)) ∙ map_push pair_of (take i members) x

pub next_differs : (members : List (List ℕ × Doc)) (i : ℕ) (x : List ℕ × Doc) → i < length members → x ≡ get_or members i x → put_all [] (map pair_of (take i members)) ≡ map pair_of (take i members)
    → list_any (bytes_are_equal x.0) (names_of (map pair_of (take i members))) ≡ false → put_all [] (map pair_of (take (i + 1) members)) ≡ map pair_of (take (i + 1) members)
next_differs members i x within is so_far new =
    let more = one_more members i x within is in
    ap (put_all []) more ∙ differ_more (map pair_of (take i members)) (pair_of x) so_far new ∙ sym more

pub all_differ : (members : List (List ℕ × Doc)) (i : ℕ) → length members ≤ i → put_all [] (map pair_of (take i members)) ≡ map pair_of (take i members) → put_all [] (map pair_of members) ≡ map pair_of members
all_differ members i past so_far = ap (λ (ms : List (List ℕ × Doc)). put_all [] (map pair_of ms)) (sym (take_all i members past)) ∙ so_far ∙ ap (map pair_of) (take_all i members past)

-- ---- all names in a row

pub names_more : (members : List (List ℕ × Doc)) (i : ℕ) (x : List ℕ × Doc) → i < length members → x ≡ get_or members i x → concat (names_of (map pair_of (take (i + 1) members))) ≡ concat (names_of (map pair_of (take i members))) ++ x.0
names_more members i x within is =
    ap (λ (ms : List (List ℕ × JsonTree)). concat (names_of ms)) (one_more members i x within is)
    ∙ ap concat (map_push (λ m. m.0) (map pair_of (take i members)) (pair_of x)) ∙ concat-append (names_of (map pair_of (take i members))) (x.0 ∷ [])
    ∙ ap (λ (t : List ℕ). concat (names_of (map pair_of (take i members))) ++ t) (append-nil x.0)

-- ---- the number of each name

pub numbers_more : (number : List ℕ → ℕ) (members : List (List ℕ × Doc)) (i : ℕ) (x : List ℕ × Doc) → i < length members → x ≡ get_or members i x
    → map number (names_of (map pair_of (take (i + 1) members))) ≡ map number (names_of (map pair_of (take i members))) ++ number x.0 ∷ []
numbers_more number members i x within is =
    ap (λ (ms : List (List ℕ × JsonTree)). map number (names_of ms)) (one_more members i x within is)
    ∙ ap (map number) (map_push (λ m. m.0) (map pair_of (take i members)) (pair_of x)) ∙ map_push number (names_of (map pair_of (take i members))) x.0
