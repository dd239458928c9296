-- Candidates by name, after one more.
use Rattle.std.proofs.Common.{◌≡◌, ℕ, Bool, true, false, cond, List, [], ◌∷◌, ◌++◌, map, Option, Some, None, Vec, refl, sym, ap, ◌∙◌, append-nil}
use Rattle.std.proofs.lemmas.List.{map-append}
use Rattle.std.proofs.lemmas.List.Elements.{filter-append}
use Rattle.std.specs.List.{filter}
use Rattle.std.specs.BTreeMap.{BTreeMap}
use Rattle.std.specs.declared.alloc.Global.{Global}
use Rattle.path_name.specs.Orders.{byte_cmp, bytes_are_equal, byte_ties}
use Rattle.std.specs.BTreeMap.{is_at}
use Rattle.tree_dev.proofs.Behind.{same_bytes}
use Rattle.pkg_pool.specs.declared.pool.Candidate.{Candidate}
use Rattle.pkg_pool.specs.declared.gather.Held.{Held}
use Rattle.pkg_pool.specs.Gathering.{row_of, rows_of, rows_in, held_at, IsIndex}

-- the rows of a candidate's own name
abbrev pub row_if : Bool → Candidate → List Held
row_if b c = cond b (row_of c ∷ []) []

last_row : (b : Bool) (c : Candidate) (name : List ℕ) → bytes_are_equal c.«package».name name ≡ b → rows_of (c ∷ []) name ≡ row_if b c
last_row b c name e = ap (λ x. map row_of (cond x (c ∷ []) [])) e ∙ by_cases b
  where
    by_cases : (x : Bool) → map row_of (cond x (c ∷ []) []) ≡ row_if x c
    by_cases true = refl
    by_cases false = refl

pub one_more : (cs : List Candidate) (c : Candidate) (name : List ℕ) → rows_of (cs ++ c ∷ []) name ≡ rows_of cs name ++ row_if (bytes_are_equal c.«package».name name) c
one_more cs c name =
    ap (map row_of) (filter-append (λ x. bytes_are_equal x.«package».name name) cs (c ∷ []))
    ∙ map-append row_of (filter (λ x. bytes_are_equal x.«package».name name) cs) (filter (λ x. bytes_are_equal x.«package».name name) (c ∷ []))
    ∙ ap (λ r. rows_of cs name ++ r) (last_row (bytes_are_equal c.«package».name name) c name refl)

pub indexed : (old new : BTreeMap (List ℕ) (Vec Held Global)) (cs : List Candidate) (c : Candidate) → IsIndex old cs
    → ((name : List ℕ) → held_at new name ≡ held_at old name ++ row_if (bytes_are_equal c.«package».name name) c) → IsIndex new (cs ++ c ∷ [])
indexed old new cs c index more = λ name. more name ∙ ap (λ r. r ++ row_if (bytes_are_equal c.«package».name name) c) (index name) ∙ sym (one_more cs c name)

-- taken out, and put back with one more
held_case : (k q : List ℕ) (row : Held) (b : Bool) → bytes_are_equal k q ≡ b → (before : List ℕ → Option (Vec Held Global)) (now found : Option (Vec Held Global)) (rows : Vec Held Global)
    → now ≡ cond b (Some rows) (cond b None (before q)) → found ≡ before k → rows.items ≡ rows_in found ++ row ∷ [] → rows_in now ≡ rows_in (before q) ++ cond b (row ∷ []) []
held_case k q row true same before now found rows is was added = ap rows_in is ∙ added ∙ ap (λ r. rows_in r ++ row ∷ []) (was ∙ ap before (same_bytes k q same))
held_case k q row false apart before now found rows is was added = ap rows_in is ∙ sym (append-nil (rows_in (before q)))

pub held_more : (k q : List ℕ) (row : Held) (before : List ℕ → Option (Vec Held Global)) (between now found : Option (Vec Held Global)) (rows : Vec Held Global)
    → now ≡ cond (is_at (byte_cmp k) q) (Some rows) between → between ≡ cond (is_at (byte_cmp k) q) None (before q) → found ≡ before k → rows.items ≡ rows_in found ++ row ∷ []
    → rows_in now ≡ rows_in (before q) ++ cond (bytes_are_equal k q) (row ∷ []) []
held_more k q row before between now found rows is taken was added =
    let tie = sym (byte_ties k q) in
    held_case k q row (bytes_are_equal k q) refl before now found rows
    (is ∙ ap (cond (is_at (byte_cmp k) q) (Some rows)) taken ∙ ap (λ b. cond b (Some rows) (cond b None (before q))) tie) was added
