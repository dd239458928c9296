-- Groups of rows, one row after the other.
use Rattle.std.proofs.Common.{◌≡◌, ◌≢◌, ℕ, zero, suc, ◌<◌, ◌≤◌, ◌-◌, Bool, true, false, List, [], ◌∷◌, ◌++◌, length, get_or, take, set, map, Bor, Vec, Global, refl, sym, ap, subst, ◌∙◌, append-nil, append_assoc, inl, inr, arith}
use Rattle.std.proofs.lemmas.Bool.Decides.{eqb_tells}
use Rattle.std.proofs.lemmas.List.{get_or-set_same, get_or-set_other, get_or-map, map-set, map-append, length-map, length-take-le}
use Rattle.std.specs.Cmp.Lexicographic.{bytes_decides}
use Rattle.path_name.specs.Orders.{bytes_are_equal}
use Rattle.class_paths.specs.declared.types.Route.{Route}
use Rattle.class_paths.specs.Candidates.{rows_at, rows_upto}
use Rattle.class_paths.specs.RowPath.{row_path_of}
use Rattle.psr_routes.specs.Groups.{lent, group_at, paths_below}

pub pushed_empty : (groups : List (Vec (Bor Route) Global)) (group : Vec (Bor Route) Global) (len : ℕ) → lent group ≡ [] → group_at groups len ≡ [] → group_at (groups ++ group ∷ []) len ≡ []
pushed_empty [] group zero e h = e
pushed_empty [] group (suc len) e h = refl
pushed_empty (first ∷ groups) group zero e h = h
pushed_empty (first ∷ groups) group (suc len) e h = pushed_empty groups group len e h

-- a prefix of another length than the name's first bytes has
pub other_length : (prefix name : List ℕ) (len : ℕ) → len ≤ length name → length prefix ≢ len → bytes_are_equal prefix (take len name) ≡ false
other_length prefix name len within other = by (bytes_are_equal prefix (take len name)) refl
  where
    by : (t : Bool) → bytes_are_equal prefix (take len name) ≡ t → t ≡ false
    by true e = absurd (other (ap length ((bytes_decides prefix (take len name)).0 e) ∙ length-take-le len name within))
    by false e = refl

module _ (groups : List (Vec (Bor Route) Global)) (row : Route) (name : List ℕ) (at : ℕ) (new : Vec (Bor Route) Global) where
  put_here : at < length groups → lent new ≡ group_at groups at ++ row ∷ [] → bytes_are_equal row.prefix (take at name) ≡ true → group_at (set groups at new) at ≡ group_at groups at ++ rows_at (row ∷ []) name at
  put_here below more begins =
      let long : at < length (map lent groups) = rw length-map below in
      rw (map-set, begins) (get_or-set_same (map lent groups) at (lent new) [] long ∙ more)

  put_elsewhere : (len : ℕ) → len ≢ at → bytes_are_equal row.prefix (take len name) ≡ false → group_at (set groups at new) len ≡ group_at groups len ++ rows_at (row ∷ []) name len
  put_elsewhere len other unlike = rw (map-set, unlike) (get_or-set_other (map lent groups) at len (lent new) [] other ∙ sym (append-nil (group_at groups len)))

-- the group at a number, with one row more
one_more : (groups : List (Vec (Bor Route) Global)) (at : ℕ) (old new : Vec (Bor Route) Global) (row : Bor Route) → at < length groups → old ≡ get_or groups at old → new.items ≡ old.items ++ row ∷ [] → lent new ≡ group_at groups at ++ row.now ∷ []
one_more groups at old new row below was more =
    let before : group_at groups at ≡ lent old = get_or-map lent groups at old [] below ∙ ap lent (sym was) in
    ap (map (λ r. r.now)) more ∙ map-append (λ r. r.now) old.items (row ∷ []) ∙ ap (λ rows. rows ++ row.now ∷ []) (sym before)

-- a row behind those of its length
pub put_there : (groups : List (Vec (Bor Route) Global)) (old new : Vec (Bor Route) Global) (row : Bor Route) (name : List ℕ)
    → length row.now.prefix < length groups → old ≡ get_or groups (length row.now.prefix) old → new.items ≡ old.items ++ row ∷ []
    → bytes_are_equal row.now.prefix (take (length row.now.prefix) name) ≡ true → (len : ℕ) → len ≤ length name
    → group_at (set groups (length row.now.prefix) new) len ≡ group_at groups len ++ rows_at (row.now ∷ []) name len
put_there groups old new row name below was more begins len within =
    let at = length row.now.prefix in
    let here = put_here groups row.now name at new below (one_more groups at old new row below was more) begins in
    elim (eqb_tells at len) [ inl e ↦ subst (λ (n : ℕ). group_at (set groups at new) n ≡ group_at groups n ++ rows_at (row.now ∷ []) name n) e.1 here | inr e ↦ put_elsewhere groups row.now name at new len (λ same. e.1 (sym same)) (other_length row.now.prefix name len within e.1) ]

-- the groups of a number of lengths give the paths of the rows of these lengths
pub groups_give : (groups : List (Vec (Bor Route) Global)) (rows : List Route) (name : List ℕ) (len : ℕ) → ((k : ℕ) → k ≤ len → group_at groups k ≡ rows_at rows name k)
    → paths_below groups name (suc len) ≡ map (λ row. row_path_of row name) (rows_upto rows name len)
groups_give groups rows name zero each = append-nil _ ∙ ap (map (λ row. row_path_of row name)) (each 0 (omega arith))
groups_give groups rows name (suc len) each =
    ap (λ some. map (λ row. row_path_of row name) some ++ paths_below groups name (suc len)) (each (suc len) (omega arith))
    ∙ ap (λ more. map (λ row. row_path_of row name) (rows_at rows name (suc len)) ++ more) (groups_give groups rows name len (λ k below. each k (omega (arith, below))))
    ∙ sym (map-append (λ row. row_path_of row name) (rows_at rows name (suc len)) (rows_upto rows name len))

next_group : (groups : List (Vec (Bor Route) Global)) (name : List ℕ) (len : ℕ) → 0 < len → paths_below groups name len ≡ map (λ row. row_path_of row name) (group_at groups (len - 1)) ++ paths_below groups name (len - 1)
next_group groups name zero some = absurd (omega arith)
next_group groups name (suc len) some =
    let before : suc len - 1 ≡ len = omega arith in
    rw before refl

-- the loop over groups goes one group on
pub group_step : (groups : List (Vec (Bor Route) Global)) (name : List ℕ) (len : ℕ) (rows : List Route) (before new all : List (List (List ℕ))) → 0 < len → group_at groups (len - 1) ≡ rows
    → new ≡ before ++ map (λ row. row_path_of row name) rows → before ++ paths_below groups name len ≡ all → new ++ paths_below groups name (len - 1) ≡ all
group_step groups name len rows before new all some here more so_far =
    let own = map (λ row. row_path_of row name) rows in
    let rest = paths_below groups name (len - 1) in
    ap (λ front. front ++ rest) more ∙ append_assoc before own rest
    ∙ ap (λ back. before ++ back) (sym (next_group groups name len some ∙ ap (λ r. map (λ row. row_path_of row name) r ++ rest) here)) ∙ so_far
