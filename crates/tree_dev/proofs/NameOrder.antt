-- Names and paths in their order.
use Rattle.std.proofs.Common.{◌≡◌, ℕ, ◌==◌, Bool, true, false, not, List, [], ◌∷◌, ◌++◌, refl, ap, ◌∙◌, arith}
use Rattle.std.proofs.lemmas.Bool.Decides.{nat_tests}
use Rattle.std.specs.List.{list_all}
use Rattle.std.specs.Ordering.{is_gt, is_lt, nat_cmp, ordering_then, ordering_reverse}
use Rattle.std.specs.Cmp.{tied_itself}
use Rattle.std.specs.declared.cmp.Ordering.{Ordering}
use Rattle.std.specs.declared.cmp.Ordering.TheVariants.{Less, Equal, Greater}
use Rattle.path_name.specs.Orders.{byte_cmp, path_cmp, byte_cmp_total, byte_cmp_exact}
use Rattle.tree_dev.specs.Told.{both}

abbrev pub no_nul : List ℕ → Bool
no_nul name = list_all (λ byte. not (byte == 0)) name

nothing_then : (c : List ℕ) → is_gt (byte_cmp [] c) ≡ false
nothing_then [] = refl
nothing_then (y ∷ ys) = refl

first_step : (y : ℕ) (ys : List ℕ) (o : Ordering) → nat_cmp 1 y ≡ o → (y ≡ 0 → ⊥) → is_gt (ordering_then o (byte_cmp [] ys)) ≡ false
first_step y ys Less e some = refl
first_step y ys Equal e some = nothing_then ys
first_step y ys Greater e some = absurd (some (zero_of y e))
  where
    zero_of : (y : ℕ) → nat_cmp 1 y ≡ Greater → y ≡ 0
    zero_of y e = grind (arith, nat_tests)

-- a name with the least byte behind it stands before exactly the names after it
pub after_bound : (n c : List ℕ) → no_nul c ≡ true → not (is_gt (byte_cmp (n ++ 1 ∷ []) c)) ≡ is_lt (byte_cmp n c)
after_bound [] [] e = refl
after_bound [] (y ∷ ys) e =
    let some : (y ≡ 0) → ⊥ = λ zero. let parts = both (not (y == 0)) (no_nul ys) e in let z : not (y == 0) ≡ false = rw zero refl in absurd (let t = parts.0 in cc) in
    ap not (first_step y ys (nat_cmp 1 y) refl some)
after_bound (x ∷ xs) [] e = refl
after_bound (x ∷ xs) (y ∷ ys) e = step (nat_cmp x y) (after_bound xs ys (both (not (y == 0)) (no_nul ys) e).1)
  where
    step : (o : Ordering) → not (is_gt (byte_cmp (xs ++ 1 ∷ []) ys)) ≡ is_lt (byte_cmp xs ys)
        → not (is_gt (ordering_then o (byte_cmp (xs ++ 1 ∷ []) ys))) ≡ is_lt (ordering_then o (byte_cmp xs ys))
    step Less more = refl
    step Equal more = more
    step Greater more = refl

-- a common head does not count
pub same_head : (head a b : List (List ℕ)) → path_cmp (head ++ a) (head ++ b) ≡ path_cmp a b
same_head [] a b = refl
same_head (x ∷ head) a b = rw (tied_itself byte_cmp_total x) (same_head head a b)

pub first_counts : (head : List (List ℕ)) (b x : List ℕ) (rest : List (List ℕ)) → is_gt (path_cmp (head ++ b ∷ []) (head ++ x ∷ rest)) ≡ is_gt (byte_cmp b x)
first_counts head b x rest = ap is_gt (same_head head (b ∷ []) (x ∷ rest)) ∙ step (byte_cmp b x) rest
  where
    step : (o : Ordering) (rest : List (List ℕ)) → is_gt (ordering_then o (path_cmp [] rest)) ≡ is_gt o
    step Less rest = refl
    step Equal [] = refl
    step Equal (y ∷ ys) = refl
    step Greater rest = refl

pub head_is_before : (head : List (List ℕ)) (b : List ℕ) → is_gt (path_cmp (head ++ b ∷ []) head) ≡ true
head_is_before [] b = refl
head_is_before (x ∷ head) b = rw (tied_itself byte_cmp_total x) (head_is_before head b)

pub longer_is_after : (head : List (List ℕ)) (x y : List ℕ) (rest : List (List ℕ)) → is_gt (path_cmp (head ++ x ∷ y ∷ rest) (head ++ x ∷ [])) ≡ true
longer_is_after head x y rest = ap is_gt (same_head head (x ∷ y ∷ rest) (x ∷ [])) ∙ rw (tied_itself byte_cmp_total x) refl

-- what stands between two paths with a head has that head
pub between : (head a d p : List (List ℕ)) → is_gt (path_cmp (head ++ a) p) ≡ false → is_gt (path_cmp p (head ++ d)) ≡ false → (rest : List (List ℕ)) × (p ≡ head ++ rest)
between [] a d p low high = (p, refl)
between (x ∷ head) a d [] low high = absurd cc
between (x ∷ head) a d (y ∷ ys) low high = step (byte_cmp x y) refl (byte_cmp_total.antisymm y x) low high (between head a d ys)
  where
    step : (o : Ordering) → byte_cmp x y ≡ o → byte_cmp y x ≡ ordering_reverse (byte_cmp x y)
        → is_gt (ordering_then (byte_cmp x y) (path_cmp (head ++ a) ys)) ≡ false → is_gt (ordering_then (byte_cmp y x) (path_cmp ys (head ++ d))) ≡ false
        → (is_gt (path_cmp (head ++ a) ys) ≡ false → is_gt (path_cmp ys (head ++ d)) ≡ false → (rest : List (List ℕ)) × (ys ≡ head ++ rest))
        → (rest : List (List ℕ)) × (y ∷ ys ≡ (x ∷ head) ++ rest)
    step Less e back low high more = absurd (let h = rw (back, e) at high in cc)
    step Equal e back low high more =
        let rest = more (rw e at low) (rw (back, e) at high) in
        let same = byte_cmp_exact x y e in
        (rest.0, let tail = rest.1 in cc)
    step Greater e back low high more = absurd (let l = rw e at low in cc)
