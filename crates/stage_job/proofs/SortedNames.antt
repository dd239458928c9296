-- Lists of names in byte order are the same where they have the same names.
use Rattle.std.proofs.Common.{◌≡◌, ℕ, Bool, true, false, ◌||◌, List, [], ◌∷◌, refl, sym, ap, ◌∙◌}
use Rattle.std.specs.List.{AllByRecursion}
use Rattle.std.specs.List.Sorted.{IsStrictlySortedBy}
use Rattle.std.specs.Ordering.{eq_by_cmp, is_eq, ordering_reverse}
use Rattle.std.specs.declared.cmp.Ordering.{Ordering}
use Rattle.std.specs.declared.cmp.Ordering.TheVariants.{Less, Equal, Greater}
use Rattle.path_name.specs.Orders.{byte_cmp, byte_cmp_exact, byte_cmp_total}
use Rattle.stage_job.specs.Copied.{is_among}
use Rattle.stage_job.proofs.Below.{itself_named, same_name}

abbrev AreAfter : List ℕ → List (List ℕ) → Type 0
AreAfter x ys = AllByRecursion (λ y. byte_cmp x y ≡ Less) ys

pub not_before : (x : List ℕ) (ys : List (List ℕ)) → AreAfter x ys → is_among x ys ≡ false
not_before x [] all = refl
not_before x (y ∷ ys) all = rw (all.0) (not_before x ys all.1)

first_among : (x : List ℕ) (xs : List (List ℕ)) → is_among x (x ∷ xs) ≡ true
first_among x xs = rw (itself_named x) refl

after_by : (y x z : List ℕ) (zs : List (List ℕ)) (b : Bool) → eq_by_cmp byte_cmp x z ≡ b → byte_cmp y z ≡ Less → (is_among x zs ≡ true → byte_cmp y x ≡ Less) → (b || is_among x zs) ≡ true → byte_cmp y x ≡ Less
after_by y x z zs true same less more among = ap (byte_cmp y) (same_name x z same) ∙ less
after_by y x z zs false same less more among = more among

is_after : (y x : List ℕ) (ys : List (List ℕ)) → AreAfter y ys → is_among x ys ≡ true → byte_cmp y x ≡ Less
is_after y x [] all among = absurd cc
is_after y x (z ∷ zs) all among = after_by y x z zs (eq_by_cmp byte_cmp x z) refl all.0 (is_after y x zs all.1) among

both_less : (x y : List ℕ) → byte_cmp x y ≡ Less → byte_cmp y x ≡ Less → ⊥
both_less x y a b = let back = byte_cmp_total.antisymm x y in let turned : byte_cmp x y ≡ Greater = back ∙ ap ordering_reverse b in absurd cc

-- the first of one list is behind the first of the other, and among them
behind_first : (x y : List ℕ) (ys : List (List ℕ)) → byte_cmp x y ≡ Less → AreAfter y ys → is_among x (y ∷ ys) ≡ true → ⊥
behind_first x y ys less all among = both_less x y less (is_after y x ys all (rw (ap is_eq less) at among))

tail_by : (n x : List ℕ) (xs ys : List (List ℕ)) (b : Bool) → eq_by_cmp byte_cmp n x ≡ b → AreAfter x xs → AreAfter x ys → (b || is_among n xs) ≡ (b || is_among n ys) → is_among n xs ≡ is_among n ys
tail_by n x xs ys true same a b e =
    let is = same_name n x same in
    ap (λ m. is_among m xs) is ∙ not_before x xs a ∙ sym (not_before x ys b) ∙ ap (λ m. is_among m ys) (sym is)
tail_by n x xs ys false same a b e = e

cons_same : (x y : List ℕ) (xs ys : List (List ℕ)) → x ≡ y → xs ≡ ys → x ∷ xs ≡ y ∷ ys
cons_same x y xs ys e f = cc

step : (x y : List ℕ) (xs ys : List (List ℕ)) (o : Ordering) → byte_cmp x y ≡ o → AreAfter x xs → AreAfter y ys → ((n : List ℕ) → is_among n (x ∷ xs) ≡ is_among n (y ∷ ys))
    → (((n : List ℕ) → is_among n xs ≡ is_among n ys) → xs ≡ ys) → x ∷ xs ≡ y ∷ ys
step x y xs ys Less e a b same more = absurd (behind_first x y ys e b (sym (same x) ∙ first_among x xs))
step x y xs ys Greater e a b same more = absurd (behind_first y x xs (byte_cmp_total.antisymm y x ∙ ap ordering_reverse e) a (same y ∙ first_among y ys))
step x y xs ys Equal e a b same more =
    let is : x ≡ y = byte_cmp_exact x y e in
    let b_too : AreAfter x ys = rw is b in
    cons_same x y xs ys is (more (λ n. tail_by n x xs ys (eq_by_cmp byte_cmp n x) refl a b_too (same n ∙ ap (λ (m : List ℕ). is_among n (m ∷ ys)) (sym is))))

pub sorted_same : (xs ys : List (List ℕ)) → IsStrictlySortedBy byte_cmp xs → IsStrictlySortedBy byte_cmp ys → ((n : List ℕ) → is_among n xs ≡ is_among n ys) → xs ≡ ys
unfolding IsStrictlySortedBy
sorted_same [] [] a b same = refl
sorted_same [] (y ∷ ys) a b same = absurd (let e = same y in let h = first_among y ys in cc)
sorted_same (x ∷ xs) [] a b same = absurd (let e = same x in let h = first_among x xs in cc)
sorted_same (x ∷ xs) (y ∷ ys) a b same = step x y xs ys (byte_cmp x y) refl a.0 b.0 same (sorted_same xs ys a.1 b.1)
