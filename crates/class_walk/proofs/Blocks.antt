-- Sorted paths, cut into blocks: each name, and what lies below it.
use Rattle.std.proofs.Common.{◌≡◌, ℕ, Bool, true, false, cond, List, [], ◌∷◌, ◌++◌, map, Option, Some, None, refl, sym, ap, subst, ◌∙◌, inl, inr}
use Rattle.std.specs.Prelude.{◌⊎◌}
use Rattle.std.specs.List.{filter_map, cons_option, flat_map, AllByRecursion}
use Rattle.std.specs.List.Sorted.{IsStrictlySortedBy}
use Rattle.std.specs.Cmp.{tied_itself}
use Rattle.std.specs.Ordering.{ordering_then, ordering_reverse}
use Rattle.std.specs.declared.cmp.Ordering.{Ordering}
use Rattle.std.specs.declared.cmp.Ordering.TheVariants.{Less, Equal, Greater}
use Rattle.path_name.specs.Orders.{byte_cmp, byte_cmp_total, path_cmp, bytes_are_equal}
use Rattle.tree_dev.specs.Trees.{one_segment}
use Rattle.tree_dev.proofs.Behind.{same_bytes, bytes_same}
use Rattle.class_walk.specs.Reached.{filled, tail_below}

abbrev pub Path : Type 0
Path = List (List ℕ)

-- ---- members

abbrev pub Member : {X : Type 0} → X → List X → Type 0
Member y [] = ⊥
Member y (x ∷ xs) = (x ≡ y) ⊎ Member y xs

pub of_all : {X : Type 0} (P : X → Type 0) (xs : List X) (y : X) → AllByRecursion P xs → Member y xs → P y
of_all P [] y all there = absurd there
of_all P (x ∷ xs) y all (inl same) = subst P same all.0
of_all P (x ∷ xs) y all (inr there) = of_all P xs y all.1 there

pub flat_same : {X Y : Type 0} (f g : X → List Y) (xs : List X) → ((x : X) → Member x xs → f x ≡ g x) → flat_map f xs ≡ flat_map g xs
flat_same f g [] each = refl
flat_same f g (x ∷ xs) each =
    let rest = flat_same f g xs (λ y there. each y (inr there)) in
    ap (λ front. front ++ flat_map f xs) (each x (inl refl)) ∙ ap (λ back. g x ++ back) rest

-- ---- names and what lies below them

abbrev pub single : Path → Option (List ℕ)
single tail = one_segment (Some tail)

abbrev pub names : List Path → List (List ℕ)
names tails = filter_map single tails

abbrev pub tails_of : List ℕ → List Path → List Path
tails_of name tails = filter_map (tail_below (name ∷ [])) tails

abbrev pub block : List Path → List ℕ → List Path
block tails name = (name ∷ []) ∷ map (λ rest. name ∷ rest) (tails_of name tails)

-- ---- order

first_less : (o : Ordering) → ordering_then o Equal ≡ Less → o ≡ Less
first_less Less e = refl
first_less Equal e = absurd cc
first_less Greater e = absurd cc

not_back : (n x : List ℕ) (rest : Path) → path_cmp (n ∷ []) (x ∷ []) ≡ Less → path_cmp (x ∷ []) (n ∷ rest) ≡ Less → ⊥
not_back n x rest less more =
    let one : byte_cmp n x ≡ Less = first_less (byte_cmp n x) less in
    let other : byte_cmp x n ≡ Greater = byte_cmp_total.antisymm x n ∙ ap ordering_reverse one in
    let wrong : ordering_then Greater (path_cmp [] rest) ≡ Less = rw other at more in
    absurd cc

not_itself : (n m : List ℕ) → path_cmp (n ∷ []) (m ∷ []) ≡ Less → m ≡ n → ⊥
not_itself n m less same =
    let one : byte_cmp n n ≡ Less = ap (byte_cmp n) (sym same) ∙ first_less (byte_cmp n m) less in
    let tied = tied_itself byte_cmp_total n in
    absurd cc

not_shorter : (x y : List ℕ) (rest : Path) → path_cmp (x ∷ y ∷ rest) (x ∷ []) ≡ Less → ⊥
not_shorter x y rest less =
    let wrong : ordering_then Equal Greater ≡ Less = rw (tied_itself byte_cmp_total x) at less in
    absurd cc

other_bytes : (a b : List ℕ) (t : Bool) → bytes_are_equal a b ≡ t → (b ≡ a → ⊥) → bytes_are_equal a b ≡ false
other_bytes a b true e apart = absurd (apart (sym (same_bytes a b e)))
other_bytes a b false e apart = e

-- ---- one path more

skip_by : (t : Bool) (tails : List Path) → cons_option (filled (cond t (Some []) None)) tails ≡ tails
skip_by true tails = refl
skip_by false tails = refl

-- a name alone has nothing below it
skip_name : (m x : List ℕ) (tails : List Path) → tails_of m ((x ∷ []) ∷ tails) ≡ tails_of m tails
skip_name m x tails = skip_by (bytes_are_equal m x) (tails_of m tails)

skip_other : (m x : List ℕ) (rest : Path) (tails : List Path) → (x ≡ m → ⊥) → tails_of m ((x ∷ rest) ∷ tails) ≡ tails_of m tails
skip_other m x rest tails apart = rw (other_bytes m x (bytes_are_equal m x) refl apart) refl

take_own : (x y : List ℕ) (rest : Path) (tails : List Path) → tails_of x ((x ∷ y ∷ rest) ∷ tails) ≡ (y ∷ rest) ∷ tails_of x tails
take_own x y rest tails = rw (bytes_same x) refl

none_of : (n : List ℕ) (tails : List Path) → ((rest : Path) → Member (n ∷ rest) tails → ⊥) → (Member [] tails → ⊥) → tails_of n tails ≡ []
none_of n [] none full = refl
none_of n ([] ∷ tails) none full = absurd (full (inl refl))
none_of n ((x ∷ rest) ∷ tails) none full =
    skip_other n x rest tails (λ same. none rest (inl (ap (λ s. s ∷ rest) same)))
    ∙ none_of n tails (λ more there. none more (inr there)) (λ there. full (inr there))

named : (m : List ℕ) (tails : List Path) → Member m (names tails) → Member (m ∷ []) tails
named m [] there = absurd there
named m ([] ∷ tails) there = inr (named m tails there)
named m ((x ∷ []) ∷ tails) (inl same) = inl (ap (λ s. s ∷ []) same)
named m ((x ∷ []) ∷ tails) (inr there) = inr (named m tails there)
named m ((x ∷ y ∷ rest) ∷ tails) there = inr (named m tails there)

-- ---- sorted paths

-- each path of two segments or more lies below a name that stands among the paths, or below the name n
abbrev pub HeldBy : List ℕ → List Path → Type 0
HeldBy n tails = (x y : List ℕ) (rest : Path) → Member (x ∷ y ∷ rest) tails → (x ≡ n) ⊎ Member (x ∷ []) tails

abbrev pub Held : List Path → Type 0
Held tails = (x y : List ℕ) (rest : Path) → Member (x ∷ y ∷ rest) tails → Member (x ∷ []) tails

abbrev pub After : List ℕ → List Path → Type 0
After n tails = (tail : Path) → Member tail tails → path_cmp (n ∷ []) tail ≡ Less

after_first : (path : Path) (tails : List Path) → IsStrictlySortedBy path_cmp (path ∷ tails) → (tail : Path) → Member tail tails → path_cmp path tail ≡ Less
unfolding IsStrictlySortedBy
after_first path tails sorted tail there = of_all (λ other. path_cmp path other ≡ Less) tails tail sorted.0 there

rest_sorted : (path : Path) (tails : List Path) → IsStrictlySortedBy path_cmp (path ∷ tails) → IsStrictlySortedBy path_cmp tails
unfolding IsStrictlySortedBy
rest_sorted path tails sorted = sorted.1

-- a name comes first, and what follows is cut into blocks
name_first : (x : List ℕ) (tails : List Path) → tails ≡ map (λ rest. x ∷ rest) (tails_of x tails) ++ flat_map (block tails) (names tails)
    → (x ∷ []) ∷ tails ≡ flat_map (block ((x ∷ []) ∷ tails)) (names ((x ∷ []) ∷ tails))
name_first x tails cut =
    let same : (m : List ℕ) → block ((x ∷ []) ∷ tails) m ≡ block tails m = λ m. ap (λ below. (m ∷ []) ∷ map (λ rest. m ∷ rest) below) (skip_name m x tails) in
    ap (λ back. (x ∷ []) ∷ back) cut
    ∙ ap (λ front. front ++ flat_map (block tails) (names tails)) (sym (same x))
    ∙ ap (λ back. block ((x ∷ []) ∷ tails) x ++ back) (flat_same (block tails) (block ((x ∷ []) ∷ tails)) (names tails) (λ m there. sym (same m)))

held_below : (x : List ℕ) (tails : List Path) → HeldBy x ((x ∷ []) ∷ tails) → HeldBy x tails
held_below x tails held z y rest there = elim (held z y rest (inr there)) [
  | inl same ↦ inl same
  | inr here ↦ elim here [ inl same ↦ inl (let e = same in cc) | inr among ↦ inr among ]
]

pub grouped : (n : List ℕ) (tails : List Path) → IsStrictlySortedBy path_cmp tails → After n tails → HeldBy n tails → (Member [] tails → ⊥)
    → tails ≡ map (λ rest. n ∷ rest) (tails_of n tails) ++ flat_map (block tails) (names tails)
grouped n [] sorted after held full = refl
grouped n ([] ∷ tails) sorted after held full = absurd (full (inl refl))
grouped n ((x ∷ []) ∷ tails) sorted after held full =
    let next = after_first (x ∷ []) tails sorted in
    let less = after (x ∷ []) (inl refl) in
    let none : tails_of n ((x ∷ []) ∷ tails) ≡ [] = skip_name n x tails ∙ none_of n tails (λ rest there. not_back n x rest less (next (n ∷ rest) there)) (λ there. full (inr there)) in
    let held_x : HeldBy x tails = held_below x tails (λ z y rest there. elim (held z y rest there) [
      | inl same ↦ absurd (elim there [ inl wrong ↦ (let w = wrong in absurd cc) | inr later ↦ not_back n x (y ∷ rest) less (subst (λ s. path_cmp (x ∷ []) (s ∷ y ∷ rest) ≡ Less) same (next (z ∷ y ∷ rest) later)) ])
      | inr among ↦ inr among
    ]) in
    name_first x tails (grouped x tails (rest_sorted (x ∷ []) tails sorted) next held_x (λ there. full (inr there)))
    ∙ ap (λ front. map (λ rest. n ∷ rest) front ++ flat_map (block ((x ∷ []) ∷ tails)) (names ((x ∷ []) ∷ tails))) (sym none)
grouped n ((x ∷ y ∷ rest) ∷ tails) sorted after held full =
    let next = after_first (x ∷ y ∷ rest) tails sorted in
    let own : x ≡ n = elim (held x y rest (inl refl)) [
      | inl same ↦ same
      | inr among ↦ absurd (elim among [ inl wrong ↦ (let w = wrong in absurd cc) | inr later ↦ not_shorter x y rest (next (x ∷ []) later) ])
    ] in
    let held_n : HeldBy n tails = λ z w more there. elim (held z w more (inr there)) [
      | inl same ↦ inl same
      | inr among ↦ elim among [ inl wrong ↦ absurd (let w = wrong in cc) | inr later ↦ inr later ]
    ] in
    let more = grouped n tails (rest_sorted (x ∷ y ∷ rest) tails sorted) (λ tail there. after tail (inr there)) held_n (λ there. full (inr there)) in
    let taken : tails_of n ((x ∷ y ∷ rest) ∷ tails) ≡ (y ∷ rest) ∷ tails_of n tails = rw own (take_own n y rest tails) in
    let others : flat_map (block tails) (names tails) ≡ flat_map (block ((x ∷ y ∷ rest) ∷ tails)) (names tails) =
    flat_same (block tails) (block ((x ∷ y ∷ rest) ∷ tails)) (names tails) (λ m there.
    ap (λ below. (m ∷ []) ∷ map (λ r. m ∷ r) below) (sym (skip_other m x (y ∷ rest) tails (λ same. not_itself n m (after (m ∷ []) (inr (named m tails there))) (sym same ∙ own))))) in
    ap (λ s. (s ∷ y ∷ rest) ∷ tails) own
    ∙ ap (λ back. (n ∷ y ∷ rest) ∷ back) (more ∙ ap (λ back. map (λ r. n ∷ r) (tails_of n tails) ++ back) others)
    ∙ ap (λ front. map (λ r. n ∷ r) front ++ flat_map (block ((x ∷ y ∷ rest) ∷ tails)) (names tails)) (sym taken)

pub in_blocks : (tails : List Path) → IsStrictlySortedBy path_cmp tails → Held tails → (Member [] tails → ⊥) → tails ≡ flat_map (block tails) (names tails)
in_blocks [] sorted held full = refl
in_blocks ([] ∷ tails) sorted held full = absurd (full (inl refl))
in_blocks ((x ∷ []) ∷ tails) sorted held full =
    name_first x tails (grouped x tails (rest_sorted (x ∷ []) tails sorted) (after_first (x ∷ []) tails sorted) (held_below x tails (λ z y rest there. inr (held z y rest there))) (λ there. full (inr there)))
in_blocks ((x ∷ y ∷ rest) ∷ tails) sorted held full =
    absurd (elim (held x y rest (inl refl)) [ inl wrong ↦ (let w = wrong in absurd cc) | inr later ↦ not_shorter x y rest (after_first (x ∷ y ∷ rest) tails sorted (x ∷ []) later) ])
