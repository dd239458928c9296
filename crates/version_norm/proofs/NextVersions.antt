-- Each version has one that is next above it.
use Rattle.std.proofs.Common.{◌≡◌, ℕ, ◌+◌, Bool, true, false, List, [], ◌∷◌, ◌++◌, map, Option, Some, None, refl, ap, arith}
use Rattle.std.specs.Cmp.Lexicographic.{slice_cmp}
use Rattle.std.specs.Ordering.{nat_cmp, ordering_then, ordering_reverse}
use Rattle.std.specs.declared.cmp.Ordering.{Ordering}
use Rattle.std.specs.declared.cmp.Ordering.TheVariants.{Less, Equal, Greater}
use Rattle.std.proofs.lemmas.Bool.Decides.{nat_tests}
use Rattle.std.proofs.lemmas.Cmp.{tied_itself, nat_cmp_total}
use Rattle.path_name.specs.Orders.{byte_cmp, byte_cmp_total}
use Rattle.version_norm.specs.declared.version.Stage.{Stage}
use Rattle.version_norm.specs.declared.version.Stage.TheVariants as stages
use Rattle.version_norm.specs.declared.version.Modifier.{Modifier}
use Rattle.version_norm.specs.declared.version.Numbered.{Numbered}
use Rattle.version_norm.specs.VersionOrder.{Element, Dev, End, Number, four_numbers, stage_rank, modifier_rank, place_of, with_end, following, element_rank, element_cmp, numbered_cmp}
use Rattle.version_norm.specs.NextVersions.{next_modifier, next_mark, next_version}
use Rattle.version_norm.proofs.Following.{with_end_above, final_above}

abbrev elements : List Element → List Element → Ordering
elements = slice_cmp element_cmp

-- the order of what stands behind the numbers
abbrev tail_cmp : Option Modifier → Bool → Option Modifier → Bool → Ordering
tail_cmp p a q b = ordering_then (nat_cmp (place_of (modifier_rank p a)) (place_of (modifier_rank q b))) (elements (following p a) (following q b))

-- ---- the next one is above

same_element : (x : Element) → element_cmp x x ≡ Equal
same_element x = tied_itself nat_cmp_total (element_rank x)

front_cmp : (ns : List ℕ) (xs ys : List Element) → elements (map Number ns ++ xs) (map Number ns ++ ys) ≡ elements xs ys
front_cmp [] xs ys = refl
front_cmp (n ∷ ns) xs ys = rw (same_element (Number n)) (front_cmp ns xs ys)

one_longer : (ns : List ℕ) → with_end (ns ++ 0 ∷ []) true ≡ map Number ns ++ Number 0 ∷ Dev ∷ []
one_longer [] = refl
one_longer (n ∷ ns) = ap (λ (xs : List Element). Number n ∷ xs) (one_longer ns)

tail_above : (p : Option Modifier) (a : Bool) → tail_cmp p a (next_modifier p a) (next_mark p a) ≡ Less
tail_above None true = refl
tail_above None false = refl
tail_above (Some m) true = rw (tied_itself nat_cmp_total (place_of (stage_rank m.stage))) (front_cmp m.numbers (Dev ∷ []) (End ∷ []))
tail_above (Some m) false = rw (tied_itself nat_cmp_total (place_of (stage_rank m.stage)), one_longer m.numbers) (front_cmp m.numbers (End ∷ []) (Number 0 ∷ Dev ∷ []))

pub next_above : (v : Numbered) → numbered_cmp v (next_version v) ≡ Less
next_above v = rw (tied_itself byte_cmp_total (four_numbers v.numbers)) (tail_above v.modifier v.dev)

-- ---- nothing is between

-- what is below by an order and above by its converse is decided by what follows
behind_equal : (o p x y : Ordering) → p ≡ ordering_reverse o → ordering_then o x ≡ Less → ordering_then p y ≡ Less → (x ≡ Less) × (y ≡ Less)
behind_equal Less p x y turned e f = absurd (let g : ordering_then Greater y ≡ Less = rw turned at f in cc)
behind_equal Equal p x y turned e f = (e, (let g : ordering_then Equal y ≡ Less = rw turned at f in g))
behind_equal Greater p x y turned e f = absurd cc

-- no list is below the dev mark alone
dev_least : (ns : List ℕ) (d : Bool) → elements (with_end ns d) (Dev ∷ []) ≡ Less → ⊥
dev_least [] true e = cc
dev_least [] false e = cc
dev_least (n ∷ ns) d e = let g = rw (final_above true n) at e in cc

dev_end : (ns ms : List ℕ) (d : Bool) → elements (with_end ns true) (with_end ms d) ≡ Less → elements (with_end ms d) (with_end ns false) ≡ Less → ⊥
dev_end [] [] true e f = cc
dev_end [] [] false e f = cc
dev_end [] (m ∷ ms) d e f = let g = rw (final_above false m) at f in cc
dev_end (n ∷ ns) [] d e f = let g = rw (final_above d n) at e in cc
dev_end (n ∷ ns) (m ∷ ms) d e f =
    let both = behind_equal (element_cmp (Number n) (Number m)) (element_cmp (Number m) (Number n)) (elements (with_end ns true) (with_end ms d)) (elements (with_end ms d) (with_end ns false)) (nat_cmp_total.antisymm (2 + m) (2 + n)) e f in
    dev_end ns ms d both.0 both.1

least_number : (m : ℕ) → element_cmp (Number m) (Number 0) ≡ Less → ⊥
least_number m e = grind (arith, nat_tests)

end_next : (ns ms : List ℕ) (d : Bool) → elements (with_end ns false) (with_end ms d) ≡ Less → elements (with_end ms d) (map Number ns ++ Number 0 ∷ Dev ∷ []) ≡ Less → ⊥
end_next [] [] true e f = cc
end_next [] [] false e f = cc
end_next [] (m ∷ ms) d e f = by (element_cmp (Number m) (Number 0)) refl f
  where
    by : (o : Ordering) → element_cmp (Number m) (Number 0) ≡ o → ordering_then o (elements (with_end ms d) (Dev ∷ [])) ≡ Less → ⊥
    by Less h g = least_number m h
    by Equal h g = dev_least ms d g
    by Greater h g = cc
end_next (n ∷ ns) [] d e f = let g = rw (final_above d n) at e in cc
end_next (n ∷ ns) (m ∷ ms) d e f =
    let both = behind_equal (element_cmp (Number n) (Number m)) (element_cmp (Number m) (Number n)) (elements (with_end ns false) (with_end ms d)) (elements (with_end ms d) (map Number ns ++ Number 0 ∷ Dev ∷ [])) (nat_cmp_total.antisymm (2 + m) (2 + n)) e f in
    end_next ns ms d both.0 both.1

-- none is between a dev mark alone and alpha with it, nor between a version without either and patch with it
alpha_next : (stage : Stage) (ms : List ℕ) (d : Bool) → ordering_then (nat_cmp (place_of (stage_rank stage)) 1) (elements (with_end ms d) (Dev ∷ [])) ≡ Less → ⊥
alpha_next stages.Alpha ms d f = dev_least ms d f
alpha_next stages.Beta ms d f = cc
alpha_next stages.Rc ms d f = cc
alpha_next stages.Patch ms d f = cc

patch_next : (stage : Stage) (ms : List ℕ) (d : Bool) → ordering_then (nat_cmp 4 (place_of (stage_rank stage))) (elements [] (with_end ms d)) ≡ Less → ordering_then (nat_cmp (place_of (stage_rank stage)) 5) (elements (with_end ms d) (Dev ∷ [])) ≡ Less → ⊥
patch_next stages.Alpha ms d e f = cc
patch_next stages.Beta ms d e f = cc
patch_next stages.Rc ms d e f = cc
patch_next stages.Patch ms d e f = dev_least ms d f

tail_between : (p : Option Modifier) (a : Bool) (q : Option Modifier) (b : Bool) → tail_cmp p a q b ≡ Less → tail_cmp q b (next_modifier p a) (next_mark p a) ≡ Less → ⊥
tail_between None true None true e f = cc
tail_between None true None false e f = cc
tail_between None true (Some m) b e f = alpha_next m.stage m.numbers b f
tail_between None false None true e f = cc
tail_between None false None false e f = cc
tail_between None false (Some m) b e f = patch_next m.stage m.numbers b e f
tail_between (Some p) true q b e f =
    let rank = place_of (stage_rank p.stage) in
    let other = place_of (modifier_rank q b) in
    let both = behind_equal (nat_cmp rank other) (nat_cmp other rank) (elements (with_end p.numbers true) (following q b)) (elements (following q b) (with_end p.numbers false)) (nat_cmp_total.antisymm other rank) e f in
    by q both.0 both.1
  where
    by : (q : Option Modifier) → elements (with_end p.numbers true) (following q b) ≡ Less → elements (following q b) (with_end p.numbers false) ≡ Less → ⊥
    by None g h = let above = rw (with_end_above p.numbers true) at g in cc
    by (Some m) g h = dev_end p.numbers m.numbers b g h
tail_between (Some p) false q b e f =
    let rank = place_of (stage_rank p.stage) in
    let other = place_of (modifier_rank q b) in
    let both = behind_equal (nat_cmp rank other) (nat_cmp other rank) (elements (with_end p.numbers false) (following q b)) (elements (following q b) (with_end (p.numbers ++ 0 ∷ []) true)) (nat_cmp_total.antisymm other rank) e f in
    by q both.0 (rw (one_longer p.numbers) at both.1)
  where
    by : (q : Option Modifier) → elements (with_end p.numbers false) (following q b) ≡ Less → elements (following q b) (map Number p.numbers ++ Number 0 ∷ Dev ∷ []) ≡ Less → ⊥
    by None g h = let above = rw (with_end_above p.numbers false) at g in cc
    by (Some m) g h = end_next p.numbers m.numbers b g h

pub none_between : (v w : Numbered) → numbered_cmp v w ≡ Less → numbered_cmp w (next_version v) ≡ Less → ⊥
none_between v w e f =
    let mine = four_numbers v.numbers in
    let others = four_numbers w.numbers in
    let both = behind_equal (byte_cmp mine others) (byte_cmp others mine) (tail_cmp v.modifier v.dev w.modifier w.dev) (tail_cmp w.modifier w.dev (next_modifier v.modifier v.dev) (next_mark v.modifier v.dev)) (byte_cmp_total.antisymm others mine) e f in
    tail_between v.modifier v.dev w.modifier w.dev both.0 both.1
