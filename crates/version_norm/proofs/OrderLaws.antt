-- The order of numbered versions is total, and what compares as equal is the same.
use Rattle.std.proofs.Common.{◌≡◌, ℕ, ◌+◌, Bool, true, false, List, [], ◌∷◌, Option, Some, None, refl, ap, sym, ◌∙◌, arith}
use Rattle.std.specs.Prelude.{◌==◌, if◌then◌else◌}
use Rattle.std.specs.Cmp.{IsTotalOrder}
use Rattle.std.specs.Cmp.Lexicographic.{slice_cmp}
use Rattle.std.specs.Ordering.{nat_cmp, ordering_then}
use Rattle.std.specs.declared.cmp.Ordering.{Ordering}
use Rattle.std.specs.declared.cmp.Ordering.TheVariants.{Less, Equal, Greater}
use Rattle.std.proofs.lemmas.Bool.Decides.{nat_tests}
use Rattle.std.proofs.lemmas.Cmp.{on_total, then_total, lists_total, nat_cmp_total}
use Rattle.path_name.specs.Orders.{byte_cmp, byte_cmp_total, byte_cmp_exact}
use Rattle.version_norm.specs.declared.version.Stage.{Stage}
use Rattle.version_norm.specs.declared.version.Stage.TheVariants as stages
use Rattle.version_norm.specs.declared.version.Modifier.{Modifier}
use Rattle.version_norm.specs.declared.version.Numbers.{Numbers}
use Rattle.version_norm.specs.declared.version.Numbered.{Numbered}
use Rattle.version_norm.specs.VersionOrder.{Element, Dev, End, Number, four_numbers, stage_rank, modifier_rank, place_of, final_element, with_end, following, element_rank, element_cmp, numbered_cmp}

abbrev numbers_of : Numbered → List ℕ
numbers_of v = four_numbers v.numbers

abbrev rank_in : Numbered → ℕ
rank_in v = place_of (modifier_rank v.modifier v.dev)

abbrev following_in : Numbered → List Element
following_in v = following v.modifier v.dev

element_total : IsTotalOrder element_cmp
element_total = on_total element_rank nat_cmp_total

pub numbered_cmp_total : IsTotalOrder numbered_cmp
numbered_cmp_total = then_total (on_total numbers_of byte_cmp_total) (then_total (on_total rank_in nat_cmp_total) (on_total following_in (lists_total element_total)))

-- ---- what compares as equal is the same

both_equal : (first second : Ordering) → ordering_then first second ≡ Equal → (first ≡ Equal) × (second ≡ Equal)
both_equal Less second e = absurd cc
both_equal Equal second e = (refl, e)
both_equal Greater second e = absurd cc

nat_exact : (m n : ℕ) → nat_cmp m n ≡ Equal → m ≡ n
nat_exact m n e = grind (arith, nat_tests)

element_exact : (a b : Element) → element_cmp a b ≡ Equal → a ≡ b
element_exact Dev Dev e = refl
element_exact Dev End e = absurd (let h = nat_exact 0 1 e in omega arith)
element_exact Dev (Number n) e = absurd (let h = nat_exact 0 (2 + n) e in omega arith)
element_exact End Dev e = absurd (let h = nat_exact 1 0 e in omega arith)
element_exact End End e = refl
element_exact End (Number n) e = absurd (let h = nat_exact 1 (2 + n) e in omega arith)
element_exact (Number m) Dev e = absurd (let h = nat_exact (2 + m) 0 e in omega arith)
element_exact (Number m) End e = absurd (let h = nat_exact (2 + m) 1 e in omega arith)
element_exact (Number m) (Number n) e = let h = nat_exact (2 + m) (2 + n) e in let same : m ≡ n = omega arith in ap Number same

elements_exact : (xs ys : List Element) → slice_cmp element_cmp xs ys ≡ Equal → xs ≡ ys
elements_exact [] [] e = refl
elements_exact [] (y ∷ ys) e = absurd cc
elements_exact (x ∷ xs) [] e = absurd cc
elements_exact (x ∷ xs) (y ∷ ys) e =
    let both = both_equal (element_cmp x y) (slice_cmp element_cmp xs ys) e in
    let head = element_exact x y both.0 in
    let tail = elements_exact xs ys both.1 in
    cc

-- the stage of a rank
abbrev stage_at : ℕ → Option Stage
stage_at n = if n == 1 then Some stages.Alpha else (if n == 2 then Some stages.Beta else (if n == 3 then Some stages.Rc else Some stages.Patch))

stage_at_rank : (a : Stage) → stage_at (place_of (stage_rank a)) ≡ Some a
stage_at_rank stages.Alpha = refl
stage_at_rank stages.Beta = refl
stage_at_rank stages.Rc = refl
stage_at_rank stages.Patch = refl

stage_exact : (a b : Stage) → place_of (stage_rank a) ≡ place_of (stage_rank b) → a ≡ b
stage_exact a b e = let same : ◌≡◌ {A = Option Stage} (Some a) (Some b) = sym (stage_at_rank a) ∙ ap stage_at e ∙ stage_at_rank b in cc

stage_no_release : (a : Stage) (dev : Bool) → place_of (stage_rank a) ≡ place_of (modifier_rank None dev) → ⊥
stage_no_release stages.Alpha true e = absurd (let n : 1 ≡ 0 = e in omega arith)
stage_no_release stages.Alpha false e = absurd (let n : 1 ≡ 4 = e in omega arith)
stage_no_release stages.Beta true e = absurd (let n : 2 ≡ 0 = e in omega arith)
stage_no_release stages.Beta false e = absurd (let n : 2 ≡ 4 = e in omega arith)
stage_no_release stages.Rc true e = absurd (let n : 3 ≡ 0 = e in omega arith)
stage_no_release stages.Rc false e = absurd (let n : 3 ≡ 4 = e in omega arith)
stage_no_release stages.Patch true e = absurd (let n : 5 ≡ 0 = e in omega arith)
stage_no_release stages.Patch false e = absurd (let n : 5 ≡ 4 = e in omega arith)

release_dev : (a b : Bool) → place_of (modifier_rank None a) ≡ place_of (modifier_rank None b) → a ≡ b
release_dev true true e = refl
release_dev true false e = absurd (let n : 0 ≡ 4 = e in omega arith)
release_dev false true e = absurd (let n : 4 ≡ 0 = e in omega arith)
release_dev false false e = refl

final_exact : (a b : Bool) → final_element a ≡ final_element b → a ≡ b
final_exact true true e = refl
final_exact true false e = absurd cc
final_exact false true e = absurd cc
final_exact false false e = refl

final_no_number : (a : Bool) (n : ℕ) → final_element a ≡ Number n → ⊥
final_no_number true n e = cc
final_no_number false n e = cc

with_end_exact : (ms ns : List ℕ) (a b : Bool) → with_end ms a ≡ with_end ns b → (ms ≡ ns) × (a ≡ b)
with_end_exact [] [] a b e = (refl, final_exact a b cc)
with_end_exact [] (n ∷ ns) a b e = absurd (final_no_number a n cc)
with_end_exact (m ∷ ms) [] a b e = absurd (final_no_number b m cc)
with_end_exact (m ∷ ms) (n ∷ ns) a b e =
    let head : m ≡ n = cc in
    let tail : with_end ms a ≡ with_end ns b = cc in
    let more = with_end_exact ms ns a b tail in
    let first = more.0 in
    (cc, more.1)

-- equal ranks and what follows say the modifier and the dev mark
tail_exact : (p q : Option Modifier) (a b : Bool) → place_of (modifier_rank p a) ≡ place_of (modifier_rank q b) → following p a ≡ following q b → (p ≡ q) × (a ≡ b)
tail_exact None None a b rank e = (refl, release_dev a b rank)
tail_exact None (Some q) a b rank e = absurd (stage_no_release q.stage a (sym rank))
tail_exact (Some p) None a b rank e = absurd (stage_no_release p.stage b rank)
tail_exact (Some p) (Some q) a b rank e =
    let stage = stage_exact p.stage q.stage rank in
    let both = with_end_exact p.numbers q.numbers a b e in
    let numbers = both.0 in
    let same : p ≡ q = λ i. record { stage = stage i; numbers = numbers i } in
    (λ i. Some (same i), both.1)

numbers_exact : (m n : Numbers) → four_numbers m ≡ four_numbers n → m ≡ n
numbers_exact m n e =
    let major : m.major ≡ n.major = cc in
    let minor : m.minor ≡ n.minor = cc in
    let release : m.release ≡ n.release = cc in
    let build : m.build ≡ n.build = cc in
    λ i. record { major = major i; minor = minor i; release = release i; build = build i }

pub numbered_cmp_exact : (a b : Numbered) → numbered_cmp a b ≡ Equal → a ≡ b
numbered_cmp_exact a b e =
    let first = both_equal (byte_cmp (numbers_of a) (numbers_of b)) (ordering_then (nat_cmp (rank_in a) (rank_in b)) (slice_cmp element_cmp (following_in a) (following_in b))) e in
    let second = both_equal (nat_cmp (rank_in a) (rank_in b)) (slice_cmp element_cmp (following_in a) (following_in b)) first.1 in
    let numbers = numbers_exact a.numbers b.numbers (byte_cmp_exact (numbers_of a) (numbers_of b) first.0) in
    let tail = tail_exact a.modifier b.modifier a.dev b.dev (nat_exact (rank_in a) (rank_in b) second.0) (elements_exact (following_in a) (following_in b) second.1) in
    λ i. record { numbers = numbers i; modifier = tail.0 i; dev = tail.1 i }
