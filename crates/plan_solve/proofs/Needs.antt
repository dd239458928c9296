-- Requirements and what was put in order for them: taken, given back, set aside.
use Rattle.std.proofs.Common.{◌≡◌, ℕ, zero, suc, ◌+◌, ◌<◌, Bool, true, false, cond, List, [], ◌∷◌, ◌++◌, length, get_or, set, drop, Option, Some, None, Result, Ok, Err, refl, sym, ap, subst, ◌∙◌, append_assoc}
use Rattle.std.specs.Prelude.{All, IfSome, OnOk, is_ok}
use Rattle.std.specs.BTreeMap.{BTreeMap, get, is_at}
use Rattle.std.specs.Global.{Vec}
use Rattle.std.specs.List.{slice_get}
use Rattle.std.specs.Ordering.{MatchOrdering, nat_cmp, is_eq}
use Rattle.std.specs.declared.cmp.Ordering.{Ordering}
use Rattle.std.specs.declared.cmp.Ordering.TheVariants.{Less, Equal, Greater}
use Rattle.std.proofs.lemmas.Bool.{false≢true}
use Rattle.std.proofs.lemmas.Cmp.{ranked}
use Rattle.std.proofs.lemmas.List.{drop_more, map-append}
use Rattle.std.proofs.lemmas.List.Elements.{All-head, All-tail}
use Rattle.manifest_read.specs.declared.types.Link.{Link}
use Rattle.pkg_pool.specs.declared.pool.Pool.{Pool}
use Rattle.plan_solve.specs.declared.members.Need.{Need}
use Rattle.plan_solve.specs.Search.{links_of, AreNeeds, AreAside}

pub same_item : {X : Type 0} (x y : X) → Some x ≡ Some y → x ≡ y
same_item x y e = cc

-- ---- values that may be missing

pub at_some : {X : Type 0} (P : X → Type 0) (o : Option X) (x : X) → o ≡ Some x → IfSome o P → P x
at_some P o x e is = subst (λ it. IfSome it P) e is

-- what a call puts at the end where it does not fail
pub grown : {X T E : Type 0} (r : Result T E) (new old more : List X) → new ≡ cond (is_ok r) (old ++ more) old → OnOk r (new ≡ old ++ more)
grown (Ok x) new old more e = e
grown (Err x) new old more e = tt

-- ---- the requirement at a place

pub all_at : {X : Type 0} (P : X → Type 0) (xs : List X) (place : ℕ) (x : X) → slice_get xs place ≡ Some x → All P xs → P x
all_at P [] place x there all = absurd cc
all_at P (y ∷ ys) zero x there all = subst P (same_item y x there) (All-head P y ys all)
all_at P (y ∷ ys) (suc place) x there all = all_at P ys place x there (All-tail P y ys all)

pub links_at : (needs : List Need) (place : ℕ) (need : Need) → slice_get needs place ≡ Some need → slice_get (links_of needs) place ≡ Some need.link.now
links_at [] place need there = absurd cc
links_at (first ∷ needs) zero need there = ap (λ it. Some it.link.now) (same_item first need there)
links_at (first ∷ needs) (suc place) need there = links_at needs place need there

-- another list put in order leaves what is required
pub links_set : (needs : List Need) (place : ℕ) (old new : Need) → slice_get needs place ≡ Some old → new.link ≡ old.link → links_of (set needs place new) ≡ links_of needs
links_set [] place old new there same = refl
links_set (first ∷ needs) zero old new there same = ap (λ link. link.now ∷ links_of needs) (same ∙ ap (λ it. it.link) (sym (same_item first old there)))
links_set (first ∷ needs) (suc place) old new there same = ap (λ links. first.link.now ∷ links) (links_set needs place old new there same)

-- what comes last
pub back_taken : {X : Type 0} (front back whole : List X) (n : ℕ) → whole ≡ front ++ back → n ≡ length front → drop n whole ≡ back
back_taken {X = X} front back whole n e size = ap (λ k. drop k whole) size ∙ ap (drop (length front)) e ∙ behind front
  where
    behind : (xs : List X) → drop (length xs) (xs ++ back) ≡ back
    behind [] = refl
    behind (x ∷ xs) = behind xs

-- ---- one more requirement at the end

pub one_link : (links : List Link) (at : ℕ) (link : Link) → at < length links → link ≡ get_or links at link → (new old : List Need) (need : Need) → new ≡ old ++ need ∷ [] → need.link.now ≡ link
    → (all : List Link) → links_of old ++ drop at links ≡ all → links_of new ++ drop (at + 1) links ≡ all
one_link links at link less is new old need longer same all before =
    ap (λ xs. links_of xs ++ drop (at + 1) links) longer
    ∙ ap (λ xs. xs ++ drop (at + 1) links) (map-append (λ it. it.link.now) old (need ∷ []))
    ∙ append_assoc (links_of old) (need.link.now ∷ []) (drop (at + 1) links)
    ∙ ap (λ x. links_of old ++ (x ∷ drop (at + 1) links)) same
    ∙ ap (λ xs. links_of old ++ xs) (sym (drop_more links at link less ∙ ap (λ x. x ∷ drop (at + 1) links) (sym is)))
    ∙ before

-- ---- what is set aside

key_is : (a b : ℕ) → is_eq (nat_cmp a b) ≡ true → a ≡ b
key_is a b e = by (nat_cmp a b) (ranked a b (nat_cmp a b) refl) e
  where
    by : (o : Ordering) → MatchOrdering o (a < b) (a ≡ b) (b < a) → is_eq o ≡ true → a ≡ b
    by Less less f = absurd (false≢true f)
    by Equal same f = same
    by Greater more f = absurd (false≢true f)

pub none_aside : (pool : Pool) (aside : BTreeMap ℕ (Vec Need)) → aside.entries ≡ [] → AreAside pool aside
none_aside pool aside none number = rw none tt

module _ (pool : Pool) (aside new : BTreeMap ℕ (Vec Need)) (number : ℕ) (are : AreAside pool aside) where
  pub aside_less : ((other : ℕ) → get nat_cmp new other ≡ cond (is_at (nat_cmp number) other) None (get nat_cmp aside other)) → AreAside pool new
  aside_less updates other = subst (λ o. IfSome o (AreNeeds pool other)) (sym (updates other)) (by (is_at (nat_cmp number) other))
    where
      by : (t : Bool) → IfSome (cond t None (get nat_cmp aside other)) (AreNeeds pool other)
      by true = tt
      by false = are other

  pub aside_more : (needs : Vec Need) → AreNeeds pool number needs → ((other : ℕ) → get nat_cmp new other ≡ cond (is_at (nat_cmp number) other) (Some needs) (get nat_cmp aside other)) → AreAside pool new
  aside_more needs its updates other = subst (λ o. IfSome o (AreNeeds pool other)) (sym (updates other)) (by (is_at (nat_cmp number) other) refl)
    where
      by : (t : Bool) → is_at (nat_cmp number) other ≡ t → IfSome (cond t (Some needs) (get nat_cmp aside other)) (AreNeeds pool other)
      by true e = subst (λ n. AreNeeds pool n needs) (key_is number other e) its
      by false e = are other
