-- What is known of the targets that were read: none yet, and one more.
use Rattle.std.proofs.Common.{◌≡◌, ◌≢◌, ℕ, ◌<◌, Bool, true, false, cond, List, [], ◌∷◌, ◌++◌, length, get_or, refl, sym, ap, ◌∙◌, subst, inl, inr, arith}
use Rattle.std.specs.Prelude.{◌↔◌, ◌⊎◌, IsTrue, Any}
use Rattle.std.specs.List.{list_any}
use Rattle.std.specs.Ordering.{is_eq}
use Rattle.std.specs.BTreeMap.{is_at}
use Rattle.std.specs.BTreeSet.{BTreeSet, contains, Updates}
use Rattle.std.specs.declared.cmp.Ordering.{Ordering}
use Rattle.std.specs.declared.cmp.Ordering.TheVariants.{Less, Equal, Greater}
use Rattle.std.proofs.lemmas.Bool.{cases_lt}
use Rattle.std.proofs.lemmas.List.{get_or_default, get_or_append_left, length-append}
use Rattle.std.proofs.lemmas.List.Elements.{All-push}
use Rattle.std.proofs.lemmas.List.Quantifiers.{Any-push, all_pairs_push}
use Rattle.path_name.specs.Orders.{path_cmp, path_cmp_exact}
use Rattle.install_world.specs.Targets.{AreApart, AreTargetsApart, IsApartFrom}
use Rattle.install_world.specs.JournalText.{target_words, IsTargetOf, IsJobOf}
use Rattle.install_world.specs.Reading.{Has, AreAllApart, IsRead}
use Rattle.install_world.specs.declared.target.Target.{Target}
use Rattle.install_world.specs.declared.version.Version.{Version}
use Rattle.install_world.proofs.TargetLines.{same_target}

-- ---- none yet

none_below : (targets : List Target) (k : ℕ) → targets ≡ [] → k < length targets → ⊥
none_below [] k empty below = omega arith
none_below (target ∷ targets) k empty below = cc

none_in : (path : List (List ℕ)) (keys : List (List (List ℕ))) → keys ≡ [] → list_any (is_at (path_cmp path)) keys ≡ true → ⊥
none_in path [] empty has = cc
none_in path (x ∷ xs) empty has = cc

pub none_read : (version : Version) (targets : List Target) (paths : BTreeSet (List (List ℕ))) → targets ≡ [] → paths.keys ≡ [] → IsRead version targets paths
none_read version targets paths empty no_keys = record {
  each = λ k d below. absurd (none_below targets k empty below);
  apart = λ i j d less below. absurd (none_below targets j empty below);
  there = λ k d below. absurd (none_below targets k empty below);
  none_else = λ path has. absurd (none_in path paths.keys no_keys has);
}

-- ---- one more

equal_of : (order : Ordering) → is_eq order ≡ true → order ≡ Equal
equal_of Less e = absurd cc
equal_of Equal e = refl
equal_of Greater e = absurd cc

always : (test : Bool) → cond test true true ≡ true
always true = refl
always false = refl

longer : (P : Target → Type 0) (targets more : List Target) → Any P targets → Any P (targets ++ more)
longer P targets more (k, x, below, at, p) =
    (k, x, omega (arith, length-append targets more), get_or_append_left targets more x k below ∙ at, p)

pub one_more : (version : Version) (targets : List Target) (paths now : BTreeSet (List (List ℕ))) (target : Target) → IsRead version targets paths
    → IsTargetOf version target → IsApartFrom targets target → Updates path_cmp paths now target.path true → IsRead version (targets ++ target ∷ []) now
one_more version targets paths now target read is apart updates = record {
  each = All-push (IsTargetOf version) targets target read.each is;
  apart = all_pairs_push AreTargetsApart targets target read.apart apart;
  there = All-push (λ t. Has now t.path) targets target (λ k d below. kept (get_or targets k d).path (read.there k d below)) updates.1;
  none_else = λ path has. from path (is_at (path_cmp target.path) path) refl (sym (updates.0 path) ∙ has);
}
  where
    kept : (path : List (List ℕ)) → Has paths path → Has now path
    kept path has = updates.0 path ∙ ap (cond (is_at (path_cmp target.path) path) true) has ∙ always (is_at (path_cmp target.path) path)

    from : (path : List (List ℕ)) (test : Bool) → is_at (path_cmp target.path) path ≡ test → cond test true (contains path_cmp paths path) ≡ true
        → Any (λ t. t.path ≡ path) (targets ++ target ∷ [])
    from path true e has = Any-push (λ t. t.path ≡ path) targets target (path_cmp_exact target.path path (equal_of (path_cmp target.path path) e))
    from path false e has = longer (λ t. t.path ≡ path) targets (target ∷ []) (read.none_else path has)

-- ---- the paths that were read are apart

pub apart_paths : (version : Version) (targets : List Target) (paths : BTreeSet (List (List ℕ))) → IsRead version targets paths → AreAllApart paths
apart_paths version targets paths read first second has also = by (read.none_else first has) (read.none_else second also)
  where
    element : (k : ℕ) (x d : Target) → k < length targets → get_or targets k x ≡ x → get_or targets k d ≡ x
    element k x d below at = get_or_default targets k d x below ∙ at

    two : (i j : ℕ) (x y : Target) → i < j → j < length targets → i < length targets → get_or targets i x ≡ x → get_or targets j y ≡ y → AreTargetsApart x y
    two i j x y less below also_below at there =
        subst (λ t. AreTargetsApart t y) (element i x y also_below at) (subst (AreTargetsApart (get_or targets i y)) there (read.apart i j y less below))

    along : (x y : Target) → x.path ≡ first → y.path ≡ second → AreTargetsApart x y → AreApart first second
    along x y one other apart = subst (λ path. AreApart path second) one (subst (AreApart x.path) other apart)

    turned : {a b : List (List ℕ)} → AreApart b a → AreApart a b
    turned apart = record { not_below = apart.not_above; not_above = apart.not_below }

    by : Any (λ t. t.path ≡ first) targets → Any (λ t. t.path ≡ second) targets → (first ≡ second) ⊎ AreApart first second
    by (i, x, below, at, one) (j, y, also_below, there, other) = elim (cases_lt i j) [
      | inl less ↦ inr (along x y one other (two i j x y less also_below below at there))
      | inr le ↦ elim (cases_lt j i) [
        | inl less ↦ inr (turned (subst (λ path. AreApart path first) other (subst (AreApart y.path) one (two j i y x less below also_below there at))))
        | inr ge ↦
            let same : i ≡ j = omega arith in
            let elements : x ≡ y = sym (element i x y below at) ∙ ap (λ k. get_or targets k y) same ∙ there in
            inl (sym one ∙ ap (λ t. t.path) elements ∙ other)
      ]
    ]

-- a target is apart from those that were read exactly where its path is from theirs
pub apart_from_read : (version : Version) (targets : List Target) (paths : BTreeSet (List (List ℕ))) (target : Target) → IsRead version targets paths
    → ((other : List (List ℕ)) → Has paths other → AreApart other target.path) → IsApartFrom targets target
apart_from_read version targets paths target read apart k d below = apart (get_or targets k d).path (read.there k d below)

pub apart_from_paths : (version : Version) (targets : List Target) (paths : BTreeSet (List (List ℕ))) (target : Target) → IsRead version targets paths
    → IsApartFrom targets target → (other : List (List ℕ)) → Has paths other → AreApart other target.path
apart_from_paths version targets paths target read apart other has = by (read.none_else other has)
  where
    by : Any (λ t. t.path ≡ other) targets → AreApart other target.path
    by (k, x, below, at, path) = subst (λ p. AreApart p target.path) (ap (λ t. t.path) at ∙ path) (apart k x below)

-- the job of what was read
pub job_of_read : (version : Version) (targets : List Target) (paths : BTreeSet (List (List ℕ))) → IsRead version targets paths → targets ≢ [] → IsJobOf version targets
job_of_read version targets paths read some = record { some = some; each = read.each; apart = read.apart }

-- a line that names a target which is not apart names none that is
pub not_apart_target : (version : Version) (targets : List Target) (paths : BTreeSet (List (List ℕ))) (words : List ℕ) (number : ℕ) (found : Target) (is_apart : Bool)
    → IsRead version targets paths → number ≡ length targets → IsTargetOf version found × (words ≡ target_words number found)
    → (IsTrue is_apart ↔ ((other : List (List ℕ)) → Has paths other → AreApart other found.path)) → is_apart ≡ false
    → (target : Target) → IsTargetOf version target → IsApartFrom targets target → words ≢ target_words (length targets) target
not_apart_target version targets paths words number found is_apart read count named tells fails target is apart e =
    let same : found ≡ target = same_target number found target named.0.place.segments is.place.segments (sym named.1 ∙ e ∙ ap (λ n. target_words n target) (sym count)) in
    let passes : is_apart ≡ true = tells.1 (apart_from_paths version targets paths found read (subst (IsApartFrom targets) (sym same) apart)) in
    cc
