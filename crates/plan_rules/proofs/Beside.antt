-- A candidate fits beside a list exactly where it has no rival among those that are marked.
use Rattle.std.proofs.Common.{◌≡◌, ℕ, zero, suc, ◌+◌, Bool, true, false, not, List, [], ◌∷◌, length, map, Some, None, refl, sym, ap, ◌∙◌, arith}
use Rattle.std.specs.Prelude.{◌&&◌, ◌||◌, option_map}
use Rattle.std.specs.List.{list_any, slice_get}
use Rattle.std.specs.Option.{unwrap_or}
use Rattle.std.proofs.lemmas.Bool.{false≢true}
use Rattle.std.proofs.lemmas.Option.{slice_get-map}
use Rattle.manifest_read.specs.declared.types.Package.{Package}
use Rattle.pkg_pool.specs.Stability.{is_allowed}
use Rattle.pkg_pool.specs.declared.pool.Pool.{Pool}
use Rattle.pkg_pool.specs.declared.pool.Candidate.{Candidate}
use Rattle.plan_rules.specs.declared.rivals.Rivals.{Rivals}
use Rattle.plan_rules.specs.Sets.{Chosen, has, is_in, set_of}
use Rattle.plan_rules.specs.FirstChoice.{packages_of}
use Rattle.plan_rules.specs.Fitting.{are_rivals, suits_platform, fits}
use Rattle.plan_rules.specs.Rivals.{is_marked, any_marked, fits_alone, has_rival, fits_in, AreRivalsOf}
use Rattle.plan_rules.proofs.Lists.{any_among, among_any}
use Rattle.plan_rules.proofs.FirstChoices.{has_one}
use Rattle.plan_rules.proofs.Plans.{among_in, in_among, has_in, chosen_packages, among_chosen_packages, chosen_packages_among, package_in_range}
use Rattle.plan_rules.proofs.MarkedRivals.{both_true, rivals_are}

or_true : (t : Bool) → (t || true) ≡ true
or_true true = refl
or_true false = refl

or_false : (t : Bool) → (t || false) ≡ t
or_false true = refl
or_false false = refl

and_assoc : (a b c : Bool) → ((a && b) && c) ≡ (a && (b && c))
and_assoc true b c = refl
and_assoc false b c = refl

left_true : (s t : Bool) → (s && t) ≡ true → s ≡ true
left_true true t e = refl
left_true false t e = e

right_true : (s t : Bool) → (s && t) ≡ true → t ≡ true
right_true true t e = e
right_true false t e = absurd (false≢true e)

marked_has : (marks : Chosen) (number : ℕ) → is_marked marks number ≡ has marks number
marked_has [] number = refl
marked_has (mark ∷ others) zero = refl
marked_has (mark ∷ others) (suc number) = marked_has others number

first_is : (x y : Package) → Some x ≡ Some y → x ≡ y
first_is x y e = cc

module _ (p : Package → Bool) (marks : Chosen) where
  marked_here : (start at : ℕ) (list : List Package) (party : Package) → slice_get list at ≡ Some party → is_marked marks (start + at) ≡ true → p party ≡ true → any_marked p marks start list ≡ true
  marked_here start at [] party e mark passes = absurd cc
  marked_here start zero (x ∷ xs) party e mark passes =
      let same : start + 0 ≡ start = omega arith in
      rw (ap (is_marked marks) (sym same) ∙ mark, ap p (first_is x party e) ∙ passes) refl
  marked_here start (suc at) (x ∷ xs) party e mark passes =
      let same : start + suc at ≡ suc start + at = omega arith in
      rw (marked_here (suc start) at xs party e (ap (is_marked marks) (sym same) ∙ mark) passes) (or_true (is_marked marks start && p x))

  pub record IsMarked (start : ℕ) (list : List Package) : Type 0 where
    pub at : ℕ
    pub party : Package
    pub there : slice_get list at ≡ Some party
    pub mark : is_marked marks (start + at) ≡ true
    pub passes : p party ≡ true

  here_step : (t : Bool) (start : ℕ) (x : Package) (xs : List Package) → (is_marked marks start && p x) ≡ t → (t || any_marked p marks (suc start) xs) ≡ true
      → (any_marked p marks (suc start) xs ≡ true → IsMarked (suc start) xs) → IsMarked start (x ∷ xs)
  here_step true start x xs e found later =
      let same : start + 0 ≡ start = omega arith in
      record { at = 0; party = x; there = refl; mark = ap (is_marked marks) same ∙ left_true (is_marked marks start) (p x) e; passes = right_true (is_marked marks start) (p x) e }
  here_step false start x xs e found later =
      let one = later found in
      let same : start + suc one.at ≡ suc start + one.at = omega arith in
      record { at = suc one.at; party = one.party; there = one.there; mark = ap (is_marked marks) same ∙ one.mark; passes = one.passes }

  here_marked : (start : ℕ) (list : List Package) → any_marked p marks start list ≡ true → IsMarked start list
  here_marked start [] e = absurd (false≢true e)
  here_marked start (x ∷ xs) e = here_step (is_marked marks start && p x) start x xs refl e (λ later. here_marked (suc start) xs later)

module _ (pool : Pool) (before : List ℕ) (p : Package → Bool) where
  abbrev marks : Chosen
  marks = set_of (length pool.candidates) before

  abbrev packages : List Package
  packages = map (λ candidate. candidate.«package») pool.candidates

  there : list_any p (chosen_packages pool before) ≡ true → any_marked p marks 0 packages ≡ true
  there e =
      let one = among_any p (chosen_packages pool before) e in
      let at = among_chosen_packages pool before one.0 one.1 in
      marked_here p marks 0 at.0 packages one.0 (slice_get-map (λ candidate. candidate.«package») pool.candidates at.0 ∙ at.2)
      (ap (is_marked marks) (omega arith) ∙ marked_has marks at.0 ∙ has_one (length pool.candidates) before at.0 (package_in_range pool at.0 one.0 at.2) (in_among at.0 before at.1)) one.2

  back : any_marked p marks 0 packages ≡ true → list_any p (chosen_packages pool before) ≡ true
  back e =
      let one = here_marked p marks 0 packages e in
      let same : 0 + one.at ≡ one.at = omega arith in
      any_among p (chosen_packages pool before) one.party
      (chosen_packages_among pool before one.at one.party (among_in one.at before (ap (λ n. is_in n before) (sym same) ∙ has_in (length pool.candidates) 0 before one.at (sym (marked_has marks one.at) ∙ ap (is_marked marks) (sym same) ∙ one.mark)))
      (sym (slice_get-map (λ candidate. candidate.«package») pool.candidates one.at) ∙ one.there)) one.passes

  pub chosen_are : any_marked p marks 0 packages ≡ list_any p (chosen_packages pool before)
  chosen_are = both_true (any_marked p marks 0 packages) (list_any p (chosen_packages pool before)) back there

module _ (rivals : Rivals) (pool : Pool) (before : List ℕ) (one : Candidate) (known : AreRivalsOf rivals pool) where
  has_rival_is : has_rival rivals (set_of (length pool.candidates) before) one.«package» ≡ list_any (are_rivals one.«package») (packages_of pool before)
  has_rival_is = rw (
    rivals_are rivals.root (true ∷ []) one.«package» (pool.root.«package» ∷ []) known.root,
    rivals_are rivals.side (set_of (length pool.candidates) before) one.«package» (map (λ candidate. candidate.«package») pool.candidates) known.side,
    chosen_are pool before (are_rivals one.«package»),
    or_false (are_rivals one.«package» pool.root.«package»),
  ) refl

  alone_is : (number : ℕ) → slice_get pool.candidates number ≡ Some one → is_marked rivals.alone.items number ≡ fits_alone pool.root one
  alone_is number found = ap (λ items. is_marked items number) known.alone ∙ ap (λ o. unwrap_or o false) (slice_get-map (fits_alone pool.root) pool.candidates number ∙ ap (option_map (fits_alone pool.root)) found)

  pub fits_are : (number : ℕ) → slice_get pool.candidates number ≡ Some one → fits_in rivals (set_of (length pool.candidates) before) number one ≡ fits pool before one
  unfolding fits
  fits_are number found = rw (alone_is number found, has_rival_is) (and_assoc (is_allowed pool.root one) (suits_platform pool.root.platform one.«package») (not (list_any (are_rivals one.«package») (packages_of pool before))))

pub same_candidate : (x y : Candidate) → Some x ≡ Some y → x ≡ y
same_candidate x y e = cc

pub nothing_there : (one : Candidate) → None ≡ Some one → ⊥
nothing_there one e = absurd cc
