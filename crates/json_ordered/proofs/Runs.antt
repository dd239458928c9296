-- A run of bytes that pass a test, seen a vector at a time through the mask of those that fail it.
use Rattle.std.proofs.Common.{◌≡◌, ℕ, suc, ◌+◌, ◌*◌, ◌<◌, ◌≤◌, Bool, true, false, not, ◌&&◌, cond, eqb, List, [], ◌∷◌, map, length, take, drop, refl, sym, ap, ap₂, ◌∙◌, subst, arith}
use Rattle.std.proofs.lemmas.Simd.{chunk-drop, length-chunk, leading_from_mask_l, trailing_mask_l}
use Rattle.std.proofs.lemmas.List.{length-drop}
use Rattle.std.proofs.lemmas.List.Folds.{prefix_len-append}
use Rattle.std.proofs.lemmas.List.Sums.{prefix_len-le-length}
use Rattle.std.proofs.lemmas.Bool.{eq-eqb, ne_eqb}
use Rattle.std.specs.List.{prefix_len, list_all}
use lib.Lanes.{chunk, mask_l}
use lib.Count.{count_trailing_zeros}
use Rattle.json_ordered.specs.JsonScans.{failing}

pub run_bound : (p : ℕ → Bool) (text : List ℕ) (i : ℕ) → i ≤ length text → i + prefix_len p (drop i text) ≤ length text
run_bound p text i h = omega (arith, prefix_len-le-length p (drop i text), length-drop i text)

next : (n : ℕ) → suc n ≡ 1 + n
next n = omega arith

not-not : (b : Bool) → b ≡ not (not b)
not-not true = refl
not-not false = refl

none_fails : (b : Bool) (n l m : ℕ) → n ≤ l → cond (not b) (1 + n) 0 ≡ 1 + l → (n ≡ l → m ≡ 0) → cond b 1 0 + 2 * m ≡ 0
none_fails true n l m le e ih = let no : ⊥ = omega arith in absurd no
none_fails false n l m le e ih = let z = ih (omega arith) in omega arith

module _ (p : ℕ → Bool) where
  abbrev fails : ℕ → Bool
  fails x = not (p x)

  same_run : (xs : List ℕ) → prefix_len p xs ≡ prefix_len (λ x. not (fails x)) xs
  same_run [] = refl
  same_run (x ∷ xs) = ap₂ (λ b n. cond b (1 + n) 0) (not-not (p x)) (same_run xs)

  all_pass : (xs : List ℕ) → prefix_len (λ x. not (fails x)) xs ≡ length xs → mask_l (map fails xs) ≡ 0
  all_pass [] e = refl
  all_pass (x ∷ xs) e = none_fails (fails x) _ (length xs) _ (prefix_len-le-length (λ y. not (fails y)) xs) (omega arith) (all_pass xs)

  split : (text : List ℕ) (i n : ℕ) → prefix_len p (drop i text) ≡ cond (eqb (prefix_len p (chunk i n text)) (length (chunk i n text))) (length (chunk i n text) + prefix_len p (drop (i + n) text)) (prefix_len p (chunk i n text))
  split text i n = ap (prefix_len p) (chunk-drop i n text) ∙ prefix_len-append p (chunk i n text) (drop (i + n) text)

  pub run_through : (text : List ℕ) (i n : ℕ) → i + n ≤ length text → failing p (chunk i n text) ≡ 0 → prefix_len p (drop i text) ≡ n + prefix_len p (drop (i + n) text)
  run_through text i n room none =
      let c = chunk i n text in
      split text i n ∙ ap (λ b. cond b (length c + prefix_len p (drop (i + n) text)) (prefix_len p c)) (eq-eqb _ _ (same_run c ∙ leading_from_mask_l fails c none))
      ∙ ap (λ k. k + prefix_len p (drop (i + n) text)) (length-chunk i n text room)

  pub run_stops : (text : List ℕ) (i n : ℕ) → i + n ≤ length text → n ≤ 64 → 0 < failing p (chunk i n text) → prefix_len p (drop i text) ≡ count_trailing_zeros 64 (failing p (chunk i n text))
  run_stops text i n room short some =
      let c = chunk i n text in
      split text i n ∙ ap (λ b. cond b (length c + prefix_len p (drop (i + n) text)) (prefix_len p c)) (ne_eqb _ _ (λ (e : prefix_len p c ≡ length c). omega (arith, all_pass c (sym (same_run c) ∙ e))))
      ∙ same_run c ∙ sym (trailing_mask_l fails 64 c (omega (arith, length-chunk i n text room)) some)

  -- ---- the run and what is behind it

  pub all_of_run : (text : List ℕ) → list_all p (take (prefix_len p text) text) ≡ true
  all_of_run [] = refl
  all_of_run (x ∷ xs) = by_first (p x) refl (all_of_run xs)
    where
      by_first : (b : Bool) → p x ≡ b → list_all p (take (prefix_len p xs) xs) ≡ true → list_all p (take (cond b (1 + prefix_len p xs) 0) (x ∷ xs)) ≡ true
      by_first false e h = refl
      by_first true e h = subst (λ (k : ℕ). list_all p (take k (x ∷ xs)) ≡ true) (next (prefix_len p xs)) (ap (λ (b : Bool). b && list_all p (take (prefix_len p xs) xs)) e ∙ h)

  abbrev pub Stops : List ℕ → Type 0
  Stops [] = Unit {0}
  Stops (x ∷ xs) = p x ≡ false

  pub behind_run : (text : List ℕ) → Stops (drop (prefix_len p text) text)
  behind_run [] = tt
  behind_run (x ∷ xs) = by_first (p x) refl (behind_run xs)
    where
      by_first : (b : Bool) → p x ≡ b → Stops (drop (prefix_len p xs) xs) → Stops (drop (cond b (1 + prefix_len p xs) 0) (x ∷ xs))
      by_first false e h = e
      by_first true e h = subst (λ (k : ℕ). Stops (drop k (x ∷ xs))) (next (prefix_len p xs)) h
