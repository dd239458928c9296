-- Runs of bytes that pass a test.
use Rattle.std.proofs.Common.{◌≡◌, ℕ, ◌+◌, ◌<◌, ◌≤◌, Bool, true, false, List, [], ◌∷◌, length, get_or, drop, refl, sym, ap, ◌∙◌}
use Rattle.std.proofs.lemmas.List.{drop_more, drop_all}
use Rattle.php_lex.specs.Places.{run_of, after_run}

module _ (test : ℕ → Bool) where
  cons_on : (b : ℕ) (t : List ℕ) → test b ≡ true → after_run test (b ∷ t) ≡ after_run test t
  cons_on b t h = rw h refl

  cons_stop : (b : ℕ) (t : List ℕ) → test b ≡ false → after_run test (b ∷ t) ≡ b ∷ t
  cons_stop b t h = rw h refl

  run_on : (b : ℕ) (t : List ℕ) → test b ≡ true → run_of test (b ∷ t) ≡ b ∷ run_of test t
  run_on b t h = rw h refl

  run_stop : (b : ℕ) (t : List ℕ) → test b ≡ false → run_of test (b ∷ t) ≡ []
  run_stop b t h = rw h refl

  -- one more byte of the run
  pub after_more : (text : List ℕ) (i : ℕ) → i < length text → test (get_or text i 0) ≡ true → after_run test (drop i text) ≡ after_run test (drop (i + 1) text)
  after_more text i lt h = ap (after_run test) (drop_more text i 0 lt) ∙ cons_on (get_or text i 0) (drop (i + 1) text) h

  -- the run stops
  pub after_stop : (text : List ℕ) (i : ℕ) → i < length text → test (get_or text i 0) ≡ false → after_run test (drop i text) ≡ drop i text
  after_stop text i lt h = ap (after_run test) (drop_more text i 0 lt) ∙ cons_stop (get_or text i 0) (drop (i + 1) text) h ∙ sym (drop_more text i 0 lt)

  pub after_end : (text : List ℕ) (i : ℕ) → length text ≤ i → after_run test (drop i text) ≡ drop i text
  after_end text i le = ap (after_run test) (drop_all i text le) ∙ sym (drop_all i text le)
