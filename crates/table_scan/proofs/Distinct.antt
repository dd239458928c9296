-- Rows with distinct keys have no key that is repeated.
use Rattle.std.proofs.Common.{◌≡◌, ℕ, false, List, [], ◌∷◌, ◌++◌, map, refl, sym, ap, ◌∙◌, append_assoc}
use Rattle.std.specs.List.{AllByRecursion, IsDistinct}
use Rattle.std.proofs.lemmas.List.{append-nil}
use Rattle.path_name.specs.Orders.{bytes_are_equal}
use Rattle.table_scan.specs.TableGrammar.{put, put_all, last_values}
use Rattle.table_scan.specs.DistinctKeys.{AreDistinct}

module _ {R : Type 0} (key : R → List ℕ) where
  -- the key is that of none of the rows
  abbrev IsNew : List R → List ℕ → Type 0
  IsNew [] k = Unit {0}
  IsNew (row ∷ rows) k = (bytes_are_equal (key row) k ≡ false) × IsNew rows k

  abbrev AreNew : List R → List R → Type 0
  AreNew done [] = Unit {0}
  AreNew done (row ∷ rows) = IsNew done (key row) × AreNew done rows

  put_new : (done : List R) (row : R) → IsNew done (key row) → put key done row ≡ done ++ row ∷ []
  put_new [] row h = refl
  put_new (first ∷ done) row h = rw h.0 (ap (λ rs. first ∷ rs) (put_new done row h.1))

  new_last : (done : List R) (row : R) (k : List ℕ) → IsNew done k → bytes_are_equal (key row) k ≡ false → IsNew (done ++ row ∷ []) k
  new_last [] row k h e = (e, tt)
  new_last (first ∷ done) row k h e = (h.0, new_last done row k h.1 e)

  all_new_last : (done : List R) (row : R) (rows : List R) → AreNew done rows → AllByRecursion (λ k. bytes_are_equal (key row) k ≡ false) (map key rows) → AreNew (done ++ row ∷ []) rows
  all_new_last done row [] h a = tt
  all_new_last done row (next ∷ rows) h a = (new_last done row (key next) h.0 a.0, all_new_last done row rows h.1 a.1)

  put_all_new : (done rows : List R) → AreNew done rows → AreDistinct (map key rows) → put_all key done rows ≡ done ++ rows
  unfolding IsDistinct
  put_all_new done [] h d = sym (append-nil done)
  put_all_new done (row ∷ rows) h d = ap (λ rs. put_all key rs rows) (put_new done row h.0) ∙ put_all_new (done ++ row ∷ []) rows (all_new_last done row rows h.1 d.0) d.1 ∙ append_assoc done (row ∷ []) rows

  none_before : (rows : List R) → AreNew [] rows
  none_before [] = tt
  none_before (row ∷ rows) = (tt, none_before rows)

  pub distinct_are_last : (rows : List R) → AreDistinct (map key rows) → rows ≡ last_values key rows
  unfolding last_values
  distinct_are_last rows d = sym (put_all_new [] rows (none_before rows) d)
