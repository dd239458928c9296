-- Each of a list, read one after the other: what is read so far, and what is left.
use Rattle.std.proofs.Common.{◌≡◌, ℕ, ◌+◌, ◌<◌, ◌≤◌, List, [], ◌∷◌, ◌++◌, length, drop, map, get_or, Option, Result, Ok, Err, refl, sym, ap, ◌∙◌, append_assoc}
use Rattle.std.proofs.lemmas.List.{append-nil, drop_more, drop_all}
use Rattle.std.specs.List.{enumerate_from}
use Rattle.std.specs.Option.{option_to_list}
use Rattle.path_name.specs.Given.{◌>>=◌}
use Rattle.manifest_read.specs.declared.fault.FieldFault.{FieldFault}
use Rattle.manifest_read.specs.Values.{each}
use Rattle.manifest_read.specs.Repositories.{each_there}

-- what is read of the rest, behind what is read already
abbrev pub behind : {Y : Type 0} → List Y → Result (List Y) FieldFault → Result (List Y) FieldFault
behind done r = r >>= λ ys. Ok (done ++ ys)

behind_none : {Y : Type 0} (r : Result (List Y) FieldFault) → r ≡ behind [] r
behind_none (Ok ys) = refl
behind_none (Err fault) = refl

behind_more : {Y : Type 0} (done front : List Y) (r : Result (List Y) FieldFault) → behind done (r >>= λ ys. Ok (front ++ ys)) ≡ behind (done ++ front) r
behind_more done front (Ok ys) = ap Ok (sym (append_assoc done front ys))
behind_more done front (Err fault) = refl

module _ {X Y : Type 0} (read : X → Result Y FieldFault) where
  abbrev pub gathered : List Y → List X → Result (List Y) FieldFault
  gathered done rest = behind done (each read rest)

  pub at_first : (xs : List X) → each read xs ≡ gathered [] xs
  at_first xs = behind_none (each read xs)

  pub one_more : (done : List Y) (x : X) (y : Y) (rest : List X) → read x ≡ Ok y → gathered done (x ∷ rest) ≡ gathered (done ++ y ∷ []) rest
  unfolding each
  one_more done x y rest e = ap (λ r. behind done (r >>= λ v. each read rest >>= λ vs. Ok (v ∷ vs))) e ∙ behind_more done (y ∷ []) (each read rest)

  pub refused : (done : List Y) (x : X) (fault : FieldFault) (rest : List X) → read x ≡ Err fault → gathered done (x ∷ rest) ≡ Err fault
  unfolding each
  refused done x fault rest e = ap (λ r. behind done (r >>= λ v. each read rest >>= λ vs. Ok (v ∷ vs))) e

  pub at_last : (done : List Y) → gathered done [] ≡ Ok done
  unfolding each
  at_last done = ap Ok (append-nil done)

-- the same where some are skipped
module _ {X Y : Type 0} (read : X → Result (Option Y) FieldFault) where
  abbrev pub gathered_there : List Y → List X → Result (List Y) FieldFault
  gathered_there done rest = behind done (each_there read rest)

  pub there_at_first : (xs : List X) → each_there read xs ≡ gathered_there [] xs
  there_at_first xs = behind_none (each_there read xs)

  pub there_more : (done : List Y) (x : X) (y : Option Y) (rest : List X) → read x ≡ Ok y → gathered_there done (x ∷ rest) ≡ gathered_there (done ++ option_to_list y) rest
  unfolding each_there
  there_more done x y rest e = ap (λ r. behind done (r >>= λ v. each_there read rest >>= λ vs. Ok (option_to_list v ++ vs))) e ∙ behind_more done (option_to_list y) (each_there read rest)

  pub there_refused : (done : List Y) (x : X) (fault : FieldFault) (rest : List X) → read x ≡ Err fault → gathered_there done (x ∷ rest) ≡ Err fault
  unfolding each_there
  there_refused done x fault rest e = ap (λ r. behind done (r >>= λ v. each_there read rest >>= λ vs. Ok (option_to_list v ++ vs))) e

  pub there_at_last : (done : List Y) → gathered_there done [] ≡ Ok done
  unfolding each_there
  there_at_last done = ap Ok (append-nil done)

-- ---- what is left of a list that a loop goes over

-- the item at a place, and what follows it
pub left_at : {X : Type 0} (xs : List X) (i : ℕ) (x : X) → i < length xs → x ≡ get_or xs i x → drop i xs ≡ x ∷ drop (i + 1) xs
left_at xs i x within is = drop_more xs i x within ∙ ap (λ y. y ∷ drop (i + 1) xs) (sym is)

-- the items that are left, seen by a view; and with their numbers
abbrev pub rest : {X Z : Type 0} → (X → Z) → List X → ℕ → List Z
rest view xs i = map view (drop i xs)

abbrev pub numbered_rest : {X Z : Type 0} → (X → Z) → List X → ℕ → List (ℕ × Z)
numbered_rest view xs i = enumerate_from i (map view (drop i xs))

module _ {X Y Z : Type 0} (view : X → Z) (xs : List X) (i : ℕ) (x : X) (within : i < length xs) (is : x ≡ get_or xs i x) where
  pub step : (read : Z → Result Y FieldFault) (done now : List Y) (y : Y) → read (view x) ≡ Ok y → now ≡ done ++ y ∷ []
      → gathered read done (rest view xs i) ≡ gathered read now (rest view xs (i + 1))
  step read done now y e more = ap (λ zs. gathered read done (map view zs)) (left_at xs i x within is) ∙ one_more read done (view x) y (rest view xs (i + 1)) e
      ∙ ap (λ ys. gathered read ys (rest view xs (i + 1))) (sym more)

  pub stop : (read : Z → Result Y FieldFault) (done : List Y) (fault : FieldFault) → read (view x) ≡ Err fault → gathered read done (rest view xs i) ≡ Err fault
  stop read done fault e = ap (λ zs. gathered read done (map view zs)) (left_at xs i x within is) ∙ refused read done (view x) fault (rest view xs (i + 1)) e

  pub numbered_step : (read : ℕ × Z → Result Y FieldFault) (done now : List Y) (y : Y) → read (i, view x) ≡ Ok y → now ≡ done ++ y ∷ []
      → gathered read done (numbered_rest view xs i) ≡ gathered read now (numbered_rest view xs (i + 1))
  numbered_step read done now y e more = ap (λ zs. gathered read done (enumerate_from i (map view zs))) (left_at xs i x within is) ∙ one_more read done (i, view x) y (numbered_rest view xs (i + 1)) e
      ∙ ap (λ ys. gathered read ys (numbered_rest view xs (i + 1))) (sym more)

  pub numbered_stop : (read : ℕ × Z → Result Y FieldFault) (done : List Y) (fault : FieldFault) → read (i, view x) ≡ Err fault → gathered read done (numbered_rest view xs i) ≡ Err fault
  numbered_stop read done fault e = ap (λ zs. gathered read done (enumerate_from i (map view zs))) (left_at xs i x within is) ∙ refused read done (i, view x) fault (numbered_rest view xs (i + 1)) e

  pub there_step : (read : Z → Result (Option Y) FieldFault) (done now : List Y) (y : Option Y) → read (view x) ≡ Ok y → now ≡ done ++ option_to_list y
      → gathered_there read done (rest view xs i) ≡ gathered_there read now (rest view xs (i + 1))
  there_step read done now y e more = ap (λ zs. gathered_there read done (map view zs)) (left_at xs i x within is) ∙ there_more read done (view x) y (rest view xs (i + 1)) e
      ∙ ap (λ ys. gathered_there read ys (rest view xs (i + 1))) (sym more)

  pub there_stop : (read : Z → Result (Option Y) FieldFault) (done : List Y) (fault : FieldFault) → read (view x) ≡ Err fault → gathered_there read done (rest view xs i) ≡ Err fault
  there_stop read done fault e = ap (λ zs. gathered_there read done (map view zs)) (left_at xs i x within is) ∙ there_refused read done (view x) fault (rest view xs (i + 1)) e

  pub numbered_there_step : (read : ℕ × Z → Result (Option Y) FieldFault) (done now : List Y) (y : Option Y) → read (i, view x) ≡ Ok y → now ≡ done ++ option_to_list y
      → gathered_there read done (numbered_rest view xs i) ≡ gathered_there read now (numbered_rest view xs (i + 1))
  numbered_there_step read done now y e more = ap (λ zs. gathered_there read done (enumerate_from i (map view zs))) (left_at xs i x within is) ∙ there_more read done (i, view x) y (numbered_rest view xs (i + 1)) e
      ∙ ap (λ ys. gathered_there read ys (numbered_rest view xs (i + 1))) (sym more)

  pub numbered_there_stop : (read : ℕ × Z → Result (Option Y) FieldFault) (done : List Y) (fault : FieldFault) → read (i, view x) ≡ Err fault → gathered_there read done (numbered_rest view xs i) ≡ Err fault
  numbered_there_stop read done fault e = ap (λ zs. gathered_there read done (enumerate_from i (map view zs))) (left_at xs i x within is) ∙ there_refused read done (i, view x) fault (numbered_rest view xs (i + 1)) e

module _ {X Y Z : Type 0} (view : X → Z) (xs : List X) (i : ℕ) (all : length xs ≤ i) where
  pub end : (read : Z → Result Y FieldFault) (done : List Y) → gathered read done (rest view xs i) ≡ Ok done
  end read done = ap (λ zs. gathered read done (map view zs)) (drop_all i xs all) ∙ at_last read done

  pub numbered_end : (read : ℕ × Z → Result Y FieldFault) (done : List Y) → gathered read done (numbered_rest view xs i) ≡ Ok done
  numbered_end read done = ap (λ zs. gathered read done (enumerate_from i (map view zs))) (drop_all i xs all) ∙ at_last read done

  pub there_end : (read : Z → Result (Option Y) FieldFault) (done : List Y) → gathered_there read done (rest view xs i) ≡ Ok done
  there_end read done = ap (λ zs. gathered_there read done (map view zs)) (drop_all i xs all) ∙ there_at_last read done

  pub numbered_there_end : (read : ℕ × Z → Result (Option Y) FieldFault) (done : List Y) → gathered_there read done (numbered_rest view xs i) ≡ Ok done
  numbered_there_end read done = ap (λ zs. gathered_there read done (enumerate_from i (map view zs))) (drop_all i xs all) ∙ there_at_last read done
