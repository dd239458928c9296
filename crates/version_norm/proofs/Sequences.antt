-- Sequences of numbers: a bound of as many as there are bytes is enough, and a loop goes on where it left off.
use Rattle.std.proofs.Common.{◌≡◌, ℕ, zero, suc, ◌<◌, ◌≤◌, Bool, true, false, cond, List, [], ◌∷◌, ◌++◌, length, Result, Ok, Err, refl, ap, sym, ◌∙◌, arith, append_assoc}
use Rattle.std.proofs.lemmas.List.{append-nil, length-append}
use Rattle.path_name.specs.Given.{◌>>=◌}
use Rattle.version_norm.specs.declared.fault.VersionFault.{VersionFault}
use Rattle.version_norm.specs.Pieces.{Reading, is_dot_or_dash, without_first, begins_with_digit, number_at, following_within, following_at}
use Rattle.version_norm.proofs.Digits.{number_takes}

-- a reading with numbers before it
abbrev pub with_front : List ℕ → Reading (List ℕ) → Reading (List ℕ)
with_front front reading = reading >>= λ x. Ok (front ++ x.0, x.1)

-- the two steps of reading one more number
abbrev more_of : ℕ → Result (ℕ × List ℕ) VersionFault → Reading (List ℕ)
more_of most reading = reading >>= λ number. following_within most number.1 >>= λ others. Ok (number.0 ∷ others.0, others.1)

without_first-le : (p : ℕ → Bool) (text : List ℕ) → length (without_first p text) ≤ length text
without_first-le p [] = omega arith
without_first-le p (b ∷ bs) = elim (p b) as (λ t. length (cond t bs (b ∷ bs)) ≤ length (b ∷ bs)) [ true ↦ omega arith | false ↦ omega arith ]

pub number_shorter : (most : ℕ) (text : List ℕ) (n : ℕ) (rest : List ℕ) → number_at most text ≡ Ok (n, rest) → length rest < length text
number_shorter most text n rest e =
    let t = number_takes most text n rest e in
    omega (arith, ap (length {A = ℕ}) t.parts, length-append t.digits rest, t.some)

-- any two bounds that are enough give one reading
enough : (j k : ℕ) (text : List ℕ) → length text ≤ j → length text ≤ k → following_within j text ≡ following_within k text
unfolding following_within
enough zero zero text hj hk = refl
enough zero (suc k) [] hj hk = refl
enough zero (suc k) (b ∷ bs) hj hk = absurd (omega arith)
enough (suc j) zero [] hj hk = refl
enough (suc j) zero (b ∷ bs) hj hk = absurd (omega arith)
enough (suc j) (suc k) text hj hk =
    let after = without_first is_dot_or_dash text in
    elim (begins_with_digit after) as (λ b. cond b (more_of j (number_at 18 after)) (Ok ([], text)) ≡ cond b (more_of k (number_at 18 after)) (Ok ([], text))) [
      | true ↦ elim (number_at 18 after) as (λ r. number_at 18 after ≡ r → more_of j r ≡ more_of k r) [
        | Ok x ↦ λ e.
            let shorter = number_shorter 18 after x.0 x.1 e in
            let within = without_first-le is_dot_or_dash text in
            rw (enough j k x.1 (omega arith) (omega arith)) refl
        | Err fault ↦ λ e. refl
      ] refl
      | false ↦ refl
    ]

-- a reading of one more number
pub one_number : (text after : List ℕ) (n : ℕ) → begins_with_digit (without_first is_dot_or_dash text) ≡ true → number_at 18 (without_first is_dot_or_dash text) ≡ Ok (n, after)
    → following_at text ≡ with_front (n ∷ []) (following_at after)
unfolding following_within
one_number [] after n digit e = absurd cc
one_number (b ∷ bs) after n digit e =
    let shorter = number_shorter 18 (without_first is_dot_or_dash (b ∷ bs)) n after e in
    let within = without_first-le is_dot_or_dash (b ∷ bs) in
    rw (digit, e, enough (length bs) (length after) after (omega arith) (omega arith)) refl

-- no number is left
pub no_number : (text : List ℕ) → begins_with_digit (without_first is_dot_or_dash text) ≡ false → following_at text ≡ Ok ([], text)
unfolding following_within
no_number [] none = refl
no_number (b ∷ bs) none = rw none refl

-- the number is too long
bad_number : (text : List ℕ) (fault : VersionFault) → begins_with_digit (without_first is_dot_or_dash text) ≡ true → number_at 18 (without_first is_dot_or_dash text) ≡ Err fault → following_at text ≡ Err fault
unfolding following_within
bad_number [] fault digit e = absurd cc
bad_number (b ∷ bs) fault digit e = rw (digit, e) refl

regroup : (front : List ℕ) (n : ℕ) (reading : Reading (List ℕ)) → with_front front (with_front (n ∷ []) reading) ≡ with_front (front ++ n ∷ []) reading
regroup front n (Ok x) = ap (λ (ns : List ℕ). Ok (ns, x.1)) (sym (append_assoc front (n ∷ []) x.0))
regroup front n (Err fault) = refl

-- a loop over the numbers: its step, its refusal and its end
pub goes_on : (front text after : List ℕ) (n : ℕ) (total : Reading (List ℕ)) → begins_with_digit (without_first is_dot_or_dash text) ≡ true → number_at 18 (without_first is_dot_or_dash text) ≡ Ok (n, after)
    → with_front front (following_at text) ≡ total → with_front (front ++ n ∷ []) (following_at after) ≡ total
goes_on front text after n total digit e so_far =
    sym (regroup front n (following_at after)) ∙ ap (with_front front) (sym (one_number text after n digit e)) ∙ so_far

pub refuses : (front text : List ℕ) (fault : VersionFault) (total : Reading (List ℕ)) → begins_with_digit (without_first is_dot_or_dash text) ≡ true → number_at 18 (without_first is_dot_or_dash text) ≡ Err fault
    → with_front front (following_at text) ≡ total → total ≡ Err fault
refuses front text fault total digit e so_far = sym so_far ∙ ap (with_front front) (bad_number text fault digit e)

pub ends : (front text : List ℕ) (total : Reading (List ℕ)) → begins_with_digit (without_first is_dot_or_dash text) ≡ false → with_front front (following_at text) ≡ total → total ≡ Ok (front, text)
ends front text total none so_far = sym so_far ∙ ap (with_front front) (no_number text none) ∙ ap (λ (ns : List ℕ). Ok (ns, text)) (append-nil front)
