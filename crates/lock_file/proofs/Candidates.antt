-- The candidates of locked packages: those that are made so far, and what is left.
use Rattle.std.proofs.Common.{◌≡◌, ℕ, ◌+◌, ◌<◌, ◌≤◌, List, [], ◌∷◌, ◌++◌, length, drop, get_or, Result, Ok, Err, refl, sym, ap, ◌∙◌, append_assoc}
use Rattle.std.proofs.lemmas.List.{append-nil, drop_all}
use Rattle.path_name.specs.Given.{◌>>=◌}
use Rattle.manifest_read.proofs.Gathering.{left_at}
use Rattle.pkg_pool.specs.declared.pool.Candidate.{Candidate}
use Rattle.lock_file.specs.declared.types.Locked.{Locked}
use Rattle.lock_file.specs.declared.fault.LockPoolFault.{LockPoolFault}
use Rattle.lock_file.specs.LockPools.{candidate_of, candidates_of}

-- what the rest gives, behind the candidates that are made already
abbrev behind : List Candidate → Result (List Candidate) LockPoolFault → Result (List Candidate) LockPoolFault
behind done r = r >>= λ more. Ok (done ++ more)

behind_none : (r : Result (List Candidate) LockPoolFault) → r ≡ behind [] r
behind_none (Ok more) = refl
behind_none (Err fault) = refl

behind_more : (done : List Candidate) (one : Candidate) (r : Result (List Candidate) LockPoolFault) → behind done (r >>= λ more. Ok (one ∷ more)) ≡ behind (done ++ one ∷ []) r
behind_more done one (Ok more) = ap Ok (sym (append_assoc done (one ∷ []) more))
behind_more done one (Err fault) = refl

abbrev pub gathered : List (List ℕ) → List Candidate → List Locked → Result (List Candidate) LockPoolFault
gathered project done rest = behind done (candidates_of project rest)

module _ (project : List (List ℕ)) where
  pub at_first : (some : List Locked) → candidates_of project some ≡ gathered project [] some
  at_first some = behind_none (candidates_of project some)

  one_more : (done : List Candidate) (locked : Locked) (one : Candidate) (rest : List Locked) → candidate_of project locked ≡ Ok one → gathered project done (locked ∷ rest) ≡ gathered project (done ++ one ∷ []) rest
  unfolding candidates_of
  one_more done locked one rest e = ap (λ r. behind done (r >>= λ v. candidates_of project rest >>= λ vs. Ok (v ∷ vs))) e ∙ behind_more done one (candidates_of project rest)

  refused : (done : List Candidate) (locked : Locked) (fault : LockPoolFault) (rest : List Locked) → candidate_of project locked ≡ Err fault → gathered project done (locked ∷ rest) ≡ Err fault
  unfolding candidates_of
  refused done locked fault rest e = ap (λ r. behind done (r >>= λ v. candidates_of project rest >>= λ vs. Ok (v ∷ vs))) e

  module _ (some : List Locked) (i : ℕ) where
    pub step : (locked : Locked) → i < length some → locked ≡ get_or some i locked → (done now : List Candidate) (one : Candidate) → candidate_of project locked ≡ Ok one → now ≡ done ++ one ∷ []
        → gathered project done (drop i some) ≡ gathered project now (drop (i + 1) some)
    step locked within is done now one e more = ap (gathered project done) (left_at some i locked within is) ∙ one_more done locked one (drop (i + 1) some) e
        ∙ ap (λ all. gathered project all (drop (i + 1) some)) (sym more)

    pub stop : (locked : Locked) → i < length some → locked ≡ get_or some i locked → (done : List Candidate) (fault : LockPoolFault) → candidate_of project locked ≡ Err fault
        → gathered project done (drop i some) ≡ Err fault
    stop locked within is done fault e = ap (gathered project done) (left_at some i locked within is) ∙ refused done locked fault (drop (i + 1) some) e

    pub end : length some ≤ i → (done : List Candidate) → gathered project done (drop i some) ≡ Ok done
    unfolding candidates_of
    end all done = ap (gathered project done) (drop_all i some all) ∙ ap Ok (append-nil done)
