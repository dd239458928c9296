-- Files whose lengths are tested one after another.
use Rattle.std.proofs.Common.{◌≡◌, ℕ, List, [], ◌∷◌, ◌++◌, Result, Ok, Err, IsTrue, refl, sym, ap, subst, ◌∙◌, inl, inr, append_assoc, append-nil}
use Rattle.std.specs.Prelude.{◌⊎◌}
use Rattle.path_name.specs.Given.{◌>>=◌}
use Rattle.stage_job.specs.declared.job.Part.{Part}
use Rattle.run_answers.specs.Faults.{is_free}
use Rattle.run_answers.specs.declared.refusal.Refusal.{Refusal}
use Rattle.table_files.specs.Written.{file_checked, files_checked, part_of, parts_in, parts_of}
use Rattle.table_files.specs.declared.written.WrittenFile.{WrittenFile}

checked_on : (passed rest : Result (Unit {0}) Refusal) (done : Unit {0}) → passed ≡ Ok done → (passed >>= λ x. rest) ≡ rest
checked_on passed rest done is = ap (λ (r : Result (Unit {0}) Refusal). r >>= λ x. rest) is

-- what follows files that pass decides
front_step : (project : List (List ℕ)) (file : WrittenFile) (front rest : List WrittenFile)
    → (files_checked project front ≡ Ok tt → files_checked project (front ++ rest) ≡ files_checked project rest) → (c : Result (Unit {0}) Refusal)
    → file_checked project file ≡ c → (c >>= λ x. files_checked project front) ≡ Ok tt → files_checked project (file ∷ front ++ rest) ≡ files_checked project rest
front_step project file front rest more (Ok x) e passes = checked_on (file_checked project file) (files_checked project (front ++ rest)) x e ∙ more passes
front_step project file front rest more (Err refusal) e passes = absurd cc

pub checked_front : (project : List (List ℕ)) (front rest : List WrittenFile) → files_checked project front ≡ Ok tt → files_checked project (front ++ rest) ≡ files_checked project rest
checked_front project [] rest is = refl
checked_front project (file ∷ front) rest is =
    front_step project file front rest (checked_front project front rest) (file_checked project file) refl is

pub checked_more : (project : List (List ℕ)) (front : List WrittenFile) (file : WrittenFile) (done : Unit {0}) → files_checked project front ≡ Ok tt → file_checked project file ≡ Ok done
    → files_checked project (front ++ file ∷ []) ≡ Ok tt
checked_more project front file done is passes = checked_front project front (file ∷ []) is ∙ checked_on (file_checked project file) (Ok tt) done passes

pub checked_stops : (project : List (List ℕ)) (front rest : List WrittenFile) (file : WrittenFile) (refusal : Refusal) → files_checked project front ≡ Ok tt
    → file_checked project file ≡ Err refusal → files_checked project (front ++ file ∷ rest) ≡ Err refusal
checked_stops project front rest file refusal is stops =
    checked_front project front (file ∷ rest) is ∙ ap (λ (r : Result (Unit {0}) Refusal). r >>= λ x. files_checked project rest) stops

pub parts_more : (front : List WrittenFile) (file : WrittenFile) → parts_of (front ++ file ∷ []) ≡ parts_of front ++ part_of file
parts_more [] file = append-nil (part_of file)
parts_more (first ∷ front) file =
    ap (λ (rest : List Part). part_of first ++ rest) (parts_more front file) ∙ sym (append_assoc (part_of first) (parts_of front) (part_of file))

pub stops_parts : (project : List (List ℕ)) (all front rest : List WrittenFile) (file : WrittenFile) (refusal : Refusal) → all ≡ front ++ file ∷ rest → files_checked project front ≡ Ok tt
    → IsTrue (is_free refusal) ⊎ (file_checked project file ≡ Err refusal) → IsTrue (is_free refusal) ⊎ (parts_in project all ≡ Err refusal)
unfolding parts_in
stops_parts project all front rest file refusal is passes (inl free) = inl free
stops_parts project all front rest file refusal is passes (inr stops) =
    inr (ap (λ (c : Result (Unit {0}) Refusal). c >>= λ x. Ok (parts_of all)) (ap (files_checked project) is ∙ checked_stops project front rest file refusal passes stops))

pub all_parts : (project : List (List ℕ)) (all front : List WrittenFile) (parts : List Part) → front ≡ all → files_checked project front ≡ Ok tt → parts ≡ parts_of front → parts_in project all ≡ Ok parts
unfolding parts_in
all_parts project all front parts same passes put =
    subst (λ (xs : List WrittenFile). (files_checked project xs >>= λ x. Ok (parts_of xs)) ≡ Ok parts) same
    (ap (λ (c : Result (Unit {0}) Refusal). c >>= λ x. Ok (parts_of front)) passes ∙ ap (λ (ps : List Part). Ok ps) (sym put))

pub parts_known : (project : List (List ℕ)) (written : List WrittenFile) (parts : List Part) → parts_in project written ≡ Ok parts → parts ≡ parts_of written
unfolding parts_in
parts_known project written parts e = by (files_checked project written) e
  where
    by : (c : Result (Unit {0}) Refusal) → (c >>= λ x. Ok (parts_of written)) ≡ Ok parts → parts ≡ parts_of written
    by (Ok x) is = let same : ◌≡◌ {A = Result (List Part) Refusal} (Ok (parts_of written)) (Ok parts) = is in cc
    by (Err refusal) is = absurd cc
