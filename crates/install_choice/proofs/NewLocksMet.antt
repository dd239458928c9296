-- The lock of a new plan is met, and is read of its text.
use Rattle.std.proofs.Common.{◌≡◌, ℕ, ◌+◌, ◌-◌, ◌≤◌, Bool, true, false, List, [], ◌∷◌, ◌++◌, length, map, take, Ok, refl, sym, ap, subst, ◌∙◌, arith, inl, inr}
use Rattle.std.specs.Prelude.{◌⊎◌, nat_lt}
use Rattle.std.specs.List.{AllByRecursion}
use Rattle.std.proofs.lemmas.Bool.Decides.{nat_tests}
use Rattle.tree_dev.specs.Projects.{lock_path}
use Rattle.tree_dev.specs.Trees.{FileTree, read_at}
use Rattle.tree_dev.specs.declared.limits.TheConstants.{FILE_BYTES}
use Rattle.tree_dev.specs.declared.entry.ReadAnswer.TheVariants as answers
use Rattle.manifest_read.specs.declared.types.Manifest.{Manifest}
use Rattle.manifest_read.specs.declared.types.Package.{Package}
use Rattle.pkg_pool.specs.declared.pool.Candidate.{Candidate}
use Rattle.pkg_pool.specs.declared.pool.Pool.{Pool}
use Rattle.plan_rules.specs.Sets.{Chosen, set_of}
use Rattle.plan_rules.specs.Validity.{chosen, is_valid, members}
use Rattle.plan_rules.proofs.Lists.{Among, among_either, among_map, count, count_map, map_among}
use Rattle.plan_rules.proofs.SetMembers.{among_by_name, by_name_among, by_name_count}
use Rattle.lock_file.specs.LockPools.{candidate_of, candidates_of, lock_pool_of}
use Rattle.lock_file.specs.LockText.{lock_text}
use Rattle.lock_file.specs.PlanLocks.{IsLockOf, locked_of}
use Rattle.lock_file.specs.Rereading.{IsTextOf}
use Rattle.lock_file.specs.declared.types.Lock.{Lock}
use Rattle.lock_file.specs.declared.types.Locked.{Locked}
use Rattle.lock_file.proofs.Findings.{all_of, one_of}
use Rattle.project_files.specs.ProjectLock.{few_packages, fields_in, lock_of_text, lock_text_in, pool_in, project_lock_in}
use Rattle.project_files.specs.Documents.{document_in}
use Rattle.project_files.specs.Texts.{text_in}
use Rattle.install_sources.specs.Verdicts.{whole}
use Rattle.install_choice.specs.LockLaws.{HasNewLock, IsMet}
use Rattle.install_choice.proofs.OfferedFolders.{AreOffered, IsNear, pool_offered}
use Rattle.install_choice.proofs.PlanPackages.{IsPlanned, both_count, count_all, count_joined, left_from, runtime_from}
use Rattle.install_choice.proofs.SamePackages.{packages_in, valid_too}
use Rattle.install_choice.specs.declared.chosen.Chosen.{Chosen as Choice}

-- ---- the candidates of a lock

module _ (project : List (List ℕ)) where
  abbrev pub made : Locked → Candidate
  made locked = record {
    «package» = locked.«package»;
    repository = 0;
    url = locked.url;
    folder = take (length project - locked.url.up) project ++ locked.url.path;
    reference = locked.reference;
  }

  one_made : (locked : Locked) → IsNear project locked.url → candidate_of project locked ≡ Ok (made locked)
  unfolding candidate_of
  one_made locked near = rw near refl

  all_made : (list : List Locked) → AllByRecursion (λ (locked : Locked). IsNear project locked.url) list → candidates_of project list ≡ Ok (map made list)
  unfolding candidates_of
  all_made [] near = refl
  all_made (locked ∷ list) near = rw (one_made locked near.0, all_made list near.1) refl

  pub lock_pool : (root : Manifest) (lock : Lock) → AllByRecursion (λ (locked : Locked). IsNear project locked.url) lock.packages → AllByRecursion (λ (locked : Locked). IsNear project locked.url) lock.packages_dev
      → pool_in root lock project ≡ Ok (record { root = root; candidates = map made lock.packages ++ map made lock.packages_dev })
  unfolding pool_in lock_pool_of
  lock_pool root lock near near_dev = rw (all_made lock.packages near, all_made lock.packages_dev near_dev) refl

-- ---- members, in any order

all_chosen : (candidates : List Candidate) → chosen (map (λ candidate. true) candidates) candidates ≡ candidates
all_chosen [] = refl
all_chosen (c ∷ candidates) = ap (λ rest. c ∷ rest) (all_chosen candidates)

chosen_in : (set : Chosen) (candidates : List Candidate) (c : Candidate) → Among c (chosen set candidates) → Among c candidates
chosen_in set [] c there = absurd there
chosen_in [] (first ∷ candidates) c there = absurd there
chosen_in (true ∷ set) (first ∷ candidates) c (inl e) = inl e
chosen_in (true ∷ set) (first ∷ candidates) c (inr there) = inr (chosen_in set candidates c there)
chosen_in (false ∷ set) (first ∷ candidates) c there = inr (chosen_in set candidates c there)

few_chosen : (set : Chosen) (candidates : List Candidate) → length (chosen set candidates) ≤ length candidates
few_chosen set [] = omega arith
few_chosen [] (first ∷ candidates) = omega arith
few_chosen (true ∷ set) (first ∷ candidates) = omega (arith, few_chosen set candidates)
few_chosen (false ∷ set) (first ∷ candidates) = omega (arith, few_chosen set candidates)

module _ (pool : Pool) (set : Chosen) where
  member_chosen : (c : Candidate) → Among c (members pool set) → Among c (chosen set pool.candidates)
  unfolding members
  member_chosen c there = step (among_by_name [] (chosen set pool.candidates) c there)
    where
      step : Among c [] ⊎ Among c (chosen set pool.candidates) → Among c (chosen set pool.candidates)
      step (inl none) = absurd none
      step (inr found) = found

  chosen_member : (c : Candidate) → Among c (chosen set pool.candidates) → Among c (members pool set)
  unfolding members
  chosen_member c there = by_name_among [] (chosen set pool.candidates) c (inr there)

  members_counted : (p : Package → Bool) → count p (packages_in pool set) ≡ count (λ it. p it.«package») (chosen set pool.candidates)
  unfolding members
  members_counted p = omega (arith, count_map p (λ it. it.«package») (members pool set), by_name_count (λ it. p it.«package») [] (chosen set pool.candidates))

-- ---- the lock of a plan

module _ (project : List (List ℕ)) (pool : Pool) (plan hash : List ℕ) (lock : Lock) (is : IsLockOf pool plan hash lock) (offered : AreOffered project pool.candidates) where
  abbrev planned : Chosen
  planned = set_of (length pool.candidates) plan

  abbrev candidates : List Candidate
  candidates = map (made project) lock.packages ++ map (made project) lock.packages_dev

  abbrev lock_pool_is : Pool
  lock_pool_is = record { root = pool.root; candidates = candidates }

  near_of : (locked : Locked) → IsPlanned pool plan is.runtime is.is_runtime locked → IsNear project locked.url
  near_of locked from = subst (λ (it : Locked). IsNear project it.url) from.2 (one_of (λ (c : Candidate). IsNear project c.url) pool.candidates from.0 offered.near (chosen_in planned pool.candidates from.0 from.1))

  pub near : AllByRecursion (λ (locked : Locked). IsNear project locked.url) lock.packages
  near = all_of (λ (locked : Locked). IsNear project locked.url) lock.packages (λ locked there. near_of locked (runtime_from pool plan is.runtime is.is_runtime lock.packages is.packages locked there))

  pub near_dev : AllByRecursion (λ (locked : Locked). IsNear project locked.url) lock.packages_dev
  near_dev = all_of (λ (locked : Locked). IsNear project locked.url) lock.packages_dev (λ locked there. near_of locked (left_from pool plan is.runtime is.is_runtime lock.packages_dev is.packages_dev locked there))

  lock_counted : (r : Locked → Bool) → count r lock.packages + count r lock.packages_dev ≡ count (λ c. r (locked_of c)) (chosen planned pool.candidates)
  lock_counted r = both_count pool plan is.runtime is.is_runtime r lock.packages lock.packages_dev is.packages is.packages_dev

  pub few : length lock.packages + length lock.packages_dev ≤ 4096
  few =
      omega (arith, lock_counted (λ it. true), count_all lock.packages, count_all lock.packages_dev, count_all (chosen planned pool.candidates), few_chosen planned pool.candidates, offered.few)

  candidates_counted : (p : Package → Bool) → count (λ it. p it.«package») candidates ≡ count (λ (it : Locked). p it.«package») lock.packages + count (λ (it : Locked). p it.«package») lock.packages_dev
  candidates_counted p =
      omega (
        arith,
        count_joined (λ (it : Candidate). p it.«package») (map (made project) lock.packages) (map (made project) lock.packages_dev),
        count_map (λ (it : Candidate). p it.«package») (made project) lock.packages,
        count_map (λ (it : Candidate). p it.«package») (made project) lock.packages_dev,
      )

  same_counts : (p : Package → Bool) → count p (packages_in lock_pool_is (whole lock_pool_is)) ≡ count p (packages_in pool planned)
  same_counts p =
      members_counted lock_pool_is (whole lock_pool_is) p ∙ ap (count (λ (it : Candidate). p it.«package»)) (all_chosen candidates) ∙ candidates_counted p
      ∙ lock_counted (λ it. p it.«package») ∙ sym (members_counted pool planned p)

  planned_package : (locked : Locked) → IsPlanned pool plan is.runtime is.is_runtime locked → Among locked.«package» (packages_in pool planned)
  planned_package locked from =
      subst (λ (it : Locked). Among it.«package» (packages_in pool planned)) from.2 (map_among (λ it. it.«package») (members pool planned) from.0 (chosen_member pool planned from.0 from.1))

  made_from : (c : Candidate) (list : List Locked) → ((locked : Locked) → Among locked list → IsPlanned pool plan is.runtime is.is_runtime locked) → Among c (map (made project) list) → Among c.«package» (packages_in pool planned)
  made_from c list from there =
      let locked = among_map (made project) list c there in
      subst (λ (it : Candidate). Among it.«package» (packages_in pool planned)) locked.2 (planned_package locked.0 (from locked.0 locked.1))

  candidate_from : (c : Candidate) → Among c (map (made project) lock.packages) ⊎ Among c (map (made project) lock.packages_dev) → Among c.«package» (packages_in pool planned)
  candidate_from c (inl there) = made_from c lock.packages (runtime_from pool plan is.runtime is.is_runtime lock.packages is.packages) there
  candidate_from c (inr there) = made_from c lock.packages_dev (left_from pool plan is.runtime is.is_runtime lock.packages_dev is.packages_dev) there

  package_from : (party : Package) → Among party (packages_in lock_pool_is (whole lock_pool_is)) → Among party (packages_in pool planned)
  package_from party there =
      let c = among_map (λ it. it.«package») (members lock_pool_is (whole lock_pool_is)) party there in
      let found = subst (Among c.0) (all_chosen candidates) (member_chosen lock_pool_is (whole lock_pool_is) c.0 c.1) in
      subst (λ (it : Package). Among it (packages_in pool planned)) c.2
      (candidate_from c.0 (among_either c.0 (map (made project) lock.packages) (map (made project) lock.packages_dev) found))

  pub lock_valid : is_valid pool planned ≡ true → is_valid lock_pool_is (whole lock_pool_is) ≡ true
  lock_valid valid = valid_too pool.root pool.candidates candidates planned (whole lock_pool_is) (record { back = package_from; counts = same_counts }) valid

-- ---- it is met

pub new_lock_met : (t : FileTree) (at : List (List ℕ)) (left : ℕ) (choice : Choice) → HasNewLock t at left choice → IsMet at choice.root choice.lock
new_lock_met t at left choice new =
    let offer = pool_offered t at new.manifest.root left new.loaded new.offered.pool in
    let pool = new.loaded.pool in
    let hash = new.manifest.content_hash in
    let met : IsMet at pool.root choice.lock = record {
      pool = record { root = pool.root; candidates = map (made at) choice.lock.packages ++ map (made at) choice.lock.packages_dev };
      offered = lock_pool at pool.root choice.lock (near at pool new.plan hash choice.lock new.is_lock offer.offered) (near_dev at pool new.plan hash choice.lock new.is_lock offer.offered);
      valid = lock_valid at pool new.plan hash choice.lock new.is_lock offer.offered new.first.valid;
    } in
    subst (λ (root : Manifest). IsMet at root choice.lock) (offer.same ∙ sym new.root) met

-- ---- it is read

few_told : (lock : Lock) → length lock.packages + length lock.packages_dev ≤ 4096 → few_packages lock ≡ Ok tt
unfolding few_packages
few_told lock few = let fits : nat_lt 4096 (length lock.packages + length lock.packages_dev) ≡ false = grind (arith, nat_tests) in rw fits refl

text_read : (lock : Lock) (text : List ℕ) → IsTextOf lock text → few_packages lock ≡ Ok tt → lock_of_text text ≡ Ok lock
unfolding lock_of_text document_in fields_in
text_read lock text is few = rw (is.value, is.fields, few) refl

pub new_lock_read : (t u : FileTree) (at : List (List ℕ)) (left : ℕ) (choice : Choice) → HasNewLock t at left choice → read_at u (lock_path at) FILE_BYTES ≡ answers.Bytes (lock_text choice.lock) → project_lock_in u at ≡ Ok choice.lock
unfolding project_lock_in lock_text_in text_in
new_lock_read t u at left choice new stands =
    let offer = pool_offered t at new.manifest.root left new.loaded new.offered.pool in
    let lock = choice.lock in
    rw stands (text_read lock (lock_text lock) new.read_back (few_told lock (few at new.loaded.pool new.plan new.manifest.content_hash lock new.is_lock offer.offered)))
