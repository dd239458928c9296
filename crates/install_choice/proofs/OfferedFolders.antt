-- The packages that repositories offer: their urls lead to folders of the tree, and there are not too many of them.
use Rattle.std.proofs.Common.{◌≡◌, ℕ, ◌+◌, ◌≤◌, Bool, true, false, cond, List, [], ◌∷◌, ◌++◌, length, Option, Some, None, Result, Ok, Err, refl, subst, arith, length-append}
use Rattle.std.specs.Prelude.{nat_le, nat_lt}
use Rattle.std.specs.List.{AllByRecursion, enumerate_from}
use Rattle.std.proofs.lemmas.Bool.Decides.{nat_tests}
use Rattle.path_name.specs.Given.{◌>>=◌}
use Rattle.path_name.specs.declared.folder_ref.FolderRef.{FolderRef}
use Rattle.tree_dev.specs.Trees.{FileTree}
use Rattle.tree_dev.specs.declared.limits.LimitKind.TheVariants as limits
use Rattle.manifest_read.specs.declared.types.Manifest.{Manifest}
use Rattle.manifest_read.specs.declared.types.Repository.{Repository}
use Rattle.pkg_pool.specs.declared.fault.PoolFault.{PoolFault}
use Rattle.pkg_pool.specs.declared.fault.PoolFault.TheVariants as faults
use Rattle.pkg_pool.specs.declared.origin.Origin.{Origin}
use Rattle.pkg_pool.specs.declared.pool.Candidate.{Candidate}
use Rattle.pkg_pool.specs.declared.pool.Pool.{Pool}
use Rattle.pkg_pool.specs.Outcomes.{each_in_turn}
use Rattle.pkg_pool.specs.Patterns.{seen_from, is_barred, start_of, url_expanded}
use Rattle.pkg_pool.specs.Manifests.{manifest_text, package_of}
use Rattle.pkg_pool.specs.Gathering.{rows_of, is_left_out, with_candidate, bytes_counted}
use Rattle.pkg_pool.specs.Pools.{candidate_of, with_package, Gathering, with_text, with_manifest, with_folder, Progress, origin_of, with_repository, with_numbered, with_repositories, nothing_yet, Loaded, pool_of_tree}
use Rattle.lock_file.proofs.Findings.{all_more}

-- the project has so many segments to leave
abbrev pub IsNear : List (List ℕ) → FolderRef → Type 0
IsNear project url = nat_lt (length project) url.up ≡ false

pub record AreOffered (project : List (List ℕ)) (candidates : List Candidate) : Type 0 where
  pub near : AllByRecursion (λ (c : Candidate). IsNear project c.url) candidates
  pub few : length candidates ≤ 4096

-- ---- steps that may refuse

abbrev Answers : {X : Type 0} → Result X PoolFault → X → Type 0
Answers r x = r ≡ Ok x

same_value : {X : Type 0} (x y : X) → Answers (Ok x) y → x ≡ y
same_value x y e = cc

both : {X Y : Type 0} (r : Result X PoolFault) (next : X → Result Y PoolFault) (y : Y) → r >>= next ≡ Ok y → (x : X) × (r ≡ Ok x) × (next x ≡ Ok y)
both (Ok x) next y e = (x, refl, e)
both (Err fault) next y e = absurd cc

-- what each step keeps, all keep
all_keep : {X S : Type 0} (P : S → Type 0) (step : X → S → Result S PoolFault) → ((x : X) (s next : S) → P s → step x s ≡ Ok next → P next) → (xs : List X) (s last : S) → P s → each_in_turn step xs s ≡ Ok last → P last
unfolding each_in_turn
all_keep P step keeps [] s last p e = subst P (same_value s last e) p
all_keep P step keeps (x ∷ xs) s last p e = let a = both (step x s) (λ next. each_in_turn step xs next) last e in all_keep P step keeps xs a.0 last (keeps x s a.0 p a.1) a.2

-- ---- one more package

not_many : (n : ℕ) → nat_le 4096 n ≡ false → n + 1 ≤ 4096
not_many n e = grind (arith, nat_tests)

one_longer : (candidates : List Candidate) (c : Candidate) → length candidates + 1 ≤ 4096 → length (candidates ++ c ∷ []) ≤ 4096
one_longer candidates c few = let longer : length (candidates ++ c ∷ []) ≡ length candidates + 1 = length-append candidates (c ∷ []) in omega (arith, few, longer)

put_offered : (project : List (List ℕ)) (candidates next : List Candidate) (c : Candidate) → AreOffered project candidates → IsNear project c.url → with_candidate candidates c ≡ Ok next → AreOffered project next
unfolding with_candidate
put_offered project candidates next c all one e = by (is_left_out candidates c) (nat_le 4096 (length candidates)) (nat_le 512 (length (rows_of candidates c.«package».name))) refl e
  where
    by : (a b d : Bool) → nat_le 4096 (length candidates) ≡ b
        → cond a (Ok candidates) (cond b (Err (faults.Limit limits.Packages)) (cond d (Err (faults.Limit (limits.Candidates c.«package».name))) (Ok (candidates ++ c ∷ [])))) ≡ Ok next → AreOffered project next
    by true b d is f = subst (AreOffered project) (same_value candidates next f) all
    by false true d is f = absurd cc
    by false false true is f = absurd cc
    by false false false is f = subst (AreOffered project) (same_value (candidates ++ c ∷ []) next f) (record {
      near = all_more (λ (it : Candidate). IsNear project it.url) candidates c all.near one;
      few = one_longer candidates c (not_many (length candidates) is);
    })

-- ---- what is gathered

abbrev IsGathered : List (List ℕ) → Gathering → Type 0
IsGathered project g = AreOffered project g.candidates

abbrev IsSeen : List (List ℕ) → Origin → Type 0
IsSeen project origin = nat_lt (length project) origin.up ≡ false

text_keeps : (project : List (List ℕ)) (origin : Origin) (folder path : List (List ℕ)) (text : List ℕ) (g next : Gathering) → IsSeen project origin → IsGathered project g → with_text origin folder path text g ≡ Ok next → IsGathered project next
unfolding with_text with_package
text_keeps project origin folder path text g next seen all e =
    let bytes = both (bytes_counted g.bytes text) _ next e in
    let p = both (package_of path text) _ next bytes.2 in
    let candidates = both (with_candidate g.candidates (candidate_of origin folder text p.0)) _ next p.2 in
    let made : Gathering = record { bytes = bytes.0; candidates = candidates.0 } in
    subst (IsGathered project) (same_value made next candidates.2) (put_offered project g.candidates candidates.0 (candidate_of origin folder text p.0) all seen candidates.1)

manifest_keeps : (project : List (List ℕ)) (origin : Origin) (folder : List (List ℕ)) (g next : Gathering) (manifest : Option (List (List ℕ) × List ℕ)) → IsSeen project origin → IsGathered project g → with_manifest origin folder g manifest ≡ Ok next
    → IsGathered project next
manifest_keeps project origin folder g next None seen all e = subst (IsGathered project) (same_value g next e) all
manifest_keeps project origin folder g next (Some manifest) seen all e = text_keeps project origin folder manifest.0 manifest.1 g next seen all e

folder_keeps : (project : List (List ℕ)) (t : FileTree) (origin : Origin) → IsSeen project origin → (folder : List (List ℕ)) (g next : Gathering) → IsGathered project g → with_folder t origin folder g ≡ Ok next → IsGathered project next
unfolding with_folder
folder_keeps project t origin seen folder g next all e = by (is_barred origin.project (seen_from origin folder)) e
  where
    by : (b : Bool) → cond b (Ok g) (manifest_text t (seen_from origin folder) >>= λ manifest. with_manifest origin folder g manifest) ≡ Ok next → IsGathered project next
    by true f = subst (IsGathered project) (same_value g next f) all
    by false f = let manifest = both (manifest_text t (seen_from origin folder)) (λ it. with_manifest origin folder g it) next f in manifest_keeps project origin folder g next manifest.0 seen all manifest.2

start_near : (project : List (List ℕ)) (up : ℕ) (written : List ℕ) (start : List (List ℕ)) → start_of project up written ≡ Ok start → nat_lt (length project) up ≡ false
unfolding start_of
start_near project up written start e = by (nat_lt (length project) up) _ refl e
  where
    by : (b : Bool) (found : Result (List (List ℕ)) PoolFault) → nat_lt (length project) up ≡ b → cond b (Err (faults.MissingPath written)) found ≡ Ok start → nat_lt (length project) up ≡ false
    by true found is f = absurd cc
    by false found is f = is

origin_seen : (project : List (List ℕ)) (number : ℕ) (repository : Repository) (origin : Origin) → origin_of project number repository ≡ Ok origin → IsSeen project origin
unfolding origin_of
origin_seen project number repository origin e =
    let start = both (start_of project repository.up repository.written) _ origin e in
    let made : Origin = record { project = project; start = start.0; up = repository.up; number = number } in
    subst (IsSeen project) (same_value made origin start.2) (start_near project repository.up repository.written start.0 start.1)

repository_keeps : (t : FileTree) (project : List (List ℕ)) (number : ℕ) (repository : Repository) (so_far next : Progress) → IsGathered project so_far.gathering → with_repository t project number repository so_far ≡ Ok next
    → IsGathered project next.gathering
unfolding with_repository
repository_keeps t project number repository so_far next all e =
    let origin = both (origin_of project number repository) _ next e in
    let found = both (url_expanded t origin.0 repository.segments so_far.left) _ next origin.2 in
    let more = both (each_in_turn (with_folder t origin.0) found.0.paths so_far.gathering) _ next found.2 in
    let made : Progress = record { gathering = more.0; left = found.0.left } in
    subst (λ (it : Progress). IsGathered project it.gathering) (same_value made next more.2)
    (all_keep (IsGathered project) (with_folder t origin.0) (folder_keeps project t origin.0 (origin_seen project number repository origin.0 origin.1)) found.0.paths so_far.gathering more.0 all more.1)

-- ---- the pool

pub record IsOffer (project : List (List ℕ)) (root : Manifest) (pool : Pool) : Type 0 where
  pub same : pool.root ≡ root
  pub offered : AreOffered project pool.candidates

pub pool_offered : (t : FileTree) (project : List (List ℕ)) (root : Manifest) (left : ℕ) (loaded : Loaded) → pool_of_tree t project root left ≡ Ok loaded → IsOffer project root loaded.pool
unfolding pool_of_tree
pool_offered t project root left loaded e =
    let all = both (with_repositories t project root.repositories (nothing_yet left)) _ loaded e in
    let made : Loaded = record { pool = record { root = root; candidates = all.0.gathering.candidates }; left = all.0.left } in
    let none : AreOffered project [] = record { near = tt; few = omega arith } in
    subst (λ (it : Loaded). IsOffer project root it.pool) (same_value made loaded all.2)
    (record {
      same = refl;
      offered = all_keep (λ (it : Progress). IsGathered project it.gathering) (with_numbered t project) (λ numbered s next p f. repository_keeps t project numbered.0 numbered.1 s next p f)
          (enumerate_from 0 root.repositories) (nothing_yet left) all.0 none all.1;
    })
