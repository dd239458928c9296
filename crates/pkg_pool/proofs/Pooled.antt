-- The pool of a tree has those that count of all packages that are offered.
use Rattle.std.proofs.Common.{◌≡◌, ℕ, ◌+◌, ◌≤◌, Bool, true, false, cond, List, [], ◌∷◌, ◌++◌, length, Option, Some, None, Result, Ok, Err, refl, sym, ap, ◌∙◌, append_assoc, append-nil, arith}
use Rattle.std.specs.Prelude.{not, ◌&&◌, nat_lt}
use Rattle.std.specs.List.{filter, filter_map, flat_map, cons_option, enumerate_from, AllByRecursion}
use Rattle.std.specs.Option.{option_map}
use Rattle.path_name.specs.Given.{◌>>=◌}
use Rattle.tree_dev.specs.Kinds.{names_entry}
use Rattle.tree_dev.specs.Trees.{FileTree, IsTree, entry_at, kind_at, kind_of, read_at, read_of}
use Rattle.tree_dev.specs.declared.entry.Entry.{Entry}
use Rattle.tree_dev.specs.declared.entry.Entry.TheVariants as entries
use Rattle.tree_dev.specs.declared.entry.ReadAnswer.{ReadAnswer}
use Rattle.tree_dev.specs.declared.entry.ReadAnswer.TheVariants as answers
use Rattle.manifest_read.specs.declared.types.Package.{Package}
use Rattle.manifest_read.specs.declared.types.Manifest.{Manifest}
use Rattle.manifest_read.specs.declared.types.Repository.{Repository}
use Rattle.pkg_pool.specs.declared.fault.PoolFault.{PoolFault}
use Rattle.pkg_pool.specs.declared.origin.Origin.{Origin}
use Rattle.pkg_pool.specs.declared.pool.Candidate.{Candidate}
use Rattle.pkg_pool.specs.Outcomes.{each_in_turn}
use Rattle.pkg_pool.specs.Patterns.{seen_from, is_barred, url_expanded, start_of}
use Rattle.pkg_pool.specs.Manifests.{manifest_path, text_told, told_text, manifest_text, package_of}
use Rattle.pkg_pool.specs.Gathering.{bytes_counted, with_candidate}
use Rattle.pkg_pool.specs.Pools.{Gathering, Progress, Loaded, candidate_of, with_package, with_text, with_manifest, with_folder, with_folders, origin_of, with_repository, with_numbered, with_repositories, nothing_yet, pool_of_tree}
use Rattle.pkg_pool.specs.Matches.{holds_manifest, matches}
use Rattle.pkg_pool.specs.Offered.{candidate_by, candidate_read, candidate_in, offered_by, offered, counted_behind, counted}
use Rattle.pkg_pool.proofs.Levels.{all_mapped}
use Rattle.pkg_pool.proofs.Reached.{went_on, all_went_on, none_went_on}
use Rattle.pkg_pool.proofs.Matching.{expansion, found_matches}
use Rattle.pkg_pool.proofs.Counting.{Covers, add, counts, counted-append}

-- ---- one folder

text_adds : (origin : Origin) (folder path : List (List ℕ)) (text : List ℕ) (g end : Gathering) → with_text origin folder path text g ≡ Ok end
    → each_in_turn add (cons_option (candidate_by origin folder text (package_of path text)) []) g.candidates ≡ Ok end.candidates
unfolding with_text with_package each_in_turn
text_adds origin folder path text g end e =
    let w = went_on (bytes_counted g.bytes text) (λ bytes. package_of path text >>= λ p. with_package origin folder text p g.candidates >>= λ candidates. Ok (record { bytes = bytes; candidates = candidates })) end e in
    let v = went_on (package_of path text) (λ p. with_package origin folder text p g.candidates >>= λ candidates. Ok (record { bytes = w.0; candidates = candidates })) end w.2 in
    let u = went_on (with_package origin folder text v.0 g.candidates) (λ candidates. Ok (record { bytes = w.0; candidates = candidates })) end v.2 in
    let same : record { bytes = w.0; candidates = u.0 } ≡ end = let h = u.2 in cc in
    let put : with_candidate g.candidates (candidate_of origin folder text v.0) ≡ Ok u.0 = u.1 in
    rw (v.1, put) (ap (λ (x : Gathering). Ok x.candidates) same)

entry_adds : (origin : Origin) (folder path : List (List ℕ)) (g end : Gathering) (e : Option Entry)
    → (text_told path (read_of 67108864 e) >>= (λ text. Ok (option_map (λ bytes. (path, bytes)) text)) >>= with_manifest origin folder g) ≡ Ok end
    → path ≡ manifest_path (seen_from origin folder) → each_in_turn add (cons_option (cond (names_entry (kind_of e)) (candidate_read origin folder (read_of 67108864 e)) None) []) g.candidates ≡ Ok end.candidates
unfolding each_in_turn
entry_adds origin folder path g end None e is = let same : g ≡ end = cc in ap (λ (x : Gathering). Ok x.candidates) same
entry_adds origin folder path g end (Some (entries.File bytes)) e is = by_case (nat_lt 67108864 (length bytes)) e
  where
    by_case : (b : Bool) → (text_told path (cond b answers.TooLong (answers.Bytes bytes)) >>= (λ text. Ok (option_map (λ bytes. (path, bytes)) text)) >>= with_manifest origin folder g) ≡ Ok end
        → each_in_turn add (cons_option (candidate_read origin folder (cond b answers.TooLong (answers.Bytes bytes))) []) g.candidates ≡ Ok end.candidates
    by_case true e = absurd cc
    by_case false e = rw (← is) (text_adds origin folder path bytes g end e)
entry_adds origin folder path g end (Some entries.Folder) e is = absurd cc
entry_adds origin folder path g end (Some entries.Other) e is = absurd cc

folder_adds : (t : FileTree) (origin : Origin) (folder : List (List ℕ)) (g end : Gathering) → with_folder t origin folder g ≡ Ok end
    → each_in_turn add (cons_option (cond (holds_manifest t origin folder) (candidate_in t origin folder) None) []) g.candidates ≡ Ok end.candidates
unfolding with_folder holds_manifest candidate_in manifest_text told_text read_at kind_at each_in_turn
folder_adds t origin folder g end e = by_case (is_barred origin.project (seen_from origin folder)) e
  where
    path : List (List ℕ)
    path = manifest_path (seen_from origin folder)

    by_case : (b : Bool) → cond b (Ok g) (text_told (manifest_path (seen_from origin folder)) (read_of 67108864 (entry_at t (manifest_path (seen_from origin folder)))) >>= (λ text. Ok (option_map (λ bytes. (manifest_path (seen_from origin folder), bytes)) text)) >>= with_manifest origin folder g) ≡ Ok end
        → each_in_turn add (cons_option (cond (not b && names_entry (kind_of (entry_at t (manifest_path (seen_from origin folder))))) (candidate_read origin folder (read_of 67108864 (entry_at t (manifest_path (seen_from origin folder))))) None) []) g.candidates ≡ Ok end.candidates
    by_case true e = let same : g ≡ end = cc in ap (λ (x : Gathering). Ok x.candidates) same
    by_case false e = entry_adds origin folder (manifest_path (seen_from origin folder)) g end (entry_at t (manifest_path (seen_from origin folder))) e refl

-- ---- folders

joined : (o : Option Candidate) (rest s m end : List Candidate) → each_in_turn add (cons_option o []) s ≡ Ok m → each_in_turn add rest m ≡ Ok end → each_in_turn add (cons_option o rest) s ≡ Ok end
unfolding each_in_turn
joined None rest s m end first second = let same : s ≡ m = cc in rw same second
joined (Some c) rest s m end first second =
    let w = went_on (add c s) (λ next. Ok next) m first in
    let same : w.0 ≡ m = let h = w.2 in cc in
    rw (w.1, same) second

folders_add : (t : FileTree) (origin : Origin) (folders : List (List (List ℕ))) (g end : Gathering) → each_in_turn (with_folder t origin) folders g ≡ Ok end
    → each_in_turn add (filter_map (candidate_in t origin) (filter (holds_manifest t origin) folders)) g.candidates ≡ Ok end.candidates
unfolding each_in_turn
folders_add t origin [] g end e = ap (λ (x : Gathering). Ok x.candidates) (sym (none_went_on (with_folder t origin) g end e))
folders_add t origin (folder ∷ folders) g end e =
    let w = all_went_on (with_folder t origin) folder folders g end e in
    by_case (holds_manifest t origin folder) w.0 (folder_adds t origin folder g w.0 w.1) (folders_add t origin folders w.0 end w.2)
  where
    by_case : (b : Bool) (next : Gathering) → each_in_turn add (cons_option (cond b (candidate_in t origin folder) None) []) g.candidates ≡ Ok next.candidates
        → each_in_turn add (filter_map (candidate_in t origin) (filter (holds_manifest t origin) folders)) next.candidates ≡ Ok end.candidates
        → each_in_turn add (filter_map (candidate_in t origin) (cond b (folder ∷ filter (holds_manifest t origin) folders) (filter (holds_manifest t origin) folders))) g.candidates ≡ Ok end.candidates
    by_case true next first second = joined (candidate_in t origin folder) (filter_map (candidate_in t origin) (filter (holds_manifest t origin) folders)) g.candidates next.candidates end.candidates first second
    by_case false next first second = joined None (filter_map (candidate_in t origin) (filter (holds_manifest t origin) folders)) g.candidates next.candidates end.candidates first second

numbers : (t : FileTree) (origin : Origin) (folders : List (List (List ℕ))) → AllByRecursion (λ c. c.repository ≡ origin.number) (filter_map (candidate_in t origin) folders)
unfolding candidate_in
numbers t origin [] = tt
numbers t origin (folder ∷ folders) = one (candidate_in t origin folder) (is_one folder) (numbers t origin folders)
  where
    IsNumbered : Option Candidate → Type 0
    IsNumbered o = (c : Candidate) → o ≡ Some c → c.repository ≡ origin.number

    by_package : (folder : List (List ℕ)) (text : List ℕ) (r : Result Package PoolFault) (c : Candidate) → candidate_by origin folder text r ≡ Some c → c.repository ≡ origin.number
    by_package folder text (Ok p) c e = let same : candidate_of origin folder text p ≡ c = cc in ap (λ (x : Candidate). x.repository) (sym same)
    by_package folder text (Err fault) c e = absurd cc

    by_answer : (folder : List (List ℕ)) (a : ReadAnswer) (c : Candidate) → candidate_read origin folder a ≡ Some c → c.repository ≡ origin.number
    by_answer folder (answers.Bytes text) c e = by_package folder text (package_of (manifest_path (seen_from origin folder)) text) c e
    by_answer folder answers.Absent c e = absurd cc
    by_answer folder answers.NotFile c e = absurd cc
    by_answer folder answers.TooLong c e = absurd cc

    is_one : (folder : List (List ℕ)) (c : Candidate) → candidate_in t origin folder ≡ Some c → c.repository ≡ origin.number
    is_one folder c e = by_answer folder (read_at t (manifest_path (seen_from origin folder)) 67108864) c e

    one : (o : Option Candidate) → ((c : Candidate) → o ≡ Some c → c.repository ≡ origin.number) → AllByRecursion (λ c. c.repository ≡ origin.number) (filter_map (candidate_in t origin) folders)
        → AllByRecursion (λ c. c.repository ≡ origin.number) (cons_option o (filter_map (candidate_in t origin) folders))
    one None is more = more
    one (Some c) is more = (is c refl, more)

-- ---- repositories

origin_number : (project : List (List ℕ)) (number : ℕ) (repository : Repository) (origin : Origin) → origin_of project number repository ≡ Ok origin → origin.number ≡ number
unfolding origin_of
origin_number project number repository origin e =
    let w = went_on (start_of project repository.up repository.written) (λ start. Ok (record { project = project; start = start; up = repository.up; number = number })) origin e in
    let same : record { project = project; start = w.0; up = repository.up; number = number } ≡ origin = let h = w.2 in cc in
    ap (λ (o : Origin). o.number) (sym same)

-- what a repository adds
record Adds (number : ℕ) (cs : List Candidate) (before end : Progress) : Type 0 where
  are_numbered : AllByRecursion (λ c. c.repository ≡ number) cs
  put : each_in_turn add cs before.gathering.candidates ≡ Ok end.gathering.candidates

repository_adds : (t : FileTree) (project : List (List ℕ)) (number : ℕ) (repository : Repository) (so_far end : Progress) → IsTree t → with_repository t project number repository so_far ≡ Ok end
    → Adds number (offered_by t project (number, repository)) so_far end
unfolding with_repository
repository_adds t project number repository so_far end tree e =
    let w = went_on (origin_of project number repository) (λ origin. url_expanded t origin repository.segments so_far.left >>= λ found. with_folders t origin found.paths so_far.gathering >>= λ next. Ok (record { gathering = next; left = found.left })) end e in
    let o = w.0 in
    let v = went_on (url_expanded t o repository.segments so_far.left) (λ found. with_folders t o found.paths so_far.gathering >>= λ next. Ok (record { gathering = next; left = found.left })) end w.2 in
    let u = went_on (with_folders t o v.0.paths so_far.gathering) (λ next. Ok (record { gathering = next; left = v.0.left })) end v.2 in
    let same : record { gathering = u.0; left = v.0.left } ≡ end = let h = u.2 in cc in
    let all = found_matches t o repository.segments v.0.paths tree (expansion t o repository.segments so_far.left v.0 tree v.1) in
    let put = folders_add t o v.0.paths so_far.gathering u.0 u.1 in
    rw w.1 (record {
      are_numbered = all_mapped (λ (c : Candidate). c.repository ≡ o.number) (λ c. c.repository ≡ number) (filter_map (candidate_in t o) (matches t o repository.segments)) (λ c n. n ∙ origin_number project number repository o w.1) (numbers t o (matches t o repository.segments));
      put = rw (← all) (put ∙ ap (λ (x : Progress). Ok x.gathering.candidates) same);
    })

later : (last : ℕ) (kept before : List Candidate) → Covers last kept before → Covers (last + 1) kept before
later last kept before covers = record {
  way = λ c late. covers.way c (omega arith);
  early = all_mapped (λ (k : Candidate). k.repository ≤ last) (λ k. k.repository ≤ last + 1) kept (λ k le. omega arith) covers.early;
}

repositories_add : (t : FileTree) (project : List (List ℕ)) (repositories : List Repository) (number : ℕ) (before : List Candidate) (so_far end : Progress) → IsTree t → Covers number so_far.gathering.candidates before
    → each_in_turn (with_numbered t project) (enumerate_from number repositories) so_far ≡ Ok end
    → end.gathering.candidates ≡ so_far.gathering.candidates ++ counted_behind before (flat_map (offered_by t project) (enumerate_from number repositories))
repositories_add t project [] number before so_far end tree covers e =
    ap (λ (x : Progress). x.gathering.candidates) (none_went_on (with_numbered t project) so_far end e) ∙ sym (append-nil so_far.gathering.candidates)
repositories_add t project (repository ∷ repositories) number before so_far end tree covers e =
    let w = all_went_on (with_numbered t project) (number, repository) (enumerate_from (number + 1) repositories) so_far end e in
    let cs = offered_by t project (number, repository) in
    let rest = flat_map (offered_by t project) (enumerate_from (number + 1) repositories) in
    let adds = repository_adds t project number repository so_far w.0 tree w.1 in
    let here = counts number cs so_far.gathering.candidates before w.0.gathering.candidates adds.are_numbered covers adds.put in
    let more = repositories_add t project repositories (number + 1) (before ++ cs) w.0 end tree (later number w.0.gathering.candidates (before ++ cs) here.covers) w.2 in
    more ∙ ap (λ kept. kept ++ counted_behind (before ++ cs) rest) here.is ∙ append_assoc so_far.gathering.candidates (counted_behind before cs) (counted_behind (before ++ cs) rest)
    ∙ ap (λ all. so_far.gathering.candidates ++ all) (sym (counted-append before cs rest))

-- ---- the pool

pub pooled : (t : FileTree) (project : List (List ℕ)) (root : Manifest) (left : ℕ) (loaded : Loaded) → IsTree t → pool_of_tree t project root left ≡ Ok loaded
    → loaded.pool.candidates ≡ counted (offered t project root.repositories)
unfolding pool_of_tree
pooled t project root left loaded tree e =
    let w = went_on (with_repositories t project root.repositories (nothing_yet left)) (λ all. Ok (record { pool = record { root = root; candidates = all.gathering.candidates }; left = all.left })) loaded e in
    let same : record { pool = record { root = root; candidates = w.0.gathering.candidates }; left = w.0.left } ≡ loaded = let h = w.2 in cc in
    ap (λ (x : Loaded). x.pool.candidates) (sym same)
    ∙ repositories_add t project root.repositories 0 [] (nothing_yet left) w.0 tree (record { way = λ c late. refl; early = tt }) w.1
