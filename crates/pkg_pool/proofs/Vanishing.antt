-- No step of the loading of a pool says that something vanished.
use Rattle.std.proofs.Common.{◌≡◌, ◌⊎◌, inl, inr, ℕ, ◌+◌, Bool, true, false, cond, List, [], ◌∷◌, length, take, drop, Result, Ok, Err, IsTrue, refl}
use Rattle.std.specs.Prelude.{nat_lt, nat_le, IfErr, Option, Some, None}
use Rattle.std.specs.List.{enumerate_from}
use Rattle.path_name.specs.Given.{◌>>=◌}
use Rattle.tree_dev.specs.Trees.{FileTree, list_at, read_at, kind_at}
use Rattle.tree_dev.specs.declared.entry.Kind.{Kind}
use Rattle.tree_dev.specs.declared.entry.Kind.TheVariants as kinds
use Rattle.tree_dev.specs.declared.entry.ListAnswer.{ListAnswer}
use Rattle.tree_dev.specs.declared.entry.ListAnswer.TheVariants as listings
use Rattle.tree_dev.specs.declared.entry.ReadAnswer.{ReadAnswer}
use Rattle.tree_dev.specs.declared.entry.ReadAnswer.TheVariants as answers
use Rattle.json_ordered.specs.JsonTree.{JsonTree}
use Rattle.json_ordered.specs.JsonFaults.{json_of}
use Rattle.json_ordered.specs.declared.fault.JsonFault.{JsonFault}
use Rattle.json_ordered.specs.declared.fault.JsonFault.TheVariants as json_faults
use Rattle.manifest_read.specs.Manifests.{manifest_of}
use Rattle.manifest_read.specs.declared.fault.FieldFault.{FieldFault}
use Rattle.manifest_read.specs.declared.fault.FieldFault.TheVariants as field_faults
use Rattle.manifest_read.specs.declared.types.Manifest.{Manifest}
use Rattle.manifest_read.specs.declared.types.Repository.{Repository}
use Rattle.manifest_read.specs.declared.types.Role.TheVariants.{Member}
use Rattle.pkg_pool.specs.declared.fault.PoolFault.{PoolFault}
use Rattle.pkg_pool.specs.declared.fault.PoolFault.TheVariants as faults
use Rattle.pkg_pool.specs.declared.origin.Origin.{Origin}
use Rattle.pkg_pool.specs.declared.pool.Candidate.{Candidate}
use Rattle.pkg_pool.specs.Outcomes.{is_free, is_vanished, each_in_turn}
use Rattle.pkg_pool.specs.Patterns.{Found, is_wild, is_installed, is_barred, seen_from, names_told, names_listed, folder_expanded, then_expanded, segment_expanded, pattern_expanded, is_counted, entry_refused, none_is_there, too_deep, near_count, stars_expanded, sole_by_kind, sole_folder, fixed_part, wild_part, parts_expanded, url_expanded, start_of}
use Rattle.pkg_pool.specs.Manifests.{manifest_path, text_told, told_text, manifest_text, document_told, document_of, fields_told, fields_of, package_of}
use Rattle.pkg_pool.specs.Gathering.{is_left_out, rows_of, bytes_counted, with_candidate}
use Rattle.pkg_pool.specs.Pools.{Gathering, Progress, candidate_of, with_package, with_text, with_manifest, with_folder, with_folders, origin_of, with_repository, with_numbered, with_repositories}

-- where it is refused, nothing vanished
abbrev pub Remains : {X : Type 0} → Result X PoolFault → Type 0
Remains r = IfErr r (λ fault. is_vanished fault ≡ false)

then_remains : {X Y : Type 0} (r : Result X PoolFault) (next : X → Result Y PoolFault) → Remains r → ((x : X) → Remains (next x)) → Remains (r >>= next)
then_remains (Ok x) next first second = second x
then_remains (Err fault) next first second = first

each_remains : {X S : Type 0} (step : X → S → Result S PoolFault) (xs : List X) (s : S) → ((x : X) (s : S) → Remains (step x s)) → Remains (each_in_turn step xs s)
unfolding each_in_turn
each_remains step [] s each = tt
each_remains step (x ∷ xs) s each = then_remains (step x s) (λ next. each_in_turn step xs next) (each x s) (λ next. each_remains step xs next each)

either_remains : {X : Type 0} (b : Bool) (first second : Result X PoolFault) → Remains first → Remains second → Remains (cond b first second)
either_remains true first second a b = a
either_remains false first second a b = b

-- ---- folders

names_remain : (left : ℕ) (answer : ListAnswer) → Remains (names_told left answer)
names_remain left (listings.Names names) = either_remains (nat_lt left (length names)) _ (Ok names) refl tt
names_remain left listings.Absent = tt
names_remain left listings.NotFolder = tt
names_remain left listings.TooMany = refl

folder_remains : (t : FileTree) (origin : Origin) (folder : List (List ℕ)) (left : ℕ) → Remains (folder_expanded t origin folder left)
unfolding folder_expanded names_listed
folder_remains t origin folder left =
    either_remains (is_installed origin.project (seen_from origin folder)) _ _ tt (then_remains (names_told left (list_at t (seen_from origin folder) left)) _ (names_remain left (list_at t (seen_from origin folder) left)) (λ names. tt))

segment_remains : (t : FileTree) (origin : Origin) (segment : List ℕ) (found : Found) → Remains (segment_expanded t origin segment found)
unfolding segment_expanded
segment_remains t origin segment found =
    either_remains (is_wild segment) _ _
    (each_remains (then_expanded t origin) found.paths (record { paths = []; left = found.left }) (λ folder s. then_remains (folder_expanded t origin folder s.left) _ (folder_remains t origin folder s.left) (λ more. tt))) tt

entry_remains : (t : FileTree) (origin : Origin) (path : List (List ℕ)) → Remains (entry_refused t origin path)
unfolding entry_refused
entry_remains t origin path = either_remains (is_counted t origin path) _ (Ok tt) refl tt

deep_remains : (t : FileTree) (origin : Origin) (pattern : List (List ℕ)) (found : Found) → Remains (too_deep t origin pattern found)
unfolding too_deep
deep_remains t origin [] found = tt
deep_remains t origin (segment ∷ pattern) found =
    then_remains (segment_expanded t origin segment found) _ (segment_remains t origin segment found)
    (λ next. then_remains (none_is_there t origin next.paths) _ (each_remains (λ path passed. entry_refused t origin path) next.paths tt (λ path passed. entry_remains t origin path)) (λ passed. tt))

stars_remain : (t : FileTree) (origin : Origin) (pattern folder : List (List ℕ)) (left : ℕ) → Remains (stars_expanded t origin pattern folder left)
unfolding stars_expanded
stars_remain t origin pattern folder left =
    then_remains (pattern_expanded t origin (take (near_count pattern) pattern) (record { paths = folder ∷ []; left = left })) _
    (each_remains (segment_expanded t origin) (take (near_count pattern) pattern) (record { paths = folder ∷ []; left = left }) (λ segment s. segment_remains t origin segment s))
    (λ near. deep_remains t origin (drop (near_count pattern) pattern) near)

kind_remains : (path : List (List ℕ)) (kind : Kind) → Remains (sole_by_kind path kind)
kind_remains path kinds.Absent = refl
kind_remains path kinds.File = refl
kind_remains path kinds.Folder = tt
kind_remains path kinds.Other = refl

sole_remains : (t : FileTree) (origin : Origin) (folder : List (List ℕ)) → Remains (sole_folder t origin folder)
unfolding sole_folder
sole_remains t origin folder = either_remains (is_barred origin.project (seen_from origin folder)) _ _ refl (kind_remains (seen_from origin folder) (kind_at t (seen_from origin folder)))

parts_remain : (t : FileTree) (origin : Origin) (fixed pattern : List (List ℕ)) (left : ℕ) → Remains (parts_expanded t origin fixed pattern left)
parts_remain t origin fixed [] left = then_remains (sole_folder t origin fixed) _ (sole_remains t origin fixed) (λ passed. tt)
parts_remain t origin fixed (star ∷ pattern) left = stars_remain t origin (star ∷ pattern) fixed left

url_remains : (t : FileTree) (origin : Origin) (segments : List (List ℕ)) (left : ℕ) → Remains (url_expanded t origin segments left)
unfolding url_expanded
url_remains t origin segments left = parts_remain t origin (fixed_part segments) (wild_part segments) left

-- ---- manifests

answer_remains : (path : List (List ℕ)) (answer : ReadAnswer) → Remains (text_told path answer)
answer_remains path (answers.Bytes text) = tt
answer_remains path answers.Absent = tt
answer_remains path answers.NotFile = refl
answer_remains path answers.TooLong = refl

document_remains : (path : List (List ℕ)) (r : Result JsonTree JsonFault) → Remains (document_told path r)
document_remains path (Ok tree) = tt
document_remains path (Err (json_faults.NotUtf8 at)) = refl
document_remains path (Err (json_faults.Syntax at)) = refl
document_remains path (Err (json_faults.TooDeep at)) = refl
document_remains path (Err json_faults.OutOfMemory) = refl

fields_remain : (path : List (List ℕ)) (r : Result Manifest FieldFault) → Remains (fields_told path r)
fields_remain path (Ok manifest) = tt
fields_remain path (Err (field_faults.BadField pointer)) = refl
fields_remain path (Err (field_faults.NotOffered pointer)) = refl
fields_remain path (Err (field_faults.ReservedName name)) = refl
fields_remain path (Err field_faults.OutOfMemory) = refl

package_remains : (path : List (List ℕ)) (text : List ℕ) → Remains (package_of path text)
unfolding package_of document_of fields_of
package_remains path text = then_remains (document_told path (json_of text)) _ (document_remains path (json_of text)) (λ tree. fields_remain path (manifest_of Member tree))

-- ---- the pool

candidate_remains : (candidates : List Candidate) (c : Candidate) → Remains (with_candidate candidates c)
unfolding with_candidate
candidate_remains candidates c =
    either_remains (is_left_out candidates c) _ _ tt
    (either_remains (nat_le 4096 (length candidates)) _ _ refl (either_remains (nat_le 512 (length (rows_of candidates c.«package».name))) _ _ refl tt))

text_remains : (origin : Origin) (folder path : List (List ℕ)) (text : List ℕ) (g : Gathering) → Remains (with_text origin folder path text g)
unfolding with_text with_package bytes_counted
text_remains origin folder path text g =
    then_remains (bytes_counted g.bytes text) _ (either_remains (nat_lt 67108864 (g.bytes + length text)) _ (Ok (g.bytes + length text)) refl tt)
    (λ bytes. then_remains (package_of path text) _ (package_remains path text)
    (λ p. then_remains (with_package origin folder text p g.candidates) _ (candidate_remains g.candidates (candidate_of origin folder text p)) (λ candidates. tt)))

manifest_remains : (origin : Origin) (folder : List (List ℕ)) (g : Gathering) (manifest : Option (List (List ℕ) × List ℕ)) → Remains (with_manifest origin folder g manifest)
manifest_remains origin folder g None = tt
manifest_remains origin folder g (Some manifest) = text_remains origin folder manifest.0 manifest.1 g

package_folder_remains : (t : FileTree) (origin : Origin) (folder : List (List ℕ)) (g : Gathering) → Remains (with_folder t origin folder g)
unfolding with_folder manifest_text told_text
package_folder_remains t origin folder g =
    let path = manifest_path (seen_from origin folder) in
    either_remains (is_barred origin.project (seen_from origin folder)) _ _ tt
    (then_remains (manifest_text t (seen_from origin folder)) _ (then_remains (text_told path (read_at t path 67108864)) _ (answer_remains path (read_at t path 67108864)) (λ text. tt)) (λ manifest. manifest_remains origin folder g manifest))

origin_remains : (project : List (List ℕ)) (number : ℕ) (repository : Repository) → Remains (origin_of project number repository)
unfolding origin_of start_of
origin_remains project number repository =
    then_remains (start_of project repository.up repository.written) _ (either_remains (nat_lt (length project) repository.up) _ _ refl tt) (λ start. tt)

repository_remains : (t : FileTree) (project : List (List ℕ)) (number : ℕ) (repository : Repository) (so_far : Progress) → Remains (with_repository t project number repository so_far)
unfolding with_repository
repository_remains t project number repository so_far =
    then_remains (origin_of project number repository) _ (origin_remains project number repository)
    (λ origin. then_remains (url_expanded t origin repository.segments so_far.left) _ (url_remains t origin repository.segments so_far.left)
    (λ found. then_remains (with_folders t origin found.paths so_far.gathering) _ (each_remains (with_folder t origin) found.paths so_far.gathering (λ folder g. package_folder_remains t origin folder g)) (λ next. tt)))

pub repositories_remain : (t : FileTree) (project : List (List ℕ)) (repositories : List Repository) (so_far : Progress) → Remains (with_repositories t project repositories so_far)
repositories_remain t project repositories so_far =
    each_remains (with_numbered t project) (enumerate_from 0 repositories) so_far (λ numbered s. repository_remains t project numbered.0 numbered.1 s)

-- a fault that comes is free, or is that of a refused result
pub none_vanished : {X : Type 0} (whole : Result X PoolFault) (fault : PoolFault) → Remains whole → IsTrue (is_free fault) ⊎ (whole ≡ Err fault) → is_vanished fault ≡ false
none_vanished whole (faults.MissingPath text) remains told = refl
none_vanished whole (faults.BadManifest path fault) remains told = refl
none_vanished whole (faults.NotOffered path pointer) remains told = refl
none_vanished whole (faults.OtherEntry path) remains told = refl
none_vanished whole (faults.Limit limit) remains told = refl
none_vanished whole (faults.Vanished path) remains (inl free) = absurd cc
none_vanished whole (faults.Vanished path) remains (inr e) = rw e at remains
none_vanished whole faults.DeviceFault remains told = refl
none_vanished whole faults.OutOfMemory remains told = refl
