-- The packages of a pool that is loaded are what JSON texts say.
use Rattle.std.proofs.Common.{◌≡◌, ℕ, zero, suc, ◌/◌, ◌%◌, Bool, true, false, cond, ◌&&◌, List, [], ◌∷◌, ◌++◌, length, Option, Some, None, Result, Ok, Err, refl, sym, ap, subst}
use Rattle.std.specs.Prelude.{slice_index, nat_le}
use Rattle.std.specs.List.{AllByRecursion, enumerate_from, list_all}
use Rattle.std.specs.Str.{IsUtf8}
use Rattle.hex.specs.Hex.{encode_with, lower_digits}
use Rattle.md5.specs.Md5.{md5}
use Rattle.content_hash.specs.Ids.{id_of}
use Rattle.path_name.specs.Given.{◌>>=◌}
use Rattle.tree_dev.specs.Trees.{FileTree}
use Rattle.tree_dev.specs.declared.limits.LimitKind.TheVariants as limits
use Rattle.json_ordered.specs.JsonTree.{JsonTree}
use Rattle.json_ordered.specs.JsonFaults.{json_of}
use Rattle.json_ordered.specs.Json.{most_levels}
use Rattle.json_ordered.specs.declared.fault.JsonFault.{JsonFault}
use Rattle.json_ordered.specs.declared.fault.JsonFault.TheVariants as json_faults
use Rattle.json_ordered.proofs.Documents.{document_of as text_document}
use Rattle.json_ordered.proofs.Meaning.{value_is_json}
use Rattle.manifest_read.specs.declared.fault.FieldFault.{FieldFault}
use Rattle.manifest_read.specs.declared.fault.FieldFault.TheVariants as field_faults
use Rattle.manifest_read.specs.declared.types.Manifest.{Manifest}
use Rattle.manifest_read.specs.declared.types.Package.{Package}
use Rattle.manifest_read.specs.declared.types.Repository.{Repository}
use Rattle.manifest_read.specs.declared.types.Role.TheVariants.{Member}
use Rattle.manifest_read.specs.Manifests.{manifest_of}
use Rattle.manifest_read.specs.Writable.{IsWritten}
use Rattle.manifest_read.proofs.NameBytes.{is_low, low_utf8}
use Rattle.pkg_pool.specs.declared.fault.PoolFault.{PoolFault}
use Rattle.pkg_pool.specs.declared.fault.PoolFault.TheVariants as faults
use Rattle.pkg_pool.specs.declared.origin.Origin.{Origin}
use Rattle.pkg_pool.specs.declared.pool.Candidate.{Candidate}
use Rattle.pkg_pool.specs.Outcomes.{each_in_turn}
use Rattle.pkg_pool.specs.Patterns.{seen_from, is_barred, url_expanded}
use Rattle.pkg_pool.specs.Manifests.{manifest_text, document_told, document_of, fields_told, fields_of, package_of}
use Rattle.pkg_pool.specs.Gathering.{rows_of, is_left_out, with_candidate, bytes_counted}
use Rattle.pkg_pool.specs.Pools.{candidate_of, with_package, Gathering, with_text, with_manifest, with_folder, Progress, origin_of, with_repository, with_numbered, with_repositories, nothing_yet, Loaded, pool_of_tree}
use Rattle.lock_file.specs.KeptPools.{IsDocumented, IsDocumentedRoot, IsDocumentedPool}
use Rattle.lock_file.proofs.Findings.{all_more}

-- ---- steps that may refuse

abbrev Answers : {X : Type 0} → Result X PoolFault → X → Type 0
Answers r x = r ≡ Ok x

same_value : {X : Type 0} (x y : X) → Answers (Ok x) y → x ≡ y
same_value x y e = cc

both : {X Y : Type 0} (r : Result X PoolFault) (next : X → Result Y PoolFault) (y : Y) → r >>= next ≡ Ok y → (x : X) × (r ≡ Ok x) × (next x ≡ Ok y)
both (Ok x) next y e = (x, refl, e)
both (Err fault) next y e = absurd cc

-- what each step keeps, all keep
all_keep : {X S : Type 0} (P : S → Type 0) (step : X → S → Result S PoolFault) → ((x : X) (s next : S) → P s → step x s ≡ Ok next → P next) → (xs : List X) (s last : S) → P s → each_in_turn step xs s ≡ Ok last → P last
unfolding each_in_turn
all_keep P step keeps [] s last p e = subst P (same_value s last e) p
all_keep P step keeps (x ∷ xs) s last p e = let a = both (step x s) (λ next. each_in_turn step xs next) last e in all_keep P step keeps xs a.0 last (keeps x s a.0 p a.1) a.2

-- ---- one manifest

digit_low : (table : List ℕ) (k : ℕ) → list_all is_low table ≡ true → is_low (slice_index table k) ≡ true
digit_low [] k e = refl
digit_low (byte ∷ table) zero e = (parts (is_low byte) (list_all is_low table) e).0
  where
    parts : (a b : Bool) → a && b ≡ true → (a ≡ true) × (b ≡ true)
    parts true b f = (refl, f)
    parts false b f = absurd cc
digit_low (byte ∷ table) (suc k) e = digit_low table k (parts (is_low byte) (list_all is_low table) e).1
  where
    parts : (a b : Bool) → a && b ≡ true → (a ≡ true) × (b ≡ true)
    parts true b f = (refl, f)
    parts false b f = absurd cc

hex_low : (bytes : List ℕ) → list_all is_low (encode_with lower_digits bytes) ≡ true
unfolding encode_with
hex_low [] = refl
hex_low (byte ∷ bytes) = rw (digit_low lower_digits (byte / 16) refl, digit_low lower_digits (byte % 16) refl) (hex_low bytes)

id_utf8 : (text : List ℕ) → IsUtf8 (id_of text)
id_utf8 text = low_utf8 (id_of text) (hex_low (md5 text))

document_read : (path : List (List ℕ)) (r : Result JsonTree JsonFault) (tree : JsonTree) → document_told path r ≡ Ok tree → r ≡ Ok tree
document_read path (Ok found) tree e = ap Ok (same_value found tree e)
document_read path (Err (json_faults.NotUtf8 at)) tree e = absurd cc
document_read path (Err (json_faults.Syntax at)) tree e = absurd cc
document_read path (Err (json_faults.TooDeep at)) tree e = absurd cc
document_read path (Err json_faults.OutOfMemory) tree e = absurd cc

fields_read : (path : List (List ℕ)) (r : Result Manifest FieldFault) (p : Package) → fields_told path r ≡ Ok p → (manifest : Manifest) × (r ≡ Ok manifest) × (p ≡ manifest.«package»)
fields_read path (Ok manifest) p e = (manifest, refl, sym (same_value manifest.«package» p e))
fields_read path (Err (field_faults.BadField pointer)) p e = absurd cc
fields_read path (Err (field_faults.NotOffered pointer)) p e = absurd cc
fields_read path (Err (field_faults.ReservedName name)) p e = absurd cc
fields_read path (Err field_faults.OutOfMemory) p e = absurd cc

-- the value of a text can be written
text_written : (text : List ℕ) (tree : JsonTree) → json_of text ≡ Ok tree → IsWritten tree
text_written text tree e = let is = text_document most_levels text tree (value_is_json text tree e) in record { texts = is.texts; names = is.distinct }

one_documented : (origin : Origin) (folder path : List (List ℕ)) (text : List ℕ) (p : Package) → package_of path text ≡ Ok p → IsDocumented (candidate_of origin folder text p)
unfolding package_of document_of fields_of
one_documented origin folder path text p e =
    let tree = both (document_of path text) _ p e in
    let fields = fields_read path (manifest_of Member tree.0) p tree.2 in
    record {
      tree = tree.0;
      manifest = fields.0;
      written = text_written text tree.0 (document_read path (json_of text) tree.0 tree.1);
      read = fields.1;
      is = fields.2;
      reference = id_utf8 text;
    }

-- ---- what is gathered

abbrev AreDocumented : Gathering → Type 0
AreDocumented g = AllByRecursion IsDocumented g.candidates

put_documented : (candidates next : List Candidate) (c : Candidate) → AllByRecursion IsDocumented candidates → IsDocumented c → with_candidate candidates c ≡ Ok next → AllByRecursion IsDocumented next
unfolding with_candidate
put_documented candidates next c all one e = by (is_left_out candidates c) (nat_le 4096 (length candidates)) (nat_le 512 (length (rows_of candidates c.«package».name))) e
  where
    by : (a b d : Bool) → cond a (Ok candidates) (cond b (Err (faults.Limit limits.Packages)) (cond d (Err (faults.Limit (limits.Candidates c.«package».name))) (Ok (candidates ++ c ∷ [])))) ≡ Ok next → AllByRecursion IsDocumented next
    by true b d f = subst (AllByRecursion IsDocumented) (same_value candidates next f) all
    by false true d f = absurd cc
    by false false true f = absurd cc
    by false false false f = subst (AllByRecursion IsDocumented) (same_value (candidates ++ c ∷ []) next f) (all_more IsDocumented candidates c all one)

text_keeps : (origin : Origin) (folder path : List (List ℕ)) (text : List ℕ) (g next : Gathering) → AreDocumented g → with_text origin folder path text g ≡ Ok next → AreDocumented next
unfolding with_text with_package
text_keeps origin folder path text g next all e =
    let bytes = both (bytes_counted g.bytes text) _ next e in
    let p = both (package_of path text) _ next bytes.2 in
    let candidates = both (with_candidate g.candidates (candidate_of origin folder text p.0)) _ next p.2 in
    let made : Gathering = record { bytes = bytes.0; candidates = candidates.0 } in
    subst AreDocumented (same_value made next candidates.2)
    (put_documented g.candidates candidates.0 (candidate_of origin folder text p.0) all (one_documented origin folder path text p.0 p.1) candidates.1)

manifest_keeps : (origin : Origin) (folder : List (List ℕ)) (g next : Gathering) (manifest : Option (List (List ℕ) × List ℕ)) → AreDocumented g → with_manifest origin folder g manifest ≡ Ok next → AreDocumented next
manifest_keeps origin folder g next None all e = subst AreDocumented (same_value g next e) all
manifest_keeps origin folder g next (Some manifest) all e = text_keeps origin folder manifest.0 manifest.1 g next all e

folder_keeps : (t : FileTree) (origin : Origin) (folder : List (List ℕ)) (g next : Gathering) → AreDocumented g → with_folder t origin folder g ≡ Ok next → AreDocumented next
unfolding with_folder
folder_keeps t origin folder g next all e = by (is_barred origin.project (seen_from origin folder)) e
  where
    by : (b : Bool) → cond b (Ok g) (manifest_text t (seen_from origin folder) >>= λ manifest. with_manifest origin folder g manifest) ≡ Ok next → AreDocumented next
    by true f = subst AreDocumented (same_value g next f) all
    by false f = let manifest = both (manifest_text t (seen_from origin folder)) (λ it. with_manifest origin folder g it) next f in manifest_keeps origin folder g next manifest.0 all manifest.2

repository_keeps : (t : FileTree) (project : List (List ℕ)) (number : ℕ) (repository : Repository) (so_far next : Progress) → AreDocumented so_far.gathering → with_repository t project number repository so_far ≡ Ok next
    → AreDocumented next.gathering
unfolding with_repository
repository_keeps t project number repository so_far next all e =
    let origin = both (origin_of project number repository) _ next e in
    let found = both (url_expanded t origin.0 repository.segments so_far.left) _ next origin.2 in
    let more = both (each_in_turn (with_folder t origin.0) found.0.paths so_far.gathering) _ next found.2 in
    let made : Progress = record { gathering = more.0; left = found.0.left } in
    subst (λ (it : Progress). AreDocumented it.gathering) (same_value made next more.2)
    (all_keep AreDocumented (with_folder t origin.0) (folder_keeps t origin.0) found.0.paths so_far.gathering more.0 all more.1)

-- ---- the pool

pub pool_documented : (t : FileTree) (project : List (List ℕ)) (root : Manifest) (left : ℕ) (loaded : Loaded) → IsDocumentedRoot root → pool_of_tree t project root left ≡ Ok loaded → IsDocumentedPool loaded.pool
unfolding pool_of_tree
pool_documented t project root left loaded known e =
    let all = both (with_repositories t project root.repositories (nothing_yet left)) _ loaded e in
    let made : Loaded = record { pool = record { root = root; candidates = all.0.gathering.candidates }; left = all.0.left } in
    subst (λ (it : Loaded). IsDocumentedPool it.pool) (same_value made loaded all.2)
    (record {
      root = known;
      candidates = all_keep (λ (it : Progress). AreDocumented it.gathering) (with_numbered t project) (λ numbered s next p f. repository_keeps t project numbered.0 numbered.1 s next p f)
          (enumerate_from 0 root.repositories) (nothing_yet left) all.0 tt all.1;
    })
