-- A lock that is read is read again of the text that is written of it.
use Rattle.std.proofs.Common.{◌≡◌, ℕ, ◌+◌, true, List, [], ◌∷◌, ◌++◌, map, Ok, Err, refl, sym, ap, subst, ◌∙◌, append_assoc}
use Rattle.std.specs.Prelude.{IfSome, ◌&&◌}
use Rattle.std.specs.List.{AllByRecursion, IsDistinct, enumerate_from}
use Rattle.std.specs.Str.{IsUtf8}
use Rattle.std.proofs.lemmas.Str.{IsUtf8-append}
use Rattle.std.proofs.lemmas.List.Folds.{list_all-append}
use Rattle.path_name.specs.Bytes.{is_blank}
use Rattle.path_name.specs.Orders.{bytes_are_equal}
use Rattle.json_ordered.specs.JsonTree.{JsonTree, Null, Boolean, Number, String, Array, Object, Items, no_items, item, EachHasDistinctNames, EachHasUtf8Texts}
use Rattle.json_ordered.specs.Json.{IsJson}
use Rattle.json_ordered.specs.JsonTexts.{pretty_text}
use Rattle.json_ordered.proofs.Meaning.{value_is_json, json_is_value}
use Rattle.json_ordered.proofs.Printable.{pretty_read}
use Rattle.manifest_read.specs.declared.fault.FieldFault.TheVariants.{BadField}
use Rattle.manifest_read.specs.declared.key.Key.{Key}
use Rattle.manifest_read.specs.declared.key.Key.TheVariants as keys
use Rattle.manifest_read.specs.Keys.{Pairs, value_at}
use Rattle.manifest_read.specs.Pointers.{below, at_key, at_item}
use Rattle.manifest_read.specs.Values.{list_of_items, items_in, text_at, list_at, object_at}
use Rattle.manifest_read.specs.Settings.{minimum_of, boolean_of}
use Rattle.manifest_read.specs.Repositories.{path_type_of}
use Rattle.manifest_read.specs.Packages.{package_head_of, package_entry_of}
use Rattle.manifest_read.specs.Writable.{IsWritten}
use Rattle.manifest_read.proofs.Steps.{Answers, same_value, both, barred, given, there, none_missing, all_read_of, each_map}
use Rattle.manifest_read.proofs.NameBytes.{low_utf8}
use Rattle.manifest_read.proofs.Written.{IsWrittenPair, AreWrittenPairs, object_written, text_written, keyed}
use Rattle.manifest_read.proofs.WrittenManifests.{entries_are_written}
use Rattle.lock_file.specs.declared.types.Locked.{Locked}
use Rattle.lock_file.specs.declared.types.PlatformLink.{PlatformLink}
use Rattle.lock_file.specs.declared.types.FlagRow.{FlagRow}
use Rattle.lock_file.specs.declared.types.Lock.{Lock}
use Rattle.lock_file.specs.declared.lists.Lists.{Lists}
use Rattle.lock_file.specs.declared.dist.Dist.{Dist}
use Rattle.lock_file.specs.Entries.{is_among, entry_behind, entries_behind, entries_in, entries_of}
use Rattle.lock_file.specs.Locks.{dist_url_of, reference_of, dist_from, dist_at, dist_of, locked_at, locked_name, lists_of, content_hash_of, no_aliases_of, rank_at, flag_at, flags_in, flags_of, platform_link_at, platform_links_in, platform_links_of, lock_from, lock_fields_of}
use Rattle.lock_file.specs.LockText.{lock_tree, lock_text}
use Rattle.lock_file.specs.FormedLocks.{IsLock}
use Rattle.lock_file.specs.Rereading.{IsExactLocked, IsWritableLocked, AreWritableFlags, IsWritablePlatform, AreWritablePlatforms, IsKept, IsTextOf}
use Rattle.lock_file.proofs.FormedEntries.{lock_is_formed}
use Rattle.lock_file.proofs.ExactReading.{locked_exact, flags_ranked}
use Rattle.lock_file.proofs.LockDocuments.{lock_doc}
use Rattle.lock_file.proofs.RereadLocks.{lock_again}

-- ---- packages

items_written : (vs : Items) → EachHasUtf8Texts vs → EachHasDistinctNames vs → AllByRecursion IsWritten (list_of_items vs)
items_written no_items u d = tt
items_written (item v vs) u d = (record { texts = u.0; names = d.0 }, items_written vs u.1 d.1)

items_of_value : (v : JsonTree) → IsWritten v → IfSome (items_in v) (AllByRecursion IsWritten)
items_of_value Null w = tt
items_of_value (Boolean b) w = tt
items_of_value (Number text) w = tt
items_of_value (String text) w = tt
items_of_value (Array vs) w = items_written vs w.texts w.names
items_of_value (Object ms) w = tt

list_written : (pointer : List ℕ) (v : JsonTree) (items : List JsonTree) → IsWritten v → list_at pointer v ≡ Ok items → AllByRecursion IsWritten items
unfolding list_at
list_written pointer v items w e = given (items_in v) (BadField pointer) items (AllByRecursion IsWritten) (items_of_value v w) e

-- what is known of each entry that is read, of values of which something is known
module _ (Q : JsonTree → Type 0) (P : Locked → Type 0) (formed : (pointer : List ℕ) (v : JsonTree) (y : Locked) → Q v → locked_at pointer v ≡ Ok y → P y) where
  behind_of : (before : List (List ℕ)) (at : List ℕ) (k : ℕ) (vs : List JsonTree) (ys : List Locked) → AllByRecursion Q vs → entries_behind locked_at locked_name before at (enumerate_from k vs) ≡ Ok ys → AllByRecursion P ys
  unfolding entries_behind entry_behind
  behind_of before at k [] ys known e = none_missing P ys e
  behind_of before at k (v ∷ vs) ys known e =
      let first = both (entry_behind locked_at locked_name before (at_item at k) v) _ ys e in
      let more = both (entries_behind locked_at locked_name (before ++ locked_name first.0 ∷ []) at (enumerate_from (k + 1) vs)) _ ys first.2 in
      let a = both (locked_at (at_item at k) v) _ first.0 first.1 in
      let b = barred (is_among (locked_name a.0) before) a.0 first.0 (BadField (at_item at k)) a.2 in
      subst (AllByRecursion P) (same_value (first.0 ∷ more.0) ys more.2)
      (subst P b.1 (formed (at_item at k) v a.0 known.0 a.1), behind_of (before ++ locked_name first.0 ∷ []) at (k + 1) vs more.0 known.1 more.1)

anything : (vs : List JsonTree) → AllByRecursion (λ v. Unit {0}) vs
anything [] = tt
anything (v ∷ vs) = (tt, anything vs)

entries_exact : (before : List (List ℕ)) (at : List ℕ) (pairs : Pairs) (key : Key) (ys : List Locked) → entries_of locked_at locked_name before at pairs key ≡ Ok ys → AllByRecursion IsExactLocked ys
unfolding entries_of entries_in
entries_exact before at pairs key ys e =
    there (value_at pairs key) (Err (BadField (at_key at key))) (entries_in locked_at locked_name before (at_key at key)) (AllByRecursion IsExactLocked) ys (λ y h. absurd cc)
    (λ v found is. let a = both (list_at (at_key at key) v) _ found is in
    behind_of (λ w. Unit {0}) IsExactLocked (λ pointer w y known f. locked_exact pointer w y f) before (at_key at key) 0 a.0 found (anything a.0) a.2) e

reference_written : (at : List ℕ) (pairs : Pairs) (text : List ℕ) → AreWrittenPairs pairs → reference_of at pairs ≡ Ok text → IsUtf8 text
unfolding reference_of
reference_written at pairs text w e =
    keyed pairs keys.Reference (Ok []) (text_at (at_key at keys.Reference)) IsUtf8 text w (λ y h. subst IsUtf8 (same_value [] y h) (low_utf8 [] refl)) (λ v y u is. text_written (at_key at keys.Reference) v y u is) e

dist_written : (at : List ℕ) (pairs : Pairs) (dist : Dist) → AreWrittenPairs pairs → dist_of at pairs ≡ Ok dist → IsUtf8 dist.reference
unfolding dist_of dist_at dist_from
dist_written at pairs dist w e =
    keyed pairs keys.Dist (Err (BadField (at_key at keys.Dist))) (dist_at (at_key at keys.Dist)) (λ (it : Dist). IsUtf8 it.reference) dist w (λ y h. absurd cc)
    (λ v found u is.
    let pointer = at_key at keys.Dist in
    let a = both (object_at pointer v) _ found is in
    let b = both (path_type_of pointer a.0) _ found a.2 in
    let c = both (dist_url_of pointer a.0) _ found b.2 in
    let d = both (reference_of pointer a.0) _ found c.2 in
    let made : Dist = record { url = c.0; reference = d.0 } in
    subst (λ (it : Dist). IsUtf8 it.reference) (same_value made found d.2) (reference_written pointer a.0 d.0 (object_written pointer v a.0 u a.1) d.1)) e

locked_written : (at : List ℕ) (v : JsonTree) (locked : Locked) → IsWritten v → locked_at at v ≡ Ok locked → IsWritableLocked locked
unfolding locked_at
locked_written at v locked w e =
    let a = both (object_at at v) _ locked e in
    let head = both (package_head_of at v) _ locked a.2 in
    let dist = both (dist_of at a.0) _ locked head.2 in
    let entry = both (package_entry_of at v) _ locked dist.2 in
    let made : Locked = record { «package» = entry.0; url = dist.0.url; reference = dist.0.reference } in
    subst IsWritableLocked (same_value made locked entry.2)
    (record { parts = entries_are_written at v entry.0 w entry.1; reference = dist_written at a.0 dist.0 (object_written at v a.0 w a.1) dist.1 })

entries_written : (before : List (List ℕ)) (at : List ℕ) (pairs : Pairs) (key : Key) (ys : List Locked) → AreWrittenPairs pairs → entries_of locked_at locked_name before at pairs key ≡ Ok ys → AllByRecursion IsWritableLocked ys
unfolding entries_of entries_in
entries_written before at pairs key ys w e =
    keyed pairs key (Err (BadField (at_key at key))) (entries_in locked_at locked_name before (at_key at key)) (AllByRecursion IsWritableLocked) ys w (λ y h. absurd cc)
    (λ v found u is. let a = both (list_at (at_key at key) v) _ found is in
    behind_of IsWritten IsWritableLocked locked_written before (at_key at key) 0 a.0 found (list_written (at_key at key) v a.0 u a.1) a.2) e

-- ---- rows

flag_named : (at : List ℕ) (pair : List ℕ × JsonTree) (row : FlagRow) → flag_at at pair ≡ Ok row → row.name ≡ pair.0
unfolding flag_at
flag_named at pair row e =
    let a = both (rank_at (below at pair.0) pair.1) _ row e in
    let made : FlagRow = record { name = pair.0; rank = a.0 } in
    ap (λ (it : FlagRow). it.name) (sym (same_value made row a.2))

no_flags : (rows : List FlagRow) → Answers (Ok []) rows → AreWritableFlags rows
unfolding IsDistinct
no_flags [] e = record { each = tt; distinct = tt }
no_flags (row ∷ rows) e = absurd cc

flags_written : (at : List ℕ) (pairs : Pairs) (rows : List FlagRow) → AreWrittenPairs pairs → flags_of at pairs ≡ Ok rows → AreWritableFlags rows
unfolding flags_of flags_in
flags_written at pairs rows w e =
    keyed pairs keys.StabilityFlags (Ok []) (flags_in (at_key at keys.StabilityFlags)) AreWritableFlags rows w no_flags
    (λ v found u is.
    let pointer = at_key at keys.StabilityFlags in
    let a = both (object_at pointer v) _ found is in
    let known = object_written pointer v a.0 u a.1 in
    record {
      each = all_read_of IsWrittenPair (flag_at pointer) (λ (row : FlagRow). IsUtf8 row.name) (λ pair row k f. subst IsUtf8 (sym (flag_named pointer pair row f)) k.name) a.0 found known.each a.2;
      distinct = subst (IsDistinct bytes_are_equal) (sym (each_map (flag_at pointer) (λ (row : FlagRow). row.name) (λ (pair : List ℕ × JsonTree). pair.0) (flag_named pointer) a.0 found a.2)) known.distinct;
    }) e

link_named : (at : List ℕ) (pair : List ℕ × JsonTree) (link : PlatformLink) → platform_link_at at pair ≡ Ok link → link.name ≡ pair.0
unfolding platform_link_at
link_named at pair link e =
    let a = both (text_at (below at pair.0) pair.1) _ link e in
    let made : PlatformLink = record { name = pair.0; text = a.0 } in
    ap (λ (it : PlatformLink). it.name) (sym (same_value made link a.2))

link_written : (at : List ℕ) (pair : List ℕ × JsonTree) (link : PlatformLink) → IsWrittenPair pair → platform_link_at at pair ≡ Ok link → IsWritablePlatform link
unfolding platform_link_at
link_written at pair link k e =
    let a = both (text_at (below at pair.0) pair.1) _ link e in
    let made : PlatformLink = record { name = pair.0; text = a.0 } in
    subst IsWritablePlatform (same_value made link a.2) (record { name = k.name; text = text_written (below at pair.0) pair.1 a.0 k.value a.1 })

no_links : (links : List PlatformLink) → Answers (Ok []) links → AreWritablePlatforms links
unfolding IsDistinct
no_links [] e = record { each = tt; distinct = tt }
no_links (link ∷ links) e = absurd cc

links_written : (at : List ℕ) (pairs : Pairs) (key : Key) (links : List PlatformLink) → AreWrittenPairs pairs → platform_links_of at pairs key ≡ Ok links → AreWritablePlatforms links
unfolding platform_links_of platform_links_in
links_written at pairs key links w e =
    keyed pairs key (Ok []) (platform_links_in (at_key at key)) AreWritablePlatforms links w no_links
    (λ v found u is.
    let pointer = at_key at key in
    let a = both (object_at pointer v) _ found is in
    let known = object_written pointer v a.0 u a.1 in
    record {
      each = all_read_of IsWrittenPair (platform_link_at pointer) IsWritablePlatform (link_written pointer) a.0 found known.each a.2;
      distinct = subst (IsDistinct bytes_are_equal) (sym (each_map (platform_link_at pointer) (λ (link : PlatformLink). link.name) (λ (pair : List ℕ × JsonTree). pair.0) (link_named pointer) a.0 found a.2)) known.distinct;
    }) e

-- ---- the lock

hash_written : (at : List ℕ) (pairs : Pairs) (text : List ℕ) → AreWrittenPairs pairs → content_hash_of at pairs ≡ Ok text → IsUtf8 text
unfolding content_hash_of
hash_written at pairs text w e =
    keyed pairs keys.ContentHash (Err (BadField (at_key at keys.ContentHash))) (text_at (at_key at keys.ContentHash)) IsUtf8 text w (λ y h. absurd cc) (λ v y u is. text_written (at_key at keys.ContentHash) v y u is) e

pub kept_from : (at : List ℕ) (pairs : Pairs) (lock : Lock) → AreWrittenPairs pairs → lock_from at pairs ≡ Ok lock → IsKept lock
unfolding lock_from lists_of
kept_from at pairs lock w e =
    let hash = both (content_hash_of at pairs) _ lock e in
    let lists = both (lists_of at pairs) _ lock hash.2 in
    let aliases = both (no_aliases_of at pairs) _ lock lists.2 in
    let minimum = both (minimum_of at pairs) _ lock aliases.2 in
    let flags = both (flags_of at pairs) _ lock minimum.2 in
    let stable = both (boolean_of at pairs keys.PreferStable) _ lock flags.2 in
    let platform = both (platform_links_of at pairs keys.Platform) _ lock stable.2 in
    let platform_dev = both (platform_links_of at pairs keys.PlatformDev) _ lock platform.2 in
    let one = both (entries_of locked_at locked_name [] at pairs keys.Packages) _ lists.0 lists.1 in
    let other = both (entries_of locked_at locked_name (map locked_name one.0) at pairs keys.PackagesDev) _ lists.0 one.2 in
    let both_lists : Lists = record { packages = one.0; packages_dev = other.0 } in
    let same : both_lists ≡ lists.0 = same_value both_lists lists.0 other.2 in
    let made : Lock = record {
      content_hash = hash.0;
      packages = lists.0.packages;
      packages_dev = lists.0.packages_dev;
      minimum = minimum.0;
      flags = flags.0;
      prefer_stable = stable.0;
      platform = platform.0;
      platform_dev = platform_dev.0;
    } in
    let is : made ≡ lock = same_value made lock platform_dev.2 in
    let formed : IsLock made = subst IsLock (sym is) (lock_is_formed at pairs lock e) in
    subst IsKept is (record {
      exact = record {
        packages = subst (λ (l : Lists). AllByRecursion IsExactLocked l.packages) same (entries_exact [] at pairs keys.Packages one.0 one.1);
        packages_dev = subst (λ (l : Lists). AllByRecursion IsExactLocked l.packages_dev) same (entries_exact (map locked_name one.0) at pairs keys.PackagesDev other.0 other.1);
        distinct = formed.distinct;
        flags = flags_ranked at pairs flags.0 flags.1;
      };
      writable = record {
        content_hash = hash_written at pairs hash.0 w hash.1;
        packages = subst (λ (l : Lists). AllByRecursion IsWritableLocked l.packages) same (entries_written [] at pairs keys.Packages one.0 w one.1);
        packages_dev = subst (λ (l : Lists). AllByRecursion IsWritableLocked l.packages_dev) same (entries_written (map locked_name one.0) at pairs keys.PackagesDev other.0 w other.1);
        flags = flags_written at pairs flags.0 w flags.1;
        platform = links_written at pairs keys.Platform platform.0 w platform.1;
        platform_dev = links_written at pairs keys.PlatformDev platform_dev.0 w platform_dev.1;
      };
    })

pub kept_of : (v : JsonTree) (lock : Lock) → IsWritten v → lock_fields_of v ≡ Ok lock → IsKept lock
unfolding lock_fields_of
kept_of v lock w e = let a = both (object_at [] v) _ lock e in kept_from [] a.0 lock (object_written [] v a.0 w a.1) a.2

-- ---- the text

-- an LF behind a JSON text changes nothing
line_end : (text : List ℕ) (tree : JsonTree) → IsJson text tree → IsJson (text ++ 10 ∷ []) tree
line_end text tree is = record {
  before = is.before;
  value = is.value;
  after = is.after ++ 10 ∷ [];
  utf8 = IsUtf8-append text (10 ∷ []) is.utf8 (low_utf8 (10 ∷ []) refl);
  is_before = is.is_before;
  is_value = is.is_value;
  is_after = list_all-append is_blank is.after (10 ∷ []) ∙ ap (λ t. t && true) is.is_after;
  parts = ap (λ t. t ++ 10 ∷ []) is.parts ∙ append_assoc is.before (is.value ++ is.after) (10 ∷ []) ∙ ap (λ t. is.before ++ t) (append_assoc is.value is.after (10 ∷ []));
}

pub text_of : (lock : Lock) → IsKept lock → IsTextOf lock (lock_text lock)
unfolding lock_text
text_of lock kept = record {
  tree = lock_tree lock;
  value = json_is_value (lock_text lock) (lock_tree lock)
      (line_end (pretty_text (lock_tree lock)) (lock_tree lock) (value_is_json (pretty_text (lock_tree lock)) (lock_tree lock) (pretty_read (lock_tree lock) (lock_doc lock kept.exact kept.writable))));
  fields = lock_again lock kept.exact;
}
