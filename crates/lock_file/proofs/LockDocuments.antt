-- What a lock is written as is the value of a JSON text.
use Rattle.std.proofs.Common.{◌≡◌, ℕ, zero, suc, ◌≤◌, Bool, true, false, not, cond, ◌&&◌, List, [], ◌∷◌, ◌++◌, map, max, replicate, Some, None, append_assoc, refl, sym, ap, subst, ◌∙◌, arith, inl, inr}
use Rattle.std.specs.Prelude.{◌⊎◌, codes}
use Rattle.std.specs.List.{AllByRecursion, IsDistinct, list_all, concat}
use Rattle.std.specs.Str.{IsUtf8, is_utf8}
use Rattle.std.proofs.lemmas.Str.{IsUtf8-append, IsUtf8-from_is_utf8}
use Rattle.path_name.specs.Decimals.{decimal_text}
use Rattle.std.specs.Cmp.Lexicographic.{bytes_decides}
use Rattle.path_name.specs.Bytes.{is_digit, is_between}
use Rattle.path_name.specs.Orders.{bytes_are_equal}
use Rattle.path_name.specs.Paths.{IsPath, path_text, is_segment}
use Rattle.path_name.specs.FolderRefs.{folder_text}
use Rattle.path_name.specs.declared.folder_ref.FolderRef.{FolderRef}
use Rattle.path_name.proofs.Joining.{both_true, segment_facts}
use Rattle.json_ordered.specs.JsonTree.{JsonTree, Boolean, Number, String, items_of, members_of, array_of, object_of, IsNewName, EachHasDistinctNames, AreDistinctNames, EachHasUtf8Texts, MembersHaveUtf8Texts}
use Rattle.json_ordered.specs.JsonDocuments.{depth_of, items_depth, members_depth, EachHasNumbers, MembersHaveNumbers, IsDocument}
use Rattle.json_ordered.specs.Json.{IsNumber, most_levels}
use Rattle.version_norm.specs.declared.version.Grade.{Grade}
use Rattle.version_norm.specs.declared.version.Grade.TheVariants as grades
use Rattle.manifest_read.specs.declared.key.Key.{Key}
use Rattle.manifest_read.specs.declared.key.Key.TheVariants as keys
use Rattle.manifest_read.specs.declared.types.Link.{Link}
use Rattle.manifest_read.specs.declared.types.PathText.{PathText}
use Rattle.manifest_read.specs.declared.types.PrefixDirs.{PrefixDirs}
use Rattle.manifest_read.specs.declared.types.Autoload.{Autoload}
use Rattle.manifest_read.specs.declared.types.Package.{Package}
use Rattle.manifest_read.specs.Keys.{Pairs, key_text}
use Rattle.manifest_read.specs.WellFormed.{HaveDistinctNames}
use Rattle.manifest_read.specs.Writable.{IsWritableLink, IsWritablePath, IsWritablePrefix, AreWritablePrefixes, IsWritableAutoload, IsWritablePackage}
use Rattle.manifest_read.proofs.NameBytes.{is_low, low_utf8}
use Rattle.lock_file.specs.declared.types.Locked.{Locked}
use Rattle.lock_file.specs.declared.types.PlatformLink.{PlatformLink}
use Rattle.lock_file.specs.declared.types.FlagRow.{FlagRow}
use Rattle.lock_file.specs.declared.types.Lock.{Lock}
use Rattle.lock_file.specs.PackageTrees.{keyed, filled, link_pair, links_tree, path_tree, paths_tree, texts_tree, folders_tree, prefix_pair, prefixes_tree, autoload_pairs, dist_tree, link_pairs, locked_pairs, locked_tree}
use Rattle.lock_file.specs.LockText.{readme_lines, readme_tree, grade_text, plugin_version, flag_pair, flags_tree, platform_pair, platform_tree, packages_tree, front_pairs, back_pairs, lock_tree}
use Rattle.lock_file.specs.Locks.{rank_spelled}
use Rattle.lock_file.specs.Rereading.{IsExactLocked, IsRanked, IsExactLock, IsWritableLocked, AreWritableFlags, IsWritablePlatform, AreWritablePlatforms, IsWritableLock}

-- ---- values of texts, by their parts

string_doc : (k : ℕ) (text : List ℕ) → IsUtf8 text → IsDocument k (String text)
string_doc k text u = record { distinct = tt; texts = u; numbers = tt; depth = omega arith }

boolean_doc : (k : ℕ) (b : Bool) → IsDocument k (Boolean b)
boolean_doc k b = record { distinct = tt; texts = tt; numbers = tt; depth = omega arith }

number_doc : (k : ℕ) (text : List ℕ) → IsNumber text → IsDocument k (Number text)
number_doc k text is = record { distinct = tt; texts = tt; numbers = is; depth = omega arith }

max_le : (a b k : ℕ) → a ≤ k → b ≤ k → max a b ≤ k
max_le a b k x y = omega (arith, x, y)

item_names : (k : ℕ) (vs : List JsonTree) → AllByRecursion (IsDocument k) vs → EachHasDistinctNames (items_of vs)
item_names k [] all = tt
item_names k (v ∷ vs) all = (all.0.distinct, item_names k vs all.1)

item_texts : (k : ℕ) (vs : List JsonTree) → AllByRecursion (IsDocument k) vs → EachHasUtf8Texts (items_of vs)
item_texts k [] all = tt
item_texts k (v ∷ vs) all = (all.0.texts, item_texts k vs all.1)

item_numbers : (k : ℕ) (vs : List JsonTree) → AllByRecursion (IsDocument k) vs → EachHasNumbers (items_of vs)
item_numbers k [] all = tt
item_numbers k (v ∷ vs) all = (all.0.numbers, item_numbers k vs all.1)

item_depths : (k : ℕ) (vs : List JsonTree) → AllByRecursion (IsDocument k) vs → items_depth (items_of vs) ≤ k
item_depths k [] all = omega arith
item_depths k (v ∷ vs) all = max_le (depth_of v) (items_depth (items_of vs)) k all.0.depth (item_depths k vs all.1)

array_doc : (k : ℕ) (vs : List JsonTree) → AllByRecursion (IsDocument k) vs → IsDocument (suc k) (array_of vs)
array_doc k vs all = record { distinct = item_names k vs all; texts = item_texts k vs all; numbers = item_numbers k vs all; depth = omega (arith, item_depths k vs all) }

-- a member of an object
record IsPart (k : ℕ) (m : List ℕ × JsonTree) : Type 0 where
  name : IsUtf8 m.0
  value : IsDocument k m.1

abbrev names_in : Pairs → List (List ℕ)
names_in ms = map (λ m. m.0) ms

other_names : (name : List ℕ) (ms : Pairs) → AllByRecursion (λ other. bytes_are_equal name other ≡ false) (names_in ms) → IsNewName name (members_of ms)
other_names name [] all = tt
other_names name (m ∷ ms) all = (all.0, other_names name ms all.1)

member_names : (k : ℕ) (ms : Pairs) → AllByRecursion (IsPart k) ms → IsDistinct bytes_are_equal (names_in ms) → AreDistinctNames (members_of ms)
unfolding IsDistinct
member_names k [] all distinct = tt
member_names k (m ∷ ms) all distinct = (other_names m.0 ms distinct.0, all.0.value.distinct, member_names k ms all.1 distinct.1)

member_texts : (k : ℕ) (ms : Pairs) → AllByRecursion (IsPart k) ms → MembersHaveUtf8Texts (members_of ms)
member_texts k [] all = tt
member_texts k (m ∷ ms) all = (all.0.name, all.0.value.texts, member_texts k ms all.1)

member_numbers : (k : ℕ) (ms : Pairs) → AllByRecursion (IsPart k) ms → MembersHaveNumbers (members_of ms)
member_numbers k [] all = tt
member_numbers k (m ∷ ms) all = (all.0.value.numbers, member_numbers k ms all.1)

member_depths : (k : ℕ) (ms : Pairs) → AllByRecursion (IsPart k) ms → members_depth (members_of ms) ≤ k
member_depths k [] all = omega arith
member_depths k (m ∷ ms) all = max_le (depth_of m.1) (members_depth (members_of ms)) k all.0.value.depth (member_depths k ms all.1)

object_doc : (k : ℕ) (ms : Pairs) → AllByRecursion (IsPart k) ms → IsDistinct bytes_are_equal (names_in ms) → IsDocument (suc k) (object_of ms)
object_doc k ms all distinct = record { distinct = member_names k ms all distinct; texts = member_texts k ms all; numbers = member_numbers k ms all; depth = omega (arith, member_depths k ms all) }

shallower : (j k : ℕ) (v : JsonTree) → j ≤ k → IsDocument j v → IsDocument k v
shallower j k v le is = record { distinct = is.distinct; texts = is.texts; numbers = is.numbers; depth = omega (arith, is.depth, le) }

-- ---- lists

mapped : {X Y : Type 0} (P : X → Type 0) (Q : Y → Type 0) (f : X → Y) → ((x : X) → P x → Q (f x)) → (xs : List X) → AllByRecursion P xs → AllByRecursion Q (map f xs)
mapped P Q f h [] all = tt
mapped P Q f h (x ∷ xs) all = (h x all.0, mapped P Q f h xs all.1)

all_joined : {X : Type 0} (P : X → Type 0) (xs ys : List X) → AllByRecursion P xs → AllByRecursion P ys → AllByRecursion P (xs ++ ys)
all_joined P [] ys all more = more
all_joined P (x ∷ xs) ys all more = (all.0, all_joined P xs ys all.1 more)

-- the names of pairs are those of a function of what they are made of
names_map : {X : Type 0} (f : X → List ℕ × JsonTree) (name : X → List ℕ) → ((x : X) → (f x).0 ≡ name x) → (xs : List X) → names_in (map f xs) ≡ map name xs
names_map f name same [] = refl
names_map f name same (x ∷ xs) = ap (λ n. n ∷ names_in (map f xs)) (same x) ∙ ap (λ ns. name x ∷ ns) (names_map f name same xs)

-- ---- keys

are_apart : List (List ℕ) → Bool
are_apart [] = true
are_apart (name ∷ names) = list_all (λ other. not (bytes_are_equal name other)) names && are_apart names

-- some of a list, in order
IsPicked : List (List ℕ) → List (List ℕ) → Type 0
IsPicked [] all = Unit {0}
IsPicked (name ∷ names) [] = ⊥
IsPicked (name ∷ names) (one ∷ all) = ((name ≡ one) × IsPicked names all) ⊎ IsPicked (name ∷ names) all

none_some : (all : List (List ℕ)) → IsPicked [] all
unfolding IsPicked
none_some all = tt

one_more : (names : List (List ℕ)) (one : List ℕ) (all : List (List ℕ)) → IsPicked names all → IsPicked names (one ∷ all)
unfolding IsPicked
one_more [] one all some = tt
one_more (name ∷ names) one all some = inr some

itself : (names : List (List ℕ)) → IsPicked names names
unfolding IsPicked
itself [] = tt
itself (name ∷ names) = inl (refl, itself names)

not_equal : (b : Bool) → not b ≡ true → b ≡ false
not_equal true e = absurd cc
not_equal false e = refl

apart_step : (P : List ℕ → Type 0) (n one : List ℕ) (names all : List (List ℕ)) → P one → (IsPicked names all → AllByRecursion P names) → (IsPicked (n ∷ names) all → AllByRecursion P (n ∷ names))
    → ((n ≡ one) × IsPicked names all) ⊎ IsPicked (n ∷ names) all → AllByRecursion P (n ∷ names)
apart_step P n one names all p rest later (inl same) = (subst P (sym same.0) p, rest same.1)
apart_step P n one names all p rest later (inr some) = later some

all_apart : (name : List ℕ) (names all : List (List ℕ)) → list_all (λ other. not (bytes_are_equal name other)) all ≡ true → IsPicked names all → AllByRecursion (λ other. bytes_are_equal name other ≡ false) names
unfolding IsPicked
all_apart name [] all e some = tt
all_apart name (n ∷ names) [] e some = absurd some
all_apart name (n ∷ names) (one ∷ all) e some =
    let are = both_true (not (bytes_are_equal name one)) (list_all (λ other. not (bytes_are_equal name other)) all) e in
    apart_step (λ other. bytes_are_equal name other ≡ false) n one names all (not_equal (bytes_are_equal name one) are.0) (λ s. all_apart name names all are.1 s) (λ s. all_apart name (n ∷ names) all are.1 s) some

distinct_step : (n one : List ℕ) (names all : List (List ℕ)) → (IsPicked names all → AllByRecursion (λ other. bytes_are_equal one other ≡ false) names) → (IsPicked names all → IsDistinct bytes_are_equal names)
    → (IsPicked (n ∷ names) all → IsDistinct bytes_are_equal (n ∷ names)) → ((n ≡ one) × IsPicked names all) ⊎ IsPicked (n ∷ names) all → IsDistinct bytes_are_equal (n ∷ names)
unfolding IsDistinct
distinct_step n one names all apart rest later (inl same) = (subst (λ it. AllByRecursion (λ other. bytes_are_equal it other ≡ false) names) (sym same.0) (apart same.1), rest same.1)
distinct_step n one names all apart rest later (inr some) = later some

some_distinct : (names all : List (List ℕ)) → are_apart all ≡ true → IsPicked names all → IsDistinct bytes_are_equal names
unfolding IsPicked IsDistinct are_apart
some_distinct [] all e some = tt
some_distinct (n ∷ names) [] e some = absurd some
some_distinct (n ∷ names) (one ∷ all) e some =
    let are = both_true (list_all (λ other. not (bytes_are_equal one other)) all) (are_apart all) e in
    distinct_step n one names all (λ s. all_apart one names all are.0 s) (λ s. some_distinct names all are.1 s) (λ s. some_distinct (n ∷ names) all are.1 s) some

some_keyed : (key : Key) (tree : JsonTree) (rest : Pairs) (all : List (List ℕ)) → IsPicked (names_in rest) all → IsPicked (names_in (keyed key tree ∷ rest)) (key_text key ∷ all)
unfolding IsPicked
some_keyed key tree rest all some = inl (refl, some)

some_filled : {X : Type 0} (key : Key) (tree : List X → JsonTree) (xs : List X) (rest : Pairs) (all : List (List ℕ)) → IsPicked (names_in rest) all → IsPicked (names_in (filled key tree xs ++ rest)) (key_text key ∷ all)
some_filled key tree [] rest all some = one_more (names_in rest) (key_text key) all some
some_filled key tree (x ∷ xs) rest all some = some_keyed key (tree (x ∷ xs)) rest all some

key_part : (k : ℕ) (key : Key) (tree : JsonTree) → list_all is_low (key_text key) ≡ true → IsDocument k tree → IsPart k (keyed key tree)
key_part k key tree low is = record { name = low_utf8 (key_text key) low; value = is }

filled_part : {X : Type 0} (k : ℕ) (key : Key) (tree : List X → JsonTree) (xs : List X) → list_all is_low (key_text key) ≡ true → IsDocument k (tree xs) → AllByRecursion (IsPart k) (filled key tree xs)
filled_part k key tree [] low is = tt
filled_part k key tree (x ∷ xs) low is = (key_part k key (tree (x ∷ xs)) low is, tt)

-- ---- the parts of a package

text_docs : (k : ℕ) (texts : List (List ℕ)) → AllByRecursion IsUtf8 texts → IsDocument (suc k) (texts_tree texts)
text_docs k texts all = array_doc k (map String texts) (mapped IsUtf8 (IsDocument k) String (string_doc k) texts all)

path_docs : (k : ℕ) (paths : List PathText) → AllByRecursion IsWritablePath paths → IsDocument (suc k) (paths_tree paths)
path_docs k paths all = array_doc k (map path_tree paths) (mapped IsWritablePath (IsDocument k) path_tree (λ p u. string_doc k p.written u) paths all)

link_part : (k : ℕ) (link : Link) → IsWritableLink link → IsPart k (link_pair link)
link_part k link is = record { name = is.name; value = string_doc k link.text is.text }

link_docs : (k : ℕ) (links : List Link) → AllByRecursion IsWritableLink links → HaveDistinctNames links → IsDocument (suc k) (links_tree links)
link_docs k links all distinct = object_doc k (map link_pair links) (mapped IsWritableLink (IsPart k) link_pair (link_part k) links all)
    (subst (IsDistinct bytes_are_equal) (sym (names_map link_pair (λ (link : Link). link.name) (λ link. refl) links)) distinct)

folder_doc : (k : ℕ) (single : Bool) (folders : List PathText) → AllByRecursion IsWritablePath folders → IsDocument (suc k) (folders_tree single folders)
folder_doc k true [] all = path_docs k [] tt
folder_doc k true (folder ∷ folders) all = string_doc (suc k) folder.written all.0
folder_doc k false folders all = path_docs k folders all

prefix_part : (k : ℕ) (row : PrefixDirs) → IsWritablePrefix row → IsPart (suc k) (prefix_pair row)
prefix_part k row is = record { name = is.written; value = folder_doc k row.single row.folders is.folders }

prefix_docs : (k : ℕ) (rows : List PrefixDirs) → AreWritablePrefixes rows → IsDocument (suc (suc k)) (prefixes_tree rows)
prefix_docs k rows is = object_doc (suc k) (map prefix_pair rows) (mapped IsWritablePrefix (IsPart (suc k)) prefix_pair (prefix_part k) rows is.each)
    (subst (IsDistinct bytes_are_equal) (sym (names_map prefix_pair (λ (row : PrefixDirs). row.written) (λ row. refl) rows)) is.distinct)

module _ (rules : Autoload) where
  rule_keys : List (List ℕ)
  rule_keys = key_text keys.Psr4 ∷ key_text keys.Psr0 ∷ key_text keys.Classmap ∷ key_text keys.Files ∷ key_text keys.Exclusions ∷ []

  some_rules : IsPicked (names_in (autoload_pairs rules)) rule_keys
  unfolding autoload_pairs rule_keys
  some_rules =
      some_filled keys.Psr4 prefixes_tree rules.psr4 _ _
      (some_filled keys.Psr0 prefixes_tree rules.psr0 _ _
      (some_filled keys.Classmap paths_tree rules.classmap _ _
      (some_filled keys.Files paths_tree rules.files _ _
      (some_last keys.Exclusions texts_tree rules.exclude))))
    where
      some_last : {X : Type 0} (key : Key) (tree : List X → JsonTree) (xs : List X) → IsPicked (names_in (filled key tree xs)) (key_text key ∷ [])
      some_last key tree [] = none_some (key_text key ∷ [])
      some_last key tree (x ∷ xs) = some_keyed key (tree (x ∷ xs)) [] [] (none_some [])

  rules_apart : are_apart rule_keys ≡ true
  unfolding are_apart rule_keys key_text
  rules_apart = refl

  rule_parts : IsWritableAutoload rules → AllByRecursion (IsPart 2) (autoload_pairs rules)
  unfolding autoload_pairs key_text
  rule_parts is =
      all_joined (IsPart 2) (filled keys.Psr4 prefixes_tree rules.psr4) _ (filled_part 2 keys.Psr4 prefixes_tree rules.psr4 refl (prefix_docs 0 rules.psr4 is.psr4))
      (all_joined (IsPart 2) (filled keys.Psr0 prefixes_tree rules.psr0) _ (filled_part 2 keys.Psr0 prefixes_tree rules.psr0 refl (prefix_docs 0 rules.psr0 is.psr0))
      (all_joined (IsPart 2) (filled keys.Classmap paths_tree rules.classmap) _ (filled_part 2 keys.Classmap paths_tree rules.classmap refl (path_docs 1 rules.classmap is.classmap))
      (all_joined (IsPart 2) (filled keys.Files paths_tree rules.files) _ (filled_part 2 keys.Files paths_tree rules.files refl (path_docs 1 rules.files is.files))
      (filled_part 2 keys.Exclusions texts_tree rules.exclude refl (text_docs 1 rules.exclude is.exclude)))))

  rules_doc : IsWritableAutoload rules → IsDocument 3 (object_of (autoload_pairs rules))
  rules_doc is = object_doc 2 (autoload_pairs rules) (rule_parts is) (some_distinct (names_in (autoload_pairs rules)) rule_keys rules_apart some_rules)

-- ---- where a package is installed from

segments_utf8 : (first : List ℕ) (rest : List (List ℕ)) → IsPath (first ∷ rest) → IsUtf8 (path_text (first ∷ rest))
segments_utf8 first [] is = segment_utf8 first (both_true (is_segment first) true is).0
  where
    segment_utf8 : (s : List ℕ) → is_segment s ≡ true → IsUtf8 s
    segment_utf8 s e = IsUtf8-from_is_utf8 s (both_true (is_utf8 s) _ (segment_facts s e).clean).0
segments_utf8 first (next ∷ rest) is =
    let p = both_true (is_segment first) (list_all is_segment (next ∷ rest)) is in
    IsUtf8-append first (47 ∷ path_text (next ∷ rest)) (IsUtf8-from_is_utf8 first (both_true (is_utf8 first) _ (segment_facts first p.0).clean).0)
    (IsUtf8-append (47 ∷ []) (path_text (next ∷ rest)) (low_utf8 (47 ∷ []) refl) (segments_utf8 next rest p.1))

path_utf8 : (path : List (List ℕ)) → IsPath path → IsUtf8 (path_text path)
path_utf8 [] is = low_utf8 (46 ∷ []) refl
path_utf8 (first ∷ rest) is = segments_utf8 first rest is

ups_utf8 : (n : ℕ) → IsUtf8 (concat (replicate n (46 ∷ 46 ∷ 47 ∷ [])))
ups_utf8 zero = low_utf8 [] refl
ups_utf8 (suc n) = IsUtf8-append (46 ∷ 46 ∷ 47 ∷ []) (concat (replicate n (46 ∷ 46 ∷ 47 ∷ []))) (low_utf8 (46 ∷ 46 ∷ 47 ∷ []) refl) (ups_utf8 n)

url_utf8 : (url : FolderRef) → IsPath url.path → IsUtf8 (folder_text url)
url_utf8 url is = IsUtf8-append (concat (replicate url.up (46 ∷ 46 ∷ 47 ∷ []))) (path_text url.path) (ups_utf8 url.up) (path_utf8 url.path is)

dist_doc : (url : FolderRef) (reference : List ℕ) → IsPath url.path → IsUtf8 reference → IsDocument 1 (dist_tree url reference)
unfolding dist_tree key_text are_apart
dist_doc url reference path u =
    object_doc 0 (keyed keys.Type (String (codes "path")) ∷ keyed keys.Url (String (folder_text url)) ∷ keyed keys.Reference (String reference) ∷ []) (
      key_part 0 keys.Type (String (codes "path")) refl (string_doc 0 (codes "path") (low_utf8 (codes "path") refl)),
      (key_part 0 keys.Url (String (folder_text url)) refl (string_doc 0 (folder_text url) (url_utf8 url path)), (key_part 0 keys.Reference (String reference) refl (string_doc 0 reference u), tt)),
    )
    (some_distinct names names refl (itself names))
  where
    names : List (List ℕ)
    names = key_text keys.Type ∷ key_text keys.Url ∷ key_text keys.Reference ∷ []

-- ---- a locked package

module _ (locked : Locked) where
  abbrev entry : Package
  entry = locked.«package»

  entry_keys : List (List ℕ)
  entry_keys = key_text keys.Name ∷ key_text keys.Version ∷ key_text keys.Dist ∷ key_text keys.Require ∷ key_text keys.Conflict ∷ key_text keys.Replace ∷ key_text keys.Provide ∷ key_text keys.Type ∷ key_text keys.Autoload ∷ []

  entry_apart : are_apart entry_keys ≡ true
  unfolding are_apart entry_keys key_text
  entry_apart = refl

  abbrev back : Pairs
  back = keyed keys.Type (String entry.kind) ∷ filled keys.Autoload object_of (autoload_pairs entry.autoload)

  abbrev links : Pairs
  links = filled keys.Require links_tree entry.require ++ (filled keys.Conflict links_tree entry.conflict ++ (filled keys.Replace links_tree entry.replace ++ filled keys.Provide links_tree entry.provide))

  some_back : IsPicked (names_in back) (key_text keys.Type ∷ key_text keys.Autoload ∷ [])
  some_back = some_keyed keys.Type (String entry.kind) _ _ (last (autoload_pairs entry.autoload))
    where
      last : (pairs : Pairs) → IsPicked (names_in (filled keys.Autoload object_of pairs)) (key_text keys.Autoload ∷ [])
      last [] = none_some (key_text keys.Autoload ∷ [])
      last (pair ∷ pairs) = some_keyed keys.Autoload (object_of (pair ∷ pairs)) [] [] (none_some [])

  -- the links, regrouped with what stands behind them
  regrouped : links ++ back ≡ filled keys.Require links_tree entry.require ++ (filled keys.Conflict links_tree entry.conflict ++ (filled keys.Replace links_tree entry.replace ++ (filled keys.Provide links_tree entry.provide ++ back)))
  regrouped =
      append_assoc (filled keys.Require links_tree entry.require) _ back
      ∙ ap (λ rest. filled keys.Require links_tree entry.require ++ rest) (append_assoc (filled keys.Conflict links_tree entry.conflict) _ back
      ∙ ap (λ rest. filled keys.Conflict links_tree entry.conflict ++ rest) (append_assoc (filled keys.Replace links_tree entry.replace) (filled keys.Provide links_tree entry.provide) back))

  abbrev rest_keys : List (List ℕ)
  rest_keys = key_text keys.Require ∷ key_text keys.Conflict ∷ key_text keys.Replace ∷ key_text keys.Provide ∷ key_text keys.Type ∷ key_text keys.Autoload ∷ []

  abbrev from_dist : Pairs
  from_dist = keyed keys.Dist (dist_tree locked.url locked.reference) ∷ (links ++ back)

  abbrev from_version : Pairs
  from_version = keyed keys.Version (String entry.version_text) ∷ from_dist

  some_rest : IsPicked (names_in (links ++ back)) rest_keys
  some_rest = subst (λ pairs. IsPicked (names_in pairs) rest_keys) (sym regrouped)
      (some_filled keys.Require links_tree entry.require _ _
      (some_filled keys.Conflict links_tree entry.conflict _ _
      (some_filled keys.Replace links_tree entry.replace _ _
      (some_filled keys.Provide links_tree entry.provide _ _ some_back))))

  some_entry : IsPicked (names_in (locked_pairs locked)) entry_keys
  unfolding locked_pairs link_pairs entry_keys
  some_entry =
      some_keyed keys.Name (String entry.name) from_version (key_text keys.Version ∷ key_text keys.Dist ∷ rest_keys)
      (some_keyed keys.Version (String entry.version_text) from_dist (key_text keys.Dist ∷ rest_keys) (some_keyed keys.Dist (dist_tree locked.url locked.reference) (links ++ back) rest_keys some_rest))

  link_parts : IsExactLocked locked → IsWritablePackage entry → AllByRecursion (IsPart 3) links
  unfolding key_text
  link_parts exact is =
      let formed = exact.member.parts in
      all_joined (IsPart 3) (filled keys.Require links_tree entry.require) _ (filled_part 3 keys.Require links_tree entry.require refl (link_docs 2 entry.require is.require formed.required_names))
      (all_joined (IsPart 3) (filled keys.Conflict links_tree entry.conflict) _ (filled_part 3 keys.Conflict links_tree entry.conflict refl (link_docs 2 entry.conflict is.conflict formed.conflict_names))
      (all_joined (IsPart 3) (filled keys.Replace links_tree entry.replace) (filled keys.Provide links_tree entry.provide) (filled_part 3 keys.Replace links_tree entry.replace refl (link_docs 2 entry.replace is.replace formed.replaced_names))
      (filled_part 3 keys.Provide links_tree entry.provide refl (link_docs 2 entry.provide is.provide formed.provided_names))))

  back_parts : IsWritablePackage entry → AllByRecursion (IsPart 3) back
  unfolding key_text
  back_parts is = (key_part 3 keys.Type (String entry.kind) refl (string_doc 3 entry.kind is.kind), filled_part 3 keys.Autoload object_of (autoload_pairs entry.autoload) refl (rules_doc entry.autoload is.autoload))

  entry_parts : IsExactLocked locked → IsWritableLocked locked → AllByRecursion (IsPart 3) (locked_pairs locked)
  unfolding locked_pairs link_pairs key_text
  entry_parts exact is = (
    key_part 3 keys.Name (String entry.name) refl (string_doc 3 entry.name is.parts.name),
    (
      key_part 3 keys.Version (String entry.version_text) refl (string_doc 3 entry.version_text is.parts.version_text),
      (
        key_part 3 keys.Dist (dist_tree locked.url locked.reference) refl (shallower 1 3 (dist_tree locked.url locked.reference) (omega arith) (dist_doc locked.url locked.reference exact.url is.reference)),
        all_joined (IsPart 3) links back (link_parts exact is.parts) (back_parts is.parts),
      ),
    ),
  )

  locked_doc : IsExactLocked locked → IsWritableLocked locked → IsDocument 4 (locked_tree locked)
  unfolding locked_tree
  locked_doc exact is = object_doc 3 (locked_pairs locked) (entry_parts exact is) (some_distinct (names_in (locked_pairs locked)) entry_keys entry_apart some_entry)

package_docs : (packages : List Locked) → AllByRecursion IsExactLocked packages → AllByRecursion IsWritableLocked packages → IsDocument 5 (packages_tree packages)
package_docs packages exact is = array_doc 4 (map locked_tree packages) (both_mapped packages exact is)
  where
    both_mapped : (some : List Locked) → AllByRecursion IsExactLocked some → AllByRecursion IsWritableLocked some → AllByRecursion (IsDocument 4) (map locked_tree some)
    both_mapped [] e w = tt
    both_mapped (locked ∷ some) e w = (locked_doc locked e.0 w.0, both_mapped some e.1 w.1)

-- ---- the other keys

digit_number : (byte : ℕ) → is_between 49 57 byte ≡ true → IsNumber (byte ∷ [])
digit_number byte e = record { minus = []; int = byte ∷ []; frac = []; exp = []; is_minus = inl refl; is_int = inr (byte, [], e, refl, refl); is_frac = inl refl; is_exp = inl refl; parts = refl }

zero_number : IsNumber (48 ∷ [])
zero_number = record { minus = []; int = 48 ∷ []; frac = []; exp = []; is_minus = inl refl; is_int = inl refl; is_frac = inl refl; is_exp = inl refl; parts = refl }

two_number : (first second : ℕ) → is_between 49 57 first ≡ true → list_all is_digit (second ∷ []) ≡ true → IsNumber (first ∷ second ∷ [])
two_number first second e f = record { minus = []; int = first ∷ second ∷ []; frac = []; exp = []; is_minus = inl refl; is_int = inr (first, second ∷ [], e, f, refl); is_frac = inl refl; is_exp = inl refl; parts = refl }

-- a rank is one of five, so its text is a number
ranked_number : (text : List ℕ) (rank : ℕ) → rank_spelled text ≡ Some rank → IsNumber text
unfolding rank_spelled
ranked_number text rank e = by (bytes_are_equal text (codes "0")) (bytes_are_equal text (codes "5")) (bytes_are_equal text (codes "10")) (bytes_are_equal text (codes "15")) (bytes_are_equal text (codes "20")) refl refl refl refl refl e
  where
    same : (word : List ℕ) → bytes_are_equal text word ≡ true → IsNumber word → IsNumber text
    same word f is = subst IsNumber (sym ((bytes_decides text word).0 f)) is

    by : (a b c d f : Bool) → bytes_are_equal text (codes "0") ≡ a → bytes_are_equal text (codes "5") ≡ b → bytes_are_equal text (codes "10") ≡ c → bytes_are_equal text (codes "15") ≡ d → bytes_are_equal text (codes "20") ≡ f
        → cond a (Some 0) (cond b (Some 5) (cond c (Some 10) (cond d (Some 15) (cond f (Some 20) None)))) ≡ Some rank → IsNumber text
    by true b c d f is0 is5 is10 is15 is20 g = same (codes "0") is0 zero_number
    by false true c d f is0 is5 is10 is15 is20 g = same (codes "5") is5 (digit_number 53 refl)
    by false false true d f is0 is5 is10 is15 is20 g = same (codes "10") is10 (two_number 49 48 refl refl)
    by false false false true f is0 is5 is10 is15 is20 g = same (codes "15") is15 (two_number 49 53 refl refl)
    by false false false false true is0 is5 is10 is15 is20 g = same (codes "20") is20 (two_number 50 48 refl refl)
    by false false false false false is0 is5 is10 is15 is20 g = absurd cc

flag_docs : (rows : List FlagRow) → AllByRecursion IsRanked rows → AreWritableFlags rows → IsDocument 1 (flags_tree rows)
flag_docs rows ranked is = object_doc 0 (map flag_pair rows) (parts rows ranked is.each) (subst (IsDistinct bytes_are_equal) (sym (names_map flag_pair (λ (row : FlagRow). row.name) (λ row. refl) rows)) is.distinct)
  where
    parts : (some : List FlagRow) → AllByRecursion IsRanked some → AllByRecursion (λ (row : FlagRow). IsUtf8 row.name) some → AllByRecursion (IsPart 0) (map flag_pair some)
    parts [] r u = tt
    parts (row ∷ some) r u = (record { name = u.0; value = number_doc 0 (decimal_text row.rank) (ranked_number (decimal_text row.rank) row.rank r.0) }, parts some r.1 u.1)

platform_docs : (rows : List PlatformLink) → AreWritablePlatforms rows → IsDocument 1 (platform_tree rows)
platform_docs rows is = object_doc 0 (map platform_pair rows) (mapped IsWritablePlatform (IsPart 0) platform_pair (λ row w. record { name = w.name; value = string_doc 0 row.text w.text }) rows is.each)
    (subst (IsDistinct bytes_are_equal) (sym (names_map platform_pair (λ (row : PlatformLink). row.name) (λ row. refl) rows)) is.distinct)

grade_doc : (grade : Grade) → IsDocument 5 (String (grade_text grade))
unfolding grade_text
grade_doc grades.Stable = string_doc 5 (codes "stable") (low_utf8 (codes "stable") refl)
grade_doc grades.Rc = string_doc 5 (codes "RC") (low_utf8 (codes "RC") refl)
grade_doc grades.Beta = string_doc 5 (codes "beta") (low_utf8 (codes "beta") refl)
grade_doc grades.Alpha = string_doc 5 (codes "alpha") (low_utf8 (codes "alpha") refl)
grade_doc grades.Dev = string_doc 5 (codes "dev") (low_utf8 (codes "dev") refl)

line_doc : (text : List ℕ) → list_all is_low text ≡ true → IsDocument 4 (String text)
line_doc text low = string_doc 4 text (low_utf8 text low)

readme_doc : IsDocument 5 readme_tree
unfolding readme_tree readme_lines
readme_doc = array_doc 4 (map String readme_lines) (line_doc _ refl, (line_doc _ refl, (line_doc _ refl, tt)))

-- ---- the lock

module _ (lock : Lock) where
  lock_keys : List (List ℕ)
  lock_keys = key_text keys.Readme ∷ key_text keys.ContentHash ∷ key_text keys.Packages ∷ key_text keys.PackagesDev ∷ key_text keys.Aliases ∷ key_text keys.MinimumStability ∷ key_text keys.StabilityFlags
      ∷ key_text keys.PreferStable ∷ key_text keys.PreferLowest ∷ key_text keys.Platform ∷ key_text keys.PlatformDev ∷ key_text keys.PluginApiVersion ∷ []

  lock_apart : are_apart lock_keys ≡ true
  unfolding are_apart lock_keys key_text
  lock_apart = refl

  some_lock : IsPicked (names_in (front_pairs lock ++ back_pairs lock)) lock_keys
  unfolding front_pairs back_pairs lock_keys
  some_lock = itself lock_keys

  front_parts : IsExactLock lock → IsWritableLock lock → AllByRecursion (IsPart 5) (front_pairs lock)
  unfolding front_pairs key_text
  front_parts exact is = (
    key_part 5 keys.Readme readme_tree refl readme_doc,
    (
      key_part 5 keys.ContentHash (String lock.content_hash) refl (string_doc 5 lock.content_hash is.content_hash),
      (
        key_part 5 keys.Packages (packages_tree lock.packages) refl (package_docs lock.packages exact.packages is.packages),
        (
          key_part 5 keys.PackagesDev (packages_tree lock.packages_dev) refl (package_docs lock.packages_dev exact.packages_dev is.packages_dev),
          (key_part 5 keys.Aliases (array_of []) refl (array_doc 4 [] tt), tt),
        ),
      ),
    ),
  )

  last_parts : IsExactLock lock → IsWritableLock lock → AllByRecursion (IsPart 5) (back_pairs lock)
  unfolding back_pairs key_text plugin_version
  last_parts exact is = (
    key_part 5 keys.MinimumStability (String (grade_text lock.minimum)) refl (grade_doc lock.minimum),
    (
      key_part 5 keys.StabilityFlags (flags_tree lock.flags) refl (shallower 1 5 (flags_tree lock.flags) (omega arith) (flag_docs lock.flags exact.flags is.flags)),
      (
        key_part 5 keys.PreferStable (Boolean lock.prefer_stable) refl (boolean_doc 5 lock.prefer_stable),
        (
          key_part 5 keys.PreferLowest (Boolean false) refl (boolean_doc 5 false),
          (
            key_part 5 keys.Platform (platform_tree lock.platform) refl (shallower 1 5 (platform_tree lock.platform) (omega arith) (platform_docs lock.platform is.platform)),
            (
              key_part 5 keys.PlatformDev (platform_tree lock.platform_dev) refl (shallower 1 5 (platform_tree lock.platform_dev) (omega arith) (platform_docs lock.platform_dev is.platform_dev)),
              (key_part 5 keys.PluginApiVersion (String plugin_version) refl (string_doc 5 plugin_version (low_utf8 plugin_version refl)), tt),
            ),
          ),
        ),
      ),
    ),
  )

  pub lock_doc : IsExactLock lock → IsWritableLock lock → IsDocument most_levels (lock_tree lock)
  unfolding lock_tree
  lock_doc exact is = shallower 6 most_levels (lock_tree lock) (omega arith)
      (object_doc 5 (front_pairs lock ++ back_pairs lock) (all_joined (IsPart 5) (front_pairs lock) (back_pairs lock) (front_parts exact is) (last_parts exact is))
      (some_distinct (names_in (front_pairs lock ++ back_pairs lock)) lock_keys lock_apart some_lock))
