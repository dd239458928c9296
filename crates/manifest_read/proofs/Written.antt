-- What is read of a document that can be written can be written.
use Rattle.std.proofs.Common.{◌≡◌, ℕ, suc, ◌+◌, Bool, true, false, cond, List, [], ◌∷◌, map, drop, Option, Some, None, Result, Ok, Err, arith, refl, sym, ap, subst, ◌∙◌}
use Rattle.std.specs.Prelude.{IfSome, ◌==◌}
use Rattle.std.specs.List.{AllByRecursion, IsDistinct, enumerate_from, prefix_len}
use Rattle.std.specs.Str.{IsUtf8}
use Rattle.std.proofs.lemmas.Bool.{eqb-true}
use Rattle.std.proofs.lemmas.Str.{IsUtf8-past_char}
use Rattle.path_name.specs.Bytes.{lowered}
use Rattle.path_name.specs.Orders.{bytes_are_equal}
use Rattle.json_ordered.specs.JsonTree.{JsonTree, Null, Boolean, Number, String, Array, Object, Items, no_items, item, Members, no_members, member, EachHasDistinctNames, AreDistinctNames, IsNewName, EachHasUtf8Texts, MembersHaveUtf8Texts}
use Rattle.json_ordered.specs.JsonNames.{value_of}
use Rattle.json_ordered.specs.JsonParts.{string_in}
use Rattle.version_norm.specs.declared.version.Version.{Version}
use Rattle.manifest_read.specs.declared.fault.FieldFault.{FieldFault}
use Rattle.manifest_read.specs.declared.fault.FieldFault.TheVariants.{BadField, NotOffered}
use Rattle.manifest_read.specs.declared.key.Key.{Key}
use Rattle.manifest_read.specs.declared.key.Key.TheVariants as keys
use Rattle.manifest_read.specs.declared.types.Role.{Role}
use Rattle.manifest_read.specs.declared.types.Role.TheVariants.{Root, Member}
use Rattle.manifest_read.specs.declared.types.Link.{Link}
use Rattle.manifest_read.specs.declared.types.PathText.{PathText}
use Rattle.manifest_read.specs.declared.types.PrefixDirs.{PrefixDirs}
use Rattle.manifest_read.specs.declared.types.Autoload.{Autoload}
use Rattle.manifest_read.specs.declared.types.PlatformRow.{PlatformRow}
use Rattle.manifest_read.specs.declared.types.Repository.{Repository}
use Rattle.manifest_read.specs.declared.autoload.Standard.{Standard}
use Rattle.manifest_read.specs.declared.autoload.Standard.TheVariants.{Psr4, Psr0}
use Rattle.manifest_read.specs.declared.autoload.Folders.{Folders}
use Rattle.manifest_read.specs.declared.config.Config.{Config}
use Rattle.manifest_read.specs.declared.settings.Settings.{Settings}
use Rattle.manifest_read.specs.Keys.{Pairs, key_text, value_at}
use Rattle.manifest_read.specs.Pointers.{below, at_key, at_item}
use Rattle.manifest_read.specs.Values.{if_there, list_of_items, pairs_of_members, items_in, pairs_in, text_at, list_at, object_at}
use Rattle.manifest_read.specs.Names.{is_platform_name, is_link_name}
use Rattle.manifest_read.specs.Links.{kept, link_name_at, constraint_at, link_at, links_in, links_of}
use Rattle.manifest_read.specs.Autoloads.{texts_in, texts_of, path_at, is_offered, path_text_at, path_texts_at, paths_in, paths_of, is_backslash, without_backslashes, is_prefix, prefix_at, folders_from, folders_at, prefix_dirs_at, prefixes_in, standard_key, prefixes_of, no_rules, rules_in, autoload_in, autoload_of}
use Rattle.manifest_read.specs.Repositories.{path_type_of, plain_at, folder_at, is_offered_url, url_at, url_of, is_only_packagist_off, is_packagist_off, repository_at, entry_at, named_entry_at, repositories_from, repositories_in, repositories_of}
use Rattle.manifest_read.specs.Settings.{minimum_of, boolean_of, vendor_dir_of, platform_version_at, platform_name_at, platform_row_at, platform_in, platform_of, no_config, config_in, config_at, config_of, no_settings, root_settings, settings_of}
use Rattle.manifest_read.specs.Writable.{IsWritten, IsWritableLink, IsWritablePath, IsWritablePrefix, AreWritablePrefixes, IsWritableAutoload, AreWritableRows}
use Rattle.manifest_read.proofs.Steps.{Answers, same_value, both, passed, given, there_of, none_missing, all_read_of, each_map, all_there_of, numbered}
use Rattle.manifest_read.proofs.Distinct.{kept_hold}
use Rattle.manifest_read.proofs.NameBytes.{link_name_utf8}

abbrev Pair : Type 0
Pair = List ℕ × JsonTree

-- ---- parts of a document

pub record IsWrittenPair (pair : Pair) : Type 0 where
  pub name : IsUtf8 pair.0
  pub value : IsWritten pair.1

abbrev pub names_of_pairs : Pairs → List (List ℕ)
names_of_pairs pairs = map (λ (pair : Pair). pair.0) pairs

pub record AreWrittenPairs (pairs : Pairs) : Type 0 where
  pub each : AllByRecursion IsWrittenPair pairs
  pub distinct : IsDistinct bytes_are_equal (names_of_pairs pairs)

pairs_written : (ms : Members) → MembersHaveUtf8Texts ms → AreDistinctNames ms → AllByRecursion IsWrittenPair (pairs_of_members ms)
pairs_written no_members u d = tt
pairs_written (member name v ms) u d = (record { name = u.0; value = record { texts = u.1; names = d.1 } }, pairs_written ms u.2 d.2)

other_names : (name : List ℕ) (ms : Members) → IsNewName name ms → AllByRecursion (λ other. bytes_are_equal name other ≡ false) (names_of_pairs (pairs_of_members ms))
other_names name no_members new = tt
other_names name (member other v ms) new = (new.0, other_names name ms new.1)

names_distinct : (ms : Members) → AreDistinctNames ms → IsDistinct bytes_are_equal (names_of_pairs (pairs_of_members ms))
unfolding IsDistinct
names_distinct no_members d = tt
names_distinct (member name v ms) d = (other_names name ms d.0, names_distinct ms d.2)

items_written : (vs : Items) → EachHasUtf8Texts vs → EachHasDistinctNames vs → AllByRecursion IsWritten (list_of_items vs)
items_written no_items u d = tt
items_written (item v vs) u d = (record { texts = u.0; names = d.0 }, items_written vs u.1 d.1)

no_pairs : AreWrittenPairs []
unfolding IsDistinct
no_pairs = record { each = tt; distinct = tt }

pairs_of_value : (v : JsonTree) → IsWritten v → IfSome (pairs_in v) AreWrittenPairs
pairs_of_value Null w = tt
pairs_of_value (Boolean b) w = tt
pairs_of_value (Number text) w = tt
pairs_of_value (String text) w = tt
pairs_of_value (Array no_items) w = no_pairs
pairs_of_value (Array (item v vs)) w = tt
pairs_of_value (Object ms) w = record { each = pairs_written ms w.texts w.names; distinct = names_distinct ms w.names }

items_of_value : (v : JsonTree) → IsWritten v → IfSome (items_in v) (AllByRecursion IsWritten)
items_of_value Null w = tt
items_of_value (Boolean b) w = tt
items_of_value (Number text) w = tt
items_of_value (String text) w = tt
items_of_value (Array vs) w = items_written vs w.texts w.names
items_of_value (Object ms) w = tt

text_of_value : (v : JsonTree) → IsWritten v → IfSome (string_in v) IsUtf8
text_of_value Null w = tt
text_of_value (Boolean b) w = tt
text_of_value (Number text) w = tt
text_of_value (String text) w = w.texts
text_of_value (Array vs) w = tt
text_of_value (Object ms) w = tt

pub object_written : (pointer : List ℕ) (v : JsonTree) (pairs : Pairs) → IsWritten v → object_at pointer v ≡ Ok pairs → AreWrittenPairs pairs
unfolding object_at
object_written pointer v pairs w e = given (pairs_in v) (BadField pointer) pairs AreWrittenPairs (pairs_of_value v w) e

list_written : (pointer : List ℕ) (v : JsonTree) (items : List JsonTree) → IsWritten v → list_at pointer v ≡ Ok items → AllByRecursion IsWritten items
unfolding list_at
list_written pointer v items w e = given (items_in v) (BadField pointer) items (AllByRecursion IsWritten) (items_of_value v w) e

pub text_written : (pointer : List ℕ) (v : JsonTree) (text : List ℕ) → IsWritten v → text_at pointer v ≡ Ok text → IsUtf8 text
unfolding text_at
text_written pointer v text w e = given (string_in v) (BadField pointer) text IsUtf8 (text_of_value v w) e

first_or_later : (b : Bool) (v : JsonTree) (later : Option JsonTree) → IsWritten v → IfSome later IsWritten → IfSome (cond b (Some v) later) IsWritten
first_or_later true v later w more = w
first_or_later false v later w more = more

value_written : (pairs : Pairs) (name : List ℕ) → AllByRecursion IsWrittenPair pairs → IfSome (value_of pairs name) IsWritten
value_written [] name all = tt
value_written (pair ∷ pairs) name all = first_or_later (bytes_are_equal name pair.0) pair.1 (value_of pairs name) all.0.value (value_written pairs name all.1)

key_written : (pairs : Pairs) (key : Key) → AreWrittenPairs pairs → IfSome (value_at pairs key) IsWritten
unfolding value_at
key_written pairs key w = value_written pairs (key_text key) w.each

-- the value of a key, where what stands for a missing one is known
pub keyed : {X : Type 0} (pairs : Pairs) (key : Key) (missing : Result X FieldFault) (read : JsonTree → Result X FieldFault) (P : X → Type 0) (x : X) → AreWrittenPairs pairs
    → ((y : X) → missing ≡ Ok y → P y) → ((v : JsonTree) (y : X) → IsWritten v → read v ≡ Ok y → P y) → if_there (value_at pairs key) missing read ≡ Ok x → P x
keyed pairs key missing read P x w otherwise from e = there_of IsWritten (value_at pairs key) missing read P x (key_written pairs key w) otherwise from e

-- a text, or another that is known to be UTF-8
pub missing_text : (other text : List ℕ) → IsUtf8 other → Answers (Ok other) text → IsUtf8 text
missing_text other text u e = subst IsUtf8 (same_value other text e) u

-- ---- links

link_written : (own : Version) (at : List ℕ) (pair : Pair) (link : Link) → IsWrittenPair pair → link_at own at pair ≡ Ok link → IsWritableLink link
unfolding link_at link_name_at
link_written own at pair link w e =
    let a = both (link_name_at (below at pair.0) pair.0) _ link e in
    let b = both (text_at (below at pair.0) pair.1) _ link a.2 in
    let c = both (constraint_at (below at pair.0) own b.0) _ link b.2 in
    let named = passed (is_link_name (lowered pair.0)) (lowered pair.0) a.0 (BadField (below at pair.0)) a.1 in
    let made : Link = record { name = a.0; text = b.0; wants = c.0 } in
    let same : made ≡ link = cc in
    subst IsWritableLink same (record { name = subst IsUtf8 named.1 (link_name_utf8 (lowered pair.0) named.0); text = text_written (below at pair.0) pair.1 b.0 w.value b.1 })

links_from : (own : Version) (pointer : List ℕ) (v : JsonTree) (links : List Link) → IsWritten v → links_in own pointer v ≡ Ok links → AllByRecursion IsWritableLink links
unfolding links_in
links_from own pointer v links w e =
    let a = both (object_at pointer v) _ links e in
    all_read_of IsWrittenPair (link_at own pointer) IsWritableLink (link_written own pointer) (kept a.0) links (kept_hold IsWrittenPair [] a.0 (object_written pointer v a.0 w a.1).each) a.2

pub links_written : (own : Version) (at : List ℕ) (pairs : Pairs) (key : Key) (links : List Link) → AreWrittenPairs pairs → links_of own at pairs key ≡ Ok links → AllByRecursion IsWritableLink links
unfolding links_of
links_written own at pairs key links w e =
    keyed pairs key (Ok []) (links_in own (at_key at key)) (AllByRecursion IsWritableLink) links w (none_missing IsWritableLink) (links_from own (at_key at key)) e

-- ---- paths

path_written : (role : Role) (starless : Bool) (pointer : List ℕ) (v : JsonTree) (p : PathText) → IsWritten v → path_text_at role starless pointer v ≡ Ok p → IsWritablePath p
unfolding path_text_at
path_written role starless pointer v p w e =
    let a = both (text_at pointer v) _ p e in
    let b = both (path_at pointer a.0) _ p a.2 in
    let made : PathText = record { written = a.0; path = b.0 } in
    let fits = passed (is_offered role starless made) made p (NotOffered pointer) b.2 in
    subst IsWritablePath fits.1 (text_written pointer v a.0 w a.1)

paths_from : (role : Role) (starless : Bool) (pointer : List ℕ) (items : List JsonTree) (paths : List PathText) → AllByRecursion IsWritten items → path_texts_at role starless pointer items ≡ Ok paths
    → AllByRecursion IsWritablePath paths
unfolding path_texts_at
paths_from role starless pointer items paths w e =
    all_read_of (λ (n : ℕ × JsonTree). IsWritten n.1) (λ (n : ℕ × JsonTree). path_text_at role starless (at_item pointer n.0) n.1) IsWritablePath (λ n p. path_written role starless (at_item pointer n.0) n.1 p)
    (enumerate_from 0 items) paths (numbered IsWritten 0 items w) e

paths_written : (role : Role) (starless : Bool) (at : List ℕ) (pairs : Pairs) (key : Key) (paths : List PathText) → AreWrittenPairs pairs → paths_of role starless at pairs key ≡ Ok paths
    → AllByRecursion IsWritablePath paths
unfolding paths_of paths_in
paths_written role starless at pairs key paths w e =
    keyed pairs key (Ok []) (paths_in role starless (at_key at key)) (AllByRecursion IsWritablePath) paths w (none_missing IsWritablePath)
    (λ v found u is. let a = both (list_at (at_key at key) v) _ found is in paths_from role starless (at_key at key) a.0 found (list_written (at_key at key) v a.0 u a.1) a.2) e

-- ---- prefixes

-- a leading `\` or none
cut_one : (byte : ℕ) (text : List ℕ) (b : Bool) → (byte == 92) ≡ b → IsUtf8 (byte ∷ text) → (IsUtf8 text → IsUtf8 (without_backslashes text))
    → IsUtf8 (drop (cond b (1 + prefix_len is_backslash text) 0) (byte ∷ text))
unfolding lib.Utf8.encode
cut_one byte text true e u rest =
    let on : 1 + prefix_len is_backslash text ≡ suc (prefix_len is_backslash text) = omega arith in
    subst (λ n. IsUtf8 (drop n (byte ∷ text))) (sym on) (rest (IsUtf8-past_char (byte ∷ text) text 92 u (ap (λ b. b ∷ text) (eqb-true byte 92 e))))
cut_one byte text false e u rest = u

cut_written : (text : List ℕ) → IsUtf8 text → IsUtf8 (without_backslashes text)
cut_written [] u = u
cut_written (byte ∷ text) u = cut_one byte text (byte == 92) refl u (cut_written text)

folders_written : (role : Role) (pointer : List ℕ) (v : JsonTree) (items : Option (List JsonTree)) (f : Folders) → IsWritten v → IfSome items (AllByRecursion IsWritten) → folders_from role pointer v items ≡ Ok f
    → AllByRecursion IsWritablePath f.folders
folders_written role pointer v None f w all e =
    let a = both (path_text_at role false pointer v) _ f e in
    let made : Folders = record { folders = a.0 ∷ []; single = true } in
    let same : made ≡ f = cc in
    subst (λ (g : Folders). AllByRecursion IsWritablePath g.folders) same (path_written role false pointer v a.0 w a.1, tt)
folders_written role pointer v (Some items) f w all e =
    let a = both (path_texts_at role false pointer items) _ f e in
    let made : Folders = record { folders = a.0; single = false } in
    let same : made ≡ f = cc in
    subst (λ (g : Folders). AllByRecursion IsWritablePath g.folders) same (paths_from role false pointer items a.0 all a.1)

row_written : (standard : Standard) (role : Role) (at : List ℕ) (pair : Pair) (row : PrefixDirs) → IsWrittenPair pair → prefix_dirs_at standard role at pair ≡ Ok row → IsWritablePrefix row
unfolding prefix_dirs_at prefix_at folders_at
row_written standard role at pair row w e =
    let a = both (prefix_at standard (below at pair.0) pair.0) _ row e in
    let b = both (folders_at role (below at pair.0) pair.1) _ row a.2 in
    let is = passed (is_prefix standard (without_backslashes pair.0)) (without_backslashes pair.0) a.0 (BadField (below at pair.0)) a.1 in
    let made : PrefixDirs = record { written = pair.0; prefix = a.0; folders = b.0.folders; single = b.0.single } in
    let same : made ≡ row = cc in
    subst IsWritablePrefix same (record {
      written = w.name;
      prefix = subst IsUtf8 is.1 (cut_written pair.0 w.name);
      folders = folders_written role (below at pair.0) pair.1 (items_in pair.1) b.0 w.value (items_of_value pair.1 w.value) b.1;
    })

row_name : (standard : Standard) (role : Role) (at : List ℕ) (pair : Pair) (row : PrefixDirs) → prefix_dirs_at standard role at pair ≡ Ok row → row.written ≡ pair.0
unfolding prefix_dirs_at
row_name standard role at pair row e =
    let a = both (prefix_at standard (below at pair.0) pair.0) _ row e in
    let b = both (folders_at role (below at pair.0) pair.1) _ row a.2 in
    let made : PrefixDirs = record { written = pair.0; prefix = a.0; folders = b.0.folders; single = b.0.single } in
    let same : made ≡ row = cc in
    ap (λ (r : PrefixDirs). r.written) (sym same)

no_prefixes : (rows : List PrefixDirs) → Answers (Ok []) rows → AreWritablePrefixes rows
unfolding IsDistinct
no_prefixes [] e = record { each = tt; distinct = tt }
no_prefixes (row ∷ rows) e = absurd cc

prefixes_from : (standard : Standard) (role : Role) (pointer : List ℕ) (v : JsonTree) (rows : List PrefixDirs) → IsWritten v → prefixes_in standard role pointer v ≡ Ok rows → AreWritablePrefixes rows
unfolding prefixes_in
prefixes_from standard role pointer v rows w e =
    let a = both (object_at pointer v) _ rows e in
    let pairs = object_written pointer v a.0 w a.1 in
    record {
      each = all_read_of IsWrittenPair (prefix_dirs_at standard role pointer) IsWritablePrefix (row_written standard role pointer) a.0 rows pairs.each a.2;
      distinct = subst (IsDistinct bytes_are_equal) (sym (each_map (prefix_dirs_at standard role pointer) (λ (row : PrefixDirs). row.written) (λ (pair : Pair). pair.0) (row_name standard role pointer) a.0 rows a.2)) pairs.distinct;
    }

prefixes_written : (standard : Standard) (role : Role) (at : List ℕ) (pairs : Pairs) (rows : List PrefixDirs) → AreWrittenPairs pairs → prefixes_of standard role at pairs ≡ Ok rows → AreWritablePrefixes rows
unfolding prefixes_of
prefixes_written standard role at pairs rows w e =
    keyed pairs (standard_key standard) (Ok []) (prefixes_in standard role (at_key at (standard_key standard))) AreWritablePrefixes rows w no_prefixes (prefixes_from standard role (at_key at (standard_key standard))) e

-- ---- texts of a list

texts_from : (pointer : List ℕ) (v : JsonTree) (texts : List (List ℕ)) → IsWritten v → texts_in pointer v ≡ Ok texts → AllByRecursion IsUtf8 texts
unfolding texts_in
texts_from pointer v texts w e =
    let a = both (list_at pointer v) _ texts e in
    all_read_of (λ (n : ℕ × JsonTree). IsWritten n.1) (λ (n : ℕ × JsonTree). text_at (at_item pointer n.0) n.1) IsUtf8 (λ n t. text_written (at_item pointer n.0) n.1 t)
    (enumerate_from 0 a.0) texts (numbered IsWritten 0 a.0 (list_written pointer v a.0 w a.1)) a.2

texts_written : (at : List ℕ) (pairs : Pairs) (key : Key) (texts : List (List ℕ)) → AreWrittenPairs pairs → texts_of at pairs key ≡ Ok texts → AllByRecursion IsUtf8 texts
unfolding texts_of
texts_written at pairs key texts w e = keyed pairs key (Ok []) (texts_in (at_key at key)) (AllByRecursion IsUtf8) texts w (none_missing IsUtf8) (texts_from (at_key at key)) e

-- ---- autoload

rules_written : (role : Role) (at : List ℕ) (pairs : Pairs) (rules : Autoload) → AreWrittenPairs pairs → rules_in role at pairs ≡ Ok rules → IsWritableAutoload rules
unfolding rules_in
rules_written role at pairs rules w e =
    let a = both (prefixes_of Psr4 role at pairs) _ rules e in
    let b = both (prefixes_of Psr0 role at pairs) _ rules a.2 in
    let c = both (paths_of role true at pairs keys.Classmap) _ rules b.2 in
    let d = both (paths_of role false at pairs keys.Files) _ rules c.2 in
    let f = both (texts_of at pairs keys.Exclusions) _ rules d.2 in
    let made : Autoload = record { psr4 = a.0; psr0 = b.0; classmap = c.0; files = d.0; exclude = f.0 } in
    let same : made ≡ rules = cc in
    subst IsWritableAutoload same (record {
      psr4 = prefixes_written Psr4 role at pairs a.0 w a.1;
      psr0 = prefixes_written Psr0 role at pairs b.0 w b.1;
      classmap = paths_written role true at pairs keys.Classmap c.0 w c.1;
      files = paths_written role false at pairs keys.Files d.0 w d.1;
      exclude = texts_written at pairs keys.Exclusions f.0 w f.1;
    })

pub no_rules_written : (rules : Autoload) → Answers (Ok no_rules) rules → IsWritableAutoload rules
unfolding no_rules
no_rules_written rules e =
    let same : no_rules ≡ rules = cc in
    let none = no_prefixes [] refl in
    subst IsWritableAutoload same (record { psr4 = none; psr0 = none; classmap = tt; files = tt; exclude = tt })

pub autoload_written : (role : Role) (at : List ℕ) (pairs : Pairs) (key : Key) (rules : Autoload) → AreWrittenPairs pairs → autoload_of role at pairs key ≡ Ok rules → IsWritableAutoload rules
unfolding autoload_of autoload_in
autoload_written role at pairs key rules w e =
    keyed pairs key (Ok no_rules) (autoload_in role (at_key at key)) IsWritableAutoload rules w no_rules_written
    (λ v found u is. let a = both (object_at (at_key at key) v) _ found is in rules_written role (at_key at key) a.0 found (object_written (at_key at key) v a.0 u a.1) a.2) e

-- ---- repositories

abbrev IsWritableUrl : Repository → Type 0
IsWritableUrl repository = IsUtf8 repository.written

url_written : (pointer : List ℕ) (v : JsonTree) (repository : Repository) → IsWritten v → url_at pointer v ≡ Ok repository → IsWritableUrl repository
unfolding url_at
url_written pointer v repository w e =
    let a = both (text_at pointer v) _ repository e in
    let b = both (folder_at pointer a.0) _ repository a.2 in
    let made : Repository = record { up = b.0.up; segments = b.0.path; written = a.0 } in
    let fits = passed (is_offered_url a.0 b.0) made repository (NotOffered pointer) b.2 in
    subst IsWritableUrl fits.1 (text_written pointer v a.0 w a.1)

repository_written : (at : List ℕ) (pairs : Pairs) (found : Option Repository) → AreWrittenPairs pairs → repository_at at pairs ≡ Ok found → IfSome found IsWritableUrl
unfolding repository_at url_of
repository_written at pairs found w e =
    let a = both (path_type_of at pairs) _ found e in
    let b = both (url_of at pairs) _ found a.2 in
    let c = both (plain_at at pairs) _ found b.2 in
    let same : Some b.0 ≡ found = cc in
    subst (λ o. IfSome o IsWritableUrl) same
    (keyed pairs keys.Url (Err (BadField (at_key at keys.Url))) (url_at (at_key at keys.Url)) IsWritableUrl b.0 w (λ y h. absurd cc) (url_written (at_key at keys.Url)) b.1)

skipped : (found : Option Repository) → Answers (Ok None) found → IfSome found IsWritableUrl
skipped None e = tt
skipped (Some repository) e = absurd cc

unless : (b : Bool) (r : Result (Option Repository) FieldFault) (found : Option Repository) → ((y : Option Repository) → r ≡ Ok y → IfSome y IsWritableUrl) → cond b (Ok None) r ≡ Ok found → IfSome found IsWritableUrl
unless true r found h e = skipped found e
unless false r found h e = h found e

entry_written : (pointer : List ℕ) (v : JsonTree) (found : Option Repository) → IsWritten v → entry_at pointer v ≡ Ok found → IfSome found IsWritableUrl
unfolding entry_at
entry_written pointer v found w e =
    let a = both (object_at pointer v) _ found e in
    unless (is_only_packagist_off a.0) (repository_at pointer a.0) found (λ y. repository_written pointer a.0 y (object_written pointer v a.0 w a.1)) a.2

named_written : (at : List ℕ) (pair : Pair) (found : Option Repository) → IsWrittenPair pair → named_entry_at at pair ≡ Ok found → IfSome found IsWritableUrl
unfolding named_entry_at
named_written at pair found w e = unless (is_packagist_off pair) (entry_at (below at pair.0) pair.1) found (λ y. entry_written (below at pair.0) pair.1 y w.value) e

from_written : (pointer : List ℕ) (v : JsonTree) (items : Option (List JsonTree)) (found : List Repository) → IsWritten v → IfSome items (AllByRecursion IsWritten) → repositories_from pointer v items ≡ Ok found
    → AllByRecursion IsWritableUrl found
from_written pointer v None found w all e =
    let a = both (object_at pointer v) _ found e in
    all_there_of IsWrittenPair (named_entry_at pointer) IsWritableUrl (named_written pointer) a.0 found (object_written pointer v a.0 w a.1).each a.2
from_written pointer v (Some items) found w all e =
    all_there_of (λ (n : ℕ × JsonTree). IsWritten n.1) (λ (n : ℕ × JsonTree). entry_at (at_item pointer n.0) n.1) IsWritableUrl (λ n. entry_written (at_item pointer n.0) n.1)
    (enumerate_from 0 items) found (numbered IsWritten 0 items all) e

repositories_written : (at : List ℕ) (pairs : Pairs) (found : List Repository) → AreWrittenPairs pairs → repositories_of at pairs ≡ Ok found → AllByRecursion IsWritableUrl found
unfolding repositories_of repositories_in
repositories_written at pairs found w e =
    keyed pairs keys.Repositories (Ok []) (repositories_in (at_key at keys.Repositories)) (AllByRecursion IsWritableUrl) found w (none_missing IsWritableUrl)
    (λ v some u is. from_written (at_key at keys.Repositories) v (items_in v) some u (items_of_value v u) is) e

-- ---- settings

platform_written : (at : List ℕ) (pair : Pair) (row : PlatformRow) → platform_row_at at pair ≡ Ok row → row.name ≡ pair.0
unfolding platform_row_at platform_name_at
platform_written at pair row e =
    let a = both (platform_name_at (below at pair.0) pair.0) _ row e in
    let b = both (platform_version_at (below at pair.0) pair.1) _ row a.2 in
    let is = passed (is_platform_name pair.0) pair.0 a.0 (BadField (below at pair.0)) a.1 in
    let made : PlatformRow = record { name = a.0; version = b.0 } in
    let same : made ≡ row = cc in
    ap (λ (r : PlatformRow). r.name) (sym same) ∙ sym is.1

abbrev IsWritableRow : PlatformRow → Type 0
IsWritableRow row = IsUtf8 row.name

no_rows : (rows : List PlatformRow) → Answers (Ok []) rows → AreWritableRows rows
unfolding IsDistinct
no_rows [] e = record { each = tt; distinct = tt }
no_rows (row ∷ rows) e = absurd cc

rows_from : (pointer : List ℕ) (v : JsonTree) (rows : List PlatformRow) → IsWritten v → platform_in pointer v ≡ Ok rows → AreWritableRows rows
unfolding platform_in
rows_from pointer v rows w e =
    let a = both (object_at pointer v) _ rows e in
    let pairs = object_written pointer v a.0 w a.1 in
    record {
      each = all_read_of IsWrittenPair (platform_row_at pointer) IsWritableRow (λ pair row known is. subst IsUtf8 (sym (platform_written pointer pair row is)) known.name) a.0 rows pairs.each a.2;
      distinct = subst (IsDistinct bytes_are_equal) (sym (each_map (platform_row_at pointer) (λ (row : PlatformRow). row.name) (λ (pair : Pair). pair.0) (platform_written pointer) a.0 rows a.2)) pairs.distinct;
    }

config_in_written : (at : List ℕ) (pairs : Pairs) (config : Config) → AreWrittenPairs pairs → config_in at pairs ≡ Ok config → AreWritableRows config.platform
unfolding config_in platform_of
config_in_written at pairs config w e =
    let a = both (vendor_dir_of at pairs) _ config e in
    let b = both (platform_of at pairs) _ config a.2 in
    let c = both (boolean_of at pairs keys.OptimizeAutoloader) _ config b.2 in
    let d = both (boolean_of at pairs keys.ClassmapAuthoritative) _ config c.2 in
    let made : Config = record { platform = b.0; optimise = c.0; authoritative = d.0 } in
    let same : made ≡ config = cc in
    subst (λ (k : Config). AreWritableRows k.platform) same
    (keyed pairs keys.Platform (Ok []) (platform_in (at_key at keys.Platform)) AreWritableRows b.0 w no_rows (rows_from (at_key at keys.Platform)) b.1)

no_config_written : (config : Config) → Answers (Ok no_config) config → AreWritableRows config.platform
unfolding no_config
no_config_written config e =
    let same : no_config ≡ config = cc in
    subst (λ (k : Config). AreWritableRows k.platform) same (no_rows [] refl)

config_written : (at : List ℕ) (pairs : Pairs) (config : Config) → AreWrittenPairs pairs → config_of at pairs ≡ Ok config → AreWritableRows config.platform
unfolding config_of config_at
config_written at pairs config w e =
    keyed pairs keys.Config (Ok no_config) (config_at (at_key at keys.Config)) (λ (k : Config). AreWritableRows k.platform) config w no_config_written
    (λ v found u is. let a = both (object_at (at_key at keys.Config) v) _ found is in config_in_written (at_key at keys.Config) a.0 found (object_written (at_key at keys.Config) v a.0 u a.1) a.2) e

abbrev AreWritableSettings : Settings → Type 0
AreWritableSettings settings = AllByRecursion IsWritableUrl settings.repositories × AreWritableRows settings.config.platform

pub settings_written : (role : Role) (at : List ℕ) (pairs : Pairs) (settings : Settings) → AreWrittenPairs pairs → settings_of role at pairs ≡ Ok settings → AreWritableSettings settings
unfolding settings_of root_settings no_settings no_config
settings_written Root at pairs settings w e =
    let a = both (repositories_of at pairs) _ settings e in
    let b = both (minimum_of at pairs) _ settings a.2 in
    let c = both (boolean_of at pairs keys.PreferStable) _ settings b.2 in
    let d = both (config_of at pairs) _ settings c.2 in
    let made : Settings = record { repositories = a.0; minimum = b.0; prefer_stable = c.0; config = d.0 } in
    let same : made ≡ settings = cc in
    subst AreWritableSettings same (repositories_written at pairs a.0 w a.1, config_written at pairs d.0 w d.1)
settings_written Member at pairs settings w e =
    let same : no_settings ≡ settings = cc in
    subst AreWritableSettings same (tt, no_rows [] refl)
