-- What is read can be read again: names in small letters, and the rules on folders and paths.
use Rattle.std.proofs.Common.{◌≡◌, ℕ, Bool, true, false, cond, List, [], ◌∷◌, ◌++◌, Option, Some, None, Result, Ok, Err, refl, ap, subst, ◌∙◌, arith}
use Rattle.std.specs.Prelude.{codes}
use Rattle.std.specs.List.{AllByRecursion, enumerate_from, list_any}
use Rattle.std.specs.Option.{ok_or, option_and_then}
use Rattle.std.proofs.lemmas.Fmt.{decimal_digit, decimal_step}
use Rattle.path_name.specs.Bytes.{lowered}
use Rattle.path_name.specs.Decimals.{decimal_text}
use Rattle.path_name.specs.Orders.{bytes_are_equal}
use Rattle.path_name.specs.FolderRefs.{folder_of}
use Rattle.path_name.specs.Paths.{IsPath}
use Rattle.path_name.specs.declared.folder_ref.FolderRef.{FolderRef}
use Rattle.path_name.specs.declared.fault.PathFault.{PathFault}
use Rattle.path_name.specs.declared.fault.PathFault.TheVariants as path_faults
use Rattle.path_name.proofs.ReadPaths.{folder_of_is_path}
use Rattle.json_ordered.specs.JsonTree.{JsonTree}
use Rattle.json_ordered.specs.JsonParts.{number_in}
use Rattle.version_norm.specs.declared.version.Version.{Version}
use Rattle.manifest_read.specs.declared.fault.FieldFault.{FieldFault}
use Rattle.manifest_read.specs.declared.fault.FieldFault.TheVariants.{BadField, NotOffered, ReservedName}
use Rattle.manifest_read.specs.declared.key.Key.{Key}
use Rattle.manifest_read.specs.declared.key.Key.TheVariants as keys
use Rattle.manifest_read.specs.declared.types.Role.TheVariants.{Member}
use Rattle.manifest_read.specs.declared.types.Link.{Link}
use Rattle.manifest_read.specs.declared.types.PathText.{PathText}
use Rattle.manifest_read.specs.declared.types.PrefixDirs.{PrefixDirs}
use Rattle.manifest_read.specs.declared.types.Autoload.{Autoload}
use Rattle.manifest_read.specs.declared.types.Package.{Package}
use Rattle.manifest_read.specs.declared.types.Manifest.{Manifest}
use Rattle.manifest_read.specs.declared.package.Head.{Head}
use Rattle.manifest_read.specs.Keys.{Pairs, value_at}
use Rattle.manifest_read.specs.Pointers.{below, at_key, at_item}
use Rattle.manifest_read.specs.Values.{items_in, text_at, list_at, object_at}
use Rattle.manifest_read.specs.Versions.{version_at}
use Rattle.manifest_read.specs.Names.{is_link_name, is_package_name, is_reserved}
use Rattle.manifest_read.specs.Links.{kept, link_name_at, constraint_at, link_at, links_in, links_of}
use Rattle.manifest_read.specs.Autoloads.{is_star, path_at, is_barred, is_offered, path_text_at, path_texts_at, paths_in, paths_of, prefix_at, folders_from, folders_at, prefix_dirs_at, prefixes_in, standard_key, prefixes_of, texts_of, no_rules, rules_in, autoload_in, autoload_of}
use Rattle.manifest_read.specs.Repositories.{path_type_of, folder_or_fault, folder_at, begins_with_slash}
use Rattle.manifest_read.specs.Settings.{settings_of}
use Rattle.manifest_read.specs.Packages.{package_name_at, member_name_at, name_of, version_text_of, entry_version_text_of, head_of, entry_head_of, kind_of, others_of, plain_package_at, package_entry_from, package_entry_of, package_head_of}
use Rattle.manifest_read.specs.Manifests.{dev_links_of, dev_autoload_of, manifest_from, manifest_of}
use Rattle.manifest_read.proofs.Steps.{Answers, same_value, both, passed, barred, there, none_missing, all_read}
use Rattle.manifest_read.proofs.Formed.{entries_are_formed}
use Rattle.lock_file.specs.declared.types.Locked.{Locked}
use Rattle.lock_file.specs.declared.types.FlagRow.{FlagRow}
use Rattle.lock_file.specs.declared.dist.Dist.{Dist}
use Rattle.lock_file.specs.Locks.{dist_url_at, dist_url_of, reference_of, dist_from, dist_at, dist_of, locked_at, rank_spelled, rank_at, flag_at, flags_in, flags_of}
use Rattle.lock_file.specs.Rereading.{IsSmall, IsOneIfSingle, IsSingleRow, IsStarless, IsExact, IsExactLocked, IsRanked}
use Rattle.lock_file.proofs.RereadParts.{small_again}

-- ---- links

link_small : (own : Version) (at : List ℕ) (pair : List ℕ × JsonTree) (link : Link) → link_at own at pair ≡ Ok link → IsSmall link
unfolding link_at link_name_at
link_small own at pair link e =
    let a = both (link_name_at (below at pair.0) pair.0) _ link e in
    let b = both (text_at (below at pair.0) pair.1) _ link a.2 in
    let c = both (constraint_at (below at pair.0) own b.0) _ link b.2 in
    let named = passed (is_link_name (lowered pair.0)) (lowered pair.0) a.0 (BadField (below at pair.0)) a.1 in
    let made : Link = record { name = a.0; text = b.0; wants = c.0 } in
    let same : made ≡ link = cc in
    subst IsSmall same (subst (λ n. lowered n ≡ n) named.1 (small_again pair.0))

links_small : (own : Version) (at : List ℕ) (pairs : Pairs) (key : Key) (links : List Link) → links_of own at pairs key ≡ Ok links → AllByRecursion IsSmall links
unfolding links_of links_in
links_small own at pairs key links e =
    there (value_at pairs key) (Ok []) (links_in own (at_key at key)) (AllByRecursion IsSmall) links (none_missing IsSmall)
    (λ v found is. let a = both (object_at (at_key at key) v) _ found is in all_read (link_at own (at_key at key)) IsSmall (link_small own (at_key at key)) (kept a.0) found a.2) e

-- ---- paths and prefixes

star_of : (b s : Bool) → cond b false (cond s false true) ≡ true → s ≡ false
star_of true s e = absurd cc
star_of false true e = absurd cc
star_of false false e = refl

path_starless : (pointer : List ℕ) (v : JsonTree) (p : PathText) → path_text_at Member true pointer v ≡ Ok p → IsStarless p
unfolding path_text_at is_offered
path_starless pointer v p e =
    let a = both (text_at pointer v) _ p e in
    let b = both (path_at pointer a.0) _ p a.2 in
    let made : PathText = record { written = a.0; path = b.0 } in
    let fits = passed (is_offered Member true made) made p (NotOffered pointer) b.2 in
    subst IsStarless fits.1 (star_of (is_barred Member b.0) (list_any is_star a.0) fits.0)

paths_starless : (at : List ℕ) (pairs : Pairs) (key : Key) (paths : List PathText) → paths_of Member true at pairs key ≡ Ok paths → AllByRecursion IsStarless paths
unfolding paths_of paths_in path_texts_at
paths_starless at pairs key paths e =
    there (value_at pairs key) (Ok []) (paths_in Member true (at_key at key)) (AllByRecursion IsStarless) paths (none_missing IsStarless)
    (λ v found is. let a = both (list_at (at_key at key) v) _ found is in
    all_read (λ (n : ℕ × JsonTree). path_text_at Member true (at_item (at_key at key) n.0) n.1) IsStarless (λ n. path_starless (at_item (at_key at key) n.0) n.1) (enumerate_from 0 a.0) found a.2) e

folders_single : (pointer : List ℕ) (v : JsonTree) (items : Option (List JsonTree)) (folders : _) → folders_from Member pointer v items ≡ Ok folders → IsOneIfSingle folders.single folders.folders
folders_single pointer v (Some items) folders e =
    let a = both (path_texts_at Member false pointer items) _ folders e in
    let made : _ = record { folders = a.0; single = false } in
    let same : made ≡ folders = same_value made folders a.2 in
    subst (λ it. IsOneIfSingle it.single it.folders) same tt
folders_single pointer v None folders e =
    let a = both (path_text_at Member false pointer v) _ folders e in
    let made : _ = record { folders = a.0 ∷ []; single = true } in
    let same : made ≡ folders = same_value made folders a.2 in
    subst (λ it. IsOneIfSingle it.single it.folders) same tt

row_single : (standard : _) (at : List ℕ) (pair : List ℕ × JsonTree) (row : PrefixDirs) → prefix_dirs_at standard Member at pair ≡ Ok row → IsSingleRow row
unfolding prefix_dirs_at folders_at
row_single standard at pair row e =
    let a = both (prefix_at standard (below at pair.0) pair.0) _ row e in
    let b = both (folders_at Member (below at pair.0) pair.1) _ row a.2 in
    let made : PrefixDirs = record { written = pair.0; prefix = a.0; folders = b.0.folders; single = b.0.single } in
    let same : made ≡ row = same_value made row b.2 in
    subst IsSingleRow same (folders_single (below at pair.0) pair.1 (items_in pair.1) b.0 b.1)

rows_single : (standard : _) (at : List ℕ) (pairs : Pairs) (rows : List PrefixDirs) → prefixes_of standard Member at pairs ≡ Ok rows → AllByRecursion IsSingleRow rows
unfolding prefixes_of prefixes_in
rows_single standard at pairs rows e =
    let pointer = at_key at (standard_key standard) in
    there (value_at pairs (standard_key standard)) (Ok []) (prefixes_in standard Member pointer) (AllByRecursion IsSingleRow) rows (none_missing IsSingleRow)
    (λ v found is. let a = both (object_at pointer v) _ found is in all_read (prefix_dirs_at standard Member pointer) IsSingleRow (row_single standard pointer) a.0 found a.2) e

record AreExactRules (rules : Autoload) : Type 0 where
  psr4 : AllByRecursion IsSingleRow rules.psr4
  psr0 : AllByRecursion IsSingleRow rules.psr0
  classmap : AllByRecursion IsStarless rules.classmap

rules_exact : (at : List ℕ) (pairs : Pairs) (rules : Autoload) → rules_in Member at pairs ≡ Ok rules → AreExactRules rules
unfolding rules_in
rules_exact at pairs rules e =
    let a = both _ _ rules e in
    let b = both _ _ rules a.2 in
    let c = both (paths_of Member true at pairs keys.Classmap) _ rules b.2 in
    let d = both (paths_of Member false at pairs keys.Files) _ rules c.2 in
    let f = both (texts_of at pairs keys.Exclusions) _ rules d.2 in
    let made : Autoload = record { psr4 = a.0; psr0 = b.0; classmap = c.0; files = d.0; exclude = f.0 } in
    let same : made ≡ rules = same_value made rules f.2 in
    subst AreExactRules same (record { psr4 = rows_single _ at pairs a.0 a.1; psr0 = rows_single _ at pairs b.0 b.1; classmap = paths_starless at pairs keys.Classmap c.0 c.1 })

none_exact : (rules : Autoload) → Answers (Ok no_rules) rules → AreExactRules rules
unfolding no_rules
none_exact rules e = subst AreExactRules (same_value no_rules rules e) (record { psr4 = tt; psr0 = tt; classmap = tt })

autoload_exact : (at : List ℕ) (pairs : Pairs) (key : Key) (rules : Autoload) → autoload_of Member at pairs key ≡ Ok rules → AreExactRules rules
unfolding autoload_of autoload_in
autoload_exact at pairs key rules e =
    there (value_at pairs key) (Ok no_rules) (autoload_in Member (at_key at key)) AreExactRules rules none_exact
    (λ v found is. let a = both (object_at (at_key at key) v) _ found is in rules_exact (at_key at key) a.0 found a.2) e

-- ---- packages

abbrev IsSmallText : List ℕ → Type 0
IsSmallText name = lowered name ≡ name

name_small : (pointer : List ℕ) (v : JsonTree) (name : List ℕ) → member_name_at pointer v ≡ Ok name → IsSmallText name
unfolding member_name_at package_name_at
name_small pointer v name e =
    let a = both (package_name_at pointer v) _ name e in
    let b = both (text_at pointer v) _ a.0 a.1 in
    let first = passed (is_package_name (lowered b.0)) (lowered b.0) a.0 (BadField pointer) b.2 in
    let last = barred (is_reserved a.0) a.0 name (ReservedName a.0) a.2 in
    subst IsSmallText (first.1 ∙ last.1) (small_again b.0)

names_small : (at : List ℕ) (pairs : Pairs) (name : List ℕ) → name_of Member at pairs ≡ Ok name → IsSmallText name
unfolding name_of
names_small at pairs name e =
    there (value_at pairs keys.Name) (Err (BadField (at_key at keys.Name))) (member_name_at (at_key at keys.Name)) IsSmallText name (λ y h. absurd cc) (name_small (at_key at keys.Name)) e

-- the links of three keys
record AreSmall (conflict replace provide : List Link) : Type 0 where
  in_conflict : AllByRecursion IsSmall conflict
  in_replace : AllByRecursion IsSmall replace
  in_provide : AllByRecursion IsSmall provide

others_small : (own : Version) (at : List ℕ) (pairs : Pairs) (others : _) → others_of own at pairs ≡ Ok others → AreSmall others.conflict others.replace others.provide
unfolding others_of
others_small own at pairs others e =
    let a = both (links_of own at pairs keys.Conflict) _ others e in
    let b = both (links_of own at pairs keys.Replace) _ others a.2 in
    let c = both (links_of own at pairs keys.Provide) _ others b.2 in
    subst (λ it. AreSmall it.conflict it.replace it.provide) (same_value _ others c.2)
    (record { in_conflict = links_small own at pairs keys.Conflict a.0 a.1; in_replace = links_small own at pairs keys.Replace b.0 b.1; in_provide = links_small own at pairs keys.Provide c.0 c.1 })

abbrev made_of : Head → List ℕ → List Link → List Link → List Link → List Link → Autoload → Package
made_of head kind require conflict replace provide rules = record {
  name = head.name;
  version_text = head.version_text;
  version = head.version;
  kind = kind;
  require = require;
  conflict = conflict;
  replace = replace;
  provide = provide;
  autoload = rules;
}

made_exact : (head : Head) (kind : List ℕ) (require conflict replace provide : List Link) (rules : Autoload) → IsSmallText head.name → AllByRecursion IsSmall require → AreSmall conflict replace provide → AreExactRules rules
    → IsExact (made_of head kind require conflict replace provide rules)
made_exact head kind require conflict replace provide rules name links small exact = record {
  name = name;
  require = links;
  conflict = small.in_conflict;
  replace = small.in_replace;
  provide = small.in_provide;
  psr4 = exact.psr4;
  psr0 = exact.psr0;
  classmap = exact.classmap;
}

entry_exact_from : (at : List ℕ) (pairs : Pairs) (p : Package) → package_entry_from at pairs ≡ Ok p → IsExact p
unfolding package_entry_from entry_head_of
entry_exact_from at pairs p e =
    let h = both (entry_head_of at pairs) _ p e in
    let r = both (links_of h.0.version at pairs keys.Require) _ p h.2 in
    let o = both (others_of h.0.version at pairs) _ p r.2 in
    let k = both (kind_of at pairs) _ p o.2 in
    let a = both (autoload_of Member at pairs keys.Autoload) _ p k.2 in
    let n = both (plain_package_at at pairs) _ p a.2 in
    let name = both (name_of Member at pairs) _ h.0 h.1 in
    let text = both (entry_version_text_of at pairs) _ h.0 name.2 in
    let version = both (version_at (at_key at keys.Version) text.0) _ h.0 text.2 in
    let head : Head = record { name = name.0; version_text = text.0; version = version.0 } in
    let named : IsSmallText h.0.name = subst (λ (it : Head). IsSmallText it.name) (same_value head h.0 version.2) (names_small at pairs name.0 name.1) in
    subst IsExact (same_value (made_of h.0 k.0 r.0 o.0.conflict o.0.replace o.0.provide a.0) p n.2)
    (made_exact h.0 k.0 r.0 o.0.conflict o.0.replace o.0.provide a.0 named (links_small h.0.version at pairs keys.Require r.0 r.1) (others_small h.0.version at pairs o.0 o.1) (autoload_exact at pairs keys.Autoload a.0 a.1))

pub entry_exact : (at : List ℕ) (v : JsonTree) (p : Package) → package_entry_of at v ≡ Ok p → IsExact p
unfolding package_entry_of
entry_exact at v p e = let a = both (object_at at v) _ p e in entry_exact_from at a.0 p a.2

member_exact_from : (at : List ℕ) (pairs : Pairs) (m : Manifest) → manifest_from Member at pairs ≡ Ok m → IsExact m.«package»
unfolding manifest_from head_of
member_exact_from at pairs m e =
    let h = both (head_of Member at pairs) _ m e in
    let k = both (kind_of at pairs) _ m h.2 in
    let r = both (links_of h.0.version at pairs keys.Require) _ m k.2 in
    let d = both (dev_links_of Member h.0.version at pairs) _ m r.2 in
    let o = both (others_of h.0.version at pairs) _ m d.2 in
    let a = both (autoload_of Member at pairs keys.Autoload) _ m o.2 in
    let b = both (dev_autoload_of Member at pairs) _ m a.2 in
    let s = both (settings_of Member at pairs) _ m b.2 in
    let n = both (plain_package_at at pairs) _ m s.2 in
    let name = both (name_of Member at pairs) _ h.0 h.1 in
    let text = both (version_text_of Member at pairs) _ h.0 name.2 in
    let version = both (version_at (at_key at keys.Version) text.0) _ h.0 text.2 in
    let head : Head = record { name = name.0; version_text = text.0; version = version.0 } in
    let named : IsSmallText h.0.name = subst (λ (it : Head). IsSmallText it.name) (same_value head h.0 version.2) (names_small at pairs name.0 name.1) in
    let made : Manifest = record {
      «package» = made_of h.0 k.0 r.0 o.0.conflict o.0.replace o.0.provide a.0;
      require_dev = d.0;
      autoload_dev = b.0;
      repositories = s.0.repositories;
      minimum = s.0.minimum;
      prefer_stable = s.0.prefer_stable;
      platform = s.0.config.platform;
      optimise = s.0.config.optimise;
      authoritative = s.0.config.authoritative;
    } in
    subst (λ (it : Manifest). IsExact it.«package») (same_value made m n.2)
    (made_exact h.0 k.0 r.0 o.0.conflict o.0.replace o.0.provide a.0 named (links_small h.0.version at pairs keys.Require r.0 r.1) (others_small h.0.version at pairs o.0 o.1) (autoload_exact at pairs keys.Autoload a.0 a.1))

pub member_exact : (v : JsonTree) (m : Manifest) → manifest_of Member v ≡ Ok m → IsExact m.«package»
unfolding manifest_of
member_exact v m e = let a = both (object_at [] v) _ m e in member_exact_from [] a.0 m a.2

-- ---- locked packages

folder_read : (at : List ℕ) (r : Result FolderRef PathFault) (url : FolderRef) → folder_or_fault at r ≡ Ok url → r ≡ Ok url
folder_read at (Ok folder) url e = ap Ok (same_value folder url e)
folder_read at (Err (path_faults.BadSegment n)) url e = absurd cc
folder_read at (Err (path_faults.AboveRoot n)) url e = absurd cc
folder_read at (Err path_faults.OutOfMemory) url e = absurd cc

url_path : (at : List ℕ) (v : JsonTree) (url : FolderRef) → dist_url_at at v ≡ Ok url → IsPath url.path
unfolding dist_url_at folder_at
url_path at v url e =
    let a = both (text_at at v) _ url e in
    let b = both (folder_at at a.0) _ url a.2 in
    let fits = barred (begins_with_slash a.0) b.0 url (NotOffered at) b.2 in
    subst (λ (it : FolderRef). IsPath it.path) fits.1 (folder_of_is_path a.0 b.0 (folder_read at (folder_of a.0) b.0 b.1))

dist_path : (at : List ℕ) (pairs : Pairs) (dist : Dist) → dist_of at pairs ≡ Ok dist → IsPath dist.url.path
unfolding dist_of dist_at dist_from dist_url_of
dist_path at pairs dist e =
    there (value_at pairs keys.Dist) (Err (BadField (at_key at keys.Dist))) (dist_at (at_key at keys.Dist)) (λ (it : Dist). IsPath it.url.path) dist (λ y h. absurd cc)
    (λ v found is.
    let pointer = at_key at keys.Dist in
    let a = both (object_at pointer v) _ found is in
    let b = both (path_type_of pointer a.0) _ found a.2 in
    let c = both (dist_url_of pointer a.0) _ found b.2 in
    let d = both (reference_of pointer a.0) _ found c.2 in
    let made : Dist = record { url = c.0; reference = d.0 } in
    subst (λ (it : Dist). IsPath it.url.path) (same_value made found d.2)
    (there (value_at a.0 keys.Url) (Err (BadField (at_key pointer keys.Url))) (dist_url_at (at_key pointer keys.Url)) (λ (it : FolderRef). IsPath it.path) c.0 (λ y h. absurd cc) (url_path (at_key pointer keys.Url)) c.1)) e

pub locked_exact : (at : List ℕ) (v : JsonTree) (locked : Locked) → locked_at at v ≡ Ok locked → IsExactLocked locked
unfolding locked_at
locked_exact at v locked e =
    let a = both (object_at at v) _ locked e in
    let head = both (package_head_of at v) _ locked a.2 in
    let dist = both (dist_of at a.0) _ locked head.2 in
    let entry = both (package_entry_of at v) _ locked dist.2 in
    let made : Locked = record { «package» = entry.0; url = dist.0.url; reference = dist.0.reference } in
    subst IsExactLocked (same_value made locked entry.2) (record { member = entries_are_formed at v entry.0 entry.1; exact = entry_exact at v entry.0 entry.1; url = dist_path at a.0 dist.0 dist.1 })

-- ---- flags

-- how each rank is spelled
pub rank_0 : rank_spelled (decimal_text 0) ≡ Some 0
unfolding rank_spelled
rank_0 = ap rank_spelled (decimal_digit 0 (omega arith))

pub rank_5 : rank_spelled (decimal_text 5) ≡ Some 5
unfolding rank_spelled
rank_5 = ap rank_spelled (decimal_digit 5 (omega arith))

pub rank_10 : rank_spelled (decimal_text 10) ≡ Some 10
unfolding rank_spelled
rank_10 = ap rank_spelled (decimal_step 10 (omega arith) (omega arith) ∙ ap (λ front. front ++ 48 ∷ []) (decimal_digit 1 (omega arith)))

pub rank_15 : rank_spelled (decimal_text 15) ≡ Some 15
unfolding rank_spelled
rank_15 = ap rank_spelled (decimal_step 15 (omega arith) (omega arith) ∙ ap (λ front. front ++ 53 ∷ []) (decimal_digit 1 (omega arith)))

pub rank_20 : rank_spelled (decimal_text 20) ≡ Some 20
unfolding rank_spelled
rank_20 = ap rank_spelled (decimal_step 20 (omega arith) (omega arith) ∙ ap (λ front. front ++ 48 ∷ []) (decimal_digit 2 (omega arith)))

rank_of_text : (text : List ℕ) (rank : ℕ) → rank_spelled text ≡ Some rank → rank_spelled (decimal_text rank) ≡ Some rank
unfolding rank_spelled
rank_of_text text rank e = by (bytes_are_equal text (codes "0")) (bytes_are_equal text (codes "5")) (bytes_are_equal text (codes "10")) (bytes_are_equal text (codes "15")) (bytes_are_equal text (codes "20")) e
  where
    same : (n : ℕ) → Some n ≡ Some rank → rank_spelled (decimal_text n) ≡ Some n → rank_spelled (decimal_text rank) ≡ Some rank
    same n f is = let k : n ≡ rank = cc in subst (λ m. rank_spelled (decimal_text m) ≡ Some m) k is

    by : (a b c d f : Bool) → cond a (Some 0) (cond b (Some 5) (cond c (Some 10) (cond d (Some 15) (cond f (Some 20) None)))) ≡ Some rank → rank_spelled (decimal_text rank) ≡ Some rank
    by true b c d f g = same 0 g rank_0
    by false true c d f g = same 5 g rank_5
    by false false true d f g = same 10 g rank_10
    by false false false true f g = same 15 g rank_15
    by false false false false true g = same 20 g rank_20
    by false false false false false g = absurd cc

some_rank : (o : Option (List ℕ)) (fault : FieldFault) (rank : ℕ) → ok_or (option_and_then rank_spelled o) fault ≡ Ok rank → rank_spelled (decimal_text rank) ≡ Some rank
some_rank None fault rank e = absurd cc
some_rank (Some text) fault rank e = rank_of_text text rank (given_some (rank_spelled text) fault rank e)
  where
    given_some : (o : Option ℕ) (f : FieldFault) (n : ℕ) → ok_or o f ≡ Ok n → o ≡ Some n
    given_some None f n g = absurd cc
    given_some (Some m) f n g = ap Some (same_value m n g)

flag_ranked : (at : List ℕ) (pair : List ℕ × JsonTree) (row : FlagRow) → flag_at at pair ≡ Ok row → IsRanked row
unfolding flag_at rank_at
flag_ranked at pair row e =
    let a = both (rank_at (below at pair.0) pair.1) _ row e in
    let made : FlagRow = record { name = pair.0; rank = a.0 } in
    subst IsRanked (same_value made row a.2) (some_rank (number_in pair.1) (BadField (below at pair.0)) a.0 a.1)

pub flags_ranked : (at : List ℕ) (pairs : Pairs) (rows : List FlagRow) → flags_of at pairs ≡ Ok rows → AllByRecursion IsRanked rows
unfolding flags_of flags_in
flags_ranked at pairs rows e =
    there (value_at pairs keys.StabilityFlags) (Ok []) (flags_in (at_key at keys.StabilityFlags)) (AllByRecursion IsRanked) rows (none_missing IsRanked)
    (λ v found is. let a = both (object_at (at_key at keys.StabilityFlags) v) _ found is in all_read (flag_at (at_key at keys.StabilityFlags)) IsRanked (flag_ranked (at_key at keys.StabilityFlags)) a.0 found a.2) e
