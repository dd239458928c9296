-- What is read is well-formed.
use Rattle.std.proofs.Common.{◌≡◌, ℕ, Bool, true, false, cond, List, [], ◌∷◌, Option, Some, None, Result, Ok, Err, refl, sym, ap, subst, ◌∙◌}
use Rattle.std.specs.Prelude.{IfSome, not, ◌&&◌, ◌||◌}
use Rattle.std.specs.List.{AllByRecursion, IsDistinct, enumerate_from, list_all}
use Rattle.std.specs.Cmp.Lexicographic.{bytes_decides}
use Rattle.path_name.specs.Bytes.{lowered}
use Rattle.path_name.specs.Orders.{bytes_are_equal}
use Rattle.path_name.specs.Paths.{path_of}
use Rattle.path_name.specs.FolderRefs.{folder_of}
use Rattle.path_name.specs.declared.folder_ref.FolderRef.{FolderRef}
use Rattle.path_name.specs.declared.fault.PathFault.{PathFault}
use Rattle.path_name.specs.declared.fault.PathFault.TheVariants as path_faults
use Rattle.path_name.proofs.ReadPaths.{path_of_is_path, folder_of_is_path}
use Rattle.json_ordered.specs.JsonTree.{JsonTree}
use Rattle.version_norm.specs.declared.version.Version.{Version}
use Rattle.version_norm.specs.declared.fault.VersionFault.{VersionFault}
use Rattle.version_norm.specs.declared.fault.VersionFault.TheVariants as version_faults
use Rattle.version_norm.specs.Versions.{normal_form}
use Rattle.constraint_set.specs.declared.constraint.Constraint.{Constraint}
use Rattle.constraint_set.specs.declared.fault.ConstraintFault.{ConstraintFault}
use Rattle.constraint_set.specs.declared.fault.ConstraintFault.TheVariants as constraint_faults
use Rattle.constraint_set.specs.Constraints.{constraint_of}
use Rattle.manifest_read.specs.declared.fault.FieldFault.{FieldFault}
use Rattle.manifest_read.specs.declared.fault.FieldFault.TheVariants.{BadField, NotOffered, ReservedName}
use Rattle.manifest_read.specs.declared.key.Key.{Key}
use Rattle.manifest_read.specs.declared.key.Key.TheVariants as keys
use Rattle.manifest_read.specs.declared.types.Role.{Role}
use Rattle.manifest_read.specs.declared.types.Role.TheVariants.{Root, Member}
use Rattle.manifest_read.specs.declared.types.Link.{Link}
use Rattle.manifest_read.specs.declared.types.PathText.{PathText}
use Rattle.manifest_read.specs.declared.types.PrefixDirs.{PrefixDirs}
use Rattle.manifest_read.specs.declared.types.Autoload.{Autoload}
use Rattle.manifest_read.specs.declared.types.Package.{Package}
use Rattle.manifest_read.specs.declared.types.PlatformRow.{PlatformRow}
use Rattle.manifest_read.specs.declared.types.Repository.{Repository}
use Rattle.manifest_read.specs.declared.types.Manifest.{Manifest}
use Rattle.manifest_read.specs.declared.autoload.Standard.{Standard}
use Rattle.manifest_read.specs.declared.autoload.Standard.TheVariants.{Psr4, Psr0}
use Rattle.manifest_read.specs.declared.autoload.Folders.{Folders}
use Rattle.manifest_read.specs.declared.package.Head.{Head}
use Rattle.manifest_read.specs.declared.package.Others.{Others}
use Rattle.manifest_read.specs.declared.config.Config.{Config}
use Rattle.manifest_read.specs.declared.settings.Settings.{Settings}
use Rattle.manifest_read.specs.Keys.{Pairs, value_at}
use Rattle.manifest_read.specs.Pointers.{below, at_key, at_item}
use Rattle.manifest_read.specs.Values.{items_in, text_at, list_at, object_at}
use Rattle.manifest_read.specs.Names.{is_package_name, is_platform_name, is_link_name, is_reserved}
use Rattle.manifest_read.specs.Versions.{version_or_fault, version_at}
use Rattle.manifest_read.specs.Links.{kept, link_name_at, constraint_or_fault, constraint_at, link_at, links_in, links_of}
use Rattle.manifest_read.specs.Autoloads.{texts_of, path_or_fault, path_at, is_barred, is_offered, path_text_at, path_texts_at, paths_in, paths_of, without_backslashes, is_prefix, prefix_at, folders_from, folders_at, prefix_dirs_at, prefixes_in, standard_key, prefixes_of, no_rules, rules_in, autoload_in, autoload_of}
use Rattle.manifest_read.specs.Repositories.{path_type_of, plain_at, folder_or_fault, folder_at, begins_with_slash, is_own_folder, is_pattern, is_offered_url, url_at, url_of, is_only_packagist_off, is_packagist_off, repository_at, entry_at, named_entry_at, repositories_from, repositories_in, repositories_of}
use Rattle.manifest_read.specs.Settings.{minimum_of, boolean_of, vendor_dir_of, platform_version_at, platform_name_at, platform_row_at, platform_in, platform_of, no_config, config_in, config_at, config_of, no_settings, root_settings, settings_of}
use Rattle.manifest_read.specs.Packages.{version_text_of, entry_version_text_of, kind_of, plain_package_at, package_name_at, member_name_at, root_name, name_of, head_of, entry_head_of, others_of, package_entry_from, package_entry_of}
use Rattle.manifest_read.specs.Manifests.{dev_links_of, dev_autoload_of, manifest_from, manifest_of}
use Rattle.manifest_read.specs.WellFormed.{IsLink, HaveDistinctNames, IsPathText, IsPrefixDirs, IsAutoload, IsNameOf, IsMember, IsPackage, IsPlatformRow, IsRepository, IsManifest}
use Rattle.manifest_read.proofs.Steps.{Answers, same_value, both, passed, barred, there, none_missing, all_read, each_map, all_there}
use Rattle.manifest_read.proofs.Distinct.{small, kept_distinct}
pub use Rattle.manifest_read.proofs.Steps.{if_given}

-- ---- links

constraint_read : (pointer : List ℕ) (r : Result Constraint ConstraintFault) (wants : Constraint) → constraint_or_fault pointer r ≡ Ok wants → r ≡ Ok wants
constraint_read pointer (Ok c) wants e = cc
constraint_read pointer (Err (constraint_faults.InlineAlias at)) wants e = absurd cc
constraint_read pointer (Err (constraint_faults.BadConstraint at)) wants e = absurd cc
constraint_read pointer (Err constraint_faults.OutOfMemory) wants e = absurd cc

link_formed : (own : Version) (at : List ℕ) (pair : List ℕ × JsonTree) (link : Link) → link_at own at pair ≡ Ok link → IsLink own link
unfolding link_at link_name_at constraint_at
link_formed own at pair link e =
    let a = both (link_name_at (below at pair.0) pair.0) _ link e in
    let b = both (text_at (below at pair.0) pair.1) _ link a.2 in
    let c = both (constraint_at (below at pair.0) own b.0) _ link b.2 in
    let named = passed (is_link_name (lowered pair.0)) (lowered pair.0) a.0 (BadField (below at pair.0)) a.1 in
    let made : Link = record { name = a.0; text = b.0; wants = c.0 } in
    let same : made ≡ link = cc in
    subst (IsLink own) same (record { name = subst (λ n. is_link_name n ≡ true) named.1 named.0; wants = constraint_read (below at pair.0) (constraint_of b.0 own) c.0 c.1 })

link_name : (own : Version) (at : List ℕ) (pair : List ℕ × JsonTree) (link : Link) → link_at own at pair ≡ Ok link → link.name ≡ small pair
unfolding link_at link_name_at
link_name own at pair link e =
    let a = both (link_name_at (below at pair.0) pair.0) _ link e in
    let b = both (text_at (below at pair.0) pair.1) _ link a.2 in
    let c = both (constraint_at (below at pair.0) own b.0) _ link b.2 in
    let named = passed (is_link_name (lowered pair.0)) (lowered pair.0) a.0 (BadField (below at pair.0)) a.1 in
    let made : Link = record { name = a.0; text = b.0; wants = c.0 } in
    let same : made ≡ link = cc in
    ap (λ (l : Link). l.name) (sym same) ∙ sym named.1

-- the links of one key
record AreLinks (own : Version) (links : List Link) : Type 0 where
  each : AllByRecursion (IsLink own) links
  distinct : HaveDistinctNames links

no_links : (own : Version) (links : List Link) → Answers (Ok []) links → AreLinks own links
unfolding IsDistinct
no_links own [] e = record { each = tt; distinct = tt }
no_links own (link ∷ links) e = absurd cc

links_from : (own : Version) (pointer : List ℕ) (v : JsonTree) (links : List Link) → links_in own pointer v ≡ Ok links → AreLinks own links
unfolding links_in
links_from own pointer v links e =
    let a = both (object_at pointer v) _ links e in
    record {
      each = all_read (link_at own pointer) (IsLink own) (link_formed own pointer) (kept a.0) links a.2;
      distinct = subst (IsDistinct bytes_are_equal) (sym (each_map (link_at own pointer) (λ (l : Link). l.name) small (link_name own pointer) (kept a.0) links a.2)) (kept_distinct [] a.0);
    }

links_formed : (own : Version) (at : List ℕ) (pairs : Pairs) (key : Key) (links : List Link) → links_of own at pairs key ≡ Ok links → AreLinks own links
unfolding links_of
links_formed own at pairs key links e =
    there (value_at pairs key) (Ok []) (links_in own (at_key at key)) (AreLinks own) links (no_links own) (links_from own (at_key at key)) e

-- ---- paths

path_read : (pointer : List ℕ) (r : Result (List (List ℕ)) PathFault) (path : List (List ℕ)) → path_or_fault pointer r ≡ Ok path → r ≡ Ok path
path_read pointer (Ok p) path e = cc
path_read pointer (Err (path_faults.BadSegment at)) path e = absurd cc
path_read pointer (Err (path_faults.AboveRoot at)) path e = absurd cc
path_read pointer (Err path_faults.OutOfMemory) path e = absurd cc

offered : (role : Role) (starless : Bool) (p : PathText) → is_offered role starless p ≡ true → is_barred role p.path ≡ false
unfolding is_offered
offered role starless p e = by (is_barred role p.path) _ e
  where
    by : (b c : Bool) → cond b false c ≡ true → b ≡ false
    by true c h = absurd cc
    by false c h = refl

path_formed : (role : Role) (starless : Bool) (pointer : List ℕ) (v : JsonTree) (p : PathText) → path_text_at role starless pointer v ≡ Ok p → IsPathText role p
unfolding path_text_at path_at
path_formed role starless pointer v p e =
    let a = both (text_at pointer v) _ p e in
    let b = both (path_at pointer a.0) _ p a.2 in
    let made : PathText = record { written = a.0; path = b.0 } in
    let fits = passed (is_offered role starless made) made p (NotOffered pointer) b.2 in
    let is = path_read pointer (path_of a.0) b.0 b.1 in
    subst (IsPathText role) fits.1 (record { read = is; path = path_of_is_path a.0 b.0 is; allowed = offered role starless made fits.0 })

texts_formed : (role : Role) (starless : Bool) (pointer : List ℕ) (items : List JsonTree) (paths : List PathText) → path_texts_at role starless pointer items ≡ Ok paths → AllByRecursion (IsPathText role) paths
unfolding path_texts_at
texts_formed role starless pointer items paths e =
    all_read (λ (n : ℕ × JsonTree). path_text_at role starless (at_item pointer n.0) n.1) (IsPathText role) (λ n. path_formed role starless (at_item pointer n.0) n.1) (enumerate_from 0 items) paths e

paths_formed : (role : Role) (starless : Bool) (at : List ℕ) (pairs : Pairs) (key : Key) (paths : List PathText) → paths_of role starless at pairs key ≡ Ok paths → AllByRecursion (IsPathText role) paths
unfolding paths_of paths_in
paths_formed role starless at pairs key paths e =
    there (value_at pairs key) (Ok []) (paths_in role starless (at_key at key)) (AllByRecursion (IsPathText role)) paths (none_missing (IsPathText role))
    (λ v found is. let a = both (list_at (at_key at key) v) _ found is in texts_formed role starless (at_key at key) a.0 found a.2) e

-- ---- prefixes

folders_formed : (role : Role) (pointer : List ℕ) (v : JsonTree) (items : Option (List JsonTree)) (f : Folders) → folders_from role pointer v items ≡ Ok f → AllByRecursion (IsPathText role) f.folders
folders_formed role pointer v None f e =
    let a = both (path_text_at role false pointer v) _ f e in
    let made : Folders = record { folders = a.0 ∷ []; single = true } in
    let same : made ≡ f = cc in
    subst (λ (g : Folders). AllByRecursion (IsPathText role) g.folders) same (path_formed role false pointer v a.0 a.1, tt)
folders_formed role pointer v (Some items) f e =
    let a = both (path_texts_at role false pointer items) _ f e in
    let made : Folders = record { folders = a.0; single = false } in
    let same : made ≡ f = cc in
    subst (λ (g : Folders). AllByRecursion (IsPathText role) g.folders) same (texts_formed role false pointer items a.0 a.1)

row_formed : (standard : Standard) (role : Role) (at : List ℕ) (pair : List ℕ × JsonTree) (row : PrefixDirs) → prefix_dirs_at standard role at pair ≡ Ok row → IsPrefixDirs standard role row
unfolding prefix_dirs_at prefix_at folders_at
row_formed standard role at pair row e =
    let a = both (prefix_at standard (below at pair.0) pair.0) _ row e in
    let b = both (folders_at role (below at pair.0) pair.1) _ row a.2 in
    let is = passed (is_prefix standard (without_backslashes pair.0)) (without_backslashes pair.0) a.0 (BadField (below at pair.0)) a.1 in
    let made : PrefixDirs = record { written = pair.0; prefix = a.0; folders = b.0.folders; single = b.0.single } in
    let same : made ≡ row = cc in
    subst (IsPrefixDirs standard role) same (record {
      cut = sym is.1;
      prefix = subst (λ p. is_prefix standard p ≡ true) is.1 is.0;
      folders = folders_formed role (below at pair.0) pair.1 (items_in pair.1) b.0 b.1;
    })

prefixes_formed : (standard : Standard) (role : Role) (at : List ℕ) (pairs : Pairs) (rows : List PrefixDirs) → prefixes_of standard role at pairs ≡ Ok rows → AllByRecursion (IsPrefixDirs standard role) rows
unfolding prefixes_of prefixes_in
prefixes_formed standard role at pairs rows e =
    let pointer = at_key at (standard_key standard) in
    there (value_at pairs (standard_key standard)) (Ok []) (prefixes_in standard role pointer) (AllByRecursion (IsPrefixDirs standard role)) rows (none_missing (IsPrefixDirs standard role))
    (λ v found is. let a = both (object_at pointer v) _ found is in all_read (prefix_dirs_at standard role pointer) (IsPrefixDirs standard role) (row_formed standard role pointer) a.0 found a.2) e

-- ---- autoload

rules_formed : (role : Role) (at : List ℕ) (pairs : Pairs) (rules : Autoload) → rules_in role at pairs ≡ Ok rules → IsAutoload role rules
unfolding rules_in
rules_formed role at pairs rules e =
    let a = both (prefixes_of Psr4 role at pairs) _ rules e in
    let b = both (prefixes_of Psr0 role at pairs) _ rules a.2 in
    let c = both (paths_of role true at pairs keys.Classmap) _ rules b.2 in
    let d = both (paths_of role false at pairs keys.Files) _ rules c.2 in
    let f = both (texts_of at pairs keys.Exclusions) _ rules d.2 in
    let made : Autoload = record { psr4 = a.0; psr0 = b.0; classmap = c.0; files = d.0; exclude = f.0 } in
    let same : made ≡ rules = cc in
    subst (IsAutoload role) same (record {
      psr4 = prefixes_formed Psr4 role at pairs a.0 a.1;
      psr0 = prefixes_formed Psr0 role at pairs b.0 b.1;
      classmap = paths_formed role true at pairs keys.Classmap c.0 c.1;
      files = paths_formed role false at pairs keys.Files d.0 d.1;
    })

no_rules_formed : (role : Role) (rules : Autoload) → Answers (Ok no_rules) rules → IsAutoload role rules
unfolding no_rules
no_rules_formed role rules e =
    let same : no_rules ≡ rules = cc in
    subst (IsAutoload role) same (record { psr4 = tt; psr0 = tt; classmap = tt; files = tt })

autoload_formed : (role : Role) (at : List ℕ) (pairs : Pairs) (key : Key) (rules : Autoload) → autoload_of role at pairs key ≡ Ok rules → IsAutoload role rules
unfolding autoload_of autoload_in
autoload_formed role at pairs key rules e =
    there (value_at pairs key) (Ok no_rules) (autoload_in role (at_key at key)) (IsAutoload role) rules (no_rules_formed role)
    (λ v found is. let a = both (object_at (at_key at key) v) _ found is in rules_formed role (at_key at key) a.0 found a.2) e

-- ---- repositories

folder_read : (pointer : List ℕ) (r : Result FolderRef PathFault) (folder : FolderRef) → folder_or_fault pointer r ≡ Ok folder → r ≡ Ok folder
folder_read pointer (Ok f) folder e = cc
folder_read pointer (Err (path_faults.BadSegment at)) folder e = absurd cc
folder_read pointer (Err (path_faults.AboveRoot at)) folder e = absurd cc
folder_read pointer (Err path_faults.OutOfMemory) folder e = absurd cc

offered_url : (text : List ℕ) (folder : FolderRef) → is_offered_url text folder ≡ true → list_all is_pattern folder.path ≡ true
unfolding is_offered_url
offered_url text folder e = by (begins_with_slash text) (is_own_folder folder) (list_all is_pattern folder.path) e
  where
    by : (a b c : Bool) → not a && (not b && c) ≡ true → c ≡ true
    by true b c h = absurd cc
    by false true c h = absurd cc
    by false false c h = h

url_formed : (pointer : List ℕ) (v : JsonTree) (repository : Repository) → url_at pointer v ≡ Ok repository → IsRepository repository
unfolding url_at folder_at
url_formed pointer v repository e =
    let a = both (text_at pointer v) _ repository e in
    let b = both (folder_at pointer a.0) _ repository a.2 in
    let made : Repository = record { up = b.0.up; segments = b.0.path; written = a.0 } in
    let fits = passed (is_offered_url a.0 b.0) made repository (NotOffered pointer) b.2 in
    subst IsRepository fits.1 (record { read = folder_read pointer (folder_of a.0) b.0 b.1; segments = folder_of_is_path a.0 b.0 (folder_read pointer (folder_of a.0) b.0 b.1); patterns = offered_url a.0 b.0 fits.0 })

url_of_formed : (at : List ℕ) (pairs : Pairs) (repository : Repository) → url_of at pairs ≡ Ok repository → IsRepository repository
unfolding url_of
url_of_formed at pairs repository e =
    there (value_at pairs keys.Url) (Err (BadField (at_key at keys.Url))) (url_at (at_key at keys.Url)) IsRepository repository (λ y h. absurd cc) (url_formed (at_key at keys.Url)) e

repository_formed : (at : List ℕ) (pairs : Pairs) (found : Option Repository) → repository_at at pairs ≡ Ok found → IfSome found IsRepository
unfolding repository_at
repository_formed at pairs found e =
    let a = both (path_type_of at pairs) _ found e in
    let b = both (url_of at pairs) _ found a.2 in
    let c = both (plain_at at pairs) _ found b.2 in
    let same : Some b.0 ≡ found = cc in
    subst (λ o. IfSome o IsRepository) same (url_of_formed at pairs b.0 b.1)

skipped : (found : Option Repository) → Answers (Ok None) found → IfSome found IsRepository
skipped None e = tt
skipped (Some repository) e = absurd cc

unless : (b : Bool) (r : Result (Option Repository) FieldFault) (found : Option Repository) → ((y : Option Repository) → r ≡ Ok y → IfSome y IsRepository) → cond b (Ok None) r ≡ Ok found → IfSome found IsRepository
unless true r found h e = skipped found e
unless false r found h e = h found e

entry_formed : (pointer : List ℕ) (v : JsonTree) (found : Option Repository) → entry_at pointer v ≡ Ok found → IfSome found IsRepository
unfolding entry_at
entry_formed pointer v found e =
    let a = both (object_at pointer v) _ found e in
    unless (is_only_packagist_off a.0) (repository_at pointer a.0) found (repository_formed pointer a.0) a.2

named_formed : (at : List ℕ) (pair : List ℕ × JsonTree) (found : Option Repository) → named_entry_at at pair ≡ Ok found → IfSome found IsRepository
unfolding named_entry_at
named_formed at pair found e = unless (is_packagist_off pair) (entry_at (below at pair.0) pair.1) found (entry_formed (below at pair.0) pair.1) e

from_formed : (pointer : List ℕ) (v : JsonTree) (items : Option (List JsonTree)) (found : List Repository) → repositories_from pointer v items ≡ Ok found → AllByRecursion IsRepository found
from_formed pointer v None found e =
    let a = both (object_at pointer v) _ found e in
    all_there (named_entry_at pointer) IsRepository (named_formed pointer) a.0 found a.2
from_formed pointer v (Some items) found e =
    all_there (λ (n : ℕ × JsonTree). entry_at (at_item pointer n.0) n.1) IsRepository (λ n. entry_formed (at_item pointer n.0) n.1) (enumerate_from 0 items) found e

repositories_formed : (at : List ℕ) (pairs : Pairs) (found : List Repository) → repositories_of at pairs ≡ Ok found → AllByRecursion IsRepository found
unfolding repositories_of repositories_in
repositories_formed at pairs found e =
    there (value_at pairs keys.Repositories) (Ok []) (repositories_in (at_key at keys.Repositories)) (AllByRecursion IsRepository) found (none_missing IsRepository)
    (λ v some is. from_formed (at_key at keys.Repositories) v (items_in v) some is) e

-- ---- settings

platform_formed : (at : List ℕ) (pair : List ℕ × JsonTree) (row : PlatformRow) → platform_row_at at pair ≡ Ok row → IsPlatformRow row
unfolding platform_row_at platform_name_at
platform_formed at pair row e =
    let a = both (platform_name_at (below at pair.0) pair.0) _ row e in
    let b = both (platform_version_at (below at pair.0) pair.1) _ row a.2 in
    let is = passed (is_platform_name pair.0) pair.0 a.0 (BadField (below at pair.0)) a.1 in
    let made : PlatformRow = record { name = a.0; version = b.0 } in
    let same : made ≡ row = cc in
    subst IsPlatformRow same (record { name = subst (λ n. is_platform_name n ≡ true) is.1 is.0 })

rows_formed : (at : List ℕ) (pairs : Pairs) (rows : List PlatformRow) → platform_of at pairs ≡ Ok rows → AllByRecursion IsPlatformRow rows
unfolding platform_of platform_in
rows_formed at pairs rows e =
    let pointer = at_key at keys.Platform in
    there (value_at pairs keys.Platform) (Ok []) (platform_in pointer) (AllByRecursion IsPlatformRow) rows (none_missing IsPlatformRow)
    (λ v found is. let a = both (object_at pointer v) _ found is in all_read (platform_row_at pointer) IsPlatformRow (platform_formed pointer) a.0 found a.2) e

config_in_formed : (at : List ℕ) (pairs : Pairs) (config : Config) → config_in at pairs ≡ Ok config → AllByRecursion IsPlatformRow config.platform
unfolding config_in
config_in_formed at pairs config e =
    let a = both (vendor_dir_of at pairs) _ config e in
    let b = both (platform_of at pairs) _ config a.2 in
    let c = both (boolean_of at pairs keys.OptimizeAutoloader) _ config b.2 in
    let d = both (boolean_of at pairs keys.ClassmapAuthoritative) _ config c.2 in
    let made : Config = record { platform = b.0; optimise = c.0; authoritative = d.0 } in
    let same : made ≡ config = cc in
    subst (λ (k : Config). AllByRecursion IsPlatformRow k.platform) same (rows_formed at pairs b.0 b.1)

no_config_formed : (config : Config) → Answers (Ok no_config) config → AllByRecursion IsPlatformRow config.platform
unfolding no_config
no_config_formed config e =
    let same : no_config ≡ config = cc in
    subst (λ (k : Config). AllByRecursion IsPlatformRow k.platform) same tt

config_formed : (at : List ℕ) (pairs : Pairs) (config : Config) → config_of at pairs ≡ Ok config → AllByRecursion IsPlatformRow config.platform
unfolding config_of config_at
config_formed at pairs config e =
    there (value_at pairs keys.Config) (Ok no_config) (config_at (at_key at keys.Config)) (λ (k : Config). AllByRecursion IsPlatformRow k.platform) config no_config_formed
    (λ v found is. let a = both (object_at (at_key at keys.Config) v) _ found is in config_in_formed (at_key at keys.Config) a.0 found a.2) e

abbrev AreSettings : Settings → Type 0
AreSettings settings = AllByRecursion IsRepository settings.repositories × AllByRecursion IsPlatformRow settings.config.platform

settings_formed : (role : Role) (at : List ℕ) (pairs : Pairs) (settings : Settings) → settings_of role at pairs ≡ Ok settings → AreSettings settings
unfolding settings_of root_settings no_settings no_config
settings_formed Root at pairs settings e =
    let a = both (repositories_of at pairs) _ settings e in
    let b = both (minimum_of at pairs) _ settings a.2 in
    let c = both (boolean_of at pairs keys.PreferStable) _ settings b.2 in
    let d = both (config_of at pairs) _ settings c.2 in
    let made : Settings = record { repositories = a.0; minimum = b.0; prefer_stable = c.0; config = d.0 } in
    let same : made ≡ settings = cc in
    subst AreSettings same (repositories_formed at pairs a.0 a.1, config_formed at pairs d.0 d.1)
settings_formed Member at pairs settings e =
    let same : no_settings ≡ settings = cc in
    subst AreSettings same (tt, tt)

-- ---- packages

version_read : (pointer : List ℕ) (r : Result Version VersionFault) (version : Version) → version_or_fault pointer r ≡ Ok version → r ≡ Ok version
version_read pointer (Ok v) version e = cc
version_read pointer (Err version_faults.DateVersion) version e = absurd cc
version_read pointer (Err version_faults.NotAVersion) version e = absurd cc
version_read pointer (Err version_faults.OutOfMemory) version e = absurd cc

-- ---- names

package_named : (pointer : List ℕ) (v : JsonTree) (name : List ℕ) → package_name_at pointer v ≡ Ok name → is_package_name name ≡ true
unfolding package_name_at
package_named pointer v name e =
    let t = both (text_at pointer v) _ name e in
    let form = passed (is_package_name (lowered t.0)) (lowered t.0) name (BadField pointer) t.2 in
    subst (λ n. is_package_name n ≡ true) form.1 form.0

member_named : (pointer : List ℕ) (v : JsonTree) (name : List ℕ) → member_name_at pointer v ≡ Ok name → IsNameOf Member name
unfolding member_name_at
member_named pointer v name e =
    let a = both (package_name_at pointer v) _ name e in
    let free = barred (is_reserved a.0) a.0 name (ReservedName a.0) a.2 in
    subst (IsNameOf Member) free.1 (package_named pointer v a.0 a.1, free.0)

with_left : (a b : Bool) → a ≡ true → a || b ≡ true
with_left true b e = refl
with_left false b e = absurd cc

with_right : (a b : Bool) → b ≡ true → a || b ≡ true
with_right true b e = refl
with_right false b e = e

name_formed : (role : Role) (at : List ℕ) (pairs : Pairs) (name : List ℕ) → name_of role at pairs ≡ Ok name → IsNameOf role name
unfolding name_of
name_formed Root at pairs name e =
    there (value_at pairs keys.Name) (Ok root_name) (package_name_at (at_key at keys.Name)) (IsNameOf Root) name
    (λ y h. with_right (is_package_name y) (bytes_are_equal y root_name) ((bytes_decides y root_name).1 (sym (same_value root_name y h))))
    (λ v y h. with_left (is_package_name y) (bytes_are_equal y root_name) (package_named (at_key at keys.Name) v y h)) e
name_formed Member at pairs name e =
    there (value_at pairs keys.Name) (Err (BadField (at_key at keys.Name))) (member_name_at (at_key at keys.Name)) (IsNameOf Member) name (λ y h. absurd cc) (member_named (at_key at keys.Name)) e

abbrev IsHead : Role → Head → Type 0
IsHead role head = IsNameOf role head.name × (normal_form head.version_text ≡ Ok head.version)

head_formed : (role : Role) (at : List ℕ) (pairs : Pairs) (head : Head) → head_of role at pairs ≡ Ok head → IsHead role head
unfolding head_of version_at
head_formed role at pairs head e =
    let a = both (name_of role at pairs) _ head e in
    let b = both (version_text_of role at pairs) _ head a.2 in
    let c = both (version_at (at_key at keys.Version) b.0) _ head b.2 in
    let made : Head = record { name = a.0; version_text = b.0; version = c.0 } in
    let same : made ≡ head = cc in
    subst (IsHead role) same (name_formed role at pairs a.0 a.1, version_read (at_key at keys.Version) (normal_form b.0) c.0 c.1)

entry_head_formed : (at : List ℕ) (pairs : Pairs) (head : Head) → entry_head_of at pairs ≡ Ok head → IsHead Member head
unfolding entry_head_of version_at
entry_head_formed at pairs head e =
    let a = both (name_of Member at pairs) _ head e in
    let b = both (entry_version_text_of at pairs) _ head a.2 in
    let c = both (version_at (at_key at keys.Version) b.0) _ head b.2 in
    let made : Head = record { name = a.0; version_text = b.0; version = c.0 } in
    let same : made ≡ head = cc in
    subst (IsHead Member) same (name_formed Member at pairs a.0 a.1, version_read (at_key at keys.Version) (normal_form b.0) c.0 c.1)

abbrev AreOthers : Version → Others → Type 0
AreOthers own others = AreLinks own others.conflict × AreLinks own others.replace × AreLinks own others.provide

others_formed : (own : Version) (at : List ℕ) (pairs : Pairs) (others : Others) → others_of own at pairs ≡ Ok others → AreOthers own others
unfolding others_of
others_formed own at pairs others e =
    let a = both (links_of own at pairs keys.Conflict) _ others e in
    let b = both (links_of own at pairs keys.Replace) _ others a.2 in
    let c = both (links_of own at pairs keys.Provide) _ others b.2 in
    let made : Others = record { conflict = a.0; replace = b.0; provide = c.0 } in
    let same : made ≡ others = cc in
    subst (AreOthers own) same (links_formed own at pairs keys.Conflict a.0 a.1, links_formed own at pairs keys.Replace b.0 b.1, links_formed own at pairs keys.Provide c.0 c.1)

abbrev made_of : Head → List ℕ → List Link → Others → Autoload → Package
made_of head kind require others rules = record {
  name = head.name;
  version_text = head.version_text;
  version = head.version;
  kind = kind;
  require = require;
  conflict = others.conflict;
  replace = others.replace;
  provide = others.provide;
  autoload = rules;
}

parts_formed : (role : Role) (head : Head) (kind : List ℕ) (require : List Link) (others : Others) (rules : Autoload) → normal_form head.version_text ≡ Ok head.version → AreLinks head.version require
    → AreOthers head.version others → IsAutoload role rules → IsPackage role (made_of head kind require others rules)
parts_formed role head kind require others rules version required rest autoload = record {
  version = version;
  require = required.each;
  conflict = rest.0.each;
  replace = rest.1.each;
  provide = rest.2.each;
  required_names = required.distinct;
  conflict_names = rest.0.distinct;
  replaced_names = rest.1.distinct;
  provided_names = rest.2.distinct;
  autoload = autoload;
}

pub entry_package_formed : (at : List ℕ) (pairs : Pairs) (p : Package) → package_entry_from at pairs ≡ Ok p → IsMember p
unfolding package_entry_from
entry_package_formed at pairs p e =
    let h = both (entry_head_of at pairs) _ p e in
    let r = both (links_of h.0.version at pairs keys.Require) _ p h.2 in
    let o = both (others_of h.0.version at pairs) _ p r.2 in
    let k = both (kind_of at pairs) _ p o.2 in
    let a = both (autoload_of Member at pairs keys.Autoload) _ p k.2 in
    let n = both (plain_package_at at pairs) _ p a.2 in
    let head = entry_head_formed at pairs h.0 h.1 in
    let same : made_of h.0 k.0 r.0 o.0 a.0 ≡ p = same_value (made_of h.0 k.0 r.0 o.0 a.0) p n.2 in
    subst IsMember same (record {
      name = head.0;
      parts = parts_formed Member h.0 k.0 r.0 o.0 a.0 head.1 (links_formed h.0.version at pairs keys.Require r.0 r.1) (others_formed h.0.version at pairs o.0 o.1) (autoload_formed Member at pairs keys.Autoload a.0 a.1);
    })

pub entries_are_formed : (at : List ℕ) (v : JsonTree) (p : Package) → package_entry_of at v ≡ Ok p → IsMember p
unfolding package_entry_of
entries_are_formed at v p e = let a = both (object_at at v) _ p e in entry_package_formed at a.0 p a.2

-- ---- manifests

dev_links_formed : (role : Role) (own : Version) (at : List ℕ) (pairs : Pairs) (links : List Link) → dev_links_of role own at pairs ≡ Ok links → AreLinks own links
unfolding dev_links_of
dev_links_formed Root own at pairs links e = links_formed own at pairs keys.RequireDev links e
dev_links_formed Member own at pairs links e = no_links own links e

dev_autoload_formed : (role : Role) (at : List ℕ) (pairs : Pairs) (rules : Autoload) → dev_autoload_of role at pairs ≡ Ok rules → IsAutoload role rules
unfolding dev_autoload_of
dev_autoload_formed Root at pairs rules e = autoload_formed Root at pairs keys.AutoloadDev rules e
dev_autoload_formed Member at pairs rules e = no_rules_formed Member rules e

pub pairs_are_formed : (role : Role) (at : List ℕ) (pairs : Pairs) (m : Manifest) → manifest_from role at pairs ≡ Ok m → IsManifest role m
unfolding manifest_from
pairs_are_formed role at pairs m e =
    let h = both (head_of role at pairs) _ m e in
    let k = both (kind_of at pairs) _ m h.2 in
    let r = both (links_of h.0.version at pairs keys.Require) _ m k.2 in
    let d = both (dev_links_of role h.0.version at pairs) _ m r.2 in
    let o = both (others_of h.0.version at pairs) _ m d.2 in
    let a = both (autoload_of role at pairs keys.Autoload) _ m o.2 in
    let b = both (dev_autoload_of role at pairs) _ m a.2 in
    let s = both (settings_of role at pairs) _ m b.2 in
    let n = both (plain_package_at at pairs) _ m s.2 in
    let head = head_formed role at pairs h.0 h.1 in
    let dev = dev_links_formed role h.0.version at pairs d.0 d.1 in
    let settings = settings_formed role at pairs s.0 s.1 in
    let made : Manifest = record {
      «package» = made_of h.0 k.0 r.0 o.0 a.0;
      require_dev = d.0;
      autoload_dev = b.0;
      repositories = s.0.repositories;
      minimum = s.0.minimum;
      prefer_stable = s.0.prefer_stable;
      platform = s.0.config.platform;
      optimise = s.0.config.optimise;
      authoritative = s.0.config.authoritative;
    } in
    let same : made ≡ m = same_value made m n.2 in
    subst (IsManifest role) same (record {
      name = head.0;
      parts = parts_formed role h.0 k.0 r.0 o.0 a.0 head.1 (links_formed h.0.version at pairs keys.Require r.0 r.1) (others_formed h.0.version at pairs o.0 o.1) (autoload_formed role at pairs keys.Autoload a.0 a.1);
      require_dev = dev.each;
      require_dev_names = dev.distinct;
      autoload_dev = dev_autoload_formed role at pairs b.0 b.1;
      repositories = settings.0;
      platform = settings.1;
    })

pub manifests_are_formed : (role : Role) (v : JsonTree) (m : Manifest) → manifest_of role v ≡ Ok m → IsManifest role m
unfolding manifest_of
manifests_are_formed role v m e = let a = both (object_at [] v) _ m e in pairs_are_formed role [] a.0 m a.2

pub members_are_formed : (v : JsonTree) (m : Manifest) → manifest_of Member v ≡ Ok m → IsMember m.package
members_are_formed v m e = let a = manifests_are_formed Member v m e in record { name = a.name; parts = a.parts }
