-- A package of a lock is read again as it was.
use Rattle.std.proofs.Common.{◌≡◌, ℕ, zero, suc, Bool, true, false, not, cond, List, [], ◌∷◌, ◌++◌, map, Option, Some, None, Ok, Err, refl, sym, ap, ◌∙◌}
use Rattle.std.specs.Prelude.{codes}
use Rattle.std.specs.List.{AllByRecursion, list_all}
use Rattle.std.specs.Option.{option_or, is_some}
use Rattle.path_name.specs.Orders.{bytes_are_equal}
use Rattle.path_name.specs.Paths.{IsPath, path_text, is_segment, is_slash, has_no_slash}
use Rattle.path_name.specs.FolderRefs.{folder_of, folder_text}
use Rattle.path_name.specs.declared.folder_ref.FolderRef.{FolderRef}
use Rattle.path_name.proofs.Joining.{both_true, not_true, segment_facts}
use Rattle.path_name.proofs.FolderTexts.{folder_of-folder_text}
use Rattle.json_ordered.specs.JsonTree.{JsonTree, String, object_of}
use Rattle.json_ordered.specs.JsonNames.{value_of}
use Rattle.version_norm.specs.declared.version.Version.{Version}
use Rattle.manifest_read.specs.declared.fault.FieldFault.TheVariants.{BadField, NotOffered, ReservedName}
use Rattle.manifest_read.specs.declared.key.Key.{Key}
use Rattle.manifest_read.specs.declared.key.Key.TheVariants as keys
use Rattle.manifest_read.specs.declared.types.Role.TheVariants.{Member}
use Rattle.manifest_read.specs.declared.types.Link.{Link}
use Rattle.manifest_read.specs.declared.types.PathText.{PathText}
use Rattle.manifest_read.specs.declared.types.PrefixDirs.{PrefixDirs}
use Rattle.manifest_read.specs.declared.types.Autoload.{Autoload}
use Rattle.manifest_read.specs.declared.types.Package.{Package}
use Rattle.manifest_read.specs.declared.package.Head.{Head}
use Rattle.manifest_read.specs.Keys.{Pairs, key_text, value_at}
use Rattle.manifest_read.specs.Pointers.{below, at_key}
use Rattle.manifest_read.specs.Values.{text_at, object_at, if_there}
use Rattle.manifest_read.specs.Versions.{version_or_fault, version_at}
use Rattle.manifest_read.specs.Names.{is_package_name}
use Rattle.manifest_read.specs.Links.{links_in, links_of}
use Rattle.manifest_read.specs.Autoloads.{path_texts_at, path_text_at, paths_in, paths_of, is_prefix, prefix_at, folders_from, folders_at, prefix_dirs_at, prefixes_in, standard_key, prefixes_of, texts_in, texts_of, no_rules, rules_in, autoload_in, autoload_of}
use Rattle.manifest_read.specs.Repositories.{absent_at, path_type_of, is_path_type, folder_or_fault, folder_at, begins_with_slash}
use Rattle.manifest_read.specs.Packages.{package_name_at, member_name_at, name_of, entry_version_text_of, entry_head_of, library, kind_of, others_of, plain_package_at, package_entry_from, package_entry_of, package_head_of}
use Rattle.manifest_read.specs.WellFormed.{IsLink, HaveDistinctNames, IsPathText, IsPrefixDirs, IsAutoload}
use Rattle.lock_file.specs.declared.types.Locked.{Locked}
use Rattle.lock_file.specs.declared.dist.Dist.{Dist}
use Rattle.lock_file.specs.PackageTrees.{keyed, filled, links_tree, path_tree, paths_tree, texts_tree, folders_tree, prefix_pair, prefixes_tree, autoload_pairs, dist_tree, link_pairs, locked_pairs, locked_tree}
use Rattle.lock_file.specs.Locks.{dist_url_at, dist_url_of, reference_of, dist_from, dist_at, dist_of, locked_at}
use Rattle.lock_file.specs.Rereading.{IsSmall, IsOneIfSingle, IsSingleRow, IsStarless, IsExactLocked}
use Rattle.lock_file.proofs.RereadParts.{bound, each_again, items_again, object_again, text_again, value_append, filled_value, filled_of, filled_read, or_none, links_again, paired, path_again, paths_again, listed_again, texts_again}

-- ---- prefixes

folders_again : (at : List ℕ) (single : Bool) (folders : List PathText) → AllByRecursion (IsPathText Member) folders → IsOneIfSingle single folders
    → folders_at Member at (folders_tree single folders) ≡ Ok (record { folders = folders; single = single })
unfolding folders_at
folders_again at true [] formed one = absurd one
folders_again at true (folder ∷ []) formed one = bound (path_text_at Member false at (path_tree folder)) folder _ (record { folders = folder ∷ []; single = true }) (path_again false at folder formed.0 (λ e. absurd cc)) refl
folders_again at true (folder ∷ next ∷ folders) formed one = absurd one
folders_again at false folders formed one =
    ap (λ items. folders_from Member at (paths_tree folders) (Some items)) (items_again (map path_tree folders))
    ∙ bound (path_texts_at Member false at (map path_tree folders)) folders _ (record { folders = folders; single = false }) (paths_again false at folders formed (λ e. absurd cc)) refl

row_again : (standard : _) (at : List ℕ) (row : PrefixDirs) → IsPrefixDirs standard Member row × IsSingleRow row → prefix_dirs_at standard Member at (prefix_pair row) ≡ Ok row
unfolding prefix_dirs_at prefix_at
row_again standard at row is =
    bound (prefix_at standard (below at row.written) row.written) row.prefix _ row
    (ap (λ p. cond (is_prefix standard p) (Ok p) (Err (BadField (below at row.written)))) (sym is.0.cut) ∙ ap (λ b. cond b (Ok row.prefix) (Err (BadField (below at row.written)))) is.0.prefix)
    (bound (folders_at Member (below at row.written) (folders_tree row.single row.folders)) (record { folders = row.folders; single = row.single }) _ row
    (folders_again (below at row.written) row.single row.folders is.0.folders is.1) refl)

prefixes_again : (standard : _) (pointer : List ℕ) (rows : List PrefixDirs) → AllByRecursion (IsPrefixDirs standard Member) rows → AllByRecursion IsSingleRow rows
    → prefixes_in standard Member pointer (prefixes_tree rows) ≡ Ok rows
unfolding prefixes_in
prefixes_again standard pointer rows formed single =
    bound (object_at pointer (prefixes_tree rows)) (map prefix_pair rows) _ rows (object_again pointer (map prefix_pair rows))
    (each_again (prefix_dirs_at standard Member pointer) prefix_pair (λ row. IsPrefixDirs standard Member row × IsSingleRow row) (row_again standard pointer) rows
    (paired (IsPrefixDirs standard Member) IsSingleRow rows formed single))

-- ---- autoload

-- a key's value where a list is left out if it is empty
abbrev slot : {X : Type 0} → List ℕ → Key → (List X → JsonTree) → List X → Option JsonTree
slot name key tree xs = cond (bytes_are_equal name (key_text key)) (filled_value tree xs) None

filled_then : {X : Type 0} (name : List ℕ) (key : Key) (tree : List X → JsonTree) (xs : List X) (rest : Pairs) (found : Option JsonTree) → value_of rest name ≡ found
    → value_of (filled key tree xs ++ rest) name ≡ option_or (slot name key tree xs) found
filled_then name key tree xs rest found e =
    value_append name (filled key tree xs) rest ∙ ap (λ o. option_or o (value_of rest name)) (filled_of name key tree xs) ∙ ap (option_or (slot name key tree xs)) e

module _ (rules : Autoload) where
  rule_value : (name : List ℕ) → value_of (autoload_pairs rules) name ≡ option_or (slot name keys.Psr4 prefixes_tree rules.psr4) (option_or (slot name keys.Psr0 prefixes_tree rules.psr0)
      (option_or (slot name keys.Classmap paths_tree rules.classmap) (option_or (slot name keys.Files paths_tree rules.files) (slot name keys.Exclusions texts_tree rules.exclude))))
  unfolding autoload_pairs
  rule_value name =
      filled_then name keys.Psr4 prefixes_tree rules.psr4 _ _
      (filled_then name keys.Psr0 prefixes_tree rules.psr0 _ _
      (filled_then name keys.Classmap paths_tree rules.classmap _ _
      (filled_then name keys.Files paths_tree rules.files _ _
      (filled_of name keys.Exclusions texts_tree rules.exclude))))

  psr4_there : value_at (autoload_pairs rules) keys.Psr4 ≡ filled_value prefixes_tree rules.psr4
  unfolding value_at key_text
  psr4_there = rule_value (key_text keys.Psr4) ∙ or_none (filled_value prefixes_tree rules.psr4)

  psr0_there : value_at (autoload_pairs rules) keys.Psr0 ≡ filled_value prefixes_tree rules.psr0
  unfolding value_at key_text
  psr0_there = rule_value (key_text keys.Psr0) ∙ or_none (filled_value prefixes_tree rules.psr0)

  classmap_there : value_at (autoload_pairs rules) keys.Classmap ≡ filled_value paths_tree rules.classmap
  unfolding value_at key_text
  classmap_there = rule_value (key_text keys.Classmap) ∙ or_none (filled_value paths_tree rules.classmap)

  files_there : value_at (autoload_pairs rules) keys.Files ≡ filled_value paths_tree rules.files
  unfolding value_at key_text
  files_there = rule_value (key_text keys.Files) ∙ or_none (filled_value paths_tree rules.files)

  exclude_there : value_at (autoload_pairs rules) keys.Exclusions ≡ filled_value texts_tree rules.exclude
  unfolding value_at key_text
  exclude_there = rule_value (key_text keys.Exclusions)

  prefixes_read : (standard : _) (at : List ℕ) (rows : List PrefixDirs) → value_at (autoload_pairs rules) (standard_key standard) ≡ filled_value prefixes_tree rows → AllByRecursion (IsPrefixDirs standard Member) rows
      → AllByRecursion IsSingleRow rows → prefixes_of standard Member at (autoload_pairs rules) ≡ Ok rows
  unfolding prefixes_of
  prefixes_read standard at rows there formed single =
      let pointer = at_key at (standard_key standard) in
      ap (λ o. if_there o (Ok []) (prefixes_in standard Member pointer)) there ∙ filled_read prefixes_tree (prefixes_in standard Member pointer) rows (prefixes_again standard pointer rows formed single)

  paths_read : (starless : Bool) (at : List ℕ) (key : Key) (paths : List PathText) → value_at (autoload_pairs rules) key ≡ filled_value paths_tree paths → AllByRecursion (IsPathText Member) paths
      → (starless ≡ true → AllByRecursion IsStarless paths) → paths_of Member starless at (autoload_pairs rules) key ≡ Ok paths
  unfolding paths_of
  paths_read starless at key paths there formed star =
      ap (λ o. if_there o (Ok []) (paths_in Member starless (at_key at key))) there ∙ filled_read paths_tree (paths_in Member starless (at_key at key)) paths (listed_again starless (at_key at key) paths formed star)

  texts_read : (at : List ℕ) → texts_of at (autoload_pairs rules) keys.Exclusions ≡ Ok rules.exclude
  unfolding texts_of
  texts_read at =
      ap (λ o. if_there o (Ok []) (texts_in (at_key at keys.Exclusions))) exclude_there ∙ filled_read texts_tree (texts_in (at_key at keys.Exclusions)) rules.exclude (texts_again (at_key at keys.Exclusions) rules.exclude)

  rules_again : (at : List ℕ) → IsAutoload Member rules → AllByRecursion IsSingleRow rules.psr4 → AllByRecursion IsSingleRow rules.psr0 → AllByRecursion IsStarless rules.classmap
      → rules_in Member at (autoload_pairs rules) ≡ Ok rules
  unfolding rules_in
  rules_again at formed psr4 psr0 classmap =
      let pairs = autoload_pairs rules in
      bound _ rules.psr4 _ rules (prefixes_read _ at rules.psr4 psr4_there formed.psr4 psr4)
      (bound _ rules.psr0 _ rules (prefixes_read _ at rules.psr0 psr0_there formed.psr0 psr0)
      (bound (paths_of Member true at pairs keys.Classmap) rules.classmap _ rules (paths_read true at keys.Classmap rules.classmap classmap_there formed.classmap (λ e. classmap))
      (bound (paths_of Member false at pairs keys.Files) rules.files _ rules (paths_read false at keys.Files rules.files files_there formed.files (λ e. absurd cc))
      (bound (texts_of at pairs keys.Exclusions) rules.exclude _ rules (texts_read at) refl))))

  filled_rules : (pointer : List ℕ) (pairs : Pairs) → rules_in Member pointer pairs ≡ Ok rules → if_there (filled_value object_of pairs) (Ok no_rules) (autoload_in Member pointer) ≡ Ok rules
  unfolding rules_in autoload_in no_rules prefixes_of paths_of texts_of value_at
  filled_rules pointer [] e = e
  filled_rules pointer (pair ∷ pairs) e = bound (object_at pointer (object_of (pair ∷ pairs))) (pair ∷ pairs) (rules_in Member pointer) rules (object_again pointer (pair ∷ pairs)) e

-- ---- a package

module _ (locked : Locked) where
  abbrev entry : Package
  entry = locked.«package»

  abbrev rules_of : Autoload
  rules_of = entry.autoload

  -- the values of keys behind the first three
  link_value : (name : List ℕ) → value_of (link_pairs entry) name ≡ option_or (slot name keys.Require links_tree entry.require) (option_or (slot name keys.Conflict links_tree entry.conflict)
      (option_or (slot name keys.Replace links_tree entry.replace) (slot name keys.Provide links_tree entry.provide)))
  unfolding link_pairs
  link_value name =
      filled_then name keys.Require links_tree entry.require _ _
      (filled_then name keys.Conflict links_tree entry.conflict _ _
      (filled_then name keys.Replace links_tree entry.replace _ _
      (filled_of name keys.Provide links_tree entry.provide)))

  abbrev back : Pairs
  back = keyed keys.Type (String entry.kind) ∷ filled keys.Autoload object_of (autoload_pairs rules_of)

  back_value : (name : List ℕ) → value_of back name ≡ cond (bytes_are_equal name (key_text keys.Type)) (Some (String entry.kind)) (slot name keys.Autoload object_of (autoload_pairs rules_of))
  back_value name = ap (cond (bytes_are_equal name (key_text keys.Type)) (Some (String entry.kind))) (filled_of name keys.Autoload object_of (autoload_pairs rules_of))

  rest_value : (name : List ℕ) → value_of (link_pairs entry ++ back) name ≡ option_or
      (option_or (slot name keys.Require links_tree entry.require) (option_or (slot name keys.Conflict links_tree entry.conflict)
      (option_or (slot name keys.Replace links_tree entry.replace) (slot name keys.Provide links_tree entry.provide))))
      (cond (bytes_are_equal name (key_text keys.Type)) (Some (String entry.kind)) (slot name keys.Autoload object_of (autoload_pairs rules_of)))
  rest_value name = value_append name (link_pairs entry) back ∙ rw (link_value name, back_value name) refl

  require_there : value_at (locked_pairs locked) keys.Require ≡ filled_value links_tree entry.require
  unfolding value_at key_text locked_pairs
  require_there = rest_value (key_text keys.Require) ∙ or_none (option_or (filled_value links_tree entry.require) None) ∙ or_none (filled_value links_tree entry.require)

  conflict_there : value_at (locked_pairs locked) keys.Conflict ≡ filled_value links_tree entry.conflict
  unfolding value_at key_text locked_pairs
  conflict_there = rest_value (key_text keys.Conflict) ∙ or_none (option_or (filled_value links_tree entry.conflict) None) ∙ or_none (filled_value links_tree entry.conflict)

  replace_there : value_at (locked_pairs locked) keys.Replace ≡ filled_value links_tree entry.replace
  unfolding value_at key_text locked_pairs
  replace_there = rest_value (key_text keys.Replace) ∙ or_none (option_or (filled_value links_tree entry.replace) None) ∙ or_none (filled_value links_tree entry.replace)

  provide_there : value_at (locked_pairs locked) keys.Provide ≡ filled_value links_tree entry.provide
  unfolding value_at key_text locked_pairs
  provide_there = rest_value (key_text keys.Provide) ∙ or_none (filled_value links_tree entry.provide)

  kind_there : value_at (locked_pairs locked) keys.Type ≡ Some (String entry.kind)
  unfolding value_at key_text locked_pairs
  kind_there = rest_value (key_text keys.Type)

  autoload_there : value_at (locked_pairs locked) keys.Autoload ≡ filled_value object_of (autoload_pairs rules_of)
  unfolding value_at key_text locked_pairs
  autoload_there = rest_value (key_text keys.Autoload)

  target_absent : value_at (locked_pairs locked) keys.TargetDir ≡ None
  unfolding value_at key_text locked_pairs
  target_absent = rest_value (key_text keys.TargetDir)

  path_absent : value_at (locked_pairs locked) keys.IncludePath ≡ None
  unfolding value_at key_text locked_pairs
  path_absent = rest_value (key_text keys.IncludePath)

  name_there : value_at (locked_pairs locked) keys.Name ≡ Some (String entry.name)
  unfolding value_at key_text locked_pairs
  name_there = refl

  version_there : value_at (locked_pairs locked) keys.Version ≡ Some (String entry.version_text)
  unfolding value_at key_text locked_pairs
  version_there = refl

  dist_there : value_at (locked_pairs locked) keys.Dist ≡ Some (dist_tree locked.url locked.reference)
  unfolding value_at key_text locked_pairs
  dist_there = refl

  -- ---- its parts

  links_read : (own : Version) (at : List ℕ) (key : Key) (links : List Link) → value_at (locked_pairs locked) key ≡ filled_value links_tree links → AllByRecursion (IsLink own) links → AllByRecursion IsSmall links
      → HaveDistinctNames links → links_of own at (locked_pairs locked) key ≡ Ok links
  unfolding links_of
  links_read own at key links there formed small distinct =
      ap (λ o. if_there o (Ok []) (links_in own (at_key at key))) there ∙ filled_read links_tree (links_in own (at_key at key)) links (links_again own (at_key at key) links formed small distinct)

  others_read : (at : List ℕ) → IsExactLocked locked
      → others_of entry.version at (locked_pairs locked) ≡ Ok (record { conflict = entry.conflict; replace = entry.replace; provide = entry.provide })
  unfolding others_of
  others_read at is =
      let pairs = locked_pairs locked in
      let own = entry.version in
      let parts = is.member.parts in
      bound (links_of own at pairs keys.Conflict) entry.conflict _ _ (links_read own at keys.Conflict entry.conflict conflict_there parts.conflict is.exact.conflict parts.conflict_names)
      (bound (links_of own at pairs keys.Replace) entry.replace _ _ (links_read own at keys.Replace entry.replace replace_there parts.replace is.exact.replace parts.replaced_names)
      (bound (links_of own at pairs keys.Provide) entry.provide _ _ (links_read own at keys.Provide entry.provide provide_there parts.provide is.exact.provide parts.provided_names) refl))

  name_again : (at : List ℕ) → IsExactLocked locked → member_name_at at (String entry.name) ≡ Ok entry.name
  unfolding member_name_at package_name_at text_at
  name_again at is =
      bound (package_name_at at (String entry.name)) entry.name _ entry.name
      (ap (λ n. cond (is_package_name n) (Ok n) (Err (BadField at))) is.exact.name ∙ ap (λ b. cond b (Ok entry.name) (Err (BadField at))) is.member.name.0)
      (ap (λ b. cond b (Err (ReservedName entry.name)) (Ok entry.name)) is.member.name.1)

  abbrev entry_head : Head
  entry_head = record { name = entry.name; version_text = entry.version_text; version = entry.version }

  name_read : (at : List ℕ) → IsExactLocked locked → name_of Member at (locked_pairs locked) ≡ Ok entry.name
  unfolding name_of
  name_read at is = ap (λ o. if_there o (Err (BadField (at_key at keys.Name))) (member_name_at (at_key at keys.Name))) name_there ∙ name_again (at_key at keys.Name) is

  version_text_read : (at : List ℕ) → entry_version_text_of at (locked_pairs locked) ≡ Ok entry.version_text
  unfolding entry_version_text_of
  version_text_read at = ap (λ o. if_there o (Err (BadField (at_key at keys.Version))) (text_at (at_key at keys.Version))) version_there ∙ text_again (at_key at keys.Version) entry.version_text

  head_read : (at : List ℕ) → IsExactLocked locked → entry_head_of at (locked_pairs locked) ≡ Ok entry_head
  unfolding entry_head_of version_at
  head_read at is =
      bound (name_of Member at (locked_pairs locked)) entry.name _ entry_head (name_read at is)
      (bound (entry_version_text_of at (locked_pairs locked)) entry.version_text _ entry_head (version_text_read at)
      (bound (version_at (at_key at keys.Version) entry.version_text) entry.version _ entry_head (ap (version_or_fault (at_key at keys.Version)) is.member.parts.version) refl))

  kind_read : (at : List ℕ) → kind_of at (locked_pairs locked) ≡ Ok entry.kind
  unfolding kind_of
  kind_read at = ap (λ o. if_there o (Ok library) (text_at (at_key at keys.Type))) kind_there ∙ text_again (at_key at keys.Type) entry.kind

  autoload_read : (at : List ℕ) → IsExactLocked locked → autoload_of Member at (locked_pairs locked) keys.Autoload ≡ Ok rules_of
  unfolding autoload_of
  autoload_read at is =
      let pointer = at_key at keys.Autoload in
      ap (λ o. if_there o (Ok no_rules) (autoload_in Member pointer)) autoload_there
      ∙ filled_rules rules_of pointer (autoload_pairs rules_of) (rules_again rules_of pointer is.member.parts.autoload is.exact.psr4 is.exact.psr0 is.exact.classmap)

  absent_read : (at : List ℕ) (key : Key) → value_at (locked_pairs locked) key ≡ None → absent_at at (locked_pairs locked) key ≡ Ok tt
  unfolding absent_at
  absent_read at key none = ap (λ o. cond (is_some o) (Err (NotOffered (at_key at key))) (Ok tt)) none

  plain_read : (at : List ℕ) → plain_package_at at (locked_pairs locked) ≡ Ok tt
  unfolding plain_package_at
  plain_read at = bound (absent_at at (locked_pairs locked) keys.TargetDir) tt _ tt (absent_read at keys.TargetDir target_absent) (absent_read at keys.IncludePath path_absent)

  entry_from : (at : List ℕ) → IsExactLocked locked → package_entry_from at (locked_pairs locked) ≡ Ok entry
  unfolding package_entry_from
  entry_from at is =
      let pairs = locked_pairs locked in
      let own = entry.version in
      bound (entry_head_of at pairs) entry_head _ entry (head_read at is)
      (bound (links_of own at pairs keys.Require) entry.require _ entry (links_read own at keys.Require entry.require require_there is.member.parts.require is.exact.require is.member.parts.required_names)
      (bound (others_of own at pairs) (record { conflict = entry.conflict; replace = entry.replace; provide = entry.provide }) _ entry (others_read at is)
      (bound (kind_of at pairs) entry.kind _ entry (kind_read at)
      (bound (autoload_of Member at pairs keys.Autoload) rules_of _ entry (autoload_read at is)
      (bound (plain_package_at at pairs) tt _ entry (plain_read at) refl)))))

-- ---- where it is installed from

first_plain : (byte : ℕ) (s : List ℕ) → is_segment (byte ∷ s) ≡ true → is_slash byte ≡ false
first_plain byte s e = not_true (is_slash byte) (both_true (not (is_slash byte)) (has_no_slash s) (segment_facts (byte ∷ s) e).whole).0

first_of : (s : List ℕ) (rest : List (List ℕ)) → is_segment s ≡ true → begins_with_slash (path_text (s ∷ rest)) ≡ false
first_of [] rest e = let none : true ≡ false = (segment_facts [] e).here in absurd cc
first_of (byte ∷ s) [] e = first_plain byte s e
first_of (byte ∷ s) (next ∷ rest) e = first_plain byte s e

begins_not : (up : ℕ) (path : List (List ℕ)) → IsPath path → begins_with_slash (folder_text (record { up = up; path = path })) ≡ false
begins_not zero [] is = refl
begins_not zero (s ∷ rest) is = first_of s rest (both_true (is_segment s) (list_all is_segment rest) is).0
begins_not (suc up) path is = refl

module _ (url : FolderRef) (reference : List ℕ) where
  abbrev dist_pairs : Pairs
  dist_pairs = keyed keys.Type (String (codes "path")) ∷ keyed keys.Url (String (folder_text url)) ∷ keyed keys.Reference (String reference) ∷ []

  type_again : (at : List ℕ) → path_type_of at dist_pairs ≡ Ok tt
  unfolding path_type_of value_at key_text is_path_type
  type_again at = refl

  url_again : (at : List ℕ) → IsPath url.path → dist_url_at at (String (folder_text url)) ≡ Ok url
  unfolding dist_url_at text_at folder_at
  url_again at is =
      bound (folder_or_fault at (folder_of (folder_text url))) url _ url (ap (folder_or_fault at) (folder_of-folder_text url is)) (ap (λ b. cond b (Err (NotOffered at)) (Ok url)) (begins_not url.up url.path is))

  url_read : (at : List ℕ) → IsPath url.path → dist_url_of at dist_pairs ≡ Ok url
  unfolding dist_url_of value_at key_text
  url_read at is = url_again (at_key at keys.Url) is

  reference_read : (at : List ℕ) → reference_of at dist_pairs ≡ Ok reference
  unfolding reference_of value_at key_text text_at
  reference_read at = refl

  dist_again : (at : List ℕ) → IsPath url.path → dist_at at (dist_tree url reference) ≡ Ok (record { url = url; reference = reference })
  unfolding dist_at dist_from dist_tree
  dist_again at is =
      let all : Dist = record { url = url; reference = reference } in
      bound (object_at at (dist_tree url reference)) dist_pairs _ all (object_again at dist_pairs)
      (bound (path_type_of at dist_pairs) tt _ all (type_again at)
      (bound (dist_url_of at dist_pairs) url _ all (url_read at is)
      (bound (reference_of at dist_pairs) reference _ all (reference_read at) refl)))

-- ---- a locked package

pub locked_again : (at : List ℕ) (locked : Locked) → IsExactLocked locked → locked_at at (locked_tree locked) ≡ Ok locked
unfolding locked_at locked_tree package_head_of package_entry_of dist_of
locked_again at locked is =
    let pairs = locked_pairs locked in
    let object = object_again at pairs in
    bound (object_at at (locked_tree locked)) pairs _ locked object
    (bound (package_head_of at (locked_tree locked)) (entry_head locked) _ locked (bound (object_at at (locked_tree locked)) pairs (entry_head_of at) (entry_head locked) object (head_read locked at is))
    (bound (dist_of at pairs) (record { url = locked.url; reference = locked.reference }) _ locked
    (ap (λ o. if_there o (Err (BadField (at_key at keys.Dist))) (dist_at (at_key at keys.Dist))) (dist_there locked) ∙ dist_again locked.url locked.reference (at_key at keys.Dist) is.url)
    (bound (package_entry_of at (locked_tree locked)) locked.«package» _ locked (bound (object_at at (locked_tree locked)) pairs (package_entry_from at) locked.«package» object (entry_from locked at is)) refl)))
