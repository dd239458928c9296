-- Packages and manifests that are read of a document that can be written can be written.
use Rattle.std.proofs.Common.{◌≡◌, ℕ, List, [], Ok, Err, refl, subst}
use Rattle.std.specs.Prelude.{codes}
use Rattle.std.specs.List.{AllByRecursion}
use Rattle.std.specs.Str.{IsUtf8}
use Rattle.path_name.specs.Bytes.{lowered}
use Rattle.json_ordered.specs.JsonTree.{JsonTree}
use Rattle.version_norm.specs.declared.version.Version.{Version}
use Rattle.manifest_read.specs.declared.fault.FieldFault.TheVariants.{BadField, ReservedName}
use Rattle.manifest_read.specs.declared.key.Key.TheVariants as keys
use Rattle.manifest_read.specs.declared.types.Role.{Role}
use Rattle.manifest_read.specs.declared.types.Role.TheVariants.{Root, Member}
use Rattle.manifest_read.specs.declared.types.Link.{Link}
use Rattle.manifest_read.specs.declared.types.Autoload.{Autoload}
use Rattle.manifest_read.specs.declared.types.Package.{Package}
use Rattle.manifest_read.specs.declared.types.Manifest.{Manifest}
use Rattle.manifest_read.specs.declared.package.Head.{Head}
use Rattle.manifest_read.specs.declared.package.Others.{Others}
use Rattle.manifest_read.specs.Keys.{Pairs}
use Rattle.manifest_read.specs.Pointers.{at_key}
use Rattle.manifest_read.specs.Values.{text_at, object_at}
use Rattle.manifest_read.specs.Names.{is_package_name, is_reserved}
use Rattle.manifest_read.specs.Versions.{version_at}
use Rattle.manifest_read.specs.Links.{links_of}
use Rattle.manifest_read.specs.Autoloads.{autoload_of}
use Rattle.manifest_read.specs.Settings.{settings_of}
use Rattle.manifest_read.specs.Packages.{default_version, version_text_of, entry_version_text_of, library, kind_of, plain_package_at, package_name_at, member_name_at, root_name, name_of, head_of, entry_head_of, others_of, package_entry_from, package_entry_of}
use Rattle.manifest_read.specs.Manifests.{dev_links_of, dev_autoload_of, manifest_from, manifest_of}
use Rattle.manifest_read.specs.Writable.{IsWritten, IsWritableLink, IsWritableAutoload, IsWritablePackage, IsWritableManifest}
use Rattle.manifest_read.proofs.Steps.{same_value, both, passed, barred, none_missing}
use Rattle.manifest_read.proofs.NameBytes.{low_utf8, package_name_utf8}
use Rattle.manifest_read.proofs.Written.{AreWrittenPairs, autoload_written, keyed, links_written, missing_text, no_rules_written, object_written, settings_written, text_written}

-- ---- packages

name_at_written : (pointer : List ℕ) (v : JsonTree) (name : List ℕ) → IsWritten v → package_name_at pointer v ≡ Ok name → IsUtf8 name
unfolding package_name_at
name_at_written pointer v name w e =
    let t = both (text_at pointer v) _ name e in
    let form = passed (is_package_name (lowered t.0)) (lowered t.0) name (BadField pointer) t.2 in
    subst IsUtf8 form.1 (package_name_utf8 (lowered t.0) form.0)

member_name_written : (pointer : List ℕ) (v : JsonTree) (name : List ℕ) → IsWritten v → member_name_at pointer v ≡ Ok name → IsUtf8 name
unfolding member_name_at
member_name_written pointer v name w e =
    let a = both (package_name_at pointer v) _ name e in
    let free = barred (is_reserved a.0) a.0 name (ReservedName a.0) a.2 in
    subst IsUtf8 free.1 (name_at_written pointer v a.0 w a.1)

name_written : (role : Role) (at : List ℕ) (pairs : Pairs) (name : List ℕ) → AreWrittenPairs pairs → name_of role at pairs ≡ Ok name → IsUtf8 name
unfolding name_of root_name
name_written Root at pairs name w e =
    keyed pairs keys.Name (Ok root_name) (package_name_at (at_key at keys.Name)) IsUtf8 name w (λ y h. missing_text root_name y (low_utf8 root_name refl) h) (name_at_written (at_key at keys.Name)) e
name_written Member at pairs name w e =
    keyed pairs keys.Name (Err (BadField (at_key at keys.Name))) (member_name_at (at_key at keys.Name)) IsUtf8 name w (λ y h. absurd cc) (member_name_written (at_key at keys.Name)) e

default_is_utf8 : (role : Role) → IsUtf8 (default_version role)
unfolding default_version
default_is_utf8 Root = low_utf8 (codes "1.0.0") refl
default_is_utf8 Member = low_utf8 (codes "dev-main") refl

library_is_utf8 : IsUtf8 library
unfolding library
library_is_utf8 = low_utf8 (codes "library") refl

kind_written : (at : List ℕ) (pairs : Pairs) (kind : List ℕ) → AreWrittenPairs pairs → kind_of at pairs ≡ Ok kind → IsUtf8 kind
unfolding kind_of
kind_written at pairs kind w e =
    keyed pairs keys.Type (Ok library) (text_at (at_key at keys.Type)) IsUtf8 kind w (λ y h. missing_text library y library_is_utf8 h) (text_written (at_key at keys.Type)) e

abbrev IsWritableHead : Head → Type 0
IsWritableHead head = IsUtf8 head.name × IsUtf8 head.version_text

head_written : (role : Role) (at : List ℕ) (pairs : Pairs) (head : Head) → AreWrittenPairs pairs → head_of role at pairs ≡ Ok head → IsWritableHead head
unfolding head_of version_text_of
head_written role at pairs head w e =
    let a = both (name_of role at pairs) _ head e in
    let b = both (version_text_of role at pairs) _ head a.2 in
    let c = both (version_at (at_key at keys.Version) b.0) _ head b.2 in
    let made : Head = record { name = a.0; version_text = b.0; version = c.0 } in
    let same : made ≡ head = cc in
    subst IsWritableHead same (
      name_written role at pairs a.0 w a.1,
      keyed pairs keys.Version (Ok (default_version role)) (text_at (at_key at keys.Version)) IsUtf8 b.0 w (λ y h. missing_text (default_version role) y (default_is_utf8 role) h) (text_written (at_key at keys.Version)) b.1,
    )

entry_head_written : (at : List ℕ) (pairs : Pairs) (head : Head) → AreWrittenPairs pairs → entry_head_of at pairs ≡ Ok head → IsWritableHead head
unfolding entry_head_of entry_version_text_of
entry_head_written at pairs head w e =
    let a = both (name_of Member at pairs) _ head e in
    let b = both (entry_version_text_of at pairs) _ head a.2 in
    let c = both (version_at (at_key at keys.Version) b.0) _ head b.2 in
    let made : Head = record { name = a.0; version_text = b.0; version = c.0 } in
    let same : made ≡ head = cc in
    subst IsWritableHead same (
      name_written Member at pairs a.0 w a.1,
      keyed pairs keys.Version (Err (BadField (at_key at keys.Version))) (text_at (at_key at keys.Version)) IsUtf8 b.0 w (λ y h. absurd cc) (text_written (at_key at keys.Version)) b.1,
    )

abbrev AreWritableOthers : Others → Type 0
AreWritableOthers others = AllByRecursion IsWritableLink others.conflict × AllByRecursion IsWritableLink others.replace × AllByRecursion IsWritableLink others.provide

others_written : (own : Version) (at : List ℕ) (pairs : Pairs) (others : Others) → AreWrittenPairs pairs → others_of own at pairs ≡ Ok others → AreWritableOthers others
unfolding others_of
others_written own at pairs others w e =
    let a = both (links_of own at pairs keys.Conflict) _ others e in
    let b = both (links_of own at pairs keys.Replace) _ others a.2 in
    let c = both (links_of own at pairs keys.Provide) _ others b.2 in
    let made : Others = record { conflict = a.0; replace = b.0; provide = c.0 } in
    let same : made ≡ others = cc in
    subst AreWritableOthers same (links_written own at pairs keys.Conflict a.0 w a.1, links_written own at pairs keys.Replace b.0 w b.1, links_written own at pairs keys.Provide c.0 w c.1)

pub entry_written_from : (at : List ℕ) (pairs : Pairs) (p : Package) → AreWrittenPairs pairs → package_entry_from at pairs ≡ Ok p → IsWritablePackage p
unfolding package_entry_from
entry_written_from at pairs p w e =
    let h = both (entry_head_of at pairs) _ p e in
    let r = both (links_of h.0.version at pairs keys.Require) _ p h.2 in
    let o = both (others_of h.0.version at pairs) _ p r.2 in
    let k = both (kind_of at pairs) _ p o.2 in
    let a = both (autoload_of Member at pairs keys.Autoload) _ p k.2 in
    let n = both (plain_package_at at pairs) _ p a.2 in
    let head = entry_head_written at pairs h.0 w h.1 in
    let others = others_written h.0.version at pairs o.0 w o.1 in
    let made : Package = record { name = h.0.name; version_text = h.0.version_text; version = h.0.version; kind = k.0; require = r.0; conflict = o.0.conflict; replace = o.0.replace; provide = o.0.provide; autoload = a.0 } in
    let same : made ≡ p = cc in
    subst IsWritablePackage same (record {
      name = head.0;
      version_text = head.1;
      kind = kind_written at pairs k.0 w k.1;
      require = links_written h.0.version at pairs keys.Require r.0 w r.1;
      conflict = others.0;
      replace = others.1;
      provide = others.2;
      autoload = autoload_written Member at pairs keys.Autoload a.0 w a.1;
    })

pub entries_are_written : (at : List ℕ) (v : JsonTree) (p : Package) → IsWritten v → package_entry_of at v ≡ Ok p → IsWritablePackage p
unfolding package_entry_of
entries_are_written at v p w e = let a = both (object_at at v) _ p e in entry_written_from at a.0 p (object_written at v a.0 w a.1) a.2

-- ---- manifests

dev_links_written : (role : Role) (own : Version) (at : List ℕ) (pairs : Pairs) (links : List Link) → AreWrittenPairs pairs → dev_links_of role own at pairs ≡ Ok links → AllByRecursion IsWritableLink links
unfolding dev_links_of
dev_links_written Root own at pairs links w e = links_written own at pairs keys.RequireDev links w e
dev_links_written Member own at pairs links w e = none_missing IsWritableLink links e

dev_autoload_written : (role : Role) (at : List ℕ) (pairs : Pairs) (rules : Autoload) → AreWrittenPairs pairs → dev_autoload_of role at pairs ≡ Ok rules → IsWritableAutoload rules
unfolding dev_autoload_of
dev_autoload_written Root at pairs rules w e = autoload_written Root at pairs keys.AutoloadDev rules w e
dev_autoload_written Member at pairs rules w e = no_rules_written rules e

pub manifest_written_from : (role : Role) (at : List ℕ) (pairs : Pairs) (m : Manifest) → AreWrittenPairs pairs → manifest_from role at pairs ≡ Ok m → IsWritableManifest m
unfolding manifest_from
manifest_written_from role at pairs m w e =
    let h = both (head_of role at pairs) _ m e in
    let k = both (kind_of at pairs) _ m h.2 in
    let r = both (links_of h.0.version at pairs keys.Require) _ m k.2 in
    let d = both (dev_links_of role h.0.version at pairs) _ m r.2 in
    let o = both (others_of h.0.version at pairs) _ m d.2 in
    let a = both (autoload_of role at pairs keys.Autoload) _ m o.2 in
    let b = both (dev_autoload_of role at pairs) _ m a.2 in
    let s = both (settings_of role at pairs) _ m b.2 in
    let n = both (plain_package_at at pairs) _ m s.2 in
    let head = head_written role at pairs h.0 w h.1 in
    let others = others_written h.0.version at pairs o.0 w o.1 in
    let settings = settings_written role at pairs s.0 w s.1 in
    let made : Manifest = record {
      «package» = record { name = h.0.name; version_text = h.0.version_text; version = h.0.version; kind = k.0; require = r.0; conflict = o.0.conflict; replace = o.0.replace; provide = o.0.provide; autoload = a.0 };
      require_dev = d.0;
      autoload_dev = b.0;
      repositories = s.0.repositories;
      minimum = s.0.minimum;
      prefer_stable = s.0.prefer_stable;
      platform = s.0.config.platform;
      optimise = s.0.config.optimise;
      authoritative = s.0.config.authoritative;
    } in
    let same : made ≡ m = same_value made m n.2 in
    subst IsWritableManifest same (record {
      parts = record {
        name = head.0;
        version_text = head.1;
        kind = kind_written at pairs k.0 w k.1;
        require = links_written h.0.version at pairs keys.Require r.0 w r.1;
        conflict = others.0;
        replace = others.1;
        provide = others.2;
        autoload = autoload_written role at pairs keys.Autoload a.0 w a.1;
      };
      require_dev = dev_links_written role h.0.version at pairs d.0 w d.1;
      autoload_dev = dev_autoload_written role at pairs b.0 w b.1;
      repositories = settings.0;
      platform = settings.1;
    })

pub manifests_are_written : (role : Role) (v : JsonTree) (m : Manifest) → IsWritten v → manifest_of role v ≡ Ok m → IsWritableManifest m
unfolding manifest_of
manifests_are_written role v m w e = let a = both (object_at [] v) _ m e in manifest_written_from role [] a.0 m (object_written [] v a.0 w a.1) a.2
