-- What a composer.json that was read says, and its hash, can be written.
use Rattle.std.proofs.Common.{◌≡◌, ℕ, zero, suc, ◌/◌, ◌%◌, Bool, true, false, ◌&&◌, List, [], ◌∷◌, Result, Ok, Err, refl, ap, subst}
use Rattle.std.specs.Prelude.{slice_index}
use Rattle.std.specs.List.{list_all}
use Rattle.std.specs.Str.{IsUtf8}
use Rattle.hex.specs.Hex.{encode_with, lower_digits}
use Rattle.md5.specs.Md5.{md5}
use Rattle.content_hash.specs.HashedText.{hashed_text_of}
use Rattle.content_hash.specs.Ids.{id_of}
use Rattle.tree_dev.specs.Trees.{FileTree}
use Rattle.json_ordered.specs.JsonTree.{JsonTree}
use Rattle.json_ordered.specs.JsonFaults.{json_of}
use Rattle.json_ordered.specs.Json.{most_levels}
use Rattle.json_ordered.specs.declared.fault.JsonFault.{JsonFault}
use Rattle.json_ordered.proofs.Documents.{document_of as text_document}
use Rattle.json_ordered.proofs.Meaning.{value_is_json}
use Rattle.manifest_read.specs.Manifests.{manifest_of}
use Rattle.manifest_read.specs.Writable.{IsWritten}
use Rattle.manifest_read.specs.declared.fault.FieldFault.{FieldFault}
use Rattle.manifest_read.specs.declared.types.Manifest.{Manifest}
use Rattle.manifest_read.specs.declared.types.Role.TheVariants.{Root}
use Rattle.manifest_read.proofs.NameBytes.{is_low, low_utf8}
use Rattle.run_answers.specs.declared.refusal.NamedFile.TheVariants as files
use Rattle.run_answers.specs.declared.refusal.NamedFile.{NamedFile}
use Rattle.project_files.specs.Documents.{document_in, or_bad_fields, or_no_document}
use Rattle.project_files.specs.ProjectManifest.{manifest_of_text, manifest_text_in, project_manifest_in, root_in}
use Rattle.project_files.specs.declared.manifests.ProjectManifest.{ProjectManifest}
use Rattle.install_choice.specs.Planning.{IsDocumented}
use Rattle.install_choice.proofs.Steps.{both_ok, same_value}

-- ---- the hash

digit_low : (table : List ℕ) (k : ℕ) → list_all is_low table ≡ true → is_low (slice_index table k) ≡ true
digit_low [] k e = refl
digit_low (byte ∷ table) zero e = (parts (is_low byte) (list_all is_low table) e).0
  where
    parts : (a b : Bool) → a && b ≡ true → (a ≡ true) × (b ≡ true)
    parts true b f = (refl, f)
    parts false b f = absurd cc
digit_low (byte ∷ table) (suc k) e = digit_low table k (parts (is_low byte) (list_all is_low table) e).1
  where
    parts : (a b : Bool) → a && b ≡ true → (a ≡ true) × (b ≡ true)
    parts true b f = (refl, f)
    parts false b f = absurd cc

hex_low : (bytes : List ℕ) → list_all is_low (encode_with lower_digits bytes) ≡ true
unfolding encode_with
hex_low [] = refl
hex_low (byte ∷ bytes) = rw (digit_low lower_digits (byte / 16) refl, digit_low lower_digits (byte % 16) refl) (hex_low bytes)

id_utf8 : (text : List ℕ) → IsUtf8 (id_of text)
id_utf8 text = low_utf8 (id_of text) (hex_low (md5 text))

-- ---- the document

document_read : (file : NamedFile) (r : Result JsonTree JsonFault) (tree : JsonTree) → or_no_document file r ≡ Ok tree → r ≡ Ok tree
document_read file (Ok found) tree e = ap Ok (same_value found tree e)
document_read file (Err fault) tree e = absurd cc

fields_read : (file : NamedFile) (r : Result Manifest FieldFault) (root : Manifest) → or_bad_fields file r ≡ Ok root → r ≡ Ok root
fields_read file (Ok found) root e = ap Ok (same_value found root e)
fields_read file (Err fault) root e = absurd cc

text_written : (text : List ℕ) (tree : JsonTree) → json_of text ≡ Ok tree → IsWritten tree
text_written text tree e = let is = text_document most_levels text tree (value_is_json text tree e) in record { texts = is.texts; names = is.distinct }

text_documented : (text : List ℕ) (manifest : ProjectManifest) → manifest_of_text text ≡ Ok manifest → IsDocumented manifest.root manifest.content_hash
unfolding manifest_of_text document_in root_in
text_documented text manifest e =
    let tree = both_ok (document_in files.Manifest text) _ manifest e in
    let root = both_ok (root_in tree.0) _ manifest tree.2 in
    let made : ProjectManifest = record { root = root.0; content_hash = id_of (hashed_text_of tree.0) } in
    subst (λ (it : ProjectManifest). IsDocumented it.root it.content_hash) (same_value made manifest root.2)
    (record {
      root = record {
        tree = tree.0;
        written = text_written text tree.0 (document_read files.Manifest (json_of text) tree.0 tree.1);
        read = fields_read files.Manifest (manifest_of Root tree.0) root.0 root.1;
      };
      hash = id_utf8 (hashed_text_of tree.0);
    })

pub manifest_documented : (t : FileTree) (at : List (List ℕ)) (manifest : ProjectManifest) → project_manifest_in t at ≡ Ok manifest → IsDocumented manifest.root manifest.content_hash
unfolding project_manifest_in
manifest_documented t at manifest e =
    let text = both_ok (manifest_text_in t at) manifest_of_text manifest e in
    text_documented text.0 manifest text.2
