-- Documents of JSON (RFC 8259) in files that refusals name, and what is refused of them.
use Rattle.std.specs.Prelude.{ℕ, List, Result, Ok, Err}
use Rattle.json_ordered.specs.JsonTree.{JsonTree}
use Rattle.json_ordered.specs.JsonFaults.{json_of}
use Rattle.json_ordered.specs.declared.fault.JsonFault.{JsonFault}
use Rattle.json_ordered.specs.declared.fault.JsonFault.TheVariants as json_faults
use Rattle.manifest_read.specs.declared.fault.FieldFault.{FieldFault}
use Rattle.manifest_read.specs.declared.fault.FieldFault.TheVariants as field_faults
use Rattle.run_answers.specs.declared.refusal.NamedFile.{NamedFile}
use Rattle.run_answers.specs.declared.refusal.DocumentFault.TheVariants as documents
use Rattle.run_answers.specs.declared.refusal.Refusal.{Refusal}
use Rattle.run_answers.specs.declared.refusal.Refusal.TheVariants as refusals

-- a text that is no JSON
abbrev pub refusal_of_json : NamedFile → JsonFault → Refusal
refusal_of_json file (json_faults.NotUtf8 at) = refusals.BadDocument file (documents.NotUtf8 at)
refusal_of_json file (json_faults.Syntax at) = refusals.BadDocument file (documents.Syntax at)
refusal_of_json file (json_faults.TooDeep at) = refusals.BadDocument file (documents.TooDeep at)
refusal_of_json file json_faults.OutOfMemory = refusals.OutOfMemory

abbrev pub or_no_document : NamedFile → Result JsonTree JsonFault → Result JsonTree Refusal
or_no_document file (Ok tree) = Ok tree
or_no_document file (Err fault) = Err (refusal_of_json file fault)

-- the document of a file's text
unfoldable pub document_in : NamedFile → List ℕ → Result JsonTree Refusal
document_in file text = or_no_document file (json_of text)

-- a document whose fields are not what they must be
abbrev pub refusal_of_fields : NamedFile → FieldFault → Refusal
refusal_of_fields file (field_faults.BadField pointer) = refusals.BadDocument file (documents.BadField pointer)
refusal_of_fields file (field_faults.NotOffered pointer) = refusals.NotOffered file pointer
refusal_of_fields file (field_faults.ReservedName name) = refusals.BadDocument file (documents.ReservedName name)
refusal_of_fields file field_faults.OutOfMemory = refusals.OutOfMemory

abbrev pub or_bad_fields : {X : Type 0} → NamedFile → Result X FieldFault → Result X Refusal
or_bad_fields file (Ok x) = Ok x
or_bad_fields file (Err fault) = Err (refusal_of_fields file fault)
