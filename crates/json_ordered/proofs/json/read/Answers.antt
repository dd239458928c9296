use Rattle.std.proofs.Common.{sym, ap, ◌∙◌}
use Rattle.json_ordered.specs.JsonFaults.{fault_of}
use Rattle.json_ordered.specs.Docs.{tree_of}
use Rattle.json_ordered.proofs.Meaning.{value_is_json, json_is_value}
use Rattle.json_ordered.proofs.OneFault.{meant_result}
use Rattle.json_ordered.proofs.Distinct.{distinct_names}
use Rattle.json_ordered.specs.Json.{most_levels}
use Rattle.json_ordered.proofs.Texts.{json_utf8_texts}
use Rattle.json_ordered.proofs.Places.{stands, utf8_fault, read_value, read_fault}
use Rattle.json_ordered.proofs.json.read.Goals as goal

pub placed-requires : goal.placed-requires
placed-requires c = stands c.args.text.now c.in-Err-document.stop c.in-Err-document.ensures

pub returns-in-Err-clause-fault : goal.returns-in-Err-clause-fault
returns-in-Err-clause-fault c = λ h. ap fault_of (utf8_fault c.args.text.now c.valid_up_to.result c.in-Err.ensures.cases.0 (c.valid_up_to.ensures ∙ c.in-Err.ensures.valid_len))

pub returns-in-Err-clause-exact : goal.returns-in-Err-clause-exact
returns-in-Err-clause-exact c = λ h. utf8_fault c.args.text.now c.valid_up_to.result c.in-Err.ensures.cases.0 (c.valid_up_to.ensures ∙ c.in-Err.ensures.valid_len)

pub returns-in-Ok-document-clause-value : goal.returns-in-Ok-document-clause-value
returns-in-Ok-document-clause-value c = value_is_json c.args.text.now (tree_of c.in-Ok-document.doc) (read_value c.args.text.now (tree_of c.in-Ok-document.doc) c.in-Ok.ensures.cases.1 c.in-Ok-document.ensures)

pub returns-in-Ok-document-clause-reads : goal.returns-in-Ok-document-clause-reads
returns-in-Ok-document-clause-reads c = λ tree json. sym (json_is_value c.args.text.now tree json) ∙ read_value c.args.text.now (tree_of c.in-Ok-document.doc) c.in-Ok.ensures.cases.1 c.in-Ok-document.ensures

pub returns-in-Ok-document-clause-exact : goal.returns-in-Ok-document-clause-exact
returns-in-Ok-document-clause-exact c = read_value c.args.text.now (tree_of c.in-Ok-document.doc) c.in-Ok.ensures.cases.1 c.in-Ok-document.ensures

pub returns-in-Err-document-clause-reads : goal.returns-in-Err-document-clause-reads
returns-in-Err-document-clause-reads c = λ tree json h. sym (json_is_value c.args.text.now tree json) ∙ read_fault c.args.text.now c.in-Err-document.stop c.placed.result c.in-Ok.ensures.cases.1 c.in-Err-document.ensures c.placed.ensures h

pub returns-in-Err-document-clause-fault : goal.returns-in-Err-document-clause-fault
returns-in-Err-document-clause-fault c = λ h. ap fault_of (read_fault c.args.text.now c.in-Err-document.stop c.placed.result c.in-Ok.ensures.cases.1 c.in-Err-document.ensures c.placed.ensures h)

pub returns-in-Err-document-clause-exact : goal.returns-in-Err-document-clause-exact
returns-in-Err-document-clause-exact c = λ h. read_fault c.args.text.now c.in-Err-document.stop c.placed.result c.in-Ok.ensures.cases.1 c.in-Err-document.ensures c.placed.ensures h

pub returns-in-Ok-document-clause-distinct : goal.returns-in-Ok-document-clause-distinct
returns-in-Ok-document-clause-distinct c = distinct_names (value_is_json c.args.text.now (tree_of c.in-Ok-document.doc) (read_value c.args.text.now (tree_of c.in-Ok-document.doc) c.in-Ok.ensures.cases.1 c.in-Ok-document.ensures)).is_value

pub returns-in-Ok-document-clause-texts : goal.returns-in-Ok-document-clause-texts
returns-in-Ok-document-clause-texts c = json_utf8_texts most_levels c.args.text.now (tree_of c.in-Ok-document.doc) (value_is_json c.args.text.now (tree_of c.in-Ok-document.doc) (read_value c.args.text.now (tree_of c.in-Ok-document.doc) c.in-Ok.ensures.cases.1 c.in-Ok-document.ensures))

pub returns-in-Err-clause-refuses : goal.returns-in-Err-clause-refuses
returns-in-Err-clause-refuses c = λ fault m h. sym (meant_result c.args.text.now fault m) ∙ utf8_fault c.args.text.now c.valid_up_to.result c.in-Err.ensures.cases.0 (c.valid_up_to.ensures ∙ c.in-Err.ensures.valid_len)

pub returns-in-Ok-document-clause-refuses : goal.returns-in-Ok-document-clause-refuses
returns-in-Ok-document-clause-refuses c = λ fault m. sym (meant_result c.args.text.now fault m) ∙ read_value c.args.text.now (tree_of c.in-Ok-document.doc) c.in-Ok.ensures.cases.1 c.in-Ok-document.ensures

pub returns-in-Err-document-clause-refuses : goal.returns-in-Err-document-clause-refuses
returns-in-Err-document-clause-refuses c = λ fault m h. sym (meant_result c.args.text.now fault m) ∙ read_fault c.args.text.now c.in-Err-document.stop c.placed.result c.in-Ok.ensures.cases.1 c.in-Err-document.ensures c.placed.ensures h
