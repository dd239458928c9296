use Rattle.json_ordered.proofs.Meaning.{one_value, value_is_json, json_is_value, fault_means}
use Rattle.std.proofs.Common.{◌≡◌, true, subst}
use Rattle.json_ordered.specs.Docs.{tree_of}
use Rattle.json_ordered.specs.JsonEquality.{trees_are_equal, document_equality, equal_documents}
use Rattle.json_ordered.proofs.OneFault.{meant_fault}
use Rattle.json_ordered.proofs.Names.{last_values, first_places}
use Rattle.json_ordered.specs.JsonTexts.{pretty_text}
use Rattle.json_ordered.proofs.Documents.{document_of}
use Rattle.json_ordered.proofs.Printable.{pretty_json}
use Rattle.json_ordered.proofs.json.laws.Goals as goal

pub returns-clause-one_value : goal.returns-clause-one_value
returns-clause-one_value c = one_value

pub returns-clause-value : goal.returns-clause-value
returns-clause-value c = λ text tree. (value_is_json text tree, json_is_value text tree)

pub returns-clause-fault : goal.returns-clause-fault
returns-clause-fault c = fault_means

pub returns-clause-last_values : goal.returns-clause-last_values
returns-clause-last_values c = last_values

pub returns-clause-first_places : goal.returns-clause-first_places
returns-clause-first_places c = first_places

pub returns-clause-equality : goal.returns-clause-equality
returns-clause-equality c = λ a b. (equal_documents a b, λ e. subst (λ x. trees_are_equal (tree_of a) x ≡ true) e (document_equality.refl a))

pub returns-clause-documents : goal.returns-clause-documents
returns-clause-documents c = λ levels tree. (λ found. document_of levels found.0 tree found.1, λ d. (pretty_text tree, pretty_json levels tree d))

pub returns-clause-only_fault : goal.returns-clause-only_fault
returns-clause-only_fault c = meant_fault
