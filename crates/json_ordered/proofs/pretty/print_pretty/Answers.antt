use Rattle.std.proofs.Common.{◌≡◌, ℕ, List, [], ◌∷◌, ◌++◌, Ok, sym, ap, subst, ◌∙◌}
use Rattle.json_ordered.specs.Json.{IsJson, most_levels}
use Rattle.json_ordered.specs.JsonFaults.{json_of}
use Rattle.json_ordered.specs.Docs.{tree_of}
use Rattle.json_ordered.specs.JsonTree.{JsonTree}
use Rattle.json_ordered.specs.JsonTexts.{pretty_at, pretty_text}
use Rattle.json_ordered.proofs.Documents.{document_of}
use Rattle.json_ordered.proofs.Printable.{pretty_json, pretty_read}
use Rattle.json_ordered.proofs.pretty.print_pretty.Goals as goal

printed : (out line : List ℕ) (tree : JsonTree) → out ≡ [] → line ≡ 10 ∷ [] → out ++ pretty_at line tree ≡ pretty_text tree
printed out line tree e f = ap (λ (t : List ℕ). t ++ pretty_at line tree) e ∙ ap (λ (t : List ℕ). pretty_at t tree) f

pub returns-clause-read_back : goal.returns-clause-read_back
returns-clause-read_back c = λ source json. subst (λ (t : List ℕ). json_of t ≡ Ok (tree_of c.args.doc.now)) (sym (c.of.ensures ∙ c.in_ok-add_value.ensures.text ∙ printed c.new-out.result.items c.in_ok-line.line.items (tree_of c.args.doc.now) c.new-out.ensures.items c.in_ok-line.ensures.items)) (pretty_read (tree_of c.args.doc.now) (document_of most_levels source (tree_of c.args.doc.now) json))

pub returns-clause-value : goal.returns-clause-value
returns-clause-value c = λ d. subst (λ (t : List ℕ). IsJson t (tree_of c.args.doc.now)) (sym (c.of.ensures ∙ c.in_ok-add_value.ensures.text ∙ printed c.new-out.result.items c.in_ok-line.line.items (tree_of c.args.doc.now) c.new-out.ensures.items c.in_ok-line.ensures.items)) (pretty_json most_levels (tree_of c.args.doc.now) d)
