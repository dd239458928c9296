use Rattle.std.proofs.Common.{sym, ◌∙◌, length}
use Rattle.std.proofs.lemmas.List.{nil_from_length}
use Rattle.json_ordered.specs.Docs.{tree_of}
use Rattle.json_ordered.proofs.Enters.{text_ends, text_goes_on, is_zero, not_zero}
use Rattle.json_ordered.proofs.values.whole.Goals as goal

pub returns-then-is_empty : goal.returns-then-is_empty
returns-then-is_empty c = λ levels. text_ends levels (tree_of c.args.doc) c.args.text.now c.after_blanks-rest.result.now c.after_blanks-rest.ensures
    (nil_from_length c.after_blanks-rest.result.now (is_zero (length c.after_blanks-rest.result.now) (sym c.is_empty.ensures ∙ c.if-is_empty.true)))

pub returns-else-is_empty : goal.returns-else-is_empty
returns-else-is_empty c = λ levels. text_goes_on levels (tree_of c.args.doc) c.args.text.now c.after_blanks-rest.result.now c.after_blanks-rest.ensures
    (not_zero (length c.after_blanks-rest.result.now) (sym c.is_empty.ensures ∙ c.if-is_empty.false))
