-- The form that the reader's own value stands for.
use Rattle.constraint_set.specs.declared.words.Form.{Form}
use Rattle.constraint_set.specs.declared.words.Form.TheVariants as forms
use Rattle.constraint_set.specs.Words as words

abbrev pub form_seen : Form → words.Form
form_seen (forms.Range v w) = words.range v.now w.now
form_seen (forms.Compared operator word) = words.compared operator word.now
form_seen (forms.Alone word) = words.alone word.now
