use Rattle.std.proofs.Common.{◌≡◌, ◌<◌, [], length, refl, sym, ap, ◌∙◌, rules}
use Rattle.std.proofs.lemmas.List.{nil_from_length}
use Rattle.path_name.specs.Paths.{IsPath, path_text, path_of}
use Rattle.path_name.proofs.Joining.{path_text-segments_of}
use Rattle.path_name.proofs.PathTexts.{path_of-path_text}
use Rattle.path_name.proofs.path.Path.text.Goals as goal

pub returns-then-is_empty-clause-read_again : goal.returns-then-is_empty-clause-read_again
returns-then-is_empty-clause-read_again c =
    let none = nil_from_length c.self.inside.joined.items (search rules) in
    rw (← c.self.view_is, none) (path_of-path_text [] refl)

pub returns-else-is_empty-clause-value : goal.returns-else-is_empty-clause-value
returns-else-is_empty-clause-value c =
    let some : 0 < length c.self.inside.joined.items = search rules in
    rw (c.as_slice.ensures.value, ← c.self.view_is) (sym (path_text-segments_of c.self.inside.joined.items some))

pub returns-else-is_empty-clause-read_again : goal.returns-else-is_empty-clause-read_again
returns-else-is_empty-clause-read_again c =
    let some : 0 < length c.self.inside.joined.items = search rules in
    let value : c.as_slice.result.now ≡ path_text c.args.self.now = rw (c.as_slice.ensures.value, ← c.self.view_is) (sym (path_text-segments_of c.self.inside.joined.items some)) in
    let path : IsPath c.args.self.now = rw c.self.view_is at c.self.invariant in
    ap path_of value ∙ path_of-path_text c.args.self.now path
