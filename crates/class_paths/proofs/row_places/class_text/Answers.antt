use Rattle.std.proofs.Common.{◌≡◌, ◌-◌, Ok, take, drop, length, ap, ◌∙◌}
use Rattle.std.proofs.lemmas.List.{take_rest}
use Rattle.std.proofs.lemmas.Result.{IfOk-weaker}
use Rattle.path_name.specs.Paths.{path_of}
use Rattle.class_paths.specs.RowPath.{path_behind, path_of_class}
use Rattle.class_paths.specs.PathTexts.{psr4_text, psr0_text}
use Rattle.class_paths.proofs.ClassParts.{psr4_behind, psr0_reads}
use Rattle.class_paths.proofs.row_places.class_text.Goals as goal

pub returns-in-Psr4 : goal.returns-in-Psr4
returns-in-Psr4 c =
    let prefix = c.args.prefix.now in
    let name = c.args.name.now in
    let kind = c.in-Psr4.is in
    rw kind (IfOk-weaker c.psr4_text.result (λ text. text.items ≡ psr4_text (take (length name - length prefix) (drop (length prefix) name))) (λ text. path_of text.items ≡ Ok (path_behind (drop (length prefix) name)))
    (λ text e. ap path_of (rw (take_rest name (length prefix)) at e) ∙ psr4_behind prefix name (rw kind at c.requires.prefix) c.requires.begins c.requires.class) c.psr4_text.ensures)

pub returns-in-Psr0 : goal.returns-in-Psr0
returns-in-Psr0 c =
    let name = c.args.name.now in
    let kind = c.in-Psr0.is in
    rw kind (IfOk-weaker c.psr0_text.result (λ text. text.items ≡ psr0_text name) (λ text. path_of text.items ≡ Ok (path_of_class name)) (λ text e. ap path_of e ∙ psr0_reads name c.requires.class) c.psr0_text.ensures)
