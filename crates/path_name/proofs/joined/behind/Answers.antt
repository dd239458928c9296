use Rattle.std.proofs.Common.{◌≡◌, ◌<◌, length, take, refl, sym, ◌∙◌, rules}
use Rattle.std.specs.Cmp.Lexicographic.{bytes_decides}
use Rattle.std.proofs.lemmas.Bool.{false≢true}
use Rattle.std.proofs.lemmas.List.{nil_from_length}
use Rattle.path_name.proofs.Joining.{begins_only, behind_found}
use Rattle.path_name.proofs.joined.behind.Goals as goal

pub returns-then-is_empty : goal.returns-then-is_empty
returns-then-is_empty c =
    let none = nil_from_length c.args.head.now (search rules) in
    rw none refl

pub returns-in-None : goal.returns-in-None
returns-in-None c =
    let some : 0 < length c.args.head.now = search rules in
    λ begins. false≢true (sym c.in-None.ensures.cases ∙ (bytes_decides _ _).1 (begins_only c.args.joined.now c.args.head.now some begins).0)

pub returns-in-Some : goal.returns-in-Some
returns-in-Some c =
    let some : 0 < length c.args.head.now = search rules in
    let same : take (length c.args.head.now) c.args.joined.now ≡ c.args.head.now = (bytes_decides _ _).0 c.in-Some.ensures.cases.0 in
    behind_found c.args.joined.now c.args.head.now c.in-Some.rest.now c.set_off_rest.result some c.requires same c.in-Some.ensures.cases.1 c.set_off_rest.ensures
