use Rattle.std.proofs.Common.{◌≡◌, ℕ, ◌≤◌, ltb, false, sym, ◌∙◌, length, arith}
use Rattle.std.proofs.lemmas.Bool.Decides.{nat_tests}
use Rattle.std.proofs.lemmas.List.{length-map}
use Rattle.psr_routes.specs.Numbers.{lent}
use Rattle.psr_routes.proofs.NameNumbers.{none_borne, borne_in}
use Rattle.psr_routes.proofs.needs.is_borne.Goals as goal

pub returns-then-number-names : goal.returns-then-number-names
returns-then-number-names c = borne_in c.args.names.now c.args.name.now c.args.number _ c.eq.result c.requires.sorted c.requires.point c.if-number-names.true c.eq.ensures

not_below : (a b : ℕ) → b ≤ a → ltb a b ≡ false
not_below a b h = grind (arith, nat_tests)

pub returns-else-number-names : goal.returns-else-number-names
returns-else-number-names c =
    let few : length (lent c.args.names.now) ≤ c.args.number = omega (arith, c.if-number-names.false, length-map c.args.names.now (λ name. name.now)) in
    not_below c.args.number (length c.args.names.now) c.if-number-names.false ∙ sym (none_borne (lent c.args.names.now) c.args.name.now c.args.number c.requires.point few)
