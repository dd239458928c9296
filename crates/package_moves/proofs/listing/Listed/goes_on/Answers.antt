use Rattle.std.proofs.Common.{◌≡◌, true, ℕ, Bool, List, sym, ap, ◌∙◌}
use Rattle.std.specs.Bool.{Decides}
use Rattle.std.specs.Cmp.Lexicographic.{bytes_decides, pointwise_decides}
use Rattle.package_moves.specs.declared.listing.Listed.{Listed}
use Rattle.package_moves.specs.declared.listing.Listed.TheVariants as listings
use Rattle.package_moves.proofs.listing.Listed.goes_on.Goals as goal

goes : (same answer : Bool) (found : Listed) (listed names : List (List ℕ)) → same ≡ true → found ≡ listings.Names listed → Decides answer (listed ≡ names) → Decides answer ((same ≡ true) × (found ≡ listings.Names names))
goes same answer found listed names before is decides = (
  (λ e. (before, is ∙ ap (λ (ns : List (List ℕ)). listings.Names ns) (decides.0 e))),
  (λ both. decides.1 (let one : listings.Names listed ≡ listings.Names names = sym is ∙ both.1 in cc)),
)

pub returns-then-same : goal.returns-then-same
returns-then-same c = rw c.eq.ensures
    (goes c.args.same _ c.args.self.now c.in-Names.found c.args.names.now c.if-same.true c.in-Names.is (rw c.as_slice.ensures (pointwise_decides bytes_decides c.in-Names.found c.args.names.now)))
