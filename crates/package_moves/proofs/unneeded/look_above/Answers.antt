use Rattle.std.proofs.Common.{refl, sym, subst}
use Rattle.tree_dev.specs.Trees.{IsListing}
use Rattle.package_moves.specs.Found.{IsListingOf}
use Rattle.package_moves.specs.Needed.{needs_in}
use Rattle.package_moves.specs.declared.listing.Listed.{Listed}
use Rattle.package_moves.proofs.KnownSteps.{adds_none, adds_others, adds_way}
use Rattle.package_moves.proofs.unneeded.look_above.Goals as goal

pub returns-in_ok-add_others-in-Names-clause-known : goal.returns-in_ok-add_others-in-Names-clause-known
returns-in_ok-add_others-in-Names-clause-known g c = λ name is.
    let listing = subst (λ (f : Listed). IsListingOf f) c.in-Names.is c.in_ok-names.ensures.listing in
    adds_others (needs_in c.args.needed.now) name c.args.path is c.as_slice.result.now c.args.found.now _ (subst IsListing (sym c.as_slice.ensures) listing) c.requires.above c.in_ok-add_others-in-Names.ensures refl

pub returns-in-Nothing-clause-known : goal.returns-in-Nothing-clause-known
returns-in-Nothing-clause-known g c = λ name is. adds_none (needs_in c.args.needed.now) name c.args.path is c.args.found.now

pub returns-in_ok-insert-in-Other-clause-known : goal.returns-in_ok-insert-in-Other-clause-known
returns-in_ok-insert-in-Other-clause-known g c = λ name is. adds_way (needs_in c.args.needed.now) name c.args.path is c.args.found.now _ refl c.in_ok-insert-in-Other.ensures.updates.0
