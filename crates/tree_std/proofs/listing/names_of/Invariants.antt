use Rattle.tree_std.proofs.listing.names_of.Given as goal

abbrev pub invariant-loop : goal.invariant-loop
invariant-loop g l = Unit {0}
