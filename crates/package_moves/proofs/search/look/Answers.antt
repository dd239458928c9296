use Rattle.std.proofs.Common.{ℕ, subst, ◌∙◌}
use Rattle.package_moves.specs.Beside.{AreCounted}
use Rattle.package_moves.specs.Counted.{targets_count}
use Rattle.package_moves.specs.Needed.{needs_in, needs_of, vendor_count}
use Rattle.package_moves.proofs.Counting.{counted_on}
use Rattle.package_moves.proofs.KnownSteps.{known_same}
use Rattle.package_moves.proofs.SameNeeds.{count_same, found_same}
use Rattle.package_moves.proofs.StandingSteps.{passed_before}
use Rattle.package_moves.proofs.search.look.Goals as goal

pub returns-clause-counted : goal.returns-clause-counted
returns-clause-counted g c = λ t told.
    let later = c.in_ok-standing.ensures.only_read.told ∙ told in
    counted_on (targets_count c.args.project.now t c.args.wanted.now) (vendor_count (needs_of c.args.wanted.now) c.args.project.now t) c.args.counts.now c.standing_parts.new.counts c.look_through.new.counts
    (c.in_ok-standing.ensures.counted t told)
    (subst (λ (n : ℕ). AreCounted n c.standing_parts.new.counts c.look_through.new.counts) (count_same (needs_in c.in_ok-needed.needed) (needs_of c.args.wanted.now) c.in_ok-needed.ensures c.args.project.now t)
    (c.in_ok-found.ensures.counted t later))

pub returns-clause-standing : goal.returns-clause-standing
returns-clause-standing g c = λ t told none.
    let later = c.in_ok-standing.ensures.only_read.told ∙ told in
    c.in_ok-standing.ensures.flags t told (passed_before c.standing_parts.new.counts c.look_through.new.counts (vendor_count (needs_in c.in_ok-needed.needed) c.args.project.now t) (c.in_ok-found.ensures.counted t later) none)

pub returns-clause-found : goal.returns-clause-found
returns-clause-found g c = λ t told none.
    let later = c.in_ok-standing.ensures.only_read.told ∙ told in
    found_same (needs_in c.in_ok-needed.needed) (needs_of c.args.wanted.now) c.in_ok-needed.ensures c.args.project.now t c.in_ok-found.found (c.in_ok-found.ensures.found t later none)

pub returns-clause-known : goal.returns-clause-known
returns-clause-known g c =
    let known = c.in_ok-found.ensures.known in
    (known.0, known_same (needs_in c.in_ok-needed.needed) (needs_of c.args.wanted.now) c.in_ok-needed.ensures known.0 c.in_ok-found.found known.1)
