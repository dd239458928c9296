use Rattle.std.proofs.Common.{◌++◌, [], ℕ, List, ap, subst, ◌∙◌}
use Rattle.package_moves.specs.Beside.{IsFound}
use Rattle.package_moves.specs.Needed.{needs_in}
use Rattle.package_moves.specs.declared.listing.Listed.{Listed}
use Rattle.package_moves.proofs.KnownSteps.{known_none}
use Rattle.package_moves.proofs.LookedThrough.{nothing_counted, nothing_found, other_counted, other_found, vendor_found, vendor_names}
use Rattle.package_moves.proofs.unneeded.look_through.Goals as goal

pub returns-in-Names-clause-counted : goal.returns-in-Names-clause-counted
returns-in-Names-clause-counted g c = λ t told.
    let at_is = c.in_ok-at.ensures ∙ ap (λ (v : List (List ℕ)). c.args.project.now ++ v) c.requires.vendor in
    let listed = c.in_ok-names.ensures.listed t told in
    let found = subst (λ (f : Listed). IsFound t c.in_ok-at.at c.list_counted.new.counts.passed f) c.in-Names.is listed.is_found in
    vendor_names (needs_in c.args.needed.now) c.args.project.now t c.in_ok-at.at at_is _ c.as_slice.result.now c.args.counts.now c.list_counted.new.counts c.look_at_names.new.counts found c.as_slice.ensures listed.counted
    (rw c.requires.vendor at (c.in_ok-look_at_names-in-Names.ensures.counted t (c.in_ok-names.ensures.only_read.told ∙ told)))

pub returns-in-Names-clause-found : goal.returns-in-Names-clause-found
returns-in-Names-clause-found g c = λ t told none.
    let at_is = c.in_ok-at.ensures ∙ ap (λ (v : List (List ℕ)). c.args.project.now ++ v) c.requires.vendor in
    let listed = c.in_ok-names.ensures.listed t told in
    let found = subst (λ (f : Listed). IsFound t c.in_ok-at.at c.list_counted.new.counts.passed f) c.in-Names.is listed.is_found in
    vendor_found (needs_in c.args.needed.now) c.args.project.now t c.in_ok-at.at at_is _ c.as_slice.result.now c.nothing-found.result c.look_at_names.new.found found c.as_slice.ensures
    c.nothing-found.ensures.unneeded c.nothing-found.ensures.blocked (c.look_at_names.ensures.vendor ∙ c.nothing-found.ensures.no_folder)
    (rw c.requires.vendor at (c.in_ok-look_at_names-in-Names.ensures.adds t (c.in_ok-names.ensures.only_read.told ∙ told) none))

pub returns-in-Nothing-clause-counted : goal.returns-in-Nothing-clause-counted
returns-in-Nothing-clause-counted g c = λ t told.
    let at_is = c.in_ok-at.ensures ∙ ap (λ (v : List (List ℕ)). c.args.project.now ++ v) c.requires.vendor in
    let listed = c.in_ok-names.ensures.listed t told in
    let found = subst (λ (f : Listed). IsFound t c.in_ok-at.at c.list_counted.new.counts.passed f) c.in-Nothing.is listed.is_found in
    nothing_counted (needs_in c.args.needed.now) c.args.project.now t c.in_ok-at.at at_is c.args.counts.now c.list_counted.new.counts found listed.counted

pub returns-in-Nothing-clause-found : goal.returns-in-Nothing-clause-found
returns-in-Nothing-clause-found g c = λ t told none.
    let at_is = c.in_ok-at.ensures ∙ ap (λ (v : List (List ℕ)). c.args.project.now ++ v) c.requires.vendor in
    let listed = c.in_ok-names.ensures.listed t told in
    let found = subst (λ (f : Listed). IsFound t c.in_ok-at.at c.list_counted.new.counts.passed f) c.in-Nothing.is listed.is_found in
    nothing_found (needs_in c.args.needed.now) c.args.project.now t c.in_ok-at.at at_is c.nothing.result (found none) c.nothing.ensures.unneeded c.nothing.ensures.blocked c.nothing.ensures.no_folder

pub returns-clause-counted : goal.returns-clause-counted
returns-clause-counted g c = λ t told.
    let at_is = c.in_ok-at.ensures ∙ ap (λ (v : List (List ℕ)). c.args.project.now ++ v) c.requires.vendor in
    let listed = c.in_ok-names.ensures.listed t told in
    let found = subst (λ (f : Listed). IsFound t c.in_ok-at.at c.list_counted.new.counts.passed f) c.in-Other.is listed.is_found in
    other_counted (needs_in c.args.needed.now) c.args.project.now t c.in_ok-at.at at_is c.args.counts.now c.list_counted.new.counts found listed.counted

pub returns-clause-found : goal.returns-clause-found
returns-clause-found g c = λ t told none.
    let at_is = c.in_ok-at.ensures ∙ ap (λ (v : List (List ℕ)). c.args.project.now ++ v) c.requires.vendor in
    let listed = c.in_ok-names.ensures.listed t told in
    let found = subst (λ (f : Listed). IsFound t c.in_ok-at.at c.list_counted.new.counts.passed f) c.in-Other.is listed.is_found in
    other_found (needs_in c.args.needed.now) c.args.project.now t c.in_ok-at.at at_is c.nothing-in-Other.result found c.nothing-in-Other.ensures.unneeded c.nothing-in-Other.ensures.blocked c.nothing-in-Other.ensures.no_folder

pub returns-in-Names-clause-known : goal.returns-in-Names-clause-known
returns-in-Names-clause-known g c = (c.as_slice.result.now, c.in_ok-look_at_names-in-Names.ensures.known c.requires.vendor c.nothing-found.ensures.unneeded c.nothing-found.ensures.blocked)

pub returns-in-Nothing-clause-known : goal.returns-in-Nothing-clause-known
returns-in-Nothing-clause-known g c = ([], known_none (needs_in c.args.needed.now) c.nothing.result c.nothing.ensures.unneeded c.nothing.ensures.blocked)

pub returns-clause-known : goal.returns-clause-known
returns-clause-known g c = ([], known_none (needs_in c.args.needed.now) c.nothing-in-Other.result c.nothing-in-Other.ensures.unneeded c.nothing-in-Other.ensures.blocked)
