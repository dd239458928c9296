use Rattle.std.proofs.Common.{ap, subst, arith, length, ◌≤◌, ◌++◌, ◌∷◌, [], length-append}
use Rattle.tree_dev.specs.Listing.{IsLastName, IsNextName}
use Rattle.tree_dev.proofs.NamesIn.{listing_starts, round, round_ends, child_is_segment, name_or_nothing}
use Rattle.tree_dev.proofs.listing.names.Goals as goal

pub loop-last-init : goal.loop-last-init
loop-last-init c = rw (c.new-names.ensures.items, c.empty-last.ensures) (record { items = listing_starts c.args.files.now c.args.folder.now c.requires; last = tt; few = omega arith })

pub returns-then-len-most : goal.returns-then-len-most
returns-then-len-most c =
    let next = subst (λ last. IsNextName c.args.files.now c.args.folder.now last c.in-Some.name) c.as_slice.ensures (rw c.in-Some.is at c.in_ok-name.ensures) in
    let has = round c.args.files.now c.args.folder.now c.loop-last.names.items c.loop-last.last c.in-Some.name c.loop-last.invariant.items next in
    let n = c.loop-last.names.ok.0 in
    omega (arith, has.len, n)

pub loop-last-smaller : goal.loop-last-smaller
loop-last-smaller c =
    let next = subst (λ last. IsNextName c.args.files.now c.args.folder.now last c.in-Some.name) c.as_slice.ensures (rw c.in-Some.is at c.in_ok-name.ensures) in
    let has = round c.args.files.now c.args.folder.now c.loop-last.names.items c.loop-last.last c.in-Some.name c.loop-last.invariant.items next in
    rw c.in_ok-last.ensures (omega (arith, has.left))

pub loop-last-preserved : goal.loop-last-preserved
loop-last-preserved c =
    let next = subst (λ last. IsNextName c.args.files.now c.args.folder.now last c.in-Some.name) c.as_slice.ensures (rw c.in-Some.is at c.in_ok-name.ensures) in
    let has = round c.args.files.now c.args.folder.now c.loop-last.names.items c.loop-last.last c.in-Some.name c.loop-last.invariant.items next in
    let n = c.loop-last.names.ok.0 in
    let few : length (c.loop-last.names.items ++ c.in-Some.name ∷ []) ≤ c.args.most = simp length-append (omega (arith, n)) in
    rw (c.in_ok-push.ensures.items, c.in_ok-last.ensures)
    (record { few = few; items = has.items; last = name_or_nothing c.in-Some.name (child_is_segment c.args.files.now c.args.folder.now c.in-Some.name c.requires next.has) })

pub returns : goal.returns
returns c =
    let none = subst (λ last. IsLastName c.args.files.now c.args.folder.now last) c.as_slice.ensures (rw c.in_default.is at c.in_ok-name.ensures) in
    let items = round_ends c.args.files.now c.args.folder.now c.loop-last.names.items c.loop-last.last c.loop-last.invariant.items none in
    (items, let n = ap length items in omega (arith, n, c.loop-last.invariant.few))
