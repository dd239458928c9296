use Rattle.std.proofs.Common.{◌≡◌, false, Some, None, sym, ap, ◌∙◌}
use Rattle.std.specs.Option.{option_map}
use Rattle.tree_dev.specs.Trees.{FileTree}
use Rattle.class_lookup.specs.Lookup.{has_file, is_authoritative, mapped_row, lookup_in}
use Rattle.class_lookup.proofs.Lookups.{mapped, not_mapped, looked_for}
use Rattle.class_lookup.proofs.search.find.Goals as goal
use Rattle.class_lookup.proofs.search.find.Goals.{After-is_authoritative, In_ok-path}

no_row : (g : _) (c : After-is_authoritative g) → mapped_row c.args.tables.now.class_map c.args.name.now ≡ None
no_row g c = rw (c.as_slice.ensures, c.as_slice-2.ensures) at (sym c.mapped_row.ensures ∙ ap (option_map (λ row. row.now)) c.in_default.is)

-- what the candidates have
found : (g : _) (c : In_ok-path g) → mapped_row c.args.tables.now.class_map c.args.name.now ≡ None → is_authoritative c.args.tables.now.state ≡ false
    → (t : FileTree) → (g.T.Tree.meaning c.args.tree.now).told ≡ Some t → option_map (λ path. path.now) c.in_ok-path.field-0 ≡ lookup_in c.args.tables.now (has_file t) c.args.name.now
found g c none alone t told =
    rw (c.as_slice-3.ensures.value, c.in_ok-paths.ensures.exact) at (c.in_ok-path.ensures.exact t told) ∙ sym (looked_for c.args.tables.now (has_file t) c.args.name.now none alone)

pub returns-in-Some-clause-exact : goal.returns-in-Some-clause-exact
returns-in-Some-clause-exact g c = λ t told.
    let row : mapped_row c.args.tables.now.class_map c.args.name.now ≡ Some c.in-Some.row.now =
    rw (c.as_slice.ensures, c.as_slice-2.ensures) at (sym c.mapped_row.ensures ∙ ap (option_map (λ row. row.now)) c.in-Some.is) in
    ap Some c.in_ok-copy.ensures ∙ sym (mapped c.args.tables.now (has_file t) c.args.name.now c.in-Some.row.now row)

pub returns-then-is_authoritative-clause-exact : goal.returns-then-is_authoritative-clause-exact
returns-then-is_authoritative-clause-exact g c = λ t told.
    sym (not_mapped c.args.tables.now (has_file t) c.args.name.now (no_row g (goal.at.returns-then-is_authoritative-clause-exact g c).After-is_authoritative) (sym c.is_authoritative.ensures ∙ c.if-is_authoritative.true))

pub returns-in-Some-2-clause-exact : goal.returns-in-Some-2-clause-exact
returns-in-Some-2-clause-exact g c = λ t told.
    ap Some c.in_ok-copy-in-Some-2.ensures ∙ ap (option_map (λ path. path.now)) (sym c.in-Some-2.is)
    ∙ found g (goal.at.returns-in-Some-2-clause-exact g c).In_ok-path (no_row g (goal.at.returns-in-Some-2-clause-exact g c).After-is_authoritative) (sym c.is_authoritative.ensures ∙ c.if-is_authoritative.false) t told

pub returns-clause-exact : goal.returns-clause-exact
returns-clause-exact g c = λ t told.
    ap (option_map (λ path. path.now)) (sym c.in-None.is)
    ∙ found g (goal.at.returns-clause-exact g c).In_ok-path (no_row g (goal.at.returns-clause-exact g c).After-is_authoritative) (sym c.is_authoritative.ensures ∙ c.if-is_authoritative.false) t told
