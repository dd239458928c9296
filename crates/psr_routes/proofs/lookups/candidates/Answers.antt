use Rattle.std.proofs.Common.{◌++◌, length, map, sym, ap, ◌∙◌}
use Rattle.std.proofs.lemmas.List.{map-append}
use Rattle.class_paths.specs.declared.types.RouteKind.TheVariants.{Psr4, Psr0}
use Rattle.class_paths.specs.RowPath.{row_path_of}
use Rattle.class_paths.specs.Candidates.{of_kind, rows_upto, candidates_of}
use Rattle.psr_routes.proofs.lookups.candidates.Goals as goal

pub returns : goal.returns
unfolding candidates_of
returns c =
    let name = c.args.name.now in
    let first = rows_upto (of_kind Psr4 c.args.rows.now) name (length name) in
    let second = rows_upto (of_kind Psr0 c.args.rows.now) name (length name) in
    let begun = c.in_ok-put_kind.ensures ∙ ap (λ empty. empty ++ map (λ row. row_path_of row name) first) c.new-paths.ensures.items in
    record { exact = c.in_ok-put_kind-2.ensures ∙ ap (λ front. front ++ map (λ row. row_path_of row name) second) begun ∙ sym (map-append (λ row. row_path_of row name) first second) }
