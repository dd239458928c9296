use Rattle.std.proofs.Common.{◌≡◌, refl, sym, ap, ◌∙◌, arith, ◌++◌, ◌∷◌, []}
use Rattle.tree_dev.specs.declared.moves.Placed.{Placed}
use Rattle.tree_dev.specs.declared.stored.Stored.TheVariants as kept
use Rattle.tree_dev.proofs.ManyEntries.{are_folders-snoc}
use Rattle.tree_dev.proofs.FoldersAbove.{goes_up, missing_kept, missing_made}
use Rattle.tree_dev.proofs.placing.missing_folders.Goals as goal
use Rattle.tree_dev.proofs.placing.missing_folders.Goals.{then-not-contains+in_ok-copy+in_ok-push, else-not-contains}

pub loop-level-preserved : goal.loop-level-preserved
loop-level-preserved c =
    let goes = goes_up c.loop-level.folder c.leave.new.self c.leave.result c.leave.ensures.left (omega arith) in
    elim c.if-not-contains.branch [
      | then-not-contains+in_ok-copy+in_ok-push w ↦
          let made : Placed = record { at = c.leave.new.self; entry = kept.Folder } in
          let items : c.if-not-contains.folders.items ≡ c.loop-level.folders.items ++ made ∷ [] =
          ap (λ v. v.items) w.folders-is ∙ w.in_ok-push.ensures.items
          ∙ ap (λ p. let one : Placed = record { at = p; entry = kept.Folder } in c.loop-level.folders.items ++ one ∷ []) w.in_ok-copy.ensures in
          record {
            paths = rw items (missing_made c.args.files.now c.args.at.now c.loop-level.folder c.loop-level.folders.items made goes (sym c.contains.ensures ∙ w.if-not-contains.true) c.loop-level.invariant.paths);
            folders = rw items (are_folders-snoc c.loop-level.folders.items made c.loop-level.invariant.folders (refl, tt));
            len = omega (arith, goes.len);
          }
      | else-not-contains w ↦
          let items = ap (λ v. v.items) w.folders-is in
          record {
            paths = rw items (missing_kept c.args.files.now c.args.at.now c.loop-level.folder c.leave.new.self c.loop-level.folders.items goes (sym c.contains.ensures ∙ w.if-not-contains.false) c.loop-level.invariant.paths);
            folders = rw items c.loop-level.invariant.folders;
            len = omega (arith, goes.len);
          }
    ]
