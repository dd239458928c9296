use Rattle.std.proofs.Common.{refl}
use Rattle.std.proofs.lemmas.Result.{err_from_is_err_and}
use Rattle.tree_dev.proofs.Whole.{whole_then_read}
use Rattle.install_world.proofs.PartDone.{places_read, places_start, places_take}
use Rattle.install_world.proofs.RemovalRules.{cause_of, writes_none_change, writes_none_read, writes_none_start}
use Rattle.install_world.proofs.WayMoves.{read_through, take_through, told_there}
use Rattle.std.proofs.Common.{◌≡◌, true, sym, ◌∙◌, inl, inr, subst}
use Rattle.tree_dev.specs.Trees.{FileTree}
use Rattle.tree_dev.specs.Changes.{has_place}
use Rattle.tree_dev.specs.declared.change.Change.TheVariants as changes
use Rattle.install_world.specs.InFlight.{IsThere}
use Rattle.install_world.proofs.PartCleared.{places_under}
use Rattle.install_world.proofs.PartDone.{absent_is_none}
use Rattle.install_world.proofs.PlacesFree.{file_by_kind, if_ok_two, placed_is_done, put_after_take, put_has_place, put_over_file, take_has_place, told_changed, told_same}
use Rattle.install_world.proofs.WayMoves.{there_by_kind}
use Rattle.install_world.proofs.FinishSteps.{alike_read, alike_taken, reads_then}
use Rattle.std.proofs.Common.{ap}
use Rattle.tree_dev.specs.Trees.{entry_at, kind_at}
use Rattle.tree_dev.specs.Changes.{is_file}
use Rattle.install_world.specs.InFlight.{staged_path, target_path}
use Rattle.install_world.proofs.KeptParts.{replaced_is_kept}
use Rattle.install_world.proofs.WayMoves.{staged_under}
use Rattle.install_world.proofs.moving.make_way.Goals as goal

pub returns-in_err-kind-clause-writes_none : goal.returns-in_err-kind-clause-writes_none
returns-in_err-kind-clause-writes_none g c =
    let p = err_from_is_err_and c.from_residual.result c.from_residual.ensures.1 in
    rw p.1 (writes_none_read _ _ _ _ c.in_err-kind.ensures.only_read (writes_none_start _))

pub returns-in_err-kind-clause-moves : goal.returns-in_err-kind-clause-moves
returns-in_err-kind-clause-moves g c = places_read c.args.places.now _ _ _ _ c.stat.ensures.only_read (places_start c.args.places.now _)

pub returns-in_err-kind-clause-through : goal.returns-in_err-kind-clause-through
returns-in_err-kind-clause-through g c = λ t told whole way number target are part there each.
    read_through way number target c.args.places.now are part _ _ _ c.stat.ensures.only_read each

pub returns-then-free-clause-writes_none : goal.returns-then-free-clause-writes_none
returns-then-free-clause-writes_none g c = writes_none_read _ _ _ _ c.in_ok-kind.ensures.only_read (writes_none_start _)

pub returns-then-free-clause-moves : goal.returns-then-free-clause-moves
returns-then-free-clause-moves g c = places_read c.args.places.now _ _ _ _ c.stat.ensures.only_read (places_start c.args.places.now _)

pub returns-then-free-clause-through : goal.returns-then-free-clause-through
returns-then-free-clause-through g c = λ t told whole way number target are part there each.
    read_through way number target c.args.places.now are part _ _ _ c.stat.ensures.only_read each

pub returns-then-free-clause-fits : goal.returns-then-free-clause-fits
returns-then-free-clause-fits g c = λ t told project number target are folders goes there leaf room. (
  refl,
  λ u now. subst (λ (w : FileTree). has_place w (changes.Renamed c.args.places.now.staged c.args.places.now.target) ≡ true)
      (told_same _ _ t u c.stat.ensures.only_read.told told now)
      (elim (c.is_free_for-free.ensures.free c.if-free.true) [
        | inl absent ↦ put_has_place project number target c.args.places.now are t (folders.parent goes (subst (IsThere t) are.staged_is there)) there
            (absent_is_none t c.args.places.now.target c.in_ok-kind.kind (c.in_ok-kind.ensures.kind t told) absent)
        | inr files ↦ put_over_file project number target c.args.places.now are t (folders.parent goes (subst (IsThere t) are.staged_is there)) there (sym leaf ∙ files.1)
            (file_by_kind t c.args.places.now.target c.in_ok-kind.kind (c.in_ok-kind.ensures.kind t told) files.0)
      ]),
)

pub returns-clause-writes_none : goal.returns-clause-writes_none
returns-clause-writes_none g c =
    writes_none_change _ _ _ _ _ c.rename.ensures.moments refl c.rename.ensures.counts (cause_of c.rename.result c.rename.ensures.cause)
    (writes_none_read _ _ _ _ c.in_ok-kind.ensures.only_read (writes_none_start _))

pub returns-clause-moves : goal.returns-clause-moves
returns-clause-moves g c =
    places_take c.args.places.now _ _ _ c.rename.ensures.moments (places_read c.args.places.now _ _ _ _ c.stat.ensures.only_read (places_start c.args.places.now _))

pub returns-clause-through : goal.returns-clause-through
returns-clause-through g c = λ t told whole way number target are part there each.
    take_through way number target c.args.places.now are part _ _ _
    (told_there _ _ _ t c.args.places.now.staged c.stat.ensures.only_read (g.met.T.Tree.tells_its_disk c.args.tree.now t told) there)
    (whole_then_read _ _ _ c.stat.ensures.only_read whole) c.rename.ensures.moments
    (read_through way number target c.args.places.now are part _ _ _ c.stat.ensures.only_read each)

pub returns-clause-fits : goal.returns-clause-fits
returns-clause-fits g c = if_ok_two c.rename.result _ _ _
    (λ answer is adds t told project number target are folders goes there leaf room.
    let at_target = there_by_kind t c.args.places.now.target c.in_ok-kind.kind (places_under project number target c.args.places.now are)
    (c.in_ok-kind.ensures.kind t told) (c.is_free_for-free.ensures.taken c.if-free.false) in
    let none = room.free at_target (inr there) in
    let then = c.stat.ensures.only_read.told ∙ told in
    let done = placed_is_done t (changes.Renamed c.args.places.now.target c.args.places.now.kept) answer (is t then)
    (take_has_place project number target c.args.places.now are t
    (folders.old_folder (replaced_is_kept target.gone t (target_path project target) (staged_path project number) goes c.in_ok-kind.kind c.args.staged_is_file
    (c.in_ok-kind.ensures.kind t told ∙ ap (kind_at t) are.target_is) (c.is_free_for-free.ensures.taken c.if-free.false) (c.is_free_for-free.ensures.other c.if-free.false)
    (staged_under project number) (subst (IsThere t) are.staged_is there) (leaf ∙ ap (λ at. is_file (entry_at t at)) are.staged_is)))
    at_target none) in (
      done,
      λ u now. subst (λ (w : FileTree). has_place w (changes.Renamed c.args.places.now.staged c.args.places.now.target) ≡ true)
          (told_changed _ _ t u (changes.Renamed c.args.places.now.target c.args.places.now.kept) (adds done t then).told then now)
          (put_after_take project number target c.args.places.now are t (folders.parent goes (subst (IsThere t) are.staged_is there)) there),
    ))
    c.rename.ensures.answer c.rename.ensures.done

pub returns-in_err-kind-clause-alike : goal.returns-in_err-kind-clause-alike
returns-in_err-kind-clause-alike g c = λ t told project journal number target are part there stands.
    alike_read project journal _ _ t _ (g.met.T.Tree.tells_its_disk c.args.tree.now t told) c.stat.ensures.only_read

pub returns-then-free-clause-alike : goal.returns-then-free-clause-alike
returns-then-free-clause-alike g c = λ t told project journal number target are part there stands.
    alike_read project journal _ _ t _ (g.met.T.Tree.tells_its_disk c.args.tree.now t told) c.stat.ensures.only_read

pub returns-clause-alike : goal.returns-clause-alike
returns-clause-alike g c = λ t told project journal number target are part there stands.
    alike_taken project journal number target c.args.places.now are part t stands _ _ c.rename.ensures.moments
    (reads_then _ _ t _ (g.met.T.Tree.tells_its_disk c.args.tree.now t told) c.stat.ensures.only_read) (inr there)
