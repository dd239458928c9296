use Rattle.std.proofs.Common.{◌∙◌, ◌∷◌, ◌++◌, [], ap, codes, sym, subst, arith}
use Rattle.std.specs.Prelude.{IsTrue}
use Rattle.path_name.specs.Paths.{is_segment}
use Rattle.install_world.proofs.PartFinish.{work_child}
use Rattle.install_world.proofs.Segments.{install_segment, new_segment, number_segment, old_segment}
use Rattle.install_world.proofs.parts.places_of.Goals as goal

pub child-requires : goal.child-requires
child-requires c = install_segment

pub child-requires-2 : goal.child-requires-2
child-requires-2 c = new_segment

pub child-requires-3 : goal.child-requires-3
child-requires-3 c = old_segment

pub child-requires-4 : goal.child-requires-4
child-requires-4 c =
    let fits = c.ranges.number.fits in
    subst (λ name. IsTrue (is_segment name)) (sym (c.as_slice-name.ensures.value ∙ c.in_ok-digits.ensures)) (number_segment c.args.number (omega arith))

pub returns : goal.returns
returns c = λ is.
    let name = c.as_slice-name.ensures.value ∙ c.in_ok-digits.ensures in
    record {
      is_target = is;
      target_is = c.in_ok-at.ensures;
      staged_is = work_child c.args.project.now c.in_ok-work.work c.in_ok-new.new c.in_ok-staged.staged _ _ _ c.in_ok-work.ensures c.in_ok-new.ensures c.in_ok-staged.ensures
          ∙ ap (λ digits. c.args.project.now ++ (codes ".install" ∷ codes "new" ∷ digits ∷ [])) name;
      kept_is = work_child c.args.project.now c.in_ok-work.work c.in_ok-old.old c.in_ok-kept.kept _ _ _ c.in_ok-work.ensures c.in_ok-old.ensures c.in_ok-kept.ensures
          ∙ ap (λ digits. c.args.project.now ++ (codes ".install" ∷ codes "old" ∷ digits ∷ [])) name;
    }
