use Rattle.std.proofs.Common.{ℕ, [], List, ◌++◌, ◌∷◌, map, sym, ap, subst, ◌∙◌}
use Rattle.json_ordered.specs.JsonTree.{put_all}
use Rattle.json_ordered.specs.JsonReading.{Frame}
use Rattle.json_ordered.specs.JsonFrames.{frame_of, inside, Turn}
use Rattle.json_ordered.specs.Docs.{tree_of, pair_of}
use Rattle.json_ordered.proofs.Joined.{put_pushed}
use Rattle.json_ordered.proofs.values.leave.Goals as goal

pub returns-in_ok-push-in-Object-clause-steps : goal.returns-in_ok-push-in-Object-clause-steps
returns-in_ok-push-in-Object-clause-steps c = subst (λ (f : Frame). Turn (inside c.args.stack.now.items f (tree_of c.args.doc)) c.args.text.now c.leave_object.new.stack.items c.leave_object.result)
    (sym (ap frame_of c.in-Object.is))
    (c.leave_object.ensures.steps (put_all [] (map pair_of c.in-Object.members.items)) c.in-Object.name.items (tree_of c.args.doc)
    (put_pushed c.in-Object.members.items c.push-in-Object.new.self.items c.in-Object.name.items c.args.doc (c.in_ok-push-in-Object.ensures.items ∙ ap (λ (n : List ℕ). c.in-Object.members.items ++ (n, c.args.doc) ∷ []) c.of.ensures)))
