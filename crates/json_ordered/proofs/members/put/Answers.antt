use Rattle.std.proofs.Common.{refl, ap, ◌∙◌, map}
use Rattle.json_ordered.specs.JsonFrames.{entry_of}
use Rattle.json_ordered.proofs.Frames.{put_entries}
use Rattle.json_ordered.proofs.members.put.Goals as goal

pub returns-clause-ok : goal.returns-clause-ok
returns-clause-ok c = ap (map entry_of) c.in_ok-_old.ensures.entries ∙ put_entries _ (λ x y. refl) c.args.members.now.entries c.args.name c.args.doc
