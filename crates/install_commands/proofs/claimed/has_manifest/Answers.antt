use Rattle.std.proofs.Common.{sym, ap, ◌∙◌}
use Rattle.tree_dev.specs.Kinds.{names_entry}
use Rattle.install_commands.proofs.Claims.{manifest_seen}
use Rattle.install_commands.proofs.claimed.has_manifest.Goals as goal

pub returns-in-Absent-clause-told : goal.returns-in-Absent-clause-told
returns-in-Absent-clause-told g c = λ t told.
    ap names_entry (sym c.in-Absent.is) ∙ manifest_seen t c.args.project.now c.in_ok-manifest.field-0 c.in_ok-stat.field-0 c.in_ok-manifest.ensures (c.in_ok-stat.ensures.kind t told)

pub returns-in-File-clause-told : goal.returns-in-File-clause-told
returns-in-File-clause-told g c = λ t told.
    ap names_entry (sym c.in-File.is) ∙ manifest_seen t c.args.project.now c.in_ok-manifest.field-0 c.in_ok-stat.field-0 c.in_ok-manifest.ensures (c.in_ok-stat.ensures.kind t told)

pub returns-in-Folder-clause-told : goal.returns-in-Folder-clause-told
returns-in-Folder-clause-told g c = λ t told.
    ap names_entry (sym c.in-Folder.is) ∙ manifest_seen t c.args.project.now c.in_ok-manifest.field-0 c.in_ok-stat.field-0 c.in_ok-manifest.ensures (c.in_ok-stat.ensures.kind t told)

pub returns-clause-told : goal.returns-clause-told
returns-clause-told g c = λ t told.
    ap names_entry (sym c.in-Other.is) ∙ manifest_seen t c.args.project.now c.in_ok-manifest.field-0 c.in_ok-stat.field-0 c.in_ok-manifest.ensures (c.in_ok-stat.ensures.kind t told)
