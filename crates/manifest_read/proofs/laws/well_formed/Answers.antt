use Rattle.manifest_read.proofs.Formed.{manifests_are_formed, members_are_formed, entries_are_formed}
use Rattle.manifest_read.proofs.WrittenManifests.{manifests_are_written, entries_are_written}
use Rattle.manifest_read.proofs.laws.well_formed.Goals as goal

pub returns-clause-manifests : goal.returns-clause-manifests
returns-clause-manifests c = manifests_are_formed

pub returns-clause-members : goal.returns-clause-members
returns-clause-members c = members_are_formed

pub returns-clause-entries : goal.returns-clause-entries
returns-clause-entries c = entries_are_formed

pub returns-clause-writable_manifests : goal.returns-clause-writable_manifests
returns-clause-writable_manifests c = manifests_are_written

pub returns-clause-writable_entries : goal.returns-clause-writable_entries
returns-clause-writable_entries c = entries_are_written
