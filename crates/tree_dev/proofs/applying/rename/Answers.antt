use Rattle.std.proofs.Common.{◌∙◌, sym}
use Rattle.tree_dev.proofs.RenamePlaces.{apart_back, place_of}
use Rattle.tree_dev.proofs.applying.rename.Goals as goal

pub rename_to_file-requires-clause-from : goal.rename_to_file-requires-clause-from
rename_to_file-requires-clause-from c = (place_of c.args.files.now c.args.from.now c.args.to.now c.requires.place).over_file (sym c.contains.ensures ∙ c.if-contains.true)

pub rename_to_file-requires-clause-to : goal.rename_to_file-requires-clause-to
rename_to_file-requires-clause-to c = (place_of c.args.files.now c.args.from.now c.args.to.now c.requires.place).to_leaf

pub rename_to_file-requires-clause-there : goal.rename_to_file-requires-clause-there
rename_to_file-requires-clause-there c = (place_of c.args.files.now c.args.from.now c.args.to.now c.requires.place).there

pub rename_to_file-requires-clause-from_below : goal.rename_to_file-requires-clause-from_below
rename_to_file-requires-clause-from_below c = (place_of c.args.files.now c.args.from.now c.args.to.now c.requires.place).from_below

pub rename_to_file-requires-clause-below : goal.rename_to_file-requires-clause-below
rename_to_file-requires-clause-below c = (place_of c.args.files.now c.args.from.now c.args.to.now c.requires.place).below

pub rename_to_file-requires-clause-apart : goal.rename_to_file-requires-clause-apart
rename_to_file-requires-clause-apart c = (place_of c.args.files.now c.args.from.now c.args.to.now c.requires.place).apart

pub rename_to_file-requires-clause-apart_back : goal.rename_to_file-requires-clause-apart_back
rename_to_file-requires-clause-apart_back c = apart_back c.args.files.now c.args.from.now c.args.to.now c.requires.tree (place_of c.args.files.now c.args.from.now c.args.to.now c.requires.place)

pub rename_to_free-requires-clause-below : goal.rename_to_free-requires-clause-below
rename_to_free-requires-clause-below c = (place_of c.args.files.now c.args.from.now c.args.to.now c.requires.place).below

pub rename_to_free-requires-clause-apart : goal.rename_to_free-requires-clause-apart
rename_to_free-requires-clause-apart c = (place_of c.args.files.now c.args.from.now c.args.to.now c.requires.place).apart

pub rename_to_free-requires-clause-apart_back : goal.rename_to_free-requires-clause-apart_back
rename_to_free-requires-clause-apart_back c = apart_back c.args.files.now c.args.from.now c.args.to.now c.requires.tree (place_of c.args.files.now c.args.from.now c.args.to.now c.requires.place)
