-- Tests of kinds of entries.
use Rattle.std.specs.Prelude.{Bool, true, false}
use Rattle.tree_dev.specs.declared.entry.Kind.{Kind}
use Rattle.tree_dev.specs.declared.entry.Kind.TheVariants as kinds

abbrev pub names_folder : Kind → Bool
names_folder kinds.Absent = false
names_folder kinds.File = false
names_folder kinds.Folder = true
names_folder kinds.Other = false

abbrev pub names_file : Kind → Bool
names_file kinds.Absent = false
names_file kinds.File = true
names_file kinds.Folder = false
names_file kinds.Other = false

abbrev pub names_entry : Kind → Bool
names_entry kinds.Absent = false
names_entry kinds.File = true
names_entry kinds.Folder = true
names_entry kinds.Other = true
