use Rattle.std.proofs.Common.{refl}
use Rattle.std.specs.Str.{is_utf8, chars}
use Rattle.path_name.specs.Paths.{path_of}
use Rattle.table_scan.specs.TableGrammar.{vendor_name}
use Rattle.table_scan.specs.TableNames.{table_name}
use Rattle.project_files.specs.Places.{composer_name}
use Rattle.project_files.proofs.places.table_text.Goals as goal

pub returns-in-Psr4 : goal.returns-in-Psr4
unfolding path_of is_utf8 chars lib.Utf8.encode vendor_name composer_name table_name
returns-in-Psr4 c = rw c.in-Psr4.is refl

pub returns-in-Psr0 : goal.returns-in-Psr0
unfolding path_of is_utf8 chars lib.Utf8.encode vendor_name composer_name table_name
returns-in-Psr0 c = rw c.in-Psr0.is refl

pub returns-in-ClassMap : goal.returns-in-ClassMap
unfolding path_of is_utf8 chars lib.Utf8.encode vendor_name composer_name table_name
returns-in-ClassMap c = rw c.in-ClassMap.is refl

pub returns-in-Files : goal.returns-in-Files
unfolding path_of is_utf8 chars lib.Utf8.encode vendor_name composer_name table_name
returns-in-Files c = rw c.in-Files.is refl

pub returns-in-State : goal.returns-in-State
unfolding path_of is_utf8 chars lib.Utf8.encode vendor_name composer_name table_name
returns-in-State c = rw c.in-State.is refl
