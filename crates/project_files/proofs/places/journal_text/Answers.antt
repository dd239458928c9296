use Rattle.std.proofs.Common.{refl}
use Rattle.std.specs.Str.{is_utf8, chars}
use Rattle.path_name.specs.Paths.{path_of}
use Rattle.project_files.proofs.places.journal_text.Goals as goal

pub returns : goal.returns
unfolding path_of is_utf8 chars lib.Utf8.encode
returns c = refl
