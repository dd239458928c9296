-- How many files an installation writes.
use Rattle.std.proofs.Common.{◌≡◌, ℕ, ◌+◌, ◌≤◌, Bool, true, List, [], ◌∷◌, ◌++◌, length, Option, Some, None, Ok, refl, ap, ◌∙◌, arith}
use Rattle.tree_dev.specs.Device.{next}
use Rattle.tree_dev.specs.Trees.{FileTree}
use Rattle.stage_job.specs.Written.{after_more, job_files}
use Rattle.stage_job.specs.declared.job.Part.{Part}
use Rattle.package_moves.specs.Differing.{are_bytes}
use Rattle.package_moves.specs.Found.{AreStanding}
use Rattle.package_moves.specs.Moves.{HasFolders}
use Rattle.psr_routes.specs.declared.types.Placed.{Placed}
use Rattle.install_writes.specs.FewWrites.{are_copies, differing_mirrored}
use Rattle.install_writes.proofs.Counts.{few_writes}
use Rattle.table_scan.specs.declared.types.TableTexts.{TableTexts}
use Rattle.table_print.specs.TablePrinting.{printed}
use Rattle.install_choice.specs.declared.chosen.Chosen.{Chosen}
use Rattle.install_commands.specs.Working.{files_written, writes_of}
use Rattle.install_commands.specs.declared.work.Work.{Work}
use Rattle.table_files.specs.Written.{parts_of, target_of, text_part, written_files}
use Rattle.table_files.specs.declared.building.Setting.{Setting}
use Rattle.table_files.specs.declared.written.WrittenFile.{WrittenFile}
use Rattle.install_packages.specs.InstallParts.{copy_parts, install_files}
use Rattle.install_packages.specs.Installations.{Installation, tables_in}

copies : (members : List Placed) → are_copies (copy_parts members) ≡ true
copies [] = refl
copies (one ∷ members) = copies members

bytes_part : (target : List (List ℕ)) (text : Option (List ℕ)) (rest : List Part) → are_bytes rest ≡ true → are_bytes (text_part target text ++ rest) ≡ true
bytes_part target None rest e = e
bytes_part target (Some text) rest e = e

bytes : (files : List WrittenFile) → are_bytes (parts_of files) ≡ true
bytes [] = refl
bytes (file ∷ files) = bytes_part (target_of file) file.text (parts_of files) (bytes files)

-- a file is one part at most
one_part : (target : List (List ℕ)) (text : Option (List ℕ)) (rest : List Part) → length (text_part target text ++ rest) ≤ length rest + 1
one_part target None rest = omega arith
one_part target (Some text) rest = omega arith

few_parts : (files : List WrittenFile) → length (parts_of files) ≤ length files
few_parts [] = omega arith
few_parts (file ∷ files) =
    let more = few_parts files in
    let one = one_part (target_of file) file.text (parts_of files) in
    omega (arith, more, one)

eight : (texts : TableTexts) (installed : List ℕ) (lock : Option (List ℕ)) → length (install_files texts installed lock) ≡ 8
unfolding written_files
eight texts installed lock = refl

-- a job without parts writes nothing, and another its files and the journal
no_more : (t : FileTree) (parts : List Part) → files_written t parts ≤ job_files t parts + 1
no_more t [] = omega arith
no_more t (part ∷ parts) = omega arith

pub few_written : (t : FileTree) (at : List (List ℕ)) (chosen : Chosen) (setting : Setting) (left after : ℕ) (work : Work) (made : Installation t at chosen setting left after work) (flags : List Bool)
    (begun committed : ℕ) → HasFolders at t (copy_parts made.members ++ parts_of made.files) → AreStanding at t (copy_parts made.members) flags
    → committed ≤ after_more begun (writes_of t (Ok work)) → committed ≤ after_more begun (differing_mirrored t (copy_parts made.members) flags + 9)
few_written t at chosen setting left after work made flags begun committed folders standing counted =
    let packages = copy_parts made.members in
    let written = parts_of made.files in
    let staged = after_more begun (job_files t work.job.parts) in
    let most = few_writes at t packages written work.job.parts flags begun staged (next staged) folders (copies made.members) (bytes made.files) made.job standing refl refl in
    let parts = few_parts made.files in
    let all : length made.files ≡ 8 = ap (λ (files : List WrittenFile). length files) made.are_files.are ∙ eight (printed at (tables_in made)) made.are_files.installed chosen.text in
    let journal = no_more t work.job.parts in
    omega (arith, most, parts, all, journal, counted)
