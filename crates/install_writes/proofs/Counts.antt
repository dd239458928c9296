-- What packages count is at most what is mirrored of them.
use Rattle.std.proofs.Common.{◌≡◌, ℕ, ◌+◌, ◌≤◌, Bool, true, false, cond, List, [], ◌∷◌, ◌++◌, length, arith}
use Rattle.tree_dev.specs.Device.{next}
use Rattle.tree_dev.specs.Told.{both}
use Rattle.tree_dev.specs.Trees.{FileTree}
use Rattle.stage_job.specs.Written.{after_more, job_files, part_files}
use Rattle.stage_job.specs.declared.job.Part.{Part}
use Rattle.stage_job.specs.declared.job.Source.{Source}
use Rattle.stage_job.specs.declared.job.Source.TheVariants as sources
use Rattle.stage_job.proofs.MirroredFiles.{counted_mirrored}
use Rattle.package_moves.specs.Differing.{are_bytes, differing_files}
use Rattle.package_moves.specs.Found.{AreStanding}
use Rattle.package_moves.specs.Moves.{HasFolders, IsJobFor}
use Rattle.package_moves.proofs.FewFiles.{few_files}
use Rattle.install_writes.specs.FewWrites.{are_copies, differing_mirrored, is_copy, mirrored_count}

part_few : (t : FileTree) (source : Source) (flag : Bool) → is_copy source ≡ true → cond flag 0 (part_files t source) ≤ cond flag 0 (mirrored_count t source)
part_few t (sources.Copy source) true is = omega arith
part_few t (sources.Copy source) false is = counted_mirrored t source
part_few t (sources.Bytes bytes) flag is = absurd cc
part_few t (sources.Folder inner) flag is = absurd cc
part_few t sources.Gone flag is = absurd cc

packages_few : (t : FileTree) (packages : List Part) (flags : List Bool) → are_copies packages ≡ true → differing_files t packages flags ≤ differing_mirrored t packages flags
packages_few t [] flags are = omega arith
packages_few t (part ∷ parts) [] are = omega arith
packages_few t (part ∷ parts) (flag ∷ flags) are =
    let halves = both (is_copy part.from) (are_copies parts) are in
    let one = part_few t part.from flag halves.0 in
    let more = packages_few t parts flags halves.1 in
    omega (arith, one, more)

pub few_writes : (project : List (List ℕ)) (t : FileTree) (packages written parts : List Part) (flags : List Bool) (begun staged committed : ℕ) → HasFolders project t (packages ++ written)
    → are_copies packages ≡ true → are_bytes written ≡ true → IsJobFor project t (packages ++ written) parts → AreStanding project t packages flags
    → staged ≡ after_more begun (job_files t parts) → committed ≡ next staged → committed ≤ after_more begun (differing_mirrored t packages flags + length written + 1)
few_writes project t packages written parts flags begun staged committed folders copies bytes job standing stages commits =
    let few = few_files project t packages written parts flags folders bytes job standing in
    let mirrored = packages_few t packages flags copies in
    omega (arith, few, mirrored, stages, commits)
