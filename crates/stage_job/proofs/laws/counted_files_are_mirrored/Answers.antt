use Rattle.stage_job.proofs.MirroredFiles.{counted_mirrored}
use Rattle.stage_job.proofs.laws.counted_files_are_mirrored.Goals as goal

pub returns : goal.returns
returns c = counted_mirrored
