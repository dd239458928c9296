use Rattle.package_moves.proofs.FewFiles.{job_count}
use Rattle.package_moves.proofs.laws.jobs_write_what_differs.Goals as goal

pub returns : goal.returns
returns c = λ project t wanted parts flags folders job standing. job_count project t wanted parts flags folders job standing
