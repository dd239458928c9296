use Rattle.std.proofs.Common.{◌≡◌, true, false, sym, ap, ◌∙◌}
use Rattle.class_walk.specs.Searches.{search_of}
use Rattle.class_walk.specs.Walks.{is_skipped}
use Rattle.class_walk.proofs.ReadAnswers.{none_at, other_at, file_at, folder_at}
use Rattle.class_walk.proofs.WalkedJobs.{absent_ends, file_job, folder_job, folder_no_file, job_skipped, job_started, other_job, reached_root}
use Rattle.class_walk.proofs.jobs.walk_job.Goals as goal

pub returns-then-is_skipped-clause-exact : goal.returns-then-is_skipped-clause-exact
returns-then-is_skipped-clause-exact g c = λ tree told walked tells.
    let skip : is_skipped c.args.search.now.job.now.skip c.args.search.now.job.now.at ≡ true = (sym (ap (λ s. is_skipped s c.args.search.now.job.now.at) c.as_slice.ensures) ∙ sym c.is_skipped.ensures ∙ c.if-is_skipped.true) in
    rw (job_skipped tree (search_of c.args.search.now) walked skip) (absent_ends _ _ c.args.walked.now.found.items c.args.walked.now.left walked c.absent.result (c.absent.ensures.exact walked) tells)

pub walk_lone_file-requires : goal.walk_lone_file-requires
walk_lone_file-requires g c = record { file = λ tree told. file_at tree c.args.search.now.job.now.at (sym c.in-File.is ∙ c.in_ok-stat.ensures.kind tree (sym c.in_ok-stat.ensures.only_read.told ∙ told)) }

pub walk_folder-requires-clause-reached : goal.walk_folder-requires-clause-reached
walk_folder-requires-clause-reached g c = reached_root c.args.search.now.job.now c.root-tail.result c.root-tail.ensures (sym (ap (λ s. is_skipped s c.args.search.now.job.now.at) c.as_slice.ensures) ∙ sym c.is_skipped.ensures ∙ c.if-is_skipped.false)

pub walk_folder-requires-clause-no_file : goal.walk_folder-requires-clause-no_file
walk_folder-requires-clause-no_file g c = λ tree told. folder_no_file tree c.args.search.now.job.now.at (folder_at tree c.args.search.now.job.now.at (sym c.in-Folder.is ∙ c.in_ok-stat.ensures.kind tree (sym c.in_ok-stat.ensures.only_read.told ∙ told)))

pub returns-in-Absent-clause-exact : goal.returns-in-Absent-clause-exact
returns-in-Absent-clause-exact g c = λ tree told walked tells.
    let kept : is_skipped c.args.search.now.job.now.skip c.args.search.now.job.now.at ≡ false = (sym (ap (λ s. is_skipped s c.args.search.now.job.now.at) c.as_slice.ensures) ∙ sym c.is_skipped.ensures ∙ c.if-is_skipped.false) in
    let none = none_at tree c.args.search.now.job.now.at (sym c.in-Absent.is ∙ c.in_ok-stat.ensures.kind tree told) in
    rw (job_started tree (search_of c.args.search.now) _ walked kept none) (absent_ends _ _ c.args.walked.now.found.items c.args.walked.now.left walked c.absent-in-Absent.result (c.absent-in-Absent.ensures.exact walked) tells)

pub returns-in_ok-copy-in-Other-clause-exact : goal.returns-in_ok-copy-in-Other-clause-exact
returns-in_ok-copy-in-Other-clause-exact g c = λ tree told walked tells.
    let kept : is_skipped c.args.search.now.job.now.skip c.args.search.now.job.now.at ≡ false = (sym (ap (λ s. is_skipped s c.args.search.now.job.now.at) c.as_slice.ensures) ∙ sym c.is_skipped.ensures ∙ c.if-is_skipped.false) in
    other_job tree (search_of c.args.search.now) walked _ kept (other_at tree c.args.search.now.job.now.at (sym c.in-Other.is ∙ c.in_ok-stat.ensures.kind tree told)) c.in_ok-copy-in-Other.ensures

pub returns-in-File-clause-exact : goal.returns-in-File-clause-exact
returns-in-File-clause-exact g c = λ tree told.
    let kept : is_skipped c.args.search.now.job.now.skip c.args.search.now.job.now.at ≡ false = (sym (ap (λ s. is_skipped s c.args.search.now.job.now.at) c.as_slice.ensures) ∙ sym c.is_skipped.ensures ∙ c.if-is_skipped.false) in
    let file = file_at tree c.args.search.now.job.now.at (sym c.in-File.is ∙ c.in_ok-stat.ensures.kind tree told) in
    let later = c.in_ok-stat.ensures.only_read.told ∙ told in
    file_job tree (search_of c.args.search.now) _ file.0 c.args.walked.now.found.items c.walk_lone_file.new.walked.found.items c.args.walked.now.left c.walk_lone_file.new.walked.left c.walk_lone_file.result kept file.1 (c.walk_lone_file.ensures.exact tree later file.0 file.1)

pub returns-in-Folder-clause-exact : goal.returns-in-Folder-clause-exact
returns-in-Folder-clause-exact g c = λ tree told.
    let kept : is_skipped c.args.search.now.job.now.skip c.args.search.now.job.now.at ≡ false = (sym (ap (λ s. is_skipped s c.args.search.now.job.now.at) c.as_slice.ensures) ∙ sym c.is_skipped.ensures ∙ c.if-is_skipped.false) in
    let folder = folder_at tree c.args.search.now.job.now.at (sym c.in-Folder.is ∙ c.in_ok-stat.ensures.kind tree told) in
    let later = c.in_ok-stat.ensures.only_read.told ∙ told in
    folder_job tree (search_of c.args.search.now) _ c.root-tail.result c.args.walked.now.found.items c.walk_folder.new.walked.found.items c.args.walked.now.left c.walk_folder.new.walked.left c.walk_folder.result c.root-tail.ensures kept folder (c.walk_folder.ensures.exact tree later)
