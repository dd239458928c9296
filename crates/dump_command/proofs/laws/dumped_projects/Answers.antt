use Rattle.dump_command.proofs.DumpedProjects.{dumped_project}
use Rattle.dump_command.proofs.laws.dumped_projects.Goals as goal

pub returns : goal.returns
returns c = λ project ways entries start u left made lines tree stands gone is outcome installed.
    dumped_project project ways entries start u left tree stands gone made lines is outcome installed
