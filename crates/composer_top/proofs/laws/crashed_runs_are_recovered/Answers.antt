use Rattle.composer_top.specs.Outcome.Dump.{IsDumpWork}
use Rattle.composer_top.specs.Outcome.Install.{IsInstallWork, IsUpdateWork}
use Rattle.composer_top.proofs.RecoveredRuns.{recovered_run}
use Rattle.composer_top.proofs.laws.crashed_runs_are_recovered.Goals as goal

pub returns-clause-install : goal.returns-clause-install
returns-clause-install c = λ project ways t left u before now begun ended status run each after.
    recovered_run (IsInstallWork project ways) project t left u before now begun ended status run each after (λ surroundings old new files. c.what_is_in_flight_is_finished.ensures.journal project surroundings old new files left)

pub returns-clause-update : goal.returns-clause-update
returns-clause-update c = λ project ways t left u before now begun ended status run each after.
    recovered_run (IsUpdateWork project ways) project t left u before now begun ended status run each after (λ surroundings old new files. c.what_is_in_flight_is_finished.ensures.journal project surroundings old new files left)

pub returns-clause-dump : goal.returns-clause-dump
returns-clause-dump c = λ project ways t left u before now begun ended status run each after.
    recovered_run (IsDumpWork project ways) project t left u before now begun ended status run each after (λ surroundings old new files. c.what_is_in_flight_is_finished.ensures.journal project surroundings old new files left)
