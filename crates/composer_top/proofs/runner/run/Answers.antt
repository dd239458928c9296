use Rattle.std.proofs.Common.{map}
use Rattle.std.specs.String.{string_bytes}
use Rattle.std.proofs.lemmas.Bool.{eqb-true}
use Rattle.composer_top.specs.Chosen.{chosen_in}
use Rattle.composer_top.specs.Outcome.{IsOutcome, is_free_status, words_refusal}
use Rattle.run_answers.specs.Steps.{is_free_result}
use Rattle.composer_top.specs.Outcome.Dump.{IsDumpWork}
use Rattle.composer_top.specs.Outcome.Install.{IsInstallWork, IsUpdateWork}
use Rattle.composer_top.proofs.Endings.{device_fault, done_is_answered, ends_by_words, free_answer, not_free_answer, output_fault, read_as, refused_answer, some_answer, source, told_ends, unread, unrefused}
use Rattle.composer_top.proofs.Changing.{run_changes}
use Rattle.composer_top.proofs.Performed.{dump, installed, only_read, recovers_as, recovery, rose, updated}
use Rattle.composer_top.proofs.Warned.{warns_as, words_behind}
use Rattle.composer_top.proofs.runner.run.Goals as goal
use Rattle.composer_top.proofs.runner.run.Goals.{After-conclude}

pub returns-clause-answer : goal.returns-clause-answer
returns-clause-answer g c = λ t told.
    let sink = g.E.Sink.meaning c.perform-answer.new.errs in
    let from = source _ _ c.perform-answer.result c.perform-answer.ensures.end c.conclude.ensures in (
      sink,
      warns_as t (chosen_in (map string_bytes c.args.words.now)) (is_free_result c.perform-answer.result) (is_free_status c.conclude.result) (g.E.Sink.meaning c.args.errs.now) sink
          (free_answer _ _ c.perform-answer.result from) (c.perform-answer.ensures.warns t told),
      told_ends _ _ c.perform-answer.result (IsOutcome t (g.T.Tree.meaning c.perform-answer.new.tree) (map string_bytes c.args.words.now)) (c.perform-answer.ensures.told t told) c.conclude.ensures,
    )

pub returns-clause-ended : goal.returns-clause-ended
returns-clause-ended g c = (g.E.Sink.meaning c.perform-answer.new.errs, c.perform-answer.ensures.may_warn, some_answer _ _ c.perform-answer.result c.conclude.ensures)

pub returns-clause-words : goal.returns-clause-words
returns-clause-words g c =
    let words = map string_bytes c.args.words.now in
    words_behind (record { out_before = g.S.Sink.meaning c.args.out.now; out_now = g.S.Sink.meaning c.conclude.new.out; errs_before = g.E.Sink.meaning c.args.errs.now; errs_now = g.E.Sink.meaning c.conclude.new.errs })
    c.conclude.result words (g.E.Sink.meaning c.perform-answer.new.errs) c.perform-answer.ensures.may_warn
    (ends_by_words _ _ (words_refusal words) c.perform-answer.result c.perform-answer.ensures.end c.perform-answer.ensures.words c.conclude.ensures)

pub returns-clause-only_read : goal.returns-clause-only_read
returns-clause-only_read g c = λ reads.
    read_as (only_read _ _ c.perform-answer.result (chosen_in (map string_bytes c.args.words.now)) reads c.perform-answer.ensures.performs)
    (λ t. device_fault _ _ c.perform-answer.result (source _ _ c.perform-answer.result c.perform-answer.ensures.end c.conclude.ensures) (eqb-true c.conclude.result 8 t))

pub returns-clause-recovers : goal.returns-clause-recovers
returns-clause-recovers g c = λ project chooses.
    let did = recovery _ _ c.perform-answer.result (map string_bytes c.args.words.now) project chooses c.perform-answer.ensures.performs in
    recovers_as project _ _ did.recovers
    (λ done. done_is_answered _ _ (map string_bytes c.args.words.now) c.perform-answer.result c.perform-answer.ensures.words (source _ _ c.perform-answer.result c.perform-answer.ensures.end c.conclude.ensures) done)

pub returns-clause-installs : goal.returns-clause-installs
returns-clause-installs g c = λ project ways chooses t told.
    let did = installed _ _ c.perform-answer.result (map string_bytes c.args.words.now) project ways chooses c.perform-answer.ensures.performs in
    let from = source _ _ c.perform-answer.result c.perform-answer.ensures.end c.conclude.ensures in
    run_changes (IsInstallWork project ways) project t _ _ c.conclude.result c.perform-answer.result
    (λ done. done_is_answered _ _ (map string_bytes c.args.words.now) c.perform-answer.result c.perform-answer.ensures.words from done)
    (not_free_answer _ _ c.perform-answer.result from)
    (refused_answer _ _ c.perform-answer.result did.ends_well c.conclude.ensures)
    (did.changes.commanded t told)

pub returns-clause-updates : goal.returns-clause-updates
returns-clause-updates g c = λ project ways chooses t told.
    let did = updated _ _ c.perform-answer.result (map string_bytes c.args.words.now) project ways chooses c.perform-answer.ensures.performs in
    let from = source _ _ c.perform-answer.result c.perform-answer.ensures.end c.conclude.ensures in
    run_changes (IsUpdateWork project ways) project t _ _ c.conclude.result c.perform-answer.result
    (λ done. done_is_answered _ _ (map string_bytes c.args.words.now) c.perform-answer.result c.perform-answer.ensures.words from done)
    (not_free_answer _ _ c.perform-answer.result from)
    (refused_answer _ _ c.perform-answer.result did.ends_well c.conclude.ensures)
    (did.changes.commanded t told)

pub returns-clause-dumps : goal.returns-clause-dumps
returns-clause-dumps g c = λ project ways chooses t told.
    let did = dump _ _ c.perform-answer.result (map string_bytes c.args.words.now) project ways chooses c.perform-answer.ensures.performs in
    let from = source _ _ c.perform-answer.result c.perform-answer.ensures.end c.conclude.ensures in
    run_changes (IsDumpWork project ways) project t _ _ c.conclude.result c.perform-answer.result
    (λ done. done_is_answered _ _ (map string_bytes c.args.words.now) c.perform-answer.result c.perform-answer.ensures.words from done)
    (not_free_answer _ _ c.perform-answer.result from)
    (refused_answer _ _ c.perform-answer.result did.ends_well c.conclude.ensures)
    (did.changes.commanded t told)

pub returns-clause-few_writes : goal.returns-clause-few_writes
returns-clause-few_writes g c = λ project ways chooses.
    (dump _ _ c.perform-answer.result (map string_bytes c.args.words.now) project ways chooses c.perform-answer.ensures.performs).few_writes

pub returns-clause-fits : goal.returns-clause-fits
returns-clause-fits g c = λ project chooses t told surroundings old new each can.
    let did = recovery _ _ c.perform-answer.result (map string_bytes c.args.words.now) project chooses c.perform-answer.ensures.performs in
    unrefused _ _ c.perform-answer.result did.ends_well (did.fits t told surroundings old new each can) c.conclude.ensures

pub returns-clause-unchanged : goal.returns-clause-unchanged
returns-clause-unchanged g c = λ project chooses ended.
    let did = recovery _ _ c.perform-answer.result (map string_bytes c.args.words.now) project chooses c.perform-answer.ensures.performs in
    did.unchanged (unread _ _ c.perform-answer.result (source _ _ c.perform-answer.result c.perform-answer.ensures.end c.conclude.ensures) ended)

pub returns-clause-device : goal.returns-clause-device
returns-clause-device g c = λ eight.
    rose _ _ c.perform-answer.result (chosen_in (map string_bytes c.args.words.now)) c.perform-answer.ensures.performs
    (device_fault _ _ c.perform-answer.result (source _ _ c.perform-answer.result c.perform-answer.ensures.end c.conclude.ensures) eight)

pub returns-clause-output : goal.returns-clause-output
returns-clause-output g c = λ nine. output_fault _ _ (map string_bytes c.args.words.now) c.perform-answer.result c.perform-answer.ensures.words (source _ _ c.perform-answer.result c.perform-answer.ensures.end c.conclude.ensures) nine
