use Rattle.std.proofs.Common.{[], sym, ◌∙◌, subst, arith}
use Rattle.install_world.specs.Lines.{IsBadFrom}
use Rattle.install_world.specs.Reading.{IsBehindTargets, SaysMore}
use Rattle.install_world.proofs.ReadJournal.{IsSoFar, bad_after_end, bad_target_line, more_so_far, no_more_lines, none_after, none_so_far, says_targets, some_after, some_behind_read}
use Rattle.install_world.proofs.ReadTargets.{job_of_read}
use Rattle.install_world.proofs.reading.read_targets.Goals as goal

pub lines-init : goal.lines-init
lines-init c = record {
  version = c.new-reader.ensures.version;
  is_read = c.new-reader.ensures.is_read;
  far = none_so_far c.new-reader.result.version c.args.text.now c.new-reader.result.targets.items c.new-reader.ensures.none;
}

pub lines-preserved : goal.lines-preserved
lines-preserved c =
    let next = c.in_ok-read.ensures.target (cc c.in-Target.is) in
    let len = c.lines.reader.targets.ok in
    let cap = c.lines.reader.targets.small in
    record {
      version = c.read.ensures.version ∙ c.lines.invariant.version;
      is_read = c.in_ok-read.ensures.is_read;
      far = subst (λ version. IsSoFar version c.read.new.self.targets.items c.args.text.now c.in-Some.cut.after.now) (sym c.read.ensures.version)
          (more_so_far c.lines.reader.version c.lines.reader.targets.items c.read.new.self.targets.items next.0 c.args.text.now c.lines.rest.now
          c.in-Some.cut.words.now c.in-Some.cut.after.now (omega arith) c.lines.invariant.far next.1 next.2 c.in-Some.ensures.1 next.3);
    }

pub returns-then-not-is_empty-clause-bad : goal.returns-then-not-is_empty-clause-bad
returns-then-not-is_empty-clause-bad c = λ at e.
    let end = c.in_ok-read.ensures.end (cc c.in-End.is) in
    let len = c.lines.reader.targets.ok in
    let cap = c.lines.reader.targets.small in
    subst (λ version. IsBadFrom (IsBehindTargets version []) c.args.text.now at) c.lines.invariant.version
    (bad_after_end c.lines.reader.version c.lines.reader.targets.items c.args.text.now c.lines.rest.now c.in-Some.cut.words.now c.in-Some.cut.after.now at
    (omega arith) c.lines.invariant.far
    (job_of_read c.lines.reader.version c.lines.reader.targets.items c.lines.reader.paths c.lines.invariant.is_read end.1)
    c.in-Some.ensures.1 end.0 (some_after c.in-Some.cut.after.now c.is_empty.result c.is_empty.ensures c.if-not-is_empty.true) (cc (c.bad_at.ensures, e)))

pub returns-in-End-clause-says : goal.returns-in-End-clause-says
returns-in-End-clause-says c =
    let end = c.in_ok-read.ensures.end (cc c.in-End.is) in
    subst (λ version. SaysMore version [] c.args.text.now c.read.new.self.targets.items) c.lines.invariant.version
    (subst (SaysMore c.lines.reader.version [] c.args.text.now) (sym end.2)
    (says_targets c.lines.reader.version c.lines.reader.targets.items c.args.text.now c.lines.rest.now c.in-Some.cut.words.now c.in-Some.cut.after.now
    c.lines.invariant.far (job_of_read c.lines.reader.version c.lines.reader.targets.items c.lines.reader.paths c.lines.invariant.is_read end.1)
    c.in-Some.ensures.1 end.0 (none_after c.in-Some.cut.after.now c.is_empty.result c.is_empty.ensures c.if-not-is_empty.false)))

pub returns-in-Bad-clause-bad : goal.returns-in-Bad-clause-bad
returns-in-Bad-clause-bad c = λ at e.
    let len = c.lines.reader.targets.ok in
    let cap = c.lines.reader.targets.small in
    subst (λ version. IsBadFrom (IsBehindTargets version []) c.args.text.now at) c.lines.invariant.version
    (bad_target_line c.lines.reader.version c.lines.reader.targets.items c.args.text.now c.lines.rest.now c.in-Some.cut.words.now c.in-Some.cut.after.now at
    (omega arith) c.lines.invariant.far
    (some_behind_read c.lines.reader.version c.lines.reader.targets.items c.lines.reader.paths c.lines.invariant.is_read)
    c.in-Some.ensures.0 c.in-Some.ensures.1 (c.in_ok-read.ensures.bad_target (cc c.in-Bad.is)) (c.in_ok-read.ensures.bad_end (cc c.in-Bad.is))
    (cc (c.bad_at-in-Bad.ensures, e)))

pub returns-clause-bad : goal.returns-clause-bad
returns-clause-bad c = λ at e.
    let len = c.lines.reader.targets.ok in
    let cap = c.lines.reader.targets.small in
    subst (λ version. IsBadFrom (IsBehindTargets version []) c.args.text.now at) c.lines.invariant.version
    (no_more_lines c.lines.reader.version c.lines.reader.targets.items c.args.text.now c.lines.rest.now at (omega arith) c.lines.invariant.far
    (some_behind_read c.lines.reader.version c.lines.reader.targets.items c.lines.reader.paths c.lines.invariant.is_read)
    c.in_default.ensures (cc (c.bad_at-2.ensures, e)))
