use Rattle.std.proofs.Common.{◌∙◌}
use Rattle.install_world.proofs.ReadTargets.{apart_paths, apart_from_read, not_apart_target}
use Rattle.install_world.proofs.reader.Reader.read.Goals as goal

pub is_apart-requires : goal.is_apart-requires
is_apart-requires c = apart_paths c.args.self.now.version c.args.self.now.targets.items c.args.self.now.paths c.requires.is_read

pub returns-then-not-is_apart-clause-bad_target : goal.returns-then-not-is_apart-clause-bad_target
returns-then-not-is_apart-clause-bad_target c = λ bad.
    not_apart_target c.args.self.now.version c.args.self.now.targets.items c.args.self.now.paths c.args.words.now c.len-number.result c.in-Some.target
    c.is_apart.result c.requires.is_read (c.len-number.ensures ∙ c.args.self.now.targets.ok.0) (rw c.in-Some.is at c.in_ok-target_of.ensures) c.is_apart.ensures c.if-not-is_apart.true

pub keep-requires-clause-apart : goal.keep-requires-clause-apart
keep-requires-clause-apart c =
    apart_from_read c.args.self.now.version c.args.self.now.targets.items c.args.self.now.paths c.in-Some.target c.requires.is_read
    (c.is_apart.ensures.0 c.if-not-is_apart.false)
