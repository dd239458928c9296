-- How many files the work of a command writes.
use Rattle.std.proofs.Common.{◌≡◌, ◌≢◌, ℕ, ◌+◌, ◌≤◌, List, [], ◌∷◌, refl, subst, sym, arith}
use Rattle.tree_dev.specs.Device.{next}
use Rattle.tree_dev.specs.Trees.{FileTree}
use Rattle.stage_job.specs.Written.{after_more, job_files}
use Rattle.stage_job.specs.declared.job.Part.{Part}
use Rattle.install_commands.specs.Working.{files_written}

pub at_most_staged : (before now files : ℕ) → now ≡ after_more before files → now ≤ after_more before files
at_most_staged before now files is = omega (arith, is)

pub none_written : (before now files : ℕ) → now ≡ before → now ≤ after_more before files
none_written before now files is = omega (arith, is)

some_written : (t : FileTree) (parts : List Part) → parts ≢ [] → files_written t parts ≡ job_files t parts + 1
some_written t [] some = absurd (some refl)
some_written t (part ∷ parts) some = refl

with_journal : (begun staged now files : ℕ) → staged ≤ after_more begun files → now ≡ next staged → now ≤ after_more begun (files + 1)
with_journal begun staged now files most is = omega (arith, most, is)

without_journal : (begun staged now files : ℕ) → staged ≤ after_more begun files → now ≡ staged → now ≤ after_more begun (files + 1)
without_journal begun staged now files most is = omega (arith, most, is)

pub journal_written : (t : FileTree) (parts : List Part) (begun staged now : ℕ) → parts ≢ [] → staged ≤ after_more begun (job_files t parts) → now ≡ next staged
    → now ≤ after_more begun (files_written t parts)
journal_written t parts begun staged now some most is =
    subst (λ (files : ℕ). now ≤ after_more begun files) (sym (some_written t parts some)) (with_journal begun staged now (job_files t parts) most is)

pub no_journal_written : (t : FileTree) (parts : List Part) (begun staged now : ℕ) → parts ≢ [] → staged ≤ after_more begun (job_files t parts) → now ≡ staged
    → now ≤ after_more begun (files_written t parts)
no_journal_written t parts begun staged now some most is =
    subst (λ (files : ℕ). now ≤ after_more begun files) (sym (some_written t parts some)) (without_journal begun staged now (job_files t parts) most is)
