-- What a device means that tells nothing: how often it has failed, and how often it was called to write.
use Rattle.std.specs.Prelude.{ℕ, Bool, None, [], if◌then◌else◌, refl}
use Rattle.std.specs.Coded.{Coded, code_by, coded×, coded_ℕ}
use Rattle.std.specs.FinMap as map
use Rattle.tree_dev.specs.Device.{Meaning, next}

pub record Counts : Type 0 where
  pub faults : ℕ
  pub writes : ℕ

abbrev pub counts_code : Coded Counts
counts_code = code_by (ℕ × ℕ) (coded× coded_ℕ coded_ℕ) (λ c. (c.faults, c.writes)) (λ p. record { faults = p.0; writes = p.1 }) (λ _. refl)

abbrev pub untold : Counts → Meaning
untold counts = record { told = None; faults = counts.faults; writes = counts.writes; disks = record { now = record { base = map.empty; pending = [] }; past = [] } }

-- after a call that failed or not
abbrev pub after_call : Counts → Bool → Counts
after_call before failed = record { faults = if failed then next before.faults else before.faults; writes = before.writes }

-- after a call of write
abbrev pub after_write : Counts → Bool → Counts
after_write before failed = record { faults = if failed then next before.faults else before.faults; writes = next before.writes }
