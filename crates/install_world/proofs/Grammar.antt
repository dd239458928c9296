-- What may stand behind each line of a journal, and what its first line is.
use Rattle.std.proofs.Common.{◌≡◌, ◌≢◌, ℕ, zero, suc, ◌+◌, ◌<◌, ◌^◌, Bool, true, false, List, [], ◌∷◌, ◌++◌, length, get_or, refl, sym, ap, ◌∙◌, append_assoc, subst, inl, inr, arith}
use Rattle.std.specs.Prelude.{codes, ◌⊎◌, All, AllPairs}
use Rattle.std.proofs.lemmas.List.{append-nil, length-append, get_or_append_left, get_or-append-add}
use Rattle.install_world.specs.Lines.{line}
use Rattle.install_world.specs.JournalText.{version_words, generation_words, mark_words, target_words, target_lines, end_line, journal_text, IsGeneration, IsTargetOf, IsJobOf, IsJournal, IsJournalText}
use Rattle.install_world.specs.Reading.{IsBehindTargets, IsBehindVersion}
use Rattle.install_world.specs.declared.journal.Journal.{Journal}
use Rattle.install_world.specs.declared.target.Target.{Target}
use Rattle.install_world.specs.declared.version.Version.{Version}
use Rattle.install_world.proofs.Cuts.{one_cut}
use Rattle.install_world.proofs.GrammarLines.{version_one, generation_one, target_one, same_version}
use Rattle.install_world.proofs.LineWords.{any_mark, lock_is_path}
use Rattle.install_world.proofs.TargetLines.{same_target}
use Rattle.install_world.proofs.Places.{GoesOn, HasFirst}
use Rattle.install_world.specs.Targets.{lock_target, AreTargetsApart, IsApartFrom}

-- the text of a line, and what follows it
pub line_then : (words rest : List ℕ) → line words ++ rest ≡ words ++ 10 ∷ rest
line_then words rest = append_assoc words (10 ∷ []) rest

abbrev pub behind_version : Journal → List ℕ
behind_version journal = line (generation_words journal.generation) ++ (target_lines 0 journal.targets ++ end_line)

abbrev pub behind_generation : Journal → List ℕ
behind_generation journal = target_lines 0 journal.targets ++ end_line

pub goes_on_version : (version : Version) → GoesOn IsJournalText (line (version_words version)) (IsBehindVersion version)
unfolding journal_text
goes_on_version version rest = (from, to)
  where
    from : IsJournalText (line (version_words version) ++ rest) → IsBehindVersion version rest
    from is =
        let says = is.1 in
        let cut = one_cut (version_words version) rest (version_words says.version) (behind_version is.0) (version_one version) (version_one says.version)
        (sym (line_then (version_words version) rest) ∙ says.printed ∙ line_then (version_words says.version) (behind_version is.0)) in
        let same = same_version version says.version cut.0 in
        (is.0, record { is_journal = subst (λ v. IsJournal v is.0) (sym same) says.is_journal; printed = cut.1 })

    to : IsBehindVersion version rest → IsJournalText (line (version_words version) ++ rest)
    to is = (is.0, record { version = version; is_journal = is.1.is_journal; printed = ap (λ text. line (version_words version) ++ text) is.1.printed })

pub goes_on_generation : (version : Version) (generation : ℕ) → IsGeneration generation
    → GoesOn (IsBehindVersion version) (line (generation_words generation)) (IsBehindTargets version [])
goes_on_generation version generation good rest = (from, to)
  where
    from : IsBehindVersion version (line (generation_words generation) ++ rest) → IsBehindTargets version [] rest
    from is =
        let says = is.1 in
        let cut = one_cut (generation_words generation) rest (generation_words is.0.generation) (behind_generation is.0)
        (generation_one generation good.small) (generation_one is.0.generation says.is_journal.generation.small)
        (sym (line_then (generation_words generation) rest) ∙ says.printed ∙ line_then (generation_words is.0.generation) (behind_generation is.0)) in
        (is.0.targets, record { job = says.is_journal.job; printed = cut.1 })

    to : IsBehindTargets version [] rest → IsBehindVersion version (line (generation_words generation) ++ rest)
    to is = (
      record { generation = generation; targets = is.0 },
      record {
        is_journal = record { generation = good; job = is.1.job };
        printed = ap (λ text. line (generation_words generation) ++ text) is.1.printed;
      },
    )

-- ---- behind targets

pub not_end : (gone : Bool) (rest : List ℕ) → mark_words gone ++ rest ≡ codes "end" → ⊥
not_end false rest e = absurd (omega (arith, ap (λ text. get_or text 0 0) e))
not_end true rest e = absurd (omega (arith, ap (λ text. get_or text 0 0) e))

-- the words of a line that may come behind these targets
abbrev pub IsNextWords : Version → List Target → List ℕ → Type 0
IsNextWords version targets words =
    ((target : Target) × IsTargetOf version target × IsApartFrom targets target × (words ≡ target_words (length targets) target))
    ⊎ ((words ≡ codes "end") × (targets ≢ []))

abbrev pub IsVersionWords : List ℕ → Type 0
IsVersionWords words = (version : Version) × (words ≡ version_words version)

abbrev pub IsGenerationWords : List ℕ → Type 0
IsGenerationWords words = (generation : ℕ) × IsGeneration generation × (words ≡ generation_words generation)

pub first_of_journal : HasFirst IsJournalText IsVersionWords
unfolding journal_text
first_of_journal text is = record {
  words = version_words is.1.version;
  after = behind_version is.0;
  is_words = (is.1.version, refl);
  one = version_one is.1.version;
  cut = is.1.printed ∙ line_then (version_words is.1.version) (behind_version is.0);
}

pub first_behind_version : (version : Version) → HasFirst (IsBehindVersion version) IsGenerationWords
first_behind_version version text is = record {
  words = generation_words is.0.generation;
  after = behind_generation is.0;
  is_words = (is.0.generation, is.1.is_journal.generation, refl);
  one = generation_one is.0.generation is.1.is_journal.generation.small;
  cut = is.1.printed ∙ line_then (generation_words is.0.generation) (behind_generation is.0);
}

-- of the targets of a job, one more of them is a target apart from those before
next_target : (version : Version) (before : List Target) (target : Target) (more : List Target)
    → IsJobOf version (before ++ target ∷ more) → IsTargetOf version target × IsApartFrom before target
next_target version before target more job =
    let len : length (before ++ target ∷ more) ≡ length before + length (target ∷ more) = length-append before (target ∷ more) in
    let at : (d : Target) → get_or (before ++ target ∷ more) (length before + 0) d ≡ target = λ d. get_or-append-add before (target ∷ more) 0 d in (
      subst (IsTargetOf version) (at target) (job.each (length before + 0) target (omega (arith, len))),
      λ k d below.
          let pair = job.apart k (length before + 0) d (omega arith) (omega (arith, len)) in
          subst (λ first. AreTargetsApart first target) (get_or_append_left before (target ∷ more) d k below)
          (subst (AreTargetsApart (get_or (before ++ target ∷ more) k d)) (at d) pair),
    )

pub first_behind_targets : (version : Version) (targets : List Target) → length targets < 2 ^ 64
    → HasFirst (IsBehindTargets version targets) (IsNextWords version targets)
unfolding target_lines
first_behind_targets version targets small text ([], says) = record {
  words = codes "end";
  after = [];
  is_words = inr (refl, λ none. says.job.some (append-nil targets ∙ none));
  one = refl;
  cut = says.printed;
}
first_behind_targets version targets small text (target ∷ more, says) =
    let next = next_target version targets target more says.job in
    record {
      words = target_words (length targets) target;
      after = target_lines (length targets + 1) more ++ end_line;
      is_words = inl (target, next.0, next.1, refl);
      one = target_one (length targets) target small;
      cut = says.printed ∙ append_assoc (line (target_words (length targets) target)) (target_lines (length targets + 1) more) end_line
          ∙ line_then (target_words (length targets) target) (target_lines (length targets + 1) more ++ end_line);
    }

-- Some text stands behind targets that were read.
abbrev lock : Target
lock = record { path = lock_target; gone = false }

lock_is_target : (version : Version) → IsTargetOf version lock
lock_is_target version = record { place = record { segments = lock_is_path; place = inl refl }; mark = any_mark version }

none_more : (n : ℕ) → end_line ≡ target_lines n [] ++ end_line
unfolding target_lines
none_more n = refl

pub some_behind : (version : Version) (targets : List Target) → All (IsTargetOf version) targets → AllPairs AreTargetsApart targets
    → (text : List ℕ) × IsBehindTargets version targets text
some_behind version [] each apart = (
  target_lines 0 (lock ∷ []) ++ end_line,
  (
    lock ∷ [],
    record {
      job = record {
        some = λ e. cc e;
        each = All-one version;
        apart = λ i j d less below. absurd (omega arith);
      };
      printed = refl;
    },
  ),
)
  where
    All-one : (version : Version) → All (IsTargetOf version) (lock ∷ [])
    All-one version zero d below = lock_is_target version
    All-one version (suc k) d below = absurd (omega arith)
some_behind version (target ∷ targets) each apart = (
  end_line,
  (
    [],
    record {
      job = record {
        some = λ e. cc e;
        each = subst (All (IsTargetOf version)) (sym (append-nil (target ∷ targets))) each;
        apart = subst (AllPairs AreTargetsApart) (sym (append-nil (target ∷ targets))) apart;
      };
      printed = none_more (length (target ∷ targets));
    },
  ),
)

-- Behind the line of one more target, a grammar goes on as that behind all of them.
pub goes_on_target : (version : Version) (targets : List Target) (target : Target) → length targets < 2 ^ 64
    → IsTargetOf version target
    → GoesOn (IsBehindTargets version targets) (line (target_words (length targets) target)) (IsBehindTargets version (targets ++ target ∷ []))
unfolding target_lines
goes_on_target version targets target small good rest = (from, to)
  where
    words : List ℕ
    words = target_words (length targets) target

    no_end : words ≡ codes "end" → ⊥
    no_end e = not_end target.gone _ e

    from : IsBehindTargets version targets (line words ++ rest) → IsBehindTargets version (targets ++ target ∷ []) rest
    from ([], says) =
        let cut = one_cut words rest (codes "end") [] (target_one (length targets) target small) refl (sym (line_then words rest) ∙ says.printed) in
        absurd (no_end cut.0)
    from (next ∷ more, says) =
        let is_next = (next_target version targets next more says.job).0 in
        let cut = one_cut words rest (target_words (length targets) next) (target_lines (length targets + 1) more ++ end_line)
        (target_one (length targets) target small) (target_one (length targets) next small)
        (sym (line_then words rest) ∙ says.printed
        ∙ append_assoc (line (target_words (length targets) next)) (target_lines (length targets + 1) more) end_line
        ∙ line_then (target_words (length targets) next) (target_lines (length targets + 1) more ++ end_line)) in
        let same : next ≡ target = sym (same_target (length targets) target next good.place.segments is_next.place.segments cut.0) in (
          more,
          record {
            job = subst (IsJobOf version) (ap (λ t. targets ++ t ∷ more) same ∙ sym (append_assoc targets (target ∷ []) more)) says.job;
            printed = cut.1 ∙ ap (λ n. target_lines n more ++ end_line) (sym (length-append targets (target ∷ [])));
          },
        )

    to : IsBehindTargets version (targets ++ target ∷ []) rest → IsBehindTargets version targets (line words ++ rest)
    to (more, says) = (
      target ∷ more,
      record {
        job = subst (IsJobOf version) (append_assoc targets (target ∷ []) more) says.job;
        printed = ap (λ text. line words ++ text) (says.printed ∙ ap (λ n. target_lines n more ++ end_line) (length-append targets (target ∷ [])))
            ∙ sym (append_assoc (line words) (target_lines (length targets + 1) more) end_line);
      },
    )

-- Behind `end` nothing follows.
pub goes_on_end : (version : Version) (targets : List Target) → length targets < 2 ^ 64 → IsJobOf version targets
    → GoesOn (IsBehindTargets version targets) end_line (λ rest. rest ≡ [])
unfolding target_lines
goes_on_end version targets small job rest = (from, to)
  where
    from : IsBehindTargets version targets (end_line ++ rest) → rest ≡ []
    from ([], says) = (one_cut (codes "end") rest (codes "end") [] refl refl (sym (line_then (codes "end") rest) ∙ says.printed)).1
    from (next ∷ more, says) =
        let cut = one_cut (codes "end") rest (target_words (length targets) next) (target_lines (length targets + 1) more ++ end_line)
        refl (target_one (length targets) next small)
        (sym (line_then (codes "end") rest) ∙ says.printed
        ∙ append_assoc (line (target_words (length targets) next)) (target_lines (length targets + 1) more) end_line
        ∙ line_then (target_words (length targets) next) (target_lines (length targets + 1) more ++ end_line)) in
        absurd (not_end next.gone _ (sym cut.0))

    to : rest ≡ [] → IsBehindTargets version targets (end_line ++ rest)
    to none = (
      [],
      record {
        job = subst (IsJobOf version) (sym (append-nil targets)) job;
        printed = ap (λ text. end_line ++ text) none;
      },
    )
