-- Where a journal's text that is read leaves the grammar.
use Rattle.std.proofs.Common.{◌≡◌, ◌≢◌, ℕ, ◌+◌, ◌-◌, ◌<◌, ◌≤◌, ◌^◌, Bool, true, false, List, [], ◌∷◌, ◌++◌, length, refl, sym, ap, ◌∙◌, append_assoc, subst, inl, inr, arith}
use Rattle.std.specs.Prelude.{codes, nat_eq}
use Rattle.std.specs.BTreeSet.{BTreeSet}
use Rattle.std.proofs.lemmas.Bool.{eqb-true}
use Rattle.std.proofs.lemmas.List.{length-append, append-nil}
use Rattle.install_world.specs.Lines.{line, is_one_line, IsWholeLines, IsBadFrom}
use Rattle.install_world.specs.Targets.{IsApartFrom}
use Rattle.install_world.specs.JournalText.{version_words, generation_words, target_words, target_lines, end_line, journal_text, IsGeneration, IsTargetOf, IsJobOf, Says, IsJournalText}
use Rattle.install_world.specs.Reading.{SaysMore, IsBehindTargets, SaysBehindVersion, IsBehindVersion, IsRead}
use Rattle.install_world.specs.declared.fault.JournalFault.{JournalFault}
use Rattle.install_world.specs.declared.fault.JournalFault.TheVariants.{BadJournal, OutOfMemory}
use Rattle.install_world.specs.declared.journal.Journal.{Journal}
use Rattle.install_world.specs.declared.target.Target.{Target}
use Rattle.install_world.specs.declared.version.Version.{Version}
use Rattle.install_world.specs.declared.version.Version.TheVariants.{Two}
use Rattle.install_world.proofs.Places.{GoesOn, goes_on_further, bad_further, bad_line, bad_without_line, whole_further}
use Rattle.install_world.proofs.Grammar.{line_then, goes_on_version, goes_on_generation, goes_on_target, goes_on_end, first_of_journal, first_behind_version, first_behind_targets, some_behind, IsNextWords, IsGenerationWords, IsVersionWords}
use Rattle.install_world.proofs.TargetLines.{target_lines-push}

-- ---- places behind a line

front_length : (front after text : List ℕ) → text ≡ front ++ after → length text - length after ≡ length front
front_length front after text cut =
    let lens : length text ≡ length front + length after = ap length cut ∙ length-append front after in
    omega arith

same_place : (first second : ℕ) → BadJournal first ≡ BadJournal second → first ≡ second
same_place first second e = cc

pub cut_at_line : (words after text : List ℕ) → text ≡ words ++ 10 ∷ after → text ≡ line words ++ after
cut_at_line words after text cut = cut ∙ sym (line_then words after)

-- what is bad behind a line is bad at its place in the whole
pub bad_behind : (IsText IsRest : List ℕ → Type 0) (words after text : List ℕ) (fault given : JournalFault) (at : ℕ)
    → text ≡ words ++ 10 ∷ after → GoesOn IsText (line words) IsRest
    → ((k : ℕ) → fault ≡ BadJournal k → IsBadFrom IsRest after k)
    → ((k : ℕ) → fault ≡ BadJournal k → given ≡ BadJournal (length text - length after + k))
    → (fault ≡ OutOfMemory → given ≡ OutOfMemory)
    → given ≡ BadJournal at → IsBadFrom IsText text at
bad_behind IsText IsRest words after text (BadJournal k) given at cut on bad placed memory is =
    let whole = cut_at_line words after text cut in
    let place : length (line words) + k ≡ at =
    ap (λ n. n + k) (sym (front_length (line words) after text whole)) ∙ same_place (length text - length after + k) at (sym (placed k refl) ∙ is) in
    subst (IsBadFrom IsText text) place
    (subst (λ t. IsBadFrom IsText t (length (line words) + k)) (sym whole)
    (bad_further IsText IsRest (line words) after k (inr (words, refl)) on (bad k refl)))
bad_behind IsText IsRest words after text OutOfMemory given at cut on bad placed memory is =
    let out = memory refl in
    absurd cc

-- ---- the first two lines

first_generation : IsGeneration 1
first_generation = record { positive = omega arith; small = omega arith }

some_behind_version : (version : Version) → (text : List ℕ) × IsBehindVersion version text
some_behind_version version =
    let behind = some_behind version [] (λ k d below. absurd (omega arith)) (λ i j d less below. absurd (omega arith)) in
    (line (generation_words 1) ++ behind.0, (goes_on_generation version 1 first_generation behind.0).1 behind.1)

some_journal : (text : List ℕ) × IsJournalText text
some_journal =
    let behind = some_behind_version Two in
    (line (version_words Two) ++ behind.0, (goes_on_version Two behind.0).1 behind.1)

at_front : (IsText : List ℕ → Type 0) (text : List ℕ) (at : ℕ) → BadJournal 0 ≡ BadJournal at → IsBadFrom IsText text 0 → IsBadFrom IsText text at
at_front IsText text at e bad = subst (IsBadFrom IsText text) (same_place 0 at e) bad

pub no_first_line : (text : List ℕ) (at : ℕ) → is_one_line text ≡ true → BadJournal 0 ≡ BadJournal at → IsBadFrom IsJournalText text at
no_first_line text at one e =
    at_front IsJournalText text at e (bad_without_line IsJournalText IsVersionWords text some_journal.0 some_journal.1 first_of_journal one)

pub no_version_line : (text words after : List ℕ) (at : ℕ) → is_one_line words ≡ true → text ≡ words ++ 10 ∷ after
    → ((version : Version) → words ≢ version_words version) → BadJournal 0 ≡ BadJournal at → IsBadFrom IsJournalText text at
no_version_line text words after at one cut none e =
    at_front IsJournalText text at e
    (bad_line IsJournalText IsVersionWords text some_journal.0 words after some_journal.1 first_of_journal one cut (λ is. none is.0 is.1))

pub no_second_line : (version : Version) (text : List ℕ) (at : ℕ) → is_one_line text ≡ true → BadJournal 0 ≡ BadJournal at → IsBadFrom (IsBehindVersion version) text at
no_second_line version text at one e =
    let some = some_behind_version version in
    at_front (IsBehindVersion version) text at e
    (bad_without_line (IsBehindVersion version) IsGenerationWords text some.0 some.1 (first_behind_version version) one)

pub no_generation_line : (version : Version) (text words after : List ℕ) (at : ℕ) → is_one_line words ≡ true → text ≡ words ++ 10 ∷ after
    → ((generation : ℕ) → IsGeneration generation → words ≢ generation_words generation) → BadJournal 0 ≡ BadJournal at
    → IsBadFrom (IsBehindVersion version) text at
no_generation_line version text words after at one cut none e =
    let some = some_behind_version version in
    at_front (IsBehindVersion version) text at e
    (bad_line (IsBehindVersion version) IsGenerationWords text some.0 words after some.1 (first_behind_version version) one cut
    (λ is. none is.0 is.1 is.2))

-- ---- the journal that was read

pub says_behind_version : (version : Version) (text words after : List ℕ) (generation : ℕ) (targets : List Target) → text ≡ words ++ 10 ∷ after
    → words ≡ generation_words generation → IsGeneration generation → SaysMore version [] after targets
    → SaysBehindVersion version text (record { generation = generation; targets = targets })
says_behind_version version text words after generation targets cut is good says = record {
  is_journal = record { generation = good; job = says.job };
  printed = cut_at_line words after text cut ∙ ap (λ w. line w ++ after) is ∙ ap (λ rest. line (generation_words generation) ++ rest) says.printed;
}

pub says_journal : (version : Version) (text words after : List ℕ) (journal : Journal) → text ≡ words ++ 10 ∷ after → words ≡ version_words version
    → SaysBehindVersion version after journal → Says text journal
unfolding journal_text
says_journal version text words after journal cut is says = record {
  version = version;
  is_journal = says.is_journal;
  printed = cut_at_line words after text cut ∙ ap (λ w. line w ++ after) is ∙ ap (λ rest. line (version_words version) ++ rest) says.printed;
}

pub bad_behind_version : (version : Version) (words after text : List ℕ) (fault given : JournalFault) (at : ℕ) → text ≡ words ++ 10 ∷ after
    → words ≡ version_words version → ((k : ℕ) → fault ≡ BadJournal k → IsBadFrom (IsBehindVersion version) after k)
    → ((k : ℕ) → fault ≡ BadJournal k → given ≡ BadJournal (length text - length after + k)) → (fault ≡ OutOfMemory → given ≡ OutOfMemory)
    → given ≡ BadJournal at → IsBadFrom IsJournalText text at
bad_behind_version version words after text fault given at cut is bad placed memory e =
    bad_behind IsJournalText (IsBehindVersion version) words after text fault given at cut
    (subst (λ w. GoesOn IsJournalText (line w) (IsBehindVersion version)) (sym is) (goes_on_version version)) bad placed memory e

pub bad_behind_generation : (version : Version) (generation : ℕ) (words after text : List ℕ) (fault given : JournalFault) (at : ℕ) → text ≡ words ++ 10 ∷ after
    → words ≡ generation_words generation → IsGeneration generation → ((k : ℕ) → fault ≡ BadJournal k → IsBadFrom (IsBehindTargets version []) after k)
    → ((k : ℕ) → fault ≡ BadJournal k → given ≡ BadJournal (length text - length after + k)) → (fault ≡ OutOfMemory → given ≡ OutOfMemory)
    → given ≡ BadJournal at → IsBadFrom (IsBehindVersion version) text at
bad_behind_generation version generation words after text fault given at cut is good bad placed memory e =
    bad_behind (IsBehindVersion version) (IsBehindTargets version []) words after text fault given at cut
    (subst (λ w. GoesOn (IsBehindVersion version) (line w) (IsBehindTargets version [])) (sym is) (goes_on_generation version generation good)) bad placed memory e

-- ---- the lines of targets

-- The text so far is the lines of these targets, and behind them it goes on with more of them.
pub record IsSoFar (version : Version) (targets : List Target) (text rest : List ℕ) : Type 0 where
  pub cut : text ≡ target_lines 0 targets ++ rest
  pub goes_on : GoesOn (IsBehindTargets version []) (target_lines 0 targets) (IsBehindTargets version targets)

whole_targets : (number : ℕ) (targets : List Target) → IsWholeLines (target_lines number targets)
unfolding target_lines
whole_targets number [] = inl refl
whole_targets number (target ∷ targets) =
    whole_further (line (target_words number target)) (target_lines (number + 1) targets) (inr (target_words number target, refl)) (whole_targets (number + 1) targets)

-- each line has a byte, so there are no more targets than bytes
pub few_targets : (number : ℕ) (targets : List Target) → length targets ≤ length (target_lines number targets)
unfolding target_lines
few_targets number [] = omega arith
few_targets number (target ∷ targets) =
    let more = few_targets (number + 1) targets in
    let words = target_words number target in
    let all = length-append (line words) (target_lines (number + 1) targets) in
    let one = length-append words (10 ∷ []) in
    omega arith

pub none_so_far : (version : Version) (text : List ℕ) (targets : List Target) → targets ≡ [] → IsSoFar version targets text text
unfolding target_lines
none_so_far version text [] e = record { cut = refl; goes_on = λ rest. (λ is. is, λ is. is) }
none_so_far version text (target ∷ targets) e = absurd cc

pub more_so_far : (version : Version) (targets more : List Target) (target : Target) (text rest words after : List ℕ) → length targets < 2 ^ 64
    → IsSoFar version targets text rest → IsTargetOf version target → words ≡ target_words (length targets) target → rest ≡ words ++ 10 ∷ after
    → more ≡ targets ++ target ∷ [] → IsSoFar version more text after
more_so_far version targets more target text rest words after small far is named cut e =
    subst (λ ts. IsSoFar version ts text after) (sym e) (record {
      cut = far.cut ∙ ap (λ r. target_lines 0 targets ++ r) (cut_at_line words after rest cut ∙ ap (λ w. line w ++ after) named)
          ∙ sym (append_assoc (target_lines 0 targets) (line (target_words (length targets) target)) after) ∙ ap (λ t. t ++ after) (sym (target_lines-push targets target));
      goes_on = subst (λ front. GoesOn (IsBehindTargets version []) front (IsBehindTargets version (targets ++ target ∷ []))) (sym (target_lines-push targets target))
          (goes_on_further (IsBehindTargets version []) (IsBehindTargets version targets) (IsBehindTargets version (targets ++ target ∷ []))
          (target_lines 0 targets) (line (target_words (length targets) target)) far.goes_on
          (goes_on_target version targets target small is));
    })

-- what is bad behind the targets is bad at its place
bad_rest : (version : Version) (targets : List Target) (text rest : List ℕ) (at : ℕ) → IsSoFar version targets text rest
    → IsBadFrom (IsBehindTargets version targets) rest 0 → BadJournal (length text - length rest) ≡ BadJournal at → IsBadFrom (IsBehindTargets version []) text at
bad_rest version targets text rest at far bad e =
    let place : length (target_lines 0 targets) + 0 ≡ at =
    (let l = front_length (target_lines 0 targets) rest text far.cut in let s = same_place (length text - length rest) at e in omega arith) in
    subst (IsBadFrom (IsBehindTargets version []) text) place
    (subst (λ t. IsBadFrom (IsBehindTargets version []) t (length (target_lines 0 targets) + 0)) (sym far.cut)
    (bad_further (IsBehindTargets version []) (IsBehindTargets version targets) (target_lines 0 targets) rest 0 (whole_targets 0 targets) far.goes_on bad))

pub no_more_lines : (version : Version) (targets : List Target) (text rest : List ℕ) (at : ℕ) → length targets < 2 ^ 64 → IsSoFar version targets text rest
    → (some : (text : List ℕ) × IsBehindTargets version targets text) → is_one_line rest ≡ true → BadJournal (length text - length rest) ≡ BadJournal at
    → IsBadFrom (IsBehindTargets version []) text at
no_more_lines version targets text rest at small far some one e =
    bad_rest version targets text rest at far
    (bad_without_line (IsBehindTargets version targets) (IsNextWords version targets) rest some.0 some.1
    (first_behind_targets version targets small) one) e

pub bad_target_line : (version : Version) (targets : List Target) (text rest words after : List ℕ) (at : ℕ) → length targets < 2 ^ 64 → IsSoFar version targets text rest
    → (some : (text : List ℕ) × IsBehindTargets version targets text) → is_one_line words ≡ true → rest ≡ words ++ 10 ∷ after
    → ((target : Target) → IsTargetOf version target → IsApartFrom targets target → words ≢ target_words (length targets) target)
    → (words ≡ codes "end" → targets ≡ []) → BadJournal (length text - length rest) ≡ BadJournal at
    → IsBadFrom (IsBehindTargets version []) text at
bad_target_line version targets text rest words after at small far some one cut no_target no_end e =
    bad_rest version targets text rest at far
    (bad_line (IsBehindTargets version targets) (IsNextWords version targets) rest some.0 words after some.1
    (first_behind_targets version targets small) one cut none) e
  where
    none : IsNextWords version targets words → ⊥
    none (inl is) = no_target is.0 is.1 is.2 is.3
    none (inr is) = is.1 (no_end is.0)

-- ---- the end

end_of_rest : (rest words after : List ℕ) → rest ≡ words ++ 10 ∷ after → words ≡ codes "end" → rest ≡ end_line ++ after
end_of_rest rest words after cut is = cut_at_line words after rest cut ∙ ap (λ w. line w ++ after) is

pub says_targets : (version : Version) (targets : List Target) (text rest words after : List ℕ) → IsSoFar version targets text rest → IsJobOf version targets
    → rest ≡ words ++ 10 ∷ after → words ≡ codes "end" → after ≡ [] → SaysMore version [] text targets
says_targets version targets text rest words after far job cut is none = record {
  job = job;
  printed = far.cut ∙ ap (λ r. target_lines 0 targets ++ r) (end_of_rest rest words after cut is ∙ ap (λ a. end_line ++ a) none ∙ append-nil end_line);
}

bad_nothing : (after : List ℕ) → after ≢ [] → IsBadFrom (λ rest. rest ≡ []) after 0
bad_nothing after some = record {
  front = [];
  rest = after;
  cut = refl;
  place = refl;
  whole = inl refl;
  begins = ([], refl);
  no_further = λ words behind cut begins. none words begins.0 begins.1;
  no_text = some;
}
  where
    none : (words more : List ℕ) → line words ++ more ≡ [] → ⊥
    none [] more e = cc
    none (w ∷ ws) more e = cc

pub bad_after_end : (version : Version) (targets : List Target) (text rest words after : List ℕ) (at : ℕ) → length targets < 2 ^ 64 → IsSoFar version targets text rest
    → IsJobOf version targets → rest ≡ words ++ 10 ∷ after → words ≡ codes "end" → after ≢ [] → BadJournal (length text - length after) ≡ BadJournal at
    → IsBadFrom (IsBehindTargets version []) text at
bad_after_end version targets text rest words after at small far job cut is some e =
    let front = target_lines 0 targets ++ end_line in
    let whole : text ≡ front ++ after =
    far.cut ∙ ap (λ r. target_lines 0 targets ++ r) (end_of_rest rest words after cut is) ∙ sym (append_assoc (target_lines 0 targets) end_line after) in
    let place : length front + 0 ≡ at =
    (let l = front_length front after text whole in let s = same_place (length text - length after) at e in omega arith) in
    let on = goes_on_further (IsBehindTargets version []) (IsBehindTargets version targets) (λ r. r ≡ []) (target_lines 0 targets) end_line far.goes_on
    (goes_on_end version targets small job) in
    subst (IsBadFrom (IsBehindTargets version []) text) place
    (subst (λ t. IsBadFrom (IsBehindTargets version []) t (length front + 0)) (sym whole)
    (bad_further (IsBehindTargets version []) (λ r. r ≡ []) front after 0
    (inr (target_lines 0 targets ++ codes "end", sym (append_assoc (target_lines 0 targets) (codes "end") (10 ∷ [])))) on (bad_nothing after some)))

-- ---- what follows a line

pub none_after : (after : List ℕ) (empty : Bool) → empty ≡ nat_eq (length after) 0 → empty ≡ true → after ≡ []
none_after [] empty tells is = refl
none_after (x ∷ xs) empty tells is = absurd (let none = eqb-true (length (x ∷ xs)) 0 (sym tells ∙ is) in omega arith)

pub some_after : (after : List ℕ) (empty : Bool) → empty ≡ nat_eq (length after) 0 → empty ≡ false → after ≢ []
some_after [] empty tells is e = let none = sym tells ∙ is in cc
some_after (x ∷ xs) empty tells is e = cc e

pub some_behind_read : (version : Version) (targets : List Target) (paths : BTreeSet (List (List ℕ))) → IsRead version targets paths
    → (text : List ℕ) × IsBehindTargets version targets text
some_behind_read version targets paths read = some_behind version targets read.each read.apart
