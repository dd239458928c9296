-- The targets of a job, and what is staged for them.
use Rattle.std.proofs.Common.{◌≡◌, ◌≢◌, ℕ, zero, suc, ◌+◌, ◌<◌, ◌≤◌, ◌^◌, Bool, true, false, cond, get_or, List, [], ◌∷◌, ◌++◌, length, take, codes, Option, Some, None, is_some, refl, sym, ap, ◌∙◌, subst, inl, inr, arith, append-nil}
use Rattle.std.specs.FinMap as map
use Rattle.std.specs.List.{slice_get}
use Rattle.std.proofs.lemmas.Option.{slice_get-get_or, slice_get_read}
use Rattle.std.proofs.lemmas.Bool.{cases_lt}
use Rattle.std.proofs.lemmas.List.{map-append, take_more}
use Rattle.path_name.specs.Paths.{BeginsWith, IsPath, without_last}
use Rattle.tree_dev.specs.Trees.{FileTree, behind, entry_at, has_folder, is_folder}
use Rattle.tree_dev.specs.Changes.{is_root}
use Rattle.tree_dev.specs.Projects.{bytes_of}
use Rattle.tree_dev.specs.declared.entry.Entry.{Entry}
use Rattle.tree_dev.specs.declared.entry.Entry.TheVariants.{Folder}
use Rattle.tree_dev.proofs.Behind.{behind_head, head_behind}
use Rattle.install_world.specs.InFlight as flight
use Rattle.install_world.specs.JournalText.{IsJournal, IsTargetOf}
use Rattle.install_world.specs.Targets as targets
use Rattle.install_world.specs.declared.target.Target.{Target}
use Rattle.install_world.specs.declared.version.Version.TheVariants.{Two}
use Rattle.stage_job.specs.Jobs.{AreApart, AreParts, Files, IsTarget, IsTargetApart, is_gone, job_result, part_entry, put_or}
use Rattle.stage_job.specs.Places.{staged_path}
use Rattle.stage_job.specs.Staged.{IsStagedJob}
use Rattle.stage_job.specs.declared.job.Part.{Part}
use Rattle.stage_job.specs.declared.job.Source.{Source}
use Rattle.stage_job.specs.declared.job.Source.TheVariants as sources
use Rattle.vendor_journal.specs.JobTargets.{journal_for, puts_of, puts_or_none, target_of, targets_of}

-- the part whose target has a number
pub record HasPart (parts : List Part) (number : ℕ) (target : Target) : Type 0 where
  pub part : Part
  pub is_part : slice_get parts number ≡ Some part
  pub is_target : target ≡ target_of part

pub part_named : (parts : List Part) (number : ℕ) (target : Target) → flight.IsPart (targets_of parts) number target → HasPart parts number target
part_named [] number target e = absurd cc
part_named (p ∷ ps) zero target e = record { part = p; is_part = refl; is_target = (let same : target_of p ≡ target = cc in sym same) }
part_named (p ∷ ps) (suc k) target e =
    let more = part_named ps k target e in
    record { part = more.part; is_part = more.is_part; is_target = more.is_target }

-- ---- what is staged

no_entries : (t : FileTree) (from : Source) (below : List (List ℕ)) → is_gone from ≡ true → part_entry t from below ≡ None
unfolding part_entry
no_entries t (sources.Copy source) below gone = absurd cc
no_entries t (sources.Bytes bytes) below gone = absurd cc
no_entries t (sources.Folder inner) below gone = absurd cc
no_entries t sources.Gone below gone = refl

below_name : (project rest : List (List ℕ)) (name : List ℕ) → is_root (project ++ name ∷ rest) ≡ false
below_name [] rest name = refl
below_name (x ∷ xs) rest name = refl

entry_of : (t : FileTree) (at : List (List ℕ)) (entry : Option Entry) → is_root at ≡ false → map.get t at ≡ entry → entry_at t at ≡ entry
entry_of t [] entry under e = absurd cc
entry_of t (x ∷ xs) entry under e = e

module _ (project : List (List ℕ)) (t staged : FileTree) (parts : List Part) (is : IsStagedJob project parts t staged) where
  source_by : (gone : Bool) (number : ℕ) (part : Part) → slice_get parts number ≡ Some part → is_gone part.from ≡ gone
      → flight.IsStagedSource gone project (puts_of t parts) number staged
  source_by true number part at gone =
      ap (map.get staged) (sym (append-nil (staged_path project number))) ∙ is.staged number part at [] ∙ no_entries t part.from [] gone
  source_by false number part at gone = (
    is.there number part at gone,
    λ below. ap bytes_of (is.staged number part at below) ∙ ap (λ (o : Option Part). puts_or_none t o below) (sym at),
  )

  source_of : (number : ℕ) (target : Target) → flight.IsPart (targets_of parts) number target → flight.IsStagedSource target.gone project (puts_of t parts) number staged
  source_of number target part =
      let named = part_named parts number target part in
      subst (λ (x : Target). flight.IsStagedSource x.gone project (puts_of t parts) number staged) (sym named.is_target)
      (source_by (is_gone named.part.from) number named.part named.is_part refl)

  parent_of : (number : ℕ) (target : Target) → flight.IsPart (targets_of parts) number target → has_folder staged (without_last (flight.target_path project target)) ≡ true
  parent_of number target part =
      let named = part_named parts number target part in
      subst (λ (x : Target). has_folder staged (without_last (flight.target_path project x)) ≡ true) (sym named.is_target) (is.parents number named.part named.is_part)

  pub staged_targets : flight.IsStagedJob project (targets_of parts) (puts_of t parts) staged
  staged_targets = record {
    parts = record {
      staged = source_of;
      old_folder = ap is_folder (entry_of staged (flight.old_path project) (Some Folder) (below_name project (codes "old" ∷ []) (codes ".install")) is.old_folder);
      old_empty = λ name. is.old_empty name [];
      parents = parent_of;
    };
    no_journal = record { absent = is.no_journal };
    no_draft = is.no_draft;
  }

-- ---- what the moves make

pub placed_is : (t : FileTree) (from : Source) (gone : Bool) (below : List (List ℕ)) → is_gone from ≡ gone → cond gone None (bytes_of (part_entry t from below)) ≡ bytes_of (part_entry t from below)
placed_is t from true below e = ap bytes_of (sym (no_entries t from below e))
placed_is t from false below e = refl

module _ (project : List (List ℕ)) (t : FileTree) (old : Files) (path : List (List ℕ)) where
  moved_by : (number : ℕ) (puts : ℕ → Files) (part : Part) (parts : List Part) (found : Option (List (List ℕ))) → behind (project ++ part.target) path ≡ found
      → ((below : List (List ℕ)) → puts number below ≡ bytes_of (part_entry t part.from below))
      → flight.job_file puts (old path) (flight.part_from (number + 1) project (targets_of parts) path) ≡ job_result project t parts old path
      → flight.job_file puts (old path) (flight.placed_or (behind (project ++ part.target) path) number (is_gone part.from) (flight.part_from (number + 1) project (targets_of parts) path))
      ≡ put_or t part.from (behind (project ++ part.target) path) (job_result project t parts old path)
  moved_by number puts part parts None e here later =
      ap (λ (o : Option (List (List ℕ))). flight.job_file puts (old path) (flight.placed_or o number (is_gone part.from) (flight.part_from (number + 1) project (targets_of parts) path))) e
      ∙ later ∙ ap (λ (o : Option (List (List ℕ))). put_or t part.from o (job_result project t parts old path)) (sym e)
  moved_by number puts part parts (Some below) e here later =
      ap (λ (o : Option (List (List ℕ))). flight.job_file puts (old path) (flight.placed_or o number (is_gone part.from) (flight.part_from (number + 1) project (targets_of parts) path))) e
      ∙ ap (cond (is_gone part.from) None) (here below) ∙ placed_is t part.from (is_gone part.from) below refl
      ∙ ap (λ (o : Option (List (List ℕ))). put_or t part.from o (job_result project t parts old path)) (sym e)

  moved_from : (number : ℕ) (puts : ℕ → Files) (parts : List Part) → ((k : ℕ) (below : List (List ℕ)) → puts (k + number) below ≡ puts_or_none t (slice_get parts k) below)
      → flight.job_file puts (old path) (flight.part_from number project (targets_of parts) path) ≡ job_result project t parts old path
  unfolding job_result
  moved_from number puts [] puts_are = refl
  moved_from number puts (part ∷ parts) puts_are =
      moved_by number puts part parts (behind (project ++ part.target) path) refl (λ below. ap (λ n. puts n below) (omega arith) ∙ puts_are 0 below)
      (moved_from (number + 1) puts parts (λ k below. ap (λ n. puts n below) (omega arith) ∙ puts_are (suc k) below))

  pub moved_is_job : (parts : List Part) → flight.job_result project (targets_of parts) (puts_of t parts) old path ≡ job_result project t parts old path
  unfolding flight.job_result flight.part_at
  moved_is_job parts = moved_from 0 (puts_of t parts) parts (λ k below. ap (λ n. puts_of t parts n below) (omega arith))

-- ---- the journal

is_target_path : (path : List (List ℕ)) → IsPath path → IsTarget path → targets.IsTargetPath path
is_target_path path is (inl lock) = record { segments = is; place = inl lock }
is_target_path path is (inr within) = record { segments = is; place = inr (below (behind (codes "vendor" ∷ []) path) refl within) }
  where
    below : (found : Option (List (List ℕ))) → behind (codes "vendor" ∷ []) path ≡ found → is_some (behind (codes "vendor" ∷ []) path) ≡ true → BeginsWith path (codes "vendor" ∷ [])
    below None e some = let none = ap is_some e in absurd cc
    below (Some rest) e some = (rest, head_behind (codes "vendor" ∷ []) path rest e)

apart_is : (a b : List (List ℕ)) → AreApart a b → targets.AreApart a b
apart_is a b apart = record { not_below = λ begins. never b a begins apart.1; not_above = λ begins. never a b begins apart.0 }
  where
    never : (head path : List (List ℕ)) → BeginsWith path head → behind head path ≡ None → ⊥
    never head path begins none =
        let found : behind head path ≡ Some begins.0 = ap (behind head) begins.1 ∙ behind_head head begins.0 in
        absurd cc

apart_from : (target : List (List ℕ)) (parts : List Part) (j : ℕ) (part : Part) → IsTargetApart target parts → slice_get parts j ≡ Some part → AreApart target part.target
apart_from target [] j part all is = absurd cc
apart_from target (other ∷ parts) zero part all is = (let same : other ≡ part = cc in rw (sym same) all.0)
apart_from target (other ∷ parts) (suc j) part all is = apart_from target parts j part all.1 is

part_apart : (project : List (List ℕ)) (parts : List Part) (i j : ℕ) (x y : Part) → AreParts project parts → slice_get parts i ≡ Some x → slice_get parts j ≡ Some y → i < j
    → AreApart x.target y.target
part_apart project [] i j x y are first second less = absurd cc
part_apart project (p ∷ ps) zero zero x y are first second less = absurd (omega (arith, less))
part_apart project (p ∷ ps) zero (suc j) x y are first second less =
    let same : p ≡ x = cc in
    rw (sym same) (apart_from p.target ps j y are.2 second)
part_apart project (p ∷ ps) (suc i) zero x y are first second less = absurd (omega (arith, less))
part_apart project (p ∷ ps) (suc i) (suc j) x y are first second less = part_apart project ps i j x y are.3 first second (omega (arith, less))

part_target : (project : List (List ℕ)) (parts : List Part) (i : ℕ) (x : Part) → AreParts project parts → slice_get parts i ≡ Some x → IsTarget x.target
part_target project [] i x are is = absurd cc
part_target project (p ∷ ps) zero x are is = (let same : p ≡ x = cc in rw (sym same) are.0)
part_target project (p ∷ ps) (suc i) x are is = part_target project ps i x are.3 is

some_targets : (parts : List Part) → parts ≢ [] → targets_of parts ≢ []
some_targets [] some e = some refl
some_targets (p ∷ ps) some e = absurd cc

pub journal_is : (project : List (List ℕ)) (parts : List Part) (generation : ℕ) → AreParts project parts → parts ≢ [] → 1 ≤ generation → generation < 2 ^ 64
    → ((number : ℕ) (part : Part) → slice_get parts number ≡ Some part → IsPath part.target) → IsJournal Two (journal_for parts generation)
journal_is project parts generation are some positive small paths = record {
  generation = record { positive = positive; small = small };
  job = record {
    some = some_targets parts some;
    each = λ k d inside.
        let named = named_at k d inside in
        subst (IsTargetOf Two) (sym named.is_target)
        (record { place = is_target_path named.part.target (paths k named.part named.is_part) (part_target project parts k named.part are named.is_part); mark = tt });
    apart = λ i j d less inside.
        let first = named_at i d (omega (arith, less, inside)) in
        let second = named_at j d inside in
        subst (λ (x : Target). targets.AreTargetsApart x (get_or (targets_of parts) j d)) (sym first.is_target)
        (subst (targets.AreTargetsApart (target_of first.part)) (sym second.is_target)
        (apart_is first.part.target second.part.target (part_apart project parts i j first.part second.part are first.is_part second.is_part less)));
  };
}
  where
    named_at : (k : ℕ) (d : Target) → k < length (targets_of parts) → HasPart parts k (get_or (targets_of parts) k d)
    named_at k d inside = part_named parts k (get_or (targets_of parts) k d) (slice_get-get_or (targets_of parts) k d inside)

-- the targets of one part more
pub one_target_more : (parts : List Part) (i : ℕ) (part : Part) (before after : List Target) → i < length parts → part ≡ get_or parts i part
    → before ≡ targets_of (take i parts) → after ≡ before ++ target_of part ∷ [] → after ≡ targets_of (take (i + 1) parts)
one_target_more parts i part before after lt is was more =
    more ∙ ap (λ (front : List Target). front ++ target_of part ∷ []) was
    ∙ sym (ap targets_of (take_more parts i part lt ∙ ap (λ (p : Part). take i parts ++ p ∷ []) (sym is)) ∙ map-append target_of (take i parts) (part ∷ []))

pub one_path_more : (parts : List Part) (i : ℕ) (part : Part) → i < length parts → part ≡ get_or parts i part → IsPath part.target
    → ((number : ℕ) (earlier : Part) → number < i → slice_get parts number ≡ Some earlier → IsPath earlier.target)
    → (number : ℕ) (other : Part) → number < i + 1 → slice_get parts number ≡ Some other → IsPath other.target
one_path_more parts i part lt is path earlier number other less there = elim (cases_lt number i) [
  | inl before ↦ earlier number other before there
  | inr from ↦ (
      let last : number ≡ i = omega (arith, less, from) in
      let here : slice_get parts i ≡ Some part = slice_get_read parts (length parts) i part refl lt is in
      let again : slice_get parts i ≡ Some other = ap (slice_get parts) (sym last) ∙ there in
      let same : part ≡ other = cc in
      subst (λ (p : Part). IsPath p.target) same path)
]
