-- How many files the work of tables writes.
use Rattle.std.proofs.Common.{◌≡◌, ℕ, suc, ◌+◌, Bool, List, [], ◌∷◌, ◌++◌, Option, Some, None, Result, Ok, length, refl, sym, subst, ◌∙◌, arith}
use Rattle.std.specs.Prelude.{◌≤◌}
use Rattle.std.proofs.lemmas.List.Sums.{sum_by-cons}
use Rattle.tree_dev.specs.Trees.{FileTree}
use Rattle.tree_dev.specs.Device.{Meaning, OfTold, OnlyRead}
use Rattle.install_world.proofs.PartDone.{told_still}
use Rattle.stage_job.specs.Staged.{KeepsTelling}
use Rattle.stage_job.specs.Written.{after_more, job_files, part_files}
use Rattle.stage_job.specs.declared.job.Part.{Part}
use Rattle.stage_job.specs.declared.job.Source.TheVariants.{Bytes}
use Rattle.table_scan.specs.declared.types.TableTexts.{TableTexts}
use Rattle.run_answers.specs.declared.refusal.Refusal.{Refusal}
use Rattle.table_files.specs.Written.{parts_of, target_of, text_part, written_files}
use Rattle.table_files.specs.declared.written.WrittenFile.{WrittenFile}
use Rattle.install_commands.specs.Working.{files_written, writes_of}
use Rattle.install_commands.specs.declared.work.Work.{Work}

module _ (t : FileTree) where
  files_in : Part → ℕ
  files_in part = part_files t part.from

  no_parts : job_files t [] ≡ 0
  unfolding job_files
  no_parts = refl

  one_more : (part : Part) (parts : List Part) → job_files t (part ∷ parts) ≡ part_files t part.from + job_files t parts
  unfolding job_files
  one_more part parts = sum_by-cons (λ one. part_files t one.from) part parts

  -- a part with a text is one file
  text_files : (target : List (List ℕ)) (text : Option (List ℕ)) (rest : List Part) (n : ℕ) → job_files t rest ≤ n → job_files t (text_part target text ++ rest) ≤ suc n
  text_files target None rest n few = omega (arith, few)
  text_files target (Some text) rest n few = omega (arith, one_more (record { target = target; from = Bytes text }) rest, few)

  -- as many files as are written, or fewer
  files_of : (written : List WrittenFile) → job_files t (parts_of written) ≤ length written
  files_of [] = omega (arith, no_parts)
  files_of (file ∷ written) = text_files (target_of file) file.text (parts_of written) (length written) (files_of written)

  is_seven : (texts : TableTexts) (installed : Option (List ℕ)) → length (written_files texts installed) ≡ 7
  unfolding written_files
  is_seven texts installed = refl

  seven : (texts : TableTexts) (installed : Option (List ℕ)) → job_files t (parts_of (written_files texts installed)) ≤ 7
  seven texts installed = subst (λ (n : ℕ). job_files t (parts_of (written_files texts installed)) ≤ n) (is_seven texts installed) (files_of (written_files texts installed))

  with_journal : (parts : List Part) → job_files t parts ≤ 7 → files_written t parts ≤ 8
  with_journal [] few = omega (arith)
  with_journal (part ∷ parts) few = omega (arith, few)

  pub few_writes : (texts : TableTexts) (installed : Option (List ℕ)) (work : Work) → work.job.parts ≡ parts_of (written_files texts installed) → writes_of t (Ok work) ≤ 8
  few_writes texts installed work same =
      with_journal work.job.parts (subst (λ (parts : List Part). job_files t parts ≤ 7) (sym same) (seven texts installed))

-- ---- behind a claim and a work that only reads

at_most : (before now files : ℕ) → now ≤ after_more before files → files ≤ 8 → now ≤ after_more before 8
at_most before now files is few = omega (arith, is, few)

pub few_after : (a b d e : Meaning) (t : FileTree) (made : Result Work Refusal) → a.told ≡ Some t → KeepsTelling a b → b.writes ≡ a.writes → (failed : Bool) → OnlyRead b d failed
    → ((u : FileTree) → writes_of u made ≤ 8) → OfTold d (λ u. e.writes ≤ after_more d.writes (writes_of u made)) → e.writes ≤ after_more a.writes 8
few_after a b d e t made told tells wrote failed read few writes =
    let still = told_still a b t tells told in
    at_most a.writes e.writes (writes_of still.0 made)
    (subst (λ (written : ℕ). e.writes ≤ after_more written (writes_of still.0 made)) (read.writes ∙ wrote) (writes still.0 (read.told ∙ still.1)))
    (few still.0)
