-- The parts of the files that are written, and of all that is wanted.
use Rattle.std.proofs.Common.{◌≡◌, ℕ, Bool, List, ◌++◌, Result, Ok, Err, sym, ap, subst, ◌∙◌, inl, inr}
use Rattle.std.specs.Prelude.{◌⊎◌, IsTrue, Vec}
use Rattle.std.specs.declared.alloc.Global.{Global}
use Rattle.path_name.specs.Given.{◌>>=◌}
use Rattle.package_moves.specs.Wanted.{AreWanted}
use Rattle.psr_routes.specs.declared.types.Placed.{Placed}
use Rattle.stage_job.specs.Jobs.{AreParts}
use Rattle.stage_job.specs.declared.job.Part.{Part}
use Rattle.table_print.specs.TablePrinting.{printed}
use Rattle.table_scan.specs.declared.types.Tables.{Tables}
use Rattle.run_answers.specs.Faults.{is_free}
use Rattle.run_answers.specs.Steps.{Tells, TellsOne}
use Rattle.run_answers.specs.declared.refusal.Refusal.{Refusal}
use Rattle.install_sources.specs.Sources.{AreSources}
use Rattle.install_packages.specs.InstallParts.{AreFileParts, AreFilesOf, AreWantedParts, CanBeMade, copy_parts, install_files}
use Rattle.table_files.specs.Written.{files_checked, parts_in, parts_of}
use Rattle.install_choice.specs.declared.chosen.Chosen.{Chosen}
use Rattle.table_files.specs.declared.written.WrittenFile.{WrittenFile}
use Rattle.install_choice.proofs.Steps.{both_ok, same_value}
use Rattle.install_packages.proofs.WantedParts.{install_parts, install_wanted}

module _ (at : List (List ℕ)) (tables : Tables) (chosen : Chosen) (dev : Bool) where
  pub parts_told : (files : List WrittenFile) (r : Result (Vec Part Global) Refusal) → AreFilesOf at tables chosen dev files → Tells (λ parts. parts.items) (parts_in at files) r
      → TellsOne (λ parts. parts.items) (AreFileParts at tables chosen dev) r
  parts_told files (Ok parts) are told = record { files = files; are_files = are; is_made = sym told }
  parts_told files (Err refusal) are (inl free) = inl free
  parts_told files (Err refusal) are (inr told) = inr (record { files = files; are_files = are; is_made = sym told })

  -- the copies of the packages before them
  pub wanted_told : (members : List Placed) (parts all : List Part) → AreFileParts at tables chosen dev (Ok parts) → all ≡ copy_parts members ++ parts → CanBeMade at all → AreWantedParts at members tables chosen dev (Ok all)
  wanted_told members parts all of is can_be = record {
    files = of.files;
    are_files = of.are_files;
    is_made = ap Ok is ∙ ap (λ (r : Result (List Part) Refusal). r >>= λ some. Ok (copy_parts members ++ some)) of.is_made;
    can_be = can_be;
  }

  refused : (members : List Placed) (refusal : Refusal) → AreFileParts at tables chosen dev (Err refusal) → AreWantedParts at members tables chosen dev (Err refusal)
  refused members refusal of = record {
    files = of.files;
    are_files = of.are_files;
    is_made = ap (λ (r : Result (List Part) Refusal). r >>= λ some. Ok (copy_parts members ++ some)) of.is_made;
    can_be = tt;
  }

  pub wanted_refused : (members : List Placed) (refusal : Refusal) → IsTrue (is_free refusal) ⊎ AreFileParts at tables chosen dev (Err refusal) → IsTrue (is_free refusal) ⊎ AreWantedParts at members tables chosen dev (Err refusal)
  wanted_refused members refusal (inl free) = inl free
  wanted_refused members refusal (inr of) = inr (refused members refusal of)

  -- ---- what is known of them

  checked_parts : (files : List WrittenFile) (parts : List Part) → Ok parts ≡ parts_in at files → parts ≡ parts_of files
  unfolding parts_in
  checked_parts files parts e = let passed = both_ok (files_checked at files) (λ done. Ok (parts_of files)) parts (sym e) in sym (same_value (parts_of files) parts passed.2)

  all_of : (members : List Placed) (parts all : List Part) (of : AreFileParts at tables chosen dev (Ok parts)) → all ≡ copy_parts members ++ parts
      → all ≡ copy_parts members ++ parts_of (install_files (printed at tables) of.are_files.installed chosen.text)
  all_of members parts all of is = is ∙ ap (λ some. copy_parts members ++ some) (checked_parts of.files parts of.is_made ∙ ap parts_of of.are_files.are)

  pub all_wanted : (members : List Placed) (parts all : List Part) → AreSources at members → AreFileParts at tables chosen dev (Ok parts) → all ≡ copy_parts members ++ parts → AreWanted all
  all_wanted members parts all sources of is = subst AreWanted (sym (all_of members parts all of is)) (install_wanted at members (printed at tables) of.are_files.installed chosen.text sources)

  pub all_parts : (members : List Placed) (parts all : List Part) → AreSources at members → AreFileParts at tables chosen dev (Ok parts) → all ≡ copy_parts members ++ parts → AreParts at all
  all_parts members parts all sources of is = subst (AreParts at) (sym (all_of members parts all of is)) (install_parts at members (printed at tables) of.are_files.installed chosen.text sources)
