-- Walks, patterns and files of a project, from its rules one after another.
use Rattle.std.proofs.Common.{◌≡◌, List, [], ◌∷◌, ◌++◌, map, refl, sym, ap, ◌∙◌}
use Rattle.std.specs.List.{flat_map}
use Rattle.std.proofs.lemmas.List.{map-append}
use Rattle.psr_routes.specs.Routes.{Source, sources_of, loading_sources_of, classmap_of, exclusions_of, files_of}
use Rattle.class_walk.specs.Patterns.{pattern_of}
use Rattle.class_walk.specs.declared.job.WalkRule.TheVariants as rules
use Rattle.table_scan.specs.declared.types.Mode.{Mode}
use Rattle.table_scan.specs.declared.types.Mode.TheVariants as modes
use Rattle.autoload_build.specs.Jobs.{Project, job_of, jobs_of, jobs_of_rows, by_prefix, listed_jobs, row_jobs, patterns_of}
use Rattle.autoload_build.specs.BuiltTables.{file_row, file_table, first_of_each}
use Rattle.autoload_build.specs.Steps.{excluded_by, files_by, has_same_id, jobs_by_mode, listed_by}

mapped_pairs : {A Y Z : Type 0} (f : A × Y → Z) (a : A) (ys : List Y) → map f (map (λ y. (a, y)) ys) ≡ map (λ y. f (a, y)) ys
mapped_pairs f a [] = refl
mapped_pairs f a (y ∷ ys) = ap (λ list. f (a, y) ∷ list) (mapped_pairs f a ys)

-- what is made of each pair of a part of rules and one of its items
pairs_of_each : {S A Y Z : Type 0} (f : A × Y → Z) (part : S → A) (items : S → List Y) (all : List S) → map f (flat_map (λ s. map (λ y. (part s, y)) (items s)) all) ≡ flat_map (λ s. map (λ y. f (part s, y)) (items s)) all
pairs_of_each f part items [] = refl
pairs_of_each f part items (s ∷ all) =
    map-append f (map (λ y. (part s, y)) (items s)) (flat_map (λ s. map (λ y. (part s, y)) (items s)) all)
    ∙ ap (λ list. list ++ map f (flat_map (λ s. map (λ y. (part s, y)) (items s)) all)) (mapped_pairs f (part s) (items s))
    ∙ ap (λ list. map (λ y. f (part s, y)) (items s) ++ list) (pairs_of_each f part items all)

module _ (p : Project) (sources : List Source) (is : sources ≡ sources_of p.at p.root p.members p.dev) where
  listed : flat_map listed_by sources ≡ listed_jobs p
  unfolding listed_jobs classmap_of
  listed = ap (flat_map listed_by) is ∙ sym (pairs_of_each (λ one. job_of rules.Listed one.0 one.1) (λ source. source) (λ (source : Source). source.rules.classmap) (sources_of p.at p.root p.members p.dev))

  by_rows : by_prefix (jobs_of_rows sources) ≡ row_jobs p
  unfolding row_jobs
  by_rows = ap (λ all. by_prefix (jobs_of_rows all)) is

  pub jobs_are : (mode : Mode) → jobs_by_mode mode sources ≡ jobs_of mode p
  jobs_are modes.Plain = listed
  jobs_are modes.Optimised = ap (λ first. first ++ by_prefix (jobs_of_rows sources)) listed ∙ ap (λ last. listed_jobs p ++ last) by_rows
  jobs_are modes.Authoritative = ap (λ first. first ++ by_prefix (jobs_of_rows sources)) listed ∙ ap (λ last. listed_jobs p ++ last) by_rows

  pub patterns_are : flat_map excluded_by sources ≡ patterns_of p
  unfolding patterns_of exclusions_of
  patterns_are = ap (flat_map excluded_by) is ∙ sym (pairs_of_each (λ one. pattern_of one.0 one.1) (λ (source : Source). source.folder) (λ (source : Source). source.rules.exclude) (sources_of p.at p.root p.members p.dev))

pub files_are : (p : Project) (sources : List Source) → sources ≡ loading_sources_of p.at p.root p.members p.dev → first_of_each has_same_id (files_by p.root sources) ≡ file_table p
unfolding file_table files_of
files_are p sources is = ap (λ list. first_of_each has_same_id list)
    (ap (files_by p.root) is ∙ sym (pairs_of_each (file_row p.root) (λ source. source) (λ (source : Source). source.rules.files) (loading_sources_of p.at p.root p.members p.dev)))
