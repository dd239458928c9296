use Rattle.std.proofs.Common.{ap, ◌∙◌}
use Rattle.autoload_build.specs.BuiltTables.{class_map_of, classes_of}
use Rattle.autoload_build.specs.Steps.{project_of, seen}
use Rattle.autoload_build.proofs.BuiltAnswers.{built, fault_builds, made, refused}
use Rattle.autoload_build.proofs.building.tables.Goals as goal

pub returns-in_err-found-clause-exact : goal.returns-in_err-found-clause-exact
returns-in_err-found-clause-exact g c =
    let p = project_of c.args.project.now c.args.root.now c.args.members.now c.args.dev in
    λ t told.
    fault_builds _ p c.args.mode c.args.generation c.scan.new.left.left c.from_residual-in_err-found.result c.in_err-found.field-0.0 c.from_residual-in_err-found.ensures.1
    (refused p c.args.mode (seen c.as_slice.result.now) (ap seen c.as_slice.ensures.value ∙ c.in_ok-sources.ensures.searched) t c.args.left.now.left c.in_err-found.field-0.0 (c.in_err-found.ensures.exact t told))

pub returns-clause-exact : goal.returns-clause-exact
returns-clause-exact g c =
    let p = project_of c.args.project.now c.args.root.now c.args.members.now c.args.dev in
    let found = c.in_ok-found.found in
    let tables = c.in_ok-with_rows.field-0 in
    let are = made p c.args.mode c.args.generation found.items (seen c.as_slice-3.result.now) c.as_slice-4.result.now c.in_ok-class_map.class_map.items c.in_ok-files.files.items tables c.in_ok-with_rows.ensures
    (c.as_slice-4.ensures.value ∙ c.in_ok-rows.ensures.exact) (c.in_ok-class_map.ensures ∙ ap (λ some. class_map_of (classes_of some)) c.as_slice-2.ensures.value) c.in_ok-files.ensures
    (ap seen c.as_slice-3.ensures.value ∙ c.in_ok-sources.ensures.loaded) in
    λ t told.
    built p c.args.mode (seen c.as_slice.result.now) (ap seen c.as_slice.ensures.value ∙ c.in_ok-sources.ensures.searched) t c.args.left.now.left c.scan.new.left.left c.args.generation found tables are (c.in_ok-found.ensures.exact t told)

pub returns-clause-formed : goal.returns-clause-formed
returns-clause-formed g c =
    let p = project_of c.args.project.now c.args.root.now c.args.members.now c.args.dev in
    let found = c.in_ok-found.found in (
      found.items,
      made p c.args.mode c.args.generation found.items (seen c.as_slice-3.result.now) c.as_slice-4.result.now c.in_ok-class_map.class_map.items c.in_ok-files.files.items
          c.in_ok-with_rows.field-0 c.in_ok-with_rows.ensures (c.as_slice-4.ensures.value ∙ c.in_ok-rows.ensures.exact)
          (c.in_ok-class_map.ensures ∙ ap (λ some. class_map_of (classes_of some)) c.as_slice-2.ensures.value) c.in_ok-files.ensures
          (ap seen c.as_slice-3.ensures.value ∙ c.in_ok-sources.ensures.loaded),
    )
