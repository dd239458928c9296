use Rattle.std.proofs.Common.{◌++◌, ap, ◌∙◌}
use Rattle.psr_routes.specs.Routes.{root_sources}
use Rattle.autoload_build.specs.Steps.{seen}
use Rattle.autoload_build.proofs.PackageRules.{loaded_are, searched_are}
use Rattle.autoload_build.proofs.sources.Sources.of.Goals as goal

pub returns-clause-searched : goal.returns-clause-searched
returns-clause-searched c =
    let own = root_sources c.args.project.now c.args.root.now c.args.dev in
    searched_are c.args.project.now c.args.root.now c.args.members.now c.args.dev c.in_ok-packages.packages.items c.put_root-2.new.sources.items c.append.new.self.items c.in_ok-packages.ensures
    (c.in_ok-put_root-2.ensures ∙ ap (λ before. seen before ++ own) c.new-searched.ensures.items)
    (c.in_ok-append.ensures.items ∙ ap (λ packages. c.put_root-2.new.sources.items ++ packages) c.reverse.ensures.items)

pub returns-clause-loaded : goal.returns-clause-loaded
returns-clause-loaded c =
    let own = root_sources c.args.project.now c.args.root.now c.args.dev in
    loaded_are c.args.project.now c.args.root.now c.args.members.now c.args.dev c.in_ok-packages.packages.items c.put_root.new.sources.items c.in_ok-packages.ensures
    (c.in_ok-put_root.ensures ∙ ap (λ before. seen before ++ own) (c.in_ok-loaded.ensures.items ∙ c.as_slice.ensures.value))
