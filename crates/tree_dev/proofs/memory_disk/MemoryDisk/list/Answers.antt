use Rattle.std.proofs.Common.{◌∙◌, ap, sym}
use Rattle.tree_dev.specs.Disk.{reading}
use Rattle.tree_dev.specs.Trees.{list_at}
use Rattle.tree_dev.specs.declared.entry.ListAnswer.TheVariants as listings
use Rattle.tree_dev.proofs.Kept.{kept_tree}
use Rattle.tree_dev.proofs.ListAnswers.{absent_listed, leaf_listed, many_listed, names_listed}
use Rattle.tree_dev.proofs.memory_disk.MemoryDisk.list.Goals as goal

pub names-requires : goal.names-requires
names-requires c = kept_tree c.self.inside.files c.self.inside.log c.self.invariant

pub returns-then-not-is_there : goal.returns-then-not-is_there
returns-then-not-is_there c =
    absent_listed c.self.inside.files c.args.at.now c.args.most (sym c.is_there.ensures ∙ c.if-not-is_there.true)
    ∙ ap (λ t. list_at t c.args.at.now c.args.most) (c.self.invariant.reads ∙ ap (λ d. reading d.now) c.self.view_is)

pub returns-then-not-is_folder : goal.returns-then-not-is_folder
returns-then-not-is_folder c =
    leaf_listed c.self.inside.files c.args.at.now c.args.most (sym c.is_there.ensures ∙ c.if-not-is_there.false) (sym c.is_folder.ensures ∙ c.if-not-is_folder.true)
    ∙ ap (λ t. list_at t c.args.at.now c.args.most) (c.self.invariant.reads ∙ ap (λ d. reading d.now) c.self.view_is)

pub returns-in-None : goal.returns-in-None
returns-in-None c =
    many_listed c.self.inside.files c.args.at.now c.args.most (sym c.is_folder.ensures ∙ c.if-not-is_folder.false) (rw c.in-None.is at c.in_ok-names.ensures)
    ∙ ap (λ t. list_at t c.args.at.now c.args.most) (c.self.invariant.reads ∙ ap (λ d. reading d.now) c.self.view_is)

pub returns-in-Some : goal.returns-in-Some
returns-in-Some c =
    let named = rw c.in-Some.is at c.in_ok-names.ensures in
    ap (λ l. listings.Names l) (c.of.ensures ∙ named.0)
    ∙ names_listed c.self.inside.files c.args.at.now c.args.most (sym c.is_folder.ensures ∙ c.if-not-is_folder.false) named.1
    ∙ ap (λ t. list_at t c.args.at.now c.args.most) (c.self.invariant.reads ∙ ap (λ d. reading d.now) c.self.view_is)
