use Rattle.std.proofs.Common.{ap, ◌∙◌, ◌++◌, map}
use Rattle.std.proofs.lemmas.Result.{IfOk-weaker}
use Rattle.json_ordered.specs.JsonTree.{String, array_of}
use Rattle.json_ordered.specs.Docs.{tree_of}
use Rattle.lock_file.specs.Locks.{locked_name}
use Rattle.lock_file.specs.InstalledText.{installed_tree}
use Rattle.lock_file.proofs.Views.{shown, is_installed_text}
use Rattle.lock_file.proofs.installed_printing.print_installed.Goals as goal

pub returns : goal.returns
returns c =
    let all_dev = c.in_ok-add_entries.ensures ∙ ap (λ some. map shown some ++ c.installed_dev.result.now) c.new-dev_entries.ensures.items ∙ c.installed_dev.ensures in
    let first = c.in_ok-add_entries-2.ensures ∙ ap (λ some. map shown some ++ c.as_slice.result.now) c.new-entries.ensures.items ∙ c.as_slice.ensures in
    let all = c.in_ok-add_entries-3.ensures ∙ ap (λ some. some ++ c.installed_dev-2.result.now) first ∙ ap (λ some. c.args.lock.now.packages ++ some) c.installed_dev-2.ensures in
    record {
      text = IfOk-weaker c.with_line_end.result _ _ (λ text is. is_installed_text c.args.lock.now c.args.dev (map shown c.add_entries-3.new.entries.items) (map shown c.add_entries.new.entries.items)
          c.sort_by_name.new.entries.items c.sort_by_name-2.new.entries.items (tree_of c.in_ok-packages.packages) (tree_of c.in_ok-names.names) (tree_of c.in_ok-doc.doc) text
          all all_dev c.in_ok-sort_by_name.ensures c.in_ok-sort_by_name-2.ensures
          (c.in_ok-packages.ensures ∙ ap (λ some. array_of (map (λ entry. installed_tree entry.now) some)) c.as_slice-2.ensures.value)
          (c.in_ok-names.ensures ∙ ap (λ some. array_of (map (λ entry. String (locked_name entry.now)) some)) c.as_slice-3.ensures.value)
          c.in_ok-doc.ensures is) c.with_line_end.ensures;
    }
