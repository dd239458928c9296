use Rattle.std.proofs.Common.{map, ap, ◌∙◌, rules}
use Rattle.std.specs.Cmp.{IsStrictWeakOrder}
use Rattle.std.specs.Ordering.{is_lt}
use Rattle.std.proofs.lemmas.Fn.{always_returns_same, dedup_same}
use Rattle.std.proofs.lemmas.List.Sorted.{ranks_by}
use Rattle.path_name.specs.Orders.{byte_cmp, byte_cmp_total, bytes_are_equal}
use Rattle.autoload_build.specs.declared.class_map.Declared.{Declared}
use Rattle.autoload_build.specs.BuiltTables.{first_files}
use Rattle.autoload_build.specs.Steps.{class_of}
use Rattle.autoload_build.proofs.FirstEntries.{first_entries}
use Rattle.autoload_build.proofs.class_map.keep_first.Goals as goal

pub returns : goal.returns
unfolding first_files
returns c =
    let by_class = λ (one other : Declared). is_lt (byte_cmp one.class.now other.class.now) in
    let order : IsStrictWeakOrder by_class = ranks_by byte_cmp_total (λ (one : Declared). one.class.now) in
    ap (map class_of) (dedup_same _ (λ (one other : Declared). bytes_are_equal one.class.now other.class.now) _ (λ x y b f' x' y' k. search rules) _ _ c.dedup_by.ensures.filtered)
    ∙ first_entries (λ (one : Declared). one.class.now) (λ (one : Declared). one.file.now) c.args.classes.now.items c.sort_by.new.self.items
    (c.in_ok-sort_by.ensures.sorted by_class order (always_returns_same _ _ _ (λ a r f' k. search rules)))
    (c.in_ok-sort_by.ensures.stable by_class order (always_returns_same _ _ _ (λ a r f' k. search rules)))
