use Rattle.std.proofs.Common.{rules}
use Rattle.std.specs.Prelude.{◌==◌}
use Rattle.std.proofs.lemmas.Iterator.Search.{all_from_yields_List}
use Rattle.std.proofs.lemmas.Iterator.Splits.{YieldsList-from_slice_split}
use Rattle.class_paths.specs.ClassNames.{is_name_part}
use Rattle.class_paths.proofs.class_names.is_class_name.Goals as goal

pub returns : goal.returns
returns c = all_from_yields_List is_name_part _ _ c.all.result c.all.ensures.ran (YieldsList-from_slice_split _ (λ byte. byte == 92) c.args.text.now c.split.ensures.rest c.split.ensures.done c.split.ensures.closure (λ x b q k. search rules)) (λ x b q k. search rules)
