use Rattle.std.proofs.Common.{◌≡◌, ◌++◌, length}
use Rattle.std.specs.List.{flat_map}
use Rattle.std.specs.Str.{IsUtf8, chars}
use Rattle.json_ordered.specs.JsonTexts.{compact_char}
use Rattle.json_ordered.proofs.hash_form.add_chars.Given as goal

abbrev pub invariant-loop-left : goal.invariant-loop-left
invariant-loop-left l = record {
  utf8 : IsUtf8 l.rest;
  text : l.out.items ++ flat_map compact_char (chars l.rest) ≡ l.fn.out.items ++ flat_map compact_char (chars l.fn.text);
}

abbrev pub decreases-loop-left : goal.decreases-loop-left
decreases-loop-left l = length l.rest
