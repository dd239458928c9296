use Rattle.std.proofs.Common.{◌≡◌, drop, map}
use Rattle.version_norm.specs.Pieces.{first_word}
use Rattle.version_norm.proofs.pieces.first_word_of.Given as goal

abbrev pub invariant-loop-spelling : goal.invariant-loop-spelling
invariant-loop-spelling l = first_word (map (λ word. (word.0.now, word.1)) (drop l.spelling-index l.words)) l.text ≡ first_word (map (λ word. (word.0.now, word.1)) l.words) l.text
