use Rattle.version_norm.proofs.pieces.first_word_of.Goals as goal

pub after_letters-requires : goal.after_letters-requires
after_letters-requires c = rw c.as_bytes.ensures.value (c.requires c.loop-spelling.spelling-index _ c.loop-spelling-test.true)
