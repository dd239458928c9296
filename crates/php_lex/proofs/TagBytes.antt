-- The bytes that tags and the ends of comments begin with.
use Rattle.std.proofs.Common.{◌≡◌, ℕ, ◌==◌, Bool, true, false, ◌&&◌, ◌||◌, List, [], ◌∷◌, refl}
use Rattle.memchr.specs.Find.{is_byte, is_byte3}
use Rattle.php_lex.specs.Places.{has_first}
use Rattle.php_lex.specs.Tags.{is_tag}
use Rattle.php_lex.specs.Comments.{ends_line, closes_block}

and_left : (a b : Bool) → a && b ≡ true → a ≡ true
and_left true b h = refl
and_left false b h = absurd cc

-- one of two tests that both begin with a
either : (a b c d : Bool) → (a && b) || ((a && c) && d) ≡ true → a ≡ true
either true b c d h = refl
either false b c d h = absurd cc

-- one of the first two, or a third with more
of_three : (a b c d : Bool) → (a || b) || (c && d) ≡ true → (a || b) || c ≡ true
of_three true b c d h = refl
of_three false true c d h = refl
of_three false false true d h = refl
of_three false false false d h = absurd cc

pub tag_byte : (t : List ℕ) → is_tag t ≡ true → has_first (is_byte 60) t ≡ true
tag_byte [] h = absurd cc
tag_byte (b ∷ t) h = either (b == 60) _ _ _ h

pub line_byte : (t : List ℕ) → ends_line t ≡ true → has_first (is_byte3 10 13 63) t ≡ true
line_byte [] h = absurd cc
line_byte (b ∷ t) h = of_three (b == 10) (b == 13) (b == 63) _ h

pub block_byte : (t : List ℕ) → closes_block t ≡ true → has_first (is_byte 42) t ≡ true
block_byte [] h = absurd cc
block_byte (b ∷ t) h = and_left (b == 42) _ h
