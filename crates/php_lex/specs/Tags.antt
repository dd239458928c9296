-- The tags between text and code, after the PHP manual's page "PHP tags".
use Rattle.std.specs.Prelude.{Bool, true, ◌&&◌, ◌||◌, ℕ, List, [], ◌∷◌, drop, codes, if◌then◌else◌}
use Rattle.path_name.specs.Bytes.{is_blank}
use Rattle.php_lex.specs.Places.{begins_with, has_lower_word_at, first_place, place_or_end}

-- a blank, or the text's end
abbrev pub at_blank_or_end : List ℕ → Bool
at_blank_or_end [] = true
at_blank_or_end (b ∷ text) = is_blank b

-- `<?` and `php` in any case, before a blank or the end
abbrev pub is_full_tag : List ℕ → Bool
is_full_tag text = begins_with (codes "<?") text && (has_lower_word_at 2 (codes "php") text && at_blank_or_end (drop 5 text))

-- `<?=`
abbrev pub is_echo_tag : List ℕ → Bool
is_echo_tag text = begins_with (codes "<?=") text

-- a tag that opens code stands here
abbrev pub is_tag : List ℕ → Bool
is_tag text = is_echo_tag text || is_full_tag text

-- what follows the tag; the blank belongs to the full one
abbrev pub after_tag : List ℕ → List ℕ
after_tag text = if is_echo_tag text then drop 3 text else drop 6 text

-- what follows the text outside code: the first place of a tag, or the end
abbrev pub after_html : List ℕ → List ℕ
after_html text = place_or_end (first_place is_tag text)
