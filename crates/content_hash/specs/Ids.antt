-- The id of a text: the 32 lower-case hexadecimal digits of its MD5 (RFC 1321).
use Rattle.std.specs.Prelude.{ℕ, List}
use Rattle.md5.specs.Md5.{md5}
use Rattle.hex.specs.Hex.{encode_lower}

abbrev pub id_of : List ℕ → List ℕ
id_of text = encode_lower (md5 text)
