-- The file name of a key.
use Rattle.std.specs.Prelude.{ℕ, List}
use Rattle.md5.specs.Md5.{md5}
use Rattle.hex.specs.Hex.{encode_lower}

-- ours: the lower hexadecimal of the key's MD5 digest (RFC 1321)
unfoldable pub name_of : List ℕ → List ℕ
name_of key = encode_lower (md5 key)
